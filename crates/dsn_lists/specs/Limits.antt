-- What is read within the limits.
use Rattle.std.specs.Prelude.{◌≤◌, List}
use Rattle.std.specs.List.{AllByRecursion}
use Rattle.row_lists.specs.Limits.{width_limit_nm}
use Rattle.board_rules.specs.Designs.{IsFitSize}
use Rattle.board_rules.specs.declared.design.Stated.{Stated}
use Rattle.dsn_lists.specs.declared.rules.Rule.{Rule}

-- the clearances in nm are within the limits
abbrev pub AreFitStated : List Stated → Type 0
AreFitStated ss = AllByRecursion (λ (s : Stated). s.value ≤ width_limit_nm) ss

-- the width and the clearances that rules state are within the limits
pub record IsFitRule (r : Rule) : Type 0 where
  pub width : IsFitSize r.width
  pub stated : AreFitStated r.stated
