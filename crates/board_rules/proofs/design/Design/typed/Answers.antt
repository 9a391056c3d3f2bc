use Rattle.std.proofs.Common.{List, ◌∙◌, ap}
use Rattle.std.specs.Prelude.{ℕ, slice_get, Option}
use Rattle.board_rules.specs.Tables.{cell_in}
use Rattle.board_rules.proofs.Cells.{cell_of}
use Rattle.board_rules.proofs.design.Design.typed.Goals as goal

pub returns : goal.returns
returns c =
    c.cell_at.ensures ∙
    (ap (λ (ts : List (List (Option ℕ))). cell_in (slice_get ts c.args.class) c.args.k c.args.l) c.args.self.now.tabled ∙ cell_of c.args.self.now.parts.classes c.args.class c.args.k c.args.l)
