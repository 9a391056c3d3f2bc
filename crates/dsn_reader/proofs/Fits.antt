-- What was read makes a design.
use Rattle.std.proofs.Common.{ℕ, ◌≤◌, List, length, Ok, Err, le_trans}
use Rattle.std.specs.Prelude.{IfOk, Result}
use Rattle.sexp_text.specs.Forest.{Forest}
use Rattle.sexp_text.specs.Nodes.{size}
use Rattle.sexp_text.specs.Tree.{IsTree}
use Rattle.board_rules.specs.declared.design.Parts.{Parts}
use Rattle.board_rules.specs.Designs.{IsSound}
use Rattle.dsn_lists.specs.declared.faults.ReadWhy.{ReadWhy}
use Rattle.dsn_lists.specs.Results.{Gives}
use Rattle.dsn_reader.specs.Assembly.{parts_of}
use Rattle.dsn_reader.proofs.SoundParts.{parts_sound}
use Rattle.dsn_reader.proofs.TextSizes.{tree_size}

pub sound_if_given : (f : Forest) (r : Result Parts ReadWhy) → size f ≤ 67108864 → Gives (λ (x : Parts). x) r (parts_of f) → IfOk r IsSound
sound_if_given f (Ok x) small e = parts_sound f x small e
sound_if_given f (Err why) small e = tt

pub small_tree : (text : List ℕ) (f : Forest) → length text ≤ 67108864 → IsTree text f → size f ≤ 67108864
small_tree text f short tree = le_trans (tree_size text f tree) short
