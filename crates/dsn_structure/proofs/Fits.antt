-- What was read is within the limits.
use Rattle.std.proofs.Common.{◌*◌, ◌≤◌, length, Ok, Err}
use Rattle.std.specs.Prelude.{IfOk, Result}
use Rattle.sexp_text.specs.Forest.{Forest}
use Rattle.sexp_text.specs.Nodes.{size}
use Rattle.dsn_lists.specs.declared.faults.ReadWhy.{ReadWhy}
use Rattle.dsn_lists.specs.Results.{Gives}
use Rattle.dsn_structure.specs.declared.structure.Structure.{Structure}
use Rattle.dsn_structure.specs.Structures.{structure_of}
use Rattle.dsn_structure.specs.Limits.{IsFitStructure}
use Rattle.dsn_structure.proofs.Sound.{structure_of_fit, structure_of_few}

pub fit_if_given : (f : Forest) (r : Result Structure ReadWhy) → Gives (λ (x : Structure). x) r (structure_of f) → IfOk r IsFitStructure
fit_if_given f (Ok x) e = structure_of_fit f x e
fit_if_given f (Err why) e = tt

pub few_if_given : (f : Forest) (r : Result Structure ReadWhy) → Gives (λ (x : Structure). x) r (structure_of f) → IfOk r (λ (x : Structure). length x.outline ≤ 32 * size f)
few_if_given f (Ok x) e = structure_of_few f x e
few_if_given f (Err why) e = tt
