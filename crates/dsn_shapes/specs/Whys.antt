-- What a call adds, and why it fails, in own words.
use Rattle.std.specs.Prelude.{◌≡◌, List, ◌++◌}
use Rattle.dsn_lists.specs.declared.faults.DesignFault.{DesignFault}
use Rattle.dsn_lists.specs.declared.faults.ReadWhy.{ReadWhy}
use Rattle.dsn_lists.specs.declared.faults.ReadWhy.TheVariants.{Fault, Memory}

-- such things are put behind those that are there
abbrev pub Adds : {A : Type 0} → (List A → Type 0) → List A → List A → Type 0
Adds {A} Are old new = (more : List A) × Are more × (new ≡ old ++ more)

-- there is this fault, or memory ran out
abbrev pub IsWhy : (DesignFault → Type 0) → ReadWhy → Type 0
IsWhy HasFault Memory = Unit {0}
IsWhy HasFault (Fault e) = HasFault e
