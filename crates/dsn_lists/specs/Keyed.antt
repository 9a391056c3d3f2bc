-- Lists that stand one after another, of which those with one keyword are read and all others are read over.
-- Cited by: the meaning of rules of which clearances alone are read, and of circuits.
use Rattle.std.specs.Prelude.{◌≡◌, ℕ, true, List, [], Ok, if◌then◌else◌}
use Rattle.sexp_text.specs.Forest.{Forest}
use Rattle.dsn_lists.specs.declared.faults.DesignFault.{DesignFault}
use Rattle.dsn_lists.specs.Results.{Read}
use Rattle.dsn_lists.specs.Words.{same, head_of}
use Rattle.dsn_lists.specs.Lists.{When}

-- a list with this keyword is read behind what those before it gave
abbrev pub keyed : {A : Type 0} → List ℕ → (A → ℕ → Forest → Read A) → A → ℕ → Forest → Read A
keyed name read x at inside = if same (head_of inside).text name then read x at (head_of inside).args else Ok x

-- this holds of what stands behind the keyword, where the list has this one
abbrev pub HoldsWith : List ℕ → (Forest → Type 0) → ℕ → Forest → Type 0
HoldsWith name Holds at inside = When (same (head_of inside).text name) (Holds (head_of inside).args)

-- the list has this keyword, and what stands behind it has this fault
abbrev pub FaultWith : List ℕ → (ℕ → Forest → DesignFault → Type 0) → Forest → ℕ → Forest → DesignFault → Type 0
FaultWith name HasFault before at inside e = (same (head_of inside).text name ≡ true) × HasFault at (head_of inside).args e

-- what stands behind the keyword gives, where the list has this one
abbrev pub given_with : {A : Type 0} → List ℕ → (Forest → List A) → ℕ → Forest → List A
given_with name give at inside = if same (head_of inside).text name then give (head_of inside).args else []
