-- The list at the front of lists.
use Rattle.std.specs.Prelude.{◌≡◌, ℕ, ◌<◌, List, length, Option, Some, None, Result, Ok, Err}
use Rattle.sexp_text.specs.Forest.{Forest, End, Word, Branch}
use Rattle.sexp_text.specs.Shows.{forest}
use Rattle.sexp_text.specs.declared.cursor.Cursor.{Cursor}
use Rattle.dsn_lists.specs.declared.faults.DesignFault.{DesignFault}
use Rattle.dsn_lists.specs.declared.faults.DesignKind.TheVariants.{Form}
use Rattle.dsn_lists.specs.Lists.{told}

-- the forest begins with this list, or is empty; a word at its front is a fault
abbrev pub IsNextList : Forest → Result (Option (ℕ × Cursor × Cursor)) DesignFault → Type 0
IsNextList f (Ok None) = f ≡ End
IsNextList f (Ok (Some x)) = f ≡ Branch x.0 (forest x.1) (forest x.2)
IsNextList f (Err e) = (at : ℕ) × (text : List ℕ) × (rest : Forest) × (f ≡ Word at text rest) × (e ≡ told Form at)

-- what follows the list has fewer entries
abbrev pub IsShorter : ℕ → Result (Option (ℕ × Cursor × Cursor)) DesignFault → Type 0
IsShorter n (Ok None) = Unit {0}
IsShorter n (Ok (Some x)) = length x.2.entries.now < n
IsShorter n (Err e) = Unit {0}
