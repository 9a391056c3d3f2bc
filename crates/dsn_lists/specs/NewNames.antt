-- Names that stand first in lists, and that no list before has, up to a limit.
use Rattle.std.specs.Prelude.{◌≡◌, ℕ, ◌≤◌, ◌<◌, ◌⊎◌, nat_lt, true, false, List, [], ◌∷◌, length, Ok, if◌then◌else◌}
use Rattle.sexp_text.specs.Forest.{Forest, End, Word, Branch}
use Rattle.dsn_lists.specs.declared.faults.DesignFault.{DesignFault}
use Rattle.dsn_lists.specs.declared.faults.DesignKind.TheVariants as kind
use Rattle.dsn_lists.specs.declared.marks.Mark.{Mark}
use Rattle.dsn_lists.specs.Results.{Read, wrong}
use Rattle.dsn_lists.specs.Names.{is_among}
use Rattle.dsn_lists.specs.Lists.{told}

-- the name isn't one of these, and there is room for one more
abbrev pub IsNewName : ℕ → List (List ℕ) → List ℕ → Type 0
IsNewName most names text = (is_among text names ≡ false) × (length names < most)

-- the fault of a name at this byte that isn't new: it is one of these; or else there are as many as there can be
abbrev pub OldNameFault : ℕ → List (List ℕ) → List ℕ → ℕ → DesignFault → Type 0
OldNameFault most names text at e =
    ((is_among text names ≡ true) × (e ≡ told kind.Twice at)) ⊎ ((is_among text names ≡ false) × (most ≤ length names) × (e ≡ told kind.Large at))

-- the name that stands first
abbrev pub first_name : Forest → List (List ℕ)
first_name End = []
first_name (Word at text rest) = text ∷ []
first_name (Branch at inside rest) = []

-- ---- the same, read from left to right

-- a word whose text is none of these names
unfoldable pub fresh_name : List (List ℕ) → Mark → Read (Unit {0})
fresh_name names w = if is_among w.name names then wrong kind.Twice w.at else Ok tt

-- a word whose text is none of these names, of which there are fewer than so many
unfoldable pub new_name : ℕ → List (List ℕ) → Mark → Read (Unit {0})
new_name most names w = if is_among w.name names then wrong kind.Twice w.at else if nat_lt (length names) most then Ok tt else wrong kind.Large w.at
