-- How the live items that are too near to an item are put into a list. No public contract cites this module.
use Rattle.std.specs.Prelude.{ℕ, ◌≡◌, ◌⊎◌, List, [], ◌∷◌, ◌++◌}

-- the number is put at the end where S holds of it, and else all is as before
abbrev pub PutsWhere : Type 0 → ℕ → List ℕ → List ℕ → Type 0
PutsWhere S n old new = (S × (new ≡ old ++ n ∷ [])) ⊎ ((S → ⊥) × (new ≡ old))
