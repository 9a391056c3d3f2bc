-- A list and the room that was made in it.
-- Cited by the calls of `Shelf`
use Rattle.std.specs.Prelude.{ℕ, ◌≡◌, List}

-- the elements, and how many more can be put without taking memory
pub record Shelved (T : Type 0) : Type 0 where
  pub items : List T
  pub room : ℕ

-- the elements are as before; nothing is said of the room
abbrev pub IsSameBut : {T : Type 0} → Shelved T → Shelved T → Type 0
IsSameBut old new = new.items ≡ old.items
