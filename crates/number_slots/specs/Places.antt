-- How things stand behind their numbers: a number's place is 0 where nothing stands under it, and else one more
-- than the key of the thing. No contract cites this module.
use Rattle.std.specs.Prelude.{ℕ, ◌≡◌, ◌≤◌, ◌+◌, ◌*◌, ◌<◌, ◌^◌, zero, suc, Bool, not, ◌==◌, false, Option, Some, None, IsSome, List, [], ◌∷◌, length, map, get_or}
use Rattle.std.specs.List.{AllByRecursion}
use Rattle.slab.specs.Slab.{Slab, get, slab_len, Updates}
use Rattle.number_slots.specs.Slots.{there, at_numbers}

-- what stands at a place
abbrev pub slot_of : {T : Type 0} → Slab T → ℕ → Option T
slot_of s zero = None
slot_of s (suc key) = get s key

-- what stands at places
abbrev pub slots_of : {T : Type 0} → Slab T → List ℕ → List (Option T)
slots_of s places = map (slot_of s) places

-- something stands at each place but 0
abbrev pub IsHeld : {T : Type 0} → Slab T → ℕ → Type 0
IsHeld s zero = Unit {0}
IsHeld s (suc key) = IsSome (get s key)

-- no two numbers have one place but 0
abbrev pub AreApart : List ℕ → Type 0
AreApart [] = Unit {0}
AreApart (p ∷ rest) = AllByRecursion (λ q. q ≡ p → p ≡ 0) rest × AreApart rest

-- what is always true of places and things
pub record IsKept {T : Type 0} (places : List ℕ) (s : Slab T) : Type 0 where
  pub held : AllByRecursion (IsHeld s) places
  pub apart : AreApart places
  pub count : slab_len s ≡ length (there 1 (slots_of s places))
  pub few : length places + 1 < 2 ^ 32

-- what is put gets this place
abbrev pub IsPut : {T : Type 0} → Slab T → Slab T → Option T → ℕ → Type 0
IsPut old new None place = (place ≡ 0) × (new ≡ old)
IsPut old new (Some x) place = (key : ℕ) × (place ≡ suc key) × (get old key ≡ None) × Updates old new key (Some x) × (slab_len new ≡ slab_len old + 1)

-- something stands under the number
abbrev pub is_taken : List ℕ → ℕ → Bool
is_taken places zero = false
is_taken places (suc i) = not (get_or places i 0 == 0)

-- the numbers of what is there, in their order
abbrev pub numbers_of : {T : Type 0} → List (ℕ × T) → List ℕ
numbers_of xs = map (λ x. x.0) xs

-- what is always true of the numbers that a walk goes by: all that is there stands at them, in its order, each was given,
-- and at most half of them are empty
pub record IsWalk {T : Type 0} (numbers places : List ℕ) (s : Slab T) : Type 0 where
  pub all : at_numbers numbers (there 1 (slots_of s places)) ≡ there 1 (slots_of s places)
  pub given : AllByRecursion (λ n. n < length places + 1) numbers
  pub few : length numbers ≤ 2 * slab_len s + 1
