-- What `close` says of the value: which calls its list has, by the seats that were joined.
use Rattle.std.specs.Prelude.{◌≡◌, ℕ, List, length, ◌∷◌, map, nat_eq, Contains}
use Rattle.std.specs.List.{AllByRecursion, IsDistinct}
use mathlib.Core.List.{IsPrefix}
use Rattle.turn_lock.specs.declared.knowledge.Ended.{Ended}
use Rattle.turn_lock.specs.Lists.{calls_of}
use Rattle.turn_lock.specs.Sittings.{Sitting, kept_of}

module _ {C : Type 0} where
  -- as many seats were joined as were split off
  abbrev pub AllJoined : Sitting C → Type 0
  AllJoined s = length s.ended ≡ s.splits

  -- what is known of each seat, of the first one first
  abbrev pub seats_of : Sitting C → List (Ended C)
  seats_of s = kept_of s ∷ s.ended

  -- the numbers of the seats
  abbrev pub numbers_of : List (Ended C) → List ℕ
  numbers_of seats = map (λ seat. seat.number) seats

  -- no two of the seats have one number
  abbrev pub AreApart : List (Ended C) → Type 0
  AreApart seats = IsDistinct nat_eq (numbers_of seats)

  -- the list begins with what each of the seats had seen
  abbrev pub BeginsWithEach : List (Ended C) → List C → Type 0
  BeginsWithEach seats list = AllByRecursion (λ seat. IsPrefix seat.seen list) seats

  -- the own calls of each of the seats are the calls of the list that name its number
  abbrev pub HasCallsOfEach : (C → ℕ) → List (Ended C) → List C → Type 0
  HasCallsOfEach caller seats list = AllByRecursion (λ seat. calls_of caller seat.number list ≡ seat.own) seats

  -- each call of the list names the number of one of the seats
  abbrev pub NamesOnly : (C → ℕ) → List (Ended C) → List C → Type 0
  NamesOnly caller seats list = AllByRecursion (λ call. Contains (numbers_of seats) (caller call)) list
