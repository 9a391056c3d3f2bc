-- What contracts see of a lock and of a seat.
use Rattle.std.specs.Prelude.{◌≡◌, ℕ, ◌+◌, Bool, true, false, List, [], ◌∷◌, ◌++◌, Option, None}
use Rattle.atomic_table.specs.Seated.{TableId}
use Rattle.turn_lock.specs.declared.knowledge.Ended.{Ended}
use Rattle.turn_lock.specs.declared.knowledge.Knowledge.{Knowledge}
use Rattle.turn_lock.specs.Lists.{longer}

-- a lock: which it is, the value given to `new`, and how many seats it may have
pub record Lock (T : Type 0) : Type 0 where
  pub lock : TableId
  pub first : T
  pub seats : ℕ

-- a seat: the lock that it is of, its number, the list that it has seen, its own calls, and whether it has the turn.
-- The seat from `new` also keeps how often it was split, and of each seat that was joined to it the number, what it had seen and its own calls
pub record Sitting (C : Type 0) : Type 0 where
  pub lock : TableId
  pub number : ℕ
  pub seen : List C
  pub own : List C
  pub turn : Bool
  pub splits : ℕ
  pub ended : List (Ended C)

-- the slots that a seat carries between two calls: the one slot, empty, while it has the turn
abbrev pub carried : {T : Type 0} → Bool → List (ℕ × Option T)
carried true = (0, None) ∷ []
carried false = []

module _ {C : Type 0} where
  -- what contracts see of a seat of this lock that knows this
  abbrev pub sitting : TableId → Knowledge C → Sitting C
  sitting z k = record { lock = z; number = k.number; seen = k.seen; own = k.own; turn = k.turn; splits = k.splits; ended = k.ended }

  -- the seat from `new`: it has seen nothing and made no call
  abbrev pub opener : TableId → Sitting C
  opener z = record { lock = z; number = 0; seen = []; own = []; turn = false; splits = 0; ended = [] }

  -- the seat was split once more
  abbrev pub splitting : Sitting C → Sitting C
  splitting s = record s { splits = s.splits + 1 }

  -- the seat that the split made: it has the next number, and has seen what the first one had
  abbrev pub arriving : Sitting C → Sitting C
  arriving s = record { lock = s.lock; number = s.splits + 1; seen = s.seen; own = []; turn = false; splits = 0; ended = [] }

  -- the seat has taken the turn and seen this list
  abbrev pub holding : Sitting C → List C → Sitting C
  holding s list = record s { turn = true; seen = list }

  -- the call is the seat's own, and it has seen it
  abbrev pub calling : Sitting C → C → Sitting C
  calling s call = record s { seen = s.seen ++ call ∷ []; own = s.own ++ call ∷ [] }

  -- the seat has given the turn back
  abbrev pub resting : Sitting C → Sitting C
  resting s = record s { turn = false }

  -- what is kept of a seat
  abbrev pub kept_of : Sitting C → Ended C
  kept_of s = record { number = s.number; seen = s.seen; own = s.own }

  -- the other seat was joined: it is kept, and the longer of what both had seen was seen
  abbrev pub joining : Sitting C → Sitting C → Sitting C
  joining s other = record s { seen = longer s.seen other.seen; ended = s.ended ++ kept_of other ∷ [] }

  -- the seat is the same but for what it has seen and for its own calls
  abbrev pub IsSameSeat : Sitting C → Sitting C → Type 0
  IsSameSeat s t = (t.lock ≡ s.lock) × (t.number ≡ s.number) × (t.turn ≡ s.turn) × (t.splits ≡ s.splits) × (t.ended ≡ s.ended)

  -- the list is the one that the seat has seen and one call more, which names its number
  abbrev pub IsNext : (C → ℕ) → Sitting C → List C → Type 0
  IsNext caller s list = (call : C) × (list ≡ s.seen ++ call ∷ []) × (caller call ≡ s.number)

  -- the call that the list has beyond what the seat had seen has become its own
  abbrev pub Counts : Sitting C → List C → Sitting C → Type 0
  Counts s list t = (call : C) → list ≡ s.seen ++ call ∷ [] → t ≡ calling s call
