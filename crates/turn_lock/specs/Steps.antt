-- What each atomic step tells the seat that makes it.
use Rattle.std.specs.Prelude.{◌≡◌, ◌≢◌, ℕ, ◌+◌, List, [], ◌∷◌, ◌++◌, true, false, Option, Some}
use mathlib.Core.List.{IsPrefix}
use Rattle.atomic_table.specs.Table.{Me, Step, rest}
use Rattle.turn_lock.specs.declared.knowledge.Ended.{Ended}
use Rattle.turn_lock.specs.declared.knowledge.Knowledge.{Knowledge}
use Rattle.turn_lock.specs.Lists.{calls_of, longer}
use Rattle.turn_lock.specs.Sittings.{carried}

-- what a seat knows, and the slot where it carries it
abbrev pub Sat : Type 0 → Type 0 → Type 0
Sat T C = Me (Option T) (Knowledge C)

module _ {C : Type 0} where
  -- the first view, after a split
  abbrev pub split_once : Knowledge C → Knowledge C
  split_once v = record v { splits = v.splits + 1 }

  -- what the new seat knows: all that the first one had seen
  abbrev pub newcomer : Knowledge C → Knowledge C
  newcomer v = record { spent = false; turn = false; number = v.splits + 1; seen = v.seen; own = []; splits = 0; ended = [] }

  -- what is kept of a view
  abbrev pub ended_of : Knowledge C → Ended C
  ended_of v = record { number = v.number; seen = v.seen; own = v.own }

  -- the first view, after another seat was joined to it
  abbrev pub taken_in : Knowledge C → Knowledge C → Knowledge C
  taken_in v w = record v { seen = longer v.seen w.seen; ended = v.ended ++ ended_of w ∷ [] }

  -- the list is the one that the view has seen and one call more, which names its number
  abbrev pub IsNextOf : (C → ℕ) → Knowledge C → List C → Type 0
  IsNextOf caller v list = (call : C) × (list ≡ v.seen ++ call ∷ []) × (caller call ≡ v.number)

  -- what a joined seat leaves
  abbrev pub gone : Knowledge C
  gone = record { spent = true; turn = false; number = 0; seen = []; own = []; splits = 0; ended = [] }

module _ {T C : Type 0} where
  -- the view has the turn and has seen this list, and its seat carries the slot, out of which the value was taken
  abbrev pub having : Knowledge C → List C → Sat T C
  having v list = (record v { turn = true; seen = list }, carried true)

  -- the seat has got the turn, and the slot with a value of which `says` holds. It has seen the list of that value
  pub record HasClaimed (calls : T → List C) (caller : C → ℕ) (says : T → Type 0) (m m' : Sat T C) : Type 0 where
    pub value : T
    pub carries : m'.1 ≡ (0, Some value) ∷ []
    pub knows : m'.0 ≡ record m.0 { turn = true; seen = calls value }
    pub begins : IsPrefix m.0.seen (calls value)
    pub own : calls_of caller m.0.number (calls value) ≡ m.0.own
    pub meant : says value

  -- where the turn was found free it is the seat's, and else nothing has changed
  abbrev pub claimed : (T → List C) → (C → ℕ) → (T → Type 0) → Step (Option T) → Sat T C → ℕ → Sat T C → Type 0
  claimed calls caller says st m n m' = (n ≡ 0 → HasClaimed calls caller says m m') × (n ≢ 0 → m' ≡ m)

  -- one call more was counted, which is the last of a value of which `says` holds. It is the seat's own, and the seat has seen it
  pub record HasCounted (calls : T → List C) (says : T → Type 0) (m m' : Sat T C) : Type 0 where
    pub value : T
    pub call : C
    pub list : calls value ≡ m.0.seen ++ call ∷ []
    pub knows : m' ≡ (record m.0 { seen = calls value; own = m.0.own ++ call ∷ [] }, m.1)
    pub meant : says value

  -- one call more was counted, whatever the count was
  abbrev pub counted : (T → List C) → (T → Type 0) → Step (Option T) → Sat T C → ℕ → Sat T C → Type 0
  counted calls says st m n m' = HasCounted calls says m m'

  -- the seat has neither the turn nor the slot
  abbrev pub yielded : Step (Option T) → Sat T C → ℕ → Sat T C → Type 0
  yielded st m n m' = (m'.0 ≡ record m.0 { turn = false }) × (m'.1 ≡ rest m.1)
