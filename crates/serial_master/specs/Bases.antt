-- The bases of calls that are answered at the journal as it is, and what a base says of the client's earlier calls.
-- Cited by `SerialMaster::history`
use Rattle.std.specs.Prelude.{◌≡◌, ℕ, ◌≤◌, false, List, [], ◌∷◌, ◌++◌, length}
use Rattle.board_items.specs.declared.history.Call.{Call}
use Rattle.board_core.specs.Histories.{journal_of, is_leave}

-- the base of each of the rest is the length of the journal before it
abbrev pub AreAtEnd : List Call → List Call → Type 0
AreAtEnd before [] = Unit {0}
AreAtEnd before (c ∷ rest) = (c.base ≡ length (journal_of before)) × AreAtEnd (before ++ c ∷ []) rest

-- each call of the client has a place of at most so much
abbrev pub AreUpTo : ℕ → ℕ → List Call → Type 0
AreUpTo client place calls =
    (front : List Call) (c : Call) (back : List Call) → calls ≡ front ++ c ∷ back → c.client ≡ client → length (journal_of (front ++ c ∷ [])) ≤ place

-- each request of the client has a base that isn't before the place of any earlier call of the client
abbrev pub IsFresh : ℕ → List Call → Type 0
IsFresh client calls =
    (before : List Call) (c : Call) (after : List Call) → calls ≡ before ++ c ∷ after → c.client ≡ client → is_leave c.act ≡ false → AreUpTo client c.base before
