-- What a checker holds, a board and what its index holds, and how it follows the entries of a journal.
-- Models: a client's own board, which may stop at any entry for want of memory. Cited by the calls of `Checker`
use Rattle.std.specs.Prelude.{ℕ, ◌≡◌, ◌+◌, ◌≤◌, Some, List, [], ◌∷◌, length, slice_get}
use Rattle.std.specs.List.{AllByRecursion}
use Rattle.seg_geometry.specs.declared.near.Filed.{Filed}
use Rattle.board_items.specs.Formed.{IsFormedAct}
use Rattle.board_items.specs.declared.history.Entry.{Entry}
use Rattle.board_rules.specs.declared.design.Parts.{Parts}
use Rattle.board_core.specs.Boards.{Board, IsBoardOf, IsSameBoard, HasFitAct, taken_by, board_at}
use Rattle.check_core.specs.Filings.{AreFiled}

-- a board, and what is filed in the index beside it
pub record Checking : Type 0 where
  pub board : Board
  pub filed : List Filed

-- the board is one of the design, and exactly the boxes of its live items are filed
pub record IsChecking (p : Parts) (c : Checking) : Type 0 where
  pub fits : IsBoardOf p c.board
  pub files : AreFiled p.stacks c.board.live c.filed

-- how many numbers entries take
abbrev pub taken_in : List Entry → ℕ
taken_in [] = 0
taken_in (e ∷ rest) = taken_by e.act + taken_in rest

-- each entry is formed, and its adds are fit
abbrev pub AreFitEntries : Parts → List Entry → Type 0
AreFitEntries p entries = AllByRecursion (λ (e : Entry). IsFormedAct e.act × HasFitAct p e.act) entries

-- the entries stand in the journal, one after another, from this place on
abbrev pub StandAt : List Entry → ℕ → List Entry → Type 0
StandAt journal k entries = (i : ℕ) (e : Entry) → slice_get entries i ≡ Some e → slice_get journal (k + i) ≡ Some e

-- a first part of the entries was taken, which the count tells: from a journal's board to that after so many more
pub record HasTaken (p : Parts) (entries : List Entry) (old new : Board) : Type 0 where
  pub part : ℕ
  pub within : part ≤ length entries
  pub counted : new.count ≡ old.count + part
  pub follows : (journal : List Entry) (k : ℕ) → StandAt journal k entries → IsSameBoard old (board_at p journal k) → IsSameBoard new (board_at p journal (k + part))
