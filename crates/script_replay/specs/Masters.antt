-- What the serial master keeps true.
-- No public contract cites this module
use Rattle.std.specs.Prelude.{◌≡◌, ℕ, ◌+◌, ◌*◌, ◌≤◌, [], ◌∷◌, ◌++◌, length}
use Rattle.row_lists.specs.Limits.{client_limit, weight_limit}
use Rattle.board_items.specs.declared.requests.Request.{Request}
use Rattle.board_items.specs.declared.history.Act.{Act}
use Rattle.board_items.specs.declared.history.Act.TheVariants.{Ask}
use Rattle.board_items.specs.declared.history.Reply.{Reply}
use Rattle.board_items.specs.Weights.{weight_of}
use Rattle.board_rules.specs.declared.design.Design.{Design}
use Rattle.board_core.specs.Boards.{last_board, IsBoardOf, IsSameBoard}
use Rattle.board_core.specs.Histories.{journal_of, entry_of, entries_by, weight_of_calls, present_of, IsRequestReply}
use Rattle.script_replay.specs.Scripts.{Event}
use Rattle.script_replay.specs.Replays.{IsReplied}
use Rattle.script_replay.specs.declared.master.SerialMaster.{SerialMaster}
use Rattle.script_replay.specs.declared.master.Run.{Run}

-- the board is that of the journal, and one of the design
pub record IsAtJournal (d : Design) (m : SerialMaster) : Type 0 where
  pub board : IsSameBoard m.board (last_board d.parts m.journal)
  pub of : IsBoardOf d.parts m.board
  pub count : m.board.count ≡ length m.journal

-- the journal is that of the history, which has room for a leave of each client that is present; each number behind the
-- loaded items weighs 4 or more, and each entry 2
pub record IsSerialMaster (d : Design) (m : SerialMaster) : Type 0 where
  pub at : IsAtJournal d m
  pub journal : m.journal ≡ journal_of m.history
  pub weight : m.weight ≡ weight_of_calls m.history
  pub present : m.present ≡ present_of client_limit m.history
  pub light : m.weight + 2 * m.present ≤ weight_limit
  pub next : 4 * m.board.next_id ≤ 4 * (length d.parts.items + 1) + m.weight
  pub weighty : 2 * length m.journal ≤ m.weight

-- nothing was answered yet
pub record IsBegun (d : Design) (r : Run) : Type 0 where
  pub answers : r.answers ≡ []
  pub history : r.master.history ≡ []
  pub master : IsSerialMaster d r.master

-- the act is the journal's next entry, and of nothing but the board and the journal more is said than that it stays
pub record HasTaken (d : Design) (old : SerialMaster) (client : ℕ) (act : Act) (new : SerialMaster) : Type 0 where
  pub at : IsAtJournal d new
  pub journal : new.journal ≡ old.journal ++ entry_of (length old.journal + 1) client act ∷ []
  pub next : 4 * new.board.next_id ≤ 4 * old.board.next_id + weight_of act
  pub history : new.history ≡ old.history
  pub weight : new.weight ≡ old.weight
  pub present : new.present ≡ old.present

-- a request got its answer at the journal, which is a call of no history yet
pub record HasDecided (d : Design) (old : SerialMaster) (client : ℕ) (r : Request) (new : SerialMaster) (reply : Reply) : Type 0 where
  pub reply_is : IsRequestReply d.parts client_limit old.journal client r reply
  pub at : IsAtJournal d new
  pub journal : new.journal ≡ old.journal ++ entries_by client (Ask r) reply
  pub next : 4 * new.board.next_id ≤ 4 * old.board.next_id + weight_of (Ask r)
  pub history : new.history ≡ old.history
  pub weight : new.weight ≡ old.weight
  pub present : new.present ≡ old.present

-- an event got this reply
pub record HasReplied (d : Design) (old : SerialMaster) (event : Event) (new : SerialMaster) (reply : Reply) : Type 0 where
  pub replied : IsReplied d.parts old.history event reply new.history
  pub master : IsSerialMaster d new
