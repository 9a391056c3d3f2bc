-- What the serial master keeps true, and what each step of an answer leaves.
-- No public contract cites this module
use Rattle.std.specs.Prelude.{◌≡◌, ℕ, ◌+◌, ◌*◌, ◌≤◌, ◌-◌, [], ◌∷◌, ◌++◌, length}
use Rattle.row_lists.specs.Limits.{client_limit, weight_limit}
use Rattle.board_items.specs.declared.requests.Request.{Request}
use Rattle.board_items.specs.declared.history.Act.{Act}
use Rattle.board_items.specs.declared.history.Act.TheVariants.{Ask}
use Rattle.board_items.specs.declared.history.Reply.{Reply}
use Rattle.board_items.specs.Weights.{weight_of}
use Rattle.board_core.specs.Boards.{last_board, IsBoardOf, IsSameBoard}
use Rattle.board_core.specs.Histories.{journal_of, entry_of, entries_by, weight_of_calls, present_of, IsRequestReply, IsLegal}
use Rattle.desk_core.specs.declared.desk.Placed.{Placed}
use Rattle.client_desk.specs.Standings.{Standing, IsPlaced, with_leave}
use Rattle.serial_master.specs.Bases.{AreAtEnd}
use Rattle.serial_master.specs.declared.books.Terms.{Terms}
use Rattle.serial_master.specs.declared.books.Books.{Books}

-- what contracts see
abbrev pub standing_of : Terms → Books → Standing
standing_of t b = record { parts = t.design.parts; clients = t.clients; limit = t.limit; history = b.history.items }

-- 1 to 8 clients, and a limit that a history may have
pub record AreTerms (t : Terms) : Type 0 where
  pub some : 1 ≤ t.clients
  pub few : t.clients ≤ client_limit
  pub most : t.limit ≤ weight_limit

-- the board is that of the journal, and one of the design
pub record IsAtJournal (t : Terms) (b : Books) : Type 0 where
  pub board : IsSameBoard b.board (last_board t.design.parts b.journal.items)
  pub of : IsBoardOf t.design.parts b.board
  pub count : b.board.count ≡ length b.journal.items

-- the history is legal, each base is the journal's length before it, and the journal is that of the history, which has room
-- for a leave of each client that is present; each number behind the loaded items weighs 4 or more, and each entry 2; both
-- lists have room for these leaves
pub record IsKept (t : Terms) (b : Books) : Type 0 where
  pub terms : AreTerms t
  pub at : IsAtJournal t b
  pub legal : IsLegal t.design.parts t.clients t.limit b.history.items
  pub bases : AreAtEnd [] b.history.items
  pub journal : b.journal.items ≡ journal_of b.history.items
  pub weight : b.weight ≡ weight_of_calls b.history.items
  pub present : b.present ≡ present_of t.clients b.history.items
  pub light : b.weight + 2 * b.present ≤ t.limit
  pub next : 4 * b.board.next_id ≤ 4 * (length t.design.parts.items + 1) + b.weight
  pub weighty : 2 * length b.journal.items ≤ b.weight
  pub journal_room : b.present ≤ b.journal.room
  pub history_room : b.present ≤ b.history.room

-- nothing but room was made
pub record HasStayed (t : Terms) (old new : Books) : Type 0 where
  pub at : IsAtJournal t new
  pub next : new.board.next_id ≡ old.board.next_id
  pub journal : new.journal.items ≡ old.journal.items
  pub journal_room : old.journal.room ≤ new.journal.room
  pub history : new.history.items ≡ old.history.items
  pub history_room : old.history.room ≤ new.history.room
  pub weight : new.weight ≡ old.weight
  pub present : new.present ≡ old.present

-- the act is the journal's next entry, in room that was made; the history, the weight and who is present stay
pub record HasTaken (t : Terms) (old : Books) (client : ℕ) (act : Act) (new : Books) : Type 0 where
  pub at : IsAtJournal t new
  pub journal : new.journal.items ≡ old.journal.items ++ entry_of (length old.journal.items + 1) client act ∷ []
  pub journal_room : new.journal.room ≡ old.journal.room - 1
  pub next : 4 * new.board.next_id ≤ 4 * old.board.next_id + weight_of act
  pub history : new.history ≡ old.history
  pub weight : new.weight ≡ old.weight
  pub present : new.present ≡ old.present

-- a request got its answer at the journal, which is a call of no history yet
pub record HasDecided (t : Terms) (old : Books) (client : ℕ) (r : Request) (new : Books) (reply : Reply) : Type 0 where
  pub reply_is : IsRequestReply t.design.parts t.clients old.journal.items client r reply
  pub at : IsAtJournal t new
  pub journal : new.journal.items ≡ old.journal.items ++ entries_by client (Ask r) reply
  pub journal_room : old.journal.room - 1 ≤ new.journal.room
  pub next : 4 * new.board.next_id ≤ 4 * old.board.next_id + weight_of (Ask r)
  pub history : new.history ≡ old.history
  pub weight : new.weight ≡ old.weight
  pub present : new.present ≡ old.present

-- a request was answered
pub record HasAnswered (t : Terms) (old : Books) (client : ℕ) (r : Request) (new : Books) (placed : Placed) : Type 0 where
  pub kept : IsKept t new
  pub placed_is : IsPlaced (standing_of t old) client r (standing_of t new) placed

-- a client left
pub record HasLeft (t : Terms) (old : Books) (client : ℕ) (new : Books) : Type 0 where
  pub kept : IsKept t new
  pub left : standing_of t new ≡ with_leave (standing_of t old) client
