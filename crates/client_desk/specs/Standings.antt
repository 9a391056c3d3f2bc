-- What one who answers requests stands for, and what a request and a leave make of it.
-- Models: one history of calls that only grows, for a design, a number of clients and a limit of its weight. Left out: where
-- a client's base comes from. Cited by `look`, `answer` and `leave` of `Answers`
use Rattle.std.specs.Prelude.{◌≡◌, ◌⊎◌, ℕ, ◌+◌, List, [], ◌∷◌, ◌++◌, length}
use Rattle.board_items.specs.declared.requests.Request.{Request}
use Rattle.board_items.specs.declared.history.Act.TheVariants as acts
use Rattle.board_items.specs.declared.history.Call.{Call}
use Rattle.board_items.specs.declared.history.Entry.{Entry}
use Rattle.board_items.specs.declared.history.Reply.{Reply}
use Rattle.board_items.specs.declared.history.Reply.TheVariants as replies
use Rattle.board_rules.specs.declared.design.Parts.{Parts}
use Rattle.board_core.specs.Histories.{journal_of, IsFull, IsPresent, IsNextCall}
use Rattle.desk_core.specs.declared.desk.Placed.{Placed}

-- what the design is made of, how many clients there are, what a history may weigh, and the calls that were answered
pub record Standing : Type 0 where
  pub parts : Parts
  pub clients : ℕ
  pub limit : ℕ
  pub history : List Call

-- the entries that the history has made
abbrev pub journal : Standing → List Entry
journal s = journal_of s.history

-- one call more
abbrev pub with_call : Standing → Call → Standing
with_call s c = record s { history = s.history ++ c ∷ [] }

-- a request of a client, answered from a base
abbrev pub asked_call : ℕ → ℕ → Request → Reply → Call
asked_call client base request reply = record { client = client; base = base; act = acts.Ask request; reply = reply }

-- the leave of a client behind a journal of this length, whose next entry it is
abbrev pub leave_call : ℕ → ℕ → Call
leave_call client count = record { client = client; base = count; act = acts.Leave; reply = replies.Left (count + 1) }

-- the client is one of these, and hasn't left
abbrev pub IsHere : Standing → ℕ → Type 0
IsHere s client = IsPresent s.clients s.history client

-- the history has no room for the request, and stays
pub record IsRefused (old : Standing) (request : Request) (new : Standing) (reply : Reply) : Type 0 where
  pub reply_is : reply ≡ replies.Full
  pub full : IsFull old.limit old.clients old.history request
  pub stays : new ≡ old

-- the request is the history's next call, from some base
pub record IsCalled (old : Standing) (client : ℕ) (request : Request) (new : Standing) (reply : Reply) : Type 0 where
  pub base : ℕ
  pub next : IsNextCall old.parts old.clients old.limit old.history (asked_call client base request reply)
  pub more : new ≡ with_call old (asked_call client base request reply)

-- a client's request was answered: it is full and nothing changes, or it is the next call. The place is the journal's length
-- just after it
pub record IsPlaced (old : Standing) (client : ℕ) (request : Request) (new : Standing) (placed : Placed) : Type 0 where
  pub way : IsRefused old request new placed.reply ⊎ IsCalled old client request new placed.reply
  pub place : placed.place ≡ length (journal new)

-- the client left, and nothing else changed
abbrev pub with_leave : Standing → ℕ → Standing
with_leave s client = with_call s (leave_call client (length (journal s)))
