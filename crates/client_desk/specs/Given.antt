-- How a client's answers stand in the history: its requests with their places and replies, and those that had no room.
-- Cited by `ClientDesk::into_master`
use Rattle.std.specs.Prelude.{◌≡◌, ℕ, ◌+◌, ◌≤◌, ◌==◌, Bool, true, false, if◌then◌else◌, List, [], ◌∷◌, ◌++◌, length, filter}
use Rattle.std.specs.List.{AllByRecursion}
use Rattle.board_items.specs.declared.requests.Request.{Request}
use Rattle.board_items.specs.declared.history.Act.{Act}
use Rattle.board_items.specs.declared.history.Act.TheVariants as acts
use Rattle.board_items.specs.declared.history.Call.{Call}
use Rattle.board_items.specs.declared.history.Reply.{Reply}
use Rattle.board_items.specs.declared.history.Reply.TheVariants as replies
use Rattle.board_core.specs.Histories.{entries_by, journal_of, has_left, IsFull}
use Rattle.desk_core.specs.declared.desk.Answer.{Answer}
use Rattle.client_desk.specs.Standings.{Standing, journal}

-- the list begins with this front
abbrev pub StartsWith : {T : Type 0} → List T → List T → Type 0
StartsWith {T} all front = (rest : List T) × (all ≡ front ++ rest)

-- no place is past this one
abbrev pub AreWithin : ℕ → List Answer → Type 0
AreWithin place answers = AllByRecursion (λ (a : Answer). a.place ≤ place) answers

-- the calls of a client, in their order
abbrev pub calls_of : ℕ → List Call → List Call
calls_of client calls = filter (λ (c : Call). c.client == client) calls

-- the answer of a call that leaves the journal so long, where it is a request, and this client's
abbrev pub answer_by : Bool → Act → ℕ → Reply → List Answer
answer_by mine (acts.Ask request) place reply = if mine then (record { request = request; place = place; reply = reply } ∷ []) else []
answer_by mine acts.Leave place reply = []

-- the answers of a client's requests in the calls, behind a journal that is so long
abbrev pub answers_from : ℕ → ℕ → List Call → List Answer
answers_from client count [] = []
answers_from client count (c ∷ rest) =
    answer_by (c.client == client) c.act (count + length (entries_by c.client c.act c.reply)) c.reply
    ++ answers_from client (count + length (entries_by c.client c.act c.reply)) rest

-- the requests of a client in a history, each with its place and reply
abbrev pub answers_of : ℕ → List Call → List Answer
answers_of client calls = answers_from client 0 calls

-- the reply is that of a call
abbrev pub is_call : Reply → Bool
is_call (replies.Done number) = true
is_call (replies.No why) = true
is_call replies.Full = false
is_call (replies.Left number) = true

-- the answers that are calls of the history
abbrev pub called : List Answer → List Answer
called answers = filter (λ (a : Answer). is_call a.reply) answers

-- a request that was full: at a point of the history before the client's leave, where the journal was as long as its place,
-- there was no room for it
abbrev pub HasPoint : Standing → ℕ → Request → ℕ → Reply → Type 0
HasPoint s client request place replies.Full =
    (front : List Call) × StartsWith s.history front × (length (journal_of front) ≡ place) × IsFull s.limit s.clients front request × (has_left client front ≡ false)
HasPoint s client request place (replies.Done number) = Unit {0}
HasPoint s client request place (replies.No why) = Unit {0}
HasPoint s client request place (replies.Left number) = Unit {0}

-- each answer that was full has its point
abbrev pub HavePoints : Standing → ℕ → List Answer → Type 0
HavePoints s client answers = AllByRecursion (λ (a : Answer). HasPoint s client a.request a.place a.reply) answers

-- the answers are those of the client's requests in the history, in order and each once, and some that were full
pub record HasAnswers (s : Standing) (client : ℕ) (answers : List Answer) : Type 0 where
  pub calls : called answers ≡ answers_of client s.history
  pub points : HavePoints s client answers
  pub within : AreWithin (length (journal s)) answers
