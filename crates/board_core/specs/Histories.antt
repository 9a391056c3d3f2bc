-- Histories of calls: the journal that they make, what they weigh, and which are legal.
-- Models: one master that answers each call at the journal as it is. Left out: how a client came to its base. Cited by the
-- laws over boards and by the program's `run`
use Rattle.std.specs.Prelude.{ℕ, ◌≡◌, ◌≤◌, ◌<◌, ◌+◌, ◌*◌, zero, suc, Bool, true, false, ◌==◌, ◌&&◌, if◌then◌else◌, Some, None, List, [], ◌∷◌, ◌++◌, length, map}
use Rattle.std.specs.List.{list_any, sum}
use Rattle.board_items.specs.declared.requests.Request.{Request}
use Rattle.board_items.specs.declared.history.Act.{Act}
use Rattle.board_items.specs.declared.history.Act.TheVariants as acts
use Rattle.board_items.specs.declared.history.Entry.{Entry}
use Rattle.board_items.specs.declared.history.Call.{Call}
use Rattle.board_items.specs.declared.history.Reply.{Reply}
use Rattle.board_items.specs.declared.history.Reply.TheVariants as replies
use Rattle.board_items.specs.Formed.{IsFormed}
use Rattle.board_items.specs.Weights.{weight_of, weight_of_request}
use Rattle.board_rules.specs.declared.design.Parts.{Parts}
use Rattle.board_core.specs.Boards.{last_board}
use Rattle.board_core.specs.Answers.{IsAnswer}

-- an act of a client as an entry
abbrev pub entry_of : ℕ → ℕ → Act → Entry
entry_of number client act = record { number = number; client = client; act = act }

-- the entry that a call makes, if any: one that is done, or a leave
abbrev pub entries_by : ℕ → Act → Reply → List Entry
entries_by client act (replies.Done number) = entry_of number client act ∷ []
entries_by client act (replies.No why) = []
entries_by client act replies.Full = []
entries_by client act (replies.Left number) = entry_of number client act ∷ []

-- the entries that calls make, in their order
abbrev pub journal_of : List Call → List Entry
journal_of [] = []
journal_of (c ∷ rest) = entries_by c.client c.act c.reply ++ journal_of rest

-- the weight of all calls
abbrev pub weight_of_calls : List Call → ℕ
weight_of_calls calls = sum (map (λ (c : Call). weight_of c.act) calls)

-- the act is a leave
abbrev pub is_leave : Act → Bool
is_leave (acts.Ask request) = false
is_leave acts.Leave = true

-- the client has left
abbrev pub has_left : ℕ → List Call → Bool
has_left client calls = list_any (λ (c : Call). (c.client == client) && is_leave c.act) calls

-- how many of the clients 1 to n haven't left
abbrev pub present_of : ℕ → List Call → ℕ
present_of zero calls = 0
present_of (suc n) calls = present_of n calls + (if has_left (suc n) calls then 0 else 1)

-- the request has no room beside the calls and a leave of each client that is present
abbrev pub IsFull : ℕ → ℕ → List Call → Request → Type 0
IsFull limit clients calls request = limit < weight_of_calls calls + weight_of_request request + 2 * present_of clients calls

-- the client is one of these, and hasn't left
abbrev pub IsPresent : ℕ → List Call → ℕ → Type 0
IsPresent clients calls client = (1 ≤ client) × (client ≤ clients) × (has_left client calls ≡ false)

-- what a request is replied at a journal: done, as its next entry, where there is no reason against it, else no, with the
-- reason
abbrev pub IsRequestReply : Parts → ℕ → List Entry → ℕ → Request → Reply → Type 0
IsRequestReply p clients journal client request (replies.Done number) =
    IsAnswer p clients (last_board p journal) client request None × (number ≡ length journal + 1)
IsRequestReply p clients journal client request (replies.No why) = IsAnswer p clients (last_board p journal) client request (Some why)
IsRequestReply p clients journal client request replies.Full = ⊥
IsRequestReply p clients journal client request (replies.Left number) = ⊥

-- what an act is replied behind these calls: a formed request that has room gets its answer, from a base that is there; a
-- leave is the next entry
abbrev pub IsActReply : Parts → ℕ → ℕ → List Call → ℕ → ℕ → Act → Reply → Type 0
IsActReply p clients limit calls client base (acts.Ask request) reply =
    IsFormed request × (base ≤ length (journal_of calls)) × (IsFull limit clients calls request → ⊥)
    × IsRequestReply p clients (journal_of calls) client request reply
IsActReply p clients limit calls client base acts.Leave reply =
    (base ≡ length (journal_of calls)) × (reply ≡ replies.Left (length (journal_of calls) + 1))

-- the call may come next behind these
pub record IsNextCall (p : Parts) (clients limit : ℕ) (calls : List Call) (c : Call) : Type 0 where
  pub present : IsPresent clients calls c.client
  pub reply : IsActReply p clients limit calls c.client c.base c.act c.reply

-- each of the rest may come next behind those before it
abbrev pub AreNextCalls : Parts → ℕ → ℕ → List Call → List Call → Type 0
AreNextCalls p clients limit before [] = Unit {0}
AreNextCalls p clients limit before (c ∷ rest) = IsNextCall p clients limit before c × AreNextCalls p clients limit (before ++ c ∷ []) rest

-- each call may come next behind those before it
abbrev pub IsLegal : Parts → ℕ → ℕ → List Call → Type 0
IsLegal p clients limit calls = AreNextCalls p clients limit [] calls
