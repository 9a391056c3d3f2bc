-- What a desk has handed out and answered.
-- Left out: how an answer comes about. Cited by `look`, `ask` and `leave` of a desk, and by the sessions over one.
use Rattle.std.specs.Prelude.{◌≤◌, Bool, List, [], ◌∷◌, ◌++◌, length, Result, Ok, Err}
use Rattle.row_lists.specs.Limits.{client_limit}
use Rattle.board_items.specs.declared.history.Entry.{Entry}
use Rattle.board_items.specs.declared.requests.Request.{Request}
use Rattle.board_items.specs.Formed.{IsFormedAct}
use Rattle.desk_core.specs.declared.desk.Answer.{Answer}
use Rattle.desk_core.specs.declared.desk.Placed.{Placed}

-- what a desk tells: the entries handed out, the answers given, whether a look answered `Ok` since the last ask, whether a
-- call answered want of memory, and whether the client has left
pub record DeskTold : Type 0 where
  pub handed : List Entry
  pub answers : List Answer
  pub looked : Bool
  pub ran_out : Bool
  pub left : Bool

-- the numbers of an entry, and those of its act
pub record IsFormedEntry (entry : Entry) : Type 0 where
  pub numbered : 1 ≤ entry.number
  pub some_client : 1 ≤ entry.client
  pub client_fits : entry.client ≤ client_limit
  pub act : IsFormedAct entry.act

-- the entries up to the answer's place were handed out
abbrev pub IsShown : List Entry → Answer → Type 0
IsShown handed answer = answer.place ≤ length handed

-- what was handed out after a look
abbrev pub handed_after : {E : Type 0} → List Entry → Result (List Entry) E → List Entry
handed_after old (Ok entries) = old ++ entries
handed_after old (Err e) = old

-- the answers after an ask
abbrev pub answers_after : {E : Type 0} → List Answer → Request → Result Placed E → List Answer
answers_after old request (Ok placed) = old ++ record { request = request; place = placed.place; reply = placed.reply } ∷ []
answers_after old request (Err e) = old
