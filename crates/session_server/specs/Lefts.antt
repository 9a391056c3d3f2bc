-- What the session of one client leaves: the history and its journal, the end, the link and the answers.
-- Models: one session over one link, answered by one master. Cited by `serve`
use Rattle.std.specs.Prelude.{◌≡◌, ℕ, true, false, List, [], ◌∷◌, ◌++◌, Option, Some, None, ⊤, map}
use Rattle.row_lists.specs.Limits.{weight_limit}
use Rattle.board_items.specs.declared.history.Call.{Call}
use Rattle.board_items.specs.declared.history.Entry.{Entry}
use Rattle.layout_io.specs.Links.{LinkTold}
use Rattle.layout_io.specs.Doors.{IsUntouched, IsNew}
use Rattle.board_rules.specs.declared.design.Parts.{Parts}
use Rattle.board_core.specs.Boards.{board_at}
use Rattle.board_core.specs.Clean.{IsCleanBoard}
use Rattle.board_core.specs.Histories.{journal_of, has_left, is_leave, IsLegal}
use Rattle.board_core.specs.Shields.{IsShielded}
use Rattle.desk_core.specs.declared.desk.Answer.{Answer}
use Rattle.client_desk.specs.Standings.{Standing}
use Rattle.client_desk.specs.Given.{HasAnswers}
use Rattle.serial_master.specs.Bases.{IsFresh}
use Rattle.session_loop.specs.declared.end.SessionEnd.{SessionEnd}
use Rattle.session_loop.specs.Sessions.{HasSession, HasEndCause, IsTimely}

-- what is handed back beside the end
pub record Left : Type 0 where
  pub history : List Call
  pub journal : List Entry
  pub ends : List SessionEnd
  pub links : List LinkTold

-- these lists, with what each link tells
abbrev pub left_with : {L : Type 0} → (L → LinkTold) → List Call → List Entry → List SessionEnd → List L → Left
left_with told history journal ends links = record { history = history; journal = journal; ends = ends; links = map told links }

-- nothing: no session began
abbrev pub nothing : Left
nothing = record { history = []; journal = []; ends = []; links = [] }

-- a history of one client of a design of these parts
abbrev pub standing_of : Parts → List Call → Standing
standing_of p history = record { parts = p; clients = 1; limit = weight_limit; history = history }

-- the history ends with the client's leave, and has no other leave of the client
pub record LeavesLast (client : ℕ) (history : List Call) : Type 0 where
  pub requests : List Call
  pub leave : Call
  pub parts : history ≡ requests ++ leave ∷ []
  pub mine : leave.client ≡ client
  pub leaves : is_leave leave.act ≡ true
  pub none_before : has_left client requests ≡ false

-- no two items are too near on any board of a journal, under that board's own rules
abbrev pub AreClean : Parts → List Entry → Type 0
AreClean p journal = (k : ℕ) → IsCleanBoard p (board_at p journal k).rules (board_at p journal k).live

-- the client's session over a link that was like this before, and the history that it made
pub record HasSat (p : Parts) (before : LinkTold) (history : List Call) (end : SessionEnd) (after : LinkTold) : Type 0 where
  pub answers : List Answer
  pub legal : IsLegal p 1 weight_limit history
  pub fresh : IsFresh 1 history
  pub leaves : LeavesLast 1 history
  pub answered : HasAnswers (standing_of p history) 1 answers
  pub session : (input : List ℕ) → IsNew input before → HasSession 1 1 input after end answers (journal_of history)
  pub cause : HasEndCause end before after
  pub timely : IsTimely before after

-- that session's end, link, history and journal are what is left
pub record HasLeft (p : Parts) (before : LinkTold) (l : Left) : Type 0 where
  pub end : SessionEnd
  pub link : LinkTold
  pub ends : l.ends ≡ end ∷ []
  pub links : l.links ≡ link ∷ []
  pub journal : l.journal ≡ journal_of l.history
  pub sat : HasSat p before l.history end link

-- where the links to come are told, this holds of the bytes that the first of them had to read
abbrev pub OfFirst : Option (List (List ℕ)) → (List ℕ → Type 0) → Type 0
OfFirst None P = ⊤
OfFirst (Some []) P = ⊥
OfFirst (Some (bytes ∷ rest)) P = P bytes

-- the counts of a link that was new before one session, by how that ended
pub record HasCauses (end : SessionEnd) (link : LinkTold) : Type 0 where
  pub before : LinkTold
  pub untouched : IsUntouched before
  pub cause : HasEndCause end before link
  pub timely : IsTimely before link

-- one session was served, over the first of the links to come: its client's requests are answered one after another by one
-- master, and its leave is the history's last call; the journal is that of the history, what lies in a boundary is changed
-- by entitled clients alone, and every board is clean under its own rules; the bytes that were written are those of the
-- session of these answers, which stand in the history
pub record HasServed (p : Parts) (coming : Option (List (List ℕ))) (l : Left) : Type 0 where
  pub end : SessionEnd
  pub link : LinkTold
  pub answers : List Answer
  pub ends : l.ends ≡ end ∷ []
  pub links : l.links ≡ link ∷ []
  pub legal : IsLegal p 1 weight_limit l.history
  pub fresh : IsFresh 1 l.history
  pub leaves : LeavesLast 1 l.history
  pub journal : l.journal ≡ journal_of l.history
  pub shielded : IsShielded p l.journal
  pub clean : AreClean p l.journal
  pub answered : HasAnswers (standing_of p l.history) 1 answers
  pub session : OfFirst coming (λ input. HasSession 1 1 input link end answers l.journal)
  pub causes : HasCauses end link
