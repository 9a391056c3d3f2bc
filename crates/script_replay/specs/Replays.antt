-- A script through the serial master, and what is written of it.
-- Models: each event is answered at its place in one order, by the whole board. Cited by `replay_steps` and by the
-- program's `run`
use Rattle.std.specs.Prelude.{◌≡◌, ◌⊎◌, ℕ, List, [], ◌∷◌, ◌++◌, length, codes, decimal}
use Rattle.std.specs.List.{flat_map}
use Rattle.row_lists.specs.Limits.{client_limit, weight_limit}
use Rattle.board_items.specs.declared.history.Act.{Act}
use Rattle.board_items.specs.declared.history.Act.TheVariants as acts
use Rattle.board_items.specs.declared.history.Call.{Call}
use Rattle.board_items.specs.declared.history.Entry.{Entry}
use Rattle.board_items.specs.declared.history.Reply.{Reply}
use Rattle.board_items.specs.declared.history.Reply.TheVariants.{Full}
use Rattle.board_rules.specs.declared.design.Design.{Design}
use Rattle.board_rules.specs.declared.design.Parts.{Parts}
use Rattle.board_core.specs.Boards.{board_at, last_board}
use Rattle.board_core.specs.Clean.{IsCleanBoard}
use Rattle.board_core.specs.Histories.{journal_of, IsFull, IsNextCall, IsLegal}
use Rattle.board_core.specs.Shields.{IsShielded}
use Rattle.session_wire.specs.declared.steps.ScriptStep.{ScriptStep}
use Rattle.session_wire.specs.Lines.{entry_line, reply_line}
use Rattle.ses_writer.specs.Session.{session_of}
use Rattle.script_replay.specs.Scripts.{Event, events_of_steps}
use Rattle.script_replay.specs.declared.master.Answered.{Answered}

-- an event and its reply as a call, with the length of the journal before it as its base
abbrev pub call_of : List Call → Event → Reply → Call
call_of calls event reply = record { client = event.client; base = length (journal_of calls); act = event.act; reply = reply }

-- the history has no room for the act; for a leave it always has
abbrev pub HasNoRoom : List Call → Act → Type 0
HasNoRoom calls (acts.Ask request) = IsFull weight_limit client_limit calls request
HasNoRoom calls acts.Leave = ⊥

-- an event gets this reply behind these calls, and leaves the next ones: it is full, and nothing changes, or it is the
-- next call
abbrev pub IsReplied : Parts → List Call → Event → Reply → List Call → Type 0
IsReplied p calls event reply next =
    ((reply ≡ Full) × HasNoRoom calls event.act × (next ≡ calls))
    ⊎ (IsNextCall p client_limit weight_limit calls (call_of calls event reply) × (next ≡ calls ++ call_of calls event reply ∷ []))

-- the events get these answers one after another, each behind the calls as they are then, and lead from one history to
-- another
abbrev pub Serves : Design → List Call → List Event → List Answered → List Call → Type 0
Serves d old [] [] new = new ≡ old
Serves d old (event ∷ events) (a ∷ answers) new =
    (a.client ≡ event.client) × (mid : List Call) × IsReplied d.parts old event a.reply mid × Serves d mid events answers new
Serves d old [] (a ∷ answers) new = ⊥
Serves d old (event ∷ events) [] new = ⊥

-- no two items are too near on any board of a journal, under that board's own rules
abbrev pub AreClean : Parts → List Entry → Type 0
AreClean p journal = (k : ℕ) → IsCleanBoard p (board_at p journal k).rules (board_at p journal k).live

-- the client and its reply
abbrev pub answer_line : Answered → List ℕ
answer_line a = decimal a.client ++ (32 ∷ reply_line a.reply)

-- the count of entries
abbrev pub count_line : ℕ → List ℕ
count_line count = codes "journal " ++ (decimal count ++ codes "\n")

-- the answers, the count of entries, and the entries
abbrev pub output_of : List Answered → List Entry → List ℕ
output_of answers journal = flat_map answer_line answers ++ (count_line (length journal) ++ flat_map entry_line journal)

-- the output and the session text of the steps, from the empty history on; each call of the history is that of one master,
-- what lies in a boundary is changed by entitled clients alone, and every board is clean under its own rules
pub record IsRunOf (d : Design) (steps : List ScriptStep) (output session : List ℕ) : Type 0 where
  pub answers : List Answered
  pub history : List Call
  pub run : Serves d [] (events_of_steps steps) answers history
  pub legal : IsLegal d.parts client_limit weight_limit history
  pub shielded : IsShielded d.parts (journal_of history)
  pub clean : AreClean d.parts (journal_of history)
  pub output_is : output ≡ output_of answers (journal_of history)
  pub session_is : session ≡ session_of d.parts (last_board d.parts (journal_of history)).live
