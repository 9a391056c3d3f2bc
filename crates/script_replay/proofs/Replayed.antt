-- What was answered, and the texts of it, are a run.
use Rattle.std.proofs.Common.{◌≡◌, ℕ, List, [], ap, ◌∙◌}
use Rattle.row_lists.specs.Limits.{client_limit, weight_limit}
use Rattle.board_items.specs.declared.history.Call.{Call}
use Rattle.board_items.specs.declared.history.Entry.{Entry}
use Rattle.board_rules.specs.declared.design.Design.{Design}
use Rattle.board_rules.specs.declared.design.Parts.{Parts}
use Rattle.board_core.specs.Boards.{first_board, last_board, board_at}
use Rattle.board_core.specs.Clean.{IsCleanBoard}
use Rattle.board_core.specs.Histories.{journal_of, IsLegal}
use Rattle.board_core.specs.Shields.{IsShielded}
use Rattle.session_wire.specs.declared.steps.ScriptStep.{ScriptStep}
use Rattle.ses_writer.specs.Session.{session_of}
use Rattle.script_replay.specs.declared.master.Run.{Run}
use Rattle.script_replay.specs.Scripts.{events_of_steps}
use Rattle.script_replay.specs.Masters.{IsSerialMaster}
use Rattle.script_replay.specs.Replays.{Serves, IsRunOf, output_of}
use Rattle.script_replay.proofs.Serving.{serves_legal}

-- the law of boundaries
abbrev pub Shield : Type 0
Shield = (p : Parts) (clients limit : ℕ) (calls : List Call) → IsLegal p clients limit calls → IsShielded p (journal_of calls)

-- the law of clean boards
abbrev pub Clean : Type 0
Clean = (p : Parts) (clients limit : ℕ) (calls : List Call) (k : ℕ) → IsCleanBoard p (first_board p).rules (first_board p).live → IsLegal p clients limit calls → IsCleanBoard p (board_at p (journal_of calls) k).rules (board_at p (journal_of calls) k).live

pub is_run : (d : Design) (steps : List ScriptStep) (r : Run) (output text : List ℕ) → Shield → Clean → IsCleanBoard d.parts (first_board d.parts).rules (first_board d.parts).live → Serves d [] (events_of_steps steps) r.answers r.master.history → IsSerialMaster d r.master
    → output ≡ output_of r.answers r.master.journal → text ≡ session_of d.parts r.master.board.live → IsRunOf d steps output text
is_run d steps r output text shield clean first run master output_is text_is =
    let legal : IsLegal d.parts client_limit weight_limit r.master.history = serves_legal d [] (events_of_steps steps) r.answers r.master.history tt run in
    record {
      answers = r.answers;
      history = r.master.history;
      run = run;
      legal = legal;
      shielded = shield d.parts client_limit weight_limit r.master.history legal;
      clean = λ k. clean d.parts client_limit weight_limit r.master.history k first legal;
      output_is = output_is ∙ ap (output_of r.answers) master.journal;
      session_is = text_is ∙ ap (session_of d.parts) master.at.board.live ∙ ap (λ (j : List Entry). session_of d.parts (last_board d.parts j).live) master.journal;
    }
