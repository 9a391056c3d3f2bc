-- The lines of scripts, entries and replies.
use Rattle.std.specs.Prelude.{ℕ, List, [], ◌∷◌, ◌++◌, codes}
use Rattle.board_items.specs.declared.history.Act.{Act}
use Rattle.board_items.specs.declared.history.Act.TheVariants as acts
use Rattle.board_items.specs.declared.history.Entry.{Entry}
use Rattle.board_items.specs.declared.history.Reply.{Reply}
use Rattle.session_wire.specs.Numbers.{number_text}
use Rattle.session_wire.specs.Requests.{request_text}
use Rattle.session_wire.specs.Replies.{reply_text}
use Rattle.session_wire.specs.declared.steps.ScriptStep.{ScriptStep}
use Rattle.session_wire.specs.declared.steps.ScriptStep.TheVariants as steps

-- a line of a script, without its line feed: the client and what it asks for, or that it leaves
abbrev pub step_text : ScriptStep → List ℕ
step_text (steps.Do client request) = codes "do" ++ (number_text client ++ (32 ∷ request_text request))
step_text (steps.Leave client) = codes "leave" ++ number_text client

-- what was accepted: the request, or that the client left
abbrev pub act_text : Act → List ℕ
act_text (acts.Ask request) = request_text request
act_text acts.Leave = codes "leave"

-- an entry's number, its client, and what it did
abbrev pub entry_text : Entry → List ℕ
entry_text entry = codes "entry" ++ (number_text entry.number ++ (number_text entry.client ++ (32 ∷ act_text entry.act)))

-- each as a whole line
abbrev pub step_line : ScriptStep → List ℕ
step_line step = step_text step ++ (10 ∷ [])

abbrev pub entry_line : Entry → List ℕ
entry_line entry = entry_text entry ++ (10 ∷ [])

abbrev pub reply_line : Reply → List ℕ
reply_line reply = reply_text reply ++ (10 ∷ [])
