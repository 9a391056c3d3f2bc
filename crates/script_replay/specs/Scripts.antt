-- What a script is, lines of steps that each come from a client who hasn't left, and what its lines stand for.
-- Left out: the number of its lines, which the length of the text bounds. Cited by `read_script` and by the program's `run`
use Rattle.std.specs.Prelude.{◌≡◌, ◌⊎◌, ℕ, ◌+◌, ◌<◌, ◌≤◌, Bool, false, ◌==◌, List, [], ◌∷◌, ◌++◌, length}
use Rattle.std.specs.List.{flat_map, list_any}
use Rattle.row_lists.specs.Limits.{text_limit_bytes}
use Rattle.board_items.specs.declared.history.Act.{Act}
use Rattle.board_items.specs.declared.history.Act.TheVariants as acts
use Rattle.session_wire.specs.declared.steps.ScriptStep.{ScriptStep}
use Rattle.session_wire.specs.declared.steps.ScriptStep.TheVariants as steps
use Rattle.session_wire.specs.Lines.{step_line}
use Rattle.session_wire.specs.Steps.{IsStep}

-- what reaches the master: a client's act
pub record Event : Type 0 where
  pub client : ℕ
  pub act : Act

-- the events that a step stands for, in their order: a `do` stands for one request
abbrev pub events_of : ScriptStep → List Event
events_of (steps.Do client request) = record { client = client; act = acts.Ask request } ∷ []
events_of (steps.Leave client) = record { client = client; act = acts.Leave } ∷ []

-- the events of steps, one step after another
abbrev pub events_of_steps : List ScriptStep → List Event
events_of_steps steps = flat_map events_of steps

-- the client of a step
abbrev pub client_of : ScriptStep → ℕ
client_of (steps.Do client request) = client
client_of (steps.Leave client) = client

-- the step is this client's leave
abbrev pub is_leave_by : ℕ → ScriptStep → Bool
is_leave_by client (steps.Do other request) = false
is_leave_by client (steps.Leave other) = other == client

-- the client has left by one of these steps
abbrev pub has_gone : ℕ → List ScriptStep → Bool
has_gone client steps = list_any (is_leave_by client) steps

-- the step may come behind these: none of them is its client's leave
abbrev pub IsDue : List ScriptStep → ScriptStep → Type 0
IsDue before s = IsStep s × (has_gone (client_of s) before ≡ false)

-- each of the rest may come behind those before it
abbrev pub AreDue : List ScriptStep → List ScriptStep → Type 0
AreDue before [] = Unit {0}
AreDue before (s ∷ rest) = IsDue before s × AreDue (before ++ s ∷ []) rest

-- the text, of at most 64 MiB, is the lines of these steps, each of which may come where it stands
pub record IsScript (text : List ℕ) (steps : List ScriptStep) : Type 0 where
  pub short : length text ≤ text_limit_bytes
  pub due : AreDue [] steps
  pub spelled : text ≡ flat_map step_line steps

-- no step that may come behind these has a line that begins the rest
abbrev pub IsBadRest : List ScriptStep → List ℕ → Type 0
IsBadRest before rest = (s : ScriptStep) (more : List ℕ) → IsDue before s → rest ≡ step_line s ++ more → ⊥

-- line k is the first that is no step's, or a step's that may not come there
pub record IsFirstBad (text : List ℕ) (k : ℕ) : Type 0 where
  pub before : List ScriptStep
  pub rest : List ℕ
  pub due : AreDue [] before
  pub parts : text ≡ flat_map step_line before ++ rest
  pub some : 0 < length rest
  pub bad : IsBadRest before rest
  pub number : k ≡ length before + 1

-- what is told of a text that is no script: 0 where it is longer than 64 MiB, else its first bad line
abbrev pub IsBad : List ℕ → ℕ → Type 0
IsBad text k = ((text_limit_bytes < length text) × (k ≡ 0)) ⊎ ((length text ≤ text_limit_bytes) × IsFirstBad text k)
