-- Lines of a script, and what is told of one.
-- Cited by the readers of single lines; no public contract but that of `read_script` cites this module
use Rattle.std.specs.Prelude.{◌≡◌, ℕ, false, List, ◌++◌}
use Rattle.number_slots.specs.Slots.{is_among}
use Rattle.session_wire.specs.declared.steps.ScriptStep.{ScriptStep}
use Rattle.session_wire.specs.Lines.{step_line}
use Rattle.session_wire.specs.Steps.{IsStep}
use Rattle.script_replay.specs.Scripts.{IsBad, client_of, has_gone}
use Rattle.script_replay.specs.declared.script.ScriptFault.{ScriptFault}
use Rattle.script_replay.specs.declared.script.ScriptFault.TheVariants.{Line, Memory}

-- no step's line begins the text
abbrev pub HasNoStep : List ℕ → Type 0
HasNoStep text = (s : ScriptStep) (more : List ℕ) → IsStep s → text ≡ step_line s ++ more → ⊥

-- no line of a step begins the text whose client isn't one of these
abbrev pub HasNoPresent : List ℕ → List ℕ → Type 0
HasNoPresent gone text = (s : ScriptStep) (more : List ℕ) → IsStep s → is_among (client_of s) gone ≡ false → text ≡ step_line s ++ more → ⊥

-- these are the clients that have left by these steps
abbrev pub AreGone : List ℕ → List ScriptStep → Type 0
AreGone gone steps = (client : ℕ) → is_among client gone ≡ has_gone client steps

-- what a fault of a script says of its text
abbrev pub WhyBad : List ℕ → ScriptFault → Type 0
WhyBad text (Line k) = IsBad text k
WhyBad text Memory = Unit {0}
