-- Which steps a script may have, which bytes spell one, and where a line is bad that spells none.
use Rattle.std.specs.Prelude.{ℕ, ◌≡◌, ◌≢◌, ◌≤◌, ◌+◌, List, length, Result, Ok, Err}
use Rattle.std.specs.List.{AllByRecursion}
use Rattle.row_lists.specs.Limits.{client_limit}
use Rattle.session_wire.specs.declared.faults.Halt.{Halt}
use Rattle.session_wire.specs.declared.faults.Halt.TheVariants as halts
use Rattle.session_wire.specs.declared.faults.LineFault.{LineFault}
use Rattle.session_wire.specs.declared.faults.LineFault.TheVariants.{Bad, Memory}
use Rattle.session_wire.specs.declared.steps.ScriptStep.{ScriptStep}
use Rattle.session_wire.specs.declared.steps.ScriptStep.TheVariants as steps
use Rattle.session_wire.specs.Lines.{step_text}
use Rattle.session_wire.specs.Places.{IsBadAt}
use Rattle.board_items.specs.Formed.{IsFormed}

-- one of the clients 1 to 8 asks for a change whose counts and numbers are in range, or leaves
abbrev pub IsStep : ScriptStep → Type 0
IsStep (steps.Do client request) = (1 ≤ client) × (client ≤ client_limit) × IsFormed request
IsStep (steps.Leave client) = (1 ≤ client) × (client ≤ client_limit)

-- the line spells the step
pub record Reads (line : List ℕ) (step : ScriptStep) : Type 0 where
  pub formed : IsStep step
  pub spelled : line ≡ step_text step

-- the line spells a step
abbrev pub HasStep : List ℕ → Type 0
HasStep line = (step : ScriptStep) × Reads line step

-- the line is bad, with so many bytes left behind the byte at which it is
abbrev pub HasLeft : List ℕ → ℕ → Type 0
HasLeft line left = (at : ℕ) × IsBadAt HasStep line at × (at + left ≡ length line)

-- why the line's words aren't read
abbrev pub WhyStopped : List ℕ → Halt → Type 0
WhyStopped line (halts.Left left) = HasLeft line left
WhyStopped line halts.Memory = Unit {0}

-- why the line isn't read
abbrev pub WhyUnread : List ℕ → LineFault → Type 0
WhyUnread line (Bad at) = IsBadAt HasStep line at
WhyUnread line Memory = Unit {0}

-- the result is the wanted one, want of memory aside
abbrev pub Gives : Result ScriptStep LineFault → Result ScriptStep LineFault → Type 0
Gives (Ok step) wanted = wanted ≡ Ok step
Gives (Err (Bad at)) wanted = wanted ≡ Err (Bad at)
Gives (Err Memory) wanted = Unit {0}

-- bytes without a line feed
abbrev pub IsLine : List ℕ → Type 0
IsLine line = AllByRecursion (λ b. b ≢ 10) line
