-- What a line spells, and where it is bad where it spells nothing.
-- Left out: which forms there are. Cited by the readers of script lines, messages and entries.
use Rattle.std.specs.Prelude.{ℕ, ◌≡◌, ◌+◌, List, length, Result, Ok, Err}
use Rattle.session_wire.specs.declared.faults.Halt.{Halt}
use Rattle.session_wire.specs.declared.faults.Halt.TheVariants as halts
use Rattle.session_wire.specs.declared.faults.LineFault.{LineFault}
use Rattle.session_wire.specs.declared.faults.LineFault.TheVariants.{Bad, Memory}
use Rattle.session_wire.specs.Places.{IsBadAt}

-- the line spells the thing, which is of the form
pub record Reads {T : Type 0} (P : T → Type 0) (text : T → List ℕ) (line : List ℕ) (x : T) : Type 0 where
  pub formed : P x
  pub spelled : line ≡ text x

-- the line spells a thing of the form
abbrev pub HasReading : {T : Type 0} → (T → Type 0) → (T → List ℕ) → List ℕ → Type 0
HasReading {T} P text line = (x : T) × Reads P text line x

-- the line is bad, with so many bytes left behind the byte at which it is
abbrev pub HasLeft : (List ℕ → Type 0) → List ℕ → ℕ → Type 0
HasLeft Is line left = (at : ℕ) × IsBadAt Is line at × (at + left ≡ length line)

-- why the line's words aren't read
abbrev pub WhyStopped : (List ℕ → Type 0) → List ℕ → Halt → Type 0
WhyStopped Is line (halts.Left left) = HasLeft Is line left
WhyStopped Is line halts.Memory = Unit {0}

-- why the line isn't read
abbrev pub WhyUnread : (List ℕ → Type 0) → List ℕ → LineFault → Type 0
WhyUnread Is line (Bad at) = IsBadAt Is line at
WhyUnread Is line Memory = Unit {0}

-- the result is the wanted one, want of memory aside
abbrev pub Gives : {T : Type 0} → Result T LineFault → Result T LineFault → Type 0
Gives (Ok x) wanted = wanted ≡ Ok x
Gives (Err (Bad at)) wanted = wanted ≡ Err (Bad at)
Gives (Err Memory) wanted = Unit {0}
