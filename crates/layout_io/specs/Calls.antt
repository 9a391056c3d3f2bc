-- Which calls of an object in memory fail: those of each kind are numbered from 1, and a test lists some numbers.
use Rattle.std.specs.Prelude.{◌≡◌, ℕ, ◌+◌, ◌-◌, ◌^◌, min, List, Contains, Result, Ok, Err, ⊤}
use Rattle.layout_io.specs.declared.fault.IoFault.{IoFault}
use Rattle.layout_io.specs.declared.fault.IoFault.TheVariants.{Failed, Memory}

-- the number of the call that comes after so many
abbrev pub next_number : ℕ → ℕ
next_number calls = min (calls + 1) (2 ^ 64 - 1)

-- the call that comes after so many is listed
abbrev pub IsListed : List ℕ → ℕ → Type 0
IsListed failing calls = Contains failing (next_number calls)

-- a call answers `Failed` exactly where it is due to fail, and never `Memory`
abbrev pub FailsExactly : {T : Type 0} → Type 0 → Result T IoFault → Type 0
FailsExactly due (Ok x) = ¬ due
FailsExactly due (Err Failed) = due
FailsExactly due (Err Memory) = ⊥

-- where memory doesn't run out, a call answers `Failed` exactly where it is due to fail
abbrev pub FailsUnlessMemory : {T : Type 0} → Type 0 → Result T IoFault → Type 0
FailsUnlessMemory due (Ok x) = ¬ due
FailsUnlessMemory due (Err Failed) = due
FailsUnlessMemory due (Err Memory) = ⊤

-- a count of faults goes up by one where the call answers `Failed`, and stands else
abbrev pub CountsOne : {T : Type 0} → ℕ → ℕ → Result T IoFault → Type 0
CountsOne before now (Ok x) = now ≡ before
CountsOne before now (Err Failed) = now ≡ next_number before
CountsOne before now (Err Memory) = now ≡ before
