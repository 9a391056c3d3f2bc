-- Faults are counted by the object that fails, so that no caller can make one up.
use Rattle.std.specs.Prelude.{◌≡◌, ℕ, ◌+◌, ◌-◌, ◌^◌, ◌≤◌, min, Result, Ok, Err}
use Rattle.layout_io.specs.declared.fault.IoFault.{IoFault}
use Rattle.layout_io.specs.declared.fault.IoFault.TheVariants.{Failed, Memory}

-- a count of faults rose, or stands at its last value
abbrev pub Rose : ℕ → ℕ → Type 0
Rose before now = min (before + 1) (2 ^ 64 - 1) ≤ now

-- a call's count rises by one where the call answers `Failed`, and stands else
abbrev pub HasCause : {T : Type 0} → ℕ → ℕ → Result T IoFault → Type 0
HasCause before now (Ok x) = now ≡ before
HasCause before now (Err Failed) = Rose before now × (before ≤ now) × (now ≤ before + 1)
HasCause before now (Err Memory) = now ≡ before

-- a call's count of want of memory rises by one where the call answers `Memory`, and stands else
abbrev pub HasShortage : {T : Type 0} → ℕ → ℕ → Result T IoFault → Type 0
HasShortage before now (Ok x) = now ≡ before
HasShortage before now (Err Failed) = now ≡ before
HasShortage before now (Err Memory) = Rose before now × (before ≤ now) × (now ≤ before + 1)
