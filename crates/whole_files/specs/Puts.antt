-- What writing a text to the sink does, by what the sink told before and after.
use Rattle.std.specs.Prelude.{◌≡◌, ℕ, ◌<◌, ◌≤◌, ◌+◌, List, length, take}
use Rattle.std.specs.Io.KnownBytes.{Appends}
use Rattle.layout_io.specs.Causes.{Rose}
use Rattle.layout_io.specs.Told.{SinkTold}
use Rattle.whole_files.specs.declared.stop.Stop.{Stop}
use Rattle.whole_files.specs.declared.stop.Stop.TheVariants as stops

-- the whole text was written, and no count rose
pub record IsPut (text : List ℕ) (o p : SinkTold) : Type 0 where
  pub written : Appends o.written p.written text
  pub faults : p.faults ≡ o.faults
  pub shortages : p.shortages ≡ o.shortages

-- a front of the text was written, and not the whole
pub record IsCut (text : List ℕ) (o p : SinkTold) : Type 0 where
  pub n : ℕ
  pub less : n < length text
  pub written : Appends o.written p.written (take n text)

-- one write failed
pub record MetFault (o p : SinkTold) : Type 0 where
  pub rose : Rose o.faults p.faults
  pub once : p.faults ≤ o.faults + 1
  pub later : o.faults ≤ p.faults
  pub shortages : p.shortages ≡ o.shortages

-- one write met want of memory
pub record MetShortage (o p : SinkTold) : Type 0 where
  pub rose : Rose o.shortages p.shortages
  pub once : p.shortages ≤ o.shortages + 1
  pub faults : p.faults ≡ o.faults

-- why a text is cut in its writing to the sink
abbrev pub PutStop : List ℕ → SinkTold → SinkTold → Stop → Type 0
PutStop text o p stops.Write = IsCut text o p × MetFault o p
PutStop text o p stops.Memory = IsCut text o p × MetShortage o p
PutStop text o p _ = ⊥
