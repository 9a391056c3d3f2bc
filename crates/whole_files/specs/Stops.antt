-- The statuses, their lines, and which counts rise at which.
use Rattle.std.specs.Prelude.{◌≡◌, ◌≢◌, ◌⊎◌, ◌≤◌, ℕ, List, ◌++◌, codes, decimal}
use Rattle.layout_io.specs.Causes.{Rose}
use Rattle.layout_io.specs.Told.{SinkTold, FilesTold}
use Rattle.whole_files.specs.Faults.{kind_word}
use Rattle.whole_files.specs.Puts.{IsPut, IsCut, MetFault, MetShortage}
use Rattle.whole_files.specs.declared.stop.Stop.{Stop}
use Rattle.whole_files.specs.declared.stop.Stop.TheVariants as stops

-- the status of a stop
abbrev pub status_of : Stop → ℕ
status_of (stops.Design e) = 2
status_of stops.Read = 3
status_of stops.Write = 4
status_of (stops.Script k) = 5
status_of (stops.Unclean a b) = 6
status_of stops.Memory = 7

-- the line of a stop
abbrev pub stop_line : Stop → List ℕ
stop_line (stops.Design e) = codes "design " ++ (kind_word e.kind ++ (codes " " ++ (decimal e.at ++ codes "\n")))
stop_line stops.Read = codes "read\n"
stop_line stops.Write = codes "write\n"
stop_line (stops.Script k) = codes "script " ++ (decimal k ++ codes "\n")
stop_line (stops.Unclean a b) = codes "unclean " ++ (decimal a.0 ++ (codes " " ++ (decimal b.0 ++ codes "\n")))
stop_line stops.Memory = codes "memory\n"

-- the line is written whole and no count rises, or it is cut by one fault or one want of memory of its own writing
abbrev pub Tells : List ℕ → SinkTold → SinkTold → Type 0
Tells line o p = IsPut line o p ⊎ (IsCut line o p × (MetFault o p ⊎ MetShortage o p))

-- a stop, what it came of and left, and then its line
pub record Stops (left : SinkTold → Stop → Type 0) (last : SinkTold) (status : ℕ) : Type 0 where
  pub stop : Stop
  pub status_is : status ≡ status_of stop
  pub mid : SinkTold
  pub why : left mid stop
  pub line : Tells (stop_line stop) mid last

-- the statuses that are given
abbrev pub IsStatus : ℕ → Type 0
IsStatus status = status ≤ 7

-- a status comes of a fault only where the count of it rose, and no fault is passed over
pub record HasCounts (status : ℕ) (f g : FilesTold) (o p : SinkTold) : Type 0 where
  pub read : status ≡ 3 → Rose f.read_faults g.read_faults
  pub no_read_fault : status ≢ 3 → g.read_faults ≡ f.read_faults
  pub write : status ≡ 4 → Rose f.write_faults g.write_faults ⊎ Rose o.faults p.faults
  pub no_write_fault : status ≢ 4 → g.write_faults ≡ f.write_faults
  pub no_out_fault : status ≡ 0 → p.faults ≡ o.faults

-- no count of faults rose
pub record NoFault (f g : FilesTold) (o p : SinkTold) : Type 0 where
  pub read : Rose f.read_faults g.read_faults → ⊥
  pub write : Rose f.write_faults g.write_faults → ⊥
  pub out : Rose o.faults p.faults → ⊥
