-- What the files under a client's names hold, and why they weren't read.
-- Left out: what the lines say. Cited by `client`, by way of `HasVisited`
use Rattle.std.specs.Prelude.{◌≡◌, ◌⊎◌, ℕ, List, [], ◌∷◌, Some, IfSome}
use Rattle.layout_io.specs.Told.{Disk, FilesTold, bytes_of}
use Rattle.board_rules.specs.declared.design.Design.{Design}
use Rattle.whole_files.specs.Outside.{OnlyRead, FailedRead, ShortRead}
use Rattle.whole_files.specs.declared.stop.Stop.{Stop}
use Rattle.whole_files.specs.declared.stop.Stop.TheVariants as stops
use Rattle.board_files.specs.Inputs.{HasDesign, HasFault}

-- why the design wasn't read, and what was asked for
abbrev pub PlanStop : List ℕ → FilesTold → FilesTold → Stop → Type 0
PlanStop name f g (stops.Design e) = IfSome f.disk (HasFault name e) × OnlyRead (name ∷ []) f g
PlanStop name f g stops.Read = FailedRead (name ∷ []) f g
PlanStop name f g stops.Memory = ShortRead (name ∷ []) f g
PlanStop name f g _ = ⊥

-- the file under the name has this text
abbrev pub HasText : List ℕ → List ℕ → Disk → Type 0
HasText name text disk = bytes_of disk.files name ≡ Some text

-- the one file states this design, and the other has this text
abbrev pub HasInputs : List ℕ → Design → List ℕ → List ℕ → Disk → Type 0
HasInputs design d lines text disk = HasDesign design d disk × HasText lines text disk

-- a read failed: of the design, before the lines were asked for, or of the lines, behind a design
abbrev pub HasFailedRead : List ℕ → List ℕ → FilesTold → FilesTold → Type 0
HasFailedRead design lines f g = FailedRead (design ∷ []) f g ⊎ ((d : Design) × IfSome f.disk (HasDesign design d) × FailedRead (design ∷ lines ∷ []) f g)

-- why the two files weren't read, and what was asked for
abbrev pub LoadStop : List ℕ → List ℕ → FilesTold → FilesTold → Stop → Type 0
LoadStop design lines f g (stops.Design e) = IfSome f.disk (HasFault design e) × OnlyRead (design ∷ []) f g
LoadStop design lines f g stops.Read = HasFailedRead design lines f g
LoadStop design lines f g stops.Memory = ShortRead (design ∷ lines ∷ []) f g
LoadStop design lines f g _ = ⊥
