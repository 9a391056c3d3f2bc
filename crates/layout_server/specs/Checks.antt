-- What `check` leaves at its end, and what at each stop.
use Rattle.std.specs.Prelude.{◌≡◌, ◌⊎◌, ℕ, List, [], ◌∷◌, ◌++◌, length, IfSome, codes, decimal}
use Rattle.layout_io.specs.Told.{SinkTold, FilesTold}
use Rattle.board_rules.specs.declared.design.Design.{Design}
use Rattle.whole_files.specs.Outside.{OnlyRead, ShortRead}
use Rattle.whole_files.specs.Puts.{IsPut, IsCut, MetFault, MetShortage}
use Rattle.board_files.specs.Inputs.{HasClean}
use Rattle.board_files.specs.Loads.{DesignStop}
use Rattle.whole_files.specs.declared.stop.Stop.{Stop}
use Rattle.whole_files.specs.declared.stop.Stop.TheVariants as stops

-- the line that tells how many items a clean design has
abbrev pub clean_line : ℕ → List ℕ
clean_line count = codes "clean " ++ (decimal count ++ codes "\n")

-- the line of a design's loaded items
abbrev pub line_of : Design → List ℕ
line_of d = clean_line (length d.parts.items)

-- the file states a clean design, the output is the line of its loaded items, no file changed and no count rose
pub record Checks (name : List ℕ) (f g : FilesTold) (o p : SinkTold) : Type 0 where
  pub design : Design
  pub has : IfSome f.disk (HasClean name design)
  pub out : IsPut (line_of design) o p
  pub reads : OnlyRead (name ∷ []) f g

-- the file states a clean design, and the line of its loaded items is cut
pub record CutCheck (name : List ℕ) (f : FilesTold) (o p : SinkTold) : Type 0 where
  pub design : Design
  pub has : IfSome f.disk (HasClean name design)
  pub out : IsCut (line_of design) o p

-- why `check` stops, and what it leaves written before the stop's line
abbrev pub CheckStop : List ℕ → FilesTold → FilesTold → SinkTold → SinkTold → Stop → Type 0
CheckStop name f g o p stops.Write = CutCheck name f o p × MetFault o p × OnlyRead (name ∷ []) f g
CheckStop name f g o p stops.Memory = ShortRead (name ∷ []) f g × ((p ≡ o) ⊎ (CutCheck name f o p × MetShortage o p))
CheckStop name f g o p stop = DesignStop name f g stop × (p ≡ o)
