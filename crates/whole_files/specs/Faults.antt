-- The words of a design's faults.
-- Cited by the program's line of a stop.
use Rattle.std.specs.Prelude.{ℕ, List, codes}
use Rattle.dsn_lists.specs.declared.faults.DesignKind.{DesignKind}
use Rattle.dsn_lists.specs.declared.faults.DesignKind.TheVariants as kinds

-- the word of a kind
abbrev pub kind_word : DesignKind → List ℕ
kind_word kinds.Unclosed = codes "unclosed"
kind_word kinds.Unopened = codes "unopened"
kind_word kinds.Quote = codes "quote"
kind_word kinds.Deep = codes "deep"
kind_word kinds.Large = codes "large"
kind_word kinds.Form = codes "form"
kind_word kinds.Missing = codes "missing"
kind_word kinds.Twice = codes "twice"
kind_word kinds.Name = codes "name"
kind_word kinds.Unit = codes "unit"
kind_word kinds.Number = codes "number"
kind_word kinds.Range = codes "range"
kind_word kinds.Width = codes "width"
kind_word kinds.Angle = codes "angle"
kind_word kinds.Layer = codes "layer"
kind_word kinds.Arc = codes "arc"
kind_word kinds.Polyline = codes "polyline"
kind_word kinds.Square = codes "square"
kind_word kinds.Window = codes "window"
kind_word kinds.Shape = codes "shape"
kind_word kinds.Points = codes "points"
kind_word kinds.Style = codes "style"
