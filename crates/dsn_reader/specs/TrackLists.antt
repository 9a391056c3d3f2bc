-- The path of a wire on its layer, and what is wrong with a list that is none.
-- Models: the path descriptor of the SPECCTRA reference, with round apertures alone.
use Rattle.std.specs.Prelude.{◌≡◌, ℕ, ◌⊎◌, List, Some, None}
use Rattle.sexp_text.specs.Forest.{Forest}
use Rattle.sexp_text.specs.declared.units.Unit.{Unit as LengthUnit}
use Rattle.dsn_lists.specs.declared.faults.DesignFault.{DesignFault}
use Rattle.dsn_lists.specs.declared.faults.DesignKind.TheVariants as kind
use Rattle.dsn_lists.specs.Names.{place_of}
use Rattle.dsn_lists.specs.Lists.{told}
use Rattle.dsn_lists.specs.ShortLists.{HasWord, NoWordOr}
use Rattle.dsn_lists.specs.ShapeLists.{IsPath, PathFault}
use Rattle.dsn_reader.specs.declared.wires.Track.{Track}

-- a path on the one layer that the first word names
abbrev pub IsTrack : LengthUnit → List (List ℕ) → Forest → Track → Type 0
IsTrack u layers f t = HasWord (λ text rest. (place_of layers text ≡ Some t.layer) × IsPath u rest (record { width = t.width; points = t.points })) f

-- the word names a layer
abbrev pub NamesLayer : List (List ℕ) → List ℕ → Type 0
NamesLayer layers text = (n : ℕ) × (place_of layers text ≡ Some n)

-- the fault of a path on a layer, in the list that begins at this byte
abbrev pub TrackFault : LengthUnit → List (List ℕ) → ℕ → Forest → DesignFault → Type 0
TrackFault u layers at f e = NoWordOr (λ a text rest e. ((place_of layers text ≡ None) × (e ≡ told kind.Layer a)) ⊎ (NamesLayer layers text × PathFault u at rest e)) at f e
