-- What a place of a component is, and what is wrong with a list that is none.
-- Models: the place descriptor of the SPECCTRA reference.
use Rattle.std.specs.Prelude.{◌≡◌, ℕ, ◌⊎◌, true, false, List, Option, Some, None, Ok}
use Rattle.sexp_text.specs.Forest.{Forest, End, Word, Branch}
use Rattle.sexp_text.specs.declared.units.Unit.{Unit as LengthUnit}
use Rattle.dsn_lists.specs.declared.faults.DesignFault.{DesignFault}
use Rattle.dsn_lists.specs.declared.faults.DesignKind.TheVariants as kind
use Rattle.dsn_lists.specs.Names.{is_among}
use Rattle.dsn_lists.specs.Lists.{told}
use Rattle.dsn_lists.specs.ShortLists.{only_lists, HasStray, HasWord, NoWordOr}
use Rattle.dsn_lists.specs.Measures.{Measures}
use Rattle.dsn_lists.specs.PointWords.{StatesLength, LengthWordFault}
use Rattle.dsn_placement.specs.declared.poses.Side.{Side}
use Rattle.dsn_placement.specs.declared.poses.Pose.{Pose}
use Rattle.dsn_placement.specs.Placements.{side_named}
use Rattle.dsn_library.specs.AngleWords.{HasAngle, StatesAngle, AngleWordFault}

-- ---- `(place <id> [x y front|back <angle>] ..)`

-- the word names a side of the board
abbrev pub NamesSide : List ℕ → Type 0
NamesSide text = (s : Side) × (side_named text ≡ Some s)

-- the angle of a component, and lists
abbrev pub IsTurned : Forest → Pose → Type 0
IsTurned f p = HasWord (λ text rest. HasAngle text (Ok p.eighths) × (only_lists rest ≡ true)) f

-- its side, and its angle
abbrev pub IsOnSide : Forest → Pose → Type 0
IsOnSide f p = HasWord (λ text rest. (side_named text ≡ Some p.side) × IsTurned rest p) f

-- its y, and what stands behind it
abbrev pub IsAbove : LengthUnit → Forest → Pose → Type 0
IsAbove u f p = HasWord (λ text rest. Measures u text (Ok p.at.y) × IsOnSide rest p) f

-- where a component is: nowhere without words, else at x and y in nm, on a side, and turned by an angle
abbrev pub IsPose : LengthUnit → Forest → Option Pose → Type 0
IsPose u End o = o ≡ None
IsPose u (Branch at inside rest) o = (o ≡ None) × (only_lists rest ≡ true)
IsPose u (Word at text rest) None = ⊥
IsPose u (Word at text rest) (Some p) = Measures u text (Ok p.at.x) × IsAbove u rest p

-- the list, behind its keyword, gives a component of this name its place
abbrev pub IsPlaceList : LengthUnit → Forest → List ℕ → Option Pose → Type 0
IsPlaceList u f name pose = HasWord (λ text rest. (text ≡ name) × IsPose u rest pose) f

-- ---- the faults

-- the fault of an angle: it is none, or a word follows
abbrev pub TurnedFault : ℕ → Forest → DesignFault → Type 0
TurnedFault at f e = NoWordOr (λ a text rest e. AngleWordFault a text e ⊎ (StatesAngle text × HasStray rest e)) at f e

-- the fault of a side: it is none, or what stands behind it is at fault
abbrev pub OnSideFault : ℕ → Forest → DesignFault → Type 0
OnSideFault at f e = NoWordOr (λ a text rest e. ((side_named text ≡ None) × (e ≡ told kind.Style a)) ⊎ (NamesSide text × TurnedFault at rest e)) at f e

-- the fault of a y: it is no length, or what stands behind it is at fault
abbrev pub AboveFault : LengthUnit → ℕ → Forest → DesignFault → Type 0
AboveFault u at f e = NoWordOr (λ a text rest e. LengthWordFault u a text e ⊎ (StatesLength u text × OnSideFault at rest e)) at f e

-- the fault of what says where a component is: its x is no length, or what stands behind it is at fault; or a word too many
abbrev pub PoseFault : LengthUnit → ℕ → Forest → DesignFault → Type 0
PoseFault u at End e = ⊥
PoseFault u at (Branch a inside rest) e = HasStray rest e
PoseFault u at (Word a text rest) e = LengthWordFault u a text e ⊎ (StatesLength u text × AboveFault u at rest e)

-- the fault of a place that begins at this byte, of one of many components: one before it has its name, or it is nowhere
abbrev pub PlaceListFault : LengthUnit → List (List ℕ) → ℕ → Forest → DesignFault → Type 0
PlaceListFault u names at f e =
    NoWordOr (λ a text rest e. ((is_among text names ≡ true) × (e ≡ told kind.Twice a))
    ⊎ ((is_among text names ≡ false) × PoseFault u at rest e)) at f e
