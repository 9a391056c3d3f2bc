-- What an image of the library is, and what is wrong with a list that is none.
-- Models: the image and pin descriptors of the SPECCTRA reference.
use Rattle.std.specs.Prelude.{◌≡◌, ℕ, ◌⊎◌, true, false, List, [], ◌∷◌, codes, Some, None, Ok}
use Rattle.sexp_text.specs.Forest.{Forest, End, Word, Branch}
use Rattle.sexp_text.specs.declared.units.Unit.{Unit as LengthUnit}
use Rattle.dsn_lists.specs.declared.faults.DesignFault.{DesignFault}
use Rattle.dsn_lists.specs.declared.faults.DesignKind.TheVariants as kind
use Rattle.dsn_lists.specs.Names.{place_of}
use Rattle.dsn_lists.specs.Words.{same, head_of}
use Rattle.dsn_lists.specs.Lists.{collect, Every, args_of, told, IsFirst}
use Rattle.dsn_lists.specs.ShortLists.{only_lists, HasStray, HasWord, NoWordOr}
use Rattle.dsn_lists.specs.Measures.{Measures}
use Rattle.dsn_lists.specs.PointWords.{StatesLength, LengthWordFault}
use Rattle.dsn_library.specs.Images.{PinWords}
use Rattle.dsn_library.specs.AngleWords.{HasAngle, StatesAngle, AngleWordFault}

-- ---- `(rotate <angle>)`

-- `(rotate <angle>)`, behind its keyword, states this turn
abbrev pub IsRotate : Forest → ℕ → Type 0
IsRotate f e = HasWord (λ text rest. HasAngle text (Ok e) × (only_lists rest ≡ true)) f

-- the fault of a `rotate` list that begins at this byte
abbrev pub RotateFault : ℕ → Forest → DesignFault → Type 0
RotateFault at f e = NoWordOr (λ a text rest e. AngleWordFault a text e ⊎ (StatesAngle text × HasStray rest e)) at f e

-- ---- `(pin <padstack> [(rotate <angle>)] <pin id> x y)`

-- the lists up to a word or the end
abbrev pub first_lists : Forest → Forest
first_lists End = End
first_lists (Word at text rest) = End
first_lists (Branch at inside rest) = Branch at inside (first_lists rest)

-- what follows these lists
abbrev pub behind_lists : Forest → Forest
behind_lists End = End
behind_lists (Word at text rest) = Word at text rest
behind_lists (Branch at inside rest) = behind_lists rest

-- what stands behind the keyword of each `rotate` list
abbrev pub rotates_in : Forest → List Forest
rotates_in f = collect (args_of (codes "rotate")) f

-- of these `rotate` lists there is at most one, which states this turn; without one there is none
abbrev pub StateTurn : List Forest → ℕ → Type 0
StateTurn [] e = e ≡ 0
StateTurn (f ∷ []) e = IsRotate f e
StateTurn (f ∷ g ∷ fs) e = ⊥

-- lists of which at most one turns the pin
abbrev pub AreTurns : Forest → Type 0
AreTurns f = (e : ℕ) × StateTurn (rotates_in f) e

-- the fault of a list behind the padstack of a pin, behind others: it turns the pin again, or states no turn
abbrev pub TurnFault : Forest → ℕ → Forest → DesignFault → Type 0
TurnFault before at inside e =
    (same (head_of inside).text (codes "rotate") ≡ true)
    × ((((f : Forest) × (rotates_in before ≡ f ∷ [])) × (e ≡ told kind.Form at)) ⊎ ((rotates_in before ≡ []) × RotateFault at (head_of inside).args e))

-- a list behind the words of a pin turns no pin
abbrev pub IsPinTrail : ℕ → Forest → Type 0
IsPinTrail at inside = same (head_of inside).text (codes "rotate") ≡ false

-- the fault of a list behind the words of a pin
abbrev pub PinTrailFault : Forest → ℕ → Forest → DesignFault → Type 0
PinTrailFault before at inside e = (same (head_of inside).text (codes "rotate") ≡ true) × (e ≡ told kind.Form at)

-- a pin, behind its keyword, with a padstack of one of these names
abbrev pub IsPin : LengthUnit → List (List ℕ) → Forest → PinWords → Type 0
IsPin u stacks f p =
    HasWord (λ stack rest. (place_of stacks stack ≡ Some p.stack) × StateTurn (rotates_in (first_lists rest)) p.eighths
    × HasWord (λ id after. (id ≡ p.id) × HasWord (λ x more. Measures u x (Ok p.at.x) × HasWord (λ y lists. Measures u y (Ok p.at.y) × Every IsPinTrail lists) more) after) (behind_lists rest)) f

-- the fault of the place of a pin that begins at this byte
abbrev pub PinPlaceFault : LengthUnit → ℕ → Forest → DesignFault → Type 0
PinPlaceFault u at f e =
    NoWordOr (λ a x more e. LengthWordFault u a x e
    ⊎ (StatesLength u x × NoWordOr (λ b y lists e. LengthWordFault u b y e ⊎ (StatesLength u y × IsFirst (Every IsPinTrail) PinTrailFault lists e)) at more e)) at f e

-- the fault of a pin that begins at this byte: its padstack isn't there, a list behind it is at fault, or its id or its place
abbrev pub PinFault : LengthUnit → List (List ℕ) → ℕ → Forest → DesignFault → Type 0
PinFault u stacks at f e =
    NoWordOr (λ a stack rest e. ((place_of stacks stack ≡ None) × (e ≡ told kind.Name a))
    ⊎ (((s : ℕ) × (place_of stacks stack ≡ Some s))
    × (IsFirst AreTurns TurnFault (first_lists rest) e ⊎ (AreTurns (first_lists rest) × NoWordOr (λ b id after e. PinPlaceFault u at after e) at (behind_lists rest) e)))) at f e
