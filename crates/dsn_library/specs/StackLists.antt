-- What a padstack of a library is, and what is wrong with a list that is none.
-- Models: the padstack descriptor of the SPECCTRA reference. Left out: rotated and absolute padstacks, which are refused.
use Rattle.std.specs.Prelude.{◌≡◌, ℕ, ◌<◌, ◌⊎◌, Bool, true, false, List, [], ◌∷◌, codes, length}
use Rattle.std.specs.List.{flat_map}
use Rattle.row_lists.specs.Limits.{padstack_limit}
use Rattle.sexp_text.specs.Forest.{Forest, End, Word, Branch}
use Rattle.sexp_text.specs.declared.units.Unit.{Unit as LengthUnit}
use Rattle.area_geometry.specs.declared.shapes.Shape.{Shape}
use Rattle.board_items.specs.declared.items.Padstack.{Padstack}
use Rattle.dsn_lists.specs.declared.faults.DesignFault.{DesignFault}
use Rattle.dsn_lists.specs.declared.faults.DesignKind.TheVariants as kind
use Rattle.dsn_lists.specs.Words.{Heading, same, head_of}
use Rattle.dsn_lists.specs.Lists.{Joins, told, IsFirst}
use Rattle.dsn_lists.specs.ShortLists.{HasWord, NoWordOr}
use Rattle.dsn_library.specs.declared.stacks.StackWord.{StackWord}
use Rattle.dsn_library.specs.declared.stacks.StackWord.TheVariants as stacks
use Rattle.dsn_library.specs.Libraries.{stack_word}
use Rattle.dsn_lists.specs.NewNames.{IsNewName, OldNameFault}
use Rattle.dsn_shapes.specs.DrawnLists.{IsShapeList, ShapeListFault}

-- ---- the lists of a padstack

-- this word stands first
abbrev pub starts_with : List ℕ → Forest → Bool
starts_with word End = false
starts_with word (Word at text rest) = same text word
starts_with word (Branch at inside rest) = false

-- the fault that this word stands first
abbrev pub StartFault : List ℕ → Forest → DesignFault → Type 0
StartFault word End e = ⊥
StartFault word (Word at text rest) e = (same text word ≡ true) × (e ≡ told kind.Form at)
StartFault word (Branch at inside rest) e = ⊥

-- what a list of a padstack has to be, by its keyword, and the shapes of each `shape` list
abbrev pub StacksBy : LengthUnit → List (List ℕ) → StackWord → Forest → List (List Shape) → Type 0
StacksBy u layers stacks.Shapes f drawn = (ss : List Shape) × IsShapeList u layers f ss × (drawn ≡ ss ∷ [])
StacksBy u layers stacks.Window f drawn = ⊥
StacksBy u layers stacks.Rotate f drawn = (starts_with (codes "off") f ≡ false) × (drawn ≡ [])
StacksBy u layers stacks.Absolute f drawn = (starts_with (codes "on") f ≡ false) × (drawn ≡ [])
StacksBy u layers stacks.Other f drawn = drawn ≡ []

-- a list that can stand in a padstack, and the shapes of each `shape` list
abbrev pub IsStackList : LengthUnit → List (List ℕ) → Forest → List (List Shape) → Type 0
IsStackList u layers inside drawn = StacksBy u layers (stack_word (head_of inside).text) (head_of inside).args drawn

-- what is wrong with a list of a padstack, by its keyword
abbrev pub StacksByFault : LengthUnit → List (List ℕ) → ℕ → Heading → StackWord → DesignFault → Type 0
StacksByFault u layers at h stacks.Shapes e = ShapeListFault u layers at h.args e
StacksByFault u layers at h stacks.Window e = e ≡ told kind.Window h.at
StacksByFault u layers at h stacks.Rotate e = StartFault (codes "off") h.args e
StacksByFault u layers at h stacks.Absolute e = StartFault (codes "on") h.args e
StacksByFault u layers at h stacks.Other e = ⊥

-- the fault of a list of a padstack
abbrev pub StackListFault : LengthUnit → List (List ℕ) → Forest → ℕ → Forest → DesignFault → Type 0
StackListFault u layers before at inside e = StacksByFault u layers at (head_of inside) (stack_word (head_of inside).text) e

-- lists that can stand in a padstack
abbrev pub AreStackLists : LengthUnit → List (List ℕ) → Forest → Type 0
AreStackLists u layers f = (drawn : List (List Shape)) × Joins (IsStackList u layers) f drawn

-- ---- `(padstack <id> (shape <shape> ..) ..)`

-- a padstack of this name with these lists, of which one or more state shapes: all of them, in order
pub record IsNamedStack (u : LengthUnit) (layers : List (List ℕ)) (name : List ℕ) (f : Forest) (p : Padstack) : Type 0 where
  pub drawn : List (List Shape)
  pub lists : Joins (IsStackList u layers) f drawn
  pub some : 0 < length drawn
  pub name_is : p.name ≡ name
  pub shapes : p.shapes ≡ flat_map (λ (ss : List Shape). ss) drawn

-- the list, behind its keyword, is this padstack
abbrev pub IsStack : LengthUnit → List (List ℕ) → Forest → Padstack → Type 0
IsStack u layers f p = HasWord (λ name rest. IsNamedStack u layers name rest p) f

-- the first fault of the lists of a padstack that begins at this byte; where none states shapes it is told there
abbrev pub NoStackFault : LengthUnit → List (List ℕ) → ℕ → Forest → DesignFault → Type 0
NoStackFault u layers at f e = IsFirst (AreStackLists u layers) (StackListFault u layers) f e ⊎ (Joins (IsStackList u layers) f [] × (e ≡ told kind.Form at))

-- the fault of a padstack behind padstacks of these names: its name isn't new, or its lists are at fault
abbrev pub StackFault : LengthUnit → List (List ℕ) → List (List ℕ) → ℕ → Forest → DesignFault → Type 0
StackFault u layers names at f e =
    NoWordOr (λ a text rest e. OldNameFault padstack_limit names text a e
    ⊎ (IsNewName padstack_limit names text × NoStackFault u layers at rest e)) at f e
