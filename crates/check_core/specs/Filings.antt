-- What an index of boxes holds of a board: for each live item in order the boxes of its shapes, under its number; and
-- which numbers a question for an item has to tell
-- Cited by all that enters items and asks for them
use Rattle.std.specs.Prelude.{◌≡◌, ℕ, List, [], ◌∷◌, ◌++◌, All}
use Rattle.std.specs.List.{AllByRecursion, Contains}
use Rattle.std.specs.List.Sorted.{IsStrictlyIncreasing}
use Rattle.seg_geometry.specs.declared.near.Filed.{Filed}
use Rattle.seg_geometry.specs.declared.rectangles.Rect.{Rect}
use Rattle.seg_geometry.specs.Near.{IsNear}
use Rattle.area_geometry.specs.Copper.{Copper}
use Rattle.area_geometry.specs.Boxes.{IsBox}
use Rattle.board_items.specs.declared.items.Item.{Item}
use Rattle.board_items.specs.declared.items.Padstack.{Padstack}
use Rattle.board_items.specs.Shapes.{copper_of_item}

-- a shape is filed under the number, on its layer, by its box
pub record IsFiledBy (id : ℕ) (s : Copper) (f : Filed) : Type 0 where
  pub of : f.id ≡ id
  pub on_layer : f.layer ≡ s.layer
  pub box : IsBox f.rect s 0

-- shapes are filed under the number, one after another
abbrev pub AreFiledUnder : ℕ → List Copper → List Filed → Type 0
AreFiledUnder id [] [] = Unit {0}
AreFiledUnder id (s ∷ ss) (f ∷ fs) = IsFiledBy id s f × AreFiledUnder id ss fs
AreFiledUnder id [] (f ∷ fs) = ⊥
AreFiledUnder id (s ∷ ss) [] = ⊥

-- live items are filed under their numbers, one after another
abbrev pub AreFiled : List Padstack → List (ℕ × Item) → List Filed → Type 0
AreFiled stacks [] filed = filed ≡ []
AreFiled stacks (l ∷ rest) filed = (front : List Filed) × (back : List Filed) × (filed ≡ front ++ back) × AreFiledUnder l.0 (copper_of_item stacks l.1) front × AreFiled stacks rest back

-- the list has become longer by what is filed under this number
abbrev pub Lengthens : ℕ → List Filed → List Filed → Type 0
Lengthens id old new = (more : List Filed) × (new ≡ old ++ more) × AllByRecursion (λ (f : Filed). f.id ≡ id) more

-- the list has become longer by this shape
abbrev pub EntersShape : ℕ → Copper → List Filed → List Filed → Type 0
EntersShape id s old new = (f : Filed) × (new ≡ old ++ f ∷ []) × IsFiledBy id s f

-- the list has become longer by these shapes
abbrev pub Enters : ℕ → List Copper → List Filed → List Filed → Type 0
Enters id shapes old new = (more : List Filed) × (new ≡ old ++ more) × AreFiledUnder id shapes more

-- the list has become longer by these live items
abbrev pub EntersAll : List Padstack → List (ℕ × Item) → List Filed → List Filed → Type 0
EntersAll stacks live old new = (more : List Filed) × (new ≡ old ++ more) × AreFiled stacks live more

-- the ids of all that is filed near the shape's box, moved out by so much, are among these
pub record FindsNear (by : ℕ) (filed : List Filed) (ids : List ℕ) (s : Copper) : Type 0 where
  pub box : Rect
  pub box_is : IsBox box s by
  pub found : (f : Filed) → Contains filed f → IsNear s.layer box f → Contains ids f.id

-- the ids rise, and of each shape the ids of all that is filed near it are among them
pub record FindsAll (by : ℕ) (shapes : List Copper) (filed : List Filed) (ids : List ℕ) : Type 0 where
  pub all : All (FindsNear by filed ids) shapes
  pub rising : IsStrictlyIncreasing ids

-- something is filed under the id near the shape's box, moved out by so much
pub record IsFoundBy (by : ℕ) (filed : List Filed) (id : ℕ) (s : Copper) : Type 0 where
  pub box : Rect
  pub box_is : IsBox box s by
  pub file : Filed
  pub file_is : Contains filed file
  pub of : file.id ≡ id
  pub near : IsNear s.layer box file
