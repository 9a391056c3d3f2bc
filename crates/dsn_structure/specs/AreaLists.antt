-- The outline areas and keepouts that the lists of a section state.
use Rattle.std.specs.Prelude.{◌≡◌, ℕ, List, [], ◌∷◌, ◌++◌}
use Rattle.std.specs.List.{sum_by}
use Rattle.sexp_text.specs.Forest.{Forest}
use Rattle.sexp_text.specs.declared.units.Unit.{Unit as LengthUnit}
use Rattle.seg_geometry.specs.declared.points.Pt.{Pt}
use Rattle.area_geometry.specs.declared.shapes.Shape.{Shape}
use Rattle.board_items.specs.declared.items.KeepKind.{KeepKind}
use Rattle.board_items.specs.declared.items.Item.{Item}
use Rattle.board_items.specs.declared.items.Item.TheVariants as items
use Rattle.dsn_lists.specs.Words.{head_of}
use Rattle.dsn_shapes.specs.KeepLists.{IsKeepout}
use Rattle.dsn_shapes.specs.OutlineLists.{IsBoundary}
use Rattle.dsn_shapes.specs.QuotaLists.{points_of_shapes}
use Rattle.dsn_structure.specs.declared.structure.StructureWord.{StructureWord}
use Rattle.dsn_structure.specs.declared.structure.StructureWord.TheVariants as words
use Rattle.dsn_structure.specs.Structures.{structure_word}

-- ---- outlines

-- what stands in a boundary
abbrev pub boundaries_of_list : StructureWord → Forest → List Forest
boundaries_of_list words.Boundary f = f ∷ []
boundaries_of_list _ f = []

-- what stands in a list, where it is a boundary
abbrev pub boundaries_in : ℕ → Forest → List Forest
boundaries_in at inside = boundaries_of_list (structure_word (head_of inside).text) (head_of inside).args

-- the boundaries state these areas, one boundary after another
abbrev pub AreOutlines : LengthUnit → List Forest → List (List Pt) → Type 0
AreOutlines u [] areas = areas ≡ []
AreOutlines u (f ∷ fs) areas = (here later : List (List Pt)) × IsBoundary u f here × AreOutlines u fs later × (areas ≡ here ++ later)

-- ---- keepouts

-- what a keepout bars, and what stands in it
pub record Kept : Type 0 where
  pub kind : KeepKind
  pub args : Forest

abbrev pub keeps_of_list : StructureWord → Forest → List Kept
keeps_of_list (words.Keep k) f = record { kind = k; args = f } ∷ []
keeps_of_list _ f = []

-- the list, where it is a keepout
abbrev pub keeps_in : ℕ → Forest → List Kept
keeps_in at inside = keeps_of_list (structure_word (head_of inside).text) (head_of inside).args

-- the items are these keepouts, one by one, with layers of these names
abbrev pub AreKeeps : LengthUnit → List (List ℕ) → List Kept → List Item → Type 0
AreKeeps u layers [] is = is ≡ []
AreKeeps u layers (k ∷ ks) is = (ss : List Shape) × (later : List Item) × IsKeepout u layers k.args ss × AreKeeps u layers ks later × (is ≡ items.Keep k.kind ss ∷ later)

-- how many points the shapes of a keepout have
abbrev pub points_of_keep : Item → ℕ
points_of_keep (items.Keep kind ss) = points_of_shapes ss
points_of_keep _ = 0

-- how many points the shapes of keepouts have
abbrev pub points_of_keeps : List Item → ℕ
points_of_keeps is = sum_by points_of_keep is
