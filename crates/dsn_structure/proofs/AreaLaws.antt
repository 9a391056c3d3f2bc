-- The outline areas and keepouts that lists state are those that are read.
use Rattle.std.proofs.Common.{◌≡◌, ℕ, List, [], ◌∷◌, ◌++◌, Ok, Err, refl, sym, ap, subst, ◌∙◌}
use Rattle.sexp_text.specs.Forest.{Forest, End, Word, Branch}
use Rattle.sexp_text.specs.declared.units.Unit.{Unit as LengthUnit}
use Rattle.seg_geometry.specs.declared.points.Pt.{Pt}
use Rattle.area_geometry.specs.declared.shapes.Shape.{Shape}
use Rattle.board_items.specs.declared.items.Item.{Item}
use Rattle.board_items.specs.declared.items.Item.TheVariants as items
use Rattle.dsn_lists.specs.Results.{Read}
use Rattle.dsn_lists.specs.Words.{head_of}
use Rattle.dsn_lists.specs.Lists.{collect, Every}
use Rattle.dsn_shapes.specs.Keepouts.{keep_shapes}
use Rattle.dsn_shapes.specs.Outlines.{outlines_of}
use Rattle.dsn_shapes.specs.KeepLists.{IsKeepout}
use Rattle.dsn_shapes.specs.OutlineLists.{IsBoundary}
use Rattle.dsn_shapes.proofs.KeepLaws.{keep_again}
use Rattle.dsn_shapes.proofs.OutlineLaws.{outlines_again}
use Rattle.dsn_structure.specs.declared.structure.StructureWord.{StructureWord}
use Rattle.dsn_structure.specs.declared.structure.StructureWord.TheVariants as words
use Rattle.dsn_structure.specs.Structures.{structure_word}
use Rattle.dsn_structure.specs.AreaLists.{boundaries_of_list, boundaries_in, AreOutlines, Kept, keeps_of_list, keeps_in, AreKeeps}
use Rattle.dsn_structure.specs.Meaning.{IsOfStructure, IsStructureList}

-- ---- what is read of one list

abbrev list_or_none : {A : Type 0} → Read (List A) → List A
list_or_none (Ok xs) = xs
list_or_none (Err e) = []

-- the areas that are read of a boundary
abbrev pub areas_of : LengthUnit → Forest → List (List Pt)
areas_of u f = list_or_none (outlines_of u [] 0 f)

-- the shapes that are read of a keepout
abbrev pub kept_shapes : LengthUnit → List (List ℕ) → Forest → List Shape
kept_shapes u layers f = list_or_none (keep_shapes u layers 0 f)

pub areas_are : (u : LengthUnit) (f : Forest) (areas : List (List Pt)) → IsBoundary u f areas → areas_of u f ≡ areas
areas_are u f areas h = ap list_or_none (outlines_again u [] 0 f areas h)

pub shapes_are : (u : LengthUnit) (layers : List (List ℕ)) (f : Forest) (ss : List Shape) → IsKeepout u layers f ss → kept_shapes u layers f ≡ ss
shapes_are u layers f ss h = ap list_or_none (keep_again u layers 0 f ss h)

-- the areas of a boundary, by its keyword
abbrev pub areas_of_list : LengthUnit → StructureWord → Forest → List (List Pt)
areas_of_list u words.Boundary f = areas_of u f
areas_of_list u _ f = []

abbrev pub areas_in : LengthUnit → ℕ → Forest → List (List Pt)
areas_in u at inside = areas_of_list u (structure_word (head_of inside).text) (head_of inside).args

-- the item of a keepout, by its keyword
abbrev pub items_of_list : LengthUnit → List (List ℕ) → StructureWord → Forest → List Item
items_of_list u layers (words.Keep k) f = items.Keep k (kept_shapes u layers f) ∷ []
items_of_list u layers _ f = []

abbrev pub items_in : LengthUnit → List (List ℕ) → ℕ → Forest → List Item
items_in u layers at inside = items_of_list u layers (structure_word (head_of inside).text) (head_of inside).args

-- ---- outlines

one_outline : (u : LengthUnit) (layers : List (List ℕ)) (k : StructureWord) (f : Forest) (fs : List Forest) (areas : List (List Pt)) → IsOfStructure u layers k f → AreOutlines u fs areas
    → AreOutlines u (boundaries_of_list k f ++ fs) (areas_of_list u k f ++ areas)
one_outline u layers words.Boundary f fs areas h more =
    (areas_of u f, areas, subst (IsBoundary u f) (sym (areas_are u f h.0 h.1)) h.1, more, refl)
one_outline u layers words.Layer f fs areas h more = more
one_outline u layers words.Via f fs areas h more = more
one_outline u layers words.Rule f fs areas h more = more
one_outline u layers words.PlaceControl f fs areas h more = more
one_outline u layers words.Unit f fs areas h more = more
one_outline u layers words.Resolution f fs areas h more = more
one_outline u layers (words.Keep k) f fs areas h more = more
one_outline u layers words.Other f fs areas h more = more

-- the areas that are read are those of all boundaries
pub outlines_found : (u : LengthUnit) (layers : List (List ℕ)) (f : Forest) → Every (IsStructureList u layers) f → AreOutlines u (collect boundaries_in f) (collect (areas_in u) f)
outlines_found u layers End h = refl
outlines_found u layers (Word at text rest) h = absurd h
outlines_found u layers (Branch at inside rest) h =
    one_outline u layers (structure_word (head_of inside).text) (head_of inside).args (collect boundaries_in rest) (collect (areas_in u) rest) h.0 (outlines_found u layers rest h.1)

one_outline_is : (u : LengthUnit) (k : StructureWord) (f : Forest) (fs : List Forest) (areas : List (List Pt)) → AreOutlines u (boundaries_of_list k f ++ fs) areas
    → (later : List (List Pt)) × AreOutlines u fs later × (areas ≡ areas_of_list u k f ++ later)
one_outline_is u words.Boundary f fs areas h = (h.1, h.3, h.4 ∙ ap (λ (xs : List (List Pt)). xs ++ h.1) (sym (areas_are u f h.0 h.2)))
one_outline_is u words.Layer f fs areas h = (areas, h, refl)
one_outline_is u words.Via f fs areas h = (areas, h, refl)
one_outline_is u words.Rule f fs areas h = (areas, h, refl)
one_outline_is u words.PlaceControl f fs areas h = (areas, h, refl)
one_outline_is u words.Unit f fs areas h = (areas, h, refl)
one_outline_is u words.Resolution f fs areas h = (areas, h, refl)
one_outline_is u (words.Keep k) f fs areas h = (areas, h, refl)
one_outline_is u words.Other f fs areas h = (areas, h, refl)

-- boundaries have one list of areas
pub outlines_are : (u : LengthUnit) (f : Forest) (areas : List (List Pt)) → AreOutlines u (collect boundaries_in f) areas → collect (areas_in u) f ≡ areas
outlines_are u End areas h = sym h
outlines_are u (Word at text rest) areas h = outlines_are u rest areas h
outlines_are u (Branch at inside rest) areas h =
    let one = one_outline_is u (structure_word (head_of inside).text) (head_of inside).args (collect boundaries_in rest) areas h in
    ap (λ (xs : List (List Pt)). areas_in u at inside ++ xs) (outlines_are u rest one.0 one.1) ∙ sym one.2

-- ---- keepouts

one_keep : (u : LengthUnit) (layers : List (List ℕ)) (k : StructureWord) (f : Forest) (ks : List Kept) (is : List Item) → IsOfStructure u layers k f → AreKeeps u layers ks is
    → AreKeeps u layers (keeps_of_list k f ++ ks) (items_of_list u layers k f ++ is)
one_keep u layers (words.Keep k) f ks is h more =
    (kept_shapes u layers f, is, subst (IsKeepout u layers f) (sym (shapes_are u layers f h.0 h.1)) h.1, more, refl)
one_keep u layers words.Layer f ks is h more = more
one_keep u layers words.Via f ks is h more = more
one_keep u layers words.Rule f ks is h more = more
one_keep u layers words.PlaceControl f ks is h more = more
one_keep u layers words.Unit f ks is h more = more
one_keep u layers words.Resolution f ks is h more = more
one_keep u layers words.Boundary f ks is h more = more
one_keep u layers words.Other f ks is h more = more

-- the items that are read are all keepouts
pub keeps_found : (u : LengthUnit) (layers : List (List ℕ)) (f : Forest) → Every (IsStructureList u layers) f → AreKeeps u layers (collect keeps_in f) (collect (items_in u layers) f)
keeps_found u layers End h = refl
keeps_found u layers (Word at text rest) h = absurd h
keeps_found u layers (Branch at inside rest) h =
    one_keep u layers (structure_word (head_of inside).text) (head_of inside).args (collect keeps_in rest) (collect (items_in u layers) rest) h.0 (keeps_found u layers rest h.1)

one_keep_is : (u : LengthUnit) (layers : List (List ℕ)) (k : StructureWord) (f : Forest) (ks : List Kept) (is : List Item) → AreKeeps u layers (keeps_of_list k f ++ ks) is
    → (later : List Item) × AreKeeps u layers ks later × (is ≡ items_of_list u layers k f ++ later)
one_keep_is u layers (words.Keep k) f ks is h = (h.1, h.3, h.4 ∙ ap (λ (ss : List Shape). items.Keep k ss ∷ h.1) (sym (shapes_are u layers f h.0 h.2)))
one_keep_is u layers words.Layer f ks is h = (is, h, refl)
one_keep_is u layers words.Via f ks is h = (is, h, refl)
one_keep_is u layers words.Rule f ks is h = (is, h, refl)
one_keep_is u layers words.PlaceControl f ks is h = (is, h, refl)
one_keep_is u layers words.Unit f ks is h = (is, h, refl)
one_keep_is u layers words.Resolution f ks is h = (is, h, refl)
one_keep_is u layers words.Boundary f ks is h = (is, h, refl)
one_keep_is u layers words.Other f ks is h = (is, h, refl)

-- keepouts are one list of items
pub keeps_are : (u : LengthUnit) (layers : List (List ℕ)) (f : Forest) (is : List Item) → AreKeeps u layers (collect keeps_in f) is → collect (items_in u layers) f ≡ is
keeps_are u layers End is h = sym h
keeps_are u layers (Word at text rest) is h = keeps_are u layers rest is h
keeps_are u layers (Branch at inside rest) is h =
    let one = one_keep_is u layers (structure_word (head_of inside).text) (head_of inside).args (collect keeps_in rest) is h in
    ap (λ (xs : List Item). items_in u layers at inside ++ xs) (keeps_are u layers rest one.0 one.1) ∙ sym one.2
