-- The images that stand in a library are those that are read, and the fault of one is the one that is told.
use Rattle.std.proofs.Common.{◌≡◌, ℕ, true, false, List, [], ◌∷◌, Ok, Err, refl, sym, ap, subst, inl, inr, ◌⊎◌}
use Rattle.sexp_text.specs.Forest.{Forest, End, Word, Branch}
use Rattle.sexp_text.specs.declared.units.Unit.{Unit as LengthUnit}
use Rattle.dsn_lists.specs.declared.faults.DesignFault.{DesignFault}
use Rattle.dsn_lists.specs.declared.faults.DesignKind.TheVariants as kind
use Rattle.dsn_lists.specs.Results.{Read, ◌>>=◌, each}
use Rattle.dsn_lists.specs.Names.{is_among}
use Rattle.dsn_lists.specs.Words.{mark, word_of}
use Rattle.dsn_lists.specs.Units.{governing}
use Rattle.dsn_lists.specs.Lists.{Every, told, IsFirst}
use Rattle.dsn_lists.specs.Measures.{governing_unit}
use Rattle.dsn_lists.proofs.Firsts.{made, ok_is, bind_ok, bind_err, word_fault, word_fault_again}
use Rattle.dsn_lists.proofs.UnitLaws.{governs}
use Rattle.dsn_lists.proofs.NewNameLaws.{fresh_found, fresh_again, fresh_fault, fresh_fault_again}
use Rattle.dsn_library.specs.declared.images.Image.{Image}
use Rattle.dsn_library.specs.Images.{image_item, no_image, image_of}
use Rattle.dsn_library.specs.ImageMeaning.{IsImageList, HasParts, IsImage, ImageListFault, ImageFault}
use Rattle.dsn_lists.specs.NewNames.{first_name, fresh_name}
use Rattle.dsn_library.proofs.ImageListLaws.{parts_found, parts_again, lists_fault, lists_fault_again}

-- ---- the lists, where a unit governs

-- what follows the name
abbrev lists_rest : LengthUnit → List (List ℕ) → List (List ℕ) → List ℕ → Forest → Read (List ℕ × Image)
lists_rest u layers stacks name f = each (image_item (governing u f) layers stacks) no_image f >>= λ m. made (name, m)

-- what follows the word of the name
abbrev name_rest : LengthUnit → List (List ℕ) → List (List ℕ) → List (List ℕ) → ℕ → List ℕ → Forest → Read (List ℕ × Image)
name_rest u layers stacks images a text f = fresh_name images (mark a text) >>= λ _. lists_rest u layers stacks text f

abbrev pair : List ℕ → Image → List ℕ × Image
pair name m = (name, m)

parts_of_pair : (name : List ℕ) (m : Image) (x : List ℕ × Image) → made (pair name m) ≡ made x → (name ≡ x.0) × (m ≡ x.1)
parts_of_pair name m x e = let same = ok_is (pair name m) x e in (ap (λ (y : List ℕ × Image). y.0) same, ap (λ (y : List ℕ × Image). y.1) same)

governed : (u : LengthUnit) (layers stacks : List (List ℕ)) (f : Forest) (m : Image) → each (image_item (governing u f) layers stacks) no_image f ≡ Ok m → HasParts (governing_unit u f) layers stacks f m
governed u layers stacks f m e = subst (λ (w : LengthUnit). HasParts w layers stacks f m) (governs u f) (parts_found (governing u f) layers stacks f m e)

governed_again : (u : LengthUnit) (layers stacks : List (List ℕ)) (f : Forest) (m : Image) → HasParts (governing_unit u f) layers stacks f m → each (image_item (governing u f) layers stacks) no_image f ≡ Ok m
governed_again u layers stacks f m h = parts_again (governing u f) layers stacks f m (subst (λ (w : LengthUnit). HasParts w layers stacks f m) (sym (governs u f)) h)

-- the first fault of the lists of an image
abbrev FirstFault : LengthUnit → List (List ℕ) → List (List ℕ) → Forest → DesignFault → Type 0
FirstFault w layers stacks f e = IsFirst (Every (IsImageList w layers stacks)) (ImageListFault w layers stacks) f e

-- ---- an image

pub image_found : (u : LengthUnit) (layers stacks images : List (List ℕ)) (at : ℕ) (f : Forest) (x : List ℕ × Image) → image_of u layers stacks images at f ≡ Ok x → IsImage u layers stacks f x.1 × (first_name f ≡ x.0 ∷ []) × (is_among x.0 images ≡ false)
unfolding image_of word_of
image_found u layers stacks images at End x e = absurd cc
image_found u layers stacks images at (Branch a inside rest) x e = absurd cc
image_found u layers stacks images at (Word a text rest) x e =
    let new = bind_ok (fresh_name images (mark a text)) (λ _. lists_rest u layers stacks text rest) x e in
    let m = bind_ok (each (image_item (governing u rest) layers stacks) no_image rest) (λ m. made (pair text m)) x new.2 in
    let same = parts_of_pair text m.0 x m.2 in (
      subst (λ (y : Image). HasParts (governing_unit u rest) layers stacks rest y) same.1 (governed u layers stacks rest m.0 m.1),
      ap (λ (y : List ℕ). y ∷ []) same.0,
      subst (λ (y : List ℕ). is_among y images ≡ false) same.0 (fresh_found images a text new.0 new.1),
    )

pub image_again : (u : LengthUnit) (layers stacks images : List (List ℕ)) (at : ℕ) (f : Forest) (name : List ℕ) (m : Image) → IsImage u layers stacks f m → first_name f ≡ name ∷ [] → is_among name images ≡ false → image_of u layers stacks images at f ≡ Ok (name, m)
unfolding image_of word_of
image_again u layers stacks images at End name m h is new = absurd h
image_again u layers stacks images at (Branch a inside rest) name m h is new = absurd h
image_again u layers stacks images at (Word a text rest) name m h is new =
    let same : text ≡ name = first_is text name is in
    let fresh = subst (λ (y : List ℕ). is_among y images ≡ false) (sym same) new in
    rw (fresh_again images a text fresh, governed_again u layers stacks rest m h) (ap (λ (y : List ℕ). made (pair y m)) same)
  where
    first_is : (x y : List ℕ) → x ∷ [] ≡ y ∷ [] → x ≡ y
    first_is x y e = cc

-- an image has a name
pub image_name : (u : LengthUnit) (layers stacks : List (List ℕ)) (f : Forest) (m : Image) → IsImage u layers stacks f m → (name : List ℕ) × (first_name f ≡ name ∷ [])
image_name u layers stacks End m h = absurd h
image_name u layers stacks (Branch a inside rest) m h = absurd h
image_name u layers stacks (Word a text rest) m h = (text, refl)

abbrev read_list : Read (List ℕ × Image) → List Image
read_list (Ok x) = x.1 ∷ []
read_list (Err e) = []

-- the image of a list, where it is one
abbrev pub image_value : LengthUnit → List (List ℕ) → List (List ℕ) → Forest → List Image
image_value u layers stacks f = read_list (image_of u layers stacks [] 0 f)

-- an image is what is read
pub image_is : (u : LengthUnit) (layers stacks : List (List ℕ)) (f : Forest) (m : Image) → IsImage u layers stacks f m → image_value u layers stacks f ≡ m ∷ []
image_is u layers stacks f m h =
    let name = image_name u layers stacks f m h in
    ap read_list (image_again u layers stacks [] 0 f name.0 m h name.1 refl)

-- ---- the fault of an image

abbrev NameFault : LengthUnit → List (List ℕ) → List (List ℕ) → List (List ℕ) → ℕ → List ℕ → Forest → DesignFault → Type 0
NameFault u layers stacks images a name rest e =
    ((is_among name images ≡ true) × (e ≡ told kind.Twice a)) ⊎ ((is_among name images ≡ false) × FirstFault (governing_unit u rest) layers stacks rest e)

rest_fault : (u : LengthUnit) (layers stacks : List (List ℕ)) (name : List ℕ) (rest : Forest) (e : DesignFault) → lists_rest u layers stacks name rest ≡ Err e → FirstFault (governing_unit u rest) layers stacks rest e
rest_fault u layers stacks name rest e h =
    elim (bind_err (each (image_item (governing u rest) layers stacks) no_image rest) (λ m. made (pair name m)) e h) [
      | inl here ↦ subst (λ (w : LengthUnit). FirstFault w layers stacks rest e) (governs u rest) (lists_fault (governing u rest) layers stacks rest e here)
      | inr later ↦ absurd cc
    ]

name_fault : (u : LengthUnit) (layers stacks images : List (List ℕ)) (a : ℕ) (text : List ℕ) (rest : Forest) (e : DesignFault) → name_rest u layers stacks images a text rest ≡ Err e → NameFault u layers stacks images a text rest e
name_fault u layers stacks images a text rest e h =
    elim (bind_err (fresh_name images (mark a text)) (λ _. lists_rest u layers stacks text rest) e h) [
      | inl here ↦ inl (fresh_fault images a text e here)
      | inr later ↦ inr (fresh_found images a text later.0 later.1, rest_fault u layers stacks text rest e later.2)
    ]

name_fault_again : (u : LengthUnit) (layers stacks images : List (List ℕ)) (a : ℕ) (text : List ℕ) (rest : Forest) (e : DesignFault) → NameFault u layers stacks images a text rest e → name_rest u layers stacks images a text rest ≡ Err e
name_fault_again u layers stacks images a text rest e (inl old) = rw (fresh_fault_again images a text e old.0 old.1) refl
name_fault_again u layers stacks images a text rest e (inr later) =
    let first = subst (λ (w : LengthUnit). FirstFault w layers stacks rest e) (sym (governs u rest)) later.1 in
    rw (fresh_again images a text later.0, lists_fault_again (governing u rest) layers stacks rest e first) refl

pub image_fault : (u : LengthUnit) (layers stacks images : List (List ℕ)) (at : ℕ) (f : Forest) (e : DesignFault) → image_of u layers stacks images at f ≡ Err e → ImageFault u layers stacks images at f e
unfolding image_of
image_fault u layers stacks images at f e h = word_fault _ (NameFault u layers stacks images) at f e (λ a text rest k. name_fault u layers stacks images a text rest e k) h

pub image_fault_again : (u : LengthUnit) (layers stacks images : List (List ℕ)) (at : ℕ) (f : Forest) (e : DesignFault) → ImageFault u layers stacks images at f e → image_of u layers stacks images at f ≡ Err e
unfolding image_of
image_fault_again u layers stacks images at f e h = word_fault_again _ (NameFault u layers stacks images) at f e (λ a text rest k. name_fault_again u layers stacks images a text rest e k) h
