-- The lists of an image state the parts that are read, and their first fault is the one that is told.
use Rattle.std.proofs.Common.{◌≡◌, ℕ, List, [], ◌∷◌, ◌++◌, Option, Some, Ok, Err, refl, sym, ap, subst, ◌∙◌, append_assoc, inl, inr}
use Rattle.std.proofs.lemmas.List.{append-nil}
use Rattle.sexp_text.specs.Forest.{Forest, End, Word, Branch}
use Rattle.sexp_text.specs.declared.units.Unit.{Unit as LengthUnit}
use Rattle.area_geometry.specs.declared.shapes.Shape.{Shape}
use Rattle.dsn_lists.specs.declared.faults.DesignFault.{DesignFault}
use Rattle.dsn_lists.specs.Results.{Read, each}
use Rattle.dsn_lists.specs.Names.{place_of}
use Rattle.dsn_lists.specs.Words.{Heading, head_of}
use Rattle.dsn_lists.specs.Units.{unit_list}
use Rattle.dsn_lists.specs.Lists.{collect, Every, IsFirst}
use Rattle.dsn_lists.specs.ShortLists.{HasWord}
use Rattle.dsn_lists.proofs.Firsts.{made, ok_is, bind_ok, bind_err, first_found, first_again}
use Rattle.dsn_lists.proofs.UnitLaws.{unit_found, unit_again, unit_fault, unit_fault_again}
use Rattle.dsn_shapes.specs.Keepouts.{keep_shapes}
use Rattle.dsn_shapes.proofs.KeepLaws.{keep_found, keep_again, keep_fault, keep_fault_again}
use Rattle.dsn_shapes.proofs.NameLaws.{with_all, with_more, each_once_is}
use Rattle.dsn_library.specs.declared.images.Image.{Image}
use Rattle.dsn_library.specs.declared.images.ImagePart.{ImagePart}
use Rattle.dsn_library.specs.declared.images.ImagePart.TheVariants as parts
use Rattle.dsn_library.specs.declared.image_lists.ImageWord.{ImageWord}
use Rattle.dsn_library.specs.declared.image_lists.ImageWord.TheVariants as words
use Rattle.dsn_library.specs.Images.{PinWords, pin_of, number_with, with_pin, with_keep, image_word, image_list, image_item, no_image}
use Rattle.dsn_library.specs.ImageLists.{IsPin, behind_lists}
use Rattle.dsn_library.specs.ImageMeaning.{IsOfImage, IsImageList, id_of_list, ids_in, IsPart, part_of_list, parts_in, AreParts, HasParts, OfImageFault, ImageListFault}
use Rattle.dsn_lists.specs.NewNames.{first_name}
use Rattle.dsn_library.proofs.PinListLaws.{pin_found, pin_again, pin_fault, pin_fault_again}
use Rattle.dsn_lists.proofs.Growing.{Grows, grows_same, grows_then}
use Rattle.dsn_library.proofs.Growing.{grows_all, place_with}

-- ---- what lists add to an image

-- the second image is the first with these ids, and behind its parts those of these lists, for whatever ids come later
record IsGrown (u : LengthUnit) (layers stacks : List (List ℕ)) (m z : Image) (ids : List (List ℕ)) (lists : List (ImageWord × Forest)) : Type 0 where
  ids_are : z.ids ≡ with_all m.ids ids
  added : List ImagePart
  parts_are : z.parts ≡ m.parts ++ added
  stated : (names : List (List ℕ)) → Grows z.ids names → AreParts u layers stacks names lists added

parts_join : (u : LengthUnit) (layers stacks ids : List (List ℕ)) (ls ms : List (ImageWord × Forest)) (ps qs : List ImagePart) → AreParts u layers stacks ids ls ps → AreParts u layers stacks ids ms qs → AreParts u layers stacks ids (ls ++ ms) (ps ++ qs)
parts_join u layers stacks ids [] ms [] qs h k = k
parts_join u layers stacks ids [] ms (p ∷ ps) qs h k = absurd cc
parts_join u layers stacks ids (l ∷ ls) ms [] qs h k = absurd h
parts_join u layers stacks ids (l ∷ ls) ms (p ∷ ps) qs h k = (h.0, parts_join u layers stacks ids ls ms ps qs h.1 k)

grown_none : (u : LengthUnit) (layers stacks : List (List ℕ)) (m : Image) → IsGrown u layers stacks m m [] []
grown_none u layers stacks m = record { ids_are = refl; added = []; parts_are = sym (append-nil m.parts); stated = λ names g. refl }

grown_both : (u : LengthUnit) (layers stacks : List (List ℕ)) (m y z : Image) (ids more : List (List ℕ)) (ls ms : List (ImageWord × Forest)) → IsGrown u layers stacks m y ids ls → IsGrown u layers stacks y z more ms → IsGrown u layers stacks m z (ids ++ more) (ls ++ ms)
grown_both u layers stacks m y z ids more ls ms g h =
    let grows : Grows y.ids z.ids = subst (λ (xs : List (List ℕ)). Grows y.ids xs) (sym h.ids_are) (grows_all more y.ids) in
    record {
      ids_are = h.ids_are ∙ ap (λ (xs : List (List ℕ)). with_all xs more) g.ids_are ∙ with_more m.ids ids more;
      added = g.added ++ h.added;
      parts_are = h.parts_are ∙ ap (λ (ps : List ImagePart). ps ++ h.added) g.parts_are ∙ append_assoc m.parts g.added h.added;
      stated = λ names k. parts_join u layers stacks names ls ms g.added h.added (g.stated names (grows_then y.ids z.ids names grows k)) (h.stated names k);
    }

-- ---- one list

-- the id of a pin stands first behind the lists
id_first : (Rest : Forest → Type 0) (f : Forest) (id : List ℕ) → HasWord (λ text after. (text ≡ id) × Rest after) f → first_name f ≡ id ∷ []
id_first Rest End id h = absurd h
id_first Rest (Branch a inside rest) id h = absurd h
id_first Rest (Word a text rest) id h = ap (λ (x : List ℕ). x ∷ []) h.0

pin_id : (u : LengthUnit) (stacks : List (List ℕ)) (f : Forest) (p : PinWords) → IsPin u stacks f p → id_of_list words.Pin f ≡ p.id ∷ []
pin_id u stacks End p h = absurd h
pin_id u stacks (Branch a inside rest) p h = absurd h
pin_id u stacks (Word a text rest) p h = id_first _ (behind_lists rest) p.id h.2

grown_pin : (u : LengthUnit) (layers stacks : List (List ℕ)) (m : Image) (f : Forest) (p : PinWords) → IsPin u stacks f p → IsGrown u layers stacks m (with_pin m p) (id_of_list words.Pin f) ((words.Pin, f) ∷ [])
grown_pin u layers stacks m f p h = record {
  ids_are = ap (λ (xs : List (List ℕ)). with_all m.ids xs) (sym (pin_id u stacks f p h));
  added = parts.Pin p.stack (number_with m.ids p.id) p.eighths p.at ∷ [];
  parts_are = refl;
  stated = λ names g. ((p, h, number_with m.ids p.id, g p.id (number_with m.ids p.id) (place_with m.ids p.id), refl), refl);
}

one_found : (u : LengthUnit) (layers stacks : List (List ℕ)) (m : Image) (at : ℕ) (h : Heading) (k : ImageWord) (z : Image) → image_list u layers stacks m at h k ≡ Ok z
    → IsOfImage u layers stacks k h.args × IsGrown u layers stacks m z (id_of_list k h.args) (part_of_list k h.args)
one_found u layers stacks m at h words.Pin z e =
    let p = bind_ok (pin_of u stacks at h.args) (λ p. made (with_pin m p)) z e in
    let is = pin_found u stacks at h.args p.0 p.1 in
    ((p.0, is), subst (λ (x : Image). IsGrown u layers stacks m x (id_of_list words.Pin h.args) ((words.Pin, h.args) ∷ [])) (ok_is (with_pin m p.0) z p.2) (grown_pin u layers stacks m h.args p.0 is))
one_found u layers stacks m at h (words.Keep k) z e =
    let ss = bind_ok (keep_shapes u layers at h.args) (λ ss. made (with_keep m k ss)) z e in
    let is = keep_found u layers at h.args ss.0 ss.1 in
    let grown : IsGrown u layers stacks m (with_keep m k ss.0) [] ((words.Keep k, h.args) ∷ []) = record {
      ids_are = refl;
      added = parts.Keep k ss.0 ∷ [];
      parts_are = refl;
      stated = λ names g. ((ss.0, is, refl), refl);
    } in
    ((ss.0, is), subst (λ (x : Image). IsGrown u layers stacks m x [] ((words.Keep k, h.args) ∷ [])) (ok_is (with_keep m k ss.0) z ss.2) grown)
one_found u layers stacks m at h words.Unit z e =
    let v = bind_ok (unit_list at h.args) (λ _. made m) z e in
    ((unit_found at h.args v.0 v.1).0, subst (λ (x : Image). IsGrown u layers stacks m x [] []) (ok_is m z v.2) (grown_none u layers stacks m))
one_found u layers stacks m at h words.Other z e = (tt, subst (λ (x : Image). IsGrown u layers stacks m x [] []) (ok_is m z e) (grown_none u layers stacks m))

one_again : (u : LengthUnit) (layers stacks : List (List ℕ)) (m : Image) (at : ℕ) (h : Heading) (k : ImageWord) → IsOfImage u layers stacks k h.args → (z : Image) × (image_list u layers stacks m at h k ≡ Ok z)
one_again u layers stacks m at h words.Pin g = (with_pin m g.0, rw (pin_again u stacks at h.args g.0 g.1) refl)
one_again u layers stacks m at h (words.Keep k) g = (with_keep m k g.0, rw (keep_again u layers at h.args g.0 g.1) refl)
one_again u layers stacks m at h words.Unit g = let v = unit_again at h.args g in (m, rw v.1 refl)
one_again u layers stacks m at h words.Other g = (m, refl)

one_fault : (u : LengthUnit) (layers stacks : List (List ℕ)) (m : Image) (at : ℕ) (h : Heading) (k : ImageWord) (e : DesignFault) → image_list u layers stacks m at h k ≡ Err e → OfImageFault u layers stacks at k h.args e
one_fault u layers stacks m at h words.Pin e g =
    elim (bind_err (pin_of u stacks at h.args) (λ p. made (with_pin m p)) e g) [
      | inl here ↦ pin_fault u stacks at h.args e here
      | inr later ↦ absurd cc
    ]
one_fault u layers stacks m at h (words.Keep k) e g =
    elim (bind_err (keep_shapes u layers at h.args) (λ ss. made (with_keep m k ss)) e g) [
      | inl here ↦ keep_fault u layers at h.args e here
      | inr later ↦ absurd cc
    ]
one_fault u layers stacks m at h words.Unit e g =
    elim (bind_err (unit_list at h.args) (λ _. made m) e g) [
      | inl here ↦ unit_fault at h.args e here
      | inr later ↦ absurd cc
    ]
one_fault u layers stacks m at h words.Other e g = absurd cc

one_fault_again : (u : LengthUnit) (layers stacks : List (List ℕ)) (m : Image) (at : ℕ) (h : Heading) (k : ImageWord) (e : DesignFault) → OfImageFault u layers stacks at k h.args e → image_list u layers stacks m at h k ≡ Err e
one_fault_again u layers stacks m at h words.Pin e g = rw (pin_fault_again u stacks at h.args e g) refl
one_fault_again u layers stacks m at h (words.Keep k) e g = rw (keep_fault_again u layers at h.args e g) refl
one_fault_again u layers stacks m at h words.Unit e g = rw (unit_fault_again at h.args e g) refl
one_fault_again u layers stacks m at h words.Other e g = absurd g

-- ---- all lists

lists_grown : (u : LengthUnit) (layers stacks : List (List ℕ)) (f : Forest) (m z : Image) → each (image_item u layers stacks) m f ≡ Ok z → Every (IsImageList u layers stacks) f × IsGrown u layers stacks m z (collect ids_in f) (collect parts_in f)
unfolding each image_item
lists_grown u layers stacks End m z e = (tt, subst (λ (x : Image). IsGrown u layers stacks m x [] []) (ok_is m z e) (grown_none u layers stacks m))
lists_grown u layers stacks (Word at text rest) m z e = absurd cc
lists_grown u layers stacks (Branch at inside rest) m z e =
    let y = bind_ok (image_item u layers stacks m at inside) (λ y. each (image_item u layers stacks) y rest) z e in
    let one = one_found u layers stacks m at (head_of inside) (image_word (head_of inside).text) y.0 y.1 in
    let others = lists_grown u layers stacks rest y.0 z y.2 in
    ((one.0, others.0), grown_both u layers stacks m y.0 z (ids_in at inside) (collect ids_in rest) (parts_in at inside) (collect parts_in rest) one.1 others.1)

lists_again : (u : LengthUnit) (layers stacks : List (List ℕ)) (f : Forest) (m : Image) → Every (IsImageList u layers stacks) f → (z : Image) × (each (image_item u layers stacks) m f ≡ Ok z)
unfolding each image_item
lists_again u layers stacks End m h = (m, refl)
lists_again u layers stacks (Word at text rest) m h = absurd h
lists_again u layers stacks (Branch at inside rest) m h =
    let y = one_again u layers stacks m at (head_of inside) (image_word (head_of inside).text) h.0 in
    let z = lists_again u layers stacks rest y.0 h.1 in
    (z.0, rw y.1 z.1)

pub parts_found : (u : LengthUnit) (layers stacks : List (List ℕ)) (f : Forest) (m : Image) → each (image_item u layers stacks) no_image f ≡ Ok m → HasParts u layers stacks f m
parts_found u layers stacks f m e =
    let g = lists_grown u layers stacks f no_image m e in
    record {
      formed = g.0;
      ids = g.1.ids_are ∙ each_once_is (collect ids_in f);
      parts = subst (λ (ps : List ImagePart). AreParts u layers stacks m.ids (collect parts_in f) ps) (sym g.1.parts_are) (g.1.stated m.ids (grows_same m.ids));
    }

-- ---- one image at most

ok_same : {A : Type 0} (r : Read A) (x y : A) → r ≡ Ok x → r ≡ Ok y → x ≡ y
ok_same r x y e f = ok_is x y (sym e ∙ f)

some_same : (o : Option ℕ) (j k : ℕ) → o ≡ Some j → o ≡ Some k → j ≡ k
some_same o j k e f = let same = sym e ∙ f in cc

pin_part : (ids : List (List ℕ)) (p q : PinWords) (j k : ℕ) → p ≡ q → place_of ids p.id ≡ Some j → place_of ids q.id ≡ Some k → parts.Pin p.stack j p.eighths p.at ≡ parts.Pin q.stack k q.eighths q.at
pin_part ids p q j k same e f =
    let number = some_same (place_of ids q.id) j k (ap (λ (x : PinWords). place_of ids x.id) (sym same) ∙ e) f in
    λ i. parts.Pin (same i).stack (number i) (same i).eighths (same i).at

same_part : (u : LengthUnit) (layers stacks ids : List (List ℕ)) (k : ImageWord) (f : Forest) (p q : ImagePart) → IsPart u layers stacks ids k f p → IsPart u layers stacks ids k f q → p ≡ q
same_part u layers stacks ids words.Pin f p q h g =
    let pin = ok_same (pin_of u stacks 0 f) h.0 g.0 (pin_again u stacks 0 f h.0 h.1) (pin_again u stacks 0 f g.0 g.1) in
    h.4 ∙ pin_part ids h.0 g.0 h.2 g.2 pin h.3 g.3 ∙ sym g.4
same_part u layers stacks ids (words.Keep k) f p q h g =
    let shapes = ok_same (keep_shapes u layers 0 f) h.0 g.0 (keep_again u layers 0 f h.0 h.1) (keep_again u layers 0 f g.0 g.1) in
    h.2 ∙ ap (λ (ss : List Shape). parts.Keep k ss) shapes ∙ sym g.2
same_part u layers stacks ids words.Unit f p q h g = absurd h
same_part u layers stacks ids words.Other f p q h g = absurd h

same_parts : (u : LengthUnit) (layers stacks ids : List (List ℕ)) (ls : List (ImageWord × Forest)) (ps qs : List ImagePart) → AreParts u layers stacks ids ls ps → AreParts u layers stacks ids ls qs → ps ≡ qs
same_parts u layers stacks ids [] ps qs h g = h ∙ sym g
same_parts u layers stacks ids (l ∷ ls) [] qs h g = absurd h
same_parts u layers stacks ids (l ∷ ls) (p ∷ ps) [] h g = absurd g
same_parts u layers stacks ids (l ∷ ls) (p ∷ ps) (q ∷ qs) h g =
    let one = same_part u layers stacks ids l.0 l.1 p q h.0 g.0 in
    let others = same_parts u layers stacks ids ls ps qs h.1 g.1 in
    λ i. one i ∷ others i

one_image : (u : LengthUnit) (layers stacks : List (List ℕ)) (f : Forest) (m n : Image) → HasParts u layers stacks f m → HasParts u layers stacks f n → m ≡ n
one_image u layers stacks f m n h g =
    let ids = h.ids ∙ sym g.ids in
    let parts = same_parts u layers stacks n.ids (collect parts_in f) m.parts n.parts (subst (λ (xs : List (List ℕ)). AreParts u layers stacks xs (collect parts_in f) m.parts) ids h.parts) g.parts in
    λ i. record { ids = ids i; parts = parts i }

pub parts_again : (u : LengthUnit) (layers stacks : List (List ℕ)) (f : Forest) (m : Image) → HasParts u layers stacks f m → each (image_item u layers stacks) no_image f ≡ Ok m
parts_again u layers stacks f m h =
    let z = lists_again u layers stacks f no_image h.formed in
    z.1 ∙ ap made (one_image u layers stacks f z.0 m (parts_found u layers stacks f z.0 z.1) h)

-- ---- the first fault

-- the image that was read, and none where nothing was
abbrev read_or : Read Image → Image
read_or (Ok m) = m
read_or (Err e) = no_image

abbrev all : LengthUnit → List (List ℕ) → List (List ℕ) → Forest → Image
all u layers stacks f = read_or (each (image_item u layers stacks) no_image f)

item_fault : (u : LengthUnit) (layers stacks : List (List ℕ)) (m : Image) (before inside : Forest) (at : ℕ) (e : DesignFault) → image_item u layers stacks m at inside ≡ Err e → ImageListFault u layers stacks before at inside e
unfolding image_item
item_fault u layers stacks m before inside at e h = one_fault u layers stacks m at (head_of inside) (image_word (head_of inside).text) e h

item_fault_again : (u : LengthUnit) (layers stacks : List (List ℕ)) (m : Image) (before inside : Forest) (at : ℕ) (e : DesignFault) → ImageListFault u layers stacks before at inside e → image_item u layers stacks m at inside ≡ Err e
unfolding image_item
item_fault_again u layers stacks m before inside at e h = one_fault_again u layers stacks m at (head_of inside) (image_word (head_of inside).text) e h

pub lists_fault : (u : LengthUnit) (layers stacks : List (List ℕ)) (f : Forest) (e : DesignFault) → each (image_item u layers stacks) no_image f ≡ Err e → IsFirst (Every (IsImageList u layers stacks)) (ImageListFault u layers stacks) f e
lists_fault u layers stacks f e h =
    first_found (image_item u layers stacks) no_image (all u layers stacks) (Every (IsImageList u layers stacks)) (ImageListFault u layers stacks)
    (λ f z k. ((lists_grown u layers stacks f no_image z k).0, sym (ap read_or k)))
    (λ before inside at e stand k. item_fault u layers stacks (all u layers stacks before) before inside at e k) f e h

pub lists_fault_again : (u : LengthUnit) (layers stacks : List (List ℕ)) (f : Forest) (e : DesignFault) → IsFirst (Every (IsImageList u layers stacks)) (ImageListFault u layers stacks) f e → each (image_item u layers stacks) no_image f ≡ Err e
lists_fault_again u layers stacks f e h =
    first_again (image_item u layers stacks) no_image (all u layers stacks) (Every (IsImageList u layers stacks)) (ImageListFault u layers stacks)
    (λ f k. let z = lists_again u layers stacks f no_image k in z.1 ∙ ap made (sym (ap read_or z.1)))
    (λ before inside at e stand k. item_fault_again u layers stacks (all u layers stacks before) before inside at e k) f e h
