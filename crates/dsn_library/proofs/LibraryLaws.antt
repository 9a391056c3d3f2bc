-- What the lists of a library stand for together is what is read.
use Rattle.std.proofs.Common.{◌≡◌, ℕ, ◌≤◌, List, [], ◌∷◌, ◌++◌, length, Ok, refl, sym, ap, subst, ◌∙◌, append_assoc, arith}
use Rattle.std.proofs.lemmas.List.{length-append}
use Rattle.sexp_text.specs.Forest.{Forest, End, Word, Branch}
use Rattle.sexp_text.specs.declared.units.Unit.{Unit as LengthUnit}
use Rattle.dsn_lists.specs.Results.{each}
use Rattle.dsn_lists.specs.Words.{head_of}
use Rattle.dsn_lists.specs.Lists.{collect, Every}
use Rattle.dsn_lists.proofs.Firsts.{made, ok_is, bind_ok}
use Rattle.dsn_lists.proofs.Fresh.{AreFreshBehind, fresh_none, fresh_join, fresh_front, fresh_back}
use Rattle.board_items.specs.declared.items.Padstack.{Padstack}
use Rattle.dsn_library.specs.declared.images.Image.{Image}
use Rattle.dsn_library.specs.declared.library.Library.{Library}
use Rattle.dsn_library.specs.declared.library.LibraryWord.{LibraryWord}
use Rattle.dsn_library.specs.declared.library.LibraryWord.TheVariants as words
use Rattle.dsn_library.specs.Libraries.{library_word, library_item}
use Rattle.dsn_library.specs.LibraryParts.{IsOfLibrary, IsLibraryList, names_in, stack_of_list, stacks_in, AreStacks, image_names_in, image_of_list, images_in, AreImages}
use Rattle.dsn_library.proofs.StackReadings.{stack_is}
use Rattle.dsn_library.proofs.ImageReadings.{image_is}
use Rattle.dsn_library.proofs.LibraryListLaws.{adding, adding_more, adding_none, value_of_list, image_of_value, next, IsGood, still_few, one_found, one_again}

-- ---- all lists

-- the padstack that is read of a list of the section, where it is one
abbrev pub values_in : LengthUnit → List (List ℕ) → ℕ → Forest → List Padstack
values_in u layers at inside = value_of_list u layers (library_word (head_of inside).text) (head_of inside).args

-- the image that is read of a list of the section, where it is one
abbrev pub image_values_in : LengthUnit → List (List ℕ) → List (List ℕ) → ℕ → Forest → List Image
image_values_in u layers stacks at inside = image_of_value u layers stacks (library_word (head_of inside).text) (head_of inside).args

-- the library behind all lists
abbrev pub all : LengthUnit → List (List ℕ) → List (List ℕ) → Library → Forest → Library
all u layers stacks l f = adding l (collect names_in f) (collect (values_in u layers) f) (collect image_names_in f) (collect (image_values_in u layers stacks) f)

more : (u : LengthUnit) (layers stacks : List (List ℕ)) (l : Library) (at : ℕ) (inside rest : Forest) → all u layers stacks (next u layers stacks l (library_word (head_of inside).text) (head_of inside).args) rest ≡ all u layers stacks l (Branch at inside rest)
more u layers stacks l at inside rest =
    adding_more l (names_in at inside) (collect names_in rest) (values_in u layers at inside) (collect (values_in u layers) rest)
    (image_names_in at inside) (collect image_names_in rest) (image_values_in u layers stacks at inside) (collect (image_values_in u layers stacks) rest)

-- lists as they have to be, and padstacks and images whose names are new
pub record AreGood (u : LengthUnit) (layers stacks : List (List ℕ)) (l : Library) (f : Forest) : Type 0 where
  pub formed : Every (IsLibraryList u layers stacks) f
  pub fresh : AreFreshBehind l.names (collect names_in f)
  pub few : length (l.names ++ collect names_in f) ≤ 65535
  pub image_fresh : AreFreshBehind l.image_names (collect image_names_in f)

pub all_found : (u : LengthUnit) (layers stacks : List (List ℕ)) (f : Forest) (l m : Library) → length l.names ≤ 65535 → each (library_item u layers stacks) l f ≡ Ok m → AreGood u layers stacks l f × (m ≡ all u layers stacks l f)
unfolding each library_item
all_found u layers stacks End l m few e = (record { formed = tt; fresh = fresh_none l.names; few = still_few l.names few; image_fresh = fresh_none l.image_names }, sym (ok_is l m e) ∙ adding_none l)
all_found u layers stacks (Word at text rest) l m few e = absurd cc
all_found u layers stacks (Branch at inside rest) l m few e =
    let y = bind_ok (library_item u layers stacks l at inside) (λ y. each (library_item u layers stacks) y rest) m e in
    let one = one_found u layers stacks l at (head_of inside) (library_word (head_of inside).text) y.0 few y.1 in
    let now = next u layers stacks l (library_word (head_of inside).text) (head_of inside).args in
    let others = all_found u layers stacks rest now m one.0.few (ap (λ (x : Library). each (library_item u layers stacks) x rest) (sym one.1) ∙ y.2) in (
      record {
        formed = (one.0.formed, others.0.formed);
        fresh = fresh_join (names_in at inside) (collect names_in rest) l.names one.0.fresh others.0.fresh;
        few = subst (λ (xs : List (List ℕ)). length xs ≤ 65535) (append_assoc l.names (names_in at inside) (collect names_in rest)) others.0.few;
        image_fresh = fresh_join (image_names_in at inside) (collect image_names_in rest) l.image_names one.0.image_fresh others.0.image_fresh;
      },
      others.1 ∙ more u layers stacks l at inside rest,
    )

front_few : (xs ys zs : List (List ℕ)) → length (xs ++ (ys ++ zs)) ≤ 65535 → length (xs ++ ys) ≤ 65535
front_few xs ys zs h =
    let sum = length-append (xs ++ ys) zs in
    let same = ap length (append_assoc xs ys zs) in
    omega arith

pub all_again : (u : LengthUnit) (layers stacks : List (List ℕ)) (f : Forest) (l : Library) → AreGood u layers stacks l f → each (library_item u layers stacks) l f ≡ Ok (all u layers stacks l f)
unfolding each library_item
all_again u layers stacks End l g = ap made (adding_none l)
all_again u layers stacks (Word at text rest) l g = absurd g.formed
all_again u layers stacks (Branch at inside rest) l g =
    let here : IsGood u layers stacks l (library_word (head_of inside).text) (head_of inside).args = record {
      formed = g.formed.0;
      fresh = fresh_front (names_in at inside) (collect names_in rest) l.names g.fresh;
      few = front_few l.names (names_in at inside) (collect names_in rest) g.few;
      image_fresh = fresh_front (image_names_in at inside) (collect image_names_in rest) l.image_names g.image_fresh;
    } in
    let first = one_again u layers stacks l at (head_of inside) (library_word (head_of inside).text) here in
    let others : AreGood u layers stacks (next u layers stacks l (library_word (head_of inside).text) (head_of inside).args) rest = record {
      formed = g.formed.1;
      fresh = fresh_back (names_in at inside) (collect names_in rest) l.names g.fresh;
      few = subst (λ (xs : List (List ℕ)). length xs ≤ 65535) (sym (append_assoc l.names (names_in at inside) (collect names_in rest))) g.few;
      image_fresh = fresh_back (image_names_in at inside) (collect image_names_in rest) l.image_names g.image_fresh;
    } in
    rw first (all_again u layers stacks rest (next u layers stacks l (library_word (head_of inside).text) (head_of inside).args) others ∙ ap made (more u layers stacks l at inside rest))

-- ---- the padstacks

stacks_join : (u : LengthUnit) (layers : List (List ℕ)) (fs gs : List Forest) (cs ds : List Padstack) → AreStacks u layers fs cs → AreStacks u layers gs ds → AreStacks u layers (fs ++ gs) (cs ++ ds)
stacks_join u layers [] gs [] ds p q = q
stacks_join u layers [] gs (c ∷ cs) ds p q = absurd cc
stacks_join u layers (f ∷ fs) gs [] ds p q = absurd p
stacks_join u layers (f ∷ fs) gs (c ∷ cs) ds p q = (p.0, stacks_join u layers fs gs cs ds p.1 q)

one_stack : (u : LengthUnit) (layers stacks : List (List ℕ)) (f : Forest) (k : LibraryWord) → IsOfLibrary u layers stacks k f → AreStacks u layers (stack_of_list k f) (value_of_list u layers k f)
one_stack u layers stacks f words.Stack h = subst (λ (cs : List Padstack). AreStacks u layers (f ∷ []) cs) (sym (stack_is u layers f h.0 h.1)) (h.1, refl)
one_stack u layers stacks f words.Image h = refl
one_stack u layers stacks f words.Unit h = refl
one_stack u layers stacks f words.Resolution h = refl
one_stack u layers stacks f words.Other h = refl

-- what is read are the padstacks
pub stacks_are : (u : LengthUnit) (layers stacks : List (List ℕ)) (f : Forest) → Every (IsLibraryList u layers stacks) f → AreStacks u layers (collect stacks_in f) (collect (values_in u layers) f)
stacks_are u layers stacks End h = refl
stacks_are u layers stacks (Word at text rest) h = absurd h
stacks_are u layers stacks (Branch at inside rest) h =
    stacks_join u layers (stacks_in at inside) (collect stacks_in rest) (values_in u layers at inside) (collect (values_in u layers) rest)
    (one_stack u layers stacks (head_of inside).args (library_word (head_of inside).text) h.0) (stacks_are u layers stacks rest h.1)

-- two lists of padstacks of the same lists are one
pub same_stacks : (u : LengthUnit) (layers : List (List ℕ)) (fs : List Forest) (cs ds : List Padstack) → AreStacks u layers fs cs → AreStacks u layers fs ds → cs ≡ ds
same_stacks u layers [] cs ds p q = p ∙ sym q
same_stacks u layers (f ∷ fs) [] ds p q = absurd p
same_stacks u layers (f ∷ fs) (c ∷ cs) [] p q = absurd q
same_stacks u layers (f ∷ fs) (c ∷ cs) (d ∷ ds) p q =
    let heads : c ∷ [] ≡ d ∷ [] = sym (stack_is u layers f c p.0) ∙ stack_is u layers f d q.0 in
    let tails = same_stacks u layers fs cs ds p.1 q.1 in
    cc

-- ---- the images

images_join : (u : LengthUnit) (layers stacks : List (List ℕ)) (fs gs : List Forest) (cs ds : List Image) → AreImages u layers stacks fs cs → AreImages u layers stacks gs ds → AreImages u layers stacks (fs ++ gs) (cs ++ ds)
images_join u layers stacks [] gs [] ds p q = q
images_join u layers stacks [] gs (c ∷ cs) ds p q = absurd cc
images_join u layers stacks (f ∷ fs) gs [] ds p q = absurd p
images_join u layers stacks (f ∷ fs) gs (c ∷ cs) ds p q = (p.0, images_join u layers stacks fs gs cs ds p.1 q)

one_image : (u : LengthUnit) (layers stacks : List (List ℕ)) (f : Forest) (k : LibraryWord) → IsOfLibrary u layers stacks k f → AreImages u layers stacks (image_of_list k f) (image_of_value u layers stacks k f)
one_image u layers stacks f words.Image h = subst (λ (cs : List Image). AreImages u layers stacks (f ∷ []) cs) (sym (image_is u layers stacks f h.0 h.1)) (h.1, refl)
one_image u layers stacks f words.Stack h = refl
one_image u layers stacks f words.Unit h = refl
one_image u layers stacks f words.Resolution h = refl
one_image u layers stacks f words.Other h = refl

-- what is read are the images
pub images_are : (u : LengthUnit) (layers stacks : List (List ℕ)) (f : Forest) → Every (IsLibraryList u layers stacks) f → AreImages u layers stacks (collect images_in f) (collect (image_values_in u layers stacks) f)
images_are u layers stacks End h = refl
images_are u layers stacks (Word at text rest) h = absurd h
images_are u layers stacks (Branch at inside rest) h =
    images_join u layers stacks (images_in at inside) (collect images_in rest) (image_values_in u layers stacks at inside) (collect (image_values_in u layers stacks) rest)
    (one_image u layers stacks (head_of inside).args (library_word (head_of inside).text) h.0) (images_are u layers stacks rest h.1)

-- two lists of images of the same lists are one
pub same_images : (u : LengthUnit) (layers stacks : List (List ℕ)) (fs : List Forest) (cs ds : List Image) → AreImages u layers stacks fs cs → AreImages u layers stacks fs ds → cs ≡ ds
same_images u layers stacks [] cs ds p q = p ∙ sym q
same_images u layers stacks (f ∷ fs) [] ds p q = absurd p
same_images u layers stacks (f ∷ fs) (c ∷ cs) [] p q = absurd q
same_images u layers stacks (f ∷ fs) (c ∷ cs) (d ∷ ds) p q =
    let heads : c ∷ [] ≡ d ∷ [] = sym (image_is u layers stacks f c p.0) ∙ image_is u layers stacks f d q.0 in
    let tails = same_images u layers stacks fs cs ds p.1 q.1 in
    cc
