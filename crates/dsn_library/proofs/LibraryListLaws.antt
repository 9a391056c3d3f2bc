-- What one list of a library adds is what is read, and its fault is the one that is told.
use Rattle.std.proofs.Common.{◌≡◌, ℕ, ◌≤◌, ◌<◌, List, [], ◌∷◌, ◌++◌, length, Ok, Err, refl, sym, ap, subst, ◌∙◌, append_assoc, arith, inl, inr}
use Rattle.std.proofs.lemmas.List.{append-nil, length-append}
use Rattle.sexp_text.specs.Forest.{Forest}
use Rattle.sexp_text.specs.declared.units.Unit.{Unit as LengthUnit}
use Rattle.board_items.specs.declared.items.Padstack.{Padstack}
use Rattle.dsn_lists.specs.declared.faults.DesignFault.{DesignFault}
use Rattle.dsn_lists.specs.Words.{Heading}
use Rattle.dsn_lists.specs.Units.{unit_list}
use Rattle.dsn_lists.proofs.Firsts.{made, failed, ok_is, bind_ok, bind_err}
use Rattle.dsn_lists.proofs.Fresh.{AreFreshBehind, fresh_none, fresh_one, fresh_head}
use Rattle.dsn_lists.proofs.UnitLaws.{unit_found, unit_again, unit_fault, unit_fault_again}
use Rattle.dsn_library.specs.declared.images.Image.{Image}
use Rattle.dsn_library.specs.declared.library.Library.{Library}
use Rattle.dsn_library.specs.declared.library.LibraryWord.{LibraryWord}
use Rattle.dsn_library.specs.declared.library.LibraryWord.TheVariants as words
use Rattle.dsn_library.specs.Images.{image_of}
use Rattle.dsn_library.specs.Libraries.{stack_of, with_stack, with_image, library_list}
use Rattle.dsn_library.specs.LibraryParts.{IsOfLibrary, name_of_list, image_name_of_list}
use Rattle.dsn_library.specs.LibraryMeaning.{OfLibraryFault}
use Rattle.dsn_library.proofs.StackReadings.{stack_value, stack_found, stack_again, stack_name, stack_is, stack_fault, stack_fault_again}
use Rattle.dsn_library.proofs.ImageReadings.{image_value, image_found, image_again, image_name, image_is, image_fault, image_fault_again}

-- ---- what lists add to a library

-- the library with these padstacks and images behind it, each with its name
abbrev pub adding : Library → List (List ℕ) → List Padstack → List (List ℕ) → List Image → Library
adding l ns ps is ms = record { names = l.names ++ ns; stacks = l.stacks ++ ps; image_names = l.image_names ++ is; images = l.images ++ ms }

pub adding_more : (l : Library) (ns os : List (List ℕ)) (ps qs : List Padstack) (is js : List (List ℕ)) (ms ks : List Image) → adding (adding l ns ps is ms) os qs js ks ≡ adding l (ns ++ os) (ps ++ qs) (is ++ js) (ms ++ ks)
adding_more l ns os ps qs is js ms ks = λ i. record {
  names = append_assoc l.names ns os i;
  stacks = append_assoc l.stacks ps qs i;
  image_names = append_assoc l.image_names is js i;
  images = append_assoc l.images ms ks i;
}

-- nothing is added
pub adding_none : (l : Library) → l ≡ adding l [] [] [] []
adding_none l = λ i. record { names = sym (append-nil l.names) i; stacks = sym (append-nil l.stacks) i; image_names = sym (append-nil l.image_names) i; images = sym (append-nil l.images) i }

adding_stack : (l : Library) (p : Padstack) (ns : List (List ℕ)) (ps : List Padstack) → ns ≡ p.name ∷ [] → ps ≡ p ∷ [] → with_stack l p ≡ adding l ns ps [] []
adding_stack l p ns ps name stack = λ i. record {
  names = l.names ++ sym name i;
  stacks = l.stacks ++ sym stack i;
  image_names = sym (append-nil l.image_names) i;
  images = sym (append-nil l.images) i;
}

adding_image : (l : Library) (n : List ℕ) (m : Image) (is : List (List ℕ)) (ms : List Image) → is ≡ n ∷ [] → ms ≡ m ∷ [] → with_image l n m ≡ adding l [] [] is ms
adding_image l n m is ms name image = λ i. record {
  names = sym (append-nil l.names) i;
  stacks = sym (append-nil l.stacks) i;
  image_names = l.image_names ++ sym name i;
  images = l.images ++ sym image i;
}

-- ---- one list

-- the padstack that is read of a list, where it is one
abbrev pub value_of_list : LengthUnit → List (List ℕ) → LibraryWord → Forest → List Padstack
value_of_list u layers words.Stack f = stack_value u layers f
value_of_list u layers _ f = []

-- the image that is read of a list, where it is one
abbrev pub image_of_value : LengthUnit → List (List ℕ) → List (List ℕ) → LibraryWord → Forest → List Image
image_of_value u layers stacks words.Image f = image_value u layers stacks f
image_of_value u layers stacks _ f = []

-- the library behind one list
abbrev pub next : LengthUnit → List (List ℕ) → List (List ℕ) → Library → LibraryWord → Forest → Library
next u layers stacks l k f = adding l (name_of_list k f) (value_of_list u layers k f) (image_name_of_list k f) (image_of_value u layers stacks k f)

-- a list as it has to be, and a padstack or an image whose name is new
pub record IsGood (u : LengthUnit) (layers stacks : List (List ℕ)) (l : Library) (k : LibraryWord) (f : Forest) : Type 0 where
  pub formed : IsOfLibrary u layers stacks k f
  pub fresh : AreFreshBehind l.names (name_of_list k f)
  pub few : length (l.names ++ name_of_list k f) ≤ 65535
  pub image_fresh : AreFreshBehind l.image_names (image_name_of_list k f)

pub still_few : (xs : List (List ℕ)) → length xs ≤ 65535 → length (xs ++ []) ≤ 65535
still_few xs h = let same = ap length (append-nil xs) in omega arith

one_more : (xs : List (List ℕ)) (n : List ℕ) → length xs < 65535 → length (xs ++ n ∷ []) ≤ 65535
one_more xs n h = let sum = length-append xs (n ∷ []) in omega arith

quota : (xs : List (List ℕ)) (n : List ℕ) → length (xs ++ n ∷ []) ≤ 65535 → length xs < 65535
quota xs n h = let sum = length-append xs (n ∷ []) in omega arith

pub one_found : (u : LengthUnit) (layers stacks : List (List ℕ)) (l : Library) (at : ℕ) (h : Heading) (k : LibraryWord) (m : Library) → length l.names ≤ 65535 → library_list u layers stacks l at h k ≡ Ok m → IsGood u layers stacks l k h.args × (m ≡ next u layers stacks l k h.args)
one_found u layers stacks l at h words.Stack m few e =
    let p = bind_ok (stack_of u layers l.names at h.args) (λ p. made (with_stack l p)) m e in
    let s = stack_found u layers l.names at h.args p.0 p.1 in (
      record {
        formed = (p.0, s.0);
        fresh = subst (λ (xs : List (List ℕ)). AreFreshBehind l.names xs) (sym s.1) (fresh_one l.names p.0.name s.2.0);
        few = subst (λ (xs : List (List ℕ)). length (l.names ++ xs) ≤ 65535) (sym s.1) (one_more l.names p.0.name s.2.1);
        image_fresh = fresh_none l.image_names;
      },
      sym (ok_is (with_stack l p.0) m p.2) ∙ adding_stack l p.0 _ _ s.1 (stack_is u layers h.args p.0 s.0),
    )
one_found u layers stacks l at h words.Image m few e =
    let x = bind_ok (image_of u layers stacks l.image_names at h.args) (λ x. made (with_image l x.0 x.1)) m e in
    let s = image_found u layers stacks l.image_names at h.args x.0 x.1 in (
      record {
        formed = (x.0.1, s.0);
        fresh = fresh_none l.names;
        few = still_few l.names few;
        image_fresh = subst (λ (xs : List (List ℕ)). AreFreshBehind l.image_names xs) (sym s.1) (fresh_one l.image_names x.0.0 s.2);
      },
      sym (ok_is (with_image l x.0.0 x.0.1) m x.2) ∙ adding_image l x.0.0 x.0.1 _ _ s.1 (image_is u layers stacks h.args x.0.1 s.0),
    )
one_found u layers stacks l at h words.Unit m few e =
    let v = bind_ok (unit_list at h.args) (λ _. made l) m e in
    (record { formed = (unit_found at h.args v.0 v.1).0; fresh = fresh_none l.names; few = still_few l.names few; image_fresh = fresh_none l.image_names }, sym (ok_is l m v.2) ∙ adding_none l)
one_found u layers stacks l at h words.Resolution m few e = absurd cc
one_found u layers stacks l at h words.Other m few e = (record { formed = tt; fresh = fresh_none l.names; few = still_few l.names few; image_fresh = fresh_none l.image_names }, sym (ok_is l m e) ∙ adding_none l)

pub one_again : (u : LengthUnit) (layers stacks : List (List ℕ)) (l : Library) (at : ℕ) (h : Heading) (k : LibraryWord) → IsGood u layers stacks l k h.args → library_list u layers stacks l at h k ≡ Ok (next u layers stacks l k h.args)
one_again u layers stacks l at h words.Stack g =
    let name = stack_name u layers h.args g.formed.0 g.formed.1 in
    let fresh = fresh_head l.names g.formed.0.name [] (subst (λ (xs : List (List ℕ)). AreFreshBehind l.names xs) name g.fresh) in
    let few = quota l.names g.formed.0.name (subst (λ (xs : List (List ℕ)). length (l.names ++ xs) ≤ 65535) name g.few) in
    rw (stack_again u layers l.names at h.args g.formed.0 g.formed.1 (fresh, few)) (ap made (adding_stack l g.formed.0 _ _ name (stack_is u layers h.args g.formed.0 g.formed.1)))
one_again u layers stacks l at h words.Image g =
    let name = image_name u layers stacks h.args g.formed.0 g.formed.1 in
    let fresh = fresh_head l.image_names name.0 [] (subst (λ (xs : List (List ℕ)). AreFreshBehind l.image_names xs) name.1 g.image_fresh) in
    rw (image_again u layers stacks l.image_names at h.args name.0 g.formed.0 g.formed.1 name.1 fresh)
    (ap made (adding_image l name.0 g.formed.0 _ _ name.1 (image_is u layers stacks h.args g.formed.0 g.formed.1)))
one_again u layers stacks l at h words.Unit g = let v = unit_again at h.args g.formed in rw v.1 (ap made (adding_none l))
one_again u layers stacks l at h words.Resolution g = absurd g.formed
one_again u layers stacks l at h words.Other g = ap made (adding_none l)

-- ---- the fault of one list

pub one_fault : (u : LengthUnit) (layers stacks : List (List ℕ)) (l : Library) (at : ℕ) (h : Heading) (k : LibraryWord) (e : DesignFault) → library_list u layers stacks l at h k ≡ Err e → OfLibraryFault u layers stacks l.names l.image_names at h k e
one_fault u layers stacks l at h words.Stack e k =
    elim (bind_err (stack_of u layers l.names at h.args) (λ p. made (with_stack l p)) e k) [
      | inl here ↦ stack_fault u layers l.names at h.args e here
      | inr later ↦ absurd cc
    ]
one_fault u layers stacks l at h words.Image e k =
    elim (bind_err (image_of u layers stacks l.image_names at h.args) (λ x. made (with_image l x.0 x.1)) e k) [
      | inl here ↦ image_fault u layers stacks l.image_names at h.args e here
      | inr later ↦ absurd cc
    ]
one_fault u layers stacks l at h words.Unit e k =
    elim (bind_err (unit_list at h.args) (λ _. made l) e k) [
      | inl here ↦ unit_fault at h.args e here
      | inr later ↦ absurd cc
    ]
one_fault u layers stacks l at h words.Resolution e k = cc
one_fault u layers stacks l at h words.Other e k = absurd cc

pub one_fault_again : (u : LengthUnit) (layers stacks : List (List ℕ)) (l : Library) (at : ℕ) (h : Heading) (k : LibraryWord) (e : DesignFault) → OfLibraryFault u layers stacks l.names l.image_names at h k e → library_list u layers stacks l at h k ≡ Err e
one_fault_again u layers stacks l at h words.Stack e k = rw (stack_fault_again u layers l.names at h.args e k) refl
one_fault_again u layers stacks l at h words.Image e k = rw (image_fault_again u layers stacks l.image_names at h.args e k) refl
one_fault_again u layers stacks l at h words.Unit e k = rw (unit_fault_again at h.args e k) refl
one_fault_again u layers stacks l at h words.Resolution e k = ap failed (sym k)
one_fault_again u layers stacks l at h words.Other e k = absurd k
