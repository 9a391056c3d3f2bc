-- The pin that a reference names is the one that is found, and a reference names one pin at most.
use Rattle.std.proofs.Common.{◌≡◌, ℕ, ◌<◌, ◌==◌, Bool, true, false, cond, List, [], ◌∷◌, ◌++◌, length, slice_get, Option, None, Some, refl, sym, ap, subst, ◌∙◌, inl, inr, append_assoc, arith}
use Rattle.std.specs.Prelude.{option_and_then}
use Rattle.std.proofs.lemmas.Bool.{cases_order, eqb-true, eq-eqb}
use Rattle.std.proofs.lemmas.List.{append-nil}
use Rattle.dsn_lists.specs.Names.{place_of}
use Rattle.dsn_library.specs.declared.images.Image.{Image}
use Rattle.dsn_library.specs.declared.library.Library.{Library}
use Rattle.dsn_placement.specs.declared.placement.Placement.{Placement}
use Rattle.dsn_network.specs.References.{pin_of_image, pin_at, or_pin, split_by, pin_from, pin_of}
use Rattle.dsn_network.specs.PinOf.{IsPinAt, IsPinOf, NamesNone}

-- ---- the pin of a component and an id

then_some : {A B : Type 0} (f : A → Option B) (o : Option A) (y : B) → option_and_then f o ≡ Some y → (x : A) × (o ≡ Some x) × (f x ≡ Some y)
then_some f None y e = absurd cc
then_some f (Some x) y e = (x, refl, e)

-- the pin of this id, of the component of this number and this image
abbrev in_image : ℕ → List ℕ → Image → Option (ℕ × ℕ)
in_image c id image = pin_of_image c id image

-- the pin of this id, of the component of this number
abbrev of_component : Placement → Library → List ℕ → ℕ → Option (ℕ × ℕ)
of_component p l id c = option_and_then (λ i. option_and_then (in_image c id) (slice_get l.images i)) (slice_get p.images c)

-- the pin with the id of this number
abbrev numbered : ℕ → Option ℕ → Option (ℕ × ℕ)
numbered c None = None
numbered c (Some pin) = Some (c, pin)

image_pin : (c : ℕ) (id : List ℕ) (image : Image) (pin : ℕ × ℕ) → in_image c id image ≡ Some pin → (pin.0 ≡ c) × (place_of image.ids id ≡ Some pin.1)
image_pin c id image pin e = by (place_of image.ids id) refl e
  where
    by : (o : Option ℕ) → place_of image.ids id ≡ o → numbered c o ≡ Some pin → (pin.0 ≡ c) × (place_of image.ids id ≡ Some pin.1)
    by None same e = absurd cc
    by (Some k) same e = (cc, same ∙ cc)

pub at_found : (p : Placement) (l : Library) (name id : List ℕ) (pin : ℕ × ℕ) → pin_at p.components p.images l.images name id ≡ Some pin → IsPinAt p l name id pin
unfolding pin_at
at_found p l name id pin e =
    let c = then_some (of_component p l id) (place_of p.components name) pin e in
    let i = then_some (λ i. option_and_then (in_image c.0 id) (slice_get l.images i)) (slice_get p.images c.0) pin c.2 in
    let image = then_some (in_image c.0 id) (slice_get l.images i.0) pin i.2 in
    let k = image_pin c.0 id image.0 pin image.2 in
    record {
      number = i.0;
      image = image.0;
      component = c.1 ∙ ap (λ (n : ℕ). Some n) (sym k.0);
      has = ap (λ (n : ℕ). slice_get p.images n) k.0 ∙ i.1;
      there = image.1;
      id_of = k.1;
    }

pub at_again : (p : Placement) (l : Library) (name id : List ℕ) (pin : ℕ × ℕ) → IsPinAt p l name id pin → pin_at p.components p.images l.images name id ≡ Some pin
unfolding pin_at
at_again p l name id pin h = rw (h.component, h.has, h.there, h.id_of) refl

-- ---- the pin of a reference behind a front that names none

-- a `-` splits the text into a front and the id of a pin, whose component is named by what stands before and the front
record Splits (p : Placement) (l : Library) (before text : List ℕ) (pin : ℕ × ℕ) : Type 0 where
  front : List ℕ
  id : List ℕ
  parts : text ≡ front ++ 45 ∷ id
  at : IsPinAt p l (before ++ front) id pin
  first : (m b : List ℕ) (other : ℕ × ℕ) → text ≡ m ++ 45 ∷ b → length m < length front → IsPinAt p l (before ++ m) b other → ⊥

heads : (a b : ℕ) (xs ys : List ℕ) → a ∷ xs ≡ b ∷ ys → (a ≡ b) × (xs ≡ ys)
heads a b xs ys e = (cc, cc)

-- the pin at this byte, where the test says that it is `-`
abbrev here : Bool → Placement → Library → List ℕ → List ℕ → Option (ℕ × ℕ)
here b p l front back = cond b (pin_at p.components p.images l.images front back) None

here_found : (b : Bool) (p : Placement) (l : Library) (front back : List ℕ) (pin : ℕ × ℕ) → here b p l front back ≡ Some pin → (b ≡ true) × IsPinAt p l front back pin
here_found true p l front back pin e = (refl, at_found p l front back pin e)
here_found false p l front back pin e = absurd cc

here_none : (byte : ℕ) (p : Placement) (l : Library) (front back : List ℕ) (pin : ℕ × ℕ) → byte ≡ 45 → split_by p l front byte back ≡ None → IsPinAt p l front back pin → ⊥
here_none byte p l front back pin e none h =
    let some = ap (λ (b : Bool). here b p l front back) (eq-eqb byte 45 e) ∙ at_again p l front back pin h in
    absurd cc

no_less : (n : ℕ) → n < 0 → ⊥
no_less n h = absurd (omega (arith, h))

-- none splits the text further left than a split of what follows its first byte
none_before : (p : Placement) (l : Library) (byte : ℕ) (back before : List ℕ) (pin : ℕ × ℕ) (s : Splits p l (before ++ byte ∷ []) back pin) → split_by p l before byte back ≡ None
    → (m b : List ℕ) (other : ℕ × ℕ) → byte ∷ back ≡ m ++ 45 ∷ b → length m < length (byte ∷ s.front) → IsPinAt p l (before ++ m) b other → ⊥
none_before p l byte back before pin s none [] b other parts less h =
    let k = heads byte 45 back b parts in
    let at = subst (λ (xs : List ℕ). IsPinAt p l xs b other) (append-nil before) h in
    here_none byte p l before back other k.0 none (subst (λ (xs : List ℕ). IsPinAt p l before xs other) (sym k.1) at)
none_before p l byte back before pin s none (c ∷ m) b other parts less h =
    let k = heads byte c back (m ++ 45 ∷ b) parts in
    let at = subst (λ (x : ℕ). IsPinAt p l (before ++ x ∷ m) b other) (sym k.0) h in
    s.first m b other k.1 (omega (arith, less)) (subst (λ (xs : List ℕ). IsPinAt p l xs b other) (sym (append_assoc before (byte ∷ []) m)) at)

split_found : (p : Placement) (l : Library) (byte : ℕ) (back before : List ℕ) (pin : ℕ × ℕ) (rest o : Option (ℕ × ℕ)) → (rest ≡ Some pin → Splits p l (before ++ byte ∷ []) back pin)
    → split_by p l before byte back ≡ o → or_pin o rest ≡ Some pin → Splits p l before (byte ∷ back) pin
split_found p l byte back before pin rest (Some q) later same e =
    let found = here_found (byte == 45) p l before back pin (same ∙ e) in
    record {
      front = [];
      id = back;
      parts = ap (λ (b : ℕ). b ∷ back) (eqb-true byte 45 found.0);
      at = subst (λ (xs : List ℕ). IsPinAt p l xs back pin) (sym (append-nil before)) found.1;
      first = λ m b other parts less h. no_less (length m) less;
    }
split_found p l byte back before pin rest None later same e =
    let s = later e in
    record {
      front = byte ∷ s.front;
      id = s.id;
      parts = ap (λ (xs : List ℕ). byte ∷ xs) s.parts;
      at = subst (λ (xs : List ℕ). IsPinAt p l xs s.id pin) (append_assoc before (byte ∷ []) s.front) s.at;
      first = none_before p l byte back before pin s same;
    }

from_found : (p : Placement) (l : Library) (back before : List ℕ) (pin : ℕ × ℕ) → pin_from p l before back ≡ Some pin → Splits p l before back pin
unfolding pin_from
from_found p l [] before pin e = absurd cc
from_found p l (byte ∷ back) before pin e =
    split_found p l byte back before pin (pin_from p l (before ++ byte ∷ []) back) (split_by p l before byte back) (λ k. from_found p l back (before ++ byte ∷ []) pin k) refl e

-- no `-` of the text behind a front splits it
abbrev SplitsNone : Placement → Library → List ℕ → List ℕ → Type 0
SplitsNone p l before text = (m b : List ℕ) (pin : ℕ × ℕ) → text ≡ m ++ 45 ∷ b → IsPinAt p l (before ++ m) b pin → ⊥

split_none : (p : Placement) (l : Library) (byte : ℕ) (back before : List ℕ) (rest o : Option (ℕ × ℕ)) → (rest ≡ None → SplitsNone p l (before ++ byte ∷ []) back)
    → split_by p l before byte back ≡ o → or_pin o rest ≡ None → SplitsNone p l before (byte ∷ back)
split_none p l byte back before rest (Some q) later same e m b pin parts h = absurd cc
split_none p l byte back before rest None later same e [] b pin parts h =
    let k = heads byte 45 back b parts in
    let at = subst (λ (xs : List ℕ). IsPinAt p l xs b pin) (append-nil before) h in
    here_none byte p l before back pin k.0 same (subst (λ (xs : List ℕ). IsPinAt p l before xs pin) (sym k.1) at)
split_none p l byte back before rest None later same e (c ∷ m) b pin parts h =
    let k = heads byte c back (m ++ 45 ∷ b) parts in
    let at = subst (λ (x : ℕ). IsPinAt p l (before ++ x ∷ m) b pin) (sym k.0) h in
    later e m b pin k.1 (subst (λ (xs : List ℕ). IsPinAt p l xs b pin) (sym (append_assoc before (byte ∷ []) m)) at)

nothing_in : (m b : List ℕ) → [] ≡ m ++ 45 ∷ b → ⊥
nothing_in [] b e = absurd cc
nothing_in (c ∷ m) b e = absurd cc

from_none : (p : Placement) (l : Library) (back before : List ℕ) → pin_from p l before back ≡ None → SplitsNone p l before back
unfolding pin_from
from_none p l [] before e = λ m b pin parts h. nothing_in m b parts
from_none p l (byte ∷ back) before e =
    split_none p l byte back before (pin_from p l (before ++ byte ∷ []) back) (split_by p l before byte back) (λ k. from_none p l back (before ++ byte ∷ []) k) refl e

-- ---- the pin of a reference

pub pin_found : (p : Placement) (l : Library) (text : List ℕ) (pin : ℕ × ℕ) → pin_of p l text ≡ Some pin → IsPinOf p l text pin
pin_found p l text pin e =
    let s = from_found p l text [] pin e in
    record { name = s.front; id = s.id; parts = s.parts; at = s.at; first = s.first }

pub none_found : (p : Placement) (l : Library) (text : List ℕ) → pin_of p l text ≡ None → NamesNone p l text
none_found p l text e front back pin parts h = from_none p l text [] e front back pin parts h

same_parts : (xs zs ys ws : List ℕ) → xs ++ 45 ∷ ys ≡ zs ++ 45 ∷ ws → length xs ≡ length zs → (xs ≡ zs) × (ys ≡ ws)
same_parts [] [] ys ws e n = (refl, (heads 45 45 ys ws e).1)
same_parts [] (z ∷ zs) ys ws e n = absurd (omega (arith, n))
same_parts (x ∷ xs) [] ys ws e n = absurd (omega (arith, n))
same_parts (x ∷ xs) (z ∷ zs) ys ws e n =
    let k = heads x z (xs ++ 45 ∷ ys) (zs ++ 45 ∷ ws) e in
    let r = same_parts xs zs ys ws k.1 (omega (arith, n)) in
    (λ i. k.0 i ∷ r.0 i, r.1)

-- a reference names one pin at most
pub one_pin : (p : Placement) (l : Library) (text : List ℕ) (a b : ℕ × ℕ) → IsPinOf p l text a → IsPinOf p l text b → a ≡ b
one_pin p l text a b h k =
    elim (cases_order (length h.name) (length k.name)) [
      | inl same ↦
          let parts = same_parts h.name k.name h.id k.id (sym h.parts ∙ k.parts) same in
          let x = at_again p l h.name h.id a h.at in
          let y = at_again p l k.name k.id b k.at in
          let z : pin_at p.components p.images l.images h.name h.id ≡ pin_at p.components p.images l.images k.name k.id = λ i. pin_at p.components p.images l.images (parts.0 i) (parts.1 i) in
          some_is a b (sym x ∙ z ∙ y)
      | inr other ↦ elim other [
        | inl less ↦ absurd (k.first h.name h.id a h.parts less h.at)
        | inr more ↦ absurd (h.first k.name k.id b k.parts more k.at)
      ]
    ]
  where
    some_is : (x y : ℕ × ℕ) → Some x ≡ Some y → x ≡ y
    some_is x y e = cc

pub pin_again : (p : Placement) (l : Library) (text : List ℕ) (pin : ℕ × ℕ) → IsPinOf p l text pin → pin_of p l text ≡ Some pin
pin_again p l text pin h = by (pin_of p l text) refl
  where
    by : (o : Option (ℕ × ℕ)) → pin_of p l text ≡ o → o ≡ Some pin
    by None e = absurd (none_found p l text e h.name h.id pin h.parts h.at)
    by (Some q) e = ap (λ (x : ℕ × ℕ). Some x) (one_pin p l text q pin (pin_found p l text q e) h)

pub none_again : (p : Placement) (l : Library) (text : List ℕ) → NamesNone p l text → pin_of p l text ≡ None
none_again p l text h = by (pin_of p l text) refl
  where
    by : (o : Option (ℕ × ℕ)) → pin_of p l text ≡ o → o ≡ None
    by None e = refl
    by (Some q) e = let k = pin_found p l text q e in absurd (h k.name k.id q k.parts k.at)
