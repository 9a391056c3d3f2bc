-- The nets of pins behind references that are read one by one.
use Rattle.std.proofs.Common.{◌≡◌, ℕ, ◌==◌, Bool, true, false, cond, List, [], ◌∷◌, ◌++◌, Option, None, Some, refl, sym, ap, subst, ◌∙◌, inl, inr, ◌⊎◌, arith}
use Rattle.std.specs.List.{Contains}
use Rattle.std.proofs.lemmas.Bool.{and_parts, and_from, eqb-true, eq-eqb}
use Rattle.std.proofs.lemmas.List.Elements.{Contains-append_left, Contains-append_right, Contains-append_cases, Contains-push, Contains-push_cases}
use Rattle.dsn_library.specs.declared.library.Library.{Library}
use Rattle.dsn_placement.specs.declared.placement.Placement.{Placement}
use Rattle.dsn_network.specs.References.{same_pin, net_at, pin_of}
use Rattle.dsn_network.specs.NamedPins.{IsInNet}
use Rattle.dsn_network.proofs.PinSplits.{pin_found, pin_again}

-- ---- pins that are the same

pub same_is : (a b : ℕ × ℕ) → same_pin a b ≡ true → a ≡ b
same_is a b e =
    let p = and_parts (a.0 == b.0) (a.1 == b.1) e in
    let x = eqb-true a.0 b.0 p.0 in
    let y = eqb-true a.1 b.1 p.1 in
    λ i. (x i, y i)

pub same_self : (a : ℕ × ℕ) → same_pin a a ≡ true
same_self a = and_from (a.0 == a.0) (a.1 == a.1) (eq-eqb a.0 a.0 refl) (eq-eqb a.1 a.1 refl)

-- ---- the net of a pin

pub net_kept : (pins more : List ((ℕ × ℕ) × ℕ)) (q : ℕ × ℕ) (k : ℕ) → net_at pins q ≡ Some k → net_at (pins ++ more) q ≡ Some k
net_kept [] more q k e = absurd cc
net_kept (x ∷ pins) more q k e = by (same_pin q x.0) e (net_kept pins more q k)
  where
    by : (b : Bool) → cond b (Some x.1) (net_at pins q) ≡ Some k → (net_at pins q ≡ Some k → net_at (pins ++ more) q ≡ Some k) → cond b (Some x.1) (net_at (pins ++ more) q) ≡ Some k
    by true e later = e
    by false e later = later e

pub net_behind : (pins more : List ((ℕ × ℕ) × ℕ)) (q : ℕ × ℕ) → net_at pins q ≡ None → net_at (pins ++ more) q ≡ net_at more q
net_behind [] more q e = refl
net_behind (x ∷ pins) more q e = by (same_pin q x.0) e (net_behind pins more q)
  where
    by : (b : Bool) → cond b (Some x.1) (net_at pins q) ≡ None → (net_at pins q ≡ None → net_at (pins ++ more) q ≡ net_at more q) → cond b (Some x.1) (net_at (pins ++ more) q) ≡ net_at more q
    by true e later = absurd cc
    by false e later = later e

pub net_pushed : (pins : List ((ℕ × ℕ) × ℕ)) (q : ℕ × ℕ) (k : ℕ) → net_at pins q ≡ None → net_at (pins ++ (q, k) ∷ []) q ≡ Some k
net_pushed pins q k e = net_behind pins ((q, k) ∷ []) q e ∙ ap (λ (b : Bool). cond b (Some k) None) (same_self q)

one_net : (b : Bool) (net k : ℕ) → cond b (Some net) None ≡ Some k → (b ≡ true) × (net ≡ k)
one_net true net k e = (refl, cc)
one_net false net k e = absurd cc

pub net_cases : (pins : List ((ℕ × ℕ) × ℕ)) (r q : ℕ × ℕ) (net k : ℕ) → net_at (pins ++ (r, net) ∷ []) q ≡ Some k → (net_at pins q ≡ Some k) ⊎ ((r ≡ q) × (net ≡ k))
net_cases pins r q net k e = by (net_at pins q) refl
  where
    by : (o : Option ℕ) → net_at pins q ≡ o → (o ≡ Some k) ⊎ ((r ≡ q) × (net ≡ k))
    by (Some j) same = inl (sym (net_kept pins ((r, net) ∷ []) q j same) ∙ e)
    by None same =
        let p = one_net (same_pin q r) net k (sym (net_behind pins ((r, net) ∷ []) q same) ∙ e) in
        inr (sym (same_is q r p.0), p.1)

-- ---- the nets behind references

-- the nets with one more pin, unless it has one
abbrev pub put_pin : List ((ℕ × ℕ) × ℕ) → ℕ × ℕ → ℕ → Option ℕ → List ((ℕ × ℕ) × ℕ)
put_pin pins q net None = pins ++ (q, net) ∷ []
put_pin pins q net (Some k) = pins

-- the nets with the pin that is named, if one is
abbrev pub put_named : List ((ℕ × ℕ) × ℕ) → ℕ → Option (ℕ × ℕ) → List ((ℕ × ℕ) × ℕ)
put_named pins net None = pins
put_named pins net (Some q) = put_pin pins q net (net_at pins q)

-- the nets behind one reference
abbrev pub put_one : Placement → Library → List ((ℕ × ℕ) × ℕ) → List ℕ × ℕ → List ((ℕ × ℕ) × ℕ)
put_one p l pins r = put_named pins r.1 (pin_of p l r.0)

-- the nets behind references
abbrev pub put : Placement → Library → List ((ℕ × ℕ) × ℕ) → List (List ℕ × ℕ) → List ((ℕ × ℕ) × ℕ)
put p l pins [] = pins
put p l pins (r ∷ rs) = put p l (put_one p l pins r) rs

pub put_join : (p : Placement) (l : Library) (rs ss : List (List ℕ × ℕ)) (pins : List ((ℕ × ℕ) × ℕ)) → put p l (put p l pins rs) ss ≡ put p l pins (rs ++ ss)
put_join p l [] ss pins = refl
put_join p l (r ∷ rs) ss pins = put_join p l rs ss (put_one p l pins r)

pin_keeps : (pins : List ((ℕ × ℕ) × ℕ)) (r q : ℕ × ℕ) (net k : ℕ) (o : Option ℕ) → net_at pins q ≡ Some k → net_at (put_pin pins r net o) q ≡ Some k
pin_keeps pins r q net k None e = net_kept pins ((r, net) ∷ []) q k e
pin_keeps pins r q net k (Some j) e = e

named_keeps : (pins : List ((ℕ × ℕ) × ℕ)) (q : ℕ × ℕ) (net k : ℕ) (o : Option (ℕ × ℕ)) → net_at pins q ≡ Some k → net_at (put_named pins net o) q ≡ Some k
named_keeps pins q net k None e = e
named_keeps pins q net k (Some r) e = pin_keeps pins r q net k (net_at pins r) e

pub put_keeps : (p : Placement) (l : Library) (rs : List (List ℕ × ℕ)) (pins : List ((ℕ × ℕ) × ℕ)) (q : ℕ × ℕ) (k : ℕ) → net_at pins q ≡ Some k → net_at (put p l pins rs) q ≡ Some k
put_keeps p l [] pins q k e = e
put_keeps p l (r ∷ rs) pins q k e = put_keeps p l rs (put_one p l pins r) q k (named_keeps pins q r.1 k (pin_of p l r.0) e)

-- ---- back to the references

pub in_head : (p : Placement) (l : Library) (r : List ℕ × ℕ) (rs : List (List ℕ × ℕ)) (q : ℕ × ℕ) → pin_of p l r.0 ≡ Some q → IsInNet p l (r ∷ rs) q r.1
in_head p l r rs q e = (r.0, Contains-append_left (r ∷ []) rs r (Contains-push [] r), pin_found p l r.0 q e)

pub in_tail : (p : Placement) (l : Library) (r : List ℕ × ℕ) (rs : List (List ℕ × ℕ)) (q : ℕ × ℕ) (k : ℕ) → IsInNet p l rs q k → IsInNet p l (r ∷ rs) q k
in_tail p l r rs q k h = (h.0, Contains-append_right (r ∷ []) rs (h.0, k) h.1, h.2)

not_in_none : {A : Type 0} (x : A) → Contains [] x → ⊥
not_in_none x h = let low = h.1 in absurd (omega (arith, low))

pair_parts : (r : List ℕ × ℕ) (text : List ℕ) (k : ℕ) → ◌≡◌ {A = List ℕ × ℕ} r (text, k) → (r.0 ≡ text) × (r.1 ≡ k)
pair_parts r text k e = (ap (λ (x : List ℕ × ℕ). x.0) e, ap (λ (x : List ℕ × ℕ). x.1) e)

pub in_cases : (p : Placement) (l : Library) (r : List ℕ × ℕ) (rs : List (List ℕ × ℕ)) (q : ℕ × ℕ) (k : ℕ) → IsInNet p l (r ∷ rs) q k → ((pin_of p l r.0 ≡ Some q) × (r.1 ≡ k)) ⊎ IsInNet p l rs q k
in_cases p l r rs q k h =
    elim (Contains-append_cases (r ∷ []) rs (h.0, k) h.1) [
      | inl first ↦ elim (Contains-push_cases [] r (h.0, k) first) [
        | inl none ↦ absurd (not_in_none (h.0, k) none)
        | inr same ↦
            let parts = pair_parts r h.0 k same in
            inl (ap (λ (x : List ℕ). pin_of p l x) parts.0 ∙ pin_again p l h.0 q h.2, parts.1)
      ]
      | inr later ↦ inr (h.0, later, h.2)
    ]

pub in_none : (p : Placement) (l : Library) (q : ℕ × ℕ) (k : ℕ) → IsInNet p l [] q k → ⊥
in_none p l q k h = not_in_none (h.0, k) h.1

pin_back : (pins : List ((ℕ × ℕ) × ℕ)) (r q : ℕ × ℕ) (net k : ℕ) (o : Option ℕ) → net_at (put_pin pins r net o) q ≡ Some k → (net_at pins q ≡ Some k) ⊎ ((r ≡ q) × (net ≡ k))
pin_back pins r q net k None e = net_cases pins r q net k e
pin_back pins r q net k (Some j) e = inl e

some_of : (r q : ℕ × ℕ) (net k : ℕ) (old : Type 0) → old ⊎ ((r ≡ q) × (net ≡ k)) → old ⊎ ((Some r ≡ Some q) × (net ≡ k))
some_of r q net k old (inl h) = inl h
some_of r q net k old (inr h) = inr (ap (λ (x : ℕ × ℕ). Some x) h.0, h.1)

pub named_back : (pins : List ((ℕ × ℕ) × ℕ)) (q : ℕ × ℕ) (net k : ℕ) (o : Option (ℕ × ℕ)) → net_at (put_named pins net o) q ≡ Some k → (net_at pins q ≡ Some k) ⊎ ((o ≡ Some q) × (net ≡ k))
named_back pins q net k None e = inl e
named_back pins q net k (Some r) e = some_of r q net k (net_at pins q ≡ Some k) (pin_back pins r q net k (net_at pins r) e)

pub put_back : (p : Placement) (l : Library) (rs : List (List ℕ × ℕ)) (pins : List ((ℕ × ℕ) × ℕ)) (q : ℕ × ℕ) (k : ℕ) → net_at (put p l pins rs) q ≡ Some k → (net_at pins q ≡ Some k) ⊎ IsInNet p l rs q k
put_back p l [] pins q k e = inl e
put_back p l (r ∷ rs) pins q k e =
    elim (put_back p l rs (put_one p l pins r) q k e) [
      | inl first ↦ elim (named_back pins q r.1 k (pin_of p l r.0) first) [
        | inl old ↦ inl old
        | inr new ↦ inr (subst (λ (n : ℕ). IsInNet p l (r ∷ rs) q n) new.1 (in_head p l r rs q new.0))
      ]
      | inr later ↦ inr (in_tail p l r rs q k later)
    ]

-- ---- references that name pins of no other net

-- the pin has no other net
abbrev pub IsFreePin : ℕ → Option ℕ → Type 0
IsFreePin net None = Unit {0}
IsFreePin net (Some k) = k ≡ net

-- a pin is named, and it has no other net
abbrev pub IsFreeNamed : List ((ℕ × ℕ) × ℕ) → ℕ → Option (ℕ × ℕ) → Type 0
IsFreeNamed pins net None = ⊥
IsFreeNamed pins net (Some q) = IsFreePin net (net_at pins q)

-- each names a pin that has no other net behind those before it
abbrev pub AreFree : Placement → Library → List ((ℕ × ℕ) × ℕ) → List (List ℕ × ℕ) → Type 0
AreFree p l pins [] = Unit {0}
AreFree p l pins (r ∷ rs) = IsFreeNamed pins r.1 (pin_of p l r.0) × AreFree p l (put_one p l pins r) rs

pub free_join : (p : Placement) (l : Library) (rs ss : List (List ℕ × ℕ)) (pins : List ((ℕ × ℕ) × ℕ)) → AreFree p l pins rs → AreFree p l (put p l pins rs) ss → AreFree p l pins (rs ++ ss)
free_join p l [] ss pins h k = k
free_join p l (r ∷ rs) ss pins h k = (h.0, free_join p l rs ss (put_one p l pins r) h.1 k)

pub free_front : (p : Placement) (l : Library) (rs ss : List (List ℕ × ℕ)) (pins : List ((ℕ × ℕ) × ℕ)) → AreFree p l pins (rs ++ ss) → AreFree p l pins rs
free_front p l [] ss pins h = tt
free_front p l (r ∷ rs) ss pins h = (h.0, free_front p l rs ss (put_one p l pins r) h.1)

pub free_back : (p : Placement) (l : Library) (rs ss : List (List ℕ × ℕ)) (pins : List ((ℕ × ℕ) × ℕ)) → AreFree p l pins (rs ++ ss) → AreFree p l (put p l pins rs) ss
free_back p l [] ss pins h = h
free_back p l (r ∷ rs) ss pins h = free_back p l rs ss (put_one p l pins r) h.1

pin_has : (pins : List ((ℕ × ℕ) × ℕ)) (q : ℕ × ℕ) (net : ℕ) (o : Option ℕ) → net_at pins q ≡ o → IsFreePin net o → net_at (put_pin pins q net o) q ≡ Some net
pin_has pins q net None same h = net_pushed pins q net same
pin_has pins q net (Some k) same h = same ∙ ap (λ (n : ℕ). Some n) h

named_has : (pins : List ((ℕ × ℕ) × ℕ)) (q : ℕ × ℕ) (net : ℕ) (o : Option (ℕ × ℕ)) → o ≡ Some q → IsFreeNamed pins net o → net_at (put_named pins net o) q ≡ Some net
named_has pins q net None e h = absurd h
named_has pins q net (Some r) e h =
    let same : r ≡ q = some_is r q e in
    subst (λ (x : ℕ × ℕ). net_at (put_named pins net (Some r)) x ≡ Some net) same (pin_has pins r net (net_at pins r) refl h)
  where
    some_is : (x y : ℕ × ℕ) → Some x ≡ Some y → x ≡ y
    some_is x y e = cc

-- pins have the nets of the references that name them
pub free_has : (p : Placement) (l : Library) (rs : List (List ℕ × ℕ)) (pins : List ((ℕ × ℕ) × ℕ)) (q : ℕ × ℕ) (k : ℕ) → AreFree p l pins rs → IsInNet p l rs q k → net_at (put p l pins rs) q ≡ Some k
free_has p l [] pins q k h i = absurd (in_none p l q k i)
free_has p l (r ∷ rs) pins q k h i =
    elim (in_cases p l r rs q k i) [
      | inl here ↦ put_keeps p l rs (put_one p l pins r) q k (named_has pins q r.1 (pin_of p l r.0) here.0 h.0 ∙ ap (λ (n : ℕ). Some n) here.1)
      | inr later ↦ free_has p l rs (put_one p l pins r) q k h.1 later
    ]
