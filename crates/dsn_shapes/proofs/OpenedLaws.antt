-- The ring of points is what is left of them without a last one that is the first again.
use Rattle.std.proofs.Common.{◌≡◌, ℕ, ◌-◌, int_eq, Bool, true, false, cond, List, [], ◌∷◌, ◌++◌, length, take, Some, refl, sym, ap, subst, ◌∙◌, arith, inl, inr}
use Rattle.std.specs.Prelude.{nat_lt, slice_get, ◌&&◌}
use Rattle.std.proofs.lemmas.List.{length-append}
use Rattle.std.proofs.lemmas.Bool.{lt-ltb}
use Rattle.std.proofs.lemmas.Bool.Decides.{Decides-int_eq}
use Rattle.seg_geometry.specs.declared.points.Pt.{Pt}
use Rattle.dsn_shapes.specs.Rings.{is_same_point, are_same, is_closed, opened}
use Rattle.dsn_shapes.specs.RingLists.{IsClosing, IsRingOf}

-- ---- points

and_on : (a b : Bool) → (a && b) ≡ true → (a ≡ true) × (b ≡ true)
and_on true b e = (refl, e)
and_on false b e = absurd cc

same_on : (p q : Pt) → is_same_point p q ≡ true → p ≡ q
same_on p q e =
    let s = and_on (int_eq p.x q.x) (int_eq p.y q.y) e in
    let x = (Decides-int_eq p.x q.x).0 s.0 in
    let y = (Decides-int_eq p.y q.y).0 s.1 in
    λ i. record { x = x i; y = y i }

same_self : (p : Pt) → is_same_point p p ≡ true
same_self p = rw ((Decides-int_eq p.x p.x).1 refl, (Decides-int_eq p.y p.y).1 refl) refl

-- ---- the last of points

-- points behind the first, the last of them apart
last_of_more : (p : Pt) (ps : List Pt) → (front : List Pt) × (z : Pt) × (p ∷ ps ≡ front ++ z ∷ [])
last_of_more p [] = ([], p, refl)
last_of_more p (q ∷ ps) = let r = last_of_more q ps in (p ∷ r.0, r.1, ap (λ (xs : List Pt). p ∷ xs) r.2)

get_last : (front : List Pt) (z : Pt) → slice_get (front ++ z ∷ []) (length front) ≡ Some z
get_last [] z = refl
get_last (p ∷ front) z = get_last front z

take_front : (front : List Pt) (z : Pt) → take (length front) (front ++ z ∷ []) ≡ front
take_front [] z = refl
take_front (p ∷ front) z = ap (λ (xs : List Pt). p ∷ xs) (take_front front z)

-- how many points there are but the last
but_one : (p : Pt) (front : List Pt) (z : Pt) → length (p ∷ (front ++ z ∷ [])) - 1 ≡ length (p ∷ front)
but_one p front z = let sum = length-append front (z ∷ []) in omega (arith, sum)

closed_is : (p : Pt) (front : List Pt) (z : Pt) → is_closed (p ∷ (front ++ z ∷ [])) ≡ is_same_point p z
unfolding is_closed
closed_is p front z =
    let sum = length-append front (z ∷ []) in
    let many : nat_lt 1 (length (p ∷ (front ++ z ∷ []))) ≡ true = lt-ltb 1 (length (p ∷ (front ++ z ∷ []))) (omega (arith, sum)) in
    ap (λ (b : Bool). b && are_same (Some p) (slice_get (p ∷ (front ++ z ∷ [])) (length (p ∷ (front ++ z ∷ [])) - 1))) many
    ∙ ap (λ (k : ℕ). are_same (Some p) (slice_get (p ∷ (front ++ z ∷ [])) k)) (but_one p front z)
    ∙ ap (λ o. are_same (Some p) o) (get_last (p ∷ front) z)

opened_last : (p : Pt) (front : List Pt) (z : Pt) → opened (p ∷ (front ++ z ∷ [])) ≡ cond (is_same_point p z) (p ∷ front) (p ∷ (front ++ z ∷ []))
unfolding opened
opened_last p front z =
    ap (λ (b : Bool). cond b (take (length (p ∷ (front ++ z ∷ [])) - 1) (p ∷ (front ++ z ∷ []))) (p ∷ (front ++ z ∷ []))) (closed_is p front z)
    ∙ ap (λ (xs : List Pt). cond (is_same_point p z) xs (p ∷ (front ++ z ∷ []))) (ap (λ (k : ℕ). take k (p ∷ (front ++ z ∷ []))) (but_one p front z) ∙ take_front (p ∷ front) z)

-- ---- lists that end with a point

heads : (a b : Pt) (xs ys : List Pt) → a ∷ xs ≡ b ∷ ys → (a ≡ b) × (xs ≡ ys)
heads a b xs ys e = (cc, cc)

no_end : (xs : List Pt) (z : Pt) → [] ≡ xs ++ z ∷ [] → ⊥
no_end [] z e = absurd cc
no_end (x ∷ xs) z e = absurd cc

ends : (xs ys : List Pt) (a b : Pt) → xs ++ a ∷ [] ≡ ys ++ b ∷ [] → a ≡ b
ends [] [] a b e = (heads a b [] [] e).0
ends [] (y ∷ ys) a b e = absurd (no_end ys b (heads a y [] (ys ++ b ∷ []) e).1)
ends (x ∷ xs) [] a b e = absurd (no_end xs a (sym (heads x b (xs ++ a ∷ []) [] e).1))
ends (x ∷ xs) (y ∷ ys) a b e = ends xs ys a b (heads x y (xs ++ a ∷ []) (ys ++ b ∷ []) e).1

none_closes : (other : List Pt) → IsClosing [] other → ⊥
none_closes [] h = h
none_closes (p ∷ ps) h = absurd cc

one_closes : (p : Pt) (other : List Pt) → IsClosing (p ∷ []) other → ⊥
one_closes p [] h = h
one_closes p (q ∷ qs) h = no_end qs q (heads p q [] (qs ++ q ∷ []) h).1

other_ends : (p z : Pt) (front other : List Pt) → is_same_point p z ≡ false → IsClosing (p ∷ (front ++ z ∷ [])) other → ⊥
other_ends p z front [] apart h = h
other_ends p z front (q ∷ qs) apart h =
    let s = heads p q (front ++ z ∷ []) (qs ++ q ∷ []) h in
    let same : p ≡ z = s.0 ∙ sym (ends front qs z q s.1) in
    let on : is_same_point p z ≡ true = ap (λ (r : Pt). is_same_point p r) (sym same) ∙ same_self p in
    absurd cc

-- ---- the ring of points

ring_last : (p z : Pt) (front : List Pt) → IsRingOf (p ∷ (front ++ z ∷ [])) (opened (p ∷ (front ++ z ∷ [])))
ring_last p z front = subst (λ (r : List Pt). IsRingOf (p ∷ (front ++ z ∷ [])) r) (sym (opened_last p front z)) (by (is_same_point p z) refl)
  where
    by : (b : Bool) → is_same_point p z ≡ b → IsRingOf (p ∷ (front ++ z ∷ [])) (cond b (p ∷ front) (p ∷ (front ++ z ∷ [])))
    by true is = inl (ap (λ (r : Pt). p ∷ (front ++ r ∷ [])) (sym (same_on p z is)))
    by false is = inr (refl, λ other h. other_ends p z front other is h)

opened_none : opened [] ≡ []
unfolding opened is_closed
opened_none = refl

opened_one : (p : Pt) → opened (p ∷ []) ≡ p ∷ []
unfolding opened is_closed
opened_one p = refl

pub opened_found : (ps : List Pt) → IsRingOf ps (opened ps)
opened_found [] = inr (opened_none, none_closes)
opened_found (p ∷ []) = inr (opened_one p, one_closes p)
opened_found (p ∷ q ∷ qs) =
    let r = last_of_more q qs in
    subst (λ (xs : List Pt). IsRingOf (p ∷ xs) (opened (p ∷ xs))) (sym r.2) (ring_last p r.1 r.0)

closing_is : (ps ring : List Pt) → IsClosing ps ring → opened ps ≡ ring
closing_is ps [] h = absurd h
closing_is ps (p ∷ front) h =
    ap opened h ∙ opened_last p front p ∙ ap (λ (b : Bool). cond b (p ∷ front) (p ∷ (front ++ p ∷ []))) (same_self p)

open_is : (ps : List Pt) → ((other : List Pt) → IsClosing ps other → ⊥) → IsRingOf ps (opened ps) → opened ps ≡ ps
open_is ps none (inl h) = absurd (none (opened ps) h)
open_is ps none (inr h) = h.0

-- points have one ring
pub opened_only : (ps ring : List Pt) → IsRingOf ps ring → opened ps ≡ ring
opened_only ps ring (inl h) = closing_is ps ring h
opened_only ps ring (inr h) = open_is ps h.1 (opened_found ps) ∙ sym h.0
