-- A point beyond all points of a ring, in any of four directions, doesn't lie in the area within it.
use Rattle.std.proofs.Common.{◌≡◌, ℕ, ◌+◌, ◌%◌, List, [], ◌∷◌, ◌++◌, Bool, true, false, ◌&&◌, cond, arith, refl, sym, ap, ◌∙◌}
use Rattle.std.specs.Prelude.{ℤ, pos, negsuc, ◌-ℤ◌, ◌≤ℤ◌, ◌<ℤ◌}
use Rattle.std.specs.Int.{int_signum}
use Rattle.std.specs.Ordering.{int_eq}
use Rattle.std.specs.List.{count_by, AllByRecursion}
use Rattle.std.proofs.Math.Bool.{xor}
use Rattle.std.proofs.lemmas.Int.{ints}
use Rattle.std.proofs.lemmas.List.Sums.{sum_by-cons}
use lib.Signed.{lt_z}
use Rattle.seg_geometry.specs.declared.points.Pt.{Pt}
use Rattle.seg_geometry.specs.declared.points.Seg.{Seg}
use Rattle.seg_geometry.proofs.Ring.{◌⊕◌, ◌⊗◌, ⊖, linear, products, positive-times, nonneg-times}
use Rattle.area_geometry.specs.Copper.{path, area_edges}
use Rattle.area_geometry.specs.Rings.{lead, counts, IsInside}
use Rattle.area_geometry.proofs.Crossings.{signum_below, signum_above, counts-level}

-- ---- the side on which an edge crosses the height of a point

abbrev led : ℤ → ℤ → ℤ → ℤ → ℤ → ℤ → ℤ
led ax ay bx by vx vy = (ax ⊕ ⊖ vx) ⊗ (by ⊕ ⊖ ay) ⊕ (vy ⊕ ⊖ ay) ⊗ (bx ⊕ ⊖ ax)

falls_right : (ax ay bx by vx vy : ℤ) → vx <ℤ ax → vx <ℤ bx → vy <ℤ ay → by ≤ℤ vy → led ax ay bx by vx vy <ℤ pos 0
falls_right ax ay bx by vx vy ha hb above below =
    let far = positive-times (ay ⊕ ⊖ vy) (bx ⊕ ⊖ vx) (omega (arith, linear)) (omega (arith, linear)) in
    let near = nonneg-times (ax ⊕ ⊖ vx) (vy ⊕ ⊖ by) (omega (arith, linear)) (omega (arith, linear)) in
    let same : led ax ay bx by vx vy ≡ ⊖ ((ax ⊕ ⊖ vx) ⊗ (vy ⊕ ⊖ by) ⊕ (ay ⊕ ⊖ vy) ⊗ (bx ⊕ ⊖ vx)) = simp products (omega (arith, linear)) in
    omega (arith, linear)

rises_right : (ax ay bx by vx vy : ℤ) → vx <ℤ ax → vx <ℤ bx → ay ≤ℤ vy → vy <ℤ by → pos 0 <ℤ led ax ay bx by vx vy
rises_right ax ay bx by vx vy ha hb below above =
    let far = positive-times (ax ⊕ ⊖ vx) (by ⊕ ⊖ vy) (omega (arith, linear)) (omega (arith, linear)) in
    let near = nonneg-times (vy ⊕ ⊖ ay) (bx ⊕ ⊖ vx) (omega (arith, linear)) (omega (arith, linear)) in
    let same : led ax ay bx by vx vy ≡ (ax ⊕ ⊖ vx) ⊗ (by ⊕ ⊖ vy) ⊕ (vy ⊕ ⊖ ay) ⊗ (bx ⊕ ⊖ vx) = simp products (omega (arith, linear)) in
    omega (arith, linear)

falls_left : (ax ay bx by vx vy : ℤ) → ax <ℤ vx → bx <ℤ vx → vy <ℤ ay → by ≤ℤ vy → pos 0 <ℤ led ax ay bx by vx vy
falls_left ax ay bx by vx vy ha hb above below =
    let far = positive-times (ay ⊕ ⊖ vy) (vx ⊕ ⊖ bx) (omega (arith, linear)) (omega (arith, linear)) in
    let near = nonneg-times (vx ⊕ ⊖ ax) (vy ⊕ ⊖ by) (omega (arith, linear)) (omega (arith, linear)) in
    let same : led ax ay bx by vx vy ≡ (vx ⊕ ⊖ ax) ⊗ (vy ⊕ ⊖ by) ⊕ (ay ⊕ ⊖ vy) ⊗ (vx ⊕ ⊖ bx) = simp products (omega (arith, linear)) in
    omega (arith, linear)

rises_left : (ax ay bx by vx vy : ℤ) → ax <ℤ vx → bx <ℤ vx → ay ≤ℤ vy → vy <ℤ by → led ax ay bx by vx vy <ℤ pos 0
rises_left ax ay bx by vx vy ha hb below above =
    let far = positive-times (vx ⊕ ⊖ ax) (by ⊕ ⊖ vy) (omega (arith, linear)) (omega (arith, linear)) in
    let near = nonneg-times (vy ⊕ ⊖ ay) (vx ⊕ ⊖ bx) (omega (arith, linear)) (omega (arith, linear)) in
    let same : led ax ay bx by vx vy ≡ ⊖ ((vx ⊕ ⊖ ax) ⊗ (by ⊕ ⊖ vy) ⊕ (vy ⊕ ⊖ ay) ⊗ (vx ⊕ ⊖ bx)) = simp products (omega (arith, linear)) in
    omega (arith, linear)

lead_is : (v : Pt) (e : Seg) → lead v e ≡ led e.a.x e.a.y e.b.x e.b.y v.x v.y
unfolding ◌⊕◌ ◌⊗◌ ⊖
lead_is v e = refl

-- ---- one edge

right_by : (v : Pt) (e : Seg) (b c : Bool) → v.x <ℤ e.a.x → v.x <ℤ e.b.x → lt_z v.y e.a.y ≡ b → lt_z v.y e.b.y ≡ c → counts v e ≡ xor b c
unfolding counts xor
right_by v e true true ha hb above over = sym (counts-level v e true above over)
right_by v e false false ha hb below under = sym (counts-level v e false below under)
right_by v e true false ha hb above below =
    let fall : int_signum (e.b.y -ℤ e.a.y) ≡ negsuc 0 = signum_below (e.b.y -ℤ e.a.y) (omega (arith, ints)) in
    let less = falls_right e.a.x e.a.y e.b.x e.b.y v.x v.y ha hb (omega (arith, ints)) (omega (arith, ints)) in
    let lower : int_signum (lead v e) ≡ negsuc 0 = ap int_signum (lead_is v e) ∙ signum_below _ less in
    (λ i. xor (above i) (below i) && int_eq (lower i) (fall i))
right_by v e false true ha hb below above =
    let rise : int_signum (e.b.y -ℤ e.a.y) ≡ pos 1 = signum_above (e.b.y -ℤ e.a.y) (omega (arith, ints)) in
    let more = rises_right e.a.x e.a.y e.b.x e.b.y v.x v.y ha hb (omega (arith, ints)) (omega (arith, ints)) in
    let upper : int_signum (lead v e) ≡ pos 1 = ap int_signum (lead_is v e) ∙ signum_above _ more in
    (λ i. xor (below i) (above i) && int_eq (upper i) (rise i))

left_by : (v : Pt) (e : Seg) (b c : Bool) → e.a.x <ℤ v.x → e.b.x <ℤ v.x → lt_z v.y e.a.y ≡ b → lt_z v.y e.b.y ≡ c → counts v e ≡ false
unfolding counts xor
left_by v e true true ha hb above over = sym (counts-level v e true above over)
left_by v e false false ha hb below under = sym (counts-level v e false below under)
left_by v e true false ha hb above below =
    let fall : int_signum (e.b.y -ℤ e.a.y) ≡ negsuc 0 = signum_below (e.b.y -ℤ e.a.y) (omega (arith, ints)) in
    let more = falls_left e.a.x e.a.y e.b.x e.b.y v.x v.y ha hb (omega (arith, ints)) (omega (arith, ints)) in
    let upper : int_signum (lead v e) ≡ pos 1 = ap int_signum (lead_is v e) ∙ signum_above _ more in
    (λ i. xor (above i) (below i) && int_eq (upper i) (fall i))
left_by v e false true ha hb below above =
    let rise : int_signum (e.b.y -ℤ e.a.y) ≡ pos 1 = signum_above (e.b.y -ℤ e.a.y) (omega (arith, ints)) in
    let less = rises_left e.a.x e.a.y e.b.x e.b.y v.x v.y ha hb (omega (arith, ints)) (omega (arith, ints)) in
    let lower : int_signum (lead v e) ≡ negsuc 0 = ap int_signum (lead_is v e) ∙ signum_below _ less in
    (λ i. xor (below i) (above i) && int_eq (lower i) (rise i))

-- ---- all edges

-- the ends of each segment along a path are among its points
ends : (P : Pt → Type 0) (p : Pt) (rest : List Pt) → P p → AllByRecursion P rest → AllByRecursion (λ (e : Seg). P e.a × P e.b) (path p rest)
unfolding path
ends P p [] h k = tt
ends P p (q ∷ rest) h k = ((h, k.0), ends P q rest k.0 k.1)

pushed : (P : Pt → Type 0) (ps : List Pt) (p : Pt) → AllByRecursion P ps → P p → AllByRecursion P (ps ++ p ∷ [])
pushed P [] p h k = (k, tt)
pushed P (q ∷ rest) p h k = (h.0, pushed P rest p h.1 k)

pub edge_ends : (P : Pt → Type 0) (ps : List Pt) → AllByRecursion P ps → AllByRecursion (λ (e : Seg). P e.a × P e.b) (area_edges ps)
unfolding area_edges
edge_ends P [] h = tt
edge_ends P (p ∷ rest) h = ends P p (rest ++ p ∷ []) h.0 (pushed P rest p h.1 h.0)

pub chain_ends : (P : Pt → Type 0) (p : Pt) (rest : List Pt) → P p → AllByRecursion P rest → AllByRecursion (λ (e : Seg). P e.a × P e.b) (path p rest)
chain_ends P p rest h k = ends P p rest h k

all_mapped : {X : Type 0} (P Q : X → Type 0) (xs : List X) → ((x : X) → P x → Q x) → AllByRecursion P xs → AllByRecursion Q xs
all_mapped P Q [] f h = tt
all_mapped P Q (x ∷ xs) f h = (f x h.0, all_mapped P Q xs f h.1)

counted : {X : Type 0} (p : X → Bool) (x : X) (xs : List X) → count_by p (x ∷ xs) ≡ cond (p x) 1 0 + count_by p xs
counted p x xs = sum_by-cons (λ y. cond (p y) 1 0) x xs

count_none : {X : Type 0} (p : X → Bool) (xs : List X) → AllByRecursion (λ x. p x ≡ false) xs → count_by p xs ≡ 0
count_none p [] h = refl
count_none p (x ∷ xs) h = counted p x xs ∙ (λ i. cond (h.0 i) 1 0 + count_none p xs h.1 i)

count_same : {X : Type 0} (p q : X → Bool) (xs : List X) → AllByRecursion (λ x. p x ≡ q x) xs → count_by p xs ≡ count_by q xs
count_same p q [] h = refl
count_same p q (x ∷ xs) h = counted p x xs ∙ (λ i. cond (h.0 i) 1 0 + count_same p q xs h.1 i) ∙ sym (counted q x xs)

-- ---- a closed ring goes up as often as it goes down

abbrev end_of : Pt → List Pt → Pt
end_of p [] = p
end_of p (q ∷ rest) = end_of q rest

back_at : (p q : Pt) (rest : List Pt) → end_of p (rest ++ q ∷ []) ≡ q
back_at p q [] = refl
back_at p q (r ∷ rest) = back_at r q rest

abbrev bit : Bool → ℕ
bit b = cond b 1 0

one_step : (a b c : Bool) (m n : ℕ) → n ≡ m + m + bit (xor b c) → (k : ℕ) × (bit (xor a b) + n ≡ k + k + bit (xor a c))
unfolding xor
one_step true true true m n e = (m, omega arith)
one_step true true false m n e = (m, omega arith)
one_step true false true m n e = (m + 1, omega arith)
one_step true false false m n e = (m, omega arith)
one_step false true true m n e = (m, omega arith)
one_step false true false m n e = (m + 1, omega arith)
one_step false false true m n e = (m, omega arith)
one_step false false false m n e = (m, omega arith)

no_step : (b : Bool) → 0 ≡ bit (xor b b)
unfolding xor
no_step true = refl
no_step false = refl

steps_of : (up : Pt → Bool) (p : Pt) (rest : List Pt) → (k : ℕ) × (count_by (λ (e : Seg). xor (up e.a) (up e.b)) (path p rest) ≡ k + k + bit (xor (up p) (up (end_of p rest))))
unfolding path
steps_of up p [] = (0, no_step (up p) ∙ omega arith)
steps_of up p (q ∷ rest) =
    let on = steps_of up q rest in
    let step = one_step (up p) (up q) (up (end_of q rest)) on.0 _ on.1 in
    (step.0, counted (λ (e : Seg). xor (up e.a) (up e.b)) (record { a = p; b = q }) (path q rest) ∙ step.1)

even_round : (up : Pt → Bool) (ps : List Pt) → (k : ℕ) × (count_by (λ (e : Seg). xor (up e.a) (up e.b)) (area_edges ps) ≡ k + k)
unfolding area_edges
even_round up [] = (0, refl)
even_round up (p ∷ rest) =
    let on = steps_of up p (rest ++ p ∷ []) in
    let same : bit (xor (up p) (up (end_of p (rest ++ p ∷ [])))) ≡ 0 = ap (λ (q : Pt). bit (xor (up p) (up q))) (back_at p p rest) ∙ sym (no_step (up p)) in
    (on.0, on.1 ∙ (λ i. on.0 + on.0 + same i) ∙ omega arith)

not_odd : (n k : ℕ) → n ≡ k + k → n % 2 ≡ 1 → ⊥
not_odd n k e h = omega arith

-- ---- the four directions

pub outside_left : (v : Pt) (ps : List Pt) → AllByRecursion (λ p. v.x <ℤ p.x) ps → IsInside v ps → ⊥
outside_left v ps h inside =
    let up : Pt → Bool = λ p. lt_z v.y p.y in
    let each = all_mapped (λ (e : Seg). (v.x <ℤ e.a.x) × (v.x <ℤ e.b.x)) (λ (e : Seg). counts v e ≡ xor (up e.a) (up e.b)) (area_edges ps) (λ e k. right_by v e _ _ k.0 k.1 refl refl) (edge_ends (λ p. v.x <ℤ p.x) ps h) in
    let even = even_round up ps in
    not_odd _ even.0 (count_same (counts v) (λ (e : Seg). xor (up e.a) (up e.b)) (area_edges ps) each ∙ even.1) inside

none_inside : (v : Pt) (ps : List Pt) → AllByRecursion (λ (e : Seg). counts v e ≡ false) (area_edges ps) → IsInside v ps → ⊥
none_inside v ps each inside = not_odd _ 0 (count_none (counts v) (area_edges ps) each) inside

pub outside_right : (v : Pt) (ps : List Pt) → AllByRecursion (λ p. p.x <ℤ v.x) ps → IsInside v ps → ⊥
outside_right v ps h =
    none_inside v ps (all_mapped (λ (e : Seg). (e.a.x <ℤ v.x) × (e.b.x <ℤ v.x)) (λ (e : Seg). counts v e ≡ false) (area_edges ps) (λ e k. left_by v e _ _ k.0 k.1 refl refl) (edge_ends (λ p. p.x <ℤ v.x) ps h))

less_by : (x y : ℤ) (b : Bool) → lt_z x y ≡ b → x <ℤ y → lt_z x y ≡ true
less_by x y true e h = e
less_by x y false e h = absurd (omega (arith, ints))

is_less : (x y : ℤ) → x <ℤ y → lt_z x y ≡ true
is_less x y h = less_by x y (lt_z x y) refl h

more_by : (x y : ℤ) (b : Bool) → lt_z x y ≡ b → y <ℤ x → lt_z x y ≡ false
more_by x y true e h = absurd (omega (arith, ints))
more_by x y false e h = e

isnt_less : (x y : ℤ) → y <ℤ x → lt_z x y ≡ false
isnt_less x y h = more_by x y (lt_z x y) refl h

pub outside_below : (v : Pt) (ps : List Pt) → AllByRecursion (λ p. v.y <ℤ p.y) ps → IsInside v ps → ⊥
outside_below v ps h =
    none_inside v ps (all_mapped (λ (e : Seg). (v.y <ℤ e.a.y) × (v.y <ℤ e.b.y)) (λ (e : Seg). counts v e ≡ false) (area_edges ps) (λ e k. sym (counts-level v e true (is_less _ _ k.0) (is_less _ _ k.1))) (edge_ends (λ p. v.y <ℤ p.y) ps h))

pub outside_above : (v : Pt) (ps : List Pt) → AllByRecursion (λ p. p.y <ℤ v.y) ps → IsInside v ps → ⊥
outside_above v ps h =
    none_inside v ps (all_mapped (λ (e : Seg). (e.a.y <ℤ v.y) × (e.b.y <ℤ v.y)) (λ (e : Seg). counts v e ≡ false) (area_edges ps) (λ e k. sym (counts-level v e false (isnt_less _ _ k.0) (isnt_less _ _ k.1))) (edge_ends (λ p. p.y <ℤ v.y) ps h))
