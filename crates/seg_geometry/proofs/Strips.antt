-- Points and segments that lie on both sides of a strip along an axis, as those in rectangles that don't meet do.
use Rattle.std.proofs.Common.{◌≡◌, ℕ, ◌+◌, ◌≤◌, ◌⊎◌, inl, inr, List, get_or, arith, refl, subst}
use Rattle.std.specs.Prelude.{ℤ, pos, ◌+ℤ◌, ◌-ℤ◌, ◌≤ℤ◌, ◌<ℤ◌, All, Any}
use Rattle.std.proofs.lemmas.Int.{ints, by_lt_z}
use Rattle.std.proofs.lemmas.List.Elements.{All-weaker}
use borrow.Author.Differences.{sum_is_lem, neg_is}
use Rattle.seg_geometry.specs.declared.points.Pt.{Pt}
use Rattle.seg_geometry.specs.declared.points.Seg.{Seg}
use Rattle.seg_geometry.specs.declared.rectangles.Rect.{Rect}
use Rattle.seg_geometry.specs.Apart.{IsApart}
use Rattle.seg_geometry.specs.Rectangles.{Holds, IsLeastGrown, Meets, moved_in, RangesMeet}
use Rattle.seg_geometry.proofs.Ring.{◌⊕◌, ◌⊗◌, ⊖, linear, products, four_is, times-le, squares-le, nonneg-times, square_nonneg}
use Rattle.seg_geometry.proofs.Gap.{gap, norm, Keeps}
use Rattle.seg_geometry.proofs.Exit.{Within}
use Rattle.seg_geometry.proofs.Bridge.{apart_in}
use Rattle.seg_geometry.proofs.Frames.{Meets-from_ranges}

-- sums in both spellings, for `omega`
ruleset both = (linear, sum_is_lem, neg_is)

-- a gap along one axis is enough
axis : (k q g x y z : ℤ) → pos 0 ≤ℤ k → pos 0 ≤ℤ q → k ≤ℤ g ⊕ g → q ⊗ g ≤ℤ z → z ⊗ z ≡ x ⊗ x → Keeps k q (norm x y)
axis k q g x y z hk hq le far same =
    let hg : pos 0 ≤ℤ g = omega (arith, linear) in
    let a = squares-le (q ⊗ g) z (nonneg-times q g hq hg) far in
    let b = times-le (q ⊗ q) (k ⊗ k) ((g ⊕ g) ⊗ (g ⊕ g)) (square_nonneg q) (squares-le k (g ⊕ g) hk le) in
    let w = (q ⊗ g) ⊗ (q ⊗ g) in
    let e : (q ⊗ q) ⊗ ((g ⊕ g) ⊗ (g ⊕ g)) ≡ w ⊕ w ⊕ w ⊕ w = simp products (omega (arith, linear)) in
    let f = square_nonneg y in
    record { keeps = omega (arith, linear, four_is) }

-- the first segment lies below m, the second above n
below : (q p r a b c d m n g : ℤ) → Within q p → Within q r → a ≤ℤ m → b ≤ℤ m → n ≤ℤ c → n ≤ℤ d → m ⊕ g ≤ℤ n
    → q ⊗ g ≤ℤ ⊖ (gap q p r (a ⊕ ⊖ c) (b ⊕ ⊖ a) (d ⊕ ⊖ c))
below q p r a b c d m n g wp wr ha hb hc hd far =
    let hq : pos 0 ≤ℤ q = omega (arith, linear, wp.scale) in
    let rest_p : pos 0 ≤ℤ q ⊕ ⊖ p = omega (arith, linear, wp.high) in
    let rest_r : pos 0 ≤ℤ q ⊕ ⊖ r = omega (arith, linear, wr.high) in
    let e1 = times-le (q ⊕ ⊖ p) a m rest_p ha in
    let e2 = times-le p b m wp.low hb in
    let e3 = times-le (q ⊕ ⊖ r) n c rest_r hc in
    let e4 = times-le r n d wr.low hd in
    let e5 = times-le q (m ⊕ g) n hq far in
    let s : ⊖ (gap q p r (a ⊕ ⊖ c) (b ⊕ ⊖ a) (d ⊕ ⊖ c)) ≡ ((q ⊕ ⊖ r) ⊗ c ⊕ r ⊗ d) ⊕ ⊖ ((q ⊕ ⊖ p) ⊗ a ⊕ p ⊗ b) = simp products (omega (arith, linear)) in
    let t1 : (q ⊕ ⊖ p) ⊗ m ⊕ p ⊗ m ≡ q ⊗ m = simp products (omega (arith, linear)) in
    let t2 : (q ⊕ ⊖ r) ⊗ n ⊕ r ⊗ n ≡ q ⊗ n = simp products (omega (arith, linear)) in
    let t3 : q ⊗ (m ⊕ g) ≡ q ⊗ m ⊕ q ⊗ g = simp products (omega (arith, linear)) in
    omega (arith, linear)

turned : (x : ℤ) → ⊖ x ⊗ ⊖ x ≡ x ⊗ x
turned x = simp products (omega (arith, linear))

swapped : (k q x y : ℤ) → Keeps k q (norm y x) → Keeps k q (norm x y)
swapped k q x y h = let e = h.keeps in record { keeps = omega (arith, linear, four_is) }

-- how the two are told apart along an axis
record IsSplit (a b c d m n g : ℤ) : Type 0 where
  pub a_low : a ≤ℤ m
  pub b_low : b ≤ℤ m
  pub c_high : n ≤ℤ c
  pub d_high : n ≤ℤ d
  pub far : m ⊕ g ≤ℤ n

not_less : (q p : ℤ) → Within q p → pos 0 ≤ℤ q
not_less q p w = omega (arith, linear, w.scale)

apart_across : (s t : Seg) (k : ℕ) (m n g : ℤ) → pos k ≤ℤ g ⊕ g → IsSplit s.a.x s.b.x t.a.x t.b.x m n g → IsApart s t k
apart_across s t k m n g le h =
    let hk : pos 0 ≤ℤ pos k = omega (arith, linear) in
    apart_in s t k (λ q p u wp wu. axis _ _ _ _ _ _ hk (not_less q p wp) le (below q p u _ _ _ _ m n g wp wu h.a_low h.b_low h.c_high h.d_high h.far) (turned _))

apart_upright : (s t : Seg) (k : ℕ) (m n g : ℤ) → pos k ≤ℤ g ⊕ g → IsSplit s.a.y s.b.y t.a.y t.b.y m n g → IsApart s t k
apart_upright s t k m n g le h =
    let hk : pos 0 ≤ℤ pos k = omega (arith, linear) in
    apart_in s t k (λ q p u wp wu. swapped _ _ _ _ (axis _ _ _ _ _ _ hk (not_less q p wp) le (below q p u _ _ _ _ m n g wp wu h.a_low h.b_low h.c_high h.d_high h.far) (turned _)))

-- ---- strips

-- a coordinate of the first points is at most m, that of the second at least n, which is more than g further on
pub record IsStrip (f : Pt → ℤ) (ps qs : List Pt) (g : ℕ) : Type 0 where
  pub m : ℤ
  pub n : ℤ
  pub before : All (λ p. f p ≤ℤ m) ps
  pub behind : All (λ q. n ≤ℤ f q) qs
  pub far : (m +ℤ pos g) <ℤ n

abbrev pub x_of : Pt → ℤ
x_of p = p.x

abbrev pub y_of : Pt → ℤ
y_of p = p.y

-- a segment is at most at m, another at least at n
pub record IsBesideStrip (f : Pt → ℤ) (s t : Seg) (m n : ℤ) : Type 0 where
  pub a : f s.a ≤ℤ m
  pub b : f s.b ≤ℤ m
  pub other_a : n ≤ℤ f t.a
  pub other_b : n ≤ℤ f t.b

split_of : (a b c d m n : ℤ) (g : ℕ) → a ≤ℤ m → b ≤ℤ m → n ≤ℤ c → n ≤ℤ d → (m +ℤ pos g) <ℤ n → IsSplit a b c d m n (pos g)
split_of a b c d m n g ha hb hc hd far = record { a_low = ha; b_low = hb; c_high = hc; d_high = hd; far = omega (arith, both) }

twice : (k g : ℕ) → k ≤ g + g → pos k ≤ℤ pos g ⊕ pos g
twice k g le = omega (arith, linear)

-- segments on both sides of a strip keep its breadth
pub across_strip : (s t : Seg) (k g : ℕ) (m n : ℤ) → k ≤ g + g → (m +ℤ pos g) <ℤ n → IsBesideStrip x_of s t m n → IsApart s t k
across_strip s t k g m n le far h = apart_across s t k m n (pos g) (twice k g le) (split_of _ _ _ _ m n g h.a h.b h.other_a h.other_b far)

pub along_strip : (s t : Seg) (k g : ℕ) (m n : ℤ) → k ≤ g + g → (m +ℤ pos g) <ℤ n → IsBesideStrip y_of s t m n → IsApart s t k
along_strip s t k g m n le far h = apart_upright s t k m n (pos g) (twice k g le) (split_of _ _ _ _ m n g h.a h.b h.other_a h.other_b far)

-- ---- rectangles

in_order : (r : Rect) (by : ℕ) (p : Pt) (low high z : ℤ) → z ≡ low +ℤ pos by → z ≤ℤ (high -ℤ pos by) → low ≤ℤ high
in_order r by p low high z e h = omega (arith, ints)

held_at : (r : Rect) (ps : List Pt) (P : Pt → Type 0) → All (Holds r) ps → Any P ps → (p : Pt) × Holds r p × P p
held_at r ps P all any = (any.1, subst (Holds r) any.3 (all any.0 any.1 any.2), any.4)

-- a rectangle round some points isn't empty
wide : (r : Rect) (ps : List Pt) (by : ℕ) → IsLeastGrown r ps by → r.lo.x ≤ℤ r.hi.x
wide r ps by h =
    let at = held_at (moved_in by r) ps (λ p. p.x ≡ r.lo.x +ℤ pos by) h.least.inside h.least.left_reached in
    in_order r by at.0 r.lo.x r.hi.x at.0.x at.2 at.1.right

high : (r : Rect) (ps : List Pt) (by : ℕ) → IsLeastGrown r ps by → r.lo.y ≤ℤ r.hi.y
high r ps by h =
    let at = held_at (moved_in by r) ps (λ p. p.y ≡ r.lo.y +ℤ pos by) h.least.inside h.least.low_reached in
    in_order r by at.0 r.lo.y r.hi.y at.0.y at.2 at.1.high

pub ranges_meet : (a b c d : ℤ) → a ≤ℤ b → c ≤ℤ d → a ≤ℤ d → c ≤ℤ b → RangesMeet a b c d
ranges_meet a b c d ab cd ad cb = by_lt_z a c
    (λ lt. record { at = c; from_low = omega (arith, ints); to_high = cb; from_other_low = omega (arith, ints); to_other_high = cd })
    (λ le. record { at = a; from_low = omega (arith, ints); to_high = ab; from_other_low = le; to_other_high = ad })

-- there is a strip between the points, along an axis, and the first points lie before it or behind it
abbrev pub Strips : List Pt → List Pt → ℕ → Type 0
Strips ps qs g = (IsStrip x_of ps qs g ⊎ IsStrip x_of qs ps g) ⊎ (IsStrip y_of ps qs g ⊎ IsStrip y_of qs ps g)

beyond : (high low : ℤ) (by out : ℕ) → high <ℤ low → ((high -ℤ pos by) +ℤ pos (by + out)) <ℤ (low +ℤ pos out)
beyond high low by out lt = omega (arith, ints)

back : (high low : ℤ) (by out : ℕ) → high <ℤ low → ((high -ℤ pos out) +ℤ pos (by + out)) <ℤ (low +ℤ pos by)
back high low by out lt = omega (arith, ints)

strip_x : (r o : Rect) (ps qs : List Pt) (by out g : ℕ) → IsLeastGrown r ps by → IsLeastGrown o qs out
    → ((r.hi.x -ℤ pos by) +ℤ pos g) <ℤ (o.lo.x +ℤ pos out) → IsStrip x_of ps qs g
strip_x r o ps qs by out g h k far = record {
  m = r.hi.x -ℤ pos by;
  n = o.lo.x +ℤ pos out;
  before = All-weaker (Holds (moved_in by r)) (λ p. p.x ≤ℤ (r.hi.x -ℤ pos by)) (λ p w. w.right) ps h.least.inside;
  behind = All-weaker (Holds (moved_in out o)) (λ p. (o.lo.x +ℤ pos out) ≤ℤ p.x) (λ p w. w.left) qs k.least.inside;
  far = far;
}

strip_y : (r o : Rect) (ps qs : List Pt) (by out g : ℕ) → IsLeastGrown r ps by → IsLeastGrown o qs out
    → ((r.hi.y -ℤ pos by) +ℤ pos g) <ℤ (o.lo.y +ℤ pos out) → IsStrip y_of ps qs g
strip_y r o ps qs by out g h k far = record {
  m = r.hi.y -ℤ pos by;
  n = o.lo.y +ℤ pos out;
  before = All-weaker (Holds (moved_in by r)) (λ p. p.y ≤ℤ (r.hi.y -ℤ pos by)) (λ p w. w.high) ps h.least.inside;
  behind = All-weaker (Holds (moved_in out o)) (λ p. (o.lo.y +ℤ pos out) ≤ℤ p.y) (λ p w. w.low) qs k.least.inside;
  far = far;
}

-- rectangles meet, or between their points there is a strip
pub meet_or_strips : (r o : Rect) (ps qs : List Pt) (by out : ℕ) → IsLeastGrown r ps by → IsLeastGrown o qs out → Meets r o ⊎ Strips ps qs (by + out)
meet_or_strips r o ps qs by out h k =
    by_lt_z r.hi.x o.lo.x (λ lt. inr (inl (inl (strip_x r o ps qs by out (by + out) h k (beyond r.hi.x o.lo.x by out lt))))) (λ x1.
    by_lt_z o.hi.x r.lo.x (λ lt. inr (inl (inr (strip_x o r qs ps out by (by + out) k h (back o.hi.x r.lo.x by out lt))))) (λ x2.
    by_lt_z r.hi.y o.lo.y (λ lt. inr (inr (inl (strip_y r o ps qs by out (by + out) h k (beyond r.hi.y o.lo.y by out lt))))) (λ y1.
    by_lt_z o.hi.y r.lo.y (λ lt. inr (inr (inr (strip_y o r qs ps out by (by + out) k h (back o.hi.y r.lo.y by out lt))))) (λ y2.
    inl (Meets-from_ranges r o (ranges_meet _ _ _ _ (wide r ps by h) (wide o qs out k) x2 x1) (ranges_meet _ _ _ _ (high r ps by h) (high o qs out k) y2 y1))))))

pub strips_where_missed : (r o : Rect) (ps qs : List Pt) (by out : ℕ) → IsLeastGrown r ps by → IsLeastGrown o qs out → (Meets r o → ⊥) → Strips ps qs (by + out)
strips_where_missed r o ps qs by out h k missed = elim (meet_or_strips r o ps qs by out h k) [ inl meet ↦ absurd (missed meet) | inr strips ↦ strips ]
