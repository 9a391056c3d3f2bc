-- The least rectangle round the points so far, and rectangles that meet.
use Rattle.std.proofs.Common.{◌≡◌, ℕ, ◌+◌, ◌<◌, ◌≤◌, List, Bool, true, false, cond, length, get_or, take, arith, refl, sym, subst}
use Rattle.std.specs.Prelude.{ℤ, pos, ◌+ℤ◌, ◌-ℤ◌, ◌≤ℤ◌, All, Any, IsTrue}
use lib.Signed.{le_z}
use Rattle.std.specs.Int.{int_min, int_max}
use Rattle.std.specs.Prelude.{int_lt}
use Rattle.std.proofs.lemmas.Int.{ints, clamps}
use Rattle.std.proofs.lemmas.List.{take_all}
use Rattle.std.proofs.lemmas.List.Elements.{All-more, All-weaker, All-same}
use Rattle.seg_geometry.specs.declared.points.Pt.{Pt}
use Rattle.seg_geometry.specs.declared.rectangles.Rect.{Rect}
use Rattle.seg_geometry.specs.Rectangles.{Holds, IsLeastGrown, moved_in, RangesMeet, Meets}

-- (x, y) lies in the rectangle from (left, low) to (right, high)
pub record IsBetween (left low right high x y : ℤ) : Type 0 where
  pub left_of : left ≤ℤ x
  pub right_of : x ≤ℤ right
  pub above : low ≤ℤ y
  pub below : y ≤ℤ high

-- the first i points lie within, and each side touches one of all points
pub record IsFrame (left low right high : ℤ) (points : List Pt) (i : ℕ) : Type 0 where
  pub inside : All (λ p. IsBetween left low right high p.x p.y) (take i points)
  pub left_reached : Any (λ p. p.x ≡ left) points
  pub low_reached : Any (λ p. p.y ≡ low) points
  pub right_reached : Any (λ p. p.x ≡ right) points
  pub high_reached : Any (λ p. p.y ≡ high) points

wider : (a b c d x y : ℤ) (p : Pt) → IsBetween a b c d p.x p.y → IsBetween (int_min a x) (int_min b y) (int_max c x) (int_max d y) p.x p.y
wider a b c d x y p h = record { left_of = omega (arith, ints, clamps); right_of = omega (arith, ints, clamps); above = omega (arith, ints, clamps); below = omega (arith, ints, clamps) }

itself : (a b c d : ℤ) (p : Pt) → IsBetween (int_min a p.x) (int_min b p.y) (int_max c p.x) (int_max d p.y) p.x p.y
itself a b c d p = record { left_of = omega (arith, ints, clamps); right_of = omega (arith, ints, clamps); above = omega (arith, ints, clamps); below = omega (arith, ints, clamps) }

-- a choice of two values that are both reached
reached : (f : Pt → ℤ) (points : List Pt) (t : Bool) (a b : ℤ) → Any (λ p. f p ≡ a) points → Any (λ p. f p ≡ b) points → Any (λ p. f p ≡ cond t a b) points
reached f points true a b h k = h
reached f points false a b h k = k

pub IsFrame-more : (a b c d : ℤ) (points : List Pt) (i : ℕ) (p : Pt) → i < length points → p ≡ get_or points i p → IsFrame a b c d points i
    → IsFrame (int_min a p.x) (int_min b p.y) (int_max c p.x) (int_max d p.y) points (i + 1)
IsFrame-more a b c d points i p h e f =
    let here : (g : Pt → ℤ) → Any (λ r. g r ≡ g p) points = λ g. (i, p, h, sym e, refl) in
    record {
      inside = All-more (λ r. IsBetween (int_min a p.x) (int_min b p.y) (int_max c p.x) (int_max d p.y) r.x r.y) points i p h
          (All-weaker (λ r. IsBetween a b c d r.x r.y) (λ r. IsBetween (int_min a p.x) (int_min b p.y) (int_max c p.x) (int_max d p.y) r.x r.y) (λ r. wider a b c d p.x p.y r) (take i points) f.inside)
          (subst (λ (r : Pt). IsBetween (int_min a p.x) (int_min b p.y) (int_max c p.x) (int_max d p.y) r.x r.y) e (itself a b c d p));
      left_reached = reached (λ r. r.x) points (int_lt p.x a) p.x a (here (λ r. r.x)) f.left_reached;
      low_reached = reached (λ r. r.y) points (int_lt p.y b) p.y b (here (λ r. r.y)) f.low_reached;
      right_reached = reached (λ r. r.x) points (int_lt p.x c) c p.x f.right_reached (here (λ r. r.x));
      high_reached = reached (λ r. r.y) points (int_lt p.y d) d p.y f.high_reached (here (λ r. r.y));
    }

pub IsFrame-same : (a b c d a' b' c' d' : ℤ) (points : List Pt) (i : ℕ) → a' ≡ a → b' ≡ b → c' ≡ c → d' ≡ d → IsFrame a b c d points i → IsFrame a' b' c' d' points i
IsFrame-same a b c d a' b' c' d' points i e f g h fr =
    subst (λ (x : ℤ). IsFrame x b' c' d' points i) (sym e) (subst (λ (x : ℤ). IsFrame a x c' d' points i) (sym f)
    (subst (λ (x : ℤ). IsFrame a b x d' points i) (sym g) (subst (λ (x : ℤ). IsFrame a b c x points i) (sym h) fr)))

-- the whole list, with the sides moved out
pub IsLeastGrown-from_frame : (a b c d : ℤ) (points : List Pt) (n by : ℕ) (r : Rect) → length points ≤ n → IsFrame a b c d points n
    → r.lo.x ≡ a -ℤ pos by → r.lo.y ≡ b -ℤ pos by → r.hi.x ≡ c +ℤ pos by → r.hi.y ≡ d +ℤ pos by → IsLeastGrown r points by
IsLeastGrown-from_frame a b c d points n by r h f ex ey gx gy =
    let back : (x y : ℤ) → x ≡ y -ℤ pos by → x +ℤ pos by ≡ y = λ x y e. omega (arith, ints) in
    let forth : (x y : ℤ) → x ≡ y +ℤ pos by → x -ℤ pos by ≡ y = λ x y e. omega (arith, ints) in
    let inner : Rect = moved_in by r in
    let same = IsFrame-same a b c d inner.lo.x inner.lo.y inner.hi.x inner.hi.y points n (back _ _ ex) (back _ _ ey) (forth _ _ gx) (forth _ _ gy) f in
    let between : Pt → Type 0 = λ p. IsBetween inner.lo.x inner.lo.y inner.hi.x inner.hi.y p.x p.y in
    let held : (p : Pt) → between p → Holds inner p = λ p w. record { left = w.left_of; right = w.right_of; low = w.above; high = w.below } in
    record {
      least = record {
        inside = All-weaker between (Holds inner) held points (All-same between points (take n points) (sym (take_all n points h)) same.inside);
        left_reached = same.left_reached;
        low_reached = same.low_reached;
        right_reached = same.right_reached;
        high_reached = same.high_reached;
      };
    }

-- ---- rectangles that meet

meet_from_order : (a b c d : ℤ) → (int_max a c ≤ℤ int_min b d) → RangesMeet a b c d
meet_from_order a b c d h = record {
  at = int_max a c;
  from_low = omega (arith, ints, clamps);
  to_high = omega (arith, ints, clamps);
  from_other_low = omega (arith, ints, clamps);
  to_other_high = omega (arith, ints, clamps);
}

order_from_meet : (a b c d : ℤ) → RangesMeet a b c d → int_max a c ≤ℤ int_min b d
order_from_meet a b c d m = omega (arith, ints, clamps, m.from_low, m.to_high, m.from_other_low, m.to_other_high)

-- the greatest of the lows is at most the least of the highs exactly where the ranges meet
pub ranges_meet_test : (a b c d top bottom : ℤ) → top ≡ int_max a c → bottom ≡ int_min b d
    → (IsTrue (le_z top bottom) → RangesMeet a b c d) × (RangesMeet a b c d → IsTrue (le_z top bottom))
ranges_meet_test a b c d top bottom e f = (
  λ r. let order : top ≤ℤ bottom = omega (arith, ints) in meet_from_order a b c d (subst (λ (x : ℤ). x ≤ℤ int_min b d) e (subst (λ (y : ℤ). top ≤ℤ y) f order)),
  λ m. let order : top ≤ℤ bottom = subst (λ (x : ℤ). x ≤ℤ bottom) (sym e) (subst (λ (y : ℤ). int_max a c ≤ℤ y) (sym f) (order_from_meet a b c d m)) in sym (omega (arith, ints)),
)

pub Meets-from_ranges : (r s : Rect) → RangesMeet r.lo.x r.hi.x s.lo.x s.hi.x → RangesMeet r.lo.y r.hi.y s.lo.y s.hi.y → Meets r s
Meets-from_ranges r s h k = record {
  at = record { x = h.at; y = k.at };
  in_first = record { left = h.from_low; right = h.to_high; low = k.from_low; high = k.to_high };
  in_second = record { left = h.from_other_low; right = h.to_other_high; low = k.from_other_low; high = k.to_other_high };
}

pub ranges_from_Meets : (r s : Rect) → Meets r s → RangesMeet r.lo.x r.hi.x s.lo.x s.hi.x × RangesMeet r.lo.y r.hi.y s.lo.y s.hi.y
ranges_from_Meets r s m = (
  record { at = m.at.x; from_low = m.in_first.left; to_high = m.in_first.right; from_other_low = m.in_second.left; to_other_high = m.in_second.right },
  record { at = m.at.y; from_low = m.in_first.low; to_high = m.in_first.high; from_other_low = m.in_second.low; to_other_high = m.in_second.high },
)
