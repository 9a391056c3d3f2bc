-- Boxes meet exactly where their points reach each other along both axes.
use Rattle.std.proofs.Common.{◌≡◌, ℕ, ◌+◌, ◌==◌, inl, inr, List, [], ◌∷◌, Bool, true, false, ◌&&◌, arith, refl, sym, subst}
use Rattle.std.specs.Prelude.{ℤ, pos, ◌+ℤ◌, ◌-ℤ◌, ◌≤ℤ◌, ◌<ℤ◌, Any, int_le, ◌↔◌, IsTrue}
use Rattle.std.proofs.lemmas.Bool.{eq-eqb, eqb-true}
use Rattle.std.specs.List.{list_any}
use Rattle.std.proofs.lemmas.Int.{ints}
use Rattle.std.proofs.lemmas.List.Folds.{Any-from_list_any, list_any-from_Any}
use Rattle.seg_geometry.specs.declared.points.Pt.{Pt}
use Rattle.seg_geometry.proofs.Strips.{IsStrip, Strips, x_of, y_of, meet_or_strips}
use Rattle.area_geometry.specs.Copper.{Copper}
use Rattle.area_geometry.specs.Boxes.{half_up, reaches, are_boxes_near, AreBoxesNear}
use Rattle.area_geometry.proofs.Framed.{has_least}

-- ---- points that reach others

at_most_by : (x y : ℤ) (b : Bool) → int_le x y ≡ b → x ≤ℤ y → int_le x y ≡ true
at_most_by x y true e h = e
at_most_by x y false e h = absurd (omega (arith, ints))

-- a point at a and one at b reach each other where b is at most g beyond a
reaches_from : (f : Pt → ℤ) (g : ℕ) (ps qs : List Pt) (a b : ℤ) → Any (λ p. f p ≡ a) ps → Any (λ q. f q ≡ b) qs → b ≤ℤ (a +ℤ pos g) → reaches f g ps qs ≡ true
reaches_from f g ps qs a b h k le =
    let near : int_le (f k.1) (f h.1 +ℤ pos g) ≡ true = at_most_by _ _ _ refl (subst (λ (z : ℤ). f k.1 ≤ℤ (z +ℤ pos g)) (sym h.4) (subst (λ (z : ℤ). z ≤ℤ (a +ℤ pos g)) (sym k.4) le)) in
    list_any-from_Any (λ p. list_any (λ q. int_le (f q) (f p +ℤ pos g)) qs) ps
    (h.0, h.1, h.2, h.3, list_any-from_Any (λ q. int_le (f q) (f h.1 +ℤ pos g)) qs (k.0, k.1, k.2, k.3, near))

no_strip : (f : Pt → ℤ) (x y m n : ℤ) (g : ℕ) → int_le y (x +ℤ pos g) ≡ true → x ≤ℤ m → (m +ℤ pos g) <ℤ n → n ≤ℤ y → ⊥
no_strip f x y m n g e low far high = absurd (omega (arith, ints))

-- where points reach others there is no strip between them
no_strip_where_reached : (f : Pt → ℤ) (g : ℕ) (ps qs : List Pt) → reaches f g ps qs ≡ true → IsStrip f ps qs g → ⊥
no_strip_where_reached f g ps qs e w =
    let h = Any-from_list_any (λ p. list_any (λ q. int_le (f q) (f p +ℤ pos g)) qs) ps e in
    let k = Any-from_list_any (λ q. int_le (f q) (f h.1 +ℤ pos g)) qs h.4 in
    let low : f h.1 ≤ℤ w.m = subst (λ (p : Pt). f p ≤ℤ w.m) h.3 (w.before h.0 _ h.2) in
    let high : w.n ≤ℤ f k.1 = subst (λ (q : Pt). w.n ≤ℤ f q) k.3 (w.behind k.0 _ k.2) in
    no_strip f _ _ w.m w.n g k.4 low w.far high

-- ---- boxes

-- the far side of a rectangle is level with the near side of another, and the points on them reach each other
level : (high low at a b : ℤ) (by out : ℕ) → low ≤ℤ at → at ≤ℤ high → a ≡ high -ℤ pos by → b ≡ low +ℤ pos out → b ≤ℤ (a +ℤ pos (by + out))
level high low at a b by out le ge e f = omega (arith, ints)

turned : (x y : ℤ) (g k : ℕ) → g ≡ k → x ≤ℤ (y +ℤ pos g) → x ≤ℤ (y +ℤ pos k)
turned x y g k e h = omega (arith, ints)

both : (f : Pt → ℤ) (ps qs : List Pt) (lo hi low high at : ℤ) (by out g : ℕ) → by + out ≡ g
    → lo ≤ℤ at → at ≤ℤ hi → low ≤ℤ at → at ≤ℤ high
    → Any (λ p. f p ≡ lo +ℤ pos by) ps → Any (λ p. f p ≡ hi -ℤ pos by) ps → Any (λ q. f q ≡ low +ℤ pos out) qs → Any (λ q. f q ≡ high -ℤ pos out) qs
    → (reaches f g ps qs ≡ true) × (reaches f g qs ps ≡ true)
both f ps qs lo hi low high at by out g e h1 h2 h3 h4 near far other_near other_far = (
  reaches_from f g ps qs _ _ far other_near (turned _ _ (by + out) g e (level hi low at _ _ by out h3 h2 refl refl)),
  reaches_from f g qs ps _ _ other_far near (turned _ _ (out + by) g (omega (arith, e)) (level high lo at _ _ out by h1 h4 refl refl)),
)

split : (a b : Bool) → (a && b) ≡ true → (a ≡ true) × (b ≡ true)
split true b e = (refl, e)
split false b e = absurd (cc)

tested : (by : ℕ) (s t : Copper) → AreBoxesNear by s t → are_boxes_near by s t ≡ true
unfolding are_boxes_near
tested by s t h =
    let g = half_up s.width + by + half_up t.width in
    let r = h.box_is.box.least in
    let o = h.other_is.box.least in
    let m = h.meet in
    let x = both (λ p. p.x) s.points t.points h.box.lo.x h.box.hi.x h.other.lo.x h.other.hi.x m.at.x (half_up s.width + by) (half_up t.width + 0) g (omega arith)
    m.in_first.left m.in_first.right m.in_second.left m.in_second.right r.left_reached r.right_reached o.left_reached o.right_reached in
    let y = both (λ p. p.y) s.points t.points h.box.lo.y h.box.hi.y h.other.lo.y h.other.hi.y m.at.y (half_up s.width + by) (half_up t.width + 0) g (omega arith)
    m.in_first.low m.in_first.high m.in_second.low m.in_second.high r.low_reached r.high_reached o.low_reached o.high_reached in
    λ i. eq-eqb s.layer t.layer h.same_layer i && (x.0 i && x.1 i) && (y.0 i && y.1 i)

five : (l a b c d : Bool) → (l && (a && b) && (c && d)) ≡ true → (l ≡ true) × (((a ≡ true) × (b ≡ true)) × ((c ≡ true) × (d ≡ true)))
five l a b c d e =
    let upright = split (l && (a && b)) (c && d) e in
    let across = split l (a && b) upright.0 in
    (across.0, (split a b across.1, split c d upright.1))

-- points that reach each other along both axes have no strip between them
no_strips : (ps qs : List Pt) (g : ℕ) → reaches x_of g ps qs ≡ true → reaches x_of g qs ps ≡ true → reaches y_of g ps qs ≡ true → reaches y_of g qs ps ≡ true → Strips ps qs g → ⊥
no_strips ps qs g a b c d (inl (inl w)) = no_strip_where_reached x_of g ps qs a w
no_strips ps qs g a b c d (inl (inr w)) = no_strip_where_reached x_of g qs ps b w
no_strips ps qs g a b c d (inr (inl w)) = no_strip_where_reached y_of g ps qs c w
no_strips ps qs g a b c d (inr (inr w)) = no_strip_where_reached y_of g qs ps d w

reached_none : (f : Pt → ℤ) (g : ℕ) (ps qs : List Pt) → ps ≡ [] → reaches f g ps qs ≡ true → ⊥
reached_none f g [] qs none e = absurd (cc)
reached_none f g (p ∷ ps) qs none e = absurd (cc)

near_by_test : (by : ℕ) (s t : Copper) → are_boxes_near by s t ≡ true → AreBoxesNear by s t
unfolding are_boxes_near
near_by_test by s t e =
    let g = half_up s.width + by + half_up t.width in
    let ps = s.points in
    let qs = t.points in
    let all = five (s.layer == t.layer) (reaches x_of g ps qs) (reaches x_of g qs ps) (reaches y_of g ps qs) (reaches y_of g qs ps) e in
    let x : (reaches x_of g ps qs ≡ true) × (reaches x_of g qs ps ≡ true) = all.1.0 in
    let y : (reaches y_of g ps qs ≡ true) × (reaches y_of g qs ps ≡ true) = all.1.1 in
    elim (has_least s.points (half_up s.width + by)) [
      | inl none ↦ absurd (reached_none x_of g s.points t.points none x.0)
      | inr r ↦ elim (has_least t.points (half_up t.width + 0)) [
        | inl none ↦ absurd (reached_none x_of g t.points s.points none x.1)
        | inr o ↦ elim (meet_or_strips r.0 o.0 s.points t.points (half_up s.width + by) (half_up t.width + 0) r.1 o.1) [
          | inl meet ↦ record { same_layer = eqb-true s.layer t.layer all.0; box = r.0; other = o.0; box_is = record { box = r.1 }; other_is = record { box = o.1 }; meet = meet }
          | inr strips ↦
              let same : (half_up s.width + by) + (half_up t.width + 0) ≡ g = omega arith in
              absurd (no_strips s.points t.points g x.0 x.1 y.0 y.1 (subst (Strips s.points t.points) same strips))
        ]
      ]
    ]

-- the boxes are near exactly where the test says so
pub near_told : (by : ℕ) (s t : Copper) → AreBoxesNear by s t ↔ IsTrue (are_boxes_near by s t)
near_told by s t = (tested by s t, near_by_test by s t)
