-- The three tests of `point_keeps`, each against the definition.
use Rattle.std.proofs.Common.{◌≡◌, ℕ, ◌*◌, ◌≤◌, ◌↔◌, arith, refl, sym, subst, ◌∙◌}
use Rattle.std.specs.Prelude.{ℤ, pos, negsuc, ◌+ℤ◌, ◌-ℤ◌, ◌*ℤ◌, ◌≤ℤ◌, ◌<ℤ◌, unsigned_abs}
use Rattle.std.specs.Prelude.{IsTrue}
use Rattle.std.proofs.lemmas.Bool.{leb-true, le-leb}
use lib.Dec.{leb}
use Rattle.seg_geometry.specs.declared.points.Pt.{Pt}
use Rattle.seg_geometry.specs.declared.points.Seg.{Seg}
use Rattle.seg_geometry.specs.Ends.{IsPointApart}
use Rattle.seg_geometry.proofs.Ring.{◌⊕◌, ◌⊗◌, ⊖, linear, square_nonneg}
use Rattle.seg_geometry.proofs.Gap.{norm}
use Rattle.seg_geometry.proofs.PointGap.{dot, cross, PointFar-behind, PointFar-beyond, PointFar-beside, PointFar-start, PointFar-end, PointFar-foot}
use Rattle.seg_geometry.proofs.Bridge.{point_out, point_in}

-- m leads from the start of t to p, and v along t
pub record Drawn (p : Pt) (t : Seg) (mx my vx vy : ℤ) : Type 0 where
  pub mx_is : mx ≡ p.x -ℤ t.a.x
  pub my_is : my ≡ p.y -ℤ t.a.y
  pub vx_is : vx ≡ t.b.x -ℤ t.a.x
  pub vy_is : vy ≡ t.b.y -ℤ t.a.y

pub sum_not_negative : (x y z : ℤ) → z ≡ x *ℤ x +ℤ y *ℤ y → pos 0 ≤ℤ z
unfolding ◌⊕◌ ◌⊗◌
sum_not_negative x y z e =
    let a = square_nonneg x in
    let b = square_nonneg y in
    let s : pos 0 ≤ℤ (x ⊗ x ⊕ y ⊗ y) = omega (arith, linear) in
    subst (λ (n : ℤ). pos 0 ≤ℤ n) (sym e) s

behind : (p : Pt) (t : Seg) (k : ℕ) → dot (p.x ⊕ ⊖ t.a.x) (p.y ⊕ ⊖ t.a.y) (t.b.x ⊕ ⊖ t.a.x) (t.b.y ⊕ ⊖ t.a.y) ≤ℤ pos 0
    → (pos k ⊗ pos k ≤ℤ pos 4 ⊗ norm (p.x ⊕ ⊖ t.a.x) (p.y ⊕ ⊖ t.a.y)) ↔ IsPointApart p t k
behind p t k h = (λ f. point_in p t k (PointFar-behind (pos k) _ _ _ _ h f), λ a. PointFar-start (pos k) _ _ _ _ (point_out p t k a))

pub behind_iff : (p : Pt) (t : Seg) (k : ℕ) (mx my vx vy along square : ℤ) → Drawn p t mx my vx vy
    → along ≡ mx *ℤ vx +ℤ my *ℤ vy → square ≡ mx *ℤ mx +ℤ my *ℤ my → along ≤ℤ pos 0
    → (pos (k * k) ≤ℤ (pos 4 *ℤ square)) ↔ IsPointApart p t k
unfolding ◌⊕◌ ◌⊗◌ ⊖
behind_iff p t k mx my vx vy along square d e f h =
    let e' = e ∙ (λ i. d.mx_is i *ℤ d.vx_is i +ℤ d.my_is i *ℤ d.vy_is i) in
    let f' = f ∙ (λ i. d.mx_is i *ℤ d.mx_is i +ℤ d.my_is i *ℤ d.my_is i) in
    subst (λ (z : ℤ). (pos (k * k) ≤ℤ (pos 4 *ℤ z)) ↔ IsPointApart p t k) (sym f')
    (behind p t k (subst (λ (z : ℤ). z ≤ℤ pos 0) e' h))

beyond : (p : Pt) (t : Seg) (k : ℕ) → norm (t.b.x ⊕ ⊖ t.a.x) (t.b.y ⊕ ⊖ t.a.y) ≤ℤ dot (p.x ⊕ ⊖ t.a.x) (p.y ⊕ ⊖ t.a.y) (t.b.x ⊕ ⊖ t.a.x) (t.b.y ⊕ ⊖ t.a.y)
    → (pos k ⊗ pos k ≤ℤ pos 4 ⊗ norm (p.x ⊕ ⊖ t.b.x) (p.y ⊕ ⊖ t.b.y)) ↔ IsPointApart p t k
beyond p t k h =
    let from_end : (a c b : ℤ) → (a ⊕ ⊖ c) ⊕ ⊖ (b ⊕ ⊖ c) ≡ a ⊕ ⊖ b = λ a c b. omega (arith, linear) in
    let same : norm ((p.x ⊕ ⊖ t.a.x) ⊕ ⊖ (t.b.x ⊕ ⊖ t.a.x)) ((p.y ⊕ ⊖ t.a.y) ⊕ ⊖ (t.b.y ⊕ ⊖ t.a.y)) ≡ norm (p.x ⊕ ⊖ t.b.x) (p.y ⊕ ⊖ t.b.y) =
    λ i. norm (from_end p.x t.a.x t.b.x i) (from_end p.y t.a.y t.b.y i) in
    subst (λ (n : ℤ). (pos k ⊗ pos k ≤ℤ pos 4 ⊗ n) ↔ IsPointApart p t k) same
    (λ f. point_in p t k (PointFar-beyond (pos k) _ _ _ _ h f), λ a. PointFar-end (pos k) _ _ _ _ (point_out p t k a))

pub beyond_iff : (p : Pt) (t : Seg) (k : ℕ) (mx my vx vy ex ey along length square : ℤ) → Drawn p t mx my vx vy
    → ex ≡ p.x -ℤ t.b.x → ey ≡ p.y -ℤ t.b.y
    → along ≡ mx *ℤ vx +ℤ my *ℤ vy → length ≡ vx *ℤ vx +ℤ vy *ℤ vy → square ≡ ex *ℤ ex +ℤ ey *ℤ ey → length ≤ℤ along
    → (pos (k * k) ≤ℤ (pos 4 *ℤ square)) ↔ IsPointApart p t k
unfolding ◌⊕◌ ◌⊗◌ ⊖
beyond_iff p t k mx my vx vy ex ey along length square d dx dy e n f h =
    let e' = e ∙ (λ i. d.mx_is i *ℤ d.vx_is i +ℤ d.my_is i *ℤ d.vy_is i) in
    let n' = n ∙ (λ i. d.vx_is i *ℤ d.vx_is i +ℤ d.vy_is i *ℤ d.vy_is i) in
    let f' = f ∙ (λ i. dx i *ℤ dx i +ℤ dy i *ℤ dy i) in
    subst (λ (z : ℤ). (pos (k * k) ≤ℤ (pos 4 *ℤ z)) ↔ IsPointApart p t k) (sym f')
    (beyond p t k (subst (λ (z : ℤ). z ≤ℤ (dot (p.x ⊕ ⊖ t.a.x) (p.y ⊕ ⊖ t.a.y) (t.b.x ⊕ ⊖ t.a.x) (t.b.y ⊕ ⊖ t.a.y))) n' (subst (λ (z : ℤ). length ≤ℤ z) e' h)))

beside : (p : Pt) (t : Seg) (k : ℕ) → pos 0 <ℤ dot (p.x ⊕ ⊖ t.a.x) (p.y ⊕ ⊖ t.a.y) (t.b.x ⊕ ⊖ t.a.x) (t.b.y ⊕ ⊖ t.a.y)
    → dot (p.x ⊕ ⊖ t.a.x) (p.y ⊕ ⊖ t.a.y) (t.b.x ⊕ ⊖ t.a.x) (t.b.y ⊕ ⊖ t.a.y) ≤ℤ norm (t.b.x ⊕ ⊖ t.a.x) (t.b.y ⊕ ⊖ t.a.y)
    → ((pos k ⊗ pos k) ⊗ norm (t.b.x ⊕ ⊖ t.a.x) (t.b.y ⊕ ⊖ t.a.y) ≤ℤ pos 4 ⊗ (cross (p.x ⊕ ⊖ t.a.x) (p.y ⊕ ⊖ t.a.y) (t.b.x ⊕ ⊖ t.a.x) (t.b.y ⊕ ⊖ t.a.y) ⊗ cross (p.x ⊕ ⊖ t.a.x) (p.y ⊕ ⊖ t.a.y) (t.b.x ⊕ ⊖ t.a.x) (t.b.y ⊕ ⊖ t.a.y)))
    ↔ IsPointApart p t k
beside p t k h le = (λ f. point_in p t k (PointFar-beside (pos k) _ _ _ _ (omega (arith, linear)) f), λ a. PointFar-foot (pos k) _ _ _ _ (point_out p t k a) h le)

-- a square is that of the size
square-abs : (z : ℤ) → pos (unsigned_abs z * unsigned_abs z) ≡ z *ℤ z
square-abs (pos n) = refl
square-abs (negsuc n) = refl

abs_is_self : (z : ℤ) → pos 0 ≤ℤ z → pos (unsigned_abs z) ≡ z
abs_is_self (pos n) h = refl
abs_is_self (negsuc n) h = absurd (omega (arith, linear))

-- two numbers that are not negative, in ℕ and in ℤ
order_iff : (a b : ℕ) → (a ≤ b) ↔ (pos a ≤ℤ pos b)
order_iff a b = (λ h. omega (arith, linear), λ h. omega (arith, linear))

pub beside_iff : (p : Pt) (t : Seg) (k : ℕ) (mx my vx vy along length aside : ℤ) → Drawn p t mx my vx vy
    → along ≡ mx *ℤ vx +ℤ my *ℤ vy → length ≡ vx *ℤ vx +ℤ vy *ℤ vy → aside ≡ mx *ℤ vy -ℤ my *ℤ vx
    → pos 0 <ℤ along → along ≤ℤ length
    → (k * k * unsigned_abs length ≤ 4 * (unsigned_abs aside * unsigned_abs aside)) ↔ IsPointApart p t k
unfolding ◌⊕◌ ◌⊗◌ ⊖
beside_iff p t k mx my vx vy along length aside d e n x h le =
    let e' = e ∙ (λ i. d.mx_is i *ℤ d.vx_is i +ℤ d.my_is i *ℤ d.vy_is i) in
    let n' = n ∙ (λ i. d.vx_is i *ℤ d.vx_is i +ℤ d.vy_is i *ℤ d.vy_is i) in
    let x' = x ∙ (λ i. d.mx_is i *ℤ d.vy_is i -ℤ d.my_is i *ℤ d.vx_is i) in
    let some : pos 0 ≤ℤ length = omega (arith, linear) in
    let long : pos (unsigned_abs length) ≡ norm (t.b.x ⊕ ⊖ t.a.x) (t.b.y ⊕ ⊖ t.a.y) = abs_is_self length some ∙ n' in
    let wide = square-abs aside ∙ (λ i. x' i *ℤ x' i) in
    let first = order_iff (k * k * unsigned_abs length) (4 * (unsigned_abs aside * unsigned_abs aside)) in
    let rest = beside p t k (subst (λ (z : ℤ). pos 0 <ℤ z) e' h)
    (subst (λ (z : ℤ). z ≤ℤ norm (t.b.x ⊕ ⊖ t.a.x) (t.b.y ⊕ ⊖ t.a.y)) e' (subst (λ (z : ℤ). along ≤ℤ z) n' le)) in
    let w = cross (p.x ⊕ ⊖ t.a.x) (p.y ⊕ ⊖ t.a.y) (t.b.x ⊕ ⊖ t.a.x) (t.b.y ⊕ ⊖ t.a.y) in
    let G : ℤ → ℤ → Type 0 = λ l z. (pos (k * k) *ℤ l) ≤ℤ (pos 4 *ℤ z) in
    let there = λ (g : G (pos (unsigned_abs length)) (pos (unsigned_abs aside * unsigned_abs aside))).
    subst (λ (z : ℤ). G (norm (t.b.x ⊕ ⊖ t.a.x) (t.b.y ⊕ ⊖ t.a.y)) z) wide (subst (λ (l : ℤ). G l (pos (unsigned_abs aside * unsigned_abs aside))) long g) in
    let back = λ (g : G (norm (t.b.x ⊕ ⊖ t.a.x) (t.b.y ⊕ ⊖ t.a.y)) (w ⊗ w)).
    subst (λ (z : ℤ). G (pos (unsigned_abs length)) z) (sym wide) (subst (λ (l : ℤ). G l (w ⊗ w)) (sym long) g) in
    (λ f. rest.0 (there (first.0 f)), λ a. first.1 (back (rest.1 a)))

-- the test at equal numbers
pub test_along : (k l a k' l' a' : ℕ) → k ≡ k' → l ≡ l' → a ≡ a' → k * l ≤ 4 * (a * a) → k' * l' ≤ 4 * (a' * a')
test_along k l a k' l' a' e f g h =
    subst (λ (x : ℕ). x * l' ≤ 4 * (a' * a')) e (subst (λ (x : ℕ). k * x ≤ 4 * (a' * a')) f (subst (λ (x : ℕ). k * l ≤ 4 * (x * x)) g h))

pub test_iff : (m n : ℕ) → IsTrue (leb m n) ↔ (m ≤ n)
test_iff m n = (leb-true m n, le-leb m n)
