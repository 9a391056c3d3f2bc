-- Where a turn leads is where the reading of a turn says, both ways.
use Rattle.std.proofs.Common.{◌≡◌, ℕ, suc, ◌+◌, ◌-◌, ◌<◌, ◌≤◌, ◌/◌, ◌%◌, Bool, true, false, cond, eqb, Option, Some, None, IfNone, ◌↔◌, inl, inr, refl, sym, ap, subst, ◌∙◌, arith}
use Rattle.std.specs.Prelude.{ℤ, pos, neg_ℤ, ◌+ℤ◌, ◌-ℤ◌}
use Rattle.std.proofs.lemmas.Int.{ints}
use Rattle.std.proofs.Math.Nat.{mod-add-div', mod-lt}
use Rattle.std.proofs.lemmas.Bool.{eqb-true, eqb-false, ne_eqb}
use Rattle.seg_geometry.specs.declared.points.Pt.{Pt}
use Rattle.seg_geometry.specs.Points.{IsInRange}
use Rattle.dsn_turns.specs.declared.turns.Flip.{Flip}
use Rattle.dsn_turns.specs.Turns.{quarters, flipped_before, flipped_after, IsEighth, IsAfterEighths, IsTurned}
use Rattle.dsn_turns.specs.Turning.{root_of, eighth, begun, turned, within, turn_of}
use Rattle.dsn_turns.proofs.Roots.{root_is, one_root}
use Rattle.dsn_turns.proofs.Ranges.{within_some, within_of, none_iff}

eighth_is : (p : Pt) → IsEighth p (eighth p)
unfolding eighth
eighth_is p = record { x = root_is _; y = root_is _ }

one_eighth : (p h : Pt) → IsEighth p h → h ≡ eighth p
unfolding eighth
one_eighth p h e =
    let x = one_root _ _ _ e.x (root_is _) in
    let y = one_root _ _ _ e.y (root_is _) in
    λ i. record { x = x i; y = y i }

after_is : (p : Pt) (e : ℕ) (even : Bool) → eqb (e % 2) 0 ≡ even → IsAfterEighths p e (quarters (e / 2) (cond even p (eighth p)))
after_is p e true h = let none = eqb-true _ _ h in inl (e / 2, omega (arith, mod-add-div' e 2), refl)
after_is p e false h =
    let some = eqb-false _ _ h in
    let few = mod-lt e {m = 2} (omega arith) in
    inr (e / 2, eighth p, omega (arith, mod-add-div' e 2), eighth_is p, refl)

-- a turn leads somewhere
pub turned_is : (p : Pt) (e : ℕ) (flip : Flip) → IsTurned p e flip (turned p e flip)
unfolding turned
turned_is p e flip = (quarters (e / 2) (begun e (flipped_before flip p)), after_is (flipped_before flip p) e _ refl, refl)

even_half : (e m : ℕ) → e ≡ m + m → (m ≡ e / 2) × (e % 2 ≡ 0)
even_half e m h =
    let whole = mod-add-div' e 2 in
    let few = mod-lt e {m = 2} (omega arith) in
    (omega arith, omega arith)

odd_half : (e m : ℕ) → e ≡ suc (m + m) → (m ≡ e / 2) × (e % 2 ≡ 1)
odd_half e m h =
    let whole = mod-add-div' e 2 in
    let few = mod-lt e {m = 2} (omega arith) in
    (omega arith, omega arith)

after_only : (p : Pt) (e : ℕ) (q : Pt) → IsAfterEighths p e q → q ≡ quarters (e / 2) (begun e p)
after_only p e q (inl (m, h, same)) =
    let half = even_half e m h in
    let start : begun e p ≡ p = ap (λ (r : ℕ). cond (eqb r 0) p (eighth p)) half.1 in
    same ∙ ap (λ (n : ℕ). quarters n p) half.0 ∙ ap (quarters (e / 2)) (sym start)
after_only p e q (inr (m, h, odd, is, same)) =
    let half = odd_half e m odd in
    let start : begun e p ≡ eighth p = ap (λ (r : ℕ). cond (eqb r 0) p (eighth p)) half.1 in
    same ∙ ap (λ (n : ℕ). quarters n h) half.0 ∙ ap (quarters (e / 2)) (one_eighth p h is ∙ sym start)

-- and to one place alone
pub turned_only : (p : Pt) (e : ℕ) (flip : Flip) (q : Pt) → IsTurned p e flip q → q ≡ turned p e flip
unfolding turned
turned_only p e flip q (r, after, same) = same ∙ ap (flipped_after flip) (after_only (flipped_before flip p) e r after)

-- the laws, both ways

turn_some : (p : Pt) (e : ℕ) (flip : Flip) (q : Pt) → turn_of p e flip ≡ Some q → IsTurned p e flip q × IsInRange q
unfolding turn_of
turn_some p e flip q h =
    let own = within_some (turned p e flip) q h in
    (subst (IsTurned p e flip) own.0 (turned_is p e flip), subst IsInRange own.0 own.1)

turn_from : (p : Pt) (e : ℕ) (flip : Flip) (q : Pt) → IsTurned p e flip q × IsInRange q → turn_of p e flip ≡ Some q
unfolding turn_of
turn_from p e flip q h =
    let same = turned_only p e flip q h.0 in
    ap within (sym same) ∙ within_of q h.1

pub turn_iff : (p : Pt) (e : ℕ) (flip : Flip) (q : Pt) → (turn_of p e flip ≡ Some q) ↔ (IsTurned p e flip q × IsInRange q)
turn_iff p e flip q = (turn_some p e flip q, turn_from p e flip q)

pub turn_none_iff : (p : Pt) (e : ℕ) (flip : Flip) → (turn_of p e flip ≡ None) ↔ ((q : Pt) → IsTurned p e flip q × IsInRange q → ⊥)
turn_none_iff p e flip = none_iff (turn_of p e flip) (λ q. IsTurned p e flip q × IsInRange q) (turn_iff p e flip)

-- the same of a result that is the reading
pub turn_none : (r : Option Pt) (p : Pt) (e : ℕ) (flip : Flip) → r ≡ turn_of p e flip → IfNone r ((q : Pt) → IsTurned p e flip q → IsInRange q → ⊥)
turn_none (Some q) p e flip h = tt
turn_none None p e flip h = λ q is near. (turn_none_iff p e flip).0 (sym h) q (is, near)

-- an eighth, as the code computes it
pub begun_odd : (e : ℕ) (p : Pt) (x y : ℤ) → (e % 2 ≡ 0 → ⊥) → x ≡ root_of (p.x -ℤ p.y) → y ≡ root_of (p.x +ℤ p.y) → record { x = x; y = y } ≡ begun e p
unfolding eighth
begun_odd e p x y odd a b = let test = ne_eqb (e % 2) 0 odd in rw test (λ i. record { x = a i; y = b i })

-- quarters, one after another

pub zero_minus : (z : ℤ) → pos 0 -ℤ z ≡ neg_ℤ z
zero_minus z = omega (arith, ints)

pub one_quarter : (count i : ℕ) (q : Pt) (x : ℤ) → i < count → x ≡ neg_ℤ q.y → quarters (count - (i + 1)) (record { x = x; y = q.x }) ≡ quarters (count - i) q
unfolding quarters
one_quarter count i q x lt e =
    let more : count - i ≡ suc (count - (i + 1)) = omega arith in
    rw more (λ j. quarters (count - (i + 1)) (record { x = e j; y = q.x }))

pub none_left : (count i : ℕ) (q : Pt) → count ≤ i → q ≡ quarters (count - i) q
unfolding quarters
none_left count i q le = let none : count - i ≡ 0 = omega arith in rw none refl
