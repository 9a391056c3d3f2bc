-- What a point in range is, and what there is then.
use Rattle.std.proofs.Common.{◌≡◌, Bool, true, false, cond, leb, Option, Some, None, IfSome, IfNone, ◌↔◌, refl, sym, ap, ◌∙◌, arith}
use Rattle.std.specs.Prelude.{unsigned_abs, ◌&&◌}
use Rattle.std.proofs.lemmas.Bool.{leb-true, leb-false}
use Rattle.seg_geometry.specs.declared.points.Pt.{Pt}
use Rattle.seg_geometry.specs.Points.{IsInRange}
use Rattle.dsn_turns.specs.Turning.{within, and_then}

within_cond : (p q : Pt) (x y : Bool) → leb (unsigned_abs p.x) 1000000000 ≡ x → leb (unsigned_abs p.y) 1000000000 ≡ y → cond (x && y) (Some p) None ≡ Some q → (p ≡ q) × IsInRange p
within_cond p q true true a b e = (cc, record { x = leb-true _ _ a; y = leb-true _ _ b })
within_cond p q true false a b e = absurd cc
within_cond p q false y a b e = absurd cc

in_cond : (p : Pt) (x y : Bool) → leb (unsigned_abs p.x) 1000000000 ≡ x → leb (unsigned_abs p.y) 1000000000 ≡ y → IsInRange p → cond (x && y) (Some p) None ≡ Some p
in_cond p true true a b h = refl
in_cond p true false a b h = let far = leb-false _ _ b in let near = h.y in absurd (omega arith)
in_cond p false y a b h = let far = leb-false _ _ a in let near = h.x in absurd (omega arith)

pub within_some : (p q : Pt) → within p ≡ Some q → (p ≡ q) × IsInRange p
unfolding within
within_some p q e = within_cond p q _ _ refl refl e

pub within_of : (p : Pt) → IsInRange p → within p ≡ Some p
unfolding within
within_of p h = in_cond p _ _ refl refl h

-- where one thing is found, and nothing else is

none_here : {T : Type 0} (o : Option T) (P : T → Type 0) → ((y : T) → (o ≡ Some y) ↔ P y) → o ≡ None → (y : T) → P y → ⊥
none_here o P h none y holds = let some = (h y).1 holds in absurd cc

here_none : {T : Type 0} (o : Option T) (P : T → Type 0) → ((y : T) → (o ≡ Some y) ↔ P y) → ((y : T) → P y → ⊥) → o ≡ None
here_none None P h none = refl
here_none (Some y) P h none = absurd (none y ((h y).0 refl))

-- nothing is found exactly where nothing fits
pub none_iff : {T : Type 0} (o : Option T) (P : T → Type 0) → ((y : T) → (o ≡ Some y) ↔ P y) → (o ≡ None) ↔ ((y : T) → P y → ⊥)
none_iff o P h = (none_here o P h, here_none o P h)

pub found_of : {T : Type 0} (r o : Option T) (P : T → Type 0) → ((y : T) → (o ≡ Some y) ↔ P y) → r ≡ o → IfSome r P
found_of (Some y) o P h e = (h y).0 (sym e)
found_of None o P h e = tt

pub none_of : {T : Type 0} (r o : Option T) (P : T → Type 0) → ((y : T) → (o ≡ Some y) ↔ P y) → r ≡ o → IfNone r ((y : T) → P y → ⊥)
none_of (Some y) o P h e = tt
none_of None o P h e = none_here o P h (sym e)

-- both of two steps, one after another

then_some : {A B : Type 0} (o : Option A) (f : A → Option B) (z : B) → and_then o f ≡ Some z → (y : A) × (o ≡ Some y) × (f y ≡ Some z)
then_some None f z e = absurd cc
then_some (Some y) f z e = (y, refl, e)

then_of : {A B : Type 0} (o : Option A) (f : A → Option B) (y : A) → o ≡ Some y → and_then o f ≡ f y
then_of o f y e = ap (λ x. and_then x f) e

pub then_iff : {A B : Type 0} (o : Option A) (f : A → Option B) (z : B) → (and_then o f ≡ Some z) ↔ ((y : A) × (o ≡ Some y) × (f y ≡ Some z))
then_iff o f z = (then_some o f z, (λ h. then_of o f h.0 h.1 ∙ h.2))
