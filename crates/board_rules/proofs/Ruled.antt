-- Rules of classes, and one that is changed.
use Rattle.std.proofs.Common.{◌≡◌, ℕ, zero, suc, ◌<◌, ◌≤◌, ◌+◌, List, [], ◌∷◌, length, max, drop, refl, sym, ap, subst, arith, add-one, ◌∙◌}
use Rattle.std.specs.Prelude.{Option, Some, None, IfSome, IfNone, slice_get, slice_set}
use Rattle.std.specs.List.{AllByRecursion}
use Rattle.row_lists.specs.Limits.{width_limit_nm}
use Rattle.board_rules.specs.Classes.{or_else, or_zero, untyped_at, largest_rule}
use Rattle.board_rules.specs.Designs.{IsFitSize}
use Rattle.board_rules.specs.declared.design.Parts.{Parts}
use Rattle.board_rules.specs.Rules.{with_rule, with_change, IsFitChange}

pub with_set : (rules : List (Option ℕ)) (class clearance : ℕ) → slice_set rules class (Some clearance) ≡ with_rule class clearance rules
with_set [] class clearance = refl
with_set (r ∷ rest) zero clearance = refl
with_set (r ∷ rest) (suc class) clearance = ap (λ (rs : List (Option ℕ)). r ∷ rs) (with_set rest class clearance)

-- there are as many classes
pub with_length : (rules : List (Option ℕ)) (class clearance : ℕ) → length (with_rule class clearance rules) ≡ length rules
with_length [] class clearance = refl
with_length (r ∷ rest) zero clearance = refl
with_length (r ∷ rest) (suc class) clearance = ap suc (with_length rest class clearance)

pub change_length : (change : Option (ℕ × ℕ)) (rules : List (Option ℕ)) → length (with_change change rules) ≡ length rules
change_length None rules = refl
change_length (Some c) rules = with_length rules c.0 c.1

-- what holds of each clearance and of the new one holds of each
pub with_fit : (rules : List (Option ℕ)) (class clearance : ℕ) → clearance ≤ width_limit_nm → AllByRecursion IsFitSize rules → AllByRecursion IsFitSize (with_rule class clearance rules)
with_fit [] class clearance le all = tt
with_fit (r ∷ rest) zero clearance le all = (le, all.1)
with_fit (r ∷ rest) (suc class) clearance le all = (all.0, with_fit rest class clearance le all.1)

pub change_fit : (p : Parts) (change : Option (ℕ × ℕ)) (rules : List (Option ℕ)) → IsFitChange p change → AllByRecursion IsFitSize rules → AllByRecursion IsFitSize (with_change change rules)
change_fit p None rules fit all = all
change_fit p (Some c) rules fit all = with_fit rules c.0 c.1 fit.1 all

-- a class that isn't there has none
pub none_there : (rules : List (Option ℕ)) (class : ℕ) → slice_get rules class ≡ None → length rules ≤ class
none_there [] class e = omega arith
none_there (r ∷ rest) zero e = absurd cc
none_there (r ∷ rest) (suc class) e = let le = none_there rest class e in omega (arith, le)

pub past : (rules : List (Option ℕ)) (class : ℕ) → length rules ≤ class → untyped_at rules class ≡ None
past [] class le = refl
past (r ∷ rest) zero le = absurd (omega (arith, le))
past (r ∷ rest) (suc class) le = past rest class (omega (arith, le))

there : (rules : List (Option ℕ)) (class : ℕ) (own : Option ℕ) → slice_get rules class ≡ Some own → untyped_at rules class ≡ own
there [] class own e = absurd cc
there (r ∷ rest) zero own e = cc
there (r ∷ rest) (suc class) own e = there rest class own e

same : (rules : List (Option ℕ)) (class clearance : ℕ) (own : Option ℕ) → slice_get rules class ≡ Some own → untyped_at (with_rule class clearance rules) class ≡ Some clearance
same [] class clearance own e = absurd cc
same (r ∷ rest) zero clearance own e = refl
same (r ∷ rest) (suc class) clearance own e = same rest class clearance own e

other : (rules : List (Option ℕ)) (class changed clearance : ℕ) → (changed ≡ class → ⊥) → untyped_at (with_rule changed clearance rules) class ≡ untyped_at rules class
other [] class changed clearance differs = refl
other (r ∷ rest) zero zero clearance differs = absurd (differs refl)
other (r ∷ rest) (suc class) zero clearance differs = refl
other (r ∷ rest) zero (suc changed) clearance differs = refl
other (r ∷ rest) (suc class) (suc changed) clearance differs = other rest class changed clearance (λ e. differs (ap suc e))

-- where no class is, none is under a change
pub told_past : (change : Option (ℕ × ℕ)) (rules : List (Option ℕ)) (class : ℕ) → slice_get rules class ≡ None → untyped_at (with_change change rules) class ≡ None
told_past change rules class e = past (with_change change rules) class (rw (change_length change rules) (none_there rules class e))

-- a class has what it is changed to, else what it had
pub told : (change : Option (ℕ × ℕ)) (rules : List (Option ℕ)) (class : ℕ) (to own : Option ℕ) → slice_get rules class ≡ Some own → IfSome to (λ clearance. change ≡ Some (class, clearance))
    → IfNone to (IfSome change (λ c. c.0 ≡ class → ⊥)) → or_else to own ≡ untyped_at (with_change change rules) class
told change rules class (Some clearance) own e some none = sym (subst (λ (c : Option (ℕ × ℕ)). untyped_at (with_change c rules) class ≡ Some clearance) (sym some) (same rules class clearance own e))
told None rules class None own e some none = sym (there rules class own e)
told (Some c) rules class None own e some none = sym (other rules class c.0 c.1 none ∙ there rules class own e)

left_at : (rules : List (Option ℕ)) (i : ℕ) → i < length rules → largest_rule (drop i rules) ≡ max (or_zero (untyped_at rules i)) (largest_rule (drop (suc i) rules))
left_at [] i lt = absurd (omega (arith, lt))
left_at (r ∷ rest) zero lt = refl
left_at (r ∷ rest) (suc i) lt = left_at rest i (omega (arith, lt))

-- the largest of the rules that are left begins with the next one
pub largest_left : (rules : List (Option ℕ)) (i : ℕ) → i < length rules → largest_rule (drop i rules) ≡ max (or_zero (untyped_at rules i)) (largest_rule (drop (i + 1) rules))
largest_left rules i lt = rw add-one (left_at rules i lt)
