-- The rules of a board after a change.
use Rattle.std.proofs.Common.{◌≡◌, ℕ, zero, suc, ◌≤◌, List, [], ◌∷◌, length, refl, ap, arith}
use Rattle.std.specs.Prelude.{Option}
use Rattle.std.proofs.lemmas.List.{length-map}
use Rattle.board_rules.specs.declared.design.Parts.{Parts}
use Rattle.board_rules.specs.Classes.{untyped_of}
use Rattle.board_rules.specs.Rules.{with_rule, IsFitRules}

-- as many classes have their rules as before
pub as_long : (class clearance : ℕ) (rules : List (Option ℕ)) → length (with_rule class clearance rules) ≡ length rules
as_long class clearance [] = refl
as_long zero clearance (r ∷ rest) = refl
as_long (suc class) clearance (r ∷ rest) = ap suc (as_long class clearance rest)

-- a change of a class that isn't there changes nothing
pub unruled : (class clearance : ℕ) (rules : List (Option ℕ)) → length rules ≤ class → rules ≡ with_rule class clearance rules
unruled class clearance [] past = refl
unruled zero clearance (r ∷ rest) past = absurd (omega arith)
unruled (suc class) clearance (r ∷ rest) past = ap (λ rs. r ∷ rs) (unruled class clearance rest (omega arith))

-- the rules that a design's classes state have one place a class
pub untyped_many : (p : Parts) → IsFitRules p (untyped_of p)
untyped_many p = length-map p.classes _
