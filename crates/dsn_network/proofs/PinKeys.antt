-- The nets of pins, as the entries of a map.
use Rattle.std.proofs.Common.{◌≡◌, ℕ, Bool, true, false, cond, List, [], ◌∷◌, ◌++◌, None, Some, refl, ap, ◌∙◌}
use Rattle.indexmap.specs.IndexMap.{insert_entry}
use Rattle.dsn_network.specs.References.{same_pin, net_at}

put_behind : (es : List ((ℕ × ℕ) × ℕ)) (p : ℕ × ℕ) (net : ℕ) → net_at es p ≡ None → insert_entry same_pin es p net ≡ es ++ (p, net) ∷ []
put_behind [] p net e = refl
put_behind (x ∷ es) p net e = by (same_pin p x.0) e (put_behind es p net)
  where
    by : (b : Bool) → cond b (Some x.1) (net_at es p) ≡ None → (net_at es p ≡ None → insert_entry same_pin es p net ≡ es ++ (p, net) ∷ []) → cond b ((x.0, net) ∷ es) (x ∷ insert_entry same_pin es p net) ≡ x ∷ (es ++ (p, net) ∷ [])
    by true e rest = absurd cc
    by false e rest = ap (λ (ys : List ((ℕ × ℕ) × ℕ)). x ∷ ys) (rest e)

pub pin_added_behind : (es xs : List ((ℕ × ℕ) × ℕ)) (p : ℕ × ℕ) (net : ℕ) → es ≡ xs → net_at xs p ≡ None → insert_entry same_pin es p net ≡ xs ++ (p, net) ∷ []
pin_added_behind es xs p net same none = put_behind es p net (ap (λ (ys : List ((ℕ × ℕ) × ℕ)). net_at ys p) same ∙ none) ∙ ap (λ (ys : List ((ℕ × ℕ) × ℕ)). ys ++ (p, net) ∷ []) same
