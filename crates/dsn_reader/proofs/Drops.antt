-- One more of a list that is copied by its places.
use Rattle.std.proofs.Common.{◌≡◌, ℕ, ◌+◌, List, [], ◌∷◌, ◌++◌, drop, get_or, Some, ap, sym, ◌∙◌, add-one}
use Rattle.std.specs.Prelude.{slice_get}
use Rattle.std.proofs.Math.Seq.{drop-cons}
use Rattle.std.proofs.lemmas.List.{append_assoc}
use Rattle.std.proofs.lemmas.Option.{slice_get_within, get_or_from_slice_get}

pub one_more : {X : Type 0} (ys xs : List X) (i : ℕ) (x : X) → ys ++ drop i xs ≡ xs → slice_get xs i ≡ Some x → (ys ++ x ∷ []) ++ drop (i + 1) xs ≡ xs
one_more {X} ys xs i x all here =
    let next : drop i xs ≡ get_or xs i x ∷ drop (i + 1) xs = rw add-one (drop-cons xs i x (slice_get_within xs i x here)) in
    let first : get_or xs i x ≡ x = get_or_from_slice_get xs i x x here in
    append_assoc ys (x ∷ []) (drop (i + 1) xs) ∙ ap (λ (zs : List X). ys ++ zs) (sym (next ∙ ap (λ (z : X). z ∷ drop (i + 1) xs) first)) ∙ all
