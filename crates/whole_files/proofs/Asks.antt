-- The names that were asked for over several calls.
use Rattle.std.proofs.Common.{◌≡◌, ℕ, suc, ◌+◌, ◌≤◌, min, List, [], ◌∷◌, ◌++◌, length, take, sym, ap, ◌∙◌, append_assoc, arith}
use Rattle.std.proofs.lemmas.List.{take-append-le, take_min}
use Rattle.std.proofs.Math.Seq.{take-append-add}
use Rattle.whole_files.specs.Words.{Asked}

pub asked_then : (name : List ℕ) (names : List (List ℕ)) (first mid last : List (List ℕ)) → mid ≡ first ++ name ∷ [] → Asked names mid last → Asked (name ∷ names) first last
asked_then name names first mid last e h = (suc h.0, h.1 ∙ ap (λ (x : List (List ℕ)). x ++ take h.0 names) e ∙ append_assoc first (name ∷ []) (take h.0 names))

-- fewer names were asked for than there are
pub asked_less : (names more : List (List ℕ)) (first last : List (List ℕ)) → Asked names first last → Asked (names ++ more) first last
asked_less names more first last h =
    let short : min h.0 (length names) ≤ length names = omega arith in
    let same : take (min h.0 (length names)) (names ++ more) ≡ take h.0 names = take-append-le (min h.0 (length names)) names more short ∙ take_min h.0 names in
    (min h.0 (length names), h.1 ∙ ap (λ (x : List (List ℕ)). first ++ x) (sym same))

-- all of the first names were asked for, and then some more
pub asked_after : (names more : List (List ℕ)) (first mid last : List (List ℕ)) → mid ≡ first ++ names → Asked more mid last → Asked (names ++ more) first last
asked_after names more first mid last e h =
    (length names + h.0, h.1 ∙ ap (λ (x : List (List ℕ)). x ++ take h.0 more) e ∙ append_assoc first names (take h.0 more) ∙ ap (λ (x : List (List ℕ)). first ++ x) (sym (take-append-add names more h.0)))
