-- What is answered where the answer is the reading, and one more shape or point behind others.
use Rattle.std.proofs.Common.{◌≡◌, ℕ, suc, ◌+◌, ◌<◌, List, [], ◌∷◌, ◌++◌, length, drop, get_or, Option, Some, None, Result, Ok, Err, IfOk, IfSome, IfNone, refl, sym, ap, ◌∙◌, arith, append_assoc}
use Rattle.std.proofs.lemmas.List.{append-nil}
use Rattle.std.proofs.Math.Seq.{drop-cons}
use Rattle.area_geometry.specs.declared.shapes.Shape.{Shape}
use Rattle.dsn_turns.specs.declared.moves.Motion.{Motion}
use Rattle.dsn_turns.specs.Turning.{and_then, each_of, shapes_moved}
use Rattle.dsn_turns.specs.Moves.{AreMoved}
use Rattle.dsn_turns.proofs.Ranges.{found_of, none_of}
use Rattle.dsn_turns.proofs.MoveLaws.{shapes_iff}

pub are_found : {E : Type 0} (r : Result (Option (List Shape)) E) (steps : List Motion) (over : Option ℕ) (ss : List Shape) → IfOk r (λ o. o ≡ shapes_moved steps over ss) → IfOk r (λ o. IfSome o (AreMoved steps over ss))
are_found (Ok o) steps over ss e = found_of o _ _ (shapes_iff steps over ss) e
are_found (Err f) steps over ss e = tt

pub none_found : {E : Type 0} (r : Result (Option (List Shape)) E) (steps : List Motion) (over : Option ℕ) (ss : List Shape) → IfOk r (λ o. o ≡ shapes_moved steps over ss) → IfOk r (λ o. IfNone o ((ts : List Shape) → AreMoved steps over ss ts → ⊥))
none_found (Ok o) steps over ss e = none_of o _ _ (shapes_iff steps over ss) e
none_found (Err f) steps over ss e = tt

-- what is done, and behind it what is left
abbrev pub behind_done : {A B : Type 0} → (A → Option B) → List B → List A → Option (List B)
behind_done f done xs = and_then (each_of f xs) (λ rest. Some (done ++ rest))

regrouped : {B : Type 0} (o : Option (List B)) (done : List B) (y : B) → and_then (and_then o (λ ys. Some (y ∷ ys))) (λ rest. Some (done ++ rest)) ≡ and_then o (λ rest. Some ((done ++ y ∷ []) ++ rest))
regrouped None done y = refl
regrouped (Some ys) done y = ap Some (sym (append_assoc done (y ∷ []) ys))

-- one more
pub one_more : {A B : Type 0} (f : A → Option B) (x : A) (xs : List A) (y : B) (done : List B) → f x ≡ Some y → behind_done f done (x ∷ xs) ≡ behind_done f (done ++ y ∷ []) xs
unfolding each_of
one_more f x xs y done e = ap (λ (o : Option _). and_then (and_then o (λ z. and_then (each_of f xs) (λ ys. Some (z ∷ ys)))) (λ rest. Some (done ++ rest))) e ∙ regrouped (each_of f xs) done y

pub one_more_at : {A B : Type 0} (f : A → Option B) (xs : List A) (i : ℕ) (d : A) (y : B) (done : List B) → i < length xs → f (get_or xs i d) ≡ Some y → behind_done f done (drop i xs) ≡ behind_done f (done ++ y ∷ []) (drop (i + 1) xs)
one_more_at f xs i d y done lt e =
    let next : suc i ≡ i + 1 = omega arith in
    ap (behind_done f done) (drop-cons xs i d lt) ∙ one_more f (get_or xs i d) (drop (suc i) xs) y done e ∙ ap (λ (j : ℕ). behind_done f (done ++ y ∷ []) (drop j xs)) next

-- one that isn't there
pub one_none_at : {A B : Type 0} (f : A → Option B) (xs : List A) (i : ℕ) (d : A) (done : List B) → i < length xs → f (get_or xs i d) ≡ None → behind_done f done (drop i xs) ≡ None
unfolding each_of
one_none_at f xs i d done lt e = ap (behind_done f done) (drop-cons xs i d lt) ∙ ap (λ (o : Option _). and_then (and_then o (λ z. and_then (each_of f (drop (suc i) xs)) (λ ys. Some (z ∷ ys)))) (λ rest. Some (done ++ rest))) e

front_none : {B : Type 0} (o : Option (List B)) → and_then o (λ rest. Some ([] ++ rest)) ≡ o
front_none None = refl
front_none (Some ys) = refl

-- nothing is done yet
pub none_done : {A B : Type 0} (f : A → Option B) (xs : List A) → behind_done f [] xs ≡ each_of f xs
none_done f xs = front_none (each_of f xs)

-- nothing is left
pub all_done : {A B : Type 0} (f : A → Option B) (done : List B) (xs : List A) → xs ≡ [] → behind_done f done xs ≡ Some done
unfolding each_of
all_done f done xs e = ap (behind_done f done) e ∙ ap Some (append-nil done)
