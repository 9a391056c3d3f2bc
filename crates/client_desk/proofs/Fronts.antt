-- Lists that begin with others.
use Rattle.std.proofs.Common.{◌≡◌, ℕ, ◌≤◌, List, [], ◌∷◌, ◌++◌, length, take, drop, ap, sym, ◌∙◌, arith}
use Rattle.std.specs.List.{AllByRecursion}
use Rattle.std.proofs.lemmas.List.{append_assoc, append-nil, length-append, take-append-drop, take_all}
use Rattle.client_desk.specs.Given.{StartsWith}

pub starts_same : {T : Type 0} (xs : List T) → StartsWith xs xs
starts_same xs = ([], sym (append-nil xs))

pub starts_then : {T : Type 0} (xs ys zs : List T) → StartsWith xs ys → StartsWith ys zs → StartsWith xs zs
starts_then xs ys zs p q = (q.0 ++ p.0, p.1 ∙ (ap (λ w. w ++ p.0) q.1 ∙ append_assoc zs q.0 p.0))

pub starts_take : {T : Type 0} (xs : List T) (n : ℕ) → StartsWith xs (take n xs)
starts_take xs n = (drop n xs, sym (take-append-drop n xs))

pub starts_length : {T : Type 0} (xs ys : List T) → StartsWith xs ys → length ys ≤ length xs
starts_length xs ys p = omega (arith, ap length p.1, length-append ys p.0)

-- the first ones and the rest are all
pub take_rest : {T : Type 0} (n m : ℕ) (xs : List T) → m ≡ length xs → take m xs ≡ take n xs ++ drop n xs
take_rest n m xs e = ap (λ (k : ℕ). take k xs) e ∙ (take_all (length xs) xs (omega arith) ∙ sym (take-append-drop n xs))

pub all_snoc : {T : Type 0} (P : T → Type 0) (xs : List T) (x : T) → AllByRecursion P xs → P x → AllByRecursion P (xs ++ x ∷ [])
all_snoc P [] x all last = (last, tt)
all_snoc P (y ∷ ys) x all last = (all.0, all_snoc P ys x all.1 last)
