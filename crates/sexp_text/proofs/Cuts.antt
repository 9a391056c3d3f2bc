-- Where a text is cut at the first of two marks.
use Rattle.std.proofs.Common.{◌≡◌, ℕ, ◌+◌, ◌<◌, Bool, true, false, cond, List, [], ◌∷◌, ◌++◌, length, take, drop, get_or, Some, None, refl, sym, ap, ◌∙◌, arith, add-one}
use Rattle.std.specs.List.{position, position_or_len, AllByRecursion}
use Rattle.std.proofs.Math.Dec.{ltb}
use Rattle.std.proofs.Math.Seq.{drop-cons, take-append_seam, drop-append_seam}
use Rattle.std.proofs.lemmas.Bool.{lt-ltb, le-ltb, ltb-true}
use Rattle.std.proofs.lemmas.List.{length-append, take-append-drop, drop-drop}
use Rattle.std.proofs.lemmas.List.Sums.{passes_at_first}

-- where no mark stands in front, the first mark is the one behind it
mark_at : (p : ℕ → Bool) (front rest : List ℕ) (m : ℕ) → AllByRecursion (λ c. p c ≡ false) front → p m ≡ true → position_or_len p (front ++ m ∷ rest) ≡ length front
mark_at p [] rest m free marked = rw marked refl
mark_at p (c ∷ cs) rest m free marked = rw free.0 (omega (arith, mark_at p cs rest m free.1 marked))

no_mark : (p : ℕ → Bool) (xs : List ℕ) → AllByRecursion (λ c. p c ≡ false) xs → position_or_len p xs ≡ length xs
no_mark p [] free = refl
no_mark p (c ∷ cs) free = rw free.0 (omega (arith, no_mark p cs free.1))

pub position_found : (p : ℕ → Bool) (front rest : List ℕ) (m : ℕ) → AllByRecursion (λ c. p c ≡ false) front → p m ≡ true → position p (front ++ m ∷ rest) ≡ Some (length front)
position_found p front rest m free marked =
    let e : position_or_len p (front ++ m ∷ rest) ≡ length front = mark_at p front rest m free marked in
    let lt : length front < length (front ++ m ∷ rest) = omega (arith, length-append front (m ∷ rest)) in
    let b : ltb (length front) (length (front ++ m ∷ rest)) ≡ true = lt-ltb _ _ lt in
    rw (e, b) refl

pub position_none : (p : ℕ → Bool) (xs : List ℕ) → AllByRecursion (λ c. p c ≡ false) xs → position p xs ≡ None
position_none p xs free =
    let e : position_or_len p xs ≡ length xs = no_mark p xs free in
    let b : ltb (length xs) (length xs) ≡ false = le-ltb _ _ (omega arith) in
    rw (e, b) refl

some_is : (x y : ℕ) → Some x ≡ Some y → x ≡ y
some_is x y e = cc

-- the first mark is where the text is cut
pub cut_found : (p : ℕ → Bool) (text front rest : List ℕ) (m i : ℕ) → Some i ≡ position p text → AllByRecursion (λ c. p c ≡ false) front → p m ≡ true → text ≡ front ++ m ∷ rest → (take i text ≡ front) × (drop (i + 1) text ≡ rest)
cut_found p text front rest m i e free marked same =
    let k : i ≡ length front = some_is _ _ (e ∙ ap (position p) same ∙ position_found p front rest m free marked) in
    let before : take i text ≡ front = ap (take i) same ∙ ap (λ (j : ℕ). take j (front ++ m ∷ rest)) k ∙ take-append_seam front (m ∷ rest) in
    let later : drop (i + 1) text ≡ rest =
    ap (drop (i + 1)) same ∙ ap (λ (j : ℕ). drop (j + 1) (front ++ m ∷ rest)) k ∙ sym (drop-drop 1 (length front) (front ++ m ∷ rest)) ∙ ap (drop 1) (drop-append_seam front (m ∷ rest)) in
    (before, later)

-- a text with a mark is cut
pub never_whole : (p : ℕ → Bool) (text front rest : List ℕ) (m : ℕ) → None ≡ position p text → AllByRecursion (λ c. p c ≡ false) front → p m ≡ true → text ≡ front ++ m ∷ rest → ⊥
never_whole p text front rest m e free marked same =
    let found : position p text ≡ Some (length front) = ap (position p) same ∙ position_found p front rest m free marked in
    absurd cc

-- a text without a mark isn't cut
pub never_cut : (p : ℕ → Bool) (text : List ℕ) (i : ℕ) → Some i ≡ position p text → AllByRecursion (λ c. p c ≡ false) text → ⊥
never_cut p text i e free = let none : position p text ≡ None = position_none p text free in absurd cc

some_place : (b : Bool) (k i : ℕ) → Some i ≡ cond b (Some k) None → (b ≡ true) × (k ≡ i)
some_place true k i e = (refl, cc)
some_place false k i e = absurd cc

-- a mark stands where a text is cut
pub cut_parts : (p : ℕ → Bool) (text : List ℕ) (i : ℕ) → Some i ≡ position p text → (m : ℕ) × (p m ≡ true) × (text ≡ take i text ++ m ∷ drop (i + 1) text)
cut_parts p text i e =
    let h = some_place _ _ i e in
    let within : position_or_len p text < length text = ltb-true _ _ h.0 in
    let passes : p (get_or text (position_or_len p text) 0) ≡ true = passes_at_first p text 0 within in
    let here : i < length text = rw h.1 at within in
    let whole : take i text ++ drop i text ≡ text = take-append-drop i text in
    let next : drop i text ≡ get_or text i 0 ∷ drop (i + 1) text = rw add-one (drop-cons text i 0 here) in
    (get_or text i 0, rw h.1 at passes, sym (rw next at whole))
