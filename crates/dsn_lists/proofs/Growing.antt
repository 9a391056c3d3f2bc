-- Names that are put one behind another keep their places.
use Rattle.std.proofs.Common.{◌≡◌, ℕ, ◌+◌, Bool, true, false, cond, List, [], ◌∷◌, ◌++◌, length, Option, Some, None, refl, sym, ap, ◌∙◌, arith}
use Rattle.std.specs.Prelude.{◌||◌}
use Rattle.std.specs.List.{list_any, position_from}
use Rattle.std.specs.Str.{bytes_eq}
use Rattle.std.proofs.lemmas.Slice.Eq.{bytes_eq-Decides}
use Rattle.std.proofs.lemmas.Iterator.Adapters.{position_from-zero}
use Rattle.dsn_lists.specs.Names.{is_among, place_of}

-- ---- places

some_from : (t : List ℕ → Bool) (i : ℕ) (xs ys : List (List ℕ)) (n : ℕ) → position_from t i xs ≡ Some n → position_from t i (xs ++ ys) ≡ Some n
some_from t i [] ys n e = absurd cc
some_from t i (x ∷ xs) ys n e = by (t x) (position_from t (i + 1) xs) (position_from t (i + 1) (xs ++ ys)) (λ h. some_from t (i + 1) xs ys n h) e
  where
    by : (b : Bool) (o p : Option ℕ) → (o ≡ Some n → p ≡ Some n) → cond b (Some i) o ≡ Some n → cond b (Some i) p ≡ Some n
    by true o p more e = e
    by false o p more e = more e

new_from : (t : List ℕ → Bool) (i : ℕ) (xs : List (List ℕ)) (y : List ℕ) → list_any t xs ≡ false → t y ≡ true → position_from t i (xs ++ y ∷ []) ≡ Some (i + length xs)
new_from t i [] y none is = rw is (ap (λ (n : ℕ). Some n) (let same : i ≡ i + 0 = omega arith in same))
new_from t i (x ∷ xs) y none is = by (t x) (position_from t (i + 1) (xs ++ y ∷ [])) (λ h. new_from t (i + 1) xs y h is) none
  where
    by : (b : Bool) (o : Option ℕ) → (list_any t xs ≡ false → o ≡ Some ((i + 1) + length xs)) → (b || list_any t xs) ≡ false → cond b (Some i) o ≡ Some (i + length (x ∷ xs))
    by true o more e = absurd cc
    by false o more e = more e ∙ ap (λ (n : ℕ). Some n) (let same : (i + 1) + length xs ≡ i + length (x ∷ xs) = omega arith in same)

any_from : (t : List ℕ → Bool) (i : ℕ) (xs : List (List ℕ)) → list_any t xs ≡ true → (n : ℕ) × (position_from t i xs ≡ Some n)
any_from t i [] e = absurd cc
any_from t i (x ∷ xs) e = by (t x) (position_from t (i + 1) xs) (λ h. any_from t (i + 1) xs h) e
  where
    by : (b : Bool) (o : Option ℕ) → (list_any t xs ≡ true → (n : ℕ) × (o ≡ Some n)) → (b || list_any t xs) ≡ true → (n : ℕ) × (cond b (Some i) o ≡ Some n)
    by true o more e = (i, refl)
    by false o more e = more e

none_from : (t : List ℕ → Bool) (i : ℕ) (xs : List (List ℕ)) → list_any t xs ≡ false → position_from t i xs ≡ None
none_from t i [] e = refl
none_from t i (x ∷ xs) e = by (t x) (position_from t (i + 1) xs) (λ h. none_from t (i + 1) xs h) e
  where
    by : (b : Bool) (o : Option ℕ) → (list_any t xs ≡ false → o ≡ None) → (b || list_any t xs) ≡ false → cond b (Some i) o ≡ None
    by true o more e = absurd cc
    by false o more e = more e

place_is : (names : List (List ℕ)) (name : List ℕ) → place_of names name ≡ position_from (bytes_eq name) 0 names
place_is names name = position_from-zero (bytes_eq name) names

-- ---- names that are put behind others

-- each name that has a place keeps it
abbrev pub Grows : List (List ℕ) → List (List ℕ) → Type 0
Grows a b = (name : List ℕ) (n : ℕ) → place_of a name ≡ Some n → place_of b name ≡ Some n

pub grows_same : (a : List (List ℕ)) → Grows a a
grows_same a name n e = e

pub grows_then : (a b c : List (List ℕ)) → Grows a b → Grows b c → Grows a c
grows_then a b c g h name n e = h name n (g name n e)

pub grows_behind : (a b : List (List ℕ)) → Grows a (a ++ b)
grows_behind a b name n e = place_is (a ++ b) name ∙ some_from (bytes_eq name) 0 a b n (sym (place_is a name) ∙ e)

pub grows_one : (a : List (List ℕ)) (name : List ℕ) (t : Bool) → Grows a (cond t a (a ++ name ∷ []))
grows_one a name true = grows_same a
grows_one a name false = grows_behind a (name ∷ [])

-- ---- the place of a name

-- a name that is there has a place
pub there : (names : List (List ℕ)) (name : List ℕ) → is_among name names ≡ true → (n : ℕ) × (place_of names name ≡ Some n)
there names name is = let h = any_from (bytes_eq name) 0 names is in (h.0, place_is names name ∙ h.1)

-- a name that isn't there has none
pub not_there : (names : List (List ℕ)) (name : List ℕ) → is_among name names ≡ false → place_of names name ≡ None
not_there names name is = place_is names name ∙ none_from (bytes_eq name) 0 names is

-- a name that is put behind others has the last place
pub put_there : (names : List (List ℕ)) (name : List ℕ) → is_among name names ≡ false → place_of (names ++ name ∷ []) name ≡ Some (length names)
put_there names name is =
    let zero : 0 + length names ≡ length names = omega arith in
    place_is (names ++ name ∷ []) name ∙ new_from (bytes_eq name) 0 names name is ((bytes_eq-Decides name name).1 refl) ∙ ap (λ (n : ℕ). Some n) zero
