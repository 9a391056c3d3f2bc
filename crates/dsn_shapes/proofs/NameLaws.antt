-- The names that are collected ahead are those that the lists state, each once.
use Rattle.std.proofs.Common.{◌≡◌, ℕ, Bool, true, false, cond, List, [], ◌∷◌, ◌++◌, refl, sym, ap, ◌∙◌, append_assoc}
use Rattle.std.specs.Prelude.{not, ◌||◌, ◌&&◌, if◌then◌else◌}
use Rattle.std.specs.List.{filter}
use Rattle.std.specs.Str.{bytes_eq}
use Rattle.std.proofs.lemmas.List.{append-nil}
use Rattle.std.proofs.lemmas.List.Folds.{list_any-append}
use Rattle.std.proofs.lemmas.Slice.Eq.{bytes_eq-Decides}
use Rattle.sexp_text.specs.Forest.{Forest, End, Word, Branch}
use Rattle.dsn_lists.specs.Names.{is_among}
use Rattle.dsn_lists.specs.Words.{same, head_of}
use Rattle.dsn_lists.specs.Lists.{collect, AreFresh}
use Rattle.dsn_shapes.specs.Ahead.{with_first, names_behind, names_ahead}
use Rattle.dsn_shapes.specs.NameLists.{each_once, first_word, first_of}

-- ---- names put one behind another

abbrev pub with_one : List (List ℕ) → List ℕ → List (List ℕ)
with_one names name = if is_among name names then names else names ++ name ∷ []

-- the names, and behind them each that isn't there
abbrev pub with_all : List (List ℕ) → List (List ℕ) → List (List ℕ)
with_all names [] = names
with_all names (n ∷ ns) = with_all (with_one names n) ns

pub with_more : (names xs ys : List (List ℕ)) → with_all (with_all names xs) ys ≡ with_all names (xs ++ ys)
with_more names [] ys = refl
with_more names (x ∷ xs) ys = with_more (with_one names x) xs ys

first_is : (names : List (List ℕ)) (f : Forest) → with_first names f ≡ with_all names (first_word f)
unfolding with_first
first_is names End = refl
first_is names (Word at text rest) = refl
first_is names (Branch at inside rest) = refl

behind_is : (key : List ℕ) (names : List (List ℕ)) (at : ℕ) (inside : Forest) → names_behind key names inside ≡ with_all names (first_of key at inside)
unfolding names_behind
behind_is key names at inside = by (same (head_of inside).text key)
  where
    by : (b : Bool) → cond b (with_first names (head_of inside).args) names ≡ with_all names (cond b (first_word (head_of inside).args) [])
    by true = first_is names (head_of inside).args
    by false = refl

collected : (key : List ℕ) (f : Forest) (names : List (List ℕ)) → names_ahead key names f ≡ with_all names (collect (first_of key) f)
unfolding names_ahead
collected key End names = refl
collected key (Word at text rest) names = collected key rest names
collected key (Branch at inside rest) names =
    collected key rest (names_behind key names inside)
    ∙ ap (λ (ns : List (List ℕ)). with_all ns (collect (first_of key) rest)) (behind_is key names at inside)
    ∙ with_more names (first_of key at inside) (collect (first_of key) rest)

-- ---- each once

-- the names that aren't among these
abbrev new_to : List (List ℕ) → List (List ℕ) → List (List ℕ)
new_to names ns = filter (λ n. not (is_among n names)) ns

abbrev other_than : List ℕ → List (List ℕ) → List (List ℕ)
other_than name ns = filter (λ n. not (bytes_eq n name)) ns

filter_alike : (p q : List ℕ → Bool) → ((n : List ℕ) → p n ≡ q n) → (ns : List (List ℕ)) → filter p ns ≡ filter q ns
filter_alike p q h [] = refl
filter_alike p q h (n ∷ ns) = ap (λ (b : Bool). cond b (n ∷ filter p ns) (filter p ns)) (h n) ∙ ap (λ (xs : List (List ℕ)). cond (q n) (n ∷ xs) xs) (filter_alike p q h ns)

-- names that pass one test and then another
filter_both : (p q : List ℕ → Bool) (ns : List (List ℕ)) → filter p (filter q ns) ≡ filter (λ n. q n && p n) ns
filter_both p q [] = refl
filter_both p q (n ∷ ns) = by (q n) (p n) refl (filter_both p q ns)
  where
    by : (b c : Bool) → p n ≡ c → filter p (filter q ns) ≡ filter (λ n. q n && p n) ns → filter p (cond b (n ∷ filter q ns) (filter q ns)) ≡ cond (b && c) (n ∷ filter (λ n. q n && p n) ns) (filter (λ n. q n && p n) ns)
    by true true ps rest = rw ps (ap (λ (xs : List (List ℕ)). n ∷ xs) rest)
    by true false ps rest = rw ps rest
    by false c ps rest = rest

-- of names that aren't among some, those that aren't one of them besides are the same
others_of : (name : List ℕ) (names : List (List ℕ)) → is_among name names ≡ true → (n : List ℕ) → (not (bytes_eq n name) && not (is_among n names)) ≡ not (is_among n names)
others_of name names h n = by (bytes_eq n name) refl
  where
    by : (b : Bool) → bytes_eq n name ≡ b → (not b && not (is_among n names)) ≡ not (is_among n names)
    by true is = sym (ap (λ (m : List ℕ). not (is_among m names)) ((bytes_eq-Decides n name).0 is) ∙ ap not h)
    by false is = refl

one_more : (name : List ℕ) (names : List (List ℕ)) (n : List ℕ) → (not (bytes_eq n name) && not (is_among n names)) ≡ not (is_among n (names ++ name ∷ []))
one_more name names n = by (bytes_eq n name) (is_among n names) refl refl ∙ sym (ap not (list_any-append (bytes_eq n) names (name ∷ [])))
  where
    by : (b c : Bool) → bytes_eq n name ≡ b → is_among n names ≡ c → (not b && not c) ≡ not (c || (b || false))
    by true true p q = refl
    by true false p q = refl
    by false true p q = refl
    by false false p q = refl

all_is : (ns names : List (List ℕ)) → with_all names ns ≡ names ++ new_to names (each_once ns)
all_is [] names = sym (append-nil names)
all_is (n ∷ ns) names = by (is_among n names) refl (all_is ns)
  where
    by : (b : Bool) → is_among n names ≡ b → ((others : List (List ℕ)) → with_all others ns ≡ others ++ new_to others (each_once ns))
        → with_all (cond b names (names ++ n ∷ [])) ns ≡ names ++ cond (not b) (n ∷ new_to names (other_than n (each_once ns))) (new_to names (other_than n (each_once ns)))
    by true is more =
        more names ∙ ap (λ (xs : List (List ℕ)). names ++ xs) (sym (filter_both (λ m. not (is_among m names)) (λ m. not (bytes_eq m n)) (each_once ns)
        ∙ filter_alike (λ m. not (bytes_eq m n) && not (is_among m names)) (λ m. not (is_among m names)) (others_of n names is) (each_once ns)))
    by false is more =
        more (names ++ n ∷ []) ∙ append_assoc names (n ∷ []) (new_to (names ++ n ∷ []) (each_once ns))
        ∙ ap (λ (xs : List (List ℕ)). names ++ n ∷ xs) (sym (filter_both (λ m. not (is_among m names)) (λ m. not (bytes_eq m n)) (each_once ns)
        ∙ filter_alike (λ m. not (bytes_eq m n) && not (is_among m names)) (λ m. not (is_among m (names ++ n ∷ []))) (one_more n names) (each_once ns)))

all_pass : (ns : List (List ℕ)) → new_to [] ns ≡ ns
all_pass [] = refl
all_pass (n ∷ ns) = ap (λ (xs : List (List ℕ)). n ∷ xs) (all_pass ns)

-- names put one behind another where none is there are these names, each once
pub each_once_is : (ns : List (List ℕ)) → with_all [] ns ≡ each_once ns
each_once_is ns = all_is ns [] ∙ all_pass (each_once ns)

-- the names that are collected ahead, in own words
pub ahead_is : (key : List ℕ) (f : Forest) → names_ahead key [] f ≡ each_once (collect (first_of key) f)
ahead_is key f = collected key f [] ∙ each_once_is (collect (first_of key) f)

-- ---- names of which none stands twice

fresh_with : (ns names : List (List ℕ)) → ((before after : List (List ℕ)) (name : List ℕ) → ns ≡ before ++ name ∷ after → is_among name (names ++ before) ≡ false) → with_all names ns ≡ names ++ ns
fresh_with [] names h = sym (append-nil names)
fresh_with (n ∷ ns) names h =
    let new : is_among n names ≡ false = ap (λ (xs : List (List ℕ)). is_among n xs) (sym (append-nil names)) ∙ h [] ns n refl in
    ap (λ (b : Bool). with_all (cond b names (names ++ n ∷ [])) ns) new
    ∙ fresh_with ns (names ++ n ∷ []) (λ before after name e. ap (λ (xs : List (List ℕ)). is_among name xs) (append_assoc names (n ∷ []) before) ∙ h (n ∷ before) after name (ap (λ (xs : List (List ℕ)). n ∷ xs) e))
    ∙ append_assoc names (n ∷ []) ns

-- names of which none stands twice are the same, each once
pub each_once_fresh : (ns : List (List ℕ)) → AreFresh ns → each_once ns ≡ ns
each_once_fresh ns h = sym (all_pass (each_once ns)) ∙ sym (all_is ns []) ∙ fresh_with ns [] h
