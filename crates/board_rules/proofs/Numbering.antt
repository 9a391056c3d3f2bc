-- The numbers of the names of classes stand for the names.
use Rattle.std.proofs.Common.{◌≡◌, ℕ, zero, suc, ◌+◌, List, [], ◌∷◌, ◌++◌, Bool, true, false, cond, refl, sym, ap, subst, arith, ◌∙◌}
use Rattle.std.specs.Prelude.{Option, Some, None, slice_get, not, ◌==◌, ◌||◌}
use Rattle.std.specs.List.{list_any}
use Rattle.std.specs.Str.{bytes_eq}
use Rattle.std.proofs.lemmas.Bool.{eq-eqb, ne_eqb}
use Rattle.std.proofs.lemmas.Slice.Eq.{bytes_eq-Decides}
use Rattle.board_rules.specs.declared.design.ClassRow.{ClassRow}
use Rattle.board_rules.specs.Numbers.{number_of, with_name, numbers_after, numbers_of}
use Rattle.board_rules.specs.Pairs.{name_in, is_same_name}

-- the name stands among these
abbrev Stands : List ℕ → List (List ℕ) → Type 0
Stands n xs = list_any (bytes_eq n) xs ≡ true

same_name : (n : List ℕ) → bytes_eq n n ≡ true
same_name n = (bytes_eq-Decides n n).1 refl

-- a name has its number among the names that it is put to
number_put : (xs : List (List ℕ)) (n : List ℕ) → number_of (xs ++ n ∷ []) n ≡ number_of xs n
number_put [] n = ap (λ (b : Bool). cond (not b) (1 + 0) 0) (same_name n)
number_put (x ∷ xs) n = ap (λ (k : ℕ). cond (not (bytes_eq n x)) (1 + k) 0) (number_put xs n)

number_with : (xs : List (List ℕ)) (n : List ℕ) → number_of (with_name xs n) n ≡ number_of xs n
number_with xs n = by (list_any (bytes_eq n) xs)
  where
    by : (b : Bool) → number_of (cond b xs (xs ++ n ∷ [])) n ≡ number_of xs n
    by true = refl
    by false = number_put xs n

-- a name that stands there keeps its number
number_before : (xs ys : List (List ℕ)) (n : List ℕ) → Stands n xs → number_of (xs ++ ys) n ≡ number_of xs n
number_before [] ys n e = absurd cc
number_before (x ∷ xs) ys n e = by (bytes_eq n x) (λ h. number_before xs ys n h) e
  where
    by : (b : Bool) → (Stands n xs → number_of (xs ++ ys) n ≡ number_of xs n) → b || list_any (bytes_eq n) xs ≡ true → cond (not b) (1 + number_of (xs ++ ys) n) 0 ≡ cond (not b) (1 + number_of xs n) 0
    by true more h = refl
    by false more h = ap (λ (k : ℕ). 1 + k) (more h)

number_kept : (xs : List (List ℕ)) (m n : List ℕ) → Stands n xs → number_of (with_name xs m) n ≡ number_of xs n
number_kept xs m n e = by (list_any (bytes_eq m) xs)
  where
    by : (b : Bool) → number_of (cond b xs (xs ++ m ∷ [])) n ≡ number_of xs n
    by true = refl
    by false = number_before xs (m ∷ []) n e

stands_before : (xs ys : List (List ℕ)) (n : List ℕ) → Stands n xs → Stands n (xs ++ ys)
stands_before [] ys n e = absurd cc
stands_before (x ∷ xs) ys n e = by (bytes_eq n x) (λ h. stands_before xs ys n h) e
  where
    by : (b : Bool) → (Stands n xs → Stands n (xs ++ ys)) → b || list_any (bytes_eq n) xs ≡ true → b || list_any (bytes_eq n) (xs ++ ys) ≡ true
    by true more h = refl
    by false more h = more h

stands_last : (xs : List (List ℕ)) (n : List ℕ) → Stands n (xs ++ n ∷ [])
stands_last [] n = ap (λ (b : Bool). b || false) (same_name n)
stands_last (x ∷ xs) n = by (bytes_eq n x) (stands_last xs n)
  where
    by : (b : Bool) → Stands n (xs ++ n ∷ []) → b || list_any (bytes_eq n) (xs ++ n ∷ []) ≡ true
    by true h = refl
    by false h = h

stands_with : (xs : List (List ℕ)) (n : List ℕ) → Stands n (with_name xs n)
stands_with xs n = by (list_any (bytes_eq n) xs) refl
  where
    by : (b : Bool) → list_any (bytes_eq n) xs ≡ b → Stands n (cond b xs (xs ++ n ∷ []))
    by true e = e
    by false e = stands_last xs n

stands_kept : (xs : List (List ℕ)) (m n : List ℕ) → Stands n xs → Stands n (with_name xs m)
stands_kept xs m n e = by (list_any (bytes_eq m) xs)
  where
    by : (b : Bool) → Stands n (cond b xs (xs ++ m ∷ []))
    by true = e
    by false = stands_before xs (m ∷ []) n e

-- these names and those of the classes
abbrev names_after : List (List ℕ) → List ClassRow → List (List ℕ)
names_after xs [] = xs
names_after xs (c ∷ rest) = names_after (with_name xs c.name) rest

after_kept : (xs : List (List ℕ)) (classes : List ClassRow) (n : List ℕ) → Stands n xs → number_of (names_after xs classes) n ≡ number_of xs n
after_kept xs [] n e = refl
after_kept xs (c ∷ rest) n e = after_kept (with_name xs c.name) rest n (stands_kept xs c.name n e) ∙ number_kept xs c.name n e

stands_after : (xs : List (List ℕ)) (classes : List ClassRow) (n : List ℕ) → Stands n xs → Stands n (names_after xs classes)
stands_after xs [] n e = e
stands_after xs (c ∷ rest) n e = stands_after (with_name xs c.name) rest n (stands_kept xs c.name n e)

-- the number of a class is that of its name among all names
number_at : (xs : List (List ℕ)) (classes : List ClassRow) (i : ℕ) (c : ClassRow) → slice_get classes i ≡ Some c → slice_get (numbers_after xs classes) i ≡ Some (number_of (names_after xs classes) c.name)
number_at xs [] i c e = absurd cc
number_at xs (x ∷ rest) zero c e =
    let first : x ≡ c = cc in
    ap Some (sym (number_with xs x.name) ∙ sym (after_kept (with_name xs x.name) rest x.name (stands_with xs x.name)) ∙ ap (λ (d : ClassRow). number_of (names_after (with_name xs x.name) rest) d.name) first)
number_at xs (x ∷ rest) (suc i) c e = number_at (with_name xs x.name) rest i c e

stands_at : (xs : List (List ℕ)) (classes : List ClassRow) (i : ℕ) (c : ClassRow) → slice_get classes i ≡ Some c → Stands c.name (names_after xs classes)
stands_at xs [] i c e = absurd cc
stands_at xs (x ∷ rest) zero c e = let first : x ≡ c = cc in subst (λ (d : ClassRow). Stands d.name (names_after (with_name xs x.name) rest)) first (stands_after (with_name xs x.name) rest x.name (stands_with xs x.name))
stands_at xs (x ∷ rest) (suc i) c e = stands_at (with_name xs x.name) rest i c e

none_at : (xs : List (List ℕ)) (classes : List ClassRow) (i : ℕ) → slice_get classes i ≡ None → slice_get (numbers_after xs classes) i ≡ None
none_at xs [] i e = refl
none_at xs (x ∷ rest) zero e = absurd cc
none_at xs (x ∷ rest) (suc i) e = none_at (with_name xs x.name) rest i e

-- the name that stands at its number
name_at : (xs : List (List ℕ)) (n : List ℕ) → Stands n xs → slice_get xs (number_of xs n) ≡ Some n
name_at [] n e = absurd cc
name_at (x ∷ xs) n e = by (bytes_eq n x) refl (λ h. name_at xs n h) e
  where
    by : (b : Bool) → bytes_eq n x ≡ b → (Stands n xs → slice_get xs (number_of xs n) ≡ Some n) → b || list_any (bytes_eq n) xs ≡ true → slice_get (x ∷ xs) (cond (not b) (1 + number_of xs n) 0) ≡ Some n
    by true is more h = ap Some (sym ((bytes_eq-Decides n x).0 is))
    by false is more h = let next : suc (number_of xs n) ≡ 1 + number_of xs n = omega arith in subst (λ (k : ℕ). slice_get (x ∷ xs) k ≡ Some n) next (more h)

one_name : (xs : List (List ℕ)) (n m : List ℕ) → Stands n xs → Stands m xs → number_of xs n ≡ number_of xs m → n ≡ m
one_name xs n m e f same = let there : Some n ≡ Some m = sym (name_at xs n e) ∙ ap (λ (k : ℕ). slice_get xs k) same ∙ name_at xs m f in cc

same_test : (xs : List (List ℕ)) (n m : List ℕ) → Stands n xs → Stands m xs → (number_of xs n == number_of xs m) ≡ bytes_eq n m
same_test xs n m e f = by (bytes_eq n m) refl
  where
    by : (b : Bool) → bytes_eq n m ≡ b → (number_of xs n == number_of xs m) ≡ b
    by true is = eq-eqb (number_of xs n) (number_of xs m) (ap (λ (k : List ℕ). number_of xs k) ((bytes_eq-Decides n m).0 is))
    by false is = ne_eqb (number_of xs n) (number_of xs m) (λ same. let yes : bytes_eq n m ≡ true = (bytes_eq-Decides n m).1 (one_name xs n m e f same) in absurd cc)

-- both numbers are there, and they are the same
abbrev pub is_same_number : Option ℕ → Option ℕ → Bool
is_same_number (Some n) (Some m) = n == m
is_same_number (Some n) None = false
is_same_number None m = false

-- two classes have the same number exactly where they have the same name
pub same_numbers : (classes : List ClassRow) (c d : ℕ) → is_same_name (name_in (slice_get classes c)) (name_in (slice_get classes d)) ≡ is_same_number (slice_get (numbers_of classes) c) (slice_get (numbers_of classes) d)
same_numbers classes c d = by (slice_get classes c) (slice_get classes d) refl refl
  where
    by : (x y : Option ClassRow) → slice_get classes c ≡ x → slice_get classes d ≡ y → is_same_name (name_in x) (name_in y) ≡ is_same_number (slice_get (numbers_of classes) c) (slice_get (numbers_of classes) d)
    by None None e f = ap (λ (o : Option ℕ). is_same_number o (slice_get (numbers_of classes) d)) (sym (none_at [] classes c e))
    by None (Some y) e f = ap (λ (o : Option ℕ). is_same_number o (slice_get (numbers_of classes) d)) (sym (none_at [] classes c e))
    by (Some x) None e f = λ i. is_same_number (sym (number_at [] classes c x e) i) (sym (none_at [] classes d f) i)
    by (Some x) (Some y) e f =
        sym (same_test (names_after [] classes) x.name y.name (stands_at [] classes c x e) (stands_at [] classes d y f))
        ∙ (λ i. is_same_number (sym (number_at [] classes c x e) i) (sym (number_at [] classes d y f) i))
