-- The numbers of names that are put one by one are those of all names.
use Rattle.std.proofs.Common.{◌≡◌, ℕ, ◌<◌, List, [], ◌∷◌, ◌++◌, Option, Some, None, option_to_list, refl, sym, ap, ◌∙◌, append_assoc}
use Rattle.std.specs.List.{flat_map, AllByRecursion}
use Rattle.std.proofs.lemmas.List.{append-nil}
use Rattle.dsn_lists.specs.declared.marks.Mark.{Mark}
use Rattle.dsn_lists.proofs.Bounds.{all_push}
use Rattle.dsn_reader.specs.Numbering.{with_number, numbers_by}

with_is : (ids : List ℕ) (o : Option ℕ) → with_number ids o ≡ ids ++ option_to_list o
with_is ids None = sym (append-nil ids)
with_is ids (Some n) = refl

-- the numbers of names, where there are any
abbrev pub numbers_all : (List ℕ → Option ℕ) → List Mark → List ℕ
numbers_all number ms = flat_map (λ (m : Mark). option_to_list (number m.name)) ms

pub numbers_are : (number : List ℕ → Option ℕ) (ids : List ℕ) (ms : List Mark) → numbers_by number ids ms ≡ ids ++ numbers_all number ms
unfolding numbers_by
numbers_are number ids [] = sym (append-nil ids)
numbers_are number ids (m ∷ ms) =
    numbers_are number (with_number ids (number m.name)) ms
    ∙ ap (λ (xs : List ℕ). xs ++ numbers_all number ms) (with_is ids (number m.name))
    ∙ append_assoc ids (option_to_list (number m.name)) (numbers_all number ms)

number_below : (n : ℕ) (ids : List ℕ) (o : Option ℕ) → AllByRecursion (λ (i : ℕ). i < n) ids → ((k : ℕ) → o ≡ Some k → k < n) → AllByRecursion (λ (i : ℕ). i < n) (with_number ids o)
number_below n ids None p below = p
number_below n ids (Some k) p below = all_push (λ (i : ℕ). i < n) ids k p (below k refl)

-- the numbers are below this one, where each is
pub numbers_below : (n : ℕ) (number : List ℕ → Option ℕ) → ((name : List ℕ) (k : ℕ) → number name ≡ Some k → k < n)
    → (ids : List ℕ) (ms : List Mark) → AllByRecursion (λ (i : ℕ). i < n) ids → AllByRecursion (λ (i : ℕ). i < n) (numbers_by number ids ms)
unfolding numbers_by
numbers_below n number low ids [] p = p
numbers_below n number low ids (m ∷ ms) p = numbers_below n number low (with_number ids (number m.name)) ms (number_below n ids (number m.name) p (low m.name))
