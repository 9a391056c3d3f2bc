-- Lists that hold a word or words are those that are read so, and their faults are those that are told.
use Rattle.std.proofs.Common.{◌≡◌, ℕ, true, List, [], ◌∷◌, ◌++◌, Ok, Err, refl, sym, ap, ◌∙◌, append_assoc, inl, inr}
use Rattle.std.proofs.lemmas.List.{append-nil}
use Rattle.sexp_text.specs.Forest.{Forest, End, Word, Branch}
use Rattle.dsn_lists.specs.declared.faults.DesignFault.{DesignFault}
use Rattle.dsn_lists.specs.declared.marks.Mark.{Mark}
use Rattle.dsn_lists.specs.Results.{◌>>=◌, each}
use Rattle.dsn_lists.specs.Words.{mark, word_of, spare_list, one_word, names, name_list}
use Rattle.dsn_lists.specs.ShortLists.{only_lists, HasStray, IsOneWord, OneWordFault, first_words, behind_words, IsNameList, NameListFault}
use Rattle.dsn_lists.proofs.Firsts.{made, failed, ok_is, bind_ok, bind_err, word_fault, word_fault_again}

-- ---- lists that are read over

pub spare_found : (f : Forest) (u v : Unit {0}) → each spare_list u f ≡ Ok v → only_lists f ≡ true
unfolding each
spare_found End u v e = refl
spare_found (Word at text rest) u v e = absurd cc
spare_found (Branch at inside rest) u v e = spare_found rest u v e

pub spare_again : (f : Forest) (u : Unit {0}) → only_lists f ≡ true → each spare_list u f ≡ Ok u
unfolding each
spare_again End u h = refl
spare_again (Word at text rest) u h = absurd cc
spare_again (Branch at inside rest) u h = spare_again rest u h

pub stray_found : (f : Forest) (u : Unit {0}) (e : DesignFault) → each spare_list u f ≡ Err e → HasStray f e
unfolding each
stray_found End u e h = absurd cc
stray_found (Word at text rest) u e h = cc
stray_found (Branch at inside rest) u e h = stray_found rest u e h

pub stray_again : (f : Forest) (u : Unit {0}) (e : DesignFault) → HasStray f e → each spare_list u f ≡ Err e
unfolding each
stray_again End u e h = absurd h
stray_again (Word at text rest) u e h = ap failed (sym h)
stray_again (Branch at inside rest) u e h = stray_again rest u e h

-- what fails behind lists that are read over, where the rest can't
pub spare_then : {A : Type 0} (f : Forest) (x : A) (e : DesignFault) → (each spare_list tt f >>= λ _. made x) ≡ Err e → HasStray f e
spare_then f x e h =
    elim (bind_err (each spare_list tt f) (λ _. made x) e h) [
      | inl here ↦ stray_found f tt e here
      | inr later ↦ absurd cc
    ]

pub spare_then_again : {A : Type 0} (f : Forest) (x : A) (e : DesignFault) → HasStray f e → (each spare_list tt f >>= λ _. made x) ≡ Err e
spare_then_again f x e h = rw (stray_again f tt e h) refl

pub spare_value : {A : Type 0} (f : Forest) (x y : A) → (each spare_list tt f >>= λ _. made x) ≡ Ok y → (only_lists f ≡ true) × (x ≡ y)
spare_value f x y e = let u = bind_ok (each spare_list tt f) (λ _. made x) y e in (spare_found f tt u.0 u.1, ok_is x y u.2)

-- ---- one word

pub one_found : (at : ℕ) (f : Forest) (w : Mark) → one_word at f ≡ Ok w → IsOneWord f
unfolding one_word word_of
one_found at End w e = absurd cc
one_found at (Branch a inside rest) w e = absurd cc
one_found at (Word a text rest) w e = (spare_value rest (mark a text) w e).0

pub one_again : (at : ℕ) (f : Forest) → IsOneWord f → (w : Mark) × (one_word at f ≡ Ok w)
unfolding one_word word_of
one_again at End h = absurd h
one_again at (Branch a inside rest) h = absurd h
one_again at (Word a text rest) h = (mark a text, rw (spare_again rest tt h) refl)

pub one_fault : (at : ℕ) (f : Forest) (e : DesignFault) → one_word at f ≡ Err e → OneWordFault at f e
unfolding one_word
one_fault at f e h = word_fault _ (λ a text rest e. HasStray rest e) at f e (λ a text rest k. spare_then rest (mark a text) e k) h

pub one_fault_again : (at : ℕ) (f : Forest) (e : DesignFault) → OneWordFault at f e → one_word at f ≡ Err e
unfolding one_word
one_fault_again at f e h = word_fault_again _ (λ a text rest e. HasStray rest e) at f e (λ a text rest k. spare_then_again rest (mark a text) e k) h

-- ---- names

pub names_are : (f : Forest) (ms : List Mark) → names ms f ≡ (ms ++ first_words f, behind_words f)
unfolding names
names_are End ms = ap (λ (xs : List Mark). (xs, End)) (sym (append-nil ms))
names_are (Word at text rest) ms = names_are rest (ms ++ mark at text ∷ []) ∙ ap (λ (xs : List Mark). (xs, behind_words rest)) (append_assoc ms (mark at text ∷ []) (first_words rest))
names_are (Branch at inside rest) ms = ap (λ (xs : List Mark). (xs, Branch at inside rest)) (sym (append-nil ms))

pub names_found : (at : ℕ) (f : Forest) (ms : List Mark) → name_list at f ≡ Ok ms → IsNameList f × (ms ≡ first_words f)
unfolding name_list word_of
names_found at End ms e = absurd cc
names_found at (Branch a inside rest) ms e = absurd cc
names_found at (Word a text rest) ms e =
    let h = ap (λ (x : List Mark × Forest). each spare_list tt x.1 >>= λ _. made x.0) (sym (names_are rest (mark a text ∷ []))) ∙ e in
    let v = spare_value (behind_words rest) (mark a text ∷ first_words rest) ms h in
    (v.0, sym v.1)

pub names_again : (at : ℕ) (f : Forest) → IsNameList f → name_list at f ≡ Ok (first_words f)
unfolding name_list word_of
names_again at End h = absurd h
names_again at (Branch a inside rest) h = absurd h
names_again at (Word a text rest) h =
    ap (λ (x : List Mark × Forest). each spare_list tt x.1 >>= λ _. made x.0) (names_are rest (mark a text ∷ [])) ∙ rw (spare_again (behind_words rest) tt h) refl

pub names_fault : (at : ℕ) (f : Forest) (e : DesignFault) → name_list at f ≡ Err e → NameListFault at f e
unfolding name_list
names_fault at f e h =
    word_fault _ (λ a text rest e. HasStray (behind_words rest) e) at f e (λ a text rest k.
    spare_then (behind_words rest) (mark a text ∷ first_words rest) e (ap (λ (x : List Mark × Forest). each spare_list tt x.1 >>= λ _. made x.0) (sym (names_are rest (mark a text ∷ []))) ∙ k)) h

pub names_fault_again : (at : ℕ) (f : Forest) (e : DesignFault) → NameListFault at f e → name_list at f ≡ Err e
unfolding name_list
names_fault_again at f e h =
    word_fault_again _ (λ a text rest e. HasStray (behind_words rest) e) at f e (λ a text rest k.
    ap (λ (x : List Mark × Forest). each spare_list tt x.1 >>= λ _. made x.0) (names_are rest (mark a text ∷ [])) ∙ spare_then_again (behind_words rest) (mark a text ∷ first_words rest) e k) h
