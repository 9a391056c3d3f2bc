-- The words of the command line, as texts.
use Rattle.std.proofs.Common.{◌≡◌, ℕ, List, [], ◌∷◌, length, sym, ap, subst, refl, ◌∙◌, arith}
use Rattle.std.specs.Prelude.{String, string_bytes, Bool, IsTrue, ◌↔◌, codes}
use Rattle.std.specs.Str.{bytes_eq}
use Rattle.std.specs.declared.alloc.Global.{Global}
use Rattle.std.proofs.lemmas.Slice.Eq.{bytes_eq-Decides}
use Rattle.std.proofs.lemmas.List.{length-map}
use Rattle.layout_server.specs.Words.{IsReplay, IsCheck, named, names_in, three}
use Rattle.whole_files.specs.Words.{Asked, names_behind, text_at, texts}

pub replay_test : (words : List (String Global)) (first : List ℕ) (test : Bool) → length words ≡ 4 → first ≡ text_at (texts words) 0 → test ≡ bytes_eq first (codes "replay") → IsTrue test ↔ IsReplay (texts words)
replay_test words first test four is t =
    let decides = bytes_eq-Decides first (codes "replay") in
    (λ yes. record { count = length-map words string_bytes ∙ four; command = sym is ∙ decides.0 (sym t ∙ yes) }, λ r. t ∙ decides.1 (is ∙ r.command))

pub check_test : (words : List (String Global)) (first : List ℕ) (test : Bool) → length words ≡ 2 → first ≡ text_at (texts words) 0 → test ≡ bytes_eq first (codes "check") → IsTrue test ↔ IsCheck (texts words)
check_test words first test two is t =
    let decides = bytes_eq-Decides first (codes "check") in
    (λ yes. record { count = length-map words string_bytes ∙ two; command = sym is ∙ decides.0 (sym t ∙ yes) }, λ r. t ∙ decides.1 (is ∙ r.command))

-- words have one form at most
pub one_form : (words : List (List ℕ)) → IsReplay words → IsCheck words → ⊥
one_form words r c = absurd (omega (arith, r.count, c.count))

-- the names of `replay` are the words behind it
pub three_behind : (words : List (List ℕ)) → length words ≡ 4 → three (names_in words) ≡ names_behind words
three_behind [] four = absurd (omega (arith, four))
three_behind (a ∷ []) four = absurd (omega (arith, four))
three_behind (a ∷ b ∷ []) four = absurd (omega (arith, four))
three_behind (a ∷ b ∷ c ∷ []) four = absurd (omega (arith, four))
three_behind (a ∷ b ∷ c ∷ d ∷ []) four = refl
three_behind (a ∷ b ∷ c ∷ d ∷ e ∷ more) four = absurd (omega (arith, four))

pub asked_three : (words : List (String Global)) (old new : List (List ℕ)) → length words ≡ 4 → Asked (three (names_in (texts words))) old new → Asked (names_behind (texts words)) old new
asked_three words old new four asked = subst (λ (names : List (List ℕ)). Asked names old new) (three_behind (texts words) (length-map words string_bytes ∙ four)) asked

-- the names that the words hold
pub same_names : (words : List (List ℕ)) (a b c : List ℕ) → a ≡ text_at words 1 → b ≡ text_at words 2 → c ≡ text_at words 3 → named a b c ≡ names_in words
same_names words a b c e f g = ap (λ (x : List ℕ). named x b c) e ∙ ap (λ (x : List ℕ). named (text_at words 1) x c) f ∙ ap (λ (x : List ℕ). named (text_at words 1) (text_at words 2) x) g
