-- Numbers that are whole texts, with a word in front of them or another number behind them.
use Rattle.std.proofs.Common.{◌≡◌, ℕ, ◌<◌, ◌^◌, Bool, false, List, [], ◌∷◌, ◌++◌, refl, sym, ap, subst, ◌∙◌, arith, IsTrue, ◌↔◌}
use Rattle.std.specs.Prelude.{decimal}
use Rattle.std.proofs.lemmas.List.{append_cancel_left}
use Rattle.session_wire.specs.Words.{IsWord}
use Rattle.session_wire.proofs.NumberTexts.{decimal_word}
use Rattle.session_wire.proofs.WordParts.{word_split}
use Rattle.answer_lines.specs.Answers.{IsNumbered, IsTwice}
use Rattle.answer_lines.specs.Forms.{IsNumber, AreNumbers}

tail_is : (a b : ℕ) (x y : List ℕ) → a ∷ x ≡ b ∷ y → x ≡ y
tail_is a b x y e = cc

-- a word holds no space
no_space : (word rest : List ℕ) → IsWord (word ++ 32 ∷ rest) → ⊥
no_space [] rest p = p.0 refl
no_space (b ∷ word) rest p = no_space word rest p.1

-- a text without a space isn't two numbers
pub numbers_none : (text : List ℕ) (least first second : ℕ) → IsWord text → IsTrue false ↔ AreNumbers least first second text
numbers_none text least first second whole = (λ t. absurd cc, λ x. absurd (no_space (decimal x.first) (decimal x.second) (subst IsWord x.spelled whole)))

numbers_are : (text word rest : List ℕ) (least first second : ℕ) → first < 2 ^ 32 → IsWord word → text ≡ word ++ 32 ∷ rest → AreNumbers least first second text → IsNumber least first word × IsNumber least second rest
numbers_are text word rest least first second low whole parts x =
    let split = word_split word (decimal x.first) (32 ∷ rest) (32 ∷ decimal x.second) whole (decimal_word x.first (omega (arith, x.first_fits.1))) refl refl (sym parts ∙ x.spelled) in
    (record { number = x.first; fits = x.first_fits; spelled = split.0 }, record { number = x.second; fits = x.second_fits; spelled = tail_is 32 32 _ _ split.1 })

pub numbers_some : (text word rest : List ℕ) (least first second : ℕ) (r : Bool) → first < 2 ^ 32 → IsWord word → text ≡ word ++ 32 ∷ rest → IsNumber least first word → (IsTrue r ↔ IsNumber least second rest) → IsTrue r ↔ AreNumbers least first second text
numbers_some text word rest least first second r low whole parts x h = (
  λ t. let y = h.0 t in record {
    first = x.number;
    second = y.number;
    first_fits = x.fits;
    second_fits = y.fits;
    spelled = parts ∙ ap (λ (z : List ℕ). z ++ 32 ∷ rest) x.spelled ∙ ap (λ (z : List ℕ). decimal x.number ++ 32 ∷ z) y.spelled;
  },
  λ all. h.1 (numbers_are text word rest least first second low whole parts all).1,
)

pub numbers_other : (text word rest : List ℕ) (least first second : ℕ) (r : Bool) → first < 2 ^ 32 → IsWord word → text ≡ word ++ 32 ∷ rest → r ≡ false → (IsTrue r ↔ IsNumber least first word) → IsTrue r ↔ AreNumbers least first second text
numbers_other text word rest least first second r low whole parts no_ h =
    (λ t. absurd cc, λ all. h.1 (numbers_are text word rest least first second low whole parts all).0)

pub numbered_some : (text word rest : List ℕ) (most : ℕ) (r : Bool) → text ≡ word ++ rest → (IsTrue r ↔ IsNumber 0 most rest) → IsTrue r ↔ IsNumbered word most text
numbered_some text word rest most r e h = (
  λ t. let x = h.0 t in record { number = x.number; fits = x.fits.1; spelled = e ∙ ap (λ (z : List ℕ). word ++ z) x.spelled },
  λ x. h.1 (record { number = x.number; fits = (omega arith, x.fits); spelled = append_cancel_left word rest (decimal x.number) (sym e ∙ x.spelled) }),
)

pub twice_some : (text word rest : List ℕ) (most : ℕ) (r : Bool) → text ≡ word ++ rest → (IsTrue r ↔ AreNumbers 0 4294967295 most rest) → IsTrue r ↔ IsTwice word most text
twice_some text word rest most r e h = (
  λ t. let x = h.0 t in record { first = x.first; second = x.second; first_fits = x.first_fits.1; second_fits = x.second_fits.1; spelled = e ∙ ap (λ (z : List ℕ). word ++ z) x.spelled },
  λ x. h.1 (record { first = x.first; second = x.second; first_fits = (omega arith, x.first_fits); second_fits = (omega arith, x.second_fits); spelled = append_cancel_left word rest (decimal x.first ++ (32 ∷ decimal x.second)) (sym e ∙ x.spelled) }),
)
