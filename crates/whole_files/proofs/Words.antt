-- The words of the command line, as texts.
use Rattle.std.proofs.Common.{◌≡◌, ℕ, zero, suc, ◌<◌, List, [], ◌∷◌, length, get_or, sym, ap, subst, refl, ◌∙◌, arith}
use Rattle.std.specs.Prelude.{String, string_bytes}
use Rattle.std.specs.declared.alloc.Global.{Global}
use Rattle.std.proofs.lemmas.List.{length-map}
use Rattle.whole_files.specs.Words.{Asked, names_behind, text_at, texts}

pub word_text : (words : List (String Global)) (i : ℕ) (w : String Global) → i < length words → w ≡ get_or words i w → text_at (texts words) i ≡ string_bytes w
word_text [] i w lt e = absurd (omega arith)
word_text (x ∷ xs) zero w lt e = ap string_bytes (sym e)
word_text (x ∷ xs) (suc i) w lt e = word_text xs i w (omega arith) e

-- one name is the word behind the command
pub one_behind : (words : List (List ℕ)) → length words ≡ 2 → text_at words 1 ∷ [] ≡ names_behind words
one_behind [] two = absurd (omega (arith, two))
one_behind (a ∷ []) two = absurd (omega (arith, two))
one_behind (a ∷ b ∷ []) two = refl
one_behind (a ∷ b ∷ c ∷ more) two = absurd (omega (arith, two))

pub asked_one : (words : List (String Global)) (old new : List (List ℕ)) → length words ≡ 2 → Asked (text_at (texts words) 1 ∷ []) old new → Asked (names_behind (texts words)) old new
asked_one words old new two asked = subst (λ (names : List (List ℕ)). Asked names old new) (one_behind (texts words) (length-map words string_bytes ∙ two)) asked
