-- What the command of three words makes of words, however many there are.
use Rattle.std.proofs.Common.{◌≡◌, ◌≢◌, ℕ, true, List, [], ◌∷◌, length, Some, refl, sym, ap, ap₂, ◌∙◌, arith, codes}
use Rattle.clap.specs.Words.{App, HasMatchesOf, first_of, fault_of, found_of, is_simple, is_simple_and_free, matches_of, takes}
use Rattle.clap.specs.Walk.{rows_of}
use Rattle.clap.specs.declared.parser.matches.ArgMatches.{ArgMatches}
use Rattle.clap.proofs.OnLiterals.{clap_on_literals}
use Rattle.clap.proofs.WalkLemmas.{first_value-rows}
use Rattle.client_words.specs.Commands.{three_words, behind_dashes, HasWords}

simple : is_simple three_words ≡ true
unfolding clap_on_literals
simple = refl

free : is_simple_and_free three_words ≡ true
unfolding clap_on_literals
free = refl

three_taken : (a b c : List ℕ) → takes three_words (behind_dashes (a ∷ b ∷ c ∷ [])) ≡ true
unfolding clap_on_literals
three_taken a b c = refl

none_fails : fault_of three_words (behind_dashes []) ≢ []
unfolding clap_on_literals
none_fails e = absurd cc

one_fails : (a : List ℕ) → fault_of three_words (behind_dashes (a ∷ [])) ≢ []
unfolding clap_on_literals
one_fails a e = absurd cc

two_fail : (a b : List ℕ) → fault_of three_words (behind_dashes (a ∷ b ∷ [])) ≢ []
unfolding clap_on_literals
two_fail a b e = absurd cc

more_fail : (a b c d : List ℕ) (rest : List (List ℕ)) → fault_of three_words (behind_dashes (a ∷ b ∷ c ∷ d ∷ rest)) ≢ []
unfolding clap_on_literals
more_fail a b c d rest e = absurd cc

address_is : (a b c : List ℕ) → first_of (codes "address") (matches_of three_words (behind_dashes (a ∷ b ∷ c ∷ []))) ≡ Some a
unfolding clap_on_literals
address_is a b c = refl

design_is : (a b c : List ℕ) → first_of (codes "design") (matches_of three_words (behind_dashes (a ∷ b ∷ c ∷ []))) ≡ Some b
unfolding clap_on_literals
design_is a b c = refl

lines_are : (a b c : List ℕ) → first_of (codes "lines") (matches_of three_words (behind_dashes (a ∷ b ∷ c ∷ []))) ≡ Some c
unfolding clap_on_literals
lines_are a b c = refl

-- a parse that gives something was of three words
has_words : (words : List (List ℕ)) (m : ArgMatches) → fault_of three_words (behind_dashes words) ≡ [] → rows_of (found_of m) ≡ matches_of three_words (behind_dashes words) → HasWords words m
has_words [] m none rows = absurd (none_fails none)
has_words (a ∷ []) m none rows = absurd (one_fails a none)
has_words (a ∷ b ∷ []) m none rows = absurd (two_fail a b none)
has_words (a ∷ b ∷ c ∷ []) m none rows =
    record {
      address = a;
      design = b;
      lines = c;
      words_are = refl;
      has_address = first_value-rows (found_of m) (codes "address") ∙ ap (first_of (codes "address")) rows ∙ address_is a b c;
      has_design = first_value-rows (found_of m) (codes "design") ∙ ap (first_of (codes "design")) rows ∙ design_is a b c;
      has_lines = first_value-rows (found_of m) (codes "lines") ∙ ap (first_of (codes "lines")) rows ∙ lines_are a b c;
    }
has_words (a ∷ b ∷ c ∷ d ∷ rest) m none rows = absurd (more_fail a b c d rest none)

pub found_words : (app : App) (all words : List (List ℕ)) (m : ArgMatches) → app ≡ three_words → all ≡ behind_dashes words → (is_simple_and_free app ≡ true → fault_of app all ≡ []) → HasMatchesOf app all m → HasWords words m
found_words app all words m app_is all_are kinds h =
    let none : fault_of three_words (behind_dashes words) ≡ [] = sym (ap₂ fault_of app_is all_are) ∙ kinds (ap is_simple_and_free app_is ∙ free) in
    has_words words m none ((h (ap is_simple app_is ∙ simple)).0 ∙ ap₂ matches_of app_is all_are)

-- three words are taken
taken : (words : List (List ℕ)) → length words ≡ 3 → takes three_words (behind_dashes words) ≡ true
taken [] e = absurd (omega (arith, e))
taken (a ∷ []) e = absurd (omega (arith, e))
taken (a ∷ b ∷ []) e = absurd (omega (arith, e))
taken (a ∷ b ∷ c ∷ []) e = three_taken a b c
taken (a ∷ b ∷ c ∷ d ∷ rest) e = absurd (omega (arith, e))

pub taken_so : (P : Type 0) (app : App) (all words : List (List ℕ)) → app ≡ three_words → all ≡ behind_dashes words → (takes app all ≡ true → P) → length words ≡ 3 → P
taken_so P app all words app_is all_are h three = h (ap₂ takes app_is all_are ∙ taken words three)
