-- The command of three words as `clap` sees it, and the words that a parse found. No public contract cites this module.
use Rattle.std.specs.Prelude.{◌≡◌, ℕ, true, List, [], ◌∷◌, Some, codes}
use Rattle.clap.specs.Words.{App, Rule, first_value, found_of, new_app, new_rule, with_rule}
use Rattle.clap.specs.declared.parser.matches.ArgMatches.{ArgMatches}

-- a required word that is no option
abbrev pub required_word : List ℕ → Rule
required_word name = record (new_rule name) { required = true }

-- a command of three required words
abbrev pub three_words : App
three_words = with_rule (with_rule (with_rule (new_app (codes "layout_client")) (required_word (codes "address"))) (required_word (codes "design"))) (required_word (codes "lines"))

-- the words, behind the program's name and a `--`
abbrev pub behind_dashes : List (List ℕ) → List (List ℕ)
behind_dashes words = codes "layout_client" ∷ codes "--" ∷ words

-- there are three words, and a parse found them
pub record HasWords (words : List (List ℕ)) (m : ArgMatches) : Type 0 where
  pub address : List ℕ
  pub design : List ℕ
  pub lines : List ℕ
  pub words_are : words ≡ address ∷ design ∷ lines ∷ []
  pub has_address : first_value (found_of m) (codes "address") ≡ Some address
  pub has_design : first_value (found_of m) (codes "design") ≡ Some design
  pub has_lines : first_value (found_of m) (codes "lines") ≡ Some lines
