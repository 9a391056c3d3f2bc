-- The words of `serve`.
-- Models: one client; more of them are another form. Cited by `read_words` and `serve`
use Rattle.std.specs.Prelude.{◌≡◌, ℕ, List, length, codes, Result, Ok, Err}
use Rattle.whole_files.specs.Words.{text_at}
use Rattle.session_server.specs.declared.words.ServeWords.{ServeWords}
use Rattle.session_server.specs.declared.words.WordsWhy.{WordsWhy}
use Rattle.session_server.specs.declared.words.WordsWhy.TheVariants as whys

-- the words are `serve`, an address, the number 1, and two names
pub record IsServe (words : List (List ℕ)) : Type 0 where
  pub count : length words ≡ 5
  pub command : text_at words 0 ≡ codes "serve"
  pub one : text_at words 2 ≡ codes "1"

-- the address, and the names of the design's file and of the session file
pub record Names : Type 0 where
  pub address : List ℕ
  pub design : List ℕ
  pub session : List ℕ

-- these three in the words
abbrev pub names_in : List (List ℕ) → Names
names_in words = record { address = text_at words 1; design = text_at words 3; session = text_at words 4 }

-- these three in words that were read
abbrev pub names_of : ServeWords → Names
names_of read = record { address = read.address; design = read.design; session = read.session }

-- the words that were read are of the form, with their texts and the number
pub record AreRead (words : List (List ℕ)) (read : ServeWords) : Type 0 where
  pub form : IsServe words
  pub address : read.address ≡ text_at words 1
  pub clients : read.clients ≡ 1
  pub design : read.design ≡ text_at words 3
  pub session : read.session ≡ text_at words 4

-- what the reading of words gives: they are of the form, or they aren't, or memory ran out
abbrev pub HasForm : List (List ℕ) → Result ServeWords WordsWhy → Type 0
HasForm words (Ok read) = AreRead words read
HasForm words (Err whys.Usage) = IsServe words → ⊥
HasForm words (Err whys.Memory) = IsServe words
