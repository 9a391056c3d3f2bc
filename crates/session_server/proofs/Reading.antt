-- The words that were read.
use Rattle.std.proofs.Common.{◌≡◌, ℕ, List, sym, ap, ◌∙◌}
use Rattle.std.specs.Prelude.{String, Bool, IsTrue, ◌↔◌}
use Rattle.std.specs.Str.{bytes_eq}
use Rattle.std.specs.declared.alloc.Global.{Global}
use Rattle.std.proofs.lemmas.Slice.Eq.{bytes_eq-Decides}
use Rattle.whole_files.specs.Words.{text_at, texts}
use Rattle.session_server.specs.Words.{names_in, names_of, AreRead}
use Rattle.session_server.specs.declared.words.ServeWords.{ServeWords}

pub word_test : (words : List (String Global)) (place : ℕ) (first word : List ℕ) (test : Bool) → first ≡ text_at (texts words) place → test ≡ bytes_eq first word → IsTrue test ↔ (text_at (texts words) place ≡ word)
word_test words place first word test is t =
    let decides = bytes_eq-Decides first word in
    (λ yes. sym is ∙ decides.0 (sym t ∙ yes), λ e. t ∙ decides.1 (is ∙ e))

-- the names in words that were read are those in the words
pub same_names : (words : List (List ℕ)) (read : ServeWords) → AreRead words read → names_of read ≡ names_in words
same_names words read are =
    ap (λ (x : List ℕ). record { address = x; design = read.design; session = read.session }) are.address
    ∙ ap (λ (x : List ℕ). record { address = text_at words 1; design = x; session = read.session }) are.design
    ∙ ap (λ (x : List ℕ). record { address = text_at words 1; design = text_at words 3; session = x }) are.session
