-- The words of the command.
use Rattle.std.proofs.Common.{◌≡◌, ℕ, List, length, sym, ◌∙◌}
use Rattle.std.specs.Prelude.{String, string_bytes, Bool, IsTrue, ◌↔◌, codes}
use Rattle.std.specs.Str.{bytes_eq}
use Rattle.std.specs.declared.alloc.Global.{Global}
use Rattle.std.proofs.lemmas.Slice.Eq.{bytes_eq-Decides}
use Rattle.std.proofs.lemmas.List.{length-map}
use Rattle.whole_files.specs.Words.{text_at, texts}
use Rattle.board_numbers.specs.Headline.{IsNumbers}

pub numbers_test : (words : List (String Global)) (first : List ℕ) (test : Bool) → length words ≡ 2 → first ≡ text_at (texts words) 0 → test ≡ bytes_eq first (codes "numbers") → IsTrue test ↔ IsNumbers (texts words)
numbers_test words first test two is t =
    let decides = bytes_eq-Decides first (codes "numbers") in
    (λ yes. record { count = length-map words string_bytes ∙ two; command = sym is ∙ decides.0 (sym t ∙ yes) }, λ r. t ∙ decides.1 (is ∙ r.command))
