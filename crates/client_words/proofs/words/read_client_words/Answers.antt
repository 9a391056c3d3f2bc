use Rattle.std.proofs.Common.{◌∙◌, List, ℕ, ap, map}
use Rattle.std.specs.Borrow.{Bor}
use Rattle.whole_files.specs.Words.{texts}
use Rattle.client_words.proofs.words.read_client_words.Goals as goal

pub returns-clause-ok : goal.returns-clause-ok
returns-clause-ok c =
    let words = texts c.args.words.now in
    c.in_ok-copies.ensures words (c.in_ok-matches.ensures.ok words (ap (map (λ (s : Bor (List ℕ)). s.now)) c.as_slice.ensures.value ∙ c.in_ok-all.ensures))
