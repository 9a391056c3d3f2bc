use Rattle.std.proofs.Common.{◌≡◌, sym, ◌∙◌, arith}
use Rattle.whole_files.specs.Words.{text_at, texts}
use Rattle.whole_files.proofs.Words.{word_text}
use Rattle.layout_server.proofs.Words.{check_test}
use Rattle.layout_server.proofs.run.is_check.Goals as goal

pub returns-then-words-eq2-clause-test : goal.returns-then-words-eq2-clause-test
returns-then-words-eq2-clause-test c =
    let text : c.as_str.result.now ≡ text_at (texts c.args.words.now) 0 = c.as_str.ensures.value ∙ sym (word_text c.args.words.now 0 c.index-words-0.result (omega arith) c.index-words-0.is) in
    check_test c.args.words.now c.as_str.result.now c.eq.result c.if-words-eq2.true text c.eq.ensures
