use Rattle.std.proofs.Common.{sym, ◌∙◌}
use Rattle.whole_files.proofs.Words.{word_text}
use Rattle.session_server.proofs.Reading.{word_test}
use Rattle.session_server.proofs.words.is_word.Goals as goal

pub returns : goal.returns
returns c =
    word_test c.args.words.now c.args.place c.as_str.result.now c.args.word.now c.eq.result
    (c.as_str.ensures.value ∙ sym (word_text c.args.words.now c.args.place c.index-words-place.result c.requires c.index-words-place.is)) c.eq.ensures
