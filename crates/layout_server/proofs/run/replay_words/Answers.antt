use Rattle.std.proofs.Common.{◌≡◌, sym, subst, ◌∙◌, arith}
use Rattle.std.specs.Prelude.{IfErr}
use Rattle.layout_server.specs.Words.{Names}
use Rattle.whole_files.specs.Words.{text_at, texts}
use Rattle.layout_server.specs.Headline.{ReplayStop}
use Rattle.whole_files.proofs.Words.{word_text}
use Rattle.layout_server.proofs.Words.{same_names}
use Rattle.layout_server.proofs.run.replay_words.Goals as goal

pub returns-clause-err : goal.returns-clause-err
returns-clause-err g c =
    let words = c.args.words.now in
    let design : c.as_str-design.result.now ≡ text_at (texts words) 1 = c.as_str-design.ensures.value ∙ sym (word_text words 1 c.index-words-1.result (omega (arith, c.requires)) c.index-words-1.is) in
    let script : c.as_str-script.result.now ≡ text_at (texts words) 2 = c.as_str-script.ensures.value ∙ sym (word_text words 2 c.index-words-2.result (omega (arith, c.requires)) c.index-words-2.is) in
    let session : c.as_str-session.result.now ≡ text_at (texts words) 3 = c.as_str-session.ensures.value ∙ sym (word_text words 3 c.index-words-3.result (omega (arith, c.requires)) c.index-words-3.is) in
    subst (λ (n : Names). IfErr c.replay.result (ReplayStop n (g.F.Files.told c.args.files.now) (g.F.Files.told c.replay.new.files) (g.O.Sink.told c.args.out.now) (g.O.Sink.told c.replay.new.out)))
    (same_names (texts words) c.as_str-design.result.now c.as_str-script.result.now c.as_str-session.result.now design script session) c.replay.ensures.err
