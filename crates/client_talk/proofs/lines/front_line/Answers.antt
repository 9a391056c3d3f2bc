use Rattle.std.proofs.Common.{◌≢◌, length, sym}
use Rattle.std.proofs.lemmas.Bool.{eqb-false}
use Rattle.client_talk.proofs.FileLines.{splits, splits_whole}
use Rattle.client_talk.proofs.lines.front_line.Goals as goal

pub returns-in-Some : goal.returns-in-Some
returns-in-Some c = splits c.args.text.now c.in-Some.line.now c.in-Some.after.now c.in-Some.ensures.0 c.in-Some.ensures.1

pub returns-in-None : goal.returns-in-None
returns-in-None c =
    let some : length c.args.text.now ≢ 0 = eqb-false _ _ (sym c.if-is_empty.ensures) in
    splits_whole c.args.text.now c.split_at.result.0.now c.split_at.result.1.now c.split_at.ensures.front c.split_at.ensures.back c.in-None.ensures some
