use Rattle.std.proofs.Common.{sym, ap, ◌≡◌, ◌∙◌, ◌+◌, drop}
use Rattle.std.proofs.lemmas.List.{drop-drop}
use Rattle.session_wire.proofs.KeptLines.{line_before, line_whole}
use Rattle.client_talk.proofs.lines.split_line.Goals as goal

pub returns-in_err-end : goal.returns-in_err-end
returns-in_err-end c = rw c.from_residual.ensures (line_whole c.args.text.now (sym c.in_err-end.ensures))

pub returns : goal.returns
returns c =
    let parts = line_before c.args.text.now c.in_ok-end.end (sym c.in_ok-end.ensures) in
    let later : c.split_at-2.result.1.now ≡ drop (c.in_ok-end.end + 1) c.args.text.now = c.split_at-2.ensures.back ∙ ap (drop 1) c.split_at.ensures.back ∙ drop-drop 1 c.in_ok-end.end c.args.text.now in
    rw (c.split_at.ensures.front, later) (parts.0, parts.1)
