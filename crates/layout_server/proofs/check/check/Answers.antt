use Rattle.std.proofs.Common.{◌≡◌, List, length, ap, ◌∙◌}
use Rattle.board_items.specs.declared.items.Item.{Item}
use Rattle.layout_server.specs.Checks.{clean_line, line_of}
use Rattle.layout_server.proofs.Checked.{short_stops, cut_if, checks_if}
use Rattle.layout_server.proofs.check.check.Goals as goal

pub returns-in_default-clause-err : goal.returns-in_default-clause-err
returns-in_default-clause-err g c = short_stops c.args.name.now (g.F.Files.told c.args.files.now) (g.F.Files.told c.load_clean.new.files) (g.O.Sink.told c.args.out.now) c.in_ok-design.ensures.only

pub returns-clause-ok : goal.returns-clause-ok
returns-clause-ok g c =
    let text : c.as_slice.result.now ≡ line_of c.in_ok-design.design =
    c.as_slice.ensures ∙ c.in-Ok.ensures ∙ ap clean_line (c.len.ensures ∙ ap (λ (xs : List Item). length xs) c.items.ensures) in
    checks_if c.put_out.result c.args.name.now c.in_ok-design.design (g.F.Files.told c.args.files.now) (g.F.Files.told c.load_clean.new.files) (g.O.Sink.told c.args.out.now) (g.O.Sink.told c.put_out.new.out) c.as_slice.result.now
    c.in_ok-design.ensures.ok c.in_ok-design.ensures.only text c.put_out.ensures.ok

pub returns-clause-err : goal.returns-clause-err
returns-clause-err g c =
    let text : c.as_slice.result.now ≡ line_of c.in_ok-design.design =
    c.as_slice.ensures ∙ c.in-Ok.ensures ∙ ap clean_line (c.len.ensures ∙ ap (λ (xs : List Item). length xs) c.items.ensures) in
    cut_if c.put_out.result c.args.name.now c.in_ok-design.design (g.F.Files.told c.args.files.now) (g.F.Files.told c.load_clean.new.files) (g.O.Sink.told c.args.out.now) (g.O.Sink.told c.put_out.new.out) c.as_slice.result.now
    c.in_ok-design.ensures.ok c.in_ok-design.ensures.only text c.put_out.ensures.err
