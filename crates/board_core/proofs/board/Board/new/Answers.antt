use Rattle.std.proofs.Common.{◌≡◌, ◌∙◌, rules, map}
use Rattle.std.specs.Prelude.{Some}
use Rattle.board_core.proofs.Growing.{new_same, same_of, first_fits}
use Rattle.board_core.proofs.board.Board.new.Goals as goal

pub returns-clause-first : goal.returns-clause-first
returns-clause-first c =
    let made : c.in_ok-made.made.items ≡ map Some c.args.design.now.parts.items = search rules in
    new_same c.args.design.now.parts c.new-items.result c.replace.new.self c.in_ok-made.made.items _ _ _ c.in_ok-rules.rules c.new-items.ensures made c.in_ok-replace.ensures.left c.in_ok-replace.ensures.length c.new.ensures c.new-2.ensures.none c.new-2.ensures.last (c.in_ok-rules.ensures ∙ c.start_rules.ensures)

pub returns-clause-fits : goal.returns-clause-fits
returns-clause-fits c =
    let made : c.in_ok-made.made.items ≡ map Some c.args.design.now.parts.items = search rules in
    let same = new_same c.args.design.now.parts c.new-items.result c.replace.new.self c.in_ok-made.made.items _ _ _ c.in_ok-rules.rules c.new-items.ensures made c.in_ok-replace.ensures.left c.in_ok-replace.ensures.length c.new.ensures c.new-2.ensures.none c.new-2.ensures.last (c.in_ok-rules.ensures ∙ c.start_rules.ensures) in
    same_of c.args.design.now.parts _ _ same (first_fits c.args.design.now.parts c.args.design.now.sound.items)
