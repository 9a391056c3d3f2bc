use Rattle.std.proofs.Common.{rules, ◌≡◌, ◌<◌, ℕ, List, [], length, refl, arith}
use Rattle.board_items.specs.declared.items.Item.{Item}
use Rattle.number_slots.specs.Slots.{IsAt, under}
use Rattle.number_slots.proofs.Under.{under_first, under_none, under_all}
use Rattle.board_core.proofs.Near.{fit_at}
use Rattle.ses_writer.proofs.Collected.{lists_more, marks_more, lists_first, marks_first}
use Rattle.ses_writer.proofs.by_net.collect.Goals.{in-Some+in_ok-list_item, in_default}
use Rattle.ses_writer.proofs.by_net.collect.Goals as goal

pub loop-id-init : goal.loop-id-init
loop-id-init c =
    let none = under_first 1 c.args.board.now.live c.next_id-id-end.ensures.rising in record {
      nets = rw none (lists_first c.args.design.now.parts c.net_count.result c.in_ok-nets.nets.items c.net_count.ensures c.in_ok-nets.ensures);
      marks = rw none (marks_first c.args.design.now.parts (length c.args.design.now.parts.stacks) c.in_ok-marks.marks.items refl (search rules));
    }

pub list_item-requires-clause-there : goal.list_item-requires-clause-there
list_item-requires-clause-there c = (fit_at c.args.design.now.parts c.args.board.now.live c.loop-id.id c.in-Some.item.now c.requires.fit c.in-Some.ensures.some).there

pub mark_item-requires-clause-there : goal.mark_item-requires-clause-there
mark_item-requires-clause-there c = (fit_at c.args.design.now.parts c.args.board.now.live c.loop-id.id c.in-Some.item.now c.requires.fit c.in-Some.ensures.some).there

pub loop-id-preserved : goal.loop-id-preserved
loop-id-preserved c =
    let p = c.args.design.now.parts in
    let live = c.args.board.now.live in
    let rising = c.next_id-id-end.ensures.rising in
    elim c.match-item.branch [
      | in-Some+in_ok-list_item w ↦ record {
        nets = rw w.nets-is (lists_more p live c.loop-id.id w.in-Some.item.now c.loop-id.nets.items w.list_item.new.nets.items rising w.in-Some.ensures.some c.loop-id.invariant.nets w.in_ok-list_item.ensures);
        marks = rw w.marks-is (marks_more p live c.loop-id.id w.in-Some.item.now c.loop-id.marks.items w.mark_item.new.marks.items rising w.in-Some.ensures.some c.loop-id.invariant.marks w.mark_item.ensures);
      }
      | in_default w ↦
          let same = under_none c.loop-id.id live w.in_default.ensures.none in record {
            nets = rw (w.nets-is, same) c.loop-id.invariant.nets;
            marks = rw (w.marks-is, same) c.loop-id.invariant.marks;
          }
    ]

pub returns-clause-nets : goal.returns-clause-nets
returns-clause-nets c =
    let live = c.args.board.now.live in
    let all : under c.loop-id.id live ≡ live = under_all c.loop-id.id live (λ m (x : Item) (h : IsAt live m x). omega (arith, (c.next_id-id-end.ensures.within m x h).1, c.loop-id-test.false)) in
    rw all at c.loop-id.invariant.nets

pub returns-clause-marks : goal.returns-clause-marks
returns-clause-marks c =
    let live = c.args.board.now.live in
    let all : under c.loop-id.id live ≡ live = under_all c.loop-id.id live (λ m (x : Item) (h : IsAt live m x). omega (arith, (c.next_id-id-end.ensures.within m x h).1, c.loop-id-test.false)) in
    rw all at c.loop-id.invariant.marks
