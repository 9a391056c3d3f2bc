use Rattle.number_slots.specs.Slots.{under}
use Rattle.ses_writer.specs.ByNet.{HasLists, HasMarks}
use Rattle.ses_writer.proofs.by_net.collect.Given as goal

abbrev pub invariant-loop-id : goal.invariant-loop-id
invariant-loop-id l = record {
  nets : HasLists l.design.parts (under l.id l.board.live) l.nets.items;
  marks : HasMarks l.design.parts (under l.id l.board.live) l.marks.items;
}
