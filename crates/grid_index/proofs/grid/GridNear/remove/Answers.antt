use Rattle.std.proofs.Common.{◌≡◌, ◌+◌, List, Option, length, sym, ap, ◌∙◌, arith}
use Rattle.seg_geometry.specs.declared.near.Filed.{Filed}
use Rattle.seg_geometry.specs.Near.{without}
use Rattle.near_slots.specs.Slots.{filed_in}
use Rattle.grid_index.proofs.LevelLemmas.{AreInCells-emptied}
use Rattle.near_slots.proofs.SlotLemmas.{IsAt-within, without-emptied, without-free, length-emptied}
use Rattle.grid_index.proofs.grid.GridNear.remove.Goals as goal

pub loop-slot-smaller : goal.loop-slot-smaller
loop-slot-smaller c =
    let shelf = c.loop-slot.self-inside.shelf in
    let fewer : length (filed_in c.take.new.self) + 1 ≡ length (filed_in shelf) =
    ap (λ (s : List (Option Filed)). length (filed_in s) + 1) c.in-Some.ensures.emptied ∙ length-emptied shelf c.in-Some.slot c.in-Some.filed c.in-Some.ensures.was.at in
    omega (arith, fewer)

pub loop-slot-preserved : goal.loop-slot-preserved
loop-slot-preserved c =
    let shelf = c.loop-slot.self-inside.shelf in
    let slot = c.in-Some.slot in
    record {
      filed = rw c.in-Some.ensures.emptied (AreInCells-emptied c.loop-slot.self-inside.levels.items c.take_from_cells.new.levels.items shelf slot
          (IsAt-within shelf slot c.in-Some.filed c.in-Some.ensures.was) c.loop-slot.invariant.filed c.take_from_cells.ensures);
      rest = ap (λ (s : List (Option Filed)). without c.args.id (filed_in s)) c.in-Some.ensures.emptied
          ∙ without-emptied c.args.id shelf slot c.in-Some.filed c.in-Some.ensures.was.at c.in-Some.ensures.of ∙ c.loop-slot.invariant.rest;
    }

pub returns : goal.returns
returns c =
    let shelf = c.loop-slot.self-inside.shelf in
    ap (λ (s : List (Option Filed)). filed_in s) c.in_default.ensures.kept ∙ sym (without-free c.args.id shelf c.in_default.ensures.none)
    ∙ c.loop-slot.invariant.rest ∙ ap (λ (ps : List Filed). without c.args.id ps) c.self.view_is
