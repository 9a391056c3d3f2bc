use Rattle.std.proofs.Common.{◌<◌, length, arith}
use Rattle.grid_index.proofs.LevelLemmas.{LevelsKeepOthers-refl, LevelsKeepOthers-then, LevelsKeepOthers-written}
use Rattle.grid_index.proofs.grid.take_from_cells.Goals as goal

pub loop-level-init : goal.loop-level-init
loop-level-init c = LevelsKeepOthers-refl _ _

pub loop-level-preserved : goal.loop-level-preserved
loop-level-preserved c =
    let within : c.loop-level.level < length c.loop-level.levels.items = omega (arith, c.loop-level-test.true, c.level_of-last.ensures.there, c.requires, c.loop-level.invariant.same) in
    LevelsKeepOthers-then _ _ _ _ c.loop-level.invariant
    (LevelsKeepOthers-written c.args.slot _ _ c.index_mut-cells.result.now c.remove.new.self within c.index_mut-cells.ensures.value c.remove.ensures)
