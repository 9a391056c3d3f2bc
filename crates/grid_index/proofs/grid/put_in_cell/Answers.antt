use Rattle.std.proofs.Common.{◌<◌, length, arith}
use Rattle.grid_index.proofs.LevelLemmas.{LevelsKeep-written}
use Rattle.grid_index.proofs.grid.put_in_cell.Goals as goal

pub returns-clause-kept : goal.returns-clause-kept
returns-clause-kept c =
    let within : c.level_for-level.result < length c.args.levels.now.items = omega (arith, c.level_for-level.ensures.there, c.requires) in
    LevelsKeep-written _ _ c.index_mut-cells.result.now c.put.new.self within c.index_mut-cells.ensures.value c.put.ensures.kept
