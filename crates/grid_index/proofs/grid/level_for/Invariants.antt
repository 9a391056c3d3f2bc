use Rattle.std.proofs.Common.{◌<◌}
use Rattle.grid_index.specs.Cells.{level_count, shift_of, IsFitting}
use Rattle.grid_index.proofs.grid.level_for.Given as goal

abbrev pub invariant-loop : goal.invariant-loop
invariant-loop l = record { there : l.level < level_count; fitting : IsFitting (shift_of l.level) l.filed.rect }
