use Rattle.std.proofs.Common.{◌≡◌, ◌++◌}
use Rattle.dsn_shapes.specs.Drawn.{on_each}
use Rattle.dsn_shapes.proofs.drawn.put_on_each.Given as goal

abbrev pub invariant-loop-layer : goal.invariant-loop-layer
invariant-loop-layer l = l.shapes ≡ l.initial.shapes ++ on_each l.layer l.core l.width
