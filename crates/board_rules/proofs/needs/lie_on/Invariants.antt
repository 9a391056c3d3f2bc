use Rattle.std.proofs.Common.{◌≡◌, drop}
use Rattle.std.specs.Prelude.{◌==◌}
use Rattle.std.specs.List.{list_all}
use Rattle.board_rules.proofs.needs.lie_on.Given as goal

-- The shapes that are left lie on the layer exactly where all do.
abbrev pub invariant-loop-shape : goal.invariant-loop-shape
invariant-loop-shape l = list_all (λ t. t.layer == l.layer) (drop l.shape-index l.shapes) ≡ list_all (λ t. t.layer == l.layer) l.shapes
