use Rattle.std.proofs.Common.{◌≡◌, ◌+◌, ◌<◌, length, drop}
use Rattle.std.specs.List.{AllByRecursion}
use Rattle.board_rules.proofs.samples.nets.Given as goal

-- There is a net for each class so far, and all classes are below 6.
abbrev pub invariant-loop-class : goal.invariant-loop-class
invariant-loop-class l = record {
  count : length l.rows ≡ l.class-index;
  fit : AllByRecursion (λ row. row.class < 6) l.rows;
  left : AllByRecursion (λ c. c < 6) (drop l.class-index l.classes);
}
