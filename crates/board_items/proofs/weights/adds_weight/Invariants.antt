use Rattle.std.proofs.Common.{◌≡◌, ◌+◌, ◌≤◌, ◌*◌, drop, map}
use Rattle.std.specs.List.{sum, AllByRecursion}
use Rattle.board_items.specs.Formed.{IsFormedAdd}
use Rattle.board_items.specs.Weights.{weight_of_add}
use Rattle.board_items.proofs.weights.adds_weight.Given as goal

-- What is counted and what the adds that are left weigh is the whole; those left are formed.
abbrev pub invariant-loop-add : goal.invariant-loop-add
invariant-loop-add l = record {
  whole : l.weight + sum (map weight_of_add (drop l.add-index l.adds)) ≡ sum (map weight_of_add l.adds);
  formed : AllByRecursion IsFormedAdd (drop l.add-index l.adds);
  most : l.weight ≤ 516 * l.add-index;
}
