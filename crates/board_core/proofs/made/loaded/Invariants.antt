use Rattle.std.proofs.Common.{◌≡◌, ◌++◌, drop, map, Some}
use Rattle.board_core.proofs.made.loaded.Given as goal

-- The slots of the items so far, and those of the items that are left, are all.
abbrev pub invariant-loop-item : goal.invariant-loop-item
invariant-loop-item l = l.made.items ++ map Some (drop l.item-index l.items) ≡ map Some l.items
