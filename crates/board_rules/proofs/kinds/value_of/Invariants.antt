use Rattle.std.proofs.Common.{◌≡◌, drop}
use Rattle.board_rules.specs.Classes.{or_else, value_of}
use Rattle.board_rules.proofs.kinds.value_of.Given as goal

-- What the statements that are left give, and then what is found, is what all give.
abbrev pub invariant-loop-row : goal.invariant-loop-row
invariant-loop-row l = or_else (value_of l.what (drop l.row-index l.rows)) l.found ≡ value_of l.what l.rows
