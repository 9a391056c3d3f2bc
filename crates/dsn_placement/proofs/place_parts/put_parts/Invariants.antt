use Rattle.std.proofs.Common.{◌≡◌, drop}
use Rattle.dsn_placement.specs.Placements.{ground_of, with_parts}
use Rattle.dsn_placement.proofs.place_parts.put_parts.Given as goal

abbrev pub invariant-loop-part : goal.invariant-loop-part
invariant-loop-part l = with_parts (ground_of l.setting) l.pose l.at l.component l.placement (drop l.part-index l.parts) ≡ with_parts (ground_of l.setting) l.pose l.at l.component l.initial.placement l.parts
