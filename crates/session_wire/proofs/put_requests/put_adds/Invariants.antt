use Rattle.std.proofs.Common.{◌≡◌, ◌++◌, drop}
use Rattle.std.specs.List.{flat_map}
use Rattle.session_wire.specs.Adds.{next_add_text}
use Rattle.session_wire.proofs.put_requests.put_adds.Given as goal

abbrev pub invariant-loop-add : goal.invariant-loop-add
invariant-loop-add l = l.to ++ flat_map next_add_text (drop l.add-index l.adds) ≡ l.initial.to ++ flat_map next_add_text l.adds
