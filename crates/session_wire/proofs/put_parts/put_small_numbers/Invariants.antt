use Rattle.std.proofs.Common.{◌≡◌, ◌++◌, drop}
use Rattle.std.specs.List.{flat_map}
use Rattle.session_wire.specs.Numbers.{number_text}
use Rattle.session_wire.proofs.put_parts.put_small_numbers.Given as goal

abbrev pub invariant-loop-number : goal.invariant-loop-number
invariant-loop-number l = l.to ++ flat_map number_text (drop l.number-index l.numbers) ≡ l.initial.to ++ flat_map number_text l.numbers
