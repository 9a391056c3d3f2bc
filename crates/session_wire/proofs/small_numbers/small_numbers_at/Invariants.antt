use Rattle.session_wire.specs.Numbers.{number_text, IsSmall}
use Rattle.session_wire.specs.Parts.{AreThen}
use Rattle.session_wire.proofs.small_numbers.small_numbers_at.Given as goal

abbrev pub invariant-loop-turn : goal.invariant-loop-turn
invariant-loop-turn l = AreThen IsSmall number_text l._turn l.line l.numbers l.rest
