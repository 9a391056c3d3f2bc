use Rattle.session_wire.specs.Numbers.{number_text, IsId}
use Rattle.session_wire.specs.Parts.{AreThen}
use Rattle.session_wire.proofs.deletes.ids_at.Given as goal

abbrev pub invariant-loop-turn : goal.invariant-loop-turn
invariant-loop-turn l = AreThen IsId number_text l._turn l.line l.ids l.rest
