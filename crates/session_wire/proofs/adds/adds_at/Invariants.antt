use Rattle.board_items.specs.Formed.{IsFormedAdd}
use Rattle.session_wire.specs.Adds.{next_add_text}
use Rattle.session_wire.specs.Parts.{AreThen}
use Rattle.session_wire.proofs.adds.adds_at.Given as goal

abbrev pub invariant-loop-turn : goal.invariant-loop-turn
invariant-loop-turn l = AreThen IsFormedAdd next_add_text l._turn l.line l.adds l.rest
