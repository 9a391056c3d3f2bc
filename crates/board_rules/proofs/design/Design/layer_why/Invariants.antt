use Rattle.std.proofs.Common.{drop}
use Rattle.std.specs.Prelude.{Option}
use Rattle.board_items.specs.declared.history.Why.{Why}
use Rattle.board_rules.specs.Reasons.{IsLayerReason}
use Rattle.board_rules.proofs.design.Design.layer_why.Given as goal

-- What the layers that are left give is what all give.
abbrev pub invariant-loop-layer : goal.invariant-loop-layer
invariant-loop-layer l = (why : Option Why) → IsLayerReason l.self.parts (drop l.layer-index l.layers) why → IsLayerReason l.self.parts l.layers why
