use Rattle.std.proofs.Common.{drop}
use Rattle.std.specs.Prelude.{Option}
use Rattle.board_items.specs.declared.history.Why.{Why}
use Rattle.board_rules.specs.Reasons.{IsClientReason}
use Rattle.board_rules.proofs.fences.client_why.Given as goal

-- What the clients that are left give is what all give.
abbrev pub invariant-loop-client : goal.invariant-loop-client
invariant-loop-client l = (why : Option Why) → IsClientReason l.clients (drop l.client-index l.entitled) why → IsClientReason l.clients l.entitled why
