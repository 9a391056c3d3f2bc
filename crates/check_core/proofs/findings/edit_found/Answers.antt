use Rattle.std.proofs.Common.{ℕ, List, subst}
use Rattle.std.specs.Prelude.{Option}
use Rattle.board_items.specs.declared.requests.Request.TheVariants as requests
use Rattle.board_rules.specs.Reasons.{IsStaticReason}
use Rattle.check_core.proofs.findings.edit_found.Goals as goal

pub returns-clause-plain : goal.returns-clause-plain
returns-clause-plain g c =
    subst (λ (rules : List (Option ℕ)). (clients : ℕ) → IsStaticReason c.args.design.now.parts rules clients (requests.Edit c.args.deletes.now c.args.adds.now) c.edit_plain-plain.result) c.rules_of.ensures.rules c.edit_plain-plain.ensures.reason
