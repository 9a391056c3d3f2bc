use Rattle.std.proofs.Common.{◌≡◌, subst, sym}
use Rattle.board_items.specs.declared.requests.Request.{Request}
use Rattle.board_items.specs.declared.requests.Request.TheVariants as requests
use Rattle.board_rules.specs.Reasons.{IsStaticReason}
use Rattle.board_rules.specs.Rules.{under}
use Rattle.board_rules.proofs.design.Design.static_why.Goals as goal

pub returns-in-Edit-clause-reason : goal.returns-in-Edit-clause-reason
returns-in-Edit-clause-reason g c =
    let made : c.args.request.now ≡ requests.Edit c.as_slice.result.now c.as_slice-in-Edit.result.now = cc in
    subst (λ (r : Request). IsStaticReason c.args.self.now.parts (under c.args.rules) c.args.clients r c.edit_why.result) (sym made) (c.edit_why.ensures.reason c.args.clients)

pub returns-in-Fence-clause-reason : goal.returns-in-Fence-clause-reason
returns-in-Fence-clause-reason g c =
    let made : c.args.request.now ≡ requests.Fence c.as_slice-in-Fence.result.now c.as_slice-in-Fence-2.result.now c.as_slice-in-Fence-3.result.now = cc in
    subst (λ (r : Request). IsStaticReason c.args.self.now.parts (under c.args.rules) c.args.clients r c.fence_why.result) (sym made) (c.fence_why.ensures (under c.args.rules))

pub returns-in-Rule-clause-reason : goal.returns-in-Rule-clause-reason
returns-in-Rule-clause-reason g c =
    subst (λ (r : Request). IsStaticReason c.args.self.now.parts (under c.args.rules) c.args.clients r c.rule_why.result) (sym c.in-Rule.is) (c.rule_why.ensures (under c.args.rules) c.args.clients c.in-Rule.clearance)
