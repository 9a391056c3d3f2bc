use Rattle.std.proofs.Common.{◌≡◌, ◌∙◌, ℕ, sym, subst}
use Rattle.std.specs.Prelude.{IfOk}
use Rattle.board_rules.specs.Reasons.{IsStaticReason}
use Rattle.check_core.specs.Checking.{Checking}
use Rattle.board_items.specs.declared.requests.Request.TheVariants as requests
use Rattle.check_core.proofs.Finding.{plain_of}
use Rattle.check_core.proofs.checker.Checker.found.Goals as goal

pub returns-in-Edit-clause-plain : goal.returns-in-Edit-clause-plain
returns-in-Edit-clause-plain g c =
    let made : c.args.request.now ≡ requests.Edit c.as_slice-deletes.result.now c.as_slice-adds.result.now = c.in-Edit.is ∙ (λ i. requests.Edit (sym c.as_slice-deletes.ensures i) (sym c.as_slice-adds.ensures i)) in
    plain_of c.args.design.now.parts c.args.self.now.board.rules c.args.clients c.as_slice-deletes.result.now c.as_slice-adds.result.now c.args.request.now c.edit_found.result made
    (subst (λ (x : Checking). IfOk c.edit_found.result (λ f. (n : ℕ) → IsStaticReason c.args.design.now.parts x.board.rules n (requests.Edit c.as_slice-deletes.result.now c.as_slice-adds.result.now) f.plain)) c.self.view_is c.edit_found.ensures.plain)
