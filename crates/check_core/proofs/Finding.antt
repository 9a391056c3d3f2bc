-- What is found of an edit is found of the request that it is.
use Rattle.std.proofs.Common.{◌≡◌, ℕ, List, sym, subst}
use Rattle.std.specs.Prelude.{Option, Result, Ok, Err, IfOk}
use Rattle.board_items.specs.declared.requests.Add.{Add}
use Rattle.board_items.specs.declared.requests.Request.{Request}
use Rattle.board_items.specs.declared.requests.Request.TheVariants as requests
use Rattle.board_rules.specs.declared.design.Parts.{Parts}
use Rattle.board_rules.specs.Reasons.{IsStaticReason}
use Rattle.check_core.specs.declared.findings.Found.{Found}

pub plain_of : {E : Type 0} (p : Parts) (rules : List (Option ℕ)) (clients : ℕ) (deletes : List ℕ) (adds : List Add) (request : Request) (r : Result Found E) → request ≡ requests.Edit deletes adds
    → IfOk r (λ f. (n : ℕ) → IsStaticReason p rules n (requests.Edit deletes adds) f.plain) → IfOk r (λ f. IsStaticReason p rules clients request f.plain)
plain_of p rules clients deletes adds request (Ok f) is h = subst (λ (q : Request). IsStaticReason p rules clients q f.plain) (sym is) (h clients)
plain_of p rules clients deletes adds request (Err e) is h = tt
