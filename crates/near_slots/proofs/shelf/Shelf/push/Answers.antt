use Rattle.std.proofs.Common.{◌≡◌, ℕ, length, ◌∙◌, subst}
use Rattle.near_slots.specs.Tables.{IsIn}
use Rattle.near_slots.specs.Slots.{spot_of}
use Rattle.near_slots.proofs.SlotLemmas.{HasIds-kept, HasIds-push}
use Rattle.near_slots.proofs.shelf.Shelf.push.Goals as goal

pub invariant_of-self : goal.invariant_of-self
invariant_of-self c = HasIds-kept _ _ _ c.in_err-put.ensures.kept c.self.invariant

pub invariant_of-self-in_err-push : goal.invariant_of-self-in_err-push
invariant_of-self-in_err-push c = rw c.in_err-push.ensures.items (HasIds-kept _ _ _ c.in_ok-put.ensures.kept c.self.invariant)

pub invariant_of-self-2 : goal.invariant_of-self-2
invariant_of-self-2 c =
    let slots = c.self.inside.slots.items in
    let number : c.len.result ≡ length slots = c.len.ensures ∙ c.self.inside.slots.ok.0 in
    rw c.in_ok-push.ensures.items (HasIds-push c.put.new.self slots c.args.filed
    (HasIds-kept _ _ _ c.in_ok-put.ensures.kept c.self.invariant)
    (subst (λ (k : ℕ). IsIn c.put.new.self (spot_of c.args.filed.id k c.args.filed)) number
    (subst (λ (key : ℕ). IsIn c.put.new.self (spot_of key c.len.result c.args.filed)) c.from.ensures c.in_ok-put.ensures.added)))
