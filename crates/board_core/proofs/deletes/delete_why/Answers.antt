use Rattle.std.proofs.Common.{◌≡◌, true, false, inl, inr, refl, sym, ap, ◌∙◌}
use Rattle.board_items.specs.Adds.{is_fixed}
use Rattle.number_slots.specs.Slots.{is_among}
use Rattle.board_core.specs.Reasons.{IsFixedAt}
use Rattle.board_core.proofs.deletes.delete_why.Goals as goal

pub returns-then-is_fixed : goal.returns-then-is_fixed
returns-then-is_fixed c =
    let first : is_among c.args.id c.args.before.now ≡ false = sym c.contains.ensures.value ∙ c.if-contains.false in
    let fixed : is_fixed c.in-Some.item.now ≡ true = sym (rw c.view.ensures at c.is_fixed.ensures) ∙ c.if-is_fixed.true in
    inr ((λ e. absurd cc), inr ((λ dead. dead (c.in-Some.item.now, c.in-Some.ensures.some)), inl ((c.in-Some.item.now, c.in-Some.ensures.some, fixed), refl)))

pub returns : goal.returns
returns c =
    let first : is_among c.args.id c.args.before.now ≡ false = sym c.contains.ensures.value ∙ c.if-contains.false in
    let loose : is_fixed c.in-Some.item.now ≡ false = sym (rw c.view.ensures at c.is_fixed.ensures) ∙ c.if-is_fixed.false in
    let fixed = λ (f : IsFixedAt c.args.board.now.live c.args.id).
    let same : c.in-Some.item.now ≡ f.0 = sym (c.in-Some.ensures.only f.0 f.1) in
    let wrong : is_fixed c.in-Some.item.now ≡ true = ap is_fixed same ∙ f.2 in
    absurd cc in
    inr ((λ e. absurd cc), inr ((λ dead. dead (c.in-Some.item.now, c.in-Some.ensures.some)), inr (fixed, refl)))
