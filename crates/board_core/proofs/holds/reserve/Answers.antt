use Rattle.std.proofs.Common.{◌≡◌, ◌∙◌, ◌++◌, ◌∷◌, [], ap, sym, List, ℕ, false, Bor}
use Rattle.board_items.specs.declared.items.Item.{Item}
use Rattle.number_slots.specs.Slots.{there, IsAt}
use Rattle.reservations.specs.Held.{is_held}
use Rattle.board_core.proofs.Released.{none_told, some_told, reserved_gone, reserved_free}
use Rattle.board_core.proofs.holds.reserve.Goals as goal

pub returns-then-is_none-clause-ok : goal.returns-then-is_none-clause-ok
returns-then-is_none-clause-ok c =
    let none = none_told c.at.result c.if-is_none.ensures c.at.ensures.none in
    reserved_gone (there 1 c.args.items.now) c.args.held.now.pairs c.args.id.0 c.args.client (λ t. none t.0 t.1)

pub returns-clause-ok : goal.returns-clause-ok
returns-clause-ok c =
    let live = there 1 c.args.items.now in
    let here = some_told (λ (x : Bor Item). IsAt live c.args.id.0 x.now) c.at.result c.if-is_none.ensures c.at.ensures.some in
    let free : is_held c.args.id.0 c.args.held.now.pairs ≡ false = c.holder.ensures.held ∙ sym c.if-is_some.ensures in
    c.reserve.ensures.pairs ∙ ap (λ (xs : List (ℕ × ℕ)). xs ++ (c.args.id.0, c.args.client) ∷ []) c.in_ok-make_room.ensures.same ∙ reserved_free live c.args.held.now.pairs c.args.id.0 c.args.client here.0.now here.1 free
