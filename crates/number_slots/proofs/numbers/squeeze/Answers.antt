use Rattle.std.proofs.Common.{rules, ◌≡◌, sym, subst, List, ℕ}
use Rattle.std.specs.List.{filter}
use Rattle.std.proofs.lemmas.Fn.{filter_same}
use Rattle.number_slots.specs.Places.{is_taken, IsWalk}
use Rattle.number_slots.proofs.Walks.{squeezed}
use Rattle.number_slots.proofs.numbers.squeeze.Goals as goal

pub returns-clause-walk : goal.returns-clause-walk
returns-clause-walk g c =
    let s = c.args.things.now in
    let places = c.args.places.now in
    let before = c.args.numbers.now.items in
    let kept : c.retain.new.self.items ≡ filter (is_taken places) before = filter_same _ _ _ (λ x b f' k. search rules) _ _ c.retain.ensures.filtered in
    subst (λ (ns : List ℕ). IsWalk ns places s) (sym kept) (squeezed s places before c.requires.kept c.requires.all c.requires.given)
