use Rattle.std.proofs.Common.{rules, ◌≡◌, [], ◌∷◌, map, subst}
use Rattle.std.specs.Prelude.{Contains}
use Rattle.std.specs.List.{AllByRecursion}
use Rattle.turn_lock.specs.declared.tests.Entry.{Entry}
use Rattle.turn_lock.specs.Closed.{seats_of}
use Rattle.turn_lock.proofs.tests.add_in_two.Goals as goal

pub returns-clause-no_other : goal.returns-clause-no_other
returns-clause-no_other g c = let numbers : map (λ e. e.number) (seats_of c.join.new.seat) ≡ 0 ∷ 1 ∷ [] = search rules in
    subst (λ ns. AllByRecursion (λ (e : Entry). Contains ns e.seat) c.close-numbers.result.entries.items) numbers c.close-numbers.ensures.no_other
