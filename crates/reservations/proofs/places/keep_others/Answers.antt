use Rattle.std.proofs.Common.{rules, ◌≡◌, ◌∙◌, ap}
use Rattle.std.specs.Prelude.{not, ◌==◌}
use Rattle.std.specs.List.{filter}
use Rattle.std.proofs.lemmas.Fn.{filter_same}
use Rattle.reservations.specs.Held.{not_of}
use Rattle.reservations.specs.Places.{pairs_of, is_others}
use Rattle.reservations.proofs.Pairs.{once_left, fewer_left}
use Rattle.reservations.proofs.Taken.{pairs_others}
use Rattle.reservations.proofs.places.keep_others.Goals as goal

pub returns-clause-pairs : goal.returns-clause-pairs
returns-clause-pairs c =
    let before = c.args.places.now.items in
    let kept : c.retain.new.self.items ≡ filter (is_others c.args.client) before = filter_same _ _ _ (λ x b f' k. search rules) _ _ c.retain.ensures.filtered in
    ap pairs_of kept ∙ pairs_others c.args.client before

pub returns-clause-once : goal.returns-clause-once
returns-clause-once c = λ once.
    let before = c.args.places.now.items in
    let left : pairs_of c.retain.new.self.items ≡ not_of c.args.client (pairs_of before) = returns-clause-pairs c in
    rw left (once_left (λ p. not (p.1 == c.args.client)) (pairs_of before) once)

pub returns-clause-fewer : goal.returns-clause-fewer
returns-clause-fewer c =
    let before = c.args.places.now.items in
    let left : pairs_of c.retain.new.self.items ≡ not_of c.args.client (pairs_of before) = returns-clause-pairs c in
    rw left (fewer_left (λ p. not (p.1 == c.args.client)) (pairs_of before))
