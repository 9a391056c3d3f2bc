use Rattle.std.proofs.Common.{◌∙◌, sym, ap, arith, ◌++◌, ◌∷◌, [], List, ℕ}
use Rattle.std.specs.Prelude.{Some}
use Rattle.reservations.proofs.SoFar.{free_so_far, fewer_so_far, same_so_far, more_so_far, count_so_far}
use Rattle.reservations.proofs.held.reserve_all.Goals as goal

pub reserve-requires-clause-free : goal.reserve-requires-clause-free
reserve-requires-clause-free c = rw c.loop-place.invariant.pairs (free_so_far c.args.places.now c.loop-place.place-index c.in-Some.pair c.requires.once c.in-Some.is)

pub reserve-requires-clause-room : goal.reserve-requires-clause-room
reserve-requires-clause-room c = omega (arith, fewer_so_far c.args.places.now c.loop-place.place-index c.in-Some.pair c.in-Some.is, c.loop-place.invariant.room)

pub reserve-requires-clause-few : goal.reserve-requires-clause-few
reserve-requires-clause-few c = rw c.loop-place.invariant.pairs (omega (arith, fewer_so_far c.args.places.now c.loop-place.place-index c.in-Some.pair c.in-Some.is, c.requires.few))

pub loop-place-preserved-in_default : goal.loop-place-preserved-in_default
loop-place-preserved-in_default c =
    let same = same_so_far c.args.places.now c.loop-place.place-index c.loop-place-test.true (sym c.in_default.is) in record {
      pairs = c.loop-place.invariant.pairs ∙ sym same;
      room = rw same c.loop-place.invariant.room;
    }

pub loop-place-preserved : goal.loop-place-preserved
loop-place-preserved c =
    let i = c.loop-place.place-index in
    let more = more_so_far c.args.places.now i (Some c.in-Some.pair) c.loop-place-test.true (sym c.in-Some.is) in record {
      pairs = c.reserve.ensures.pairs ∙ ap (λ (ps : List (ℕ × ℕ)). ps ++ c.in-Some.pair ∷ []) c.loop-place.invariant.pairs ∙ sym more;
      room = omega (arith, count_so_far c.args.places.now i c.in-Some.pair c.loop-place-test.true (sym c.in-Some.is), c.reserve.ensures.room, c.loop-place.invariant.room);
    }
