use Rattle.std.proofs.Common.{rules, ◌≡◌, ◌∙◌, ◌+◌, sym, ap, subst, arith, take, length, ℕ}
use Rattle.std.specs.Prelude.{nat_eq, None, Some}
use Rattle.indexmap.specs.IndexMap.{get, index_map_len}
use Rattle.reservations.proofs.Put.{IsUpdate, index_same, index_more}
use Rattle.reservations.proofs.Found.{free_lost}
use Rattle.reservations.proofs.SoFar.{take_on, take_length, free_so_far, fewer_so_far, same_so_far, count_so_far}
use Rattle.reservations.proofs.places.reindex.Goals as goal

pub loop-i-preserved-in_default : goal.loop-i-preserved-in_default
loop-i-preserved-in_default c =
    let places = c.args.places.now in
    let i = c.loop-i.i in
    let known = c.loop-i.invariant in
    let on = take_on places i None c.loop-i-test.true (sym c.in_default.is) in
    let same = same_so_far places i c.loop-i-test.true (sym c.in_default.is) in record {
      index = rw on (index_same (get nat_eq c.loop-i.index) (take i places) known.index);
      count = known.count ∙ ap length (sym same);
      spare = known.spare;
    }

pub unwrap-requires : goal.unwrap-requires
unwrap-requires c =
    let known = c.loop-i.invariant in
    c.insert.ensures.succeeds (omega (arith, fewer_so_far c.args.places.now c.loop-i.i c.in-Some.pair c.in-Some.is, known.count, known.spare, c.requires.room))

pub loop-i-preserved : goal.loop-i-preserved
loop-i-preserved c =
    let places = c.args.places.now in
    let i = c.loop-i.i in
    let pair = c.in-Some.pair in
    let known = c.loop-i.invariant in
    let f = get nat_eq c.loop-i.index in
    let g = get nat_eq c.insert.new.self in
    let on = take_on places i (Some pair) c.loop-i-test.true (sym c.in-Some.is) in
    let free = free_so_far places i pair c.requires.once c.in-Some.is in
    let lost : get nat_eq c.loop-i.index pair.0 ≡ None = free_lost f (take i places) pair.0 known.index free in
    let up : IsUpdate f g pair.0 (Some i) = search rules in
    let here : IsUpdate f g pair.0 (Some (length (take i places))) = subst (λ (n : ℕ). IsUpdate f g pair.0 (Some n)) (sym (take_length places i c.loop-i.auto.i-end)) up in
    let none : c.unwrap.result ≡ None = (rw c.unwrap.ensures at c.insert.ensures.old) ∙ lost in
    let grown : index_map_len c.insert.new.self ≡ index_map_len c.loop-i.index + 1 = rw none at (rw c.unwrap.ensures at c.insert.ensures.len) in record {
      index = rw on (index_more f g (take i places) pair.0 pair.1 known.index lost here);
      count = omega (arith, grown, known.count, count_so_far places i pair c.loop-i-test.true (sym c.in-Some.is));
      spare = omega (arith, grown, known.spare, c.insert.ensures.spare);
    }
