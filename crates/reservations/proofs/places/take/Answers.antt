use Rattle.std.proofs.Common.{rules, arith, ◌≡◌, sym, ap, ◌+◌, length}
use Rattle.std.specs.Prelude.{nat_eq, Some}
use Rattle.indexmap.specs.IndexMap.{get, index_map_len}
use Rattle.reservations.specs.Held.{released}
use Rattle.reservations.specs.Places.{pairs_of}
use Rattle.reservations.proofs.Found.{lost_free, found_within}
use Rattle.reservations.proofs.Taken.{free_stays, index_less, pairs_less, held_count}
use Rattle.reservations.proofs.places.take.Goals as goal

pub returns-in_default-clause-pairs : goal.returns-in_default-clause-pairs
returns-in_default-clause-pairs c =
    let free = lost_free (get nat_eq c.args.index.now) c.args.places.now.items c.args.id c.requires.index (search rules) in
    sym (free_stays c.args.id (pairs_of c.args.places.now.items) free)

pub index_mut-requires : goal.index_mut-requires
index_mut-requires c =
    let found : get nat_eq c.args.index.now c.args.id ≡ Some c.in-Some.place = search rules in
    let within = found_within (get nat_eq c.args.index.now) c.args.places.now.items c.args.id c.in-Some.place c.requires.index found in
    search rules

pub returns-clause-kept : goal.returns-clause-kept
returns-clause-kept c =
    let f = get nat_eq c.args.index.now in
    let places = c.args.places.now.items in
    let found : get nat_eq c.args.index.now c.args.id ≡ Some c.in-Some.place = search rules in
    let fewer : length (released c.args.id (pairs_of places)) + 1 ≡ length (pairs_of places) = held_count f places c.args.id c.in-Some.place c.requires.index found in
    let left = pairs_less f places c.args.id c.in-Some.place c.requires.index found in
    let one : index_map_len c.swap_remove.new.self + 1 ≡ index_map_len c.args.index.now = rw c.in-Some.is at c.swap_remove.ensures.len in
    record {
      index = index_less f (get nat_eq c.swap_remove.new.self) places c.args.id c.in-Some.place c.requires.index found (search rules);
      count = omega (arith, one, fewer, ap length left, c.requires.count);
      few = rw left (omega (arith, fewer, c.requires.few));
    }

pub returns-clause-pairs : goal.returns-clause-pairs
returns-clause-pairs c =
    let found : get nat_eq c.args.index.now c.args.id ≡ Some c.in-Some.place = search rules in
    pairs_less (get nat_eq c.args.index.now) c.args.places.now.items c.args.id c.in-Some.place c.requires.index found
