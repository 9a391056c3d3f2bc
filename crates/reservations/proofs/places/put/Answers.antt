use Rattle.std.proofs.Common.{rules, arith, ◌≡◌, ◌++◌, ◌∷◌, [], ◌+◌, length, ap, ◌∙◌, length-append}
use Rattle.std.specs.Prelude.{nat_eq, None, Some}
use Rattle.indexmap.specs.IndexMap.{get, index_map_len}
use Rattle.reservations.specs.Places.{pairs_of}
use Rattle.reservations.proofs.Put.{index_more, pairs_join}
use Rattle.reservations.proofs.Found.{free_lost}
use Rattle.reservations.proofs.places.put.Goals as goal

pub returns-clause-kept : goal.returns-clause-kept
returns-clause-kept c =
    let before = c.args.places.now.items in
    let put : c.push.new.self.items ≡ before ++ Some (c.args.id, c.args.client) ∷ [] = rw c.unwrap.ensures at c.push.ensures.items in
    let lost : get nat_eq c.args.index.now c.args.id ≡ None = free_lost (get nat_eq c.args.index.now) before c.args.id c.requires.kept.index c.requires.free in
    let more : length (pairs_of c.push.new.self.items) ≡ length (pairs_of before) + 1 = ap (λ ps. length (pairs_of ps)) put ∙ ap length (pairs_join before (Some (c.args.id, c.args.client) ∷ [])) ∙ length-append (pairs_of before) ((c.args.id, c.args.client) ∷ []) in
    let none : c.unwrap-2.result ≡ None = (rw c.unwrap-2.ensures at c.insert.ensures.old) ∙ lost in
    let grown : index_map_len c.insert.new.self ≡ index_map_len c.args.index.now + 1 = rw none at (rw c.unwrap-2.ensures at c.insert.ensures.len) in
    record {
      index = rw put (index_more (get nat_eq c.args.index.now) (get nat_eq c.insert.new.self) before c.args.id c.args.client c.requires.kept.index lost (search rules));
      count = omega (arith, more, grown, c.requires.kept.count);
      few = omega (arith, more, c.requires.few);
    }

pub returns-clause-pairs : goal.returns-clause-pairs
returns-clause-pairs c =
    let before = c.args.places.now.items in
    let put : c.push.new.self.items ≡ before ++ Some (c.args.id, c.args.client) ∷ [] = rw c.unwrap.ensures at c.push.ensures.items in
    ap pairs_of put ∙ pairs_join before (Some (c.args.id, c.args.client) ∷ [])
