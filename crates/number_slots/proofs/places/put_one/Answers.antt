use Rattle.number_slots.proofs.Kept.{put_slots, put_kept}
use Rattle.number_slots.proofs.places.put_one.Goals as goal

pub returns-clause-kept : goal.returns-clause-kept
returns-clause-kept g c = rw (rw c.unwrap.ensures at c.push.ensures.items) (put_kept c.args.things.now c.place_of-place.new.things c.args.places.now.items c.args.thing c.place_of-place.result c.place_of-place.ensures.put c.requires.few c.requires.kept)

pub returns-clause-put : goal.returns-clause-put
returns-clause-put g c = rw (rw c.unwrap.ensures at c.push.ensures.items) (put_slots c.args.things.now c.place_of-place.new.things c.args.places.now.items c.args.thing c.place_of-place.result c.place_of-place.ensures.put c.requires.kept)
