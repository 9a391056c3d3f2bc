use Rattle.near_slots.proofs.TableLemmas.{Keeps-then, HasAll-kept, HasAll-more}
use Rattle.near_slots.proofs.buckets.Buckets.add_all.Goals as goal

pub returns-in_err-add-clause-kept : goal.returns-in_err-add-clause-kept
returns-in_err-add-clause-kept c = Keeps-then _ _ _ c.loop-spot.invariant.kept c.in_err-add.ensures.kept

pub loop-spot-preserved : goal.loop-spot-preserved
loop-spot-preserved c =
    let spots = c.args.spots.now in
    let i = c.loop-spot.spot-index in
    record {
      kept = Keeps-then _ _ _ c.loop-spot.invariant.kept c.in_ok-add.ensures.kept;
      added = HasAll-more _ spots i _ c.loop-spot-test.true
          (HasAll-kept _ _ _ c.in_ok-add.ensures.kept c.loop-spot.invariant.added) c.in_ok-add.ensures.added;
    }
