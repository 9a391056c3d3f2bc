use Rattle.boundaries.proofs.Saved.{touching_at_most, overlapping_at_most}
use Rattle.boundaries.proofs.laws.boxes_only_save_steps.Goals as goal

pub returns-clause-touching : goal.returns-clause-touching
returns-clause-touching c = touching_at_most

pub returns-clause-overlapping : goal.returns-clause-overlapping
returns-clause-overlapping c = overlapping_at_most
