use Rattle.dsn_lists.proofs.Whole.{is_found, is_fault, is_given}
use Rattle.dsn_placement.proofs.PlacementWhole.{has_found, has_again, why_found, why_again}
use Rattle.dsn_placement.proofs.PlaceFits.{fit_if_given}
use Rattle.dsn_placement.proofs.FitShapes.{fit_shapes}
use Rattle.dsn_placement.proofs.placement.read_placement.Goals as goal

pub returns-clause-found : goal.returns-clause-found
returns-clause-found c = is_found _ _ c.section.result (has_found _ _ _) c.section.ensures

pub returns-clause-only : goal.returns-clause-only
returns-clause-only c = λ x h. is_given c.section.result _ _ c.section.ensures (has_again _ _ _ x h)

pub returns-clause-fault : goal.returns-clause-fault
returns-clause-fault c = is_fault _ _ c.section.result tt (why_found _ _ _) c.section.ensures

pub returns-clause-first : goal.returns-clause-first
returns-clause-first c = λ e h. is_given c.section.result _ _ c.section.ensures (why_again _ _ _ e h)

pub returns-clause-fit : goal.returns-clause-fit
returns-clause-fit c = fit_if_given _ _ _ c.section.result c.section.ensures (fit_shapes _ _ c.requires.library)
