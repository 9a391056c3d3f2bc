use Rattle.boundaries.specs.Costs.{boundary_most}
use Rattle.boundaries.proofs.live.Live.is_touched.Goals as goal

pub returns-clause-cost : goal.returns-clause-cost
unfolding boundary_most
returns-clause-cost g c = rw (← c.self.view_is) (rw (c.as_slice.ensures, c.as_slice-2.ensures) at c.touches_area.ensures.cost)

pub returns-clause-touches : goal.returns-clause-touches
returns-clause-touches g c = rw (← c.self.view_is) (rw (c.as_slice.ensures, c.as_slice-2.ensures) at c.touches_area.ensures.touches)
