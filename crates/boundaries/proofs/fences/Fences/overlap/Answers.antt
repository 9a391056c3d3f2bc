use Rattle.boundaries.proofs.fences.Fences.overlap.Goals as goal

pub returns-clause-least : goal.returns-clause-least
returns-clause-least g c = rw (← c.self.view_is) (rw (c.as_slice.ensures.value, c.as_slice-2.ensures, c.as_slice-3.ensures) at c.least_overlapped.ensures.least)
