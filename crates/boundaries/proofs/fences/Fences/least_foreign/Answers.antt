use Rattle.boundaries.proofs.fences.Fences.least_foreign.Goals as goal

pub returns-clause-least : goal.returns-clause-least
returns-clause-least g c = rw (← c.self.view_is) (rw c.as_slice.ensures.value at c.least_foreign.ensures.least)
