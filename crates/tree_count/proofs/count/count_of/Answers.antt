use Rattle.std.proofs.Common.{Ok, ap, sym, ◌∙◌}
use Rattle.tree_count.proofs.Counts.{sized, same_fault}
use Rattle.tree_count.proofs.count.count_of.Goals as goal

pub returns-in-Ok-clause-only : goal.returns-in-Ok-clause-only
returns-in-Ok-clause-only c = λ f h. ap sized (c.in-Ok.ensures.only f h) ∙ ap Ok (sym c.count.ensures)

pub returns-in-Err-clause-only : goal.returns-in-Err-clause-only
returns-in-Err-clause-only c = λ f h. same_fault c.in-Err.fault (Ok f) (c.in-Err.ensures.only f h)
