use Rattle.std.proofs.lemmas.Fn.{filter_same}
use Rattle.row_lists.proofs.row.Row.retain.Goals as goal

pub returns : goal.returns
returns g c = λ test computes. rw (← c.self.view_is) (filter_same _ test _ computes _ _ c.retain.ensures.filtered)
