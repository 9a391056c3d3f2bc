use Rattle.std.proofs.Common.{◌∙◌}
use Rattle.sexp_text.proofs.Entries.{all_counted}
use Rattle.sexp_text.proofs.tree.Tree.count.Goals as goal

pub returns : goal.returns
returns c = c.len.ensures ∙ all_counted c.args.self.now.pool c.args.self.now.entries c.args.self.now.laid
