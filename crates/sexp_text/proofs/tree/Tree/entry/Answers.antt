use Rattle.std.proofs.Common.{arith}
use Rattle.sexp_text.proofs.Entries.{all_counted, entry_fits}
use Rattle.sexp_text.proofs.tree.Tree.entry.Goals as goal

pub get-requires : goal.get-requires
get-requires c = let k = all_counted c.args.self.now.pool c.args.self.now.entries c.args.self.now.laid in let r = c.requires in omega (arith, k, r)

pub returns-clause-fits : goal.returns-clause-fits
returns-clause-fits c = entry_fits c.args.self.now.pool c.args.self.now.entries c.args.n c.get.result.now c.args.self.now.laid c.requires c.get.ensures

pub returns-clause-small : goal.returns-clause-small
returns-clause-small c = let k = all_counted c.args.self.now.pool c.args.self.now.entries c.args.self.now.laid in let s = c.args.self.now.small in omega (arith, k, s)
