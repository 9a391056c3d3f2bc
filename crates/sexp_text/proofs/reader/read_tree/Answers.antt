use Rattle.std.proofs.Common.{subst, Result}
use Rattle.sexp_text.specs.Forest.{Forest}
use Rattle.sexp_text.specs.declared.fault.TextFault.{TextFault}
use Rattle.sexp_text.specs.Scan.{Gives}
use Rattle.sexp_text.specs.Trees.{tree_forest}
use Rattle.sexp_text.proofs.FirstFaults.{tree_again, fault_again}
use Rattle.sexp_text.proofs.TreeClauses.{is_tree, is_no_tree}
use Rattle.sexp_text.proofs.reader.read_tree.Goals as goal

pub returns-clause-found : goal.returns-clause-found
returns-clause-found c = is_tree c.args.bytes.now c.tree_of.result c.tree_of.ensures

pub returns-clause-only : goal.returns-clause-only
returns-clause-only c = λ f h. subst (λ (x : Result Forest TextFault). Gives tree_forest c.tree_of.result x) (tree_again c.args.bytes.now f h) c.tree_of.ensures

pub returns-clause-fault : goal.returns-clause-fault
returns-clause-fault c = is_no_tree c.args.bytes.now c.tree_of.result c.tree_of.ensures

pub returns-clause-first : goal.returns-clause-first
returns-clause-first c = λ e h. subst (λ (x : Result Forest TextFault). Gives tree_forest c.tree_of.result x) (fault_again c.args.bytes.now e h) c.tree_of.ensures
