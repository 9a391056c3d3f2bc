-- What `read_tree` promises follows from the forest that is read.
use Rattle.std.proofs.Common.{◌≡◌, ℕ, List, Result, Ok, Err, subst}
use Rattle.std.specs.Prelude.{IfOk, IfErr}
use Rattle.sexp_text.specs.Forest.{Forest}
use Rattle.sexp_text.specs.declared.fault.TextFault.{TextFault}
use Rattle.sexp_text.specs.declared.fault.TextFault.TheVariants as faults
use Rattle.sexp_text.specs.declared.tree.Tree.{Tree}
use Rattle.sexp_text.specs.Scan.{Gives}
use Rattle.sexp_text.specs.Tree.{IsTree, WhyNoTree}
use Rattle.sexp_text.specs.Build.{forest_of}
use Rattle.sexp_text.specs.Trees.{tree_forest}
use Rattle.sexp_text.proofs.FirstFaults.{Meets, forest_met}

meets : (text : List ℕ) (r : Result Forest TextFault) → forest_of text ≡ r → Meets text r
meets text r e = subst (λ (x : Result Forest TextFault). Meets text x) e (forest_met text)

pub is_tree : (text : List ℕ) (r : Result Tree TextFault) → Gives tree_forest r (forest_of text) → IfOk r (λ t. IsTree text (tree_forest t))
is_tree text (Ok t) h = meets text (Ok (tree_forest t)) h
is_tree text (Err e) h = tt

why_not : (text : List ℕ) (e : TextFault) → Gives {X = Tree} tree_forest (Err e) (forest_of text) → WhyNoTree text e
why_not text faults.Memory h = tt
why_not text (faults.Quote at) h = meets text (Err (faults.Quote at)) h
why_not text (faults.Unclosed at) h = meets text (Err (faults.Unclosed at)) h
why_not text (faults.Unopened at) h = meets text (Err (faults.Unopened at)) h
why_not text (faults.Deep at) h = meets text (Err (faults.Deep at)) h

pub is_no_tree : (text : List ℕ) (r : Result Tree TextFault) → Gives tree_forest r (forest_of text) → IfErr r (WhyNoTree text)
is_no_tree text (Ok t) h = tt
is_no_tree text (Err e) h = why_not text e h
