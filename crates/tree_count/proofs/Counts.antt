-- What a tree's count keeps of what reading gives.
use Rattle.std.proofs.Common.{ℕ, Result, Ok, Err, ap}
use Rattle.sexp_text.specs.Forest.{Forest}
use Rattle.sexp_text.specs.declared.fault.TextFault.{TextFault}
use Rattle.sexp_text.specs.declared.fault.TextFault.TheVariants as faults
use Rattle.sexp_text.specs.Scan.{Gives}
use Rattle.sexp_text.specs.Trees.{tree_forest}
use Rattle.sexp_text.specs.Nodes.{size}

-- the size of what reading gives
abbrev pub sized : Result Forest TextFault → Result ℕ TextFault
sized (Ok f) = Ok (size f)
sized (Err e) = Err e

-- a fault is told of the size as of the tree
pub same_fault : (e : TextFault) (read : Result Forest TextFault) → Gives tree_forest (Err e) read → Gives {X = ℕ} (λ n. n) (Err e) (sized read)
same_fault faults.Memory read h = h
same_fault (faults.Quote at) read h = ap sized h
same_fault (faults.Unclosed at) read h = ap sized h
same_fault (faults.Unopened at) read h = ap sized h
same_fault (faults.Deep at) read h = ap sized h
