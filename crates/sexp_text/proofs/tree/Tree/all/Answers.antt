use Rattle.std.proofs.Common.{refl}
use Rattle.sexp_text.specs.Shows.{forest}
use Rattle.sexp_text.proofs.tree.Tree.all.Goals as goal

pub returns : goal.returns
unfolding forest
returns c = rw (c.as_slice.ensures, c.as_slice-2.ensures) refl
