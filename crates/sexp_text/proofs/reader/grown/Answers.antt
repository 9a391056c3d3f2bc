use Rattle.std.proofs.Common.{List, sym, subst}
use Rattle.std.proofs.lemmas.Grind.{merely}
use Rattle.sexp_text.specs.declared.cursor.TreeEntry.{TreeEntry}
use Rattle.sexp_text.specs.Nodes.{IsLaid}
use Rattle.sexp_text.proofs.Growing.{laid_built}
use Rattle.sexp_text.proofs.reader.grown.Goals as goal

pub invariant_of-result-clause-laid : goal.invariant_of-result-clause-laid
invariant_of-result-clause-laid c =
    merely (subst (λ (es : List TreeEntry). IsLaid c.in_ok-pool.field-0.pool es) (sym c.into_row.ensures)
    (laid_built c.args.bytes.now c.args.tokens.now c.requires.levels.0 c.in_ok-pool.field-0 c.requires.levels.1 c.in_ok-pool.ensures.built))
