use Rattle.std.proofs.Common.{rules, ◌≡◌, subst, List}
use Rattle.sexp_text.specs.declared.token.Token.{Token}
use Rattle.sexp_text.specs.declared.modes.Before.TheVariants.{Other}
use Rattle.sexp_text.specs.declared.modes.Mode.TheVariants as mode
use Rattle.sexp_text.specs.Scan.{scan}
use Rattle.sexp_text.proofs.Bulk.{text_small}
use Rattle.sexp_text.proofs.reader.tree_of.Goals as goal

pub grown-requires-clause-few : goal.grown-requires-clause-few
grown-requires-clause-few c =
    let read = subst (λ (ts : List Token). scan ts (mode.Gap Other) 0 c.args.bytes.now ≡ (c.steps.new.tokens, c.in_ok-quote.quote)) c.new-tokens.ensures c.in_ok-quote.ensures in
    let small = text_small c.args.bytes.now c.steps.new.tokens c.in_ok-quote.quote read c.requires in
    search (rules, small)
