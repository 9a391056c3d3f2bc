use Rattle.std.proofs.Common.{rules, ◌≡◌, List, ◌∷◌, [], ◌++◌, Result, Ok, sym, ap, ◌∙◌, arith}
use Rattle.sexp_text.specs.declared.fault.TextFault.{TextFault}
use Rattle.sexp_text.specs.declared.token.Token.{Token}
use Rattle.sexp_text.specs.declared.builder.Builder.{Builder}
use Rattle.sexp_text.specs.Tree.{text_of}
use Rattle.sexp_text.specs.Build.{◌>>=◌, put, build, bulk}
use Rattle.sexp_text.proofs.Planted.{build_snoc}
use Rattle.sexp_text.proofs.Bulk.{bulk_snoc, put_small, text_short}
use Rattle.sexp_text.proofs.builder.put_all.Goals as goal

pub put-requires : goal.put-requires
put-requires c =
    let e : c.tokens.rest.now ≡ c.in-Some.front.now ++ c.in-Some.token.now ∷ [] = search rules in
    omega (arith, ap bulk e, bulk_snoc c.in-Some.front.now c.in-Some.token.now, c.tokens.invariant.1)

pub tokens-preserved : goal.tokens-preserved
tokens-preserved c =
    let t = c.in-Some.token.now in
    let front = c.in-Some.front.now in
    let text = c.args.text.now in
    let e : c.tokens.rest.now ≡ front ++ t ∷ [] = search rules in
    let p : put t.kind t.start (text_of text t) c.tokens.b ≡ Ok c.put.new.b = c.in_ok-put.ensures in (
      ap (λ (r : Result Builder TextFault). r >>= λ b. build text front b) (sym p) ∙ sym (build_snoc text front t c.tokens.b)
          ∙ ap (λ (ts : List Token). build text ts c.tokens.b) (sym e) ∙ c.tokens.invariant.0,
      omega (arith, ap bulk e, bulk_snoc front t, c.tokens.invariant.1, put_small t.kind t.start (text_of text t) c.tokens.b c.put.new.b p, text_short text t),
    )
