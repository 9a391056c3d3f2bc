use Rattle.std.proofs.Common.{subst, Result, List}
use Rattle.sexp_text.specs.declared.fault.TextFault.{TextFault}
use Rattle.sexp_text.specs.declared.token.Token.{Token}
use Rattle.sexp_text.specs.Scan.{Gives}
use Rattle.sexp_text.proofs.Clauses.{has_tokens, has_fault, is_found, is_fault}
use Rattle.sexp_text.proofs.lexer.lex.Goals as goal

pub returns-clause-found : goal.returns-clause-found
returns-clause-found c = is_found c.args.bytes.now c.all.result c.all.ensures

pub returns-clause-only : goal.returns-clause-only
returns-clause-only c = λ ts h. subst (λ (x : Result (List Token) TextFault). Gives (λ (s : List Token). s) c.all.result x) (has_tokens c.args.bytes.now ts h) c.all.ensures

pub returns-clause-fault : goal.returns-clause-fault
returns-clause-fault c = is_fault c.args.bytes.now c.all.result c.all.ensures

pub returns-clause-first : goal.returns-clause-first
returns-clause-first c = λ at h. subst (λ (x : Result (List Token) TextFault). Gives (λ (s : List Token). s) c.all.result x) (has_fault c.args.bytes.now at h) c.all.ensures
