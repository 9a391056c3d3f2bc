-- What `lex` promises follows from what is read.
use Rattle.std.proofs.Common.{◌≡◌, ℕ, List, [], Option, Some, None, Result, Ok, Err, refl, sym, ap, subst, ◌∙◌}
use Rattle.std.specs.Prelude.{IfOk, IfErr}
use Rattle.sexp_text.specs.declared.fault.TextFault.{TextFault}
use Rattle.sexp_text.specs.declared.fault.TextFault.TheVariants as faults
use Rattle.sexp_text.specs.declared.token.Token.{Token}
use Rattle.sexp_text.specs.declared.modes.Before.TheVariants.{Other}
use Rattle.sexp_text.specs.declared.modes.Mode.TheVariants as mode
use Rattle.sexp_text.specs.Scan.{scan, Gives, told, tokens_of}
use Rattle.sexp_text.specs.Text.{TokensThen, HasTokens, HasQuoteFault, WhyNoTokens}
use Rattle.sexp_text.proofs.Readings.{Follows}
use Rattle.sexp_text.proofs.Quotes.{tokens_found}
use Rattle.sexp_text.proofs.Lexing.{tokens_read}

abbrev pub given : List Token → Result (List Token) TextFault
given ts = Ok ts

abbrev pub failed : TextFault → Result (List Token) TextFault
failed e = Err e

same_given : (a b : List Token) → given a ≡ given b → a ≡ b
same_given a b e = cc

same_failed : (a b : TextFault) → failed a ≡ failed b → a ≡ b
same_failed a b e = cc

quote_place : (a b : ℕ) → faults.Quote a ≡ faults.Quote b → a ≡ b
quote_place a b e = cc

-- the tokens that a text has are read
pub has_tokens : (text : List ℕ) (ts : List Token) → HasTokens text ts → tokens_of text ≡ given ts
has_tokens text ts h = ap (λ (x : List Token × Option ℕ). told x.0 x.1) (tokens_read text ts None h)

pub has_fault : (text : List ℕ) (at : ℕ) → HasQuoteFault text at → tokens_of text ≡ failed (faults.Quote at)
has_fault text at h = ap (λ (x : List Token × Option ℕ). told x.0 x.1) (tokens_read text h.0 (Some at) h.1)

found_by : (text : List ℕ) (us : List Token) (o : Option ℕ) (ts : List Token) → TokensThen (Follows o) Other 0 us text → told us o ≡ given ts → HasTokens text ts
found_by text us None ts h e = subst (λ (xs : List Token). HasTokens text xs) (same_given us ts e) h
found_by text us (Some at) ts h e = absurd cc

fault_by : (text : List ℕ) (us : List Token) (o : Option ℕ) (f : TextFault) → TokensThen (Follows o) Other 0 us text → told us o ≡ failed f → (at : ℕ) × (f ≡ faults.Quote at) × HasQuoteFault text at
fault_by text us None f h e = absurd cc
fault_by text us (Some at) f h e = (at, sym (same_failed (faults.Quote at) f e), (us, h))

all_read : (text : List ℕ) → TokensThen (Follows (scan [] (mode.Gap Other) 0 text).1) Other 0 (scan [] (mode.Gap Other) 0 text).0 text
all_read text = tokens_found text (scan [] (mode.Gap Other) 0 text).0 (scan [] (mode.Gap Other) 0 text).1 refl

pub is_found : (text : List ℕ) (r : Result (List Token) TextFault) → Gives (λ x. x) r (tokens_of text) → IfOk r (HasTokens text)
is_found text (Ok ts) h = found_by text (scan [] (mode.Gap Other) 0 text).0 (scan [] (mode.Gap Other) 0 text).1 ts (all_read text) h
is_found text (Err e) h = tt

fault_is : (text : List ℕ) (f : TextFault) → tokens_of text ≡ failed f → (at : ℕ) × (f ≡ faults.Quote at) × HasQuoteFault text at
fault_is text f h = fault_by text (scan [] (mode.Gap Other) 0 text).0 (scan [] (mode.Gap Other) 0 text).1 f (all_read text) h

why_not : (text : List ℕ) (e : TextFault) → Gives {X = List Token} (λ (x : List Token). x) (Err e) (tokens_of text) → WhyNoTokens text e
why_not text faults.Memory h = tt
why_not text (faults.Quote at) h = let x = fault_is text (faults.Quote at) h in subst (λ (n : ℕ). HasQuoteFault text n) (sym (quote_place at x.0 x.1)) x.2
why_not text (faults.Unclosed at) h = let x = fault_is text (faults.Unclosed at) h in let k = x.1 in absurd cc
why_not text (faults.Unopened at) h = let x = fault_is text (faults.Unopened at) h in let k = x.1 in absurd cc
why_not text (faults.Deep at) h = let x = fault_is text (faults.Deep at) h in let k = x.1 in absurd cc

pub is_fault : (text : List ℕ) (r : Result (List Token) TextFault) → Gives (λ x. x) r (tokens_of text) → IfErr r (WhyNoTokens text)
is_fault text (Ok ts) h = tt
is_fault text (Err e) h = why_not text e h

-- a text has one list of tokens
pub one_reading : (text : List ℕ) (ts us : List Token) → HasTokens text ts → HasTokens text us → ts ≡ us
one_reading text ts us h k = same_given ts us (sym (has_tokens text ts h) ∙ has_tokens text us k)
