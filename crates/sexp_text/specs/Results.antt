-- What a call returned, against what reading gives.
-- Cited by: `lex`, `read_tree`.
use Rattle.std.specs.Prelude.{◌≡◌, Result, Ok, Err}
use Rattle.sexp_text.specs.declared.fault.TextFault.{TextFault}
use Rattle.sexp_text.specs.declared.fault.TextFault.TheVariants as faults

-- what was returned is what reading gives, unless memory ran out
abbrev pub Gives : {X Y : Type 0} → (X → Y) → Result X TextFault → Result Y TextFault → Type 0
Gives view (Ok x) read = read ≡ Ok (view x)
Gives view (Err faults.Memory) read = Unit {0}
Gives view (Err (faults.Quote at)) read = read ≡ Err (faults.Quote at)
Gives view (Err (faults.Unclosed at)) read = read ≡ Err (faults.Unclosed at)
Gives view (Err (faults.Unopened at)) read = read ≡ Err (faults.Unopened at)
Gives view (Err (faults.Deep at)) read = read ≡ Err (faults.Deep at)

infixl 10 ◌>>=◌
-- the second reading of what the first gives, or the fault of the first
abbrev pub ◌>>=◌ : {A B : Type 0} → Result A TextFault → (A → Result B TextFault) → Result B TextFault
(Ok x) >>= f = f x
(Err e) >>= f = Err e
