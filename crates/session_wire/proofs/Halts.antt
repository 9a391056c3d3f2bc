-- What the errors of readers say of a longer line.
use Rattle.std.proofs.Common.{◌≡◌, ℕ, List, Result, Ok, Err, sym, subst}
use Rattle.std.specs.Prelude.{IfErr}
use Rattle.std.specs.Result.{IsErrAnd}
use Rattle.session_wire.specs.declared.faults.Halt.{Halt}
use Rattle.session_wire.specs.declared.faults.Halt.TheVariants.{Left, Memory}
use Rattle.session_wire.specs.Parts.{StopsAt, WhyHalts}

-- what a `?` hands on
pub err_is : {T E : Type 0} (r : Result T E) (x : E) (P : E → Type 0) → IsErrAnd r (λ e. e ≡ x) → P x → IfErr r P
err_is (Ok v) x P h p = tt
err_is (Err e) x P h p = subst P (sym h) p

halts : {Is Js : List ℕ → Type 0} {line rest : List ℕ} (h : Halt) → WhyHalts Js rest h → ((left : ℕ) → StopsAt Js rest left → StopsAt Is line left) → WhyHalts Is line h
halts (Left left) w longer = longer left w
halts Memory w longer = tt

-- a count of bytes that a `?` hands on
pub handed_count : {T : Type 0} {Is : List ℕ → Type 0} {line : List ℕ} (r : Result T Halt) (left : ℕ) → IsErrAnd r (λ e. e ≡ Left left) → StopsAt Is line left → IfErr r (WhyHalts Is line)
handed_count {T} {Is} {line} r left h s = err_is r (Left left) (WhyHalts Is line) h s

-- a halt that a `?` hands on
pub handed_halt : {T : Type 0} {Is Js : List ℕ → Type 0} {line rest : List ℕ} (r : Result T Halt) (h : Halt) → IsErrAnd r (λ e. e ≡ h) → WhyHalts Js rest h → ((left : ℕ) → StopsAt Js rest left → StopsAt Is line left) → IfErr r (WhyHalts Is line)
handed_halt {T = T} {Is = Is} {Js = Js} {line = line} {rest = rest} r h same w longer = err_is r h (WhyHalts Is line) same (halts {Is = Is} {Js = Js} {line = line} {rest = rest} h w longer)

-- a halt that is handed on as it is
pub same_halt : {T : Type 0} {Is Js : List ℕ → Type 0} {line rest : List ℕ} (r : Result T Halt) → IfErr r (WhyHalts Js rest) → ((left : ℕ) → StopsAt Js rest left → StopsAt Is line left) → IfErr r (WhyHalts Is line)
same_halt (Ok x) w longer = tt
same_halt {T} {Is} {Js} {line} {rest} (Err h) w longer = halts {Is = Is} {Js = Js} {line = line} {rest = rest} h w longer

-- a count of bytes that is handed on as it is
pub same_count : {T : Type 0} {Is Js : List ℕ → Type 0} {line rest : List ℕ} (r : Result T ℕ) → IfErr r (StopsAt Js rest) → ((left : ℕ) → StopsAt Js rest left → StopsAt Is line left) → IfErr r (StopsAt Is line)
same_count (Ok x) w longer = tt
same_count (Err left) w longer = longer left w
