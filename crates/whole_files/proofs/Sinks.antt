-- What a sink was given over several calls.
use Rattle.std.proofs.Common.{◌≡◌, ◌==◌, ℕ, false, ◌<◌, List, [], ◌∷◌, ◌++◌, length, take, Option, Some, None, Err, refl, sym, ap, ◌∙◌, append_assoc, arith, length-append}
use Rattle.std.specs.Io.KnownBytes.{Appends, Keeps}
use Rattle.std.proofs.lemmas.List.{append-nil, take_at}
use Rattle.layout_io.specs.Causes.{HasCause, HasShortage}
use Rattle.layout_io.specs.Told.{SinkTold}
use Rattle.layout_io.specs.declared.fault.IoFault.{IoFault}
use Rattle.layout_io.specs.declared.fault.IoFault.TheVariants.{Failed, Memory}
use Rattle.whole_files.specs.Puts.{IsCut, MetFault, MetShortage}

pub appends_none : (o : Option (List ℕ)) → Appends o o []
appends_none None = tt
appends_none (Some xs) = sym (append-nil xs)

pub appends_then : (a b c : Option (List ℕ)) (x y : List ℕ) → Appends a b x → Appends b c y → Appends a c (x ++ y)
appends_then None b c x y p q = tt
appends_then (Some xs) None c x y p q = absurd p
appends_then (Some xs) (Some ys) None x y p q = absurd q
appends_then (Some xs) (Some ys) (Some zs) x y p q = q ∙ ap (λ (w : List ℕ). w ++ y) p ∙ append_assoc xs x y

appends_kept : (a b c : Option (List ℕ)) (x : List ℕ) → Appends a b x → Keeps b c → Appends a c x
appends_kept None b c x p q = tt
appends_kept (Some xs) None c x p q = absurd p
appends_kept (Some xs) (Some ys) None x p q = absurd q
appends_kept (Some xs) (Some ys) (Some zs) x p q = q ∙ p

-- the text is what was written and what is left
pub record Wrote (text rest : List ℕ) (old new : Option (List ℕ)) : Type 0 where
  pub done : List ℕ
  pub parts : text ≡ done ++ rest
  pub appended : Appends old new done

pub wrote_none : (text : List ℕ) (o : Option (List ℕ)) → Wrote text text o o
wrote_none text o = record { done = []; parts = refl; appended = appends_none o }

pub wrote_more : (text rest piece after : List ℕ) (a b c : Option (List ℕ)) → Wrote text rest a b → Appends b c piece → rest ≡ piece ++ after → Wrote text after a c
wrote_more text rest piece after a b c w p parts = record {
  done = w.done ++ piece;
  parts = w.parts ∙ ap (λ (x : List ℕ). w.done ++ x) parts ∙ sym (append_assoc w.done piece after);
  appended = appends_then a b c w.done piece w.appended p;
}

pub wrote_all : (text rest : List ℕ) (a b : Option (List ℕ)) → Wrote text rest a b → rest ≡ [] → Appends a b text
wrote_all text rest a b w none =
    let whole : text ≡ w.done = w.parts ∙ ap (λ (x : List ℕ). w.done ++ x) none ∙ append-nil w.done in
    rw whole w.appended

pub wrote_kept : (text rest : List ℕ) (a b c : Option (List ℕ)) → Wrote text rest a b → Keeps b c → Wrote text rest a c
wrote_kept text rest a b c w k = record { done = w.done; parts = w.parts; appended = appends_kept a b c w.done w.appended k }

-- what was written before a write that took nothing is a front of the text, and not the whole
pub wrote_cut : (text rest : List ℕ) (o p q : SinkTold) → Wrote text rest o.written p.written → Keeps p.written q.written → 0 < length rest → IsCut text o q
wrote_cut text rest o p q w kept some =
    let now = wrote_kept text rest o.written p.written q.written w kept in
    let front : take (length now.done) text ≡ now.done = ap (take (length now.done)) now.parts ∙ take_at now.done rest (length now.done) refl in
    record { n = length now.done; less = omega (arith, some, ap length now.parts, length-append now.done rest); written = rw front now.appended }

-- one fault, or one want of memory, behind writes that met none
pub fault_then : (o p q : SinkTold) → p.faults ≡ o.faults → p.shortages ≡ o.shortages → HasCause {T = ℕ} p.faults q.faults (Err Failed) → HasShortage {T = ℕ} p.shortages q.shortages (Err Failed) → MetFault o q
fault_then o p q faults shortages cause stood = record {
  rose = omega (arith, faults, cause.0);
  once = omega (arith, faults, cause.2);
  later = omega (arith, faults, cause.1);
  shortages = stood ∙ shortages;
}

pub shortage_then : (o p q : SinkTold) → p.faults ≡ o.faults → p.shortages ≡ o.shortages → HasCause {T = ℕ} p.faults q.faults (Err Memory) → HasShortage {T = ℕ} p.shortages q.shortages (Err Memory) → MetShortage o q
shortage_then o p q faults shortages stood cause = record {
  rose = omega (arith, shortages, cause.0);
  once = omega (arith, shortages, cause.2);
  faults = stood ∙ faults;
}

-- a rest that isn't empty
pub some_left : (rest : List ℕ) → false ≡ (length rest == 0) → 0 < length rest
some_left [] e = absurd cc
some_left (x ∷ xs) e = omega arith

pub put_fault : (text rest : List ℕ) (o p q : SinkTold) (e : IoFault) → e ≡ Failed → Wrote text rest o.written p.written → Keeps p.written q.written → 0 < length rest → p.faults ≡ o.faults → p.shortages ≡ o.shortages
    → HasCause {T = ℕ} p.faults q.faults (Err e) → HasShortage {T = ℕ} p.shortages q.shortages (Err e) → IsCut text o q × MetFault o q
put_fault text rest o p q Failed is w kept some faults shortages cause stood = (wrote_cut text rest o p q w kept some, fault_then o p q faults shortages cause stood)
put_fault text rest o p q Memory is w kept some faults shortages cause stood = absurd cc

pub put_shortage : (text rest : List ℕ) (o p q : SinkTold) (e : IoFault) → e ≡ Memory → Wrote text rest o.written p.written → Keeps p.written q.written → 0 < length rest → p.faults ≡ o.faults → p.shortages ≡ o.shortages
    → HasCause {T = ℕ} p.faults q.faults (Err e) → HasShortage {T = ℕ} p.shortages q.shortages (Err e) → IsCut text o q × MetShortage o q
put_shortage text rest o p q Memory is w kept some faults shortages stood cause = (wrote_cut text rest o p q w kept some, shortage_then o p q faults shortages stood cause)
put_shortage text rest o p q Failed is w kept some faults shortages stood cause = absurd cc
