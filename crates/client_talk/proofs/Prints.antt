-- What a sink was given over several calls.
use Rattle.std.proofs.Common.{◌≡◌, ℕ, ◌+◌, ◌≤◌, List, [], ◌++◌, length, min, take, Option, Some, None, refl, sym, ap, ◌∙◌, append_assoc, arith}
use Rattle.std.specs.Io.KnownBytes.{Appends, Keeps}
use Rattle.std.proofs.lemmas.List.{append-nil, take_at, take-append-le, take_min}
use Rattle.std.proofs.Math.Seq.{take-append-add}
use Rattle.client_talk.specs.Hears.{Begins}

pub appends_none : (o : Option (List ℕ)) → Appends o o []
appends_none None = tt
appends_none (Some xs) = sym (append-nil xs)

pub appends_then : (a b c : Option (List ℕ)) (x y : List ℕ) → Appends a b x → Appends b c y → Appends a c (x ++ y)
appends_then None b c x y p q = tt
appends_then (Some xs) None c x y p q = absurd p
appends_then (Some xs) (Some ys) None x y p q = absurd q
appends_then (Some xs) (Some ys) (Some zs) x y p q = q ∙ ap (λ (w : List ℕ). w ++ y) p ∙ append_assoc xs x y

appends_kept : (a b c : Option (List ℕ)) (x : List ℕ) → Appends a b x → Keeps b c → Appends a c x
appends_kept None b c x p q = tt
appends_kept (Some xs) None c x p q = absurd p
appends_kept (Some xs) (Some ys) None x p q = absurd q
appends_kept (Some xs) (Some ys) (Some zs) x p q = q ∙ p

-- the text is what was written and what is left
pub record Wrote (text rest : List ℕ) (old new : Option (List ℕ)) : Type 0 where
  pub done : List ℕ
  pub parts : text ≡ done ++ rest
  pub appended : Appends old new done

pub wrote_none : (text : List ℕ) (o : Option (List ℕ)) → Wrote text text o o
wrote_none text o = record { done = []; parts = refl; appended = appends_none o }

pub wrote_more : (text rest piece after : List ℕ) (a b c : Option (List ℕ)) → Wrote text rest a b → Appends b c piece → rest ≡ piece ++ after → Wrote text after a c
wrote_more text rest piece after a b c w p parts = record {
  done = w.done ++ piece;
  parts = w.parts ∙ ap (λ (x : List ℕ). w.done ++ x) parts ∙ sym (append_assoc w.done piece after);
  appended = appends_then a b c w.done piece w.appended p;
}

pub wrote_all : (text rest : List ℕ) (a b : Option (List ℕ)) → Wrote text rest a b → rest ≡ [] → Appends a b text
wrote_all text rest a b w none =
    let whole : text ≡ w.done = w.parts ∙ ap (λ (x : List ℕ). w.done ++ x) none ∙ append-nil w.done in
    rw whole w.appended

pub wrote_front : (text rest : List ℕ) (a b : Option (List ℕ)) → Wrote text rest a b → Begins text a b
wrote_front text rest a b w =
    let front : take (length w.done) text ≡ w.done = ap (take (length w.done)) w.parts ∙ take_at w.done rest (length w.done) refl in
    (length w.done, rw front w.appended)

pub wrote_kept : (text rest : List ℕ) (a b c : Option (List ℕ)) → Wrote text rest a b → Keeps b c → Wrote text rest a c
wrote_kept text rest a b c w k = record { done = w.done; parts = w.parts; appended = appends_kept a b c w.done w.appended k }

-- a text of two parts begins with a front of the first
pub begins_first : (x y : List ℕ) (a b : Option (List ℕ)) → Begins x a b → Begins (x ++ y) a b
begins_first x y a b h =
    let short : min h.0 (length x) ≤ length x = omega arith in
    let same : take (min h.0 (length x)) (x ++ y) ≡ take h.0 x = take-append-le (min h.0 (length x)) x y short ∙ take_min h.0 x in
    (min h.0 (length x), rw same h.1)

-- behind the whole first part it goes on with a front of the second
pub begins_second : (x y : List ℕ) (a b c : Option (List ℕ)) → Appends a b x → Begins y b c → Begins (x ++ y) a c
begins_second x y a b c p h =
    let same : take (length x + h.0) (x ++ y) ≡ x ++ take h.0 y = take-append-add x y h.0 in
    (length x + h.0, rw same (appends_then a b c x (take h.0 y) p h.1))
