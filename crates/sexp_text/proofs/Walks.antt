-- Counting levels over tokens ends with open lists, or at the first bracket that is too many.
use Rattle.std.proofs.Common.{◌≡◌, ℕ, ◌+◌, ◌≤◌, List, [], ◌∷◌, ◌++◌, length, Result, Ok, Err, refl, sym, ap, subst, append_assoc, arith, inl, inr, ◌⊎◌}
use Rattle.std.proofs.lemmas.Bool.{cases_lt}
use Rattle.std.proofs.lemmas.List.{append-nil}
use Rattle.sexp_text.specs.declared.fault.TextFault.{TextFault}
use Rattle.sexp_text.specs.declared.fault.TextFault.TheVariants as faults
use Rattle.sexp_text.specs.declared.token.Token.{Token}
use Rattle.sexp_text.specs.declared.token.TokenKind.{TokenKind}
use Rattle.sexp_text.specs.declared.token.TokenKind.TheVariants as kind
use Rattle.sexp_text.specs.Tree.{HasOpened}
use Rattle.sexp_text.specs.Build.{level_step, levels}
use Rattle.sexp_text.proofs.OpenLists.{left_level, deep_level, right_level, next_level, opened_word, opened_left, opened_right}

-- a bracket that is too many behind these open lists
abbrev pub Stops : Token → List ℕ → TextFault → Type 0
Stops t opens e = ((t.kind ≡ kind.Left) × (length opens ≡ 64) × (e ≡ faults.Deep t.start)) ⊎ ((t.kind ≡ kind.Right) × (opens ≡ []) × (e ≡ faults.Unopened t.start))

pub record Stopped (text : List ℕ) (done ts : List Token) (e : TextFault) : Type 0 where
  pub before : List Token
  pub bracket : Token
  pub after : List Token
  pub opens : List ℕ
  pub parts : ts ≡ before ++ bracket ∷ after
  pub opened : HasOpened text (done ++ before) opens
  pub stops : Stops bracket opens e

abbrev pub Walked : List ℕ → List Token → List Token → Result ℕ TextFault → Type 0
Walked text done ts (Ok level) = (opens : List ℕ) × HasOpened text (done ++ ts) opens
Walked text done ts (Err e) = Stopped text done ts e

walked_more : (text : List ℕ) (done : List Token) (t : Token) (ts : List Token) (r : Result ℕ TextFault) → Walked text (done ++ t ∷ []) ts r → Walked text done (t ∷ ts) r
walked_more text done t ts (Ok level) h = (h.0, subst (λ (x : List Token). HasOpened text x h.0) (append_assoc done (t ∷ []) ts) h.1)
walked_more text done t ts (Err e) h =
    record {
      before = t ∷ h.before;
      bracket = h.bracket;
      after = h.after;
      opens = h.opens;
      parts = ap (λ (x : List Token). t ∷ x) h.parts;
      opened = subst (λ (x : List Token). HasOpened text x h.opens) (append_assoc done (t ∷ []) h.before) h.opened;
      stops = h.stops;
    }

from_start : (text : List ℕ) (done : List Token) (opens : List ℕ) → HasOpened text done opens → HasOpened text (done ++ []) opens
from_start text done opens h = subst (λ (x : List Token). HasOpened text x opens) (sym (append-nil done)) h

stopped_here : (text : List ℕ) (done : List Token) (t : Token) (ts : List Token) (opens : List ℕ) (e : TextFault) → HasOpened text done opens → Stops t opens e → Stopped text done (t ∷ ts) e
stopped_here text done t ts opens e h s = record { before = []; bracket = t; after = ts; opens = opens; parts = refl; opened = from_start text done opens h; stops = s }

abbrev Walks : List ℕ → List Token → Type 0
Walks text ts = (done : List Token) (opens : List ℕ) → HasOpened text done opens → length opens ≤ 64 → Walked text done ts (levels (length opens) ts)

walk_next : (text : List ℕ) (done : List Token) (t : Token) (ts : List Token) (k : TokenKind) (level next : ℕ) → t.kind ≡ k → level_step level k t.start ≡ Ok next → Walked text (done ++ t ∷ []) ts (levels next ts) → Walked text done (t ∷ ts) (levels level (t ∷ ts))
walk_next text done t ts k level next e s h =
    subst (λ (r : Result ℕ TextFault). Walked text done (t ∷ ts) r) (sym (next_level level t ts k (Ok next) e s)) (walked_more text done t ts (levels next ts) h)

walk_stop : (text : List ℕ) (done : List Token) (t : Token) (ts : List Token) (k : TokenKind) (opens : List ℕ) (f : TextFault) → t.kind ≡ k → level_step (length opens) k t.start ≡ Err f → HasOpened text done opens → Stops t opens f → Walked text done (t ∷ ts) (levels (length opens) (t ∷ ts))
walk_stop text done t ts k opens f e s h stops =
    subst (λ (r : Result ℕ TextFault). Walked text done (t ∷ ts) r) (sym (next_level (length opens) t ts k (Err f) e s)) (stopped_here text done t ts opens f h stops)

walk_case : (k : TokenKind) (text : List ℕ) (t : Token) (ts : List Token) → t.kind ≡ k → Walks text ts → Walks text (t ∷ ts)
walk_case kind.Word text t ts e later done opens h b =
    walk_next text done t ts kind.Word (length opens) (length opens) e refl (later (done ++ t ∷ []) opens (opened_word text opens done t h b e) b)
walk_case kind.Left text t ts e later done opens h b =
    elim (cases_lt (length opens) 64) [
      | inl l ↦ let n : length (t.start ∷ opens) ≡ length opens + 1 = omega arith in
          walk_next text done t ts kind.Left (length opens) (length opens + 1) e (left_level (length opens) t.start l)
          (subst (λ (n : ℕ). Walked text (done ++ t ∷ []) ts (levels n ts)) n (later (done ++ t ∷ []) (t.start ∷ opens) (opened_left text opens done t h l e) (omega (arith, l))))
      | inr g ↦ walk_stop text done t ts kind.Left opens (faults.Deep t.start) e (deep_level (length opens) t.start g) h (inl (e, omega (arith, b, g), refl))
    ]
walk_case kind.Right text t ts e later done [] h b = walk_stop text done t ts kind.Right [] (faults.Unopened t.start) e refl h (inr (e, refl, refl))
walk_case kind.Right text t ts e later done (at ∷ opens) h b =
    let n : length opens + 1 ≡ length (at ∷ opens) = omega arith in
    subst (λ (n : ℕ). Walked text done (t ∷ ts) (levels n (t ∷ ts))) n
    (walk_next text done t ts kind.Right (length opens + 1) (length opens) e (right_level (length opens) t.start) (later (done ++ t ∷ []) opens (opened_right text at opens done t h e) (omega (arith, b))))

pub walk : (text : List ℕ) (ts : List Token) → Walks text ts
unfolding levels
walk text [] done opens h b = (opens, from_start text done opens h)
walk text (t ∷ ts) done opens h b = walk_case t.kind text t ts refl (walk text ts) done opens h b
