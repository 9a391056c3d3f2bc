-- A text has the forest that is read of it, or the fault.
use Rattle.std.proofs.Common.{◌≡◌, ℕ, List, [], ◌∷◌, ◌++◌, length, Option, Some, None, Result, Ok, Err, refl, sym, ap, subst, ◌∙◌, append_assoc, arith, inl, inr}
use Rattle.sexp_text.specs.Forest.{Forest, End}
use Rattle.sexp_text.specs.declared.fault.TextFault.{TextFault}
use Rattle.sexp_text.specs.declared.fault.TextFault.TheVariants as faults
use Rattle.sexp_text.specs.declared.token.Token.{Token}
use Rattle.sexp_text.specs.declared.token.TokenKind.{TokenKind}
use Rattle.sexp_text.specs.declared.token.TokenKind.TheVariants as kind
use Rattle.sexp_text.specs.declared.modes.Before.{Before}
use Rattle.sexp_text.specs.declared.modes.Before.TheVariants.{Other}
use Rattle.sexp_text.specs.declared.modes.Mode.TheVariants as mode
use Rattle.sexp_text.specs.Scan.{scan}
use Rattle.sexp_text.specs.Text.{TokensThen}
use Rattle.sexp_text.specs.Tree.{IsTree, HasOpened, NextIs, IsFirstFault}
use Rattle.sexp_text.specs.Build.{levels, planted, forest_of}
use Rattle.sexp_text.proofs.OpenLists.{opened_levels, next_level, deep_level}
use Rattle.sexp_text.proofs.Readings.{Follows}
use Rattle.sexp_text.proofs.Quotes.{tokens_found, reading}
use Rattle.sexp_text.proofs.Runs.{tokens_run}
use Rattle.sexp_text.proofs.Lexing.{tokens_read}
use Rattle.sexp_text.proofs.Walks.{Stopped, Walked, walk}
use Rattle.sexp_text.proofs.Trees.{planted_tree, planted_open, planted_quote, planted_stop}

-- the text has this forest, or this fault
abbrev pub Meets : List ℕ → Result Forest TextFault → Type 0
Meets text (Ok f) = IsTree text f
Meets text (Err e) = IsFirstFault text e

-- the token behind others
split_tokens : (IsSo : Before → ℕ → List ℕ → Type 0) (xs : List Token) (t : Token) (ys : List Token) (f : Before) (p : ℕ) (text : List ℕ)
    → TokensThen IsSo f p (xs ++ t ∷ ys) text → TokensThen (NextIs t.kind t.start) f p xs text
split_tokens IsSo [] t ys f p text h = (t, h.0, h.1, h.2, refl, refl)
split_tokens IsSo (x ∷ xs) t ys f p text h = (h.0, h.1, h.2, split_tokens IsSo xs t ys _ x.end h.1 h.3)

next_kind : (text : List ℕ) (ts : List Token) (k l : TokenKind) (at : ℕ) → k ≡ l → TokensThen (NextIs k at) Other 0 ts text → TokensThen (NextIs l at) Other 0 ts text
next_kind text ts k l at e h = subst (λ (x : TokenKind). TokensThen (NextIs x at) Other 0 ts text) e h

stopped_fault : (text : List ℕ) (ts : List Token) (o : Option ℕ) (e : TextFault) → TokensThen (Follows o) Other 0 ts text → Stopped text [] ts e → IsFirstFault text e
stopped_fault text ts o e h s =
    let n = split_tokens (Follows o) s.before s.bracket s.after Other 0 text (subst (λ (x : List Token). TokensThen (Follows o) Other 0 x text) s.parts h) in
    elim s.stops [
      | inl d ↦ subst (λ (x : TextFault). IsFirstFault text x) (sym d.2) (s.before, s.opens, next_kind text s.before s.bracket.kind kind.Left s.bracket.start d.0 n, s.opened, d.1)
      | inr u ↦ subst (λ (x : TextFault). IsFirstFault text x) (sym u.2) (s.before, next_kind text s.before s.bracket.kind kind.Right s.bracket.start u.0 n, subst (λ (x : List ℕ). HasOpened text s.before x) u.1 s.opened)
    ]

met_opened : (text : List ℕ) (ts : List Token) (o : Option ℕ) (opens : List ℕ) → TokensThen (Follows o) Other 0 ts text → HasOpened text ts opens → Meets text (planted text ts o)
met_opened text ts (Some at) opens h k = subst (λ (r : Result Forest TextFault). Meets text r) (sym (planted_quote text ts at opens k)) (ts, opens, h, k)
met_opened text ts None [] h k =
    subst (λ (r : Result Forest TextFault). Meets text r) (sym (planted_tree text k.0 ts k.1 k.2)) (record { tokens = ts; spelled = h; shape = k.1; levels = k.2 })
met_opened text ts None (at ∷ opens) h k = subst (λ (r : Result Forest TextFault). Meets text r) (sym (planted_open text ts at opens k)) (ts, opens, h, k)

met_walked : (text : List ℕ) (ts : List Token) (o : Option ℕ) (r : Result ℕ TextFault) → levels 0 ts ≡ r → TokensThen (Follows o) Other 0 ts text → Walked text [] ts r → Meets text (planted text ts o)
met_walked text ts o (Ok level) e h w = met_opened text ts o w.0 h w.1
met_walked text ts o (Err f) e h w = subst (λ (r : Result Forest TextFault). Meets text r) (sym (planted_stop text ts o f e)) (stopped_fault text ts o f h w)

met : (text : List ℕ) (ts : List Token) (o : Option ℕ) → TokensThen (Follows o) Other 0 ts text → Meets text (planted text ts o)
met text ts o h = met_walked text ts o (levels 0 ts) refl h (walk text ts [] [] (End, refl, omega arith) (omega arith))

pub forest_met : (text : List ℕ) → Meets text (forest_of text)
forest_met text = met text (scan [] (mode.Gap Other) 0 text).0 (scan [] (mode.Gap Other) 0 text).1 (tokens_found text (scan [] (mode.Gap Other) 0 text).0 (scan [] (mode.Gap Other) 0 text).1 refl)

-- ---- and back

read_as : (text : List ℕ) (ts : List Token) (o : Option ℕ) → TokensThen (Follows o) Other 0 ts text → forest_of text ≡ planted text ts o
read_as text ts o h = ap (λ (x : List Token × Option ℕ). planted text x.0 x.1) (tokens_read text ts o h)

pub tree_again : (text : List ℕ) (f : Forest) → IsTree text f → forest_of text ≡ Ok f
tree_again text f h = read_as text h.tokens None h.spelled ∙ planted_tree text f h.tokens h.shape h.levels

abbrev IsAny : Before → ℕ → List ℕ → Type 0
IsAny f p text = Unit {0}

-- a text that begins with tokens and one more is read so
pub record Begins (text : List ℕ) (ts : List Token) (k : TokenKind) (at : ℕ) : Type 0 where
  pub next : Token
  pub more : List Token
  pub kind_is : next.kind ≡ k
  pub place : next.start ≡ at
  pub same : (scan [] (mode.Gap Other) 0 text).0 ≡ ts ++ next ∷ more

begins : (text : List ℕ) (ts : List Token) (k : TokenKind) (at : ℕ) → TokensThen (NextIs k at) Other 0 ts text → Begins text ts k at
begins text ts k at h =
    let r = tokens_run (NextIs k at) ts [] Other 0 text h in
    let t = r.so.0 in
    let s = tokens_run IsAny (t ∷ []) ts r.now r.place r.rest (r.so.1, r.so.2, r.so.3, tt) in
    let g = (reading s.rest).gap (ts ++ t ∷ []) s.now s.place (scan (ts ++ t ∷ []) (mode.Gap s.now) s.place s.rest).0 (scan (ts ++ t ∷ []) (mode.Gap s.now) s.place s.rest).1 refl in
    record {
      next = t;
      more = g.ts;
      kind_is = r.so.4;
      place = r.so.5;
      same = ap (λ (x : List Token × Option ℕ). x.0) (r.same ∙ s.same) ∙ g.joined ∙ append_assoc ts (t ∷ []) g.ts;
    }

abbrev deep : ℕ → Result ℕ TextFault
deep at = Err (faults.Deep at)

abbrev unopened : ℕ → Result ℕ TextFault
unopened at = Err (faults.Unopened at)

pub fault_again : (text : List ℕ) (e : TextFault) → IsFirstFault text e → forest_of text ≡ Err e
fault_again text faults.Memory h = absurd h
fault_again text (faults.Quote at) h = read_as text h.0 (Some at) h.2 ∙ planted_quote text h.0 at h.1 h.3
fault_again text (faults.Unclosed at) h = read_as text h.0 None h.2 ∙ planted_open text h.0 at h.1 h.3
fault_again text (faults.Deep at) h =
    let b = begins text h.0 kind.Left at h.2 in
    planted_stop text (scan [] (mode.Gap Other) 0 text).0 (scan [] (mode.Gap Other) 0 text).1 (faults.Deep at)
    (ap (λ (x : List Token). levels 0 x) b.same ∙ opened_levels text h.1 h.0 (b.next ∷ b.more) h.3
    ∙ next_level (length h.1) b.next b.more kind.Left (deep b.next.start) b.kind_is (deep_level (length h.1) b.next.start (let l = h.4 in omega (arith, l))) ∙ ap deep b.place)
fault_again text (faults.Unopened at) h =
    let b = begins text h.0 kind.Right at h.1 in
    planted_stop text (scan [] (mode.Gap Other) 0 text).0 (scan [] (mode.Gap Other) 0 text).1 (faults.Unopened at)
    (ap (λ (x : List Token). levels 0 x) b.same ∙ opened_levels text [] h.0 (b.next ∷ b.more) h.2
    ∙ next_level 0 b.next b.more kind.Right (unopened b.next.start) b.kind_is refl ∙ ap unopened b.place)
