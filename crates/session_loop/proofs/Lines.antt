-- Lines, what they say and what is asked in them, one more at a time.
use Rattle.std.proofs.Common.{◌≡◌, ℕ, List, [], ◌∷◌, ◌++◌, refl, sym, ap, ◌∙◌, append_assoc, arith, subst, inl, inr, length-append}
use Rattle.std.specs.List.{flat_map, AllByRecursion}
use Rattle.std.proofs.lemmas.List.{append-nil, take-append-le, map-append}
use Rattle.board_items.specs.declared.requests.Request.{Request}
use Rattle.session_wire.specs.Steps.{IsLine}
use Rattle.session_wire.specs.Kept.{ended, IsOverlong}
use Rattle.desk_core.specs.declared.desk.Answer.{Answer}
use Rattle.session_loop.specs.Transcripts.{Reading, Bad, Asks, Bye, Long, requests_of, asked_of}
use Rattle.session_loop.specs.Sessions.{Says, SayEach, IsShort, IsHeard, AreLines}

pub all_append : {T : Type 0} (P : T → Type 0) (xs ys : List T) → AllByRecursion P xs → AllByRecursion P ys → AllByRecursion P (xs ++ ys)
all_append P [] ys p q = q
all_append P (x ∷ xs) ys p q = (p.0, all_append P xs ys p.1 q)

ended_more : (lines : List (List ℕ)) (line : List ℕ) → flat_map ended (lines ++ line ∷ []) ≡ flat_map ended lines ++ ended line
ended_more [] line = append-nil (ended line)
ended_more (l ∷ lines) line = ap (λ (x : List ℕ). ended l ++ x) (ended_more lines line) ∙ sym (append_assoc (ended l) (flat_map ended lines) (ended line))

says_more : (lines : List (List ℕ)) (said : List Reading) (line : List ℕ) (r : Reading) → SayEach lines said → Says line r → SayEach (lines ++ line ∷ []) (said ++ r ∷ [])
says_more [] [] line r p q = (q, tt)
says_more [] (s ∷ said) line r p q = absurd p
says_more (l ∷ lines) [] line r p q = absurd p
says_more (l ∷ lines) (s ∷ said) line r p q = (p.0, says_more lines said line r p.1 q)

pub heard_more : (input : List ℕ) (lines : List (List ℕ)) (said : List Reading) (line : List ℕ) (r : Reading) (bytes after left : List ℕ)
    → IsHeard input lines said (bytes ++ left) → bytes ≡ line ++ 10 ∷ after → IsShort line → Says line r → IsHeard input (lines ++ line ∷ []) (said ++ r ∷ []) (after ++ left)
heard_more input lines said line r bytes after left h parts short says = record {
  cut = h.cut ∙ ap (λ (x : List ℕ). flat_map ended lines ++ (x ++ left)) parts
      ∙ ap (λ (x : List ℕ). flat_map ended lines ++ x) (append_assoc line (10 ∷ after) left ∙ sym (append_assoc line (10 ∷ []) (after ++ left)))
      ∙ sym (append_assoc (flat_map ended lines) (ended line) (after ++ left))
      ∙ ap (λ (x : List ℕ). x ++ (after ++ left)) (sym (ended_more lines line));
  short = all_append IsShort lines (line ∷ []) h.short (short, tt);
  says = says_more lines said line r h.says says;
}

pub requests_append : (xs ys : List Reading) → requests_of (xs ++ ys) ≡ requests_of xs ++ requests_of ys
requests_append [] ys = refl
requests_append (Bad place ∷ xs) ys = requests_append xs ys
requests_append (Asks request ∷ xs) ys = ap (λ (z : List Request). request ∷ z) (requests_append xs ys)
requests_append (Bye ∷ xs) ys = requests_append xs ys
requests_append (Long ∷ xs) ys = requests_append xs ys

pub asked_more : (said : List Reading) (r : Reading) (old more new : List Answer) → requests_of said ≡ asked_of old → requests_of (r ∷ []) ≡ asked_of more → new ≡ old ++ more → requests_of (said ++ r ∷ []) ≡ asked_of new
asked_more said r old more new p q e =
    requests_append said (r ∷ []) ∙ ap (λ (z : List Request). z ++ requests_of (r ∷ [])) p ∙ ap (λ (z : List Request). asked_of old ++ z) q
    ∙ sym (map-append (λ (a : Answer). a.request) old more) ∙ ap asked_of (sym e)

pub overlong_more : (bytes left : List ℕ) → IsOverlong bytes → IsOverlong (bytes ++ left)
overlong_more bytes left o = record {
  many = let sizes = length-append bytes left in omega (arith, o.many);
  unended = subst IsLine (sym (take-append-le 8193 bytes left (omega (arith, o.many)))) o.unended;
}

-- whole lines behind whole lines
pub lines_append : (x y : List ℕ) → AreLines x → AreLines y → AreLines (x ++ y)
lines_append x y p q = elim q [
  | inl e ↦ subst AreLines (sym (ap (λ (z : List ℕ). x ++ z) e ∙ append-nil x)) p
  | inr w ↦ inr (x ++ w.0, ap (λ (z : List ℕ). x ++ z) w.1 ∙ sym (append_assoc x w.0 (10 ∷ [])))
]
