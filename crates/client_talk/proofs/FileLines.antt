-- The lines of a text, by its first line end.
use Rattle.std.proofs.Common.{◌≡◌, ◌≢◌, ℕ, ◌≤◌, ◌+◌, ◌-◌, Bool, true, false, List, [], ◌∷◌, ◌++◌, length, refl, sym, ap, ◌∙◌, arith, length-append, append_assoc, take, drop, subst}
use Rattle.std.specs.Prelude.{◌==◌}
use Rattle.std.proofs.lemmas.Bool.{eqb-true}
use Rattle.std.proofs.lemmas.List.{take_all, drop-drop, length-drop, drop_at}
use Rattle.std.proofs.Math.Seq.{drop-length}
use Rattle.session_wire.specs.Steps.{IsLine}
use Rattle.client_talk.specs.Lines.{onto, lines_of, Splits}

other_byte : (b : ℕ) (rest : List ℕ) (test : Bool) → b == 10 ≡ test → b ≢ 10 → lines_of (b ∷ rest) ≡ onto b (lines_of rest)
other_byte b rest true e apart = absurd (apart (eqb-true b 10 e))
other_byte b rest false e apart = rw e refl

pub lines_split : (line rest : List ℕ) → IsLine line → lines_of (line ++ 10 ∷ rest) ≡ line ∷ lines_of rest
lines_split [] rest p = refl
lines_split (b ∷ line) rest p = other_byte b (line ++ 10 ∷ rest) (b == 10) refl p.0 ∙ ap (onto b) (lines_split line rest p.1)

pub lines_last : (b : ℕ) (line : List ℕ) → IsLine (b ∷ line) → lines_of (b ∷ line) ≡ (b ∷ line) ∷ []
lines_last b [] p = other_byte b [] (b == 10) refl p.0
lines_last b (c ∷ line) p = other_byte b (c ∷ line) (b == 10) refl p.0 ∙ ap (onto b) (lines_last c line p.1)

pub splits : (text line after : List ℕ) → IsLine line → text ≡ line ++ 10 ∷ after → Splits text line after
splits text line after p e = record {
  lines = ap lines_of e ∙ lines_split line after p;
  unended = p;
  less = let sizes = length-append line (10 ∷ after) in let whole : length text ≡ length (line ++ 10 ∷ after) = ap length e in omega (arith, sizes, whole);
}

pub splits_last : (text : List ℕ) → IsLine text → text ≢ [] → Splits text text []
splits_last [] p some = absurd (some refl)
splits_last (b ∷ text) p some = record { lines = lines_last b text p; unended = p; less = omega arith }

-- a text without a line end is its only line
pub splits_whole : (text line after : List ℕ) → line ≡ take (length text) text → after ≡ drop (length text) text → IsLine text → length text ≢ 0 → Splits text line after
splits_whole text line after e f p some =
    let front : line ≡ text = e ∙ take_all (length text) text (omega arith) in
    let back : after ≡ [] = f ∙ drop-length text in
    rw (front, back) (splits_last text p (λ none. some (ap length none)))

-- ---- bytes that are taken from a place on

pub place_fits : (bytes line after : List ℕ) (place : ℕ) → place ≤ length bytes → drop place bytes ≡ line ++ 10 ∷ after → place + (length line + 1) + length after ≡ length bytes
place_fits bytes line after place within e =
    let sizes = length-append line (10 ∷ after) in
    let left : length (drop place bytes) ≡ length (line ++ 10 ∷ after) = ap length e in
    let size = length-drop place bytes in
    omega (arith, sizes, left, size)

pub place_rest : (bytes line after : List ℕ) (place n : ℕ) → n ≡ length line + 1 → drop place bytes ≡ line ++ 10 ∷ after → drop (place + n) bytes ≡ after
place_rest bytes line after place n is e =
    let size : n ≡ length (line ++ 10 ∷ []) = is ∙ sym (length-append line (10 ∷ [])) in
    let parts : drop place bytes ≡ (line ++ 10 ∷ []) ++ after = e ∙ sym (append_assoc line (10 ∷ []) after) in
    sym (drop-drop n place bytes) ∙ ap (drop n) parts ∙ ap (λ (k : ℕ). drop k ((line ++ 10 ∷ []) ++ after)) size ∙ drop_at (line ++ 10 ∷ []) after (length (line ++ 10 ∷ [])) refl

pub end_rest : (bytes line after : List ℕ) (place : ℕ) → place ≤ length bytes → drop place bytes ≡ line ++ 10 ∷ after → drop (length bytes - length after) bytes ≡ after
end_rest bytes line after place within e =
    let sizes = place_fits bytes line after place within e in
    let here : length bytes - length after ≡ place + (length line + 1) = omega (arith, sizes) in
    ap (λ (k : ℕ). drop k bytes) here ∙ place_rest bytes line after place (length line + 1) refl e

-- the first line comes off
pub takes : (bytes self front after line : List ℕ) (place n : ℕ) → drop place bytes ≡ self → place ≤ length bytes → self ≡ front ++ 10 ∷ after → IsLine front → line ≡ front → n ≡ length bytes
    → IsLine line × (self ≡ line ++ 10 ∷ drop (n - length after) bytes)
takes bytes self front after line place n view within parts unended is count =
    let rest : drop (n - length after) bytes ≡ after = ap (λ (k : ℕ). drop (k - length after) bytes) count ∙ end_rest bytes front after place within (view ∙ parts) in
    (subst IsLine (sym is) unended, parts ∙ ap (λ (l : List ℕ). l ++ 10 ∷ after) (sym is) ∙ ap (λ (t : List ℕ). line ++ 10 ∷ t) (sym rest))
