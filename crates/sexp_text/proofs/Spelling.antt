-- A word is known as the keyword byte by byte.
use Rattle.std.proofs.Common.{◌≡◌, ℕ, ◌+◌, ◌<◌, ◌≤◌, Bool, true, false, cond, eqb, ltb, List, [], ◌∷◌, ◌++◌, map, drop, get_or, Option, Some, None, refl, ap, ◌∙◌, arith, inl, inr}
use Rattle.std.proofs.Common.{drop-cons, suc}
use Rattle.std.specs.Prelude.{codes, ◌&&◌}
use Rattle.std.specs.Str.{bytes_eq}
use Rattle.std.specs.Char.{to_ascii_lowercase}
use Rattle.std.proofs.lemmas.Bool.{cases_eq}
use Rattle.sexp_text.specs.declared.modes.Class.TheVariants as is
use Rattle.sexp_text.specs.declared.modes.Before.{Before}
use Rattle.sexp_text.specs.declared.modes.Before.TheVariants.{Other, Bracket, Keyword}
use Rattle.sexp_text.specs.declared.token.TokenKind.TheVariants.{Word}
use Rattle.sexp_text.specs.Words.{class, unquoted}
use Rattle.sexp_text.specs.Text.{after}
use Rattle.sexp_text.specs.Scan.{spell, begun, ended}
use Rattle.sexp_text.proofs.Classes.{plain_not_quote}

-- how much of the keyword is spelled after these bytes too, where that is a front of it
abbrev pub spelling : Option ℕ → List ℕ → Option ℕ
spelling s [] = s
spelling s (b ∷ bs) = spelling (cond (eqb b 34) s (spell s b)) bs

pub spelling-append : (s : Option ℕ) (xs ys : List ℕ) → spelling s (xs ++ ys) ≡ spelling (spelling s xs) ys
spelling-append s [] ys = refl
spelling-append s (x ∷ xs) ys = spelling-append (cond (eqb x 34) s (spell s x)) xs ys

pub spelling_bare : (s : Option ℕ) (b : ℕ) → class b ≡ is.Plain → spelling s (b ∷ []) ≡ spell s b
spelling_bare s b h = rw (plain_not_quote b h) refl

pub spelling_quoted : (s : Option ℕ) (q : List ℕ) → spelling s (34 ∷ (q ++ 34 ∷ [])) ≡ spelling s q
spelling_quoted s q = spelling-append s q (34 ∷ [])

same_cond : {A : Type 0} (c : Bool) (x : A) → cond c x x ≡ x
same_cond true x = refl
same_cond false x = refl

spelling-none : (bs : List ℕ) → spelling None bs ≡ None
spelling-none [] = refl
spelling-none (b ∷ bs) = ap (λ (s : Option ℕ). spelling s bs) (same_cond (eqb b 34) None) ∙ spelling-none bs

-- the keyword or not
abbrev of_test : Bool → Before
of_test c = cond c Keyword Other

abbrev keyword : List ℕ
keyword = codes "string_quote"

abbrev Spells : List ℕ → Type 0
Spells bs = (k : ℕ) → k ≤ 12 → ended (spelling (Some k) bs) ≡ of_test (bytes_eq (map to_ascii_lowercase (unquoted bs)) (drop k keyword))

keyword_from : (k : ℕ) → k < 12 → drop k keyword ≡ get_or keyword k 0 ∷ drop (k + 1) keyword
keyword_from k h = let e : suc k ≡ k + 1 = omega arith in drop-cons keyword k 0 h ∙ ap (λ (n : ℕ). get_or keyword k 0 ∷ drop n keyword) e

less_test : (k : ℕ) → k < 12 → ltb k 12 ≡ true
less_test k h = grind arith

not_twelve : (k : ℕ) → k < 12 → eqb k 12 ≡ false
not_twelve k h = grind arith

at_end : Spells []
at_end k h =
    elim (cases_eq k 12) [
      | inl e ↦ rw e refl
      | inr n ↦ let l : k < 12 = omega (arith, n) in rw (keyword_from k l, not_twelve k l) refl
    ]

letter : (c : Bool) (b : ℕ) (bs : List ℕ) (k : ℕ) → k < 12 → eqb (to_ascii_lowercase b) (get_or keyword k 0) ≡ c → Spells bs
    → ended (spelling (cond c (Some (k + 1)) None) bs) ≡ of_test (c && bytes_eq (map to_ascii_lowercase (unquoted bs)) (drop (k + 1) keyword))
letter true b bs k h e later = later (k + 1) (omega arith)
letter false b bs k h e later = ap ended (spelling-none bs)

other_byte : (b : ℕ) (bs : List ℕ) → eqb b 34 ≡ false → Spells bs → Spells (b ∷ bs)
other_byte b bs e later k h =
    elim (cases_eq k 12) [
      | inl t ↦ rw (e, t) (ap ended (spelling-none bs))
      | inr n ↦ let l : k < 12 = omega (arith, n) in rw (e, less_test k l, keyword_from k l) (letter (eqb (to_ascii_lowercase b) (get_or keyword k 0)) b bs k l refl later)
    ]

next_byte : (c : Bool) (b : ℕ) (bs : List ℕ) → eqb b 34 ≡ c → Spells bs → Spells (b ∷ bs)
next_byte true b bs e later k h = rw e (later k h)
next_byte false b bs e later k h = other_byte b bs e later k h

spells : (bs : List ℕ) → Spells bs
spells [] = at_end
spells (b ∷ bs) = next_byte (eqb b 34) b bs refl (spells bs)

pub word_next : (before : Before) (bytes : List ℕ) → (before ≡ Keyword → ⊥) → ended (spelling (begun before) bytes) ≡ after before Word bytes
word_next Other bytes h = ap ended (spelling-none bytes)
word_next Bracket bytes h = spells bytes 0 (omega arith)
word_next Keyword bytes h = absurd (h refl)
