-- A name of a clearance type is read as the type, in letters of either case.
use Rattle.std.proofs.Common.{◌≡◌, ℕ, suc, ◌+◌, Bool, true, false, cond, eqb, ltb, List, [], ◌∷◌, ◌++◌, map, take, drop, codes, position, Option, Some, None, refl, sym, ap, ◌∙◌, arith}
use Rattle.std.specs.Prelude.{◌==◌}
use Rattle.std.specs.Str.{bytes_eq}
use Rattle.std.specs.Char.{to_ascii_lowercase}
use Rattle.std.proofs.lemmas.Bool.{eqb-true, ltb-true, ltb-false}
use Rattle.std.proofs.lemmas.List.{take-map, drop-map}
use Rattle.std.proofs.lemmas.Slice.Eq.{bytes_eq-Decides}
use Rattle.std.proofs.lemmas.Str.Ascii.{lowercase-lowercase}
use Rattle.board_rules.specs.declared.design.Kind.{Kind}
use Rattle.board_rules.specs.declared.design.Kind.TheVariants.{Wire, Via, Pin, Smd}
use Rattle.board_rules.specs.declared.design.What.{What}
use Rattle.board_rules.specs.declared.design.What.TheVariants.{Untyped, DefaultSmd, Pair}
use Rattle.dsn_lists.specs.Words.{same}
use Rattle.dsn_lists.specs.Rules.{kind_of, pair_of, kinds_at, what_of}
use Rattle.dsn_lists.specs.TypeNames.{kind_name, is_named}
use Rattle.dsn_lists.proofs.NameKeys.{position-map}

-- ---- the case of letters doesn't matter

abbrev pub lower : List ℕ → List ℕ
lower xs = map to_ascii_lowercase xs

lower_twice : (xs : List ℕ) → lower (lower xs) ≡ lower xs
lower_twice [] = refl
lower_twice (x ∷ xs) = λ i. lowercase-lowercase x i ∷ lower_twice xs i

same_test : (a b : ℕ) → (a ≡ 95 → b ≡ 95) → (b ≡ 95 → a ≡ 95) → eqb a 95 ≡ eqb b 95
same_test a b f g = by (eqb a 95) (eqb b 95) refl refl
  where
    by : (p q : Bool) → eqb a 95 ≡ p → eqb b 95 ≡ q → p ≡ q
    by true true p q = refl
    by true false p q = let e = f (eqb-true a 95 p) in sym (ap (λ (c : ℕ). eqb c 95) e) ∙ q
    by false true p q = let e = g (eqb-true b 95 q) in sym p ∙ ap (λ (c : ℕ). eqb c 95) e
    by false false p q = refl

-- a byte is `_` exactly where it is in small letters
mark_kept : (c : ℕ) → eqb (to_ascii_lowercase c) 95 ≡ eqb c 95
mark_kept c = by (ltb c 65) (ltb c 91) refl refl
  where
    by : (p q : Bool) → ltb c 65 ≡ p → ltb c 91 ≡ q → eqb (cond p c (cond q (c + 32) c)) 95 ≡ eqb c 95
    by true q low high = refl
    by false false low high = refl
    by false true low high = let a = ltb-false c 65 low in let b = ltb-true c 91 high in same_test (c + 32) c (λ e. absurd (omega arith)) (λ e. absurd (omega arith))

same_lower : (text name : List ℕ) → same (lower text) name ≡ same text name
unfolding same
same_lower text name = ap (λ (xs : List ℕ). bytes_eq xs (lower name)) (lower_twice text)

kind_lower : (text : List ℕ) → kind_of (lower text) ≡ kind_of text
unfolding kind_of
kind_lower text = rw (same_lower text (codes "wire"), same_lower text (codes "via"), same_lower text (codes "pin"), same_lower text (codes "smd")) refl

kinds_lower : (text : List ℕ) (o : Option ℕ) → kinds_at (lower text) o ≡ kinds_at text o
kinds_lower text None = refl
kinds_lower text (Some n) =
    ap (λ (xs : List ℕ). pair_of (kind_of xs) (kind_of (drop (suc n) (lower text)))) (take-map to_ascii_lowercase n text)
    ∙ ap (λ (xs : List ℕ). pair_of (kind_of (lower (take n text))) (kind_of xs)) (drop-map to_ascii_lowercase (suc n) text)
    ∙ ap (λ (o : Option Kind). pair_of o (kind_of (lower (drop (suc n) text)))) (kind_lower (take n text))
    ∙ ap (λ (o : Option Kind). pair_of (kind_of (take n text)) o) (kind_lower (drop (suc n) text))

place_lower : (text : List ℕ) → position (λ c. c == 95) (lower text) ≡ position (λ c. c == 95) text
place_lower text = position-map to_ascii_lowercase (λ c. c == 95) text ∙ ap (λ (p : ℕ → Bool). position p text) (λ i c. mark_kept c i)

what_lower : (text : List ℕ) → what_of (lower text) ≡ what_of text
unfolding what_of
what_lower text =
    ap (λ (b : Bool). cond b (Some DefaultSmd) (kinds_at (lower text) (position (λ c. c == 95) (lower text)))) (same_lower text (codes "default_smd"))
    ∙ ap (λ (o : Option What). cond (same text (codes "default_smd")) (Some DefaultSmd) o) (ap (λ (o : Option ℕ). kinds_at (lower text) o) (place_lower text) ∙ kinds_lower text (position (λ c. c == 95) text))

-- ---- a name is read as its type

abbrev pub pair_name : Kind → Kind → List ℕ
pair_name a b = kind_name a ++ codes "_" ++ kind_name b

pair_read : (a b : Kind) → what_of (lower (pair_name a b)) ≡ Some (Pair a b)
unfolding what_of kind_of same
pair_read Wire Wire = refl
pair_read Wire Via = refl
pair_read Wire Pin = refl
pair_read Wire Smd = refl
pair_read Via Wire = refl
pair_read Via Via = refl
pair_read Via Pin = refl
pair_read Via Smd = refl
pair_read Pin Wire = refl
pair_read Pin Via = refl
pair_read Pin Pin = refl
pair_read Pin Smd = refl
pair_read Smd Wire = refl
pair_read Smd Via = refl
pair_read Smd Pin = refl
pair_read Smd Smd = refl

default_read : what_of (lower (codes "default_smd")) ≡ Some DefaultSmd
unfolding what_of same
default_read = refl

pub lower_same : (text name : List ℕ) → same text name ≡ true → lower text ≡ lower name
unfolding same
lower_same text name e = (bytes_eq-Decides (lower text) (lower name)).0 e

pub same_lowers : (text name : List ℕ) → lower text ≡ lower name → same text name ≡ true
unfolding same
same_lowers text name e = (bytes_eq-Decides (lower text) (lower name)).1 e

read_as : (text name : List ℕ) (w : What) → same text name ≡ true → what_of (lower name) ≡ Some w → what_of text ≡ Some w
read_as text name w e h = sym (what_lower text) ∙ ap what_of (lower_same text name e) ∙ h

pub named_read : (text : List ℕ) (w : What) → is_named text w ≡ true → what_of text ≡ Some w
named_read text Untyped e = absurd cc
named_read text DefaultSmd e = read_as text (codes "default_smd") DefaultSmd e default_read
named_read text (Pair a b) e = read_as text (pair_name a b) (Pair a b) e (pair_read a b)
