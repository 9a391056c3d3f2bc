-- A word names one clearance type at most, the one that is read.
use Rattle.std.proofs.Common.{◌≡◌, ℕ, Bool, true, false, cond, List, [], ◌∷◌, filter, Option, Some, None, option_to_list, refl, sym, ap, ◌∙◌}
use Rattle.board_rules.specs.declared.design.Kind.{Kind}
use Rattle.board_rules.specs.declared.design.Kind.TheVariants.{Wire, Via, Pin, Smd}
use Rattle.board_rules.specs.declared.design.What.{What}
use Rattle.board_rules.specs.declared.design.What.TheVariants.{Untyped, DefaultSmd, Pair}
use Rattle.dsn_lists.specs.Rules.{what_of}
use Rattle.dsn_lists.specs.TypeNames.{is_named, named_types, types_named}
use Rattle.dsn_lists.proofs.TypeWords.{named_read}
use Rattle.dsn_lists.proofs.TypeReadings.{some_is, read_named}

-- ---- one name at most

abbrev is_kind : Kind → Kind → Bool
is_kind Wire Wire = true
is_kind Via Via = true
is_kind Pin Pin = true
is_kind Smd Smd = true
is_kind _ _ = false

abbrev both : Bool → Bool → Bool
both a b = cond a b false

abbrev is_type : What → What → Bool
is_type Untyped Untyped = true
is_type DefaultSmd DefaultSmd = true
is_type (Pair a b) (Pair c d) = both (is_kind a c) (is_kind b d)
is_type _ _ = false

kind_same : (a b : Kind) → is_kind a b ≡ true → a ≡ b
kind_same Wire Wire e = refl
kind_same Wire Via e = absurd cc
kind_same Wire Pin e = absurd cc
kind_same Wire Smd e = absurd cc
kind_same Via Wire e = absurd cc
kind_same Via Via e = refl
kind_same Via Pin e = absurd cc
kind_same Via Smd e = absurd cc
kind_same Pin Wire e = absurd cc
kind_same Pin Via e = absurd cc
kind_same Pin Pin e = refl
kind_same Pin Smd e = absurd cc
kind_same Smd Wire e = absurd cc
kind_same Smd Via e = absurd cc
kind_same Smd Pin e = absurd cc
kind_same Smd Smd e = refl

kind_self : (a : Kind) → is_kind a a ≡ true
kind_self Wire = refl
kind_self Via = refl
kind_self Pin = refl
kind_self Smd = refl

both_true : (a b : Bool) → both a b ≡ true → (a ≡ true) × (b ≡ true)
both_true true b e = (refl, e)
both_true false b e = absurd cc

type_same : (v w : What) → is_type v w ≡ true → v ≡ w
type_same Untyped Untyped e = refl
type_same Untyped DefaultSmd e = absurd cc
type_same Untyped (Pair c d) e = absurd cc
type_same DefaultSmd Untyped e = absurd cc
type_same DefaultSmd DefaultSmd e = refl
type_same DefaultSmd (Pair c d) e = absurd cc
type_same (Pair a b) Untyped e = absurd cc
type_same (Pair a b) DefaultSmd e = absurd cc
type_same (Pair a b) (Pair c d) e = let h = both_true (is_kind a c) (is_kind b d) e in λ i. Pair (kind_same a c h.0 i) (kind_same b d h.1 i)

type_self : (w : What) → is_type w w ≡ true
type_self Untyped = refl
type_self DefaultSmd = refl
type_self (Pair a b) = rw (kind_self a, kind_self b) refl

test_is : (text : List ℕ) (w v : What) → what_of text ≡ Some w → is_named text v ≡ is_type w v
test_is text w v e = by (is_named text v) (is_type w v) refl refl
  where
    by : (p q : Bool) → is_named text v ≡ p → is_type w v ≡ q → p ≡ q
    by true true p q = refl
    by true false p q = let is : w ≡ v = some_is w v (sym e ∙ named_read text v p) in sym (sym (ap (λ (x : What). is_type w x) is ∙ q) ∙ type_self w)
    by false true p q = let is = type_same w v q in sym p ∙ ap (λ (x : What). is_named text x) (sym is) ∙ read_named text w e
    by false false p q = refl

none_named : (text : List ℕ) (v : What) → what_of text ≡ None → is_named text v ≡ false
none_named text v e = by (is_named text v) refl
  where
    by : (p : Bool) → is_named text v ≡ p → p ≡ false
    by true p = let no : None ≡ Some v = sym e ∙ named_read text v p in absurd cc
    by false p = refl

none_of : (p : What → Bool) (ws : List What) → ((w : What) → p w ≡ false) → filter p ws ≡ []
none_of p [] h = refl
none_of p (w ∷ ws) h = rw (h w) (none_of p ws h)

one_of : (w : What) → (w ≡ Untyped → ⊥) → filter (is_type w) named_types ≡ w ∷ []
one_of Untyped h = absurd (h refl)
one_of DefaultSmd h = refl
one_of (Pair Wire Wire) h = refl
one_of (Pair Wire Via) h = refl
one_of (Pair Wire Pin) h = refl
one_of (Pair Wire Smd) h = refl
one_of (Pair Via Wire) h = refl
one_of (Pair Via Via) h = refl
one_of (Pair Via Pin) h = refl
one_of (Pair Via Smd) h = refl
one_of (Pair Pin Wire) h = refl
one_of (Pair Pin Via) h = refl
one_of (Pair Pin Pin) h = refl
one_of (Pair Pin Smd) h = refl
one_of (Pair Smd Wire) h = refl
one_of (Pair Smd Via) h = refl
one_of (Pair Smd Pin) h = refl
one_of (Pair Smd Smd) h = refl

-- a word names what is read of it
pub types_are : (text : List ℕ) → option_to_list (what_of text) ≡ types_named text
types_are text = by (what_of text) refl
  where
    by : (o : Option What) → what_of text ≡ o → option_to_list o ≡ types_named text
    by None e = sym (none_of (is_named text) named_types (λ v. none_named text v e))
    by (Some w) e =
        let typed : w ≡ Untyped → ⊥ = λ u. let no : false ≡ true = ap (λ (x : What). is_named text x) (sym u) ∙ read_named text w e in absurd cc in
        sym (one_of w typed) ∙ ap (λ (p : What → Bool). filter p named_types) (λ i v. sym (test_is text w v e) i)
