-- The widths that words state are those that are read, and their faults are those that are told.
use Rattle.std.proofs.Common.{◌≡◌, ℕ, ℤ, pos, negsuc, ◌≤◌, ◌<ℤ◌, Bool, true, false, int_lt, unsigned_abs, List, Result, Ok, Err, refl, sym, ap, subst, ◌∙◌, arith, inl, inr, ◌⊎◌}
use Rattle.std.specs.Prelude.{◌||◌}
use Rattle.std.proofs.lemmas.Int.{ints}
use Rattle.sexp_text.specs.declared.units.Unit.{Unit as LengthUnit}
use Rattle.sexp_text.specs.declared.num_fault.NumFault.{NumFault}
use Rattle.sexp_text.specs.declared.num_fault.NumFault.TheVariants as num
use Rattle.sexp_text.specs.LengthReading.{length_in}
use Rattle.sexp_text.proofs.LengthLaws.{ok_iff, range_iff, not_number_iff}
use Rattle.dsn_lists.specs.declared.faults.DesignFault.{DesignFault}
use Rattle.dsn_lists.specs.declared.faults.DesignKind.{DesignKind}
use Rattle.dsn_lists.specs.declared.faults.DesignKind.TheVariants as kind
use Rattle.dsn_lists.specs.Results.{Read, ◌>>=◌, wrong}
use Rattle.dsn_lists.specs.Words.{mark}
use Rattle.dsn_lists.specs.Numbers.{length_told, as_width, width_word}
use Rattle.dsn_lists.specs.Lists.{told}
use Rattle.dsn_lists.specs.Measures.{IsWidth, NoWidth, WidthWordFault}
use Rattle.dsn_lists.proofs.Firsts.{made, failed, ok_is, guard_ok, guard_err}

-- ---- the word of a width

beyond : ℤ → Bool
beyond z = int_lt z (pos 0) || int_lt (pos 100000000) z

or_false : (a b : Bool) → (a || b) ≡ false → (a ≡ false) × (b ≡ false)
or_false true b e = absurd cc
or_false false b e = (refl, e)

or_true : (a b : Bool) → (a || b) ≡ true → (a ≡ true) ⊎ (b ≡ true)
or_true true b e = inl refl
or_true false b e = inr e

sized : (z : ℤ) (n : ℕ) → int_lt z (pos 0) ≡ false → int_lt (pos 100000000) z ≡ false → unsigned_abs z ≡ n → (z ≡ pos n) × (n ≤ 100000000)
sized (pos m) n low high e = (ap pos e, let small : m ≤ 100000000 = omega (arith, ints) in omega arith)
sized (negsuc m) n low high e = absurd (omega (arith, ints))

as_width_found : (at : ℕ) (z : ℤ) (n : ℕ) → as_width at z ≡ Ok n → (z ≡ pos n) × (n ≤ 100000000)
unfolding as_width
as_width_found at z n e =
    let g = guard_ok (int_lt z (pos 0) || int_lt (pos 100000000) z) (told kind.Width at) (made (unsigned_abs z)) n e in
    let o = or_false (int_lt z (pos 0)) (int_lt (pos 100000000) z) g.0 in
    sized z n o.0 o.1 (ok_is (unsigned_abs z) n g.1)

within : (n : ℕ) → n ≤ 100000000 → (int_lt (pos n) (pos 0) || int_lt (pos 100000000) (pos n)) ≡ false
within n h = off (int_lt (pos n) (pos 0)) (int_lt (pos 100000000) (pos n)) refl refl
  where
    off : (a b : Bool) → int_lt (pos n) (pos 0) ≡ a → int_lt (pos 100000000) (pos n) ≡ b → (a || b) ≡ false
    off true b p q = absurd (omega (arith, ints))
    off false true p q = absurd (omega (arith, ints))
    off false false p q = refl

as_width_again : (at n : ℕ) → n ≤ 100000000 → as_width at (pos n) ≡ Ok n
unfolding as_width
as_width_again at n h = rw (within n h) refl

below_or_above : (z : ℤ) → (int_lt z (pos 0) ≡ true) ⊎ (int_lt (pos 100000000) z ≡ true) → (z <ℤ pos 0) ⊎ (pos 100000000 <ℤ z)
below_or_above z (inl e) = inl (omega (arith, ints))
below_or_above z (inr e) = inr (omega (arith, ints))

as_width_fault : (at : ℕ) (z : ℤ) (e : DesignFault) → as_width at z ≡ Err e → ((z <ℤ pos 0) ⊎ (pos 100000000 <ℤ z)) × (e ≡ told kind.Width at)
unfolding as_width
as_width_fault at z e h =
    elim (guard_err (int_lt z (pos 0) || int_lt (pos 100000000) z) (told kind.Width at) (made (unsigned_abs z)) e h) [
      | inl here ↦ (below_or_above z (or_true (int_lt z (pos 0)) (int_lt (pos 100000000) z) here.0), here.1)
      | inr later ↦ absurd cc
    ]

is_beyond : (z : ℤ) → (z <ℤ pos 0) ⊎ (pos 100000000 <ℤ z) → (int_lt z (pos 0) || int_lt (pos 100000000) z) ≡ true
is_beyond z h = on (int_lt z (pos 0)) (int_lt (pos 100000000) z) refl refl h
  where
    on : (a b : Bool) → int_lt z (pos 0) ≡ a → int_lt (pos 100000000) z ≡ b → (z <ℤ pos 0) ⊎ (pos 100000000 <ℤ z) → (a || b) ≡ true
    on true b p q h = refl
    on false true p q h = refl
    on false false p q (inl low) = absurd (omega (arith, ints))
    on false false p q (inr high) = absurd (omega (arith, ints))

as_width_fault_again : (at : ℕ) (z : ℤ) → (z <ℤ pos 0) ⊎ (pos 100000000 <ℤ z) → as_width at z ≡ wrong kind.Width at
unfolding as_width
as_width_fault_again at z h = rw (is_beyond z h) refl

pub width_found : (u : LengthUnit) (at : ℕ) (text : List ℕ) (n : ℕ) → width_word u (mark at text) ≡ Ok n → IsWidth u text n
unfolding width_word
width_found u at text n e = by (length_in u text) refl e
  where
    by : (r : Result ℤ NumFault) → length_in u text ≡ r → (length_told at r >>= λ z. as_width at z) ≡ Ok n → IsWidth u text n
    by (Ok z) is e =
        let w = as_width_found at z n e in
        ((ok_iff u text (pos n)).0 (is ∙ ap (λ (x : ℤ). Ok x) w.0), w.1)
    by (Err num.NotNumber) is e = absurd cc
    by (Err num.Range) is e = absurd cc

pub width_again : (u : LengthUnit) (at : ℕ) (text : List ℕ) (n : ℕ) → IsWidth u text n → width_word u (mark at text) ≡ Ok n
unfolding width_word
width_again u at text n h = let is = (ok_iff u text (pos n)).1 h.0 in rw is (as_width_again at n h.1)

no_width : (u : LengthUnit) (at : ℕ) (text : List ℕ) (k : DesignKind) (e : DesignFault) → NoWidth u text k → e ≡ told k at → WidthWordFault u at text e
no_width u at text k e h is = subst (λ (d : DesignFault). WidthWordFault u at text d) (sym is) (h, refl)

pub width_fault : (u : LengthUnit) (at : ℕ) (text : List ℕ) (e : DesignFault) → width_word u (mark at text) ≡ Err e → WidthWordFault u at text e
unfolding width_word
width_fault u at text e h = by (length_in u text) refl h
  where
    by : (r : Result ℤ NumFault) → length_in u text ≡ r → (length_told at r >>= λ z. as_width at z) ≡ Err e → WidthWordFault u at text e
    by (Ok z) is h =
        let w = as_width_fault at z e h in
        no_width u at text kind.Width e (z, (ok_iff u text z).0 is, w.0) w.1
    by (Err num.NotNumber) is h = no_width u at text kind.Number e ((not_number_iff u text).0 is) cc
    by (Err num.Range) is h = no_width u at text kind.Range e ((range_iff u text).0 is) cc

pub width_fault_again : (u : LengthUnit) (at : ℕ) (text : List ℕ) (e : DesignFault) → WidthWordFault u at text e → width_word u (mark at text) ≡ Err e
unfolding width_word
width_fault_again u at text e h = by e.kind h.0 ∙ ap (λ (a : ℕ). failed (told e.kind a)) (sym h.1)
  where
    by : (k : DesignKind) → NoWidth u text k → width_word u (mark at text) ≡ wrong k at
    by kind.Number none = rw ((not_number_iff u text).1 none) refl
    by kind.Range far = rw ((range_iff u text).1 far) refl
    by kind.Width w = rw ((ok_iff u text w.0).1 w.1) (as_width_fault_again at w.0 w.2)
    by _ none = absurd none

abbrev value_of : Read ℕ → ℕ
value_of (Ok n) = n
value_of (Err e) = 0

-- the width that is read of a text
abbrev pub width_value : LengthUnit → List ℕ → ℕ
width_value u text = value_of (width_word u (mark 0 text))

pub value_is : (u : LengthUnit) (text : List ℕ) (n : ℕ) → IsWidth u text n → width_value u text ≡ n
value_is u text n h = rw (width_again u 0 text n h) refl
