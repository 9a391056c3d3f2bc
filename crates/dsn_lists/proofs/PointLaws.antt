-- Coordinates that are whole points, two or more, are those that are read as such.
use Rattle.std.proofs.Common.{◌≡◌, ℕ, ◌≤◌, Bool, true, false, is_some, ltb, List, length, Ok, Err, refl, sym, ap, ◌∙◌, arith, inl, inr, ◌⊎◌}
use Rattle.std.specs.Prelude.{◌||◌, not}
use Rattle.std.proofs.lemmas.Bool.{ltb-true, ltb-false, le-ltb, lt-ltb}
use Rattle.sexp_text.specs.declared.units.Unit.{Unit as LengthUnit}
use Rattle.seg_geometry.specs.declared.points.Pt.{Pt}
use Rattle.dsn_lists.specs.declared.faults.DesignFault.{DesignFault}
use Rattle.dsn_lists.specs.declared.faults.DesignKind.TheVariants as kind
use Rattle.dsn_lists.specs.declared.marks.Mark.{Mark}
use Rattle.dsn_lists.specs.declared.places.Coordinates.{Coordinates}
use Rattle.dsn_lists.specs.declared.shapes.Path.{Path}
use Rattle.dsn_lists.specs.Shapes.{as_path}
use Rattle.dsn_lists.specs.Lists.{told}
use Rattle.dsn_lists.specs.PointWords.{are_even}
use Rattle.dsn_lists.specs.ShapeLists.{AreNoPoints}
use Rattle.dsn_lists.proofs.Firsts.{made, ok_is, guard_ok, guard_err}
use Rattle.dsn_lists.proofs.CoordinateLaws.{pairs, left, left_is, even_length}

-- ---- whole points, two or more

abbrev pub path : ℕ → List Pt → Path
path width points = record { width = width; points = points }

-- the points of these words, as they are read
abbrev pub stated : LengthUnit → List Mark → Coordinates
stated u ws = record { points = pairs u ws; half = left u ws }

or_false : (a b : Bool) → (a || b) ≡ false → (a ≡ false) × (b ≡ false)
or_false true b e = absurd cc
or_false false b e = (refl, e)

or_true : (a b : Bool) → (a || b) ≡ true → (a ≡ true) ⊎ ((a ≡ false) × (b ≡ true))
or_true true b e = inl refl
or_true false b e = inr (refl, e)

is_on : (b : Bool) → not b ≡ false → b ≡ true
is_on true e = refl
is_on false e = absurd cc

is_off : (b : Bool) → not b ≡ true → b ≡ false
is_off true e = absurd cc
is_off false e = refl

pub whole_found : (u : LengthUnit) (at width : ℕ) (ws : List Mark) (p : Path) → as_path at width (stated u ws) ≡ Ok p → (are_even ws ≡ true) × (2 ≤ length (pairs u ws)) × (path width (pairs u ws) ≡ p)
unfolding as_path
whole_found u at width ws p e =
    let g = guard_ok (is_some (left u ws) || ltb (length (pairs u ws)) 2) (told kind.Points at) (made (path width (pairs u ws))) p e in
    let o = or_false (is_some (left u ws)) (ltb (length (pairs u ws)) 2) g.0 in
    let some = ltb-false (length (pairs u ws)) 2 o.1 in
    (is_on (are_even ws) (sym (left_is u ws) ∙ o.0), omega arith, ok_is (path width (pairs u ws)) p g.1)

pub whole_again : (u : LengthUnit) (at width : ℕ) (ws : List Mark) → are_even ws ≡ true → 2 ≤ length (pairs u ws) → as_path at width (stated u ws) ≡ Ok (path width (pairs u ws))
unfolding as_path
whole_again u at width ws even some =
    let whole : is_some (left u ws) ≡ false = left_is u ws ∙ ap not even in
    rw (whole, le-ltb (length (pairs u ws)) 2 some) refl

pub whole_fault : (u : LengthUnit) (at width : ℕ) (ws : List Mark) (e : DesignFault) → as_path at width (stated u ws) ≡ Err e → AreNoPoints ws × (e ≡ told kind.Points at)
unfolding as_path
whole_fault u at width ws e h =
    elim (guard_err (is_some (left u ws) || ltb (length (pairs u ws)) 2) (told kind.Points at) (made (path width (pairs u ws))) e h) [
      | inl here ↦ elim (or_true (is_some (left u ws)) (ltb (length (pairs u ws)) 2) here.0) [
        | inl odd ↦ (inl (is_off (are_even ws) (sym (left_is u ws) ∙ odd)), here.1)
        | inr few ↦
            let even = is_on (are_even ws) (sym (left_is u ws) ∙ few.0) in
            let less = ltb-true (length (pairs u ws)) 2 few.1 in
            let twice = even_length u ws even in
            (inr (omega (arith, less, twice)), here.1)
      ]
      | inr later ↦ absurd cc
    ]

no_points : (u : LengthUnit) (ws : List Mark) → AreNoPoints ws → (is_some (left u ws) || ltb (length (pairs u ws)) 2) ≡ true
no_points u ws (inl odd) = let half : is_some (left u ws) ≡ true = left_is u ws ∙ ap not odd in rw half refl
no_points u ws (inr few) = by (are_even ws) refl
  where
    or_last : (a : Bool) → (a || true) ≡ true
    or_last true = refl
    or_last false = refl

    by : (b : Bool) → are_even ws ≡ b → (is_some (left u ws) || ltb (length (pairs u ws)) 2) ≡ true
    by true even = let twice = even_length u ws even in rw (lt-ltb (length (pairs u ws)) 2 (omega (arith, few, twice))) (or_last (is_some (left u ws)))
    by false odd = let half : is_some (left u ws) ≡ true = left_is u ws ∙ ap not odd in rw half refl

pub whole_fault_again : (u : LengthUnit) (at width : ℕ) (ws : List Mark) (e : DesignFault) → AreNoPoints ws → e ≡ told kind.Points at → as_path at width (stated u ws) ≡ Err e
unfolding as_path
whole_fault_again u at width ws e h is = rw (no_points u ws h, is) refl
