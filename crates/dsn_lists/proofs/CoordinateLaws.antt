-- The coordinates that words state are those that are read, and their faults are those that are told.
use Rattle.std.proofs.Common.{◌≡◌, ℕ, ℤ, ◌*◌, true, is_some, List, [], ◌∷◌, ◌++◌, length, Option, Some, None, Ok, Err, refl, sym, ap, subst, ◌∙◌, append_assoc, arith, inl, inr}
use Rattle.std.specs.Prelude.{not}
use Rattle.std.proofs.lemmas.List.{append-nil}
use Rattle.sexp_text.specs.Forest.{Forest, End, Word, Branch}
use Rattle.sexp_text.specs.declared.units.Unit.{Unit as LengthUnit}
use Rattle.seg_geometry.specs.declared.points.Pt.{Pt}
use Rattle.dsn_lists.specs.declared.faults.DesignFault.{DesignFault}
use Rattle.dsn_lists.specs.declared.marks.Mark.{Mark}
use Rattle.dsn_lists.specs.declared.places.Coordinates.{Coordinates}
use Rattle.dsn_lists.specs.Words.{mark}
use Rattle.dsn_lists.specs.Numbers.{length_word}
use Rattle.dsn_lists.specs.Places.{point, with_one, coordinates}
use Rattle.dsn_lists.specs.ShortLists.{first_words, behind_words}
use Rattle.dsn_lists.specs.Measures.{Measures}
use Rattle.dsn_lists.specs.PointWords.{StatesLength, AllLengths, LengthsFault, ArePoints, are_even}
use Rattle.dsn_lists.proofs.Firsts.{ok_is, bind_ok, bind_err}
use Rattle.dsn_lists.proofs.LengthWordLaws.{length_found, length_again, length_fault, length_fault_again, length_value, length_is}

-- ---- coordinates one after another

-- the coordinates behind these words
abbrev pub put_all : LengthUnit → Coordinates → List Mark → Coordinates
put_all u c [] = c
put_all u c (w ∷ ws) = put_all u (with_one c (length_value u w.name)) ws

-- what is read of these coordinates
abbrev pub all_read : LengthUnit → Coordinates → Forest → Coordinates × Forest
all_read u c f = (put_all u c (first_words f), behind_words f)

pub coordinates_found : (u : LengthUnit) (f : Forest) (c : Coordinates) (r : Coordinates × Forest) → coordinates u c f ≡ Ok r → AllLengths u (first_words f) × (r ≡ all_read u c f)
unfolding coordinates
coordinates_found u End c r e = (tt, sym (ok_is (c, End) r e))
coordinates_found u (Word at text rest) c r e =
    let z = bind_ok (length_word u (mark at text)) (λ z. coordinates u (with_one c z) rest) r e in
    let is = length_found u at text z.0 z.1 in
    let more = coordinates_found u rest (with_one c z.0) r z.2 in
    (((z.0, is), more.0), more.1 ∙ ap (λ (v : ℤ). all_read u (with_one c v) rest) (sym (length_is u text z.0 is)))
coordinates_found u (Branch at inside rest) c r e = (tt, sym (ok_is (c, Branch at inside rest) r e))

pub coordinates_again : (u : LengthUnit) (f : Forest) (c : Coordinates) → AllLengths u (first_words f) → coordinates u c f ≡ Ok (all_read u c f)
unfolding coordinates
coordinates_again u End c h = refl
coordinates_again u (Word at text rest) c h =
    rw (length_again u at text h.0.0 h.0.1) (coordinates_again u rest (with_one c h.0.0) h.1 ∙ ap (λ (v : ℤ). Ok (all_read u (with_one c v) rest)) (sym (length_is u text h.0.0 h.0.1)))
coordinates_again u (Branch at inside rest) c h = refl

pub coordinates_fault : (u : LengthUnit) (f : Forest) (c : Coordinates) (e : DesignFault) → coordinates u c f ≡ Err e → LengthsFault u (first_words f) e
unfolding coordinates
coordinates_fault u End c e h = absurd cc
coordinates_fault u (Word at text rest) c e h =
    elim (bind_err (length_word u (mark at text)) (λ z. coordinates u (with_one c z) rest) e h) [
      | inl here ↦ inl (length_fault u at text e here)
      | inr later ↦ inr ((later.0, length_found u at text later.0 later.1), coordinates_fault u rest (with_one c later.0) e later.2)
    ]
coordinates_fault u (Branch at inside rest) c e h = absurd cc

pub coordinates_fault_again : (u : LengthUnit) (f : Forest) (c : Coordinates) (e : DesignFault) → LengthsFault u (first_words f) e → coordinates u c f ≡ Err e
unfolding coordinates
coordinates_fault_again u End c e h = absurd h
coordinates_fault_again u (Word at text rest) c e (inl here) = rw (length_fault_again u at text e here) refl
coordinates_fault_again u (Word at text rest) c e (inr later) = rw (length_again u at text later.0.0 later.0.1) (coordinates_fault_again u rest (with_one c later.0.0) e later.1)
coordinates_fault_again u (Branch at inside rest) c e h = absurd h

-- ---- two and two

-- the points of the words, two and two
abbrev pub pairs : LengthUnit → List Mark → List Pt
pairs u [] = []
pairs u (x ∷ []) = []
pairs u (x ∷ y ∷ ws) = point (length_value u x.name) (length_value u y.name) ∷ pairs u ws

-- the coordinate that is left over
abbrev pub left : LengthUnit → List Mark → Option ℤ
left u [] = None
left u (x ∷ []) = Some (length_value u x.name)
left u (x ∷ y ∷ ws) = left u ws

pub put_is : (u : LengthUnit) (ws : List Mark) (ps : List Pt) → put_all u (record { points = ps; half = None }) ws ≡ record { points = ps ++ pairs u ws; half = left u ws }
put_is u [] ps = λ i. record { points = sym (append-nil ps) i; half = None }
put_is u (x ∷ []) ps = λ i. record { points = sym (append-nil ps) i; half = Some (length_value u x.name) }
put_is u (x ∷ y ∷ ws) ps =
    let p = point (length_value u x.name) (length_value u y.name) in
    put_is u ws (ps ++ point (length_value u x.name) (length_value u y.name) ∷ [])
    ∙ ap (λ (qs : List Pt). record { points = qs; half = left u ws }) (append_assoc ps (point (length_value u x.name) (length_value u y.name) ∷ []) (pairs u ws))

pub left_is : (u : LengthUnit) (ws : List Mark) → is_some (left u ws) ≡ not (are_even ws)
left_is u [] = refl
left_is u (x ∷ []) = refl
left_is u (x ∷ y ∷ ws) = left_is u ws

pub even_length : (u : LengthUnit) (ws : List Mark) → are_even ws ≡ true → length ws ≡ 2 * length (pairs u ws)
even_length u [] h = refl
even_length u (x ∷ []) h = absurd cc
even_length u (x ∷ y ∷ ws) h = let more = even_length u ws h in omega (arith, more)

measured : (u : LengthUnit) (text : List ℕ) → StatesLength u text → Measures u text (Ok (length_value u text))
measured u text h = subst (λ (z : ℤ). Measures u text (Ok z)) (sym (length_is u text h.0 h.1)) h.1

pub pairs_found : (u : LengthUnit) (ws : List Mark) → AllLengths u ws → are_even ws ≡ true → ArePoints u ws (pairs u ws)
pairs_found u [] all h = refl
pairs_found u (x ∷ []) all h = absurd cc
pairs_found u (x ∷ y ∷ ws) all h = (measured u x.name all.0, measured u y.name all.1.0, pairs_found u ws all.1.1 h)

pub pairs_again : (u : LengthUnit) (ws : List Mark) (ps : List Pt) → ArePoints u ws ps → AllLengths u ws × (are_even ws ≡ true) × (pairs u ws ≡ ps)
pairs_again u [] ps h = (tt, refl, sym h)
pairs_again u (x ∷ []) ps h = absurd h
pairs_again u (x ∷ y ∷ ws) [] h = absurd h
pairs_again u (x ∷ y ∷ ws) (p ∷ ps) h =
    let more = pairs_again u ws ps h.2 in
    (((p.x, h.0), ((p.y, h.1), more.0)), more.1, λ i. record { x = length_is u x.name p.x h.0 i; y = length_is u y.name p.y h.1 i } ∷ more.2 i)
