-- The rings that are stated are those that are read, and the fault of one is the one that is told.
use Rattle.std.proofs.Common.{◌≡◌, ℕ, ◌≤◌, Bool, true, false, is_some, ltb, List, [], length, Ok, Err, refl, sym, ap, subst, ◌∙◌, arith, inl, inr, ◌⊎◌}
use Rattle.std.specs.Prelude.{◌||◌, not}
use Rattle.std.proofs.lemmas.Bool.{ltb-true, ltb-false, le-ltb, lt-ltb}
use Rattle.sexp_text.specs.Forest.{Forest, End, Word, Branch}
use Rattle.sexp_text.specs.declared.units.Unit.{Unit as LengthUnit}
use Rattle.seg_geometry.specs.declared.points.Pt.{Pt}
use Rattle.dsn_lists.specs.declared.faults.DesignFault.{DesignFault}
use Rattle.dsn_lists.specs.declared.faults.DesignKind.TheVariants as kind
use Rattle.dsn_lists.specs.declared.marks.Mark.{Mark}
use Rattle.dsn_lists.specs.declared.places.Coordinates.{Coordinates}
use Rattle.dsn_lists.specs.Results.{Read, ◌>>=◌}
use Rattle.dsn_lists.specs.Words.{mark, word_of}
use Rattle.dsn_lists.specs.Numbers.{width_word}
use Rattle.dsn_lists.specs.Places.{no_coordinates, coordinates}
use Rattle.dsn_lists.specs.Shapes.{trail}
use Rattle.dsn_lists.specs.Lists.{told}
use Rattle.dsn_lists.specs.ShortLists.{first_words, behind_words}
use Rattle.dsn_lists.specs.Measures.{IsWidth, StatesWidth, WidthWordFault}
use Rattle.dsn_lists.specs.PointWords.{AllLengths, are_even}
use Rattle.dsn_lists.proofs.Firsts.{made, ok_is, bind_ok, bind_err, guard_ok, guard_err, word_fault, word_fault_again}
use Rattle.dsn_lists.proofs.WidthWordLaws.{width_found, width_again, width_fault, width_fault_again}
use Rattle.dsn_lists.proofs.TrailLaws.{trail_found, trail_again, trail_fault, trail_fault_again}
use Rattle.dsn_lists.proofs.CoordinateLaws.{all_read, coordinates_found, coordinates_again, coordinates_fault, coordinates_fault_again, pairs, left, left_is, put_is, pairs_found, pairs_again}
use Rattle.dsn_lists.proofs.PointLaws.{stated}
use Rattle.dsn_shapes.specs.declared.rings.Ring.{Ring}
use Rattle.dsn_shapes.specs.Rings.{opened, as_ring, ring_of}
use Rattle.dsn_shapes.specs.RingLists.{HasRing, IsRing, AreNoRing, RingPointsFault, RingFault}
use Rattle.dsn_shapes.proofs.OpenedLaws.{opened_found, opened_only}

-- ---- whole points, three or more in their ring

abbrev ring : ℕ → List Pt → Ring
ring width points = record { width = width; points = points }

-- the points of these words, and their ring
abbrev ring_read : LengthUnit → List Mark → List Pt
ring_read u ws = opened (pairs u ws)

abbrev falls_short : LengthUnit → List Mark → Bool
falls_short u ws = is_some (left u ws) || ltb (length (ring_read u ws)) 3

or_false : (a b : Bool) → (a || b) ≡ false → (a ≡ false) × (b ≡ false)
or_false true b e = absurd cc
or_false false b e = (refl, e)

or_true : (a b : Bool) → (a || b) ≡ true → (a ≡ true) ⊎ ((a ≡ false) × (b ≡ true))
or_true true b e = inl refl
or_true false b e = inr (refl, e)

is_on : (b : Bool) → not b ≡ false → b ≡ true
is_on true e = refl
is_on false e = absurd cc

is_off : (b : Bool) → not b ≡ true → b ≡ false
is_off true e = absurd cc
is_off false e = refl

whole_found : (u : LengthUnit) (at width : ℕ) (ws : List Mark) (r : Ring) → as_ring at width (stated u ws) ≡ Ok r → (are_even ws ≡ true) × (3 ≤ length (ring_read u ws)) × (ring width (ring_read u ws) ≡ r)
unfolding as_ring
whole_found u at width ws r e =
    let g = guard_ok (falls_short u ws) (told kind.Points at) (made (ring width (ring_read u ws))) r e in
    let o = or_false (is_some (left u ws)) (ltb (length (ring_read u ws)) 3) g.0 in
    let some = ltb-false (length (ring_read u ws)) 3 o.1 in
    (is_on (are_even ws) (sym (left_is u ws) ∙ o.0), omega (arith, some), ok_is (ring width (ring_read u ws)) r g.1)

whole_again : (u : LengthUnit) (at width : ℕ) (ws : List Mark) → are_even ws ≡ true → 3 ≤ length (ring_read u ws) → as_ring at width (stated u ws) ≡ Ok (ring width (ring_read u ws))
unfolding as_ring
whole_again u at width ws even some =
    let whole : is_some (left u ws) ≡ false = left_is u ws ∙ ap not even in
    rw (whole, le-ltb (length (ring_read u ws)) 3 some) refl

whole_fault : (u : LengthUnit) (at width : ℕ) (ws : List Mark) (e : DesignFault) → AllLengths u ws → as_ring at width (stated u ws) ≡ Err e → AreNoRing u ws × (e ≡ told kind.Points at)
unfolding as_ring
whole_fault u at width ws e all h =
    elim (guard_err (falls_short u ws) (told kind.Points at) (made (ring width (ring_read u ws))) e h) [
      | inl here ↦ elim (or_true (is_some (left u ws)) (ltb (length (ring_read u ws)) 3) here.0) [
        | inl odd ↦ (inl (is_off (are_even ws) (sym (left_is u ws) ∙ odd)), here.1)
        | inr few ↦
            let even = is_on (are_even ws) (sym (left_is u ws) ∙ few.0) in
            (inr (pairs u ws, ring_read u ws, pairs_found u ws all even, opened_found (pairs u ws), ltb-true (length (ring_read u ws)) 3 few.1), here.1)
      ]
      | inr later ↦ absurd cc
    ]

or_last : (a : Bool) → (a || true) ≡ true
or_last true = refl
or_last false = refl

no_ring : (u : LengthUnit) (ws : List Mark) → AreNoRing u ws → falls_short u ws ≡ true
no_ring u ws (inl odd) = let half : is_some (left u ws) ≡ true = left_is u ws ∙ ap not odd in rw half refl
no_ring u ws (inr h) =
    let same : pairs u ws ≡ h.0 = (pairs_again u ws h.0 h.2).2 in
    let ring_is : ring_read u ws ≡ h.1 = ap opened same ∙ opened_only h.0 h.1 h.3 in
    ap (λ (ps : List Pt). is_some (left u ws) || ltb (length ps) 3) ring_is ∙ ap (λ (b : Bool). is_some (left u ws) || b) (lt-ltb (length h.1) 3 h.4) ∙ or_last (is_some (left u ws))

whole_fault_again : (u : LengthUnit) (at width : ℕ) (ws : List Mark) (e : DesignFault) → AreNoRing u ws → e ≡ told kind.Points at → as_ring at width (stated u ws) ≡ Err e
unfolding as_ring
whole_fault_again u at width ws e h is = rw (no_ring u ws h, is) refl

-- ---- a ring behind its aperture

abbrev points_rest : ℕ → ℕ → Coordinates × Forest → Read Ring
points_rest at width c = trail c.1 >>= λ _. as_ring at width c.0

abbrev width_rest : LengthUnit → ℕ → Forest → ℕ → Read Ring
width_rest u at rest width = coordinates u no_coordinates rest >>= λ c. points_rest at width c

-- what is read of coordinates
read_is : (u : LengthUnit) (f : Forest) → all_read u no_coordinates f ≡ (stated u (first_words f), behind_words f)
read_is u f = ap (λ (c : Coordinates). (c, behind_words f)) (put_is u (first_words f) [])

rest_found : (u : LengthUnit) (at width : ℕ) (rest : Forest) (r : Ring) → width_rest u at rest width ≡ Ok r → (r.width ≡ width) × HasRing u rest r.points
rest_found u at width rest r e =
    let c = bind_ok (coordinates u no_coordinates rest) (λ c. points_rest at width c) r e in
    let f = coordinates_found u rest no_coordinates c.0 c.1 in
    let behind = ap (λ (x : Coordinates × Forest). points_rest at width x) (sym (f.1 ∙ read_is u rest)) ∙ c.2 in
    let t = bind_ok (trail (behind_words rest)) (λ _. as_ring at width (stated u (first_words rest))) r behind in
    let w = whole_found u at width (first_words rest) r t.2 in
    let has : HasRing u rest (ring_read u (first_words rest)) = record {
      points = pairs u (first_words rest);
      stated = pairs_found u (first_words rest) f.0 w.0;
      open_ = opened_found (pairs u (first_words rest));
      count = w.1;
      lists = trail_found (behind_words rest) t.0 t.1;
    } in
    subst (λ (q : Ring). (q.width ≡ width) × HasRing u rest q.points) w.2 (refl, has)

rest_again : (u : LengthUnit) (at : ℕ) (rest : Forest) (r : Ring) → HasRing u rest r.points → width_rest u at rest r.width ≡ Ok r
rest_again u at rest r h =
    let q = pairs_again u (first_words rest) h.points h.stated in
    let ring_is : ring_read u (first_words rest) ≡ r.points = ap opened q.2 ∙ opened_only h.points r.points h.open_ in
    let many : 3 ≤ length (ring_read u (first_words rest)) = subst (λ (ps : List Pt). 3 ≤ length ps) (sym ring_is) h.count in
    rw (coordinates_again u rest no_coordinates q.0 ∙ ap (λ (x : Coordinates × Forest). made x) (read_is u rest), trail_again (behind_words rest) h.lists)
    (whole_again u at r.width (first_words rest) q.1 many ∙ ap (λ (ps : List Pt). made (ring r.width ps)) ring_is)

rest_fault : (u : LengthUnit) (at width : ℕ) (rest : Forest) (e : DesignFault) → width_rest u at rest width ≡ Err e → RingPointsFault u at rest e
rest_fault u at width rest e h =
    elim (bind_err (coordinates u no_coordinates rest) (λ c. points_rest at width c) e h) [
      | inl here ↦ inl (coordinates_fault u rest no_coordinates e here)
      | inr c ↦
          let f = coordinates_found u rest no_coordinates c.0 c.1 in
          let behind = ap (λ (x : Coordinates × Forest). points_rest at width x) (sym (f.1 ∙ read_is u rest)) ∙ c.2 in
          elim (bind_err (trail (behind_words rest)) (λ _. as_ring at width (stated u (first_words rest))) e behind) [
            | inl list ↦ inr (f.0, inl (trail_fault (behind_words rest) e list))
            | inr t ↦
                let w = whole_fault u at width (first_words rest) e f.0 t.2 in
                inr (f.0, inr (trail_found (behind_words rest) t.0 t.1, w.0, w.1))
          ]
    ]

rest_fault_again : (u : LengthUnit) (at width : ℕ) (rest : Forest) (e : DesignFault) → RingPointsFault u at rest e → width_rest u at rest width ≡ Err e
rest_fault_again u at width rest e (inl here) = rw (coordinates_fault_again u rest no_coordinates e here) refl
rest_fault_again u at width rest e (inr (all, inl list)) =
    rw (coordinates_again u rest no_coordinates all, trail_fault_again (behind_words rest) e list) refl
rest_fault_again u at width rest e (inr (all, inr none)) =
    rw (coordinates_again u rest no_coordinates all ∙ ap (λ (x : Coordinates × Forest). made x) (read_is u rest), trail_again (behind_words rest) none.0)
    (whole_fault_again u at width (first_words rest) e none.1 none.2)

-- ---- a ring

pub ring_found : (u : LengthUnit) (at : ℕ) (f : Forest) (r : Ring) → ring_of u at f ≡ Ok r → IsRing u f r
unfolding ring_of word_of
ring_found u at End r e = absurd cc
ring_found u at (Branch a inside rest) r e = absurd cc
ring_found u at (Word a text rest) r e =
    let w = bind_ok (width_word u (mark a text)) (λ width. width_rest u at rest width) r e in
    let s = rest_found u at w.0 rest r w.2 in
    (subst (λ (n : ℕ). IsWidth u text n) (sym s.0) (width_found u a text w.0 w.1), s.1)

pub ring_again : (u : LengthUnit) (at : ℕ) (f : Forest) (r : Ring) → IsRing u f r → ring_of u at f ≡ Ok r
unfolding ring_of word_of
ring_again u at End r h = absurd h
ring_again u at (Branch a inside rest) r h = absurd h
ring_again u at (Word a text rest) r h = rw (width_again u a text r.width h.0) (rest_again u at rest r h.1)

abbrev RingWordFault : LengthUnit → ℕ → ℕ → List ℕ → Forest → DesignFault → Type 0
RingWordFault u at a text rest e = WidthWordFault u a text e ⊎ (StatesWidth u text × RingPointsFault u at rest e)

ring_word : (u : LengthUnit) (at a : ℕ) (text : List ℕ) (rest : Forest) (e : DesignFault) → (width_word u (mark a text) >>= λ width. width_rest u at rest width) ≡ Err e → RingWordFault u at a text rest e
ring_word u at a text rest e h =
    elim (bind_err (width_word u (mark a text)) (λ width. width_rest u at rest width) e h) [
      | inl here ↦ inl (width_fault u a text e here)
      | inr later ↦ inr ((later.0, width_found u a text later.0 later.1), rest_fault u at later.0 rest e later.2)
    ]

ring_word_again : (u : LengthUnit) (at a : ℕ) (text : List ℕ) (rest : Forest) (e : DesignFault) → RingWordFault u at a text rest e → (width_word u (mark a text) >>= λ width. width_rest u at rest width) ≡ Err e
ring_word_again u at a text rest e (inl here) = rw (width_fault_again u a text e here) refl
ring_word_again u at a text rest e (inr later) = rw (width_again u a text later.0.0 later.0.1) (rest_fault_again u at later.0.0 rest e later.1)

pub ring_fault : (u : LengthUnit) (at : ℕ) (f : Forest) (e : DesignFault) → ring_of u at f ≡ Err e → RingFault u at f e
unfolding ring_of
ring_fault u at f e h = word_fault _ (RingWordFault u at) at f e (λ a text rest k. ring_word u at a text rest e k) h

pub ring_fault_again : (u : LengthUnit) (at : ℕ) (f : Forest) (e : DesignFault) → RingFault u at f e → ring_of u at f ≡ Err e
unfolding ring_of
ring_fault_again u at f e h = word_fault_again _ (RingWordFault u at) at f e (λ a text rest k. ring_word_again u at a text rest e k) h
