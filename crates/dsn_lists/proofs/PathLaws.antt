-- The paths that are stated are those that are read, and the fault of one is the one that is told.
use Rattle.std.proofs.Common.{◌≡◌, ℕ, ◌≤◌, List, [], length, Ok, Err, refl, sym, ap, subst, ◌∙◌, inl, inr, ◌⊎◌}
use Rattle.sexp_text.specs.Forest.{Forest, End, Word, Branch}
use Rattle.sexp_text.specs.declared.units.Unit.{Unit as LengthUnit}
use Rattle.seg_geometry.specs.declared.points.Pt.{Pt}
use Rattle.dsn_lists.specs.declared.faults.DesignFault.{DesignFault}
use Rattle.dsn_lists.specs.declared.places.Coordinates.{Coordinates}
use Rattle.dsn_lists.specs.declared.shapes.Path.{Path}
use Rattle.dsn_lists.specs.Results.{Read, ◌>>=◌}
use Rattle.dsn_lists.specs.Words.{mark, word_of}
use Rattle.dsn_lists.specs.Numbers.{width_word}
use Rattle.dsn_lists.specs.Places.{no_coordinates, coordinates}
use Rattle.dsn_lists.specs.Shapes.{trail, as_path, path_of}
use Rattle.dsn_lists.specs.ShortLists.{first_words, behind_words}
use Rattle.dsn_lists.specs.Measures.{IsWidth, StatesWidth, WidthWordFault}
use Rattle.dsn_lists.specs.PointWords.{ArePoints}
use Rattle.dsn_lists.specs.TrailLists.{IsTrail}
use Rattle.dsn_lists.specs.ShapeLists.{IsPath, PointsFault, PathFault}
use Rattle.dsn_lists.proofs.Firsts.{made, bind_ok, bind_err, word_fault, word_fault_again}
use Rattle.dsn_lists.proofs.WidthWordLaws.{width_found, width_again, width_fault, width_fault_again}
use Rattle.dsn_lists.proofs.TrailLaws.{trail_found, trail_again, trail_fault, trail_fault_again}
use Rattle.dsn_lists.proofs.CoordinateLaws.{all_read, coordinates_found, coordinates_again, coordinates_fault, coordinates_fault_again, pairs, put_is, pairs_found, pairs_again}
use Rattle.dsn_lists.proofs.PointLaws.{path, stated, whole_again, whole_fault, whole_fault_again, whole_found}

-- ---- a path behind its aperture

abbrev points_rest : ℕ → ℕ → Coordinates × Forest → Read Path
points_rest at width c = trail c.1 >>= λ _. as_path at width c.0

abbrev width_rest : LengthUnit → ℕ → Forest → ℕ → Read Path
width_rest u at rest width = coordinates u no_coordinates rest >>= λ c. points_rest at width c

-- what is read of coordinates
pub read_is : (u : LengthUnit) (f : Forest) → all_read u no_coordinates f ≡ (stated u (first_words f), behind_words f)
read_is u f = ap (λ (c : Coordinates). (c, behind_words f)) (put_is u (first_words f) [])

rest_found : (u : LengthUnit) (at width : ℕ) (rest : Forest) (p : Path) → width_rest u at rest width ≡ Ok p
    → (p.width ≡ width) × ArePoints u (first_words rest) p.points × (2 ≤ length p.points) × IsTrail (behind_words rest)
rest_found u at width rest p e =
    let c = bind_ok (coordinates u no_coordinates rest) (λ c. points_rest at width c) p e in
    let f = coordinates_found u rest no_coordinates c.0 c.1 in
    let behind = ap (λ (x : Coordinates × Forest). points_rest at width x) (sym (f.1 ∙ read_is u rest)) ∙ c.2 in
    let t = bind_ok (trail (behind_words rest)) (λ _. as_path at width (stated u (first_words rest))) p behind in
    let w = whole_found u at width (first_words rest) p t.2 in
    let points = pairs_found u (first_words rest) f.0 w.0 in
    subst (λ (q : Path). (q.width ≡ width) × ArePoints u (first_words rest) q.points × (2 ≤ length q.points) × IsTrail (behind_words rest)) w.2
    (refl, points, w.1, trail_found (behind_words rest) t.0 t.1)

rest_again : (u : LengthUnit) (at : ℕ) (rest : Forest) (p : Path) → ArePoints u (first_words rest) p.points → 2 ≤ length p.points → IsTrail (behind_words rest) → width_rest u at rest p.width ≡ Ok p
rest_again u at rest p points some lists =
    let q = pairs_again u (first_words rest) p.points points in
    let many : 2 ≤ length (pairs u (first_words rest)) = subst (λ (ps : List Pt). 2 ≤ length ps) (sym q.2) some in
    rw (coordinates_again u rest no_coordinates q.0 ∙ ap (λ (x : Coordinates × Forest). made x) (read_is u rest), trail_again (behind_words rest) lists)
    (whole_again u at p.width (first_words rest) q.1 many ∙ ap (λ (ps : List Pt). made (path p.width ps)) q.2)

rest_fault : (u : LengthUnit) (at width : ℕ) (rest : Forest) (e : DesignFault) → width_rest u at rest width ≡ Err e → PointsFault u at rest e
rest_fault u at width rest e h =
    elim (bind_err (coordinates u no_coordinates rest) (λ c. points_rest at width c) e h) [
      | inl here ↦ inl (coordinates_fault u rest no_coordinates e here)
      | inr c ↦
          let f = coordinates_found u rest no_coordinates c.0 c.1 in
          let behind = ap (λ (x : Coordinates × Forest). points_rest at width x) (sym (f.1 ∙ read_is u rest)) ∙ c.2 in
          elim (bind_err (trail (behind_words rest)) (λ _. as_path at width (stated u (first_words rest))) e behind) [
            | inl list ↦ inr (f.0, inl (trail_fault (behind_words rest) e list))
            | inr t ↦
                let w = whole_fault u at width (first_words rest) e t.2 in
                inr (f.0, inr (trail_found (behind_words rest) t.0 t.1, w.0, w.1))
          ]
    ]

rest_fault_again : (u : LengthUnit) (at width : ℕ) (rest : Forest) (e : DesignFault) → PointsFault u at rest e → width_rest u at rest width ≡ Err e
rest_fault_again u at width rest e (inl here) = rw (coordinates_fault_again u rest no_coordinates e here) refl
rest_fault_again u at width rest e (inr (all, inl list)) =
    rw (coordinates_again u rest no_coordinates all, trail_fault_again (behind_words rest) e list) refl
rest_fault_again u at width rest e (inr (all, inr none)) =
    rw (coordinates_again u rest no_coordinates all ∙ ap (λ (x : Coordinates × Forest). made x) (read_is u rest), trail_again (behind_words rest) none.0)
    (whole_fault_again u at width (first_words rest) e none.1 none.2)

-- ---- a path

pub path_found : (u : LengthUnit) (at : ℕ) (f : Forest) (p : Path) → path_of u at f ≡ Ok p → IsPath u f p
unfolding path_of word_of
path_found u at End p e = absurd cc
path_found u at (Branch a inside rest) p e = absurd cc
path_found u at (Word a text rest) p e =
    let w = bind_ok (width_word u (mark a text)) (λ width. width_rest u at rest width) p e in
    let r = rest_found u at w.0 rest p w.2 in
    (subst (λ (n : ℕ). IsWidth u text n) (sym r.0) (width_found u a text w.0 w.1), r.1, r.2, r.3)

pub path_again : (u : LengthUnit) (at : ℕ) (f : Forest) (p : Path) → IsPath u f p → path_of u at f ≡ Ok p
unfolding path_of word_of
path_again u at End p h = absurd h
path_again u at (Branch a inside rest) p h = absurd h
path_again u at (Word a text rest) p h = rw (width_again u a text p.width h.0) (rest_again u at rest p h.1 h.2 h.3)

abbrev PathWordFault : LengthUnit → ℕ → ℕ → List ℕ → Forest → DesignFault → Type 0
PathWordFault u at a text rest e = WidthWordFault u a text e ⊎ (StatesWidth u text × PointsFault u at rest e)

path_word : (u : LengthUnit) (at a : ℕ) (text : List ℕ) (rest : Forest) (e : DesignFault) → (width_word u (mark a text) >>= λ width. width_rest u at rest width) ≡ Err e → PathWordFault u at a text rest e
path_word u at a text rest e h =
    elim (bind_err (width_word u (mark a text)) (λ width. width_rest u at rest width) e h) [
      | inl here ↦ inl (width_fault u a text e here)
      | inr later ↦ inr ((later.0, width_found u a text later.0 later.1), rest_fault u at later.0 rest e later.2)
    ]

path_word_again : (u : LengthUnit) (at a : ℕ) (text : List ℕ) (rest : Forest) (e : DesignFault) → PathWordFault u at a text rest e → (width_word u (mark a text) >>= λ width. width_rest u at rest width) ≡ Err e
path_word_again u at a text rest e (inl here) = rw (width_fault_again u a text e here) refl
path_word_again u at a text rest e (inr later) = rw (width_again u a text later.0.0 later.0.1) (rest_fault_again u at later.0.0 rest e later.1)

pub path_fault : (u : LengthUnit) (at : ℕ) (f : Forest) (e : DesignFault) → path_of u at f ≡ Err e → PathFault u at f e
unfolding path_of
path_fault u at f e h = word_fault _ (PathWordFault u at) at f e (λ a text rest k. path_word u at a text rest e k) h

pub path_fault_again : (u : LengthUnit) (at : ℕ) (f : Forest) (e : DesignFault) → PathFault u at f e → path_of u at f ≡ Err e
unfolding path_of
path_fault_again u at f e h = word_fault_again _ (PathWordFault u at) at f e (λ a text rest k. path_word_again u at a text rest e k) h
