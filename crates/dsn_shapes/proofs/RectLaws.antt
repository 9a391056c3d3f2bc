-- The rectangles that are stated are those that are read, and the fault of one is the one that is told.
use Rattle.std.proofs.Common.{◌≡◌, ℕ, ℤ, List, Ok, Err, refl, sym, ap, subst, inl, inr, ◌⊎◌}
use Rattle.sexp_text.specs.Forest.{Forest, End, Word, Branch}
use Rattle.sexp_text.specs.declared.units.Unit.{Unit as LengthUnit}
use Rattle.seg_geometry.specs.declared.points.Pt.{Pt}
use Rattle.dsn_lists.specs.declared.faults.DesignFault.{DesignFault}
use Rattle.dsn_lists.specs.Results.{Read, ◌>>=◌}
use Rattle.dsn_lists.specs.Words.{mark, word_of}
use Rattle.dsn_lists.specs.Numbers.{length_word}
use Rattle.dsn_lists.specs.Places.{point}
use Rattle.dsn_lists.specs.Shapes.{trail, point_of}
use Rattle.dsn_lists.specs.Measures.{Measures}
use Rattle.dsn_lists.specs.TrailLists.{IsTrail, TrailFault}
use Rattle.dsn_lists.proofs.Firsts.{made, failed, ok_is, bind_ok, bind_err}
use Rattle.dsn_lists.proofs.LengthWordLaws.{length_found, length_again, length_fault, length_fault_again}
use Rattle.dsn_lists.proofs.TrailLaws.{trail_found, trail_again, trail_fault, trail_fault_again}
use Rattle.dsn_shapes.specs.Rings.{corner_of, corners, rect_of}
use Rattle.dsn_shapes.specs.RectLists.{HasLength, IsRect, LengthFault, RectFault}

-- ---- a corner

abbrev y_rest : LengthUnit → ℕ → ℤ → Forest → Read (Pt × Forest)
y_rest u at x rest = word_of at rest >>= λ v. length_word u v.0 >>= λ y. made (point x y, v.1)

abbrev y_made : ℤ → Forest → ℤ → Read (Pt × Forest)
y_made x g y = made (point x y, g)

-- a corner, and this of what follows
abbrev HasCorner : LengthUnit → Pt → (Forest → Type 0) → Forest → Type 0
HasCorner u p Holds f = HasLength u p.x (HasLength u p.y Holds) f

y_found : (u : LengthUnit) (at : ℕ) (x : ℤ) (f : Forest) (p : Pt × Forest) (Holds : Forest → Type 0) → y_rest u at x f ≡ Ok p → Holds p.1 → (x ≡ p.0.x) × HasLength u p.0.y Holds f
unfolding word_of
y_found u at x End p Holds e h = absurd cc
y_found u at x (Branch a inside rest) p Holds e h = absurd cc
y_found u at x (Word a text rest) p Holds e h =
    let y = bind_ok (length_word u (mark a text)) (y_made x rest) p e in
    subst (λ (r : Pt × Forest). Holds r.1 → (x ≡ r.0.x) × (Measures u text (Ok r.0.y) × Holds rest)) (ok_is (point x y.0, rest) p y.2)
    (λ k. (refl, (length_found u a text y.0 y.1, k))) h

corner_found : (u : LengthUnit) (at : ℕ) (f : Forest) (p : Pt × Forest) (Holds : Forest → Type 0) → corner_of u at f ≡ Ok p → Holds p.1 → HasCorner u p.0 Holds f
unfolding corner_of point_of word_of
corner_found u at End p Holds e h = absurd cc
corner_found u at (Branch a inside rest) p Holds e h = absurd cc
corner_found u at (Word a text rest) p Holds e h =
    let x = bind_ok (length_word u (mark a text)) (λ x. y_rest u at x rest) p e in
    let y = y_found u at x.0 rest p Holds x.2 h in
    (subst (λ (z : ℤ). Measures u text (Ok z)) y.0 (length_found u a text x.0 x.1), y.1)

y_again : (u : LengthUnit) (at : ℕ) (x y : ℤ) (f : Forest) (Holds : Forest → Type 0) → HasLength u y Holds f → (g : Forest) × (y_rest u at x f ≡ Ok (point x y, g)) × Holds g
unfolding word_of
y_again u at x y End Holds h = absurd h
y_again u at x y (Branch a inside rest) Holds h = absurd h
y_again u at x y (Word a text rest) Holds h = (rest, rw (length_again u a text y h.0) refl, h.1)

corner_again : (u : LengthUnit) (at : ℕ) (p : Pt) (f : Forest) (Holds : Forest → Type 0) → HasCorner u p Holds f → (g : Forest) × (corner_of u at f ≡ Ok (p, g)) × Holds g
unfolding corner_of point_of word_of
corner_again u at p End Holds h = absurd h
corner_again u at p (Branch a inside rest) Holds h = absurd h
corner_again u at p (Word a text rest) Holds h =
    let y = y_again u at p.x p.y rest Holds h.1 in
    (y.0, rw (length_again u a text p.x h.0) y.1, y.2)

-- ---- the fault of a corner

-- the fault of a corner, or this one of what follows
abbrev CornerFault : LengthUnit → ℕ → (Forest → DesignFault → Type 0) → Forest → DesignFault → Type 0
CornerFault u at Behind f e = LengthFault u at (LengthFault u at Behind) f e

y_fault : (u : LengthUnit) (at : ℕ) (x : ℤ) (f : Forest) (Behind : Forest → DesignFault → Type 0) (e : DesignFault) → y_rest u at x f ≡ Err e → LengthFault u at Behind f e
unfolding word_of
y_fault u at x End Behind e h = cc
y_fault u at x (Branch a inside rest) Behind e h = cc
y_fault u at x (Word a text rest) Behind e h =
    elim (bind_err (length_word u (mark a text)) (y_made x rest) e h) [
      | inl here ↦ inl (length_fault u a text e here)
      | inr later ↦ absurd cc
    ]

one_fault : (u : LengthUnit) (at : ℕ) (f : Forest) (Behind : Forest → DesignFault → Type 0) (e : DesignFault) → corner_of u at f ≡ Err e → CornerFault u at Behind f e
unfolding corner_of point_of word_of
one_fault u at End Behind e h = cc
one_fault u at (Branch a inside rest) Behind e h = cc
one_fault u at (Word a text rest) Behind e h =
    elim (bind_err (length_word u (mark a text)) (λ x. y_rest u at x rest) e h) [
      | inl here ↦ inl (length_fault u a text e here)
      | inr later ↦ inr ((later.0, length_found u a text later.0 later.1), y_fault u at later.0 rest Behind e later.2)
    ]

behind_y : (u : LengthUnit) (at : ℕ) (y : ℤ) (f : Forest) (Behind : Forest → DesignFault → Type 0) (e : DesignFault) → HasLength u y (λ g. Behind g e) f → LengthFault u at Behind f e
behind_y u at y End Behind e h = absurd h
behind_y u at y (Branch a inside rest) Behind e h = absurd h
behind_y u at y (Word a text rest) Behind e h = inr ((y, h.0), h.1)

behind_corner : (u : LengthUnit) (at : ℕ) (p : Pt) (f : Forest) (Behind : Forest → DesignFault → Type 0) (e : DesignFault) → HasCorner u p (λ g. Behind g e) f → CornerFault u at Behind f e
behind_corner u at p End Behind e h = absurd h
behind_corner u at p (Branch a inside rest) Behind e h = absurd h
behind_corner u at p (Word a text rest) Behind e h = inr ((p.x, h.0), behind_y u at p.y rest Behind e h.1)

corner_fault : {A : Type 0} (u : LengthUnit) (at : ℕ) (f : Forest) (next : Pt × Forest → Read A) (Behind : Forest → DesignFault → Type 0) (e : DesignFault)
    → ((p : Pt) (g : Forest) → next (p, g) ≡ Err e → Behind g e) → (corner_of u at f >>= next) ≡ Err e → CornerFault u at Behind f e
corner_fault u at f next Behind e more h =
    elim (bind_err (corner_of u at f) next e h) [
      | inl here ↦ one_fault u at f Behind e here
      | inr p ↦ behind_corner u at p.0.0 f Behind e (corner_found u at f p.0 (λ g. Behind g e) p.1 (more p.0.0 p.0.1 p.2))
    ]

-- a corner has this fault, or it is read and what follows has this one
abbrev BreaksAt : LengthUnit → ℕ → Forest → (Forest → DesignFault → Type 0) → DesignFault → Type 0
BreaksAt u at f Behind e = (corner_of u at f ≡ Err e) ⊎ ((p : Pt) × (g : Forest) × (corner_of u at f ≡ Ok (p, g)) × Behind g e)

abbrev BreaksBehind : LengthUnit → ℕ → ℤ → Forest → (Forest → DesignFault → Type 0) → DesignFault → Type 0
BreaksBehind u at x f Behind e = (y_rest u at x f ≡ Err e) ⊎ ((y : ℤ) × (g : Forest) × (y_rest u at x f ≡ Ok (point x y, g)) × Behind g e)

y_breaks : (u : LengthUnit) (at : ℕ) (x : ℤ) (f : Forest) (Behind : Forest → DesignFault → Type 0) (e : DesignFault) → LengthFault u at Behind f e → BreaksBehind u at x f Behind e
unfolding word_of
y_breaks u at x End Behind e h = inl (ap failed (sym h))
y_breaks u at x (Branch a inside rest) Behind e h = inl (ap failed (sym h))
y_breaks u at x (Word a text rest) Behind e (inl here) = inl (rw (length_fault_again u a text e here) refl)
y_breaks u at x (Word a text rest) Behind e (inr later) = inr (later.0.0, rest, rw (length_again u a text later.0.0 later.0.1) refl, later.1)

corner_breaks : (u : LengthUnit) (at : ℕ) (f : Forest) (Behind : Forest → DesignFault → Type 0) (e : DesignFault) → CornerFault u at Behind f e → BreaksAt u at f Behind e
unfolding corner_of point_of word_of
corner_breaks u at End Behind e h = inl (ap failed (sym h))
corner_breaks u at (Branch a inside rest) Behind e h = inl (ap failed (sym h))
corner_breaks u at (Word a text rest) Behind e (inl here) = inl (rw (length_fault_again u a text e here) refl)
corner_breaks u at (Word a text rest) Behind e (inr later) =
    elim (y_breaks u at later.0.0 rest Behind e later.1) [
      | inl here ↦ inl (rw (length_again u a text later.0.0 later.0.1) here)
      | inr y ↦ inr (point later.0.0 y.0, y.1, rw (length_again u a text later.0.0 later.0.1) y.2, y.3)
    ]

corner_fault_again : {A : Type 0} (u : LengthUnit) (at : ℕ) (f : Forest) (next : Pt × Forest → Read A) (Behind : Forest → DesignFault → Type 0) (e : DesignFault)
    → ((p : Pt) (g : Forest) → Behind g e → next (p, g) ≡ Err e) → CornerFault u at Behind f e → (corner_of u at f >>= next) ≡ Err e
corner_fault_again u at f next Behind e more h =
    elim (corner_breaks u at f Behind e h) [
      | inl here ↦ rw here refl
      | inr p ↦ rw p.2 (more p.0 p.1 p.3)
    ]

-- ---- a rectangle

abbrev lists_rest : Pt → Pt × Forest → Read (List Pt)
lists_rest p q = trail q.1 >>= λ _. made (corners p q.0)

abbrev second_rest : LengthUnit → ℕ → Pt × Forest → Read (List Pt)
second_rest u at p = corner_of u at p.1 >>= λ q. lists_rest p.0 q

pub rect_found : (u : LengthUnit) (at : ℕ) (f : Forest) (ps : List Pt) → rect_of u at f ≡ Ok ps → IsRect u f ps
unfolding rect_of
rect_found u at f ps e =
    let p = bind_ok (corner_of u at f) (second_rest u at) ps e in
    let q = bind_ok (corner_of u at p.0.1) (λ q. lists_rest p.0.0 q) ps p.2 in
    let t = bind_ok (trail q.0.1) (λ _. made (corners p.0.0 q.0.0)) ps q.2 in
    record {
      x1 = p.0.0.x;
      y1 = p.0.0.y;
      x2 = q.0.0.x;
      y2 = q.0.0.y;
      stated = corner_found u at f p.0 (HasCorner u q.0.0 IsTrail) p.1 (corner_found u at p.0.1 q.0 IsTrail q.1 (trail_found q.0.1 t.0 t.1));
      corners = sym (ok_is (corners p.0.0 q.0.0) ps t.2);
    }

pub rect_again : (u : LengthUnit) (at : ℕ) (f : Forest) (ps : List Pt) → IsRect u f ps → rect_of u at f ≡ Ok ps
unfolding rect_of
rect_again u at f ps h =
    let p = corner_again u at (point h.x1 h.y1) f (HasCorner u (point h.x2 h.y2) IsTrail) h.stated in
    let q = corner_again u at (point h.x2 h.y2) p.0 IsTrail p.2 in
    rw (p.1, q.1, trail_again q.0 q.2) (ap made (sym h.corners))

pub rect_fault : (u : LengthUnit) (at : ℕ) (f : Forest) (e : DesignFault) → rect_of u at f ≡ Err e → RectFault u at f e
unfolding rect_of
rect_fault u at f e h =
    corner_fault u at f (second_rest u at) (CornerFault u at TrailFault) e (λ p g k.
    corner_fault u at g (λ q. lists_rest p q) TrailFault e (λ q lists t.
    elim (bind_err (trail lists) (λ _. made (corners p q)) e t) [
      | inl here ↦ trail_fault lists e here
      | inr later ↦ absurd cc
    ]) k) h

pub rect_fault_again : (u : LengthUnit) (at : ℕ) (f : Forest) (e : DesignFault) → RectFault u at f e → rect_of u at f ≡ Err e
unfolding rect_of
rect_fault_again u at f e h =
    corner_fault_again u at f (second_rest u at) (CornerFault u at TrailFault) e (λ p g k.
    corner_fault_again u at g (λ q. lists_rest p q) TrailFault e (λ q lists t. rw (trail_fault_again lists e t) refl) k) h
