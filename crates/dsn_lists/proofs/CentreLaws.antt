-- The centres of circles are those that are read, and the fault of one is the one that is told.
use Rattle.std.proofs.Common.{◌≡◌, ℕ, ℤ, pos, List, Ok, Err, refl, ap, subst, sym, inl, inr, ◌⊎◌}
use Rattle.sexp_text.specs.Forest.{Forest, End, Word, Branch}
use Rattle.sexp_text.specs.declared.units.Unit.{Unit as LengthUnit}
use Rattle.seg_geometry.specs.declared.points.Pt.{Pt}
use Rattle.dsn_lists.specs.declared.faults.DesignFault.{DesignFault}
use Rattle.dsn_lists.specs.declared.marks.Mark.{Mark}
use Rattle.dsn_lists.specs.declared.shapes.Circle.{Circle}
use Rattle.dsn_lists.specs.Results.{Read, ◌>>=◌, each}
use Rattle.dsn_lists.specs.Words.{mark, word_of}
use Rattle.dsn_lists.specs.Numbers.{length_word}
use Rattle.dsn_lists.specs.Places.{point}
use Rattle.dsn_lists.specs.Shapes.{trail, point_of, centre_of}
use Rattle.dsn_lists.specs.ShortLists.{HasWord, NoWordOr}
use Rattle.dsn_lists.specs.Measures.{Measures}
use Rattle.dsn_lists.specs.PointWords.{StatesLength, LengthWordFault}
use Rattle.dsn_lists.specs.TrailLists.{IsTrail, TrailFault}
use Rattle.dsn_lists.specs.ShapeLists.{IsCentre, CentreFault}
use Rattle.dsn_lists.proofs.Firsts.{made, bind_ok, bind_err, ok_is, word_fault}
use Rattle.dsn_lists.proofs.LengthWordLaws.{length_found, length_again, length_fault, length_fault_again}
use Rattle.dsn_lists.proofs.TrailLaws.{trail_found, trail_again, trail_fault, trail_fault_again}

-- ---- a point

-- the words state this point, and this follows
abbrev IsPointOf : LengthUnit → List ℕ → Forest → Pt × Forest → Type 0
IsPointOf u text rest q = Measures u text (Ok q.0.x) × HasWord (λ word lists. Measures u word (Ok q.0.y) × (q.1 ≡ lists)) rest

point_found : (u : LengthUnit) (at a : ℕ) (text : List ℕ) (rest : Forest) (q : Pt × Forest) → point_of u at (mark a text) rest ≡ Ok q → IsPointOf u text rest q
unfolding point_of word_of
point_found u at a text End q e = let x = bind_ok (length_word u (mark a text)) (λ x. word_of at End >>= λ v. length_word u v.0 >>= λ y. made (point x y, v.1)) q e in absurd cc
point_found u at a text (Branch b inside rest) q e = let x = bind_ok (length_word u (mark a text)) (λ x. word_of at (Branch b inside rest) >>= λ v. length_word u v.0 >>= λ y. made (point x y, v.1)) q e in absurd cc
point_found u at a text (Word b word lists) q e =
    let x = bind_ok (length_word u (mark a text)) (λ x. length_word u (mark b word) >>= λ y. made (point x y, lists)) q e in
    let y = bind_ok (length_word u (mark b word)) (λ y. made (point x.0 y, lists)) q x.2 in
    subst (λ (r : Pt × Forest). IsPointOf u text (Word b word lists) r) (ok_is (point x.0 y.0, lists) q y.2) (length_found u a text x.0 x.1, (length_found u b word y.0 y.1, refl))

-- ---- a circle behind its diameter

abbrev pub circle : ℕ → Pt → Circle
circle width p = record { width = width; centre = p }

abbrev centre_rest : ℕ → Pt × Forest → Read Circle
centre_rest width c = trail c.1 >>= λ _. made (circle width c.0)

abbrev pub width_rest : LengthUnit → ℕ → Forest → ℕ → Read Circle
width_rest u at rest width = centre_of u at rest >>= λ c. centre_rest width c

pub centre_found : (u : LengthUnit) (at : ℕ) (rest : Forest) (width : ℕ) (c : Circle) → width_rest u at rest width ≡ Ok c → (c.width ≡ width) × IsCentre u rest c.centre
unfolding centre_of
centre_found u at End width c e =
    let t = bind_ok (trail End) (λ _. made (circle width (point (pos 0) (pos 0)))) c e in
    subst (λ (d : Circle). (d.width ≡ width) × IsCentre u End d.centre) (ok_is (circle width (point (pos 0) (pos 0))) c t.2) (refl, refl)
centre_found u at (Branch a inside rest) width c e =
    let t = bind_ok (trail (Branch a inside rest)) (λ _. made (circle width (point (pos 0) (pos 0)))) c e in
    subst (λ (d : Circle). (d.width ≡ width) × IsCentre u (Branch a inside rest) d.centre) (ok_is (circle width (point (pos 0) (pos 0))) c t.2) (refl, (refl, trail_found (Branch a inside rest) t.0 t.1))
centre_found u at (Word a text rest) width c e =
    let q = bind_ok (point_of u at (mark a text) rest) (λ c. centre_rest width c) c e in
    let t = bind_ok (trail q.0.1) (λ _. made (circle width q.0.0)) c q.2 in
    let p = point_found u at a text rest q.0 q.1 in
    subst (λ (d : Circle). (d.width ≡ width) × IsCentre u (Word a text rest) d.centre) (ok_is (circle width q.0.0) c t.2) (refl, (p.0, behind u rest q.0 p.1 (trail_found q.0.1 t.0 t.1)))
  where
    behind : (u : LengthUnit) (rest : Forest) (q : Pt × Forest) → HasWord (λ word lists. Measures u word (Ok q.0.y) × (q.1 ≡ lists)) rest → IsTrail q.1 → HasWord (λ word lists. Measures u word (Ok q.0.y) × IsTrail lists) rest
    behind u End q h t = h
    behind u (Word b word lists) q h t = (h.0, subst IsTrail h.1 t)
    behind u (Branch b inside rest) q h t = h

pub centre_again : (u : LengthUnit) (at : ℕ) (rest : Forest) (c : Circle) → IsCentre u rest c.centre → width_rest u at rest c.width ≡ Ok c
unfolding centre_of point_of word_of
centre_again u at End c h = rw (trail_again End tt) (ap (λ (p : Pt). made (circle c.width p)) (sym h))
centre_again u at (Branch a inside rest) c h = rw (trail_again (Branch a inside rest) h.1) (ap (λ (p : Pt). made (circle c.width p)) (sym h.0))
centre_again u at (Word a text End) c h = absurd h.1
centre_again u at (Word a text (Branch b inside rest)) c h = absurd h.1
centre_again u at (Word a text (Word b word lists)) c h = rw (length_again u a text c.centre.x h.0, length_again u b word c.centre.y h.1.0, trail_again lists h.1.1) refl

-- ---- the fault of what follows the diameter

abbrev SecondFault : LengthUnit → ℕ → List ℕ → Forest → DesignFault → Type 0
SecondFault u b word lists e = LengthWordFault u b word e ⊎ (StatesLength u word × TrailFault lists e)

-- the second word of a point
abbrev second_word : LengthUnit → ℤ → Mark × Forest → Read (Pt × Forest)
second_word u x v = length_word u v.0 >>= λ y. made (point x y, v.1)

second_fault : (u : LengthUnit) (at : ℕ) (x : ℤ) (rest : Forest) (e : DesignFault) → (word_of at rest >>= λ v. second_word u x v) ≡ Err e → NoWordOr (SecondFault u) at rest e
second_fault u at x rest e h =
    word_fault (second_word u x) (SecondFault u) at rest e (λ b word lists k.
    elim (bind_err (length_word u (mark b word)) (λ y. made (point x y, lists)) e k) [
      | inl here ↦ inl (length_fault u b word e here)
      | inr later ↦ absurd cc
    ]) h

lists_fault : (u : LengthUnit) (at : ℕ) (rest : Forest) (q : Pt × Forest) (e : DesignFault) → HasWord (λ word lists. Measures u word (Ok q.0.y) × (q.1 ≡ lists)) rest → TrailFault q.1 e → NoWordOr (SecondFault u) at rest e
lists_fault u at End q e h t = absurd h
lists_fault u at (Word b word lists) q e h t = inr ((q.0.y, h.0), subst (λ (f : Forest). TrailFault f e) h.1 t)
lists_fault u at (Branch b inside rest) q e h t = absurd h

end_stands : (e : DesignFault) → trail End ≡ Err e → ⊥
unfolding each
end_stands e h = absurd cc

trail_then : (f : Forest) (c : Circle) (e : DesignFault) → (trail f >>= λ _. made c) ≡ Err e → trail f ≡ Err e
trail_then f c e h =
    elim (bind_err (trail f) (λ _. made c) e h) [
      | inl here ↦ here
      | inr later ↦ absurd cc
    ]

pub centre_fault : (u : LengthUnit) (at : ℕ) (rest : Forest) (width : ℕ) (e : DesignFault) → width_rest u at rest width ≡ Err e → CentreFault u at rest e
unfolding centre_of point_of
centre_fault u at End width e h = absurd (end_stands e (trail_then End (circle width (point (pos 0) (pos 0))) e h))
centre_fault u at (Branch a inside rest) width e h = trail_fault (Branch a inside rest) e (trail_then (Branch a inside rest) (circle width (point (pos 0) (pos 0))) e h)
centre_fault u at (Word a text rest) width e h =
    elim (bind_err (point_of u at (mark a text) rest) (λ c. centre_rest width c) e h) [
      | inl here ↦ elim (bind_err (length_word u (mark a text)) (λ x. word_of at rest >>= λ v. second_word u x v) e here) [
        | inl first ↦ inl (length_fault u a text e first)
        | inr second ↦ inr ((second.0, length_found u a text second.0 second.1), second_fault u at second.0 rest e second.2)
      ]
      | inr q ↦
          let p = point_found u at a text rest q.0 q.1 in
          inr ((q.0.0.x, p.0), lists_fault u at rest q.0 e p.1 (trail_fault q.0.1 e (trail_then q.0.1 (circle width q.0.0) e q.2)))
    ]

pub centre_fault_again : (u : LengthUnit) (at : ℕ) (rest : Forest) (width : ℕ) (e : DesignFault) → CentreFault u at rest e → width_rest u at rest width ≡ Err e
unfolding centre_of point_of word_of
centre_fault_again u at End width e h = absurd h
centre_fault_again u at (Branch a inside rest) width e h = rw (trail_fault_again (Branch a inside rest) e h) refl
centre_fault_again u at (Word a text rest) width e (inl here) = rw (length_fault_again u a text e here) refl
centre_fault_again u at (Word a text End) width e (inr later) = rw (length_again u a text later.0.0 later.0.1, later.1) refl
centre_fault_again u at (Word a text (Branch b inside rest)) width e (inr later) = rw (length_again u a text later.0.0 later.0.1, later.1) refl
centre_fault_again u at (Word a text (Word b word lists)) width e (inr (x, inl second)) = rw (length_again u a text x.0 x.1, length_fault_again u b word e second) refl
centre_fault_again u at (Word a text (Word b word lists)) width e (inr (x, inr t)) =
    rw (length_again u a text x.0 x.1, length_again u b word t.0.0 t.0.1, trail_fault_again lists e t.1) refl
