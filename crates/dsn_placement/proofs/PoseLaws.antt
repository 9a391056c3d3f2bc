-- Where a component is said to be is what is read, and the fault of its list is the one that is told.
use Rattle.std.proofs.Common.{◌≡◌, ℕ, ℤ, List, Option, Some, None, Ok, Err, refl, sym, ap, subst, ◌∙◌, inl, inr, ◌⊎◌}
use Rattle.sexp_text.specs.Forest.{Forest, End, Word, Branch}
use Rattle.sexp_text.specs.declared.units.Unit.{Unit as LengthUnit}
use Rattle.seg_geometry.specs.declared.points.Pt.{Pt}
use Rattle.dsn_lists.specs.declared.faults.DesignFault.{DesignFault}
use Rattle.dsn_lists.specs.declared.faults.DesignKind.TheVariants as kind
use Rattle.dsn_lists.specs.Results.{Read, ◌>>=◌, each}
use Rattle.dsn_lists.specs.Words.{mark, word_of, spare_list}
use Rattle.dsn_lists.specs.Numbers.{length_word}
use Rattle.dsn_lists.specs.Places.{point}
use Rattle.dsn_lists.specs.Shapes.{point_of}
use Rattle.dsn_lists.specs.Lists.{told}
use Rattle.dsn_lists.specs.ShortLists.{HasStray}
use Rattle.dsn_lists.specs.Measures.{Measures}
use Rattle.dsn_lists.specs.PointWords.{StatesLength, LengthWordFault}
use Rattle.dsn_lists.proofs.Firsts.{made, ok_is, bind_ok, bind_err, word_fault, word_fault_again}
use Rattle.dsn_lists.proofs.ShortLaws.{spare_again, spare_then, spare_then_again, spare_value}
use Rattle.dsn_lists.proofs.LengthWordLaws.{length_found, length_again, length_fault, length_fault_again}
use Rattle.dsn_placement.specs.declared.poses.Side.{Side}
use Rattle.dsn_placement.specs.declared.poses.Pose.{Pose}
use Rattle.dsn_library.specs.Images.{angle_word}
use Rattle.dsn_placement.specs.Placements.{side_named, known_side, pose_from, some_pose, pose_of}
use Rattle.dsn_library.specs.AngleWords.{StatesAngle, AngleWordFault}
use Rattle.dsn_placement.specs.PoseLists.{NamesSide, IsTurned, IsOnSide, IsAbove, IsPose, TurnedFault, OnSideFault, AboveFault, PoseFault}
use Rattle.dsn_library.proofs.AngleWordLaws.{angle_found, angle_again, angle_fault, angle_fault_again}

abbrev pose : ℤ → ℤ → Side → ℕ → Pose
pose x y s n = record { at = point x y; side = s; eighths = n }

-- what is read of the words behind an x, a y and a side, in order
abbrev turn_rest : ℤ → ℤ → Side → ℕ → Forest → Read (Option Pose)
turn_rest x y s at f = word_of at f >>= λ a. angle_word a.0 >>= λ n. each spare_list tt a.1 >>= λ _. made (Some (pose x y s n))

abbrev side_rest : ℤ → ℤ → ℕ → Forest → Read (Option Pose)
side_rest x y at f = word_of at f >>= λ s. known_side s.0.at (side_named s.0.name) >>= λ side. turn_rest x y side at s.1

abbrev above_rest : LengthUnit → ℤ → ℕ → Forest → Read (Option Pose)
above_rest u x at f = word_of at f >>= λ v. length_word u v.0 >>= λ y. side_rest x y at v.1

abbrev word_rest : LengthUnit → ℕ → ℕ → List ℕ → Forest → Read (Option Pose)
word_rest u at a text f = length_word u (mark a text) >>= λ x. above_rest u x at f

-- the place, and behind it lists that are read over
abbrev finish : Read (Pose × Forest) → Read (Option Pose)
finish r = r >>= (λ x. made (some_pose x)) >>= λ x. each spare_list tt x.1 >>= λ _. made x.0

-- what is read of all words, and of the lists behind them
abbrev pub pose_rest : LengthUnit → ℕ → Forest → Read (Option Pose)
pose_rest u at f = pose_of u at f >>= λ x. each spare_list tt x.1 >>= λ _. made x.0

turn_is : (x y : ℤ) (s : Side) (at : ℕ) (f : Forest) → finish (word_of at f >>= λ a. angle_word a.0 >>= λ n. made (pose x y s n, a.1)) ≡ turn_rest x y s at f
unfolding word_of
turn_is x y s at End = refl
turn_is x y s at (Branch b inside rest) = refl
turn_is x y s at (Word b text rest) = by (angle_word (mark b text))
  where
    by : (r : Read ℕ) → finish (r >>= λ n. made (pose x y s n, rest)) ≡ (r >>= λ n. each spare_list tt rest >>= λ _. made (Some (pose x y s n)))
    by (Ok n) = refl
    by (Err e) = refl

side_is : (x y : ℤ) (at : ℕ) (f : Forest)
    → finish (word_of at f >>= λ s. known_side s.0.at (side_named s.0.name) >>= λ side. word_of at s.1 >>= λ a. angle_word a.0 >>= λ n. made (pose x y side n, a.1)) ≡ side_rest x y at f
unfolding word_of
side_is x y at End = refl
side_is x y at (Branch b inside rest) = refl
side_is x y at (Word b text rest) = by (side_named text)
  where
    by : (o : Option Side) → finish (known_side b o >>= λ side. word_of at rest >>= λ a. angle_word a.0 >>= λ n. made (pose x y side n, a.1)) ≡ (known_side b o >>= λ side. turn_rest x y side at rest)
    by None = refl
    by (Some s) = turn_is x y s at rest

-- the words behind a point
abbrev behind_point : ℕ → Pt × Forest → Read (Pose × Forest)
behind_point at p = word_of at p.1 >>= λ s. known_side s.0.at (side_named s.0.name) >>= λ side. word_of at s.1 >>= λ a. angle_word a.0 >>= λ n. made (record { at = p.0; side = side; eighths = n }, a.1)

above_is : (u : LengthUnit) (x : ℤ) (at : ℕ) (f : Forest) → finish ((word_of at f >>= λ v. length_word u v.0 >>= λ y. made (point x y, v.1)) >>= behind_point at) ≡ above_rest u x at f
unfolding word_of
above_is u x at End = refl
above_is u x at (Branch b inside rest) = refl
above_is u x at (Word b text rest) = by (length_word u (mark b text))
  where
    by : (r : Read ℤ) → finish ((r >>= λ y. made (point x y, rest)) >>= behind_point at) ≡ (r >>= λ y. side_rest x y at rest)
    by (Ok y) = side_is x y at rest
    by (Err e) = refl

word_is : (u : LengthUnit) (at a : ℕ) (text : List ℕ) (f : Forest) → pose_rest u at (Word a text f) ≡ word_rest u at a text f
unfolding pose_of pose_from point_of
word_is u at a text f = by (length_word u (mark a text))
  where
    by : (r : Read ℤ) → finish ((r >>= λ x. word_of at f >>= λ v. length_word u v.0 >>= λ y. made (point x y, v.1)) >>= behind_point at) ≡ (r >>= λ x. above_rest u x at f)
    by (Ok x) = above_is u x at f
    by (Err e) = refl

-- ---- what is read

turn_found : (x y : ℤ) (s : Side) (at : ℕ) (f : Forest) (o : Option Pose) → turn_rest x y s at f ≡ Ok o → (n : ℕ) × IsTurned f (pose x y s n) × (Some (pose x y s n) ≡ o)
unfolding word_of
turn_found x y s at End o e = absurd cc
turn_found x y s at (Branch b inside rest) o e = absurd cc
turn_found x y s at (Word b text rest) o e =
    let n = bind_ok (angle_word (mark b text)) (λ n. each spare_list tt rest >>= λ _. made (Some (pose x y s n))) o e in
    let v = spare_value rest (Some (pose x y s n.0)) o n.2 in
    (n.0, (angle_found b text n.0 n.1, v.0), v.1)

known_ok : (b : ℕ) (o : Option Side) (s : Side) → known_side b o ≡ Ok s → o ≡ Some s
known_ok b None s e = absurd cc
known_ok b (Some t) s e = ap (λ (x : Side). Some x) (ok_is t s e)

side_found : (x y : ℤ) (at : ℕ) (f : Forest) (o : Option Pose) → side_rest x y at f ≡ Ok o → (s : Side) × (n : ℕ) × IsOnSide f (pose x y s n) × (Some (pose x y s n) ≡ o)
unfolding word_of
side_found x y at End o e = absurd cc
side_found x y at (Branch b inside rest) o e = absurd cc
side_found x y at (Word b text rest) o e =
    let s = bind_ok (known_side b (side_named text)) (λ side. turn_rest x y side at rest) o e in
    let t = turn_found x y s.0 at rest o s.2 in
    (s.0, t.0, (known_ok b (side_named text) s.0 s.1, t.1), t.2)

above_found : (u : LengthUnit) (x : ℤ) (at : ℕ) (f : Forest) (o : Option Pose) → above_rest u x at f ≡ Ok o → (y : ℤ) × (s : Side) × (n : ℕ) × IsAbove u f (pose x y s n) × (Some (pose x y s n) ≡ o)
unfolding word_of
above_found u x at End o e = absurd cc
above_found u x at (Branch b inside rest) o e = absurd cc
above_found u x at (Word b text rest) o e =
    let y = bind_ok (length_word u (mark b text)) (λ y. side_rest x y at rest) o e in
    let s = side_found x y.0 at rest o y.2 in
    (y.0, s.0, s.1, (length_found u b text y.0 y.1, s.2), s.3)

stated : (u : LengthUnit) (a : ℕ) (text : List ℕ) (rest : Forest) (p : Pose) (o : Option Pose) → Some p ≡ o → Measures u text (Ok p.at.x) → IsAbove u rest p → IsPose u (Word a text rest) o
stated u a text rest p o is x above = subst (λ (q : Option Pose). IsPose u (Word a text rest) q) is (x, above)

pub pose_found : (u : LengthUnit) (at : ℕ) (f : Forest) (o : Option Pose) → pose_rest u at f ≡ Ok o → IsPose u f o
unfolding pose_of each
pose_found u at End o e = sym (ok_is None o e)
pose_found u at (Branch a inside rest) o e = let v = spare_value rest None o e in (sym v.1, v.0)
pose_found u at (Word a text rest) o e =
    let x = bind_ok (length_word u (mark a text)) (λ x. above_rest u x at rest) o (sym (word_is u at a text rest) ∙ e) in
    let y = above_found u x.0 at rest o x.2 in
    stated u a text rest (pose x.0 y.0 y.1 y.2) o y.4 (length_found u a text x.0 x.1) y.3

-- ---- and back

turn_again : (at : ℕ) (f : Forest) (p : Pose) → IsTurned f p → turn_rest p.at.x p.at.y p.side at f ≡ Ok (Some p)
unfolding word_of
turn_again at End p h = absurd h
turn_again at (Branch b inside rest) p h = absurd h
turn_again at (Word b text rest) p h = rw (angle_again b text p.eighths h.0, spare_again rest tt h.1) refl

side_again : (at : ℕ) (f : Forest) (p : Pose) → IsOnSide f p → side_rest p.at.x p.at.y at f ≡ Ok (Some p)
unfolding word_of
side_again at End p h = absurd h
side_again at (Branch b inside rest) p h = absurd h
side_again at (Word b text rest) p h = rw h.0 (turn_again at rest p h.1)

above_again : (u : LengthUnit) (at : ℕ) (f : Forest) (p : Pose) → IsAbove u f p → above_rest u p.at.x at f ≡ Ok (Some p)
unfolding word_of
above_again u at End p h = absurd h
above_again u at (Branch b inside rest) p h = absurd h
above_again u at (Word b text rest) p h = rw (length_again u b text p.at.y h.0) (side_again at rest p h.1)

pub pose_again : (u : LengthUnit) (at : ℕ) (f : Forest) (o : Option Pose) → IsPose u f o → pose_rest u at f ≡ Ok o
unfolding pose_of each
pose_again u at End o h = ap made (sym h)
pose_again u at (Branch a inside rest) o h = rw (spare_again rest tt h.1) (ap made (sym h.0))
pose_again u at (Word a text rest) None h = absurd h
pose_again u at (Word a text rest) (Some p) h = word_is u at a text rest ∙ rw (length_again u a text p.at.x h.0) (above_again u at rest p h.1)

-- ---- the faults

turn_fault : (x y : ℤ) (s : Side) (at : ℕ) (f : Forest) (e : DesignFault) → turn_rest x y s at f ≡ Err e → TurnedFault at f e
turn_fault x y s at f e h =
    word_fault _ (λ a text rest e. AngleWordFault a text e ⊎ (StatesAngle text × HasStray rest e)) at f e (λ a text rest k.
    elim (bind_err (angle_word (mark a text)) (λ n. each spare_list tt rest >>= λ _. made (Some (pose x y s n))) e k) [
      | inl here ↦ inl (angle_fault a text e here)
      | inr n ↦ inr ((n.0, angle_found a text n.0 n.1), spare_then rest (Some (pose x y s n.0)) e n.2)
    ]) h

turn_fault_again : (x y : ℤ) (s : Side) (at : ℕ) (f : Forest) (e : DesignFault) → TurnedFault at f e → turn_rest x y s at f ≡ Err e
turn_fault_again x y s at f e h =
    word_fault_again _ (λ a text rest e. AngleWordFault a text e ⊎ (StatesAngle text × HasStray rest e)) at f e (λ a text rest k. by a text rest k) h
  where
    by : (a : ℕ) (text : List ℕ) (rest : Forest) → AngleWordFault a text e ⊎ (StatesAngle text × HasStray rest e)
        → (angle_word (mark a text) >>= λ n. each spare_list tt rest >>= λ _. made (Some (pose x y s n))) ≡ Err e
    by a text rest (inl here) = rw (angle_fault_again a text e here) refl
    by a text rest (inr later) = rw (angle_again a text later.0.0 later.0.1) (spare_then_again rest (Some (pose x y s later.0.0)) e later.1)

abbrev SideWordFault : ℕ → ℕ → List ℕ → Forest → DesignFault → Type 0
SideWordFault at a text rest e = ((side_named text ≡ None) × (e ≡ told kind.Style a)) ⊎ (NamesSide text × TurnedFault at rest e)

side_fault : (x y : ℤ) (at : ℕ) (f : Forest) (e : DesignFault) → side_rest x y at f ≡ Err e → OnSideFault at f e
side_fault x y at f e h = word_fault _ (SideWordFault at) at f e (λ a text rest k. by a text rest (side_named text) refl k) h
  where
    by : (a : ℕ) (text : List ℕ) (rest : Forest) (o : Option Side) → side_named text ≡ o → (known_side a o >>= λ side. turn_rest x y side at rest) ≡ Err e → SideWordFault at a text rest e
    by a text rest None is k = inl (is, cc)
    by a text rest (Some s) is k = inr ((s, is), turn_fault x y s at rest e k)

side_fault_again : (x y : ℤ) (at : ℕ) (f : Forest) (e : DesignFault) → OnSideFault at f e → side_rest x y at f ≡ Err e
side_fault_again x y at f e h = word_fault_again _ (SideWordFault at) at f e by h
  where
    by : (a : ℕ) (text : List ℕ) (rest : Forest) → SideWordFault at a text rest e → (known_side a (side_named text) >>= λ side. turn_rest x y side at rest) ≡ Err e
    by a text rest (inl here) = rw (here.0, here.1) refl
    by a text rest (inr later) = rw later.0.1 (turn_fault_again x y later.0.0 at rest e later.1)

abbrev AboveWordFault : LengthUnit → ℕ → ℕ → List ℕ → Forest → DesignFault → Type 0
AboveWordFault u at a text rest e = LengthWordFault u a text e ⊎ (StatesLength u text × OnSideFault at rest e)

above_fault : (u : LengthUnit) (x : ℤ) (at : ℕ) (f : Forest) (e : DesignFault) → above_rest u x at f ≡ Err e → AboveFault u at f e
above_fault u x at f e h =
    word_fault _ (AboveWordFault u at) at f e (λ a text rest k.
    elim (bind_err (length_word u (mark a text)) (λ y. side_rest x y at rest) e k) [
      | inl here ↦ inl (length_fault u a text e here)
      | inr y ↦ inr ((y.0, length_found u a text y.0 y.1), side_fault x y.0 at rest e y.2)
    ]) h

above_fault_again : (u : LengthUnit) (x : ℤ) (at : ℕ) (f : Forest) (e : DesignFault) → AboveFault u at f e → above_rest u x at f ≡ Err e
above_fault_again u x at f e h = word_fault_again _ (AboveWordFault u at) at f e by h
  where
    by : (a : ℕ) (text : List ℕ) (rest : Forest) → AboveWordFault u at a text rest e → (length_word u (mark a text) >>= λ y. side_rest x y at rest) ≡ Err e
    by a text rest (inl here) = rw (length_fault_again u a text e here) refl
    by a text rest (inr later) = rw (length_again u a text later.0.0 later.0.1) (side_fault_again x later.0.0 at rest e later.1)

pub pose_fault : (u : LengthUnit) (at : ℕ) (f : Forest) (e : DesignFault) → pose_rest u at f ≡ Err e → PoseFault u at f e
unfolding pose_of each
pose_fault u at End e h = absurd cc
pose_fault u at (Branch a inside rest) e h = spare_then rest None e h
pose_fault u at (Word a text rest) e h =
    elim (bind_err (length_word u (mark a text)) (λ x. above_rest u x at rest) e (sym (word_is u at a text rest) ∙ h)) [
      | inl here ↦ inl (length_fault u a text e here)
      | inr x ↦ inr ((x.0, length_found u a text x.0 x.1), above_fault u x.0 at rest e x.2)
    ]

pub pose_fault_again : (u : LengthUnit) (at : ℕ) (f : Forest) (e : DesignFault) → PoseFault u at f e → pose_rest u at f ≡ Err e
unfolding pose_of each
pose_fault_again u at End e h = absurd h
pose_fault_again u at (Branch a inside rest) e h = spare_then_again rest None e h
pose_fault_again u at (Word a text rest) e (inl here) = word_is u at a text rest ∙ rw (length_fault_again u a text e here) refl
pose_fault_again u at (Word a text rest) e (inr later) = word_is u at a text rest ∙ rw (length_again u a text later.0.0 later.0.1) (above_fault_again u later.0.0 at rest e later.1)
