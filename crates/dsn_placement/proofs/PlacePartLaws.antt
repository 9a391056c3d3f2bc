-- The pads and keepouts of a component are those that are read, and the first part without a place is the one that is told.
use Rattle.std.proofs.Common.{◌≡◌, ℕ, ◌+◌, List, [], ◌∷◌, ◌++◌, length, Option, Some, None, Ok, Err, refl, sym, ap, subst, ◌∙◌, append_assoc, arith, inl, inr}
use Rattle.std.proofs.lemmas.List.{append-nil, length-append}
use Rattle.std.proofs.lemmas.List.Sums.{sum_by-cons, sum_by-append}
use Rattle.area_geometry.specs.declared.shapes.Shape.{Shape}
use Rattle.dsn_turns.specs.Moves.{OneByOne}
use Rattle.dsn_turns.specs.declared.moves.Motion.{Motion}
use Rattle.dsn_turns.specs.Wides.{point_of, wide_of}
use Rattle.dsn_turns.specs.Turning.{carried}
use Rattle.dsn_turns.proofs.MoveLaws.{carried_is, carried_only, shapes_iff}
use Rattle.dsn_lists.specs.declared.faults.DesignFault.{DesignFault}
use Rattle.dsn_lists.specs.declared.faults.DesignKind.TheVariants as kind
use Rattle.dsn_lists.specs.Lists.{told}
use Rattle.dsn_lists.proofs.Firsts.{made, failed, ok_is, bind_ok, bind_err}
use Rattle.dsn_shapes.specs.declared.quotas.Quota.{Quota}
use Rattle.dsn_shapes.specs.Quotas.{quota_behind}
use Rattle.dsn_shapes.specs.QuotaLists.{points_of_shapes, IsTaken}
use Rattle.dsn_shapes.proofs.QuotaLaws.{quota_behind_is, quota_found, quota_again, quota_fault, quota_fault_again}
use Rattle.dsn_library.specs.declared.images.ImagePart.{ImagePart}
use Rattle.dsn_library.specs.declared.images.ImagePart.TheVariants as parts
use Rattle.dsn_placement.specs.declared.placement.PlacedPart.{PlacedPart}
use Rattle.dsn_placement.specs.declared.placement.PlacedPart.TheVariants as placed
use Rattle.dsn_placement.specs.declared.placement.Placement.{Placement}
use Rattle.dsn_placement.specs.declared.poses.Pose.{Pose}
use Rattle.dsn_placement.specs.Placements.{Ground, step_of_pose, shapes_placed, part_placed, put_placed, with_shapes, with_part, with_parts}
use Rattle.dsn_placement.specs.PlaceParts.{PartMoves, IsPlaced, shapes_of_placed, points_of_parts, AreTaken, NoPlace, PartsFault}

-- ---- the shapes of a part

moves_found : (g : Ground) (p : Pose) (q : ImagePart) (ss : List Shape) → shapes_placed g p q ≡ Some ss → PartMoves g p q ss
unfolding shapes_placed
moves_found g p (parts.Pin stack id eighths at) ss e = (shapes_iff _ _ _ ss).0 e
moves_found g p (parts.Keep k shapes) ss e = (shapes_iff _ _ _ ss).0 e

moves_again : (g : Ground) (p : Pose) (q : ImagePart) (ss : List Shape) → PartMoves g p q ss → shapes_placed g p q ≡ Some ss
unfolding shapes_placed
moves_again g p (parts.Pin stack id eighths at) ss h = (shapes_iff _ _ _ ss).1 h
moves_again g p (parts.Keep k shapes) ss h = (shapes_iff _ _ _ ss).1 h

none_found : (g : Ground) (p : Pose) (q : ImagePart) → shapes_placed g p q ≡ None → (ss : List Shape) → PartMoves g p q ss → ⊥
none_found g p q e ss h = absurd (let some = moves_again g p q ss h in cc)

none_again : (g : Ground) (p : Pose) (q : ImagePart) → ((ss : List Shape) → PartMoves g p q ss → ⊥) → shapes_placed g p q ≡ None
none_again g p q none = by (shapes_placed g p q) refl
  where
    by : (o : Option (List Shape)) → shapes_placed g p q ≡ o → o ≡ None
    by None is = refl
    by (Some ss) is = absurd (none ss (moves_found g p q ss is))

placed_of : (g : Ground) (p : Pose) (n : ℕ) (q : ImagePart) (ss : List Shape) → PartMoves g p q ss → IsPlaced g p n q (part_placed (step_of_pose g.flip p) n q ss)
placed_of g p n (parts.Pin stack id eighths at) ss h = (refl, refl, carried_is (step_of_pose g.flip p) at, h)
placed_of g p n (parts.Keep k shapes) ss h = (refl, h)

of_placed : (g : Ground) (p : Pose) (n : ℕ) (q : ImagePart) (x : PlacedPart) → IsPlaced g p n q x → (ss : List Shape) × PartMoves g p q ss × (part_placed (step_of_pose g.flip p) n q ss ≡ x)
of_placed g p n (parts.Pin stack id eighths at) (placed.Pad component pin place ss) h =
    let same : place ≡ wide_of (carried (step_of_pose g.flip p) at) = ap wide_of (carried_only (step_of_pose g.flip p) at (point_of place) h.2) in
    (ss, h.3, λ i. placed.Pad (sym h.0 i) (sym h.1 i) (sym same i) ss)
of_placed g p n (parts.Pin stack id eighths at) (placed.Keep k ss) h = absurd h
of_placed g p n (parts.Keep k shapes) (placed.Pad component pin place ss) h = absurd h
of_placed g p n (parts.Keep k shapes) (placed.Keep kind ss) h = (ss, h.1, λ i. placed.Keep (sym h.0 i) ss)

same_shapes : (step : Motion) (n : ℕ) (q : ImagePart) (ss : List Shape) → shapes_of_placed (part_placed step n q ss) ≡ ss
same_shapes step n (parts.Pin stack id eighths at) ss = refl
same_shapes step n (parts.Keep k shapes) ss = refl

-- ---- quota

pub taken_none : (quota : Quota) → AreTaken quota [] quota
taken_none quota = record { items = omega arith; points = omega arith }

pub taken_is : (quota left : Quota) → AreTaken quota [] left → left ≡ quota
taken_is quota left h =
    let items = h.items in
    let points = h.points in
    let same_items : left.items ≡ quota.items = omega (arith, items) in
    let same_points : left.points ≡ quota.points = omega (arith, points) in
    λ i. record { items = same_items i; points = same_points i }

pub points_more : (x : PlacedPart) (ps : List PlacedPart) → points_of_parts (x ∷ ps) ≡ points_of_shapes (shapes_of_placed x) + points_of_parts ps
points_more x ps = sum_by-cons (λ (p : PlacedPart). points_of_shapes (shapes_of_placed p)) x ps

-- one, and others behind it
taken_more : (quota middle left : Quota) (x : PlacedPart) (ps : List PlacedPart) → IsTaken quota (points_of_shapes (shapes_of_placed x)) middle → AreTaken middle ps left → AreTaken quota (x ∷ ps) left
taken_more quota middle left x ps one others =
    let sum = points_more x ps in
    let items = one.items in
    let points = one.points in
    let more_items = others.items in
    let more_points = others.points in
    record { items = omega (arith, items, more_items); points = omega (arith, sum, points, more_points) }

-- the quota behind the first of them
abbrev middle_of : List PlacedPart → Quota → Quota
middle_of ps left = record { items = length ps + left.items; points = points_of_parts ps + left.points }

taken_first : (quota left : Quota) (x : PlacedPart) (ps : List PlacedPart) → AreTaken quota (x ∷ ps) left → IsTaken quota (points_of_shapes (shapes_of_placed x)) (middle_of ps left)
taken_first quota left x ps h =
    let sum = points_more x ps in
    let items = h.items in
    let points = h.points in
    record { items = omega (arith, items); points = omega (arith, sum, points) }

taken_others : (left : Quota) (ps : List PlacedPart) → AreTaken (middle_of ps left) ps left
taken_others left ps = record { items = refl; points = refl }

pub taken_join : (quota middle left : Quota) (ps qs : List PlacedPart) → AreTaken quota ps middle → AreTaken middle qs left → AreTaken quota (ps ++ qs) left
taken_join quota middle left ps qs a b =
    let count = length-append ps qs in
    let sum = sum_by-append (λ (p : PlacedPart). points_of_shapes (shapes_of_placed p)) ps qs in
    let items = a.items in
    let points = a.points in
    let more_items = b.items in
    let more_points = b.points in
    record { items = omega (arith, count, items, more_items); points = omega (arith, sum, points, more_points) }

pub taken_cut : (quota left : Quota) (ps qs : List PlacedPart) → AreTaken quota (ps ++ qs) left → (middle : Quota) × AreTaken quota ps middle × AreTaken middle qs left
taken_cut quota left ps qs h =
    let count = length-append ps qs in
    let sum = sum_by-append (λ (p : PlacedPart). points_of_shapes (shapes_of_placed p)) ps qs in
    let items = h.items in
    let points = h.points in
    (middle_of qs left, record { items = omega (arith, count, items); points = omega (arith, sum, points) }, record { items = refl; points = refl })

-- ---- one part

-- the placement with these parts behind the others, and this quota
abbrev pub putting : Placement → List PlacedPart → Quota → Placement
putting pl ps quota = record pl { parts = pl.parts ++ ps; quota = quota }

pub putting_none : (pl : Placement) (quota : Quota) → quota ≡ pl.quota → pl ≡ putting pl [] quota
putting_none pl quota is = λ i. record pl { parts = sym (append-nil pl.parts) i; quota = sym is i }

putting_more : (pl : Placement) (ps qs : List PlacedPart) (quota left : Quota) → putting (putting pl ps quota) qs left ≡ putting pl (ps ++ qs) left
putting_more pl ps qs quota left = λ i. record pl { parts = append_assoc pl.parts ps qs i; quota = left }

put_found : (at : ℕ) (pl m : Placement) (x : PlacedPart) (o : Option Quota) → put_placed at pl x o ≡ Ok m → (left : Quota) × (o ≡ Some left) × (putting pl (x ∷ []) left ≡ m)
put_found at pl m x None e = absurd cc
put_found at pl m x (Some left) e = (left, refl, ok_is (putting pl (x ∷ []) left) m e)

put_fault : (at : ℕ) (pl : Placement) (x : PlacedPart) (o : Option Quota) (e : DesignFault) → put_placed at pl x o ≡ Err e → (o ≡ None) × (e ≡ told kind.Large at)
put_fault at pl x None e h = (refl, cc)
put_fault at pl x (Some left) e h = absurd cc

part_found : (g : Ground) (p : Pose) (at n : ℕ) (pl m : Placement) (q : ImagePart) → with_part g p at n pl q ≡ Ok m
    → (x : PlacedPart) × (left : Quota) × IsPlaced g p n q x × IsTaken pl.quota (points_of_shapes (shapes_of_placed x)) left × (putting pl (x ∷ []) left ≡ m)
unfolding with_part
part_found g p at n pl m q e = by (shapes_placed g p q) refl e
  where
    by : (o : Option (List Shape)) → shapes_placed g p q ≡ o → with_shapes (step_of_pose g.flip p) at n pl q o ≡ Ok m
        → (x : PlacedPart) × (left : Quota) × IsPlaced g p n q x × IsTaken pl.quota (points_of_shapes (shapes_of_placed x)) left × (putting pl (x ∷ []) left ≡ m)
    by None is e = absurd cc
    by (Some ss) is e =
        let r = put_found at pl m (part_placed (step_of_pose g.flip p) n q ss) (quota_behind pl.quota ss) e in
        let taken = quota_found pl.quota r.0 (points_of_shapes ss) (sym (quota_behind_is pl.quota ss) ∙ r.1) in
        (part_placed (step_of_pose g.flip p) n q ss, r.0, placed_of g p n q ss (moves_found g p q ss is), subst (λ (ts : List Shape). IsTaken pl.quota (points_of_shapes ts) r.0) (sym (same_shapes (step_of_pose g.flip p) n q ss)) taken, r.2)

part_again : (g : Ground) (p : Pose) (at n : ℕ) (pl : Placement) (left : Quota) (q : ImagePart) (x : PlacedPart) → IsPlaced g p n q x → IsTaken pl.quota (points_of_shapes (shapes_of_placed x)) left
    → with_part g p at n pl q ≡ Ok (putting pl (x ∷ []) left)
unfolding with_part
part_again g p at n pl left q x h taken =
    let ss = of_placed g p n q x h in
    let same : shapes_of_placed x ≡ ss.0 = ap shapes_of_placed (sym ss.2) ∙ same_shapes (step_of_pose g.flip p) n q ss.0 in
    let quota : quota_behind pl.quota ss.0 ≡ Some left = quota_behind_is pl.quota ss.0 ∙ quota_again pl.quota left (points_of_shapes ss.0) (subst (λ (ts : List Shape). IsTaken pl.quota (points_of_shapes ts) left) same taken) in
    ap (λ (o : Option (List Shape)). with_shapes (step_of_pose g.flip p) at n pl q o) (moves_again g p q ss.0 ss.1) ∙ ap (λ (o : Option Quota). put_placed at pl (part_placed (step_of_pose g.flip p) n q ss.0) o) quota ∙ ap (λ (y : PlacedPart). made (putting pl (y ∷ []) left)) ss.2

part_fault : (g : Ground) (p : Pose) (at n : ℕ) (pl : Placement) (q : ImagePart) (e : DesignFault) → with_part g p at n pl q ≡ Err e → NoPlace g p pl.quota at q e
unfolding with_part
part_fault g p at n pl q e h = by (shapes_placed g p q) refl h
  where
    by : (o : Option (List Shape)) → shapes_placed g p q ≡ o → with_shapes (step_of_pose g.flip p) at n pl q o ≡ Err e → NoPlace g p pl.quota at q e
    by None is h = inl (none_found g p q is, cc)
    by (Some ss) is h =
        let r = put_fault at pl (part_placed (step_of_pose g.flip p) n q ss) (quota_behind pl.quota ss) e h in
        inr (ss, moves_found g p q ss is, quota_fault pl.quota (points_of_shapes ss) (sym (quota_behind_is pl.quota ss) ∙ r.0), r.1)

part_fault_again : (g : Ground) (p : Pose) (at n : ℕ) (pl : Placement) (q : ImagePart) (e : DesignFault) → NoPlace g p pl.quota at q e → with_part g p at n pl q ≡ Err e
unfolding with_part
part_fault_again g p at n pl q e (inl far) = ap (λ (o : Option (List Shape)). with_shapes (step_of_pose g.flip p) at n pl q o) (none_again g p q far.0) ∙ ap failed (sym far.1)
part_fault_again g p at n pl q e (inr full) =
    let quota : quota_behind pl.quota full.0 ≡ None = quota_behind_is pl.quota full.0 ∙ quota_fault_again pl.quota (points_of_shapes full.0) full.2 in
    ap (λ (o : Option (List Shape)). with_shapes (step_of_pose g.flip p) at n pl q o) (moves_again g p q full.0 full.1) ∙ ap (λ (o : Option Quota). put_placed at pl (part_placed (step_of_pose g.flip p) n q full.0) o) quota ∙ ap failed (sym full.3)

-- ---- all parts

pub parts_found : (g : Ground) (p : Pose) (at n : ℕ) (qs : List ImagePart) (pl m : Placement) → with_parts g p at n pl qs ≡ Ok m
    → (ps : List PlacedPart) × (left : Quota) × OneByOne (IsPlaced g p n) qs ps × AreTaken pl.quota ps left × (putting pl ps left ≡ m)
unfolding with_parts
parts_found g p at n [] pl m e = ([], pl.quota, tt, taken_none pl.quota, sym (putting_none pl pl.quota refl) ∙ ok_is pl m e)
parts_found g p at n (q ∷ qs) pl m e =
    let y = bind_ok (with_part g p at n pl q) (λ y. with_parts g p at n y qs) m e in
    let one = part_found g p at n pl y.0 q y.1 in
    let others = parts_found g p at n qs y.0 m y.2 in
    let quota : y.0.quota ≡ one.1 = ap (λ (x : Placement). x.quota) (sym one.4) in
    let taken = subst (λ (r : Quota). AreTaken r others.0 others.1) quota others.3 in
    let whole = ap (λ (x : Placement). putting x others.0 others.1) one.4 ∙ others.4 in
    (one.0 ∷ others.0, others.1, (one.2, others.2), taken_more pl.quota one.1 others.1 one.0 others.0 one.3 taken, sym (putting_more pl (one.0 ∷ []) others.0 one.1 others.1) ∙ whole)

pub parts_again : (g : Ground) (p : Pose) (at n : ℕ) (qs : List ImagePart) (pl : Placement) (ps : List PlacedPart) (left : Quota) → OneByOne (IsPlaced g p n) qs ps → AreTaken pl.quota ps left
    → with_parts g p at n pl qs ≡ Ok (putting pl ps left)
unfolding with_parts
parts_again g p at n [] pl [] left h taken = ap made (putting_none pl left (taken_is pl.quota left taken))
parts_again g p at n [] pl (x ∷ ps) left h taken = absurd h
parts_again g p at n (q ∷ qs) pl [] left h taken = absurd h
parts_again g p at n (q ∷ qs) pl (x ∷ ps) left h taken =
    let one = part_again g p at n pl (middle_of ps left) q x h.0 (taken_first pl.quota left x ps taken) in
    rw one (parts_again g p at n qs (putting pl (x ∷ []) (middle_of ps left)) ps left h.1 (taken_others left ps) ∙ ap made (putting_more pl (x ∷ []) ps (middle_of ps left) left))

pub parts_fault : (g : Ground) (p : Pose) (at n : ℕ) (qs : List ImagePart) (pl : Placement) (e : DesignFault) → with_parts g p at n pl qs ≡ Err e → PartsFault g p n pl.quota at qs e
unfolding with_parts
parts_fault g p at n [] pl e h = absurd cc
parts_fault g p at n (q ∷ qs) pl e h =
    elim (bind_err (with_part g p at n pl q) (λ y. with_parts g p at n y qs) e h) [
      | inl here ↦ record { before = []; part = q; after = qs; parts = refl; put = []; are = tt; left = pl.quota; taken = taken_none pl.quota; none = part_fault g p at n pl q e here }
      | inr y ↦
          let one = part_found g p at n pl y.0 q y.1 in
          let r = parts_fault g p at n qs y.0 e y.2 in
          let quota : y.0.quota ≡ one.1 = ap (λ (x : Placement). x.quota) (sym one.4) in
          record {
            before = q ∷ r.before;
            part = r.part;
            after = r.after;
            parts = ap (λ (xs : List ImagePart). q ∷ xs) r.parts;
            put = one.0 ∷ r.put;
            are = (one.2, r.are);
            left = r.left;
            taken = taken_more pl.quota one.1 r.left one.0 r.put one.3 (subst (λ (x : Quota). AreTaken x r.put r.left) quota r.taken);
            none = r.none;
          }
    ]

parts_behind : (g : Ground) (p : Pose) (at n : ℕ) (before after : List ImagePart) (pl m : Placement) → with_parts g p at n pl before ≡ Ok m → with_parts g p at n pl (before ++ after) ≡ with_parts g p at n m after
unfolding with_parts
parts_behind g p at n [] after pl m e = ap (λ (x : Placement). with_parts g p at n x after) (ok_is pl m e)
parts_behind g p at n (q ∷ before) after pl m e =
    let y = bind_ok (with_part g p at n pl q) (λ y. with_parts g p at n y before) m e in
    rw y.1 (parts_behind g p at n before after y.0 m y.2)

here_fault : (g : Ground) (p : Pose) (at n : ℕ) (q : ImagePart) (after : List ImagePart) (pl : Placement) (e : DesignFault) → with_part g p at n pl q ≡ Err e → with_parts g p at n pl (q ∷ after) ≡ Err e
unfolding with_parts
here_fault g p at n q after pl e h = rw h refl

pub parts_fault_again : (g : Ground) (p : Pose) (at n : ℕ) (qs : List ImagePart) (pl : Placement) (e : DesignFault) → PartsFault g p n pl.quota at qs e → with_parts g p at n pl qs ≡ Err e
parts_fault_again g p at n qs pl e h =
    let first = parts_again g p at n h.before pl h.put h.left h.are h.taken in
    ap (λ (xs : List ImagePart). with_parts g p at n pl xs) h.parts
    ∙ parts_behind g p at n h.before (h.part ∷ h.after) pl (putting pl h.put h.left) first
    ∙ here_fault g p at n h.part h.after (putting pl h.put h.left) e (part_fault_again g p at n (putting pl h.put h.left) h.part e h.none)
