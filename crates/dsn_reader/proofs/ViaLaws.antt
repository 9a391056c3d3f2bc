-- The vias at points are those that are put, and the fault of one is the one that is told.
use Rattle.std.proofs.Common.{◌≡◌, ℕ, ◌+◌, Bool, true, false, cond, List, [], ◌∷◌, ◌++◌, map, length, Option, Ok, Err, refl, sym, ap, subst, ◌∙◌, append_assoc, arith, inl, inr, ◌⊎◌}
use Rattle.std.specs.List.{AllByRecursion}
use Rattle.std.proofs.lemmas.List.{append-nil}
use Rattle.seg_geometry.specs.declared.points.Pt.{Pt}
use Rattle.board_items.specs.declared.items.Item.{Item}
use Rattle.board_items.specs.declared.items.Item.TheVariants as items
use Rattle.dsn_lists.specs.declared.faults.DesignFault.{DesignFault}
use Rattle.dsn_lists.specs.declared.faults.DesignKind.TheVariants as kind
use Rattle.dsn_lists.specs.Results.{wrong}
use Rattle.dsn_lists.specs.Lists.{told}
use Rattle.dsn_lists.proofs.Firsts.{made, failed, ok_is, bind_ok, bind_err}
use Rattle.dsn_reader.specs.declared.wiring.Wiring.{Wiring}
use Rattle.dsn_shapes.specs.declared.quotas.Quota.{Quota}
use Rattle.dsn_shapes.specs.Quotas.{quota_behind}
use Rattle.dsn_shapes.specs.QuotaLists.{points_of_shapes, NoQuota}
use Rattle.dsn_shapes.proofs.QuotaLaws.{quota_behind_is}
use Rattle.dsn_reader.specs.Wirings.{with_item, are_near, Kindred, via_at, vias_at}
use Rattle.dsn_reader.specs.ViaLists.{IsNear, PointFault}
use Rattle.dsn_reader.proofs.QuotaLaws.{IsPut, put_found, put_again, put_fault, put_fault_again}
use Rattle.dsn_reader.proofs.NearLaws.{near_found, near_again, far_found, far_again}

-- ---- one via

abbrev pub via_made : Kindred → Pt → Item
via_made v p = items.Via v.net v.stack p v.fix

abbrev pub per : Kindred → ℕ
per v = points_of_shapes v.shapes

via_found : (at : ℕ) (v : Kindred) (w : Wiring) (p : Pt) (y : Wiring) → via_at at v w p ≡ Ok y → IsNear v.shapes p × IsPut w (via_made v p) (per v) y
unfolding via_at
via_found at v w p y e = by (are_near p v.shapes) refl e
  where
    by : (b : Bool) → are_near p v.shapes ≡ b → cond b (with_item at w (via_made v p) (quota_behind w.quota v.shapes)) (wrong kind.Range at) ≡ Ok y → IsNear v.shapes p × IsPut w (via_made v p) (per v) y
    by true is e = (near_found p v.shapes is, put_found at w (via_made v p) (per v) y (ap (λ (o : Option Quota). with_item at w (via_made v p) o) (sym (quota_behind_is w.quota v.shapes)) ∙ e))
    by false is e = absurd cc

via_again : (at : ℕ) (v : Kindred) (w : Wiring) (p : Pt) (y : Wiring) → IsNear v.shapes p → IsPut w (via_made v p) (per v) y → via_at at v w p ≡ Ok y
unfolding via_at
via_again at v w p y near put = rw (near_again p v.shapes near) (ap (λ (o : Option Quota). with_item at w (via_made v p) o) (quota_behind_is w.quota v.shapes) ∙ put_again at w (via_made v p) (per v) y put)

via_fault : (at : ℕ) (v : Kindred) (w : Wiring) (p : Pt) (e : DesignFault) → via_at at v w p ≡ Err e
    → ((IsNear v.shapes p → ⊥) × (e ≡ told kind.Range at)) ⊎ (IsNear v.shapes p × NoQuota w.quota (per v) × (e ≡ told kind.Large at))
unfolding via_at
via_fault at v w p e h = by (are_near p v.shapes) refl h
  where
    by : (b : Bool) → are_near p v.shapes ≡ b → cond b (with_item at w (via_made v p) (quota_behind w.quota v.shapes)) (wrong kind.Range at) ≡ Err e
        → ((IsNear v.shapes p → ⊥) × (e ≡ told kind.Range at)) ⊎ (IsNear v.shapes p × NoQuota w.quota (per v) × (e ≡ told kind.Large at))
    by true is h = let full = put_fault at w (via_made v p) (per v) e (ap (λ (o : Option Quota). with_item at w (via_made v p) o) (sym (quota_behind_is w.quota v.shapes)) ∙ h) in inr (near_found p v.shapes is, full.0, full.1)
    by false is h = inl (far_found p v.shapes is, cc)

via_far : (at : ℕ) (v : Kindred) (w : Wiring) (p : Pt) → (IsNear v.shapes p → ⊥) → via_at at v w p ≡ wrong kind.Range at
unfolding via_at
via_far at v w p far = rw (far_again p v.shapes far) refl

via_full : (at : ℕ) (v : Kindred) (w : Wiring) (p : Pt) (e : DesignFault) → IsNear v.shapes p → NoQuota w.quota (per v) → e ≡ told kind.Large at → via_at at v w p ≡ Err e
unfolding via_at
via_full at v w p e near full is = rw (near_again p v.shapes near) (ap (λ (o : Option Quota). with_item at w (via_made v p) o) (quota_behind_is w.quota v.shapes) ∙ put_fault_again at w (via_made v p) (per v) e full is)

-- ---- all vias

abbrev pub times : List Pt → ℕ → ℕ
times [] n = 0
times (p ∷ ps) n = n + times ps n

-- vias behind wiring
pub record ArePut (v : Kindred) (w : Wiring) (ps : List Pt) (y : Wiring) : Type 0 where
  pub near : AllByRecursion (IsNear v.shapes) ps
  pub items : y.items ≡ w.items ++ map (via_made v) ps
  pub count : w.quota.items ≡ length ps + y.quota.items
  pub points : w.quota.points ≡ times ps (per v) + y.quota.points

pub vias_found : (at : ℕ) (v : Kindred) (ps : List Pt) (w y : Wiring) → vias_at at v w ps ≡ Ok y → ArePut v w ps y
unfolding vias_at
vias_found at v [] w y e = subst (ArePut v w []) (ok_is w y e) (record { near = tt; items = sym (append-nil w.items); count = omega arith; points = omega arith })
vias_found at v (p ∷ ps) w y e =
    let m = bind_ok (via_at at v w p) (λ x. vias_at at v x ps) y e in
    let one = via_found at v w p m.0 m.1 in
    let more = vias_found at v ps m.0 y m.2 in
    let first_count = one.1.quota.items in
    let first_points = one.1.quota.points in
    let more_count = more.count in
    let more_points = more.points in
    record {
      near = (one.0, more.near);
      items = more.items ∙ ap (λ (xs : List Item). xs ++ map (via_made v) ps) one.1.items ∙ append_assoc w.items (via_made v p ∷ []) (map (via_made v) ps);
      count = omega (arith, first_count, more_count);
      points = omega (arith, first_points, more_points);
    }

-- wiring of the same items and the same quota is the same
pub same_quota : (w y : Wiring) → y.items ≡ w.items → w.quota.items ≡ y.quota.items → w.quota.points ≡ y.quota.points → w ≡ y
same_quota w y all count points =
    ap (λ (xs : List Item). record { items = xs; quota = w.quota }) (sym all)
    ∙ ap (λ (n : ℕ). record { items = y.items; quota = record { items = n; points = w.quota.points } }) count
    ∙ ap (λ (n : ℕ). record { items = y.items; quota = record { items = y.quota.items; points = n } }) points

pub vias_again : (at : ℕ) (v : Kindred) (ps : List Pt) (w y : Wiring) → ArePut v w ps y → vias_at at v w ps ≡ Ok y
unfolding vias_at
vias_again at v [] w y h =
    let count = h.count in
    let points = h.points in
    ap made (same_quota w y (h.items ∙ append-nil w.items) (omega (arith, count)) (omega (arith, points)))
vias_again at v (p ∷ ps) w y h =
    let left : Quota = record { items = length ps + y.quota.items; points = times ps (per v) + y.quota.points } in
    let m : Wiring = record { items = w.items ++ via_made v p ∷ []; quota = left } in
    let all : y.items ≡ m.items ++ map (via_made v) ps = h.items ∙ sym (append_assoc w.items (via_made v p ∷ []) (map (via_made v) ps)) in
    let count = h.count in
    let points = h.points in
    let first : IsPut w (via_made v p) (per v) m = record { items = refl; quota = record { items = omega (arith, count); points = omega (arith, points) } } in
    let others : ArePut v m ps y = record { near = h.near.1; items = all; count = refl; points = refl } in
    rw (via_again at v w p m h.near.0 first) (vias_again at v ps m y others)

pub vias_fault : (at : ℕ) (v : Kindred) (ps : List Pt) (w : Wiring) (e : DesignFault) → vias_at at v w ps ≡ Err e → PointFault v.shapes at w.quota ps e
unfolding vias_at
vias_fault at v [] w e h = absurd cc
vias_fault at v (p ∷ ps) w e h =
    elim (bind_err (via_at at v w p) (λ x. vias_at at v x ps) e h) [
      | inl here ↦ first (via_fault at v w p e here)
      | inr later ↦ let one = via_found at v w p later.0 later.1 in inr (inr (one.0, later.0.quota, one.1.quota, vias_fault at v ps later.0 e later.2))
    ]
  where
    first : ((IsNear v.shapes p → ⊥) × (e ≡ told kind.Range at)) ⊎ (IsNear v.shapes p × NoQuota w.quota (per v) × (e ≡ told kind.Large at)) → PointFault v.shapes at w.quota (p ∷ ps) e
    first (inl far) = inl far
    first (inr full) = inr (inl full)

pub vias_fault_again : (at : ℕ) (v : Kindred) (ps : List Pt) (w : Wiring) (e : DesignFault) → PointFault v.shapes at w.quota ps e → vias_at at v w ps ≡ Err e
unfolding vias_at
vias_fault_again at v [] w e h = absurd h
vias_fault_again at v (p ∷ ps) w e (inl far) = rw (via_far at v w p far.0) (ap failed (sym far.1))
vias_fault_again at v (p ∷ ps) w e (inr (inl full)) = rw (via_full at v w p e full.0 full.1 full.2) refl
vias_fault_again at v (p ∷ ps) w e (inr (inr later)) =
    let m : Wiring = record { items = w.items ++ via_made v p ∷ []; quota = later.1 } in
    let put : IsPut w (via_made v p) (per v) m = record { items = refl; quota = later.2 } in
    rw (via_again at v w p m later.0 put) (vias_fault_again at v ps m e later.3)
