-- What is left of the quota behind keepouts.
use Rattle.std.proofs.Common.{◌≡◌, ◌-◌, ◌≤◌, List, [], ◌∷◌, ◌++◌, length, Some, None, sym, ◌∙◌, arith}
use Rattle.std.proofs.lemmas.List.{length-append}
use Rattle.std.proofs.lemmas.List.Sums.{sum_by-append, sum_by-cons}
use Rattle.area_geometry.specs.declared.shapes.Shape.{Shape}
use Rattle.board_items.specs.declared.items.KeepKind.{KeepKind}
use Rattle.board_items.specs.declared.items.Item.{Item}
use Rattle.board_items.specs.declared.items.Item.TheVariants as items
use Rattle.dsn_shapes.specs.declared.quotas.Quota.{Quota}
use Rattle.dsn_shapes.specs.Quotas.{quota_behind}
use Rattle.dsn_shapes.specs.QuotaLists.{points_of_shapes, NoQuota}
use Rattle.dsn_shapes.proofs.QuotaLaws.{quota_behind_is, quota_found, quota_again, quota_fault, quota_fault_again}
use Rattle.dsn_structure.specs.AreaLists.{points_of_keep, points_of_keeps}

-- the quota behind these keepouts
abbrev pub taken : Quota → List Item → Quota
taken quota ks = record { items = quota.items - length ks; points = quota.points - points_of_keeps ks }

-- there is room for these keepouts
pub record HasQuota (quota : Quota) (ks : List Item) : Type 0 where
  pub items : length ks ≤ quota.items
  pub points : points_of_keeps ks ≤ quota.points

pub taken_none : (quota : Quota) → quota ≡ taken quota []
taken_none quota =
    let a : quota.items ≡ quota.items - length {A = Item} [] = omega arith in
    let b : quota.points ≡ quota.points - points_of_keeps [] = omega arith in
    λ i. record { items = a i; points = b i }

pub taken_more : (quota : Quota) (ks js : List Item) → taken (taken quota ks) js ≡ taken quota (ks ++ js)
taken_more quota ks js =
    let count = length-append ks js in
    let sum = sum_by-append points_of_keep ks js in
    let a : (quota.items - length ks) - length js ≡ quota.items - length (ks ++ js) = omega (arith, count) in
    let b : (quota.points - points_of_keeps ks) - points_of_keeps js ≡ quota.points - points_of_keeps (ks ++ js) = omega (arith, sum) in
    λ i. record { items = a i; points = b i }

pub none_fit : (quota : Quota) → HasQuota quota []
none_fit quota = record { items = omega arith; points = omega arith }

-- keepouts and more behind them
pub quota_join : (quota : Quota) (ks js : List Item) → HasQuota quota ks → HasQuota (taken quota ks) js → HasQuota quota (ks ++ js)
quota_join quota ks js h k =
    let count = length-append ks js in
    let sum = sum_by-append points_of_keep ks js in
    let a = h.items in
    let b = h.points in
    let c = k.items in
    let d = k.points in
    record { items = omega (arith, count, a, c); points = omega (arith, sum, b, d) }

pub quota_front : (quota : Quota) (ks js : List Item) → HasQuota quota (ks ++ js) → HasQuota quota ks
quota_front quota ks js h =
    let count = length-append ks js in
    let sum = sum_by-append points_of_keep ks js in
    let a = h.items in
    let b = h.points in
    record { items = omega (arith, count, a); points = omega (arith, sum, b) }

pub quota_rest : (quota : Quota) (ks js : List Item) → HasQuota quota (ks ++ js) → HasQuota (taken quota ks) js
quota_rest quota ks js h =
    let count = length-append ks js in
    let sum = sum_by-append points_of_keep ks js in
    let a = h.items in
    let b = h.points in
    record { items = omega (arith, count, a); points = omega (arith, sum, b) }

-- ---- one keepout

points_of_one : (kind : KeepKind) (ss : List Shape) → points_of_keeps (items.Keep kind ss ∷ []) ≡ points_of_shapes ss
points_of_one kind ss = let sum = sum_by-cons points_of_keep (items.Keep kind ss) [] in omega (arith, sum)

pub one_taken : (quota left : Quota) (kind : KeepKind) (ss : List Shape) → quota_behind quota ss ≡ Some left → HasQuota quota (items.Keep kind ss ∷ []) × (left ≡ taken quota (items.Keep kind ss ∷ []))
one_taken quota left kind ss e =
    let t = quota_found quota left (points_of_shapes ss) (sym (quota_behind_is quota ss) ∙ e) in
    let one = points_of_one kind ss in
    let a = t.items in
    let b = t.points in
    let c : left.items ≡ quota.items - 1 = omega (arith, a) in
    let d : left.points ≡ quota.points - points_of_keeps (items.Keep kind ss ∷ []) = omega (arith, b, one) in
    (record { items = omega (arith, a); points = omega (arith, b, one) }, λ i. record { items = c i; points = d i })

pub one_fits : (quota : Quota) (kind : KeepKind) (ss : List Shape) → HasQuota quota (items.Keep kind ss ∷ []) → quota_behind quota ss ≡ Some (taken quota (items.Keep kind ss ∷ []))
one_fits quota kind ss h =
    let one = points_of_one kind ss in
    let a = h.items in
    let b = h.points in
    quota_behind_is quota ss ∙ quota_again quota (taken quota (items.Keep kind ss ∷ [])) (points_of_shapes ss) (record { items = omega (arith, a); points = omega (arith, b, one) })

pub one_too_many : (quota : Quota) (ss : List Shape) → quota_behind quota ss ≡ None → NoQuota quota (points_of_shapes ss)
one_too_many quota ss e = quota_fault quota (points_of_shapes ss) (sym (quota_behind_is quota ss) ∙ e)

pub too_many_again : (quota : Quota) (ss : List Shape) → NoQuota quota (points_of_shapes ss) → quota_behind quota ss ≡ None
too_many_again quota ss h = quota_behind_is quota ss ∙ quota_fault_again quota (points_of_shapes ss) h
