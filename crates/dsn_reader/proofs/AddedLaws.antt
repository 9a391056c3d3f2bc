-- What one list of the wiring section adds is what is read, and its fault is the one that is told.
use Rattle.std.proofs.Common.{◌≡◌, ℕ, ◌+◌, ◌≤◌, Bool, List, [], ◌∷◌, ◌++◌, map, length, Ok, Err, refl, sym, ap, subst, ◌∙◌, arith, inl, inr}
use Rattle.std.specs.Prelude.{slice_get}
use Rattle.std.specs.List.{sum_by}
use Rattle.std.proofs.lemmas.List.{append-nil, length-map}
use Rattle.std.proofs.lemmas.List.Sums.{sum_by-cons}
use Rattle.sexp_text.specs.Forest.{Forest, End, Word, Branch}
use Rattle.sexp_text.specs.declared.units.Unit.{Unit as LengthUnit}
use Rattle.seg_geometry.specs.declared.points.Pt.{Pt}
use Rattle.board_items.specs.declared.items.Item.{Item}
use Rattle.board_items.specs.declared.items.Item.TheVariants as items
use Rattle.board_items.specs.declared.items.Padstack.{Padstack}
use Rattle.board_items.specs.Shapes.{shapes_of}
use Rattle.dsn_lists.specs.declared.faults.DesignFault.{DesignFault}
use Rattle.dsn_lists.specs.Words.{Heading}
use Rattle.dsn_lists.specs.Units.{unit_list}
use Rattle.dsn_lists.proofs.Firsts.{made, failed, ok_is, bind_ok, bind_err}
use Rattle.dsn_lists.proofs.UnitLaws.{unit_found, unit_again, unit_fault, unit_fault_again}
use Rattle.dsn_library.specs.declared.library.Library.{Library}
use Rattle.dsn_reader.specs.declared.wiring.Wiring.{Wiring}
use Rattle.dsn_reader.specs.declared.wiring.WiringWord.{WiringWord}
use Rattle.dsn_reader.specs.declared.wiring.WiringWord.TheVariants as words
use Rattle.dsn_reader.specs.Wirings.{Netted, netted, wiring_list, is_fixed}
use Rattle.dsn_reader.specs.EndLists.{with_names}
use Rattle.dsn_shapes.specs.QuotaLists.{points_of_shapes}
use Rattle.dsn_reader.specs.ViaLists.{AreVias}
use Rattle.dsn_reader.specs.Meaning.{IsOfWiring, used_by_list, points_of_item, OfWiringFault}
use Rattle.dsn_lists.proofs.Growing.{Grows}
use Rattle.dsn_reader.proofs.QuotaLaws.{IsPut}
use Rattle.dsn_reader.proofs.WireLaws.{wire_found, wire_again, wire_fault, wire_fault_again}
use Rattle.dsn_reader.proofs.ViaLaws.{times, same_quota}
use Rattle.dsn_reader.proofs.ViaListLaws.{IsViaStep, names_behind, via_list_found, via_list_again, via_list_fault, via_list_fault_again}

-- ---- points of items

abbrev pub points_in : List Padstack → List Item → ℕ
points_in stacks is = sum_by (points_of_item stacks) is

one_item : (stacks : List Padstack) (i : Item) → points_in stacks (i ∷ []) ≡ points_of_item stacks i
one_item stacks i = let sum = sum_by-cons (points_of_item stacks) i [] in omega (arith, sum)

vias_sum : (stacks : List Padstack) (net stack n : ℕ) (fixed : Bool) (ps : List Pt) → points_of_shapes (shapes_of (slice_get stacks stack)) ≡ n → points_in stacks (map (λ p. items.Via net stack p fixed) ps) ≡ times ps n
vias_sum stacks net stack n fixed [] e = refl
vias_sum stacks net stack n fixed (p ∷ ps) e =
    let sum = sum_by-cons (points_of_item stacks) (items.Via net stack p fixed) (map (λ p. items.Via net stack p fixed) ps) in
    let more = vias_sum stacks net stack n fixed ps e in
    omega (arith, sum, more, e)

-- ---- one list

-- a list of the section behind wiring, the items that it adds, and the names of the nets at the end
pub record IsAdded (u : LengthUnit) (layers : List (List ℕ)) (l : Library) (final : List (List ℕ)) (x : Netted Wiring) (k : WiringWord) (f : Forest) (more : List Item) (y : Netted Wiring) : Type 0 where
  pub nets : y.nets ≡ with_names x.nets (used_by_list k f)
  pub few_nets : length y.nets ≤ 100000
  pub is : IsOfWiring u layers l final k f more
  pub items : y.it.items ≡ x.it.items ++ more
  pub count : x.it.quota.items ≡ length more + y.it.quota.items
  pub points : x.it.quota.points ≡ points_in l.stacks more + y.it.quota.points

none_added : (u : LengthUnit) (layers : List (List ℕ)) (l : Library) (x : Netted Wiring) (k : WiringWord) (f : Forest) → used_by_list k f ≡ [] → IsOfWiring u layers l x.nets k f [] → length x.nets ≤ 100000
    → IsAdded u layers l x.nets x k f [] x
none_added u layers l x k f none is few = record {
  nets = ap (λ (names : List (List ℕ)). with_names x.nets names) (sym none);
  few_nets = few;
  is = is;
  items = sym (append-nil x.it.items);
  count = omega arith;
  points = omega arith;
}

via_step : (u : LengthUnit) (layers : List (List ℕ)) (l : Library) (x : Netted Wiring) (f : Forest) (y : Netted Wiring) → IsViaStep u l y.nets x f y → (more : List Item) × IsAdded u layers l y.nets x words.Via f more y
via_step u layers l x End y h = absurd h
via_step u layers l x (Branch a inside rest) y h = absurd h
via_step u layers l x (Word a text rest) y h =
    let p = h.2 in
    let fixed = is_fixed p.fix in
    let more = map (λ q. items.Via p.net h.0 q fixed) p.points in
    let sum = vias_sum l.stacks p.net h.0 (points_of_shapes (shapes_of (slice_get l.stacks h.0))) fixed p.points refl in
    let points = p.put.points in (
      more,
      record {
        nets = p.nets ∙ ap (λ (names : List (List ℕ)). with_names x.nets names) (sym (names_behind rest));
        few_nets = p.few;
        is = (h.0, h.1, record { points = p.points; net = p.net; fix = p.fix; pairs = p.pairs; some = p.some; ends = p.ends; near = p.put.near; are = refl });
        items = p.put.items;
        count = p.put.count ∙ ap (λ (n : ℕ). n + y.it.quota.items) (sym (length-map p.points (λ q. items.Via p.net h.0 q fixed)));
        points = omega (arith, sum, points);
      },
    )

pub added_found : (u : LengthUnit) (layers : List (List ℕ)) (l : Library) (x : Netted Wiring) (at : ℕ) (h : Heading) (k : WiringWord) (y : Netted Wiring) → length x.nets ≤ 100000 → wiring_list u layers l x at h k ≡ Ok y
    → (more : List Item) × IsAdded u layers l y.nets x k h.args more y
added_found u layers l x at h words.Wire y few e =
    let w = wire_found u layers x at h.args y few e in
    let i = items.Wire w.1 w.0.layer w.0.width w.0.points (is_fixed w.2) in
    let put = w.3.put in
    let sum = one_item l.stacks i in
    let count = put.quota.items in
    let points = put.quota.points in (
      i ∷ [],
      record { nets = w.3.nets; few_nets = w.3.few; is = (i, w.3.wire, refl); items = put.items; count = omega (arith, count); points = omega (arith, sum, points) },
    )
added_found u layers l x at h words.Via y few e = via_step u layers l x h.args y (via_list_found u l x at h.args y few e)
added_found u layers l x at h words.Unit y few e =
    let v = bind_ok (unit_list at h.args) (λ _. made x) y e in
    ([], subst (λ (z : Netted Wiring). IsAdded u layers l z.nets x words.Unit h.args [] z) (ok_is x y v.2) (none_added u layers l x words.Unit h.args refl ((unit_found at h.args v.0 v.1).0, refl) few))
added_found u layers l x at h words.Resolution y few e = absurd cc
added_found u layers l x at h words.Other y few e = ([], subst (λ (z : Netted Wiring). IsAdded u layers l z.nets x words.Other h.args [] z) (ok_is x y e) (none_added u layers l x words.Other h.args refl refl few))

pub same_wiring : (x y : Netted Wiring) → y.nets ≡ x.nets → y.it.items ≡ x.it.items ++ [] → x.it.quota.items ≡ 0 + y.it.quota.items → x.it.quota.points ≡ 0 + y.it.quota.points → x ≡ y
same_wiring x y nets all count points =
    ap (λ (xs : List (List ℕ)). netted xs x.it) (sym nets) ∙ ap (λ (w : Wiring). netted y.nets w) (same_quota x.it y.it (all ∙ append-nil x.it.items) (omega (arith, count)) (omega (arith, points)))

nothing_added : (u : LengthUnit) (layers : List (List ℕ)) (l : Library) (final : List (List ℕ)) (x : Netted Wiring) (k : WiringWord) (f : Forest) (more : List Item) (y : Netted Wiring) → used_by_list k f ≡ [] → more ≡ [] → IsAdded u layers l final x k f more y → x ≡ y
nothing_added u layers l final x k f more y none empty a =
    same_wiring x y (a.nets ∙ ap (λ (names : List (List ℕ)). with_names x.nets names) none) (a.items ∙ ap (λ (is : List Item). x.it.items ++ is) empty) (a.count ∙ ap (λ (is : List Item). length is + y.it.quota.items) empty) (a.points ∙ ap (λ (is : List Item). points_in l.stacks is + y.it.quota.points) empty)

wire_put : (u : LengthUnit) (layers : List (List ℕ)) (l : Library) (final : List (List ℕ)) (x : Netted Wiring) (f : Forest) (more : List Item) (y : Netted Wiring) (i : Item) → more ≡ i ∷ [] → IsAdded u layers l final x words.Wire f more y → IsPut x.it i (points_of_item l.stacks i) y.it
wire_put u layers l final x f more y i one a =
    let sum = one_item l.stacks i in
    let all : y.it.items ≡ x.it.items ++ i ∷ [] = a.items ∙ ap (λ (is : List Item). x.it.items ++ is) one in
    let count : x.it.quota.items ≡ length (i ∷ []) + y.it.quota.items = a.count ∙ ap (λ (is : List Item). length is + y.it.quota.items) one in
    let points : x.it.quota.points ≡ points_in l.stacks (i ∷ []) + y.it.quota.points = a.points ∙ ap (λ (is : List Item). points_in l.stacks is + y.it.quota.points) one in
    record { items = all; quota = record { items = omega (arith, count); points = omega (arith, points, sum) } }

vias_step : (u : LengthUnit) (layers : List (List ℕ)) (l : Library) (final : List (List ℕ)) (x : Netted Wiring) (f : Forest) (more : List Item) (y : Netted Wiring) → AreVias u l final f more → IsAdded u layers l final x words.Via f more y → IsViaStep u l final x f y
vias_step u layers l final x End more y h a = absurd h
vias_step u layers l final x (Branch b inside rest) more y h a = absurd h
vias_step u layers l final x (Word b text rest) more y h a =
    let v = h.2 in
    let fixed = is_fixed v.fix in
    let vias = map (λ q. items.Via v.net h.0 q fixed) v.points in
    let sum = vias_sum l.stacks v.net h.0 (points_of_shapes (shapes_of (slice_get l.stacks h.0))) fixed v.points refl in
    let count : x.it.quota.items ≡ length vias + y.it.quota.items = a.count ∙ ap (λ (is : List Item). length is + y.it.quota.items) v.are in
    let points : x.it.quota.points ≡ points_in l.stacks vias + y.it.quota.points = a.points ∙ ap (λ (is : List Item). points_in l.stacks is + y.it.quota.points) v.are in (
      h.0,
      h.1,
      record {
        points = v.points;
        net = v.net;
        fix = v.fix;
        pairs = v.pairs;
        some = v.some;
        nets = a.nets ∙ ap (λ (names : List (List ℕ)). with_names x.nets names) (names_behind rest);
        few = a.few_nets;
        ends = v.ends;
        put = record { near = v.near; items = a.items ∙ ap (λ (is : List Item). x.it.items ++ is) v.are; count = count ∙ ap (λ (n : ℕ). n + y.it.quota.items) (length-map v.points (λ q. items.Via v.net h.0 q fixed)); points = omega (arith, sum, points) };
      },
    )

pub added_again : (u : LengthUnit) (layers : List (List ℕ)) (l : Library) (final : List (List ℕ)) (x : Netted Wiring) (at : ℕ) (h : Heading) (k : WiringWord) (more : List Item) (y : Netted Wiring) → Grows y.nets final → IsAdded u layers l final x k h.args more y
    → wiring_list u layers l x at h k ≡ Ok y
added_again u layers l final x at h words.Wire more y grows a =
    let w = a.is.1 in
    let put = subst (λ (i : Item). IsPut x.it i (points_of_item l.stacks i) y.it) w.is (wire_put u layers l final x h.args more y a.is.0 a.is.2 a) in
    wire_again u layers final x at h.args w.track w.net w.fix y grows a.nets a.few_nets w.draft put
added_again u layers l final x at h words.Via more y grows a = via_list_again u l final x at h.args y grows (vias_step u layers l final x h.args more y a.is a)
added_again u layers l final x at h words.Unit more y grows a =
    let v = unit_again at h.args a.is.0 in
    rw v.1 (ap made (nothing_added u layers l final x words.Unit h.args more y refl a.is.1 a))
added_again u layers l final x at h words.Resolution more y grows a = absurd a.is
added_again u layers l final x at h words.Other more y grows a = ap made (nothing_added u layers l final x words.Other h.args more y refl a.is a)

pub added_fault : (u : LengthUnit) (layers : List (List ℕ)) (l : Library) (x : Netted Wiring) (at : ℕ) (h : Heading) (k : WiringWord) (e : DesignFault) → length x.nets ≤ 100000 → wiring_list u layers l x at h k ≡ Err e → OfWiringFault u layers l x at h k e
added_fault u layers l x at h words.Wire e few is = wire_fault u layers x at h.args e few is
added_fault u layers l x at h words.Via e few is = via_list_fault u l x at h.args e few is
added_fault u layers l x at h words.Unit e few is =
    elim (bind_err (unit_list at h.args) (λ _. made x) e is) [
      | inl here ↦ unit_fault at h.args e here
      | inr later ↦ absurd cc
    ]
added_fault u layers l x at h words.Resolution e few is = cc
added_fault u layers l x at h words.Other e few is = absurd cc

pub added_fault_again : (u : LengthUnit) (layers : List (List ℕ)) (l : Library) (x : Netted Wiring) (at : ℕ) (h : Heading) (k : WiringWord) (e : DesignFault) → OfWiringFault u layers l x at h k e → wiring_list u layers l x at h k ≡ Err e
added_fault_again u layers l x at h words.Wire e is = wire_fault_again u layers x at h.args e is
added_fault_again u layers l x at h words.Via e is = via_list_fault_again u l x at h.args e is
added_fault_again u layers l x at h words.Unit e is = rw (unit_fault_again at h.args e is) refl
added_fault_again u layers l x at h words.Resolution e is = ap failed (sym is)
added_fault_again u layers l x at h words.Other e is = absurd is
