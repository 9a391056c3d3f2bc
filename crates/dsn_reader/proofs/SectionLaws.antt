-- The wiring section is read exactly where it stands for its wiring, and its first fault is the one that is told.
use Rattle.std.proofs.Common.{◌≡◌, ℕ, ◌+◌, ◌≤◌, List, [], ◌++◌, length, Ok, Err, refl, sym, ap, subst, ◌∙◌, append_assoc, arith}
use Rattle.std.proofs.lemmas.List.{append-nil, length-append}
use Rattle.std.proofs.lemmas.List.Sums.{sum_by-append}
use Rattle.sexp_text.specs.Forest.{Forest, End, Word, Branch}
use Rattle.sexp_text.specs.declared.units.Unit.{Unit as LengthUnit}
use Rattle.board_items.specs.declared.items.Item.{Item}
use Rattle.dsn_lists.specs.declared.faults.DesignFault.{DesignFault}
use Rattle.dsn_lists.specs.Results.{each}
use Rattle.dsn_lists.specs.Words.{head_of}
use Rattle.dsn_lists.specs.Lists.{collect}
use Rattle.dsn_lists.proofs.Firsts.{made, ok_is, bind_ok}
use Rattle.dsn_shapes.specs.declared.quotas.Quota.{Quota}
use Rattle.dsn_library.specs.declared.library.Library.{Library}
use Rattle.dsn_reader.specs.declared.wiring.Wiring.{Wiring}
use Rattle.dsn_reader.specs.Wirings.{Netted, netted, wiring_word, wiring_item, no_wiring}
use Rattle.dsn_reader.specs.EndLists.{with_names}
use Rattle.dsn_reader.specs.Meaning.{HaveItems, used_in, points_of_item, IsWiring, OfWiringFault, IsFirstFault}
use Rattle.dsn_lists.proofs.Growing.{Grows, grows_same, grows_then}
use Rattle.dsn_reader.proofs.NetLaws.{grows_with, with-append, long_with}
use Rattle.dsn_reader.proofs.EndLaws.{firsts_found, firsts_again}
use Rattle.dsn_reader.proofs.AddedLaws.{points_in, IsAdded, added_found, same_wiring, added_again, added_fault, added_fault_again}
use Rattle.dsn_reader.proofs.MoreNetLaws.{list_grows}

-- ---- all lists

-- lists of the section behind wiring, the items that they add, and the names of the nets at the end
pub record AreAdded (u : LengthUnit) (layers : List (List ℕ)) (l : Library) (final : List (List ℕ)) (x : Netted Wiring) (f : Forest) (more : List Item) (y : Netted Wiring) : Type 0 where
  pub nets : y.nets ≡ with_names x.nets (collect used_in f)
  pub few_nets : length y.nets ≤ 100000
  pub are : HaveItems u layers l final f more
  pub items : y.it.items ≡ x.it.items ++ more
  pub count : x.it.quota.items ≡ length more + y.it.quota.items
  pub points : x.it.quota.points ≡ points_in l.stacks more + y.it.quota.points

all_found : (u : LengthUnit) (layers : List (List ℕ)) (l : Library) (f : Forest) (x y : Netted Wiring) → length x.nets ≤ 100000 → each (wiring_item u layers l) x f ≡ Ok y
    → (more : List Item) × AreAdded u layers l y.nets x f more y
unfolding each wiring_item
all_found u layers l End x y few e = (
  [],
  subst (λ (z : Netted Wiring). AreAdded u layers l z.nets x End [] z) (ok_is x y e)
      (record { nets = refl; few_nets = few; are = refl; items = sym (append-nil x.it.items); count = omega arith; points = omega arith }),
)
all_found u layers l (Word at text rest) x y few e = absurd cc
all_found u layers l (Branch at inside rest) x y few e =
    let m = bind_ok (wiring_item u layers l x at inside) (λ y. each (wiring_item u layers l) y rest) y e in
    let k = wiring_word (head_of inside).text in
    let here = added_found u layers l x at (head_of inside) (wiring_word (head_of inside).text) m.0 few m.1 in
    let one = here.1 in
    let later = all_found u layers l rest m.0 y one.few_nets m.2 in
    let others = later.1 in
    let grows : Grows m.0.nets y.nets = subst (λ (xs : List (List ℕ)). Grows m.0.nets xs) (sym others.nets) (grows_with (collect used_in rest) m.0.nets) in
    let sum = sum_by-append (points_of_item l.stacks) here.0 later.0 in
    let long = length-append here.0 later.0 in
    let first_count = one.count in
    let more_count = others.count in
    let first_points = one.points in
    let more_points = others.points in (
      here.0 ++ later.0,
      record {
        nets = others.nets ∙ ap (λ (xs : List (List ℕ)). with_names xs (collect used_in rest)) one.nets ∙ sym (with-append (used_in at inside) (collect used_in rest) x.nets);
        few_nets = others.few_nets;
        are = (here.0, later.0, list_grows u layers l m.0.nets y.nets (wiring_word (head_of inside).text) (head_of inside).args here.0 grows one.is, others.are, refl);
        items = others.items ∙ ap (λ (is : List Item). is ++ later.0) one.items ∙ append_assoc x.it.items here.0 later.0;
        count = omega (arith, long, first_count, more_count);
        points = omega (arith, sum, first_points, more_points);
      },
    )

all_again : (u : LengthUnit) (layers : List (List ℕ)) (l : Library) (final : List (List ℕ)) (f : Forest) (x : Netted Wiring) (more : List Item) (y : Netted Wiring) → Grows y.nets final → AreAdded u layers l final x f more y
    → each (wiring_item u layers l) x f ≡ Ok y
unfolding each wiring_item
all_again u layers l final End x more y grows a =
    ap made (same_wiring x y a.nets (a.items ∙ ap (λ (is : List Item). x.it.items ++ is) a.are) (a.count ∙ ap (λ (is : List Item). length is + y.it.quota.items) a.are) (a.points ∙ ap (λ (is : List Item). points_in l.stacks is + y.it.quota.points) a.are))
all_again u layers l final (Word at text rest) x more y grows a = absurd a.are
all_again u layers l final (Branch at inside rest) x more y grows a =
    let here = a.are.0 in
    let later = a.are.1 in
    let parts = a.are.4 in
    let middle = with_names x.nets (used_in at inside) in
    let all : y.nets ≡ with_names middle (collect used_in rest) = a.nets ∙ with-append (used_in at inside) (collect used_in rest) x.nets in
    let left : Quota = record { items = length later + y.it.quota.items; points = points_in l.stacks later + y.it.quota.points } in
    let m : Netted Wiring = netted middle (record { items = x.it.items ++ here; quota = left }) in
    let long = long_with (collect used_in rest) middle in
    let few = a.few_nets in
    let same_length = ap length all in
    let items_all : y.it.items ≡ m.it.items ++ later = a.items ∙ ap (λ (is : List Item). x.it.items ++ is) parts ∙ sym (append_assoc x.it.items here later) in
    let sum = sum_by-append (points_of_item l.stacks) here later in
    let both = length-append here later in
    let count : x.it.quota.items ≡ length (here ++ later) + y.it.quota.items = a.count ∙ ap (λ (is : List Item). length is + y.it.quota.items) parts in
    let points : x.it.quota.points ≡ points_in l.stacks (here ++ later) + y.it.quota.points = a.points ∙ ap (λ (is : List Item). points_in l.stacks is + y.it.quota.points) parts in
    let first : IsAdded u layers l final x (wiring_word (head_of inside).text) (head_of inside).args here m = record {
      nets = refl;
      few_nets = omega (arith, long, few, same_length);
      is = a.are.2;
      items = refl;
      count = omega (arith, both, count);
      points = omega (arith, sum, points);
    } in
    let grows_first : Grows middle final = grows_then middle y.nets final (subst (λ (xs : List (List ℕ)). Grows middle xs) (sym all) (grows_with (collect used_in rest) middle)) grows in
    let others : AreAdded u layers l final m rest later y = record { nets = all; few_nets = a.few_nets; are = a.are.3; items = items_all; count = refl; points = refl } in
    rw (added_again u layers l final x at (head_of inside) (wiring_word (head_of inside).text) here m grows_first first) (all_again u layers l final rest m later y grows others)

-- ---- the section

pub section_found : (u : LengthUnit) (layers : List (List ℕ)) (l : Library) (nets : List (List ℕ)) (quota : Quota) (f : Forest) (y : Netted Wiring) → length nets ≤ 100000 → each (wiring_item u layers l) (netted nets (no_wiring quota)) f ≡ Ok y → IsWiring u layers l nets quota f y
section_found u layers l nets quota f y few e =
    let h = all_found u layers l f (netted nets (no_wiring quota)) y few e in
    let a = h.1 in
    record {
      nets_are = a.nets;
      few_nets = a.few_nets;
      items_are = subst (λ (is : List Item). HaveItems u layers l y.nets f is) (sym a.items) a.are;
      few_items = ap (λ (is : List Item). length is + y.it.quota.items) a.items ∙ sym a.count;
      few_points = ap (λ (is : List Item). points_in l.stacks is + y.it.quota.points) a.items ∙ sym a.points;
    }

pub section_again : (u : LengthUnit) (layers : List (List ℕ)) (l : Library) (nets : List (List ℕ)) (quota : Quota) (f : Forest) (y : Netted Wiring) → IsWiring u layers l nets quota f y → each (wiring_item u layers l) (netted nets (no_wiring quota)) f ≡ Ok y
section_again u layers l nets quota f y h =
    all_again u layers l y.nets f (netted nets (no_wiring quota)) y.it.items y (grows_same y.nets)
    (record { nets = h.nets_are; few_nets = h.few_nets; are = h.items_are; items = refl; count = sym h.few_items; points = sym h.few_points })

abbrev OfWiring : LengthUnit → List (List ℕ) → Library → Netted Wiring → ℕ → Forest → DesignFault → Type 0
OfWiring u layers l x at inside e = OfWiringFault u layers l x at (head_of inside) (wiring_word (head_of inside).text) e

item_fault : (u : LengthUnit) (layers : List (List ℕ)) (l : Library) (x : Netted Wiring) (at : ℕ) (inside : Forest) (e : DesignFault) → length x.nets ≤ 100000 → wiring_item u layers l x at inside ≡ Err e → OfWiring u layers l x at inside e
unfolding wiring_item
item_fault u layers l x at inside e few h = added_fault u layers l x at (head_of inside) (wiring_word (head_of inside).text) e few h

item_fault_again : (u : LengthUnit) (layers : List (List ℕ)) (l : Library) (x : Netted Wiring) (at : ℕ) (inside : Forest) (e : DesignFault) → OfWiring u layers l x at inside e → wiring_item u layers l x at inside ≡ Err e
unfolding wiring_item
item_fault_again u layers l x at inside e h = added_fault_again u layers l x at (head_of inside) (wiring_word (head_of inside).text) e h

pub section_fault : (u : LengthUnit) (layers : List (List ℕ)) (l : Library) (nets : List (List ℕ)) (quota : Quota) (f : Forest) (e : DesignFault) → length nets ≤ 100000 → each (wiring_item u layers l) (netted nets (no_wiring quota)) f ≡ Err e → IsFirstFault u layers l nets quota f e
section_fault u layers l nets quota f e few h =
    firsts_found (wiring_item u layers l) (netted nets (no_wiring quota)) (IsWiring u layers l nets quota) (OfWiring u layers l) (λ f y k. section_found u layers l nets quota f y few k)
    (λ f y at inside e has k. item_fault u layers l y at inside e has.few_nets k) f e h

pub section_fault_again : (u : LengthUnit) (layers : List (List ℕ)) (l : Library) (nets : List (List ℕ)) (quota : Quota) (f : Forest) (e : DesignFault) → IsFirstFault u layers l nets quota f e → each (wiring_item u layers l) (netted nets (no_wiring quota)) f ≡ Err e
section_fault_again u layers l nets quota f e h =
    firsts_again (wiring_item u layers l) (netted nets (no_wiring quota)) (IsWiring u layers l nets quota) (OfWiring u layers l) (section_again u layers l nets quota)
    (λ f y at inside e has k. item_fault_again u layers l y at inside e k) f e h
