-- What the wiring section states is within the limits.
use Rattle.std.proofs.Common.{◌≡◌, ℕ, zero, suc, ◌^◌, ◌≤◌, ◌<◌, Bool, true, false, List, [], ◌∷◌, ◌++◌, length, map, Option, Some, None, Ok, refl, sym, ap, subst, arith, le_refl}
use Rattle.std.specs.Prelude.{nat_lt, nat_le, ◌&&◌, IfSome, is_some, slice_get, unsigned_abs, ◌+ℤ◌}
use Rattle.std.specs.List.{AllByRecursion, list_all}
use Rattle.std.proofs.lemmas.List.{length-append, length-map}
use Rattle.std.proofs.lemmas.List.Elements.{All-from_recursion}
use Rattle.sexp_text.specs.Forest.{Forest}
use Rattle.sexp_text.specs.declared.units.Unit.{Unit as LengthUnit}
use Rattle.seg_geometry.specs.declared.points.Pt.{Pt}
use Rattle.seg_geometry.specs.Points.{IsInRange}
use Rattle.area_geometry.specs.declared.shapes.Shape.{Shape}
use Rattle.area_geometry.specs.Copper.{IsWithinLimits, core_points, moved, placed}
use Rattle.board_items.specs.declared.items.Item.{Item}
use Rattle.board_items.specs.declared.items.Item.TheVariants as items
use Rattle.board_items.specs.declared.items.Padstack.{Padstack}
use Rattle.board_items.specs.Shapes.{shapes_of, copper_of_item}
use Rattle.board_rules.specs.declared.design.Parts.{Parts}
use Rattle.board_rules.specs.Designs.{HasCore, HasEnough, IsFitItem, NamesThere}
use Rattle.board_rules.proofs.Cores.{placed_core}
use Rattle.dsn_lists.specs.declared.faults.DesignKind.TheVariants as kind
use Rattle.dsn_lists.specs.declared.marks.Mark.{Mark}
use Rattle.dsn_lists.specs.declared.places.Coordinates.{Coordinates}
use Rattle.dsn_lists.specs.declared.pcb.Section.TheVariants as sections
use Rattle.dsn_lists.specs.Results.{Read, ◌>>=◌, each}
use Rattle.dsn_lists.specs.Names.{place_of}
use Rattle.dsn_lists.specs.Words.{Heading, head_of, word_of, one_word}
use Rattle.dsn_lists.specs.Units.{unit_list, governing}
use Rattle.dsn_lists.specs.Places.{no_coordinates, coordinates}
use Rattle.dsn_lists.specs.Layers.{one_layer}
use Rattle.dsn_lists.specs.Shapes.{path_of}
use Rattle.dsn_lists.specs.Pcbs.{Spot, design_of, section_in}
use Rattle.dsn_lists.proofs.Bounds.{ok_is, err_gives, bind_ok, then_ok, else_ok, each_keeps, all_push, place_bound, one_layer_bound, path_of_bound}
use Rattle.dsn_shapes.specs.declared.quotas.Quota.{Quota}
use Rattle.dsn_shapes.specs.Limits.{AreFitDrawn}
use Rattle.dsn_shapes.specs.Quotas.{quota_for, quota_behind}
use Rattle.dsn_library.specs.declared.library.Library.{Library}
use Rattle.dsn_library.specs.Limits.{IsFitStack, IsFitLibrary}
use Rattle.dsn_reader.specs.declared.ends.Ends.{Ends}
use Rattle.dsn_reader.specs.declared.ends.EndWord.{EndWord}
use Rattle.dsn_reader.specs.declared.ends.EndWord.TheVariants as ends
use Rattle.dsn_reader.specs.declared.wires.Track.{Track}
use Rattle.dsn_reader.specs.declared.wires.Draft.{Draft}
use Rattle.dsn_reader.specs.declared.wires.WireWord.{WireWord}
use Rattle.dsn_reader.specs.declared.wires.WireWord.TheVariants as wires
use Rattle.dsn_reader.specs.declared.wiring.Wiring.{Wiring}
use Rattle.dsn_reader.specs.declared.wiring.WiringWord.{WiringWord}
use Rattle.dsn_reader.specs.declared.wiring.WiringWord.TheVariants as words
use Rattle.dsn_reader.specs.Wirings.{Netted, netted, numbered, net_number, type_list, net_list, type_once, end_word, end_list, end_item, no_ends, is_fixed, with_item, track_of, path_once, wire_word, ended_draft, wire_list, wire_item, no_draft, wire_with, as_wire, wire_of, known_stack, is_near, is_point_near, is_shape_near, are_near, Kindred, via_at, vias_at, as_points, some_net, via_of, wiring_word, wiring_list, wiring_item, no_wiring, wiring_at, wiring_of}
use Rattle.dsn_reader.specs.Limits.{NamesOneOf, IsFitLoaded}

-- at most 100,000 nets; all wires and vias are within the limits
pub record IsFitWiring (layers : ℕ) (stacks : List Padstack) (x : Netted Wiring) : Type 0 where
  pub nets : length x.nets ≤ 100000
  pub items : AllByRecursion (IsFitLoaded (length x.nets) layers stacks) x.it.items

-- ---- nets

-- there are no fewer nets than before, and at most 100,000
abbrev AreGrown : ℕ → List (List ℕ) → Type 0
AreGrown n nets = (n ≤ length nets) × (length nets ≤ 100000)

-- a net that is named is there
abbrev IsFitEnds : ℕ → Netted Ends → Type 0
IsFitEnds n x = AreGrown n x.nets × IfSome x.it.net (λ k. k < length x.nets)

fit_numbered : (nets : List (List ℕ)) (w : Mark) (o : Option ℕ) (y : Netted ℕ) → length nets ≤ 100000 → ((k : ℕ) → o ≡ Some k → k < length nets) → numbered nets w o ≡ Ok y → AreGrown (length nets) y.nets × (y.it < length y.nets)
fit_numbered nets w (Some k) y few below e =
    let own : AreGrown (length nets) nets × (k < length nets) = ((le_refl (length nets), few), below k refl) in
    subst (λ (x : Netted ℕ). AreGrown (length nets) x.nets × (x.it < length x.nets)) (ok_is e) own
fit_numbered nets w None y few below e =
    let a = else_ok (nat_lt 99999 (length nets)) (Ok (netted (nets ++ w.name ∷ []) (length nets))) kind.Large w.at y e in
    let quota : length nets < 100000 = grind (arith, a.0) in
    let more = length-append nets (w.name ∷ []) in
    let own : AreGrown (length nets) (nets ++ w.name ∷ []) × (length nets < length (nets ++ w.name ∷ [])) = ((omega (arith, more), omega (arith, more, quota)), omega (arith, more)) in
    subst (λ (x : Netted ℕ). AreGrown (length nets) x.nets × (x.it < length x.nets)) (ok_is a.1) own

fit_net_number : (nets : List (List ℕ)) (w : Mark) (y : Netted ℕ) → length nets ≤ 100000 → net_number nets w ≡ Ok y → AreGrown (length nets) y.nets × (y.it < length y.nets)
unfolding net_number
fit_net_number nets w y few e = fit_numbered nets w (place_of nets w.name) y few (place_bound nets w.name) e

fit_net_list : (n : ℕ) (x : Netted Ends) (at : ℕ) (f : Forest) (y : Netted Ends) → IsFitEnds n x → net_list x.nets x.it at f ≡ Ok y → IsFitEnds n y
unfolding net_list
fit_net_list n x at f y p e =
    let a = else_ok (is_some x.it.net) _ kind.Form at y e in
    let b = bind_ok (one_word at f) _ y a.1 in
    let c = bind_ok (net_number x.nets b.0) _ y b.2 in
    let fit = fit_net_number x.nets b.0 c.0 p.0.1 c.1 in
    let low = p.0.0 in
    let more = fit.0.0 in
    let own : IsFitEnds n (netted c.0.nets (record x.it { net = Some c.0.it })) = ((omega (arith, low, more), fit.0.1), fit.1) in
    subst (IsFitEnds n) (ok_is c.2) own

fit_type_once : (n : ℕ) (nets : List (List ℕ)) (o : Ends) (at : ℕ) (f : Forest) (y : Ends) → IsFitEnds n (netted nets o) → type_once o at f ≡ Ok y → IsFitEnds n (netted nets y)
unfolding type_once
fit_type_once n nets o at f y p e =
    let a = else_ok (is_some o.fix) _ kind.Form at y e in
    let b = bind_ok (type_list at f) _ y a.1 in
    subst (λ (z : Ends). IsFitEnds n (netted nets z)) (ok_is b.2) p

fit_end_list : (n : ℕ) (x : Netted Ends) (at : ℕ) (h : Heading) (w : EndWord) (y : Netted Ends) → IsFitEnds n x → end_list x at h w ≡ Ok y → IsFitEnds n y
fit_end_list n x at h ends.Net y p e = fit_net_list n x at h.args y p e
fit_end_list n x at h ends.Kind y p e =
    let a = bind_ok (type_once x.it at h.args) _ y e in
    subst (IsFitEnds n) (ok_is a.2) (fit_type_once n x.nets x.it at h.args a.0 p a.1)
fit_end_list n x at h ends.Other y p e = subst (IsFitEnds n) (ok_is e) p

fit_end_item : (n : ℕ) (x : Netted Ends) (at : ℕ) (inside : Forest) (y : Netted Ends) → IsFitEnds n x → end_item x at inside ≡ Ok y → IsFitEnds n y
unfolding end_item
fit_end_item n x at inside y p e = fit_end_list n x at (head_of inside) (end_word (head_of inside).text) y p e

-- ---- items

-- what is fit stays so as nets grow
more_nets : (n m layers : ℕ) (stacks : List Padstack) (i : Item) → n ≤ m → IsFitLoaded n layers stacks i → IsFitLoaded m layers stacks i
more_nets n m layers stacks (items.Wire net layer width points fix) low p = record { there = (omega (arith, low, p.there.0), p.there.1); copper = p.copper; cores = p.cores }
more_nets n m layers stacks (items.Via net padstack place fix) low p = record { there = (omega (arith, low, p.there.0), p.there.1); copper = p.copper; cores = p.cores }
more_nets n m layers stacks (items.Pad net shapes) low p = absurd p.there
more_nets n m layers stacks (items.Keep k shapes) low p = absurd p.there

all_more_nets : (n m layers : ℕ) (stacks : List Padstack) (xs : List Item) → n ≤ m → AllByRecursion (IsFitLoaded n layers stacks) xs → AllByRecursion (IsFitLoaded m layers stacks) xs
all_more_nets n m layers stacks [] low p = tt
all_more_nets n m layers stacks (x ∷ xs) low p = (more_nets n m layers stacks x low p.0, all_more_nets n m layers stacks xs low p.1)

-- the items so far, for so many nets
abbrev AreFitItems : ℕ → ℕ → List Padstack → Wiring → Type 0
AreFitItems n layers stacks w = AllByRecursion (IsFitLoaded n layers stacks) w.items

fit_with_item : (n layers : ℕ) (stacks : List Padstack) (at : ℕ) (w : Wiring) (i : Item) (o : Option Quota) (y : Wiring) → IsFitLoaded n layers stacks i → AreFitItems n layers stacks w → with_item at w i o ≡ Ok y → AreFitItems n layers stacks y
fit_with_item n layers stacks at w i None y fit p e = absurd (err_gives e)
fit_with_item n layers stacks at w i (Some quota) y fit p e = subst (AreFitItems n layers stacks) (ok_is {x = record { items = w.items ++ i ∷ []; quota = quota }} e) (all_push (IsFitLoaded n layers stacks) w.items i p fit)

-- ---- wires

abbrev IsFitTrack : ℕ → Track → Type 0
IsFitTrack layers t = (t.layer < layers) × (t.width ≤ 100000000) × AllByRecursion IsInRange t.points × (2 ≤ length t.points)

fit_track_of : (u : LengthUnit) (layers : List (List ℕ)) (at : ℕ) (f : Forest) (y : Track) → track_of u layers at f ≡ Ok y → IsFitTrack (length layers) y
unfolding track_of
fit_track_of u layers at f y e =
    let a = bind_ok (word_of at f) _ y e in
    let b = bind_ok (one_layer layers a.0.0) _ y a.2 in
    let c = bind_ok (path_of u at a.0.1) _ y b.2 in
    let fit = path_of_bound u at a.0.1 c.0 c.1 in
    let own : IsFitTrack (length layers) (record { layer = b.0; width = c.0.width; points = c.0.points }) = (one_layer_bound layers a.0.0 b.0 b.1, fit.width, fit.points, fit.count) in
    subst (IsFitTrack (length layers)) (ok_is c.2) own

abbrev IsFitDraft : ℕ → ℕ → Netted Draft → Type 0
IsFitDraft n layers x = IsFitEnds n (netted x.nets x.it.ends) × IfSome x.it.track (IsFitTrack layers)

fit_path_once : (n : ℕ) (u : LengthUnit) (layers nets : List (List ℕ)) (d : Draft) (at : ℕ) (f : Forest) (y : Draft) → IsFitDraft n (length layers) (netted nets d) → path_once u layers d at f ≡ Ok y → IsFitDraft n (length layers) (netted nets y)
unfolding path_once
fit_path_once n u layers nets d at f y p e =
    let a = else_ok (is_some d.track) _ kind.Form at y e in
    let b = bind_ok (track_of u layers at f) _ y a.1 in
    let own : IsFitDraft n (length layers) (netted nets (record d { track = Some b.0 })) = (p.0, fit_track_of u layers at f b.0 b.1) in
    subst (λ (z : Draft). IsFitDraft n (length layers) (netted nets z)) (ok_is b.2) own

fit_ended : (n : ℕ) (layers : ℕ) (x : Netted Draft) (at : ℕ) (inside : Forest) (y : Netted Draft) → IsFitDraft n layers x → ended_draft x.nets x.it at inside ≡ Ok y → IsFitDraft n layers y
fit_ended n layers x at inside y p e =
    let a = bind_ok (end_item (netted x.nets x.it.ends) at inside) _ y e in
    let fit = fit_end_item n (netted x.nets x.it.ends) at inside a.0 p.0 a.1 in
    let own : IsFitDraft n layers (netted a.0.nets (record x.it { ends = a.0.it })) = (fit, p.1) in
    subst (IsFitDraft n layers) (ok_is a.2) own

fit_wire_list : (n : ℕ) (u : LengthUnit) (layers : List (List ℕ)) (x : Netted Draft) (at : ℕ) (inside : Forest) (w : WireWord) (y : Netted Draft) → IsFitDraft n (length layers) x → wire_list u layers x at inside w ≡ Ok y → IsFitDraft n (length layers) y
fit_wire_list n u layers x at inside wires.Path y p e =
    let a = bind_ok (path_once u layers x.it at (head_of inside).args) _ y e in
    subst (IsFitDraft n (length layers)) (ok_is a.2) (fit_path_once n u layers x.nets x.it at (head_of inside).args a.0 p a.1)
fit_wire_list n u layers x at inside wires.Shape y p e = absurd (err_gives e)
fit_wire_list n u layers x at inside wires.Arc y p e = absurd (err_gives e)
fit_wire_list n u layers x at inside wires.Polyline y p e = absurd (err_gives e)
fit_wire_list n u layers x at inside wires.End y p e = fit_ended n (length layers) x at inside y p e

fit_wire_item : (n : ℕ) (u : LengthUnit) (layers : List (List ℕ)) (x : Netted Draft) (at : ℕ) (inside : Forest) (y : Netted Draft) → IsFitDraft n (length layers) x → wire_item u layers x at inside ≡ Ok y → IsFitDraft n (length layers) y
unfolding wire_item
fit_wire_item n u layers x at inside y p e = fit_wire_list n u layers x at inside (wire_word (head_of inside).text) y p e

fit_wire_with : (n layers : ℕ) (stacks : List Padstack) (at : ℕ) (w : Wiring) (t : Option Track) (net : Option ℕ) (fix : Option Bool) (y : Wiring) → IfSome t (IsFitTrack layers) → IfSome net (λ k. k < n) → AreFitItems n layers stacks w
    → wire_with at w t net fix ≡ Ok y → AreFitItems n layers stacks y
fit_wire_with n layers stacks at w (Some t) (Some net) fix y track below p e =
    let own : IsFitLoaded n layers stacks (items.Wire net t.layer t.width t.points (is_fixed fix)) = record {
      there = (below, track.0);
      copper = (record { points = All-from_recursion IsInRange t.points track.2; width = track.1 }, tt);
      cores = ((let many = track.3 in omega (arith, many)), tt);
    } in
    fit_with_item n layers stacks at w (items.Wire net t.layer t.width t.points (is_fixed fix)) (quota_for w.quota (length t.points)) y own p e
fit_wire_with n layers stacks at w (Some t) None fix y track below p e = absurd (err_gives e)
fit_wire_with n layers stacks at w None net fix y track below p e = absurd (err_gives e)

fit_as_wire : (n layers : ℕ) (stacks : List Padstack) (at : ℕ) (w : Wiring) (d : Draft) (y : Wiring) → IfSome d.track (IsFitTrack layers) → IfSome d.ends.net (λ k. k < n) → AreFitItems n layers stacks w → as_wire at w d ≡ Ok y → AreFitItems n layers stacks y
unfolding as_wire
fit_as_wire n layers stacks at w d y track below p e = fit_wire_with n layers stacks at w d.track d.ends.net d.ends.fix y track below p e

abbrev IsFitSoFar : ℕ → List Padstack → Netted Wiring → Type 0
IsFitSoFar layers stacks x = (length x.nets ≤ 100000) × AreFitItems (length x.nets) layers stacks x.it

no_draft_fit : (nets : List (List ℕ)) (layers : ℕ) → length nets ≤ 100000 → IsFitDraft (length nets) layers (netted nets no_draft)
no_draft_fit nets layers few = (((le_refl (length nets), few), tt), tt)

fit_wire_of : (u : LengthUnit) (layers : List (List ℕ)) (stacks : List Padstack) (x : Netted Wiring) (at : ℕ) (f : Forest) (y : Netted Wiring) → IsFitSoFar (length layers) stacks x → wire_of u layers x at f ≡ Ok y → IsFitSoFar (length layers) stacks y
unfolding wire_of
fit_wire_of u layers stacks x at f y p e =
    let a = bind_ok (each (wire_item u layers) (netted x.nets no_draft) f) _ y e in
    let b = bind_ok (as_wire at x.it a.0.it) _ y a.2 in
    let d = each_keeps (IsFitDraft (length x.nets) (length layers)) (wire_item u layers) (fit_wire_item (length x.nets) u layers) (netted x.nets no_draft) f a.0 (no_draft_fit x.nets (length layers) p.0) a.1 in
    let old = all_more_nets (length x.nets) (length a.0.nets) (length layers) stacks x.it.items d.0.0.0 p.1 in
    let own : IsFitSoFar (length layers) stacks (netted a.0.nets b.0) = (d.0.0.1, fit_as_wire (length a.0.nets) (length layers) stacks at x.it a.0.it b.0 d.1 d.0.1 old b.1) in
    subst (IsFitSoFar (length layers) stacks) (ok_is b.2) own

-- ---- vias

and_parts : (a b : Bool) → (a && b) ≡ true → (a ≡ true) × (b ≡ true)
and_parts true b e = (refl, e)
and_parts false b e = absurd (grind arith)

near_point : (p q : Pt) → is_point_near p q ≡ true → IsInRange (moved p q)
unfolding is_near
near_point p q e =
    let s = and_parts (nat_le (unsigned_abs (q.x +ℤ p.x)) 1000000000) (nat_le (unsigned_abs (q.y +ℤ p.y)) 1000000000) e in
    record { x = grind (arith, s.0); y = grind (arith, s.1) }

near_points : (p : Pt) (qs : List Pt) → list_all (is_point_near p) qs ≡ true → AllByRecursion IsInRange (map (moved p) qs)
near_points p [] e = tt
near_points p (q ∷ qs) e = let s = and_parts (is_point_near p q) (list_all (is_point_near p) qs) e in (near_point p q s.0, near_points p qs s.1)

abbrev IsThin : Shape → Type 0
IsThin s = (s.width ≤ 100000000) × HasCore s.core

near_shapes : (p : Pt) (ss : List Shape) → AllByRecursion IsThin ss → list_all (is_shape_near p) ss ≡ true → AllByRecursion IsWithinLimits (map (placed p) ss)
near_shapes p [] thin e = tt
near_shapes p (s ∷ ss) thin e =
    let a = and_parts (is_shape_near p s) (list_all (is_shape_near p) ss) e in
    (record { points = All-from_recursion IsInRange (map (moved p) (core_points s.core)) (near_points p (core_points s.core) a.0); width = thin.0.0 }, near_shapes p ss thin.1 a.1)

enough_shapes : (p : Pt) (ss : List Shape) → AllByRecursion IsThin ss → AllByRecursion HasEnough (map (placed p) ss)
enough_shapes p [] thin = tt
enough_shapes p (s ∷ ss) thin = (placed_core p s thin.0.1, enough_shapes p ss thin.1)

-- what all vias of a list have in common
abbrev kindred : ℕ → ℕ → Library → Bool → Kindred
kindred net stack l fix = record { net = net; stack = stack; shapes = shapes_of (slice_get l.stacks stack); fix = fix }

-- what all vias of a list have in common is fit
abbrev IsFitKindred : ℕ → List Padstack → Kindred → Type 0
IsFitKindred n stacks v = (v.net < n) × (v.stack < length stacks) × (shapes_of (slice_get stacks v.stack) ≡ v.shapes) × AllByRecursion IsThin v.shapes

fit_via_at : (n layers : ℕ) (stacks : List Padstack) (at : ℕ) (v : Kindred) (w : Wiring) (p : Pt) (y : Wiring) → IsFitKindred n stacks v → AreFitItems n layers stacks w → via_at at v w p ≡ Ok y → AreFitItems n layers stacks y
unfolding via_at are_near
fit_via_at n layers stacks at v w p y fit old e =
    let a = then_ok (list_all (is_shape_near p) v.shapes) _ kind.Range at y e in
    let own : IsFitLoaded n layers stacks (items.Via v.net v.stack p v.fix) = record {
      there = (fit.0, fit.1);
      copper = subst (λ (ss : List Shape). AllByRecursion IsWithinLimits (map (placed p) ss)) (sym fit.2) (near_shapes p v.shapes fit.3 a.0);
      cores = subst (λ (ss : List Shape). AllByRecursion HasEnough (map (placed p) ss)) (sym fit.2) (enough_shapes p v.shapes fit.3);
    } in
    fit_with_item n layers stacks at w (items.Via v.net v.stack p v.fix) (quota_behind w.quota v.shapes) y own old a.1

fit_vias_at : (n layers : ℕ) (stacks : List Padstack) (at : ℕ) (v : Kindred) (w : Wiring) (ps : List Pt) (y : Wiring) → IsFitKindred n stacks v → AreFitItems n layers stacks w → vias_at at v w ps ≡ Ok y → AreFitItems n layers stacks y
unfolding vias_at
fit_vias_at n layers stacks at v w [] y fit old e = subst (AreFitItems n layers stacks) (ok_is e) old
fit_vias_at n layers stacks at v w (p ∷ ps) y fit old e =
    let a = bind_ok (via_at at v w p) _ y e in
    fit_vias_at n layers stacks at v a.0 ps y fit (fit_via_at n layers stacks at v w p a.0 fit old a.1) a.2

known_stack_is : (at n : ℕ) (o : Option ℕ) → known_stack at o ≡ Ok n → o ≡ Some n
known_stack_is at n (Some m) e = ap (λ (k : ℕ). Some k) (ok_is e)
known_stack_is at n None e = absurd (err_gives e)

some_net_is : (at n : ℕ) (o : Option ℕ) → some_net at o ≡ Ok n → o ≡ Some n
some_net_is at n (Some m) e = ap (λ (k : ℕ). Some k) (ok_is e)
some_net_is at n None e = absurd (err_gives e)

thin_shapes : (layers : ℕ) (ss : List Shape) → AreFitDrawn layers ss → AllByRecursion IsThin ss
thin_shapes layers [] p = tt
thin_shapes layers (s ∷ ss) p = ((p.0.width, p.0.core), thin_shapes layers ss p.1)

thin_at : (layers n : ℕ) (stacks : List Padstack) → AllByRecursion (IsFitStack layers) stacks → AllByRecursion IsThin (shapes_of (slice_get stacks n))
thin_at layers n [] p = tt
thin_at layers zero (s ∷ stacks) p = thin_shapes layers s.shapes p.0
thin_at layers (suc n) (s ∷ stacks) p = thin_at layers n stacks p.1

no_ends_fit : (nets : List (List ℕ)) → length nets ≤ 100000 → IsFitEnds (length nets) (netted nets no_ends)
no_ends_fit nets few = ((le_refl (length nets), few), tt)

-- what stands behind the ends of a list of vias
abbrev vias_behind : Library → Wiring → ℕ → ℕ → Coordinates → Netted Ends → Read (Netted Wiring)
vias_behind l w at stack c o = do
  ps ← as_points at c
  net ← some_net at o.it.net
  all ← vias_at at (kindred net stack l (is_fixed o.it.fix)) w ps
  Ok (netted o.nets all)

-- the ends of a list of vias, and its padstack
ends_of : (u : LengthUnit) (l : Library) (x : Netted Wiring) (at : ℕ) (f : Forest) (y : Netted Wiring) → via_of u l x at f ≡ Ok y
    → (o : Netted Ends) × (rest : Forest) × (name : List ℕ) × (stack : ℕ) × (c : Coordinates) × (each end_item (netted x.nets no_ends) rest ≡ Ok o) × (place_of l.names name ≡ Some stack) × (vias_behind l x.it at stack c o ≡ Ok y)
unfolding via_of
ends_of u l x at f y e =
    let a = bind_ok (word_of at f) _ y e in
    let b = bind_ok (known_stack a.0.0.at (place_of l.names a.0.0.name)) _ y a.2 in
    let c = bind_ok (coordinates u no_coordinates a.0.1) _ y b.2 in
    let d = bind_ok (each end_item (netted x.nets no_ends) c.0.1) _ y c.2 in
    (d.0, c.0.1, a.0.0.name, b.0, c.0.0, d.1, known_stack_is a.0.0.at b.0 (place_of l.names a.0.0.name) b.1, d.2)

fit_kindred : (n layers : ℕ) (l : Library) (name : List ℕ) (net stack : ℕ) (fix : Bool) → IsFitLibrary layers l → net < n → place_of l.names name ≡ Some stack → IsFitKindred n l.stacks (kindred net stack l fix)
fit_kindred n layers l name net stack fix library below e =
    (below, subst (λ (m : ℕ). stack < m) library.names (place_bound l.names name stack e), refl, thin_at layers stack l.stacks library.shapes)

fit_behind : (layers : ℕ) (l : Library) (w : Wiring) (at stack : ℕ) (name : List ℕ) (c : Coordinates) (o : Netted Ends) (y : Netted Wiring) → IsFitLibrary layers l → place_of l.names name ≡ Some stack → length o.nets ≤ 100000
    → IfSome o.it.net (λ k. k < length o.nets) → AreFitItems (length o.nets) layers l.stacks w → vias_behind l w at stack c o ≡ Ok y → IsFitSoFar layers l.stacks y
fit_behind layers l w at stack name c o y library place few end old e =
    let a = bind_ok (as_points at c) _ y e in
    let b = bind_ok (some_net at o.it.net) _ y a.2 in
    let d = bind_ok (vias_at at (kindred b.0 stack l (is_fixed o.it.fix)) w a.0) _ y b.2 in
    let below = subst (λ (x : Option ℕ). IfSome x (λ n. n < length o.nets)) (some_net_is at b.0 o.it.net b.1) end in
    let fit = fit_kindred (length o.nets) layers l name b.0 stack (is_fixed o.it.fix) library below place in
    let all = fit_vias_at (length o.nets) layers l.stacks at (kindred b.0 stack l (is_fixed o.it.fix)) w a.0 d.0 fit old d.1 in
    subst (IsFitSoFar layers l.stacks) (ok_is {x = netted o.nets d.0} d.2) (few, all)

fit_via_of : (u : LengthUnit) (layers : ℕ) (l : Library) (x : Netted Wiring) (at : ℕ) (f : Forest) (y : Netted Wiring) → IsFitLibrary layers l → IsFitSoFar layers l.stacks x → via_of u l x at f ≡ Ok y → IsFitSoFar layers l.stacks y
fit_via_of u layers l x at f y library p e =
    let s = ends_of u l x at f y e in
    let end = each_keeps (IsFitEnds (length x.nets)) end_item (fit_end_item (length x.nets)) (netted x.nets no_ends) s.1 s.0 (no_ends_fit x.nets p.0) s.5 in
    let old = all_more_nets (length x.nets) (length s.0.nets) layers l.stacks x.it.items end.0.0 p.1 in
    fit_behind layers l x.it at s.3 s.2 s.4 s.0 y library s.6 end.0.1 end.1 old s.7

-- ---- the section

fit_wiring_list : (u : LengthUnit) (layers : List (List ℕ)) (l : Library) → IsFitLibrary (length layers) l → (x : Netted Wiring) (at : ℕ) (h : Heading) (w : WiringWord) (y : Netted Wiring) → IsFitSoFar (length layers) l.stacks x → wiring_list u layers l x at h w ≡ Ok y → IsFitSoFar (length layers) l.stacks y
fit_wiring_list u layers l library x at h words.Wire y p e = fit_wire_of u layers l.stacks x at h.args y p e
fit_wiring_list u layers l library x at h words.Via y p e = fit_via_of u (length layers) l x at h.args y library p e
fit_wiring_list u layers l library x at h words.Unit y p e = let a = bind_ok (unit_list at h.args) _ y e in subst (IsFitSoFar (length layers) l.stacks) (ok_is a.2) p
fit_wiring_list u layers l library x at h words.Resolution y p e = absurd (err_gives e)
fit_wiring_list u layers l library x at h words.Other y p e = subst (IsFitSoFar (length layers) l.stacks) (ok_is e) p

fit_wiring_item : (u : LengthUnit) (layers : List (List ℕ)) (l : Library) → IsFitLibrary (length layers) l → (x : Netted Wiring) (at : ℕ) (inside : Forest) (y : Netted Wiring) → IsFitSoFar (length layers) l.stacks x → wiring_item u layers l x at inside ≡ Ok y → IsFitSoFar (length layers) l.stacks y
unfolding wiring_item
fit_wiring_item u layers l library x at inside y p e = fit_wiring_list u layers l library x at (head_of inside) (wiring_word (head_of inside).text) y p e

fit_wiring_at : (u : LengthUnit) (layers : List (List ℕ)) (l : Library) (nets : List (List ℕ)) (quota : Quota) (s : Spot) (y : Netted Wiring) → IsFitLibrary (length layers) l → length nets ≤ 100000 → wiring_at u layers l nets quota s ≡ Ok y → IsFitSoFar (length layers) l.stacks y
unfolding wiring_at
fit_wiring_at u layers l nets quota s y library few e =
    each_keeps (IsFitSoFar (length layers) l.stacks) (wiring_item (governing u s.args) layers l) (fit_wiring_item (governing u s.args) layers l library) (netted nets (no_wiring quota)) s.args y (few, tt) e

pub wiring_of_fit : (f : Forest) (layers : List (List ℕ)) (l : Library) (nets : List (List ℕ)) (quota : Quota) (y : Netted Wiring) → IsFitLibrary (length layers) l → length nets ≤ 100000 → wiring_of f layers l nets quota ≡ Ok y → IsFitWiring (length layers) l.stacks y
unfolding wiring_of
wiring_of_fit f layers l nets quota y library few e =
    let a = bind_ok (design_of f) _ y e in
    let s = fit_wiring_at a.0.unit layers l nets quota (section_in sections.Wiring f) y library few a.2 in
    record { nets = s.0; items = s.1 }

-- ---- items of a design

abbrev AreFew : List Padstack → Type 0
AreFew stacks = AllByRecursion (λ (s : Padstack). length s.shapes < 2 ^ 32) stacks

few_at : (n : ℕ) (stacks : List Padstack) → AreFew stacks → length (shapes_of (slice_get stacks n)) < 2 ^ 32
few_at n [] few = omega arith
few_at zero (s ∷ stacks) few = few.0
few_at (suc n) (s ∷ stacks) few = few_at n stacks few.1

few_copper : (n layers : ℕ) (stacks : List Padstack) (i : Item) → AreFew stacks → IsFitLoaded n layers stacks i → length (copper_of_item stacks i) < 2 ^ 32
few_copper n layers stacks (items.Wire net layer width points fix) few p = omega arith
few_copper n layers stacks (items.Via net padstack place fix) few p = rw (length-map (shapes_of (slice_get stacks padstack)) (placed place)) (few_at padstack stacks few)
few_copper n layers stacks (items.Pad net shapes) few p = absurd p.there
few_copper n layers stacks (items.Keep k shapes) few p = absurd p.there

names_there : (p : Parts) (n : ℕ) (i : Item) → n ≡ length p.nets → NamesOneOf n (length p.layers) (length p.stacks) i → NamesThere p i
names_there p n (items.Wire net layer width points fix) same h = (subst (λ (m : ℕ). net < m) same h.0, h.1)
names_there p n (items.Via net padstack place fix) same h = (subst (λ (m : ℕ). net < m) same h.0, h.1)
names_there p n (items.Pad net shapes) same h = absurd h
names_there p n (items.Keep k shapes) same h = absurd h

pub fit_item : (p : Parts) (n : ℕ) (i : Item) → n ≡ length p.nets → AreFew p.stacks → IsFitLoaded n (length p.layers) p.stacks i → IsFitItem p i
fit_item p n i same few h = record {
  there = names_there p n i same h.there;
  copper = All-from_recursion IsWithinLimits (copper_of_item p.stacks i) h.copper;
  cores = All-from_recursion HasEnough (copper_of_item p.stacks i) h.cores;
  few = few_copper n (length p.layers) p.stacks i few h;
}

pub fit_items : (p : Parts) (n : ℕ) (xs : List Item) → n ≡ length p.nets → AreFew p.stacks → AllByRecursion (IsFitLoaded n (length p.layers) p.stacks) xs → AllByRecursion (IsFitItem p) xs
fit_items p n [] same few h = tt
fit_items p n (x ∷ xs) same few h = (fit_item p n x same few h.0, fit_items p n xs same few h.1)
