-- The design that a text states is sound.
use Rattle.std.proofs.Common.{◌≡◌, ℕ, zero, suc, ◌+◌, ◌-◌, ◌*◌, ◌^◌, ◌≤◌, ◌<◌, Bool, true, false, List, [], ◌∷◌, ◌++◌, map, length, Option, Some, None, Ok, refl, sym, ap, ◌∙◌, subst, arith}
use Rattle.std.specs.Prelude.{slice_get, set, get_or, replicate, ◌==◌, if◌then◌else◌}
use Rattle.std.specs.List.{AllByRecursion}
use Rattle.std.proofs.lemmas.List.{length-append, length-map}
use Rattle.std.proofs.lemmas.List.Sums.{sum_by-cons}
use Rattle.sexp_text.specs.Forest.{Forest}
use Rattle.sexp_text.specs.Nodes.{size}
use Rattle.area_geometry.specs.declared.shapes.Core.{Core}
use Rattle.area_geometry.specs.declared.shapes.Core.TheVariants.{Chain, Area}
use Rattle.area_geometry.specs.declared.shapes.Shape.{Shape}
use Rattle.area_geometry.specs.Copper.{core_points}
use Rattle.board_items.specs.declared.items.Item.{Item}
use Rattle.board_items.specs.declared.items.Item.TheVariants as items
use Rattle.board_items.specs.declared.items.Padstack.{Padstack}
use Rattle.board_rules.specs.declared.design.ClassRow.{ClassRow}
use Rattle.board_rules.specs.declared.design.NetRow.{NetRow}
use Rattle.board_rules.specs.declared.design.Parts.{Parts}
use Rattle.board_rules.specs.Designs.{HasCore, AreThere, IsFitClass, IsFitItem, IsSound}
use Rattle.dsn_lists.specs.declared.marks.Mark.{Mark}
use Rattle.dsn_lists.specs.declared.rules.Rule.{Rule}
use Rattle.dsn_lists.specs.Names.{place_of}
use Rattle.dsn_lists.specs.Pcbs.{design_of}
use Rattle.dsn_lists.specs.Lists.{collect}
use Rattle.dsn_lists.specs.Limits.{IsFitRule}
use Rattle.dsn_lists.proofs.Bounds.{ok_is, bind_ok, all_push, place_bound}
use Rattle.dsn_structure.specs.declared.structure.Structure.{Structure}
use Rattle.dsn_structure.specs.Structures.{structure_of}
use Rattle.dsn_shapes.specs.declared.quotas.Quota.{Quota}
use Rattle.dsn_shapes.specs.QuotaLists.{points_of_shapes}
use Rattle.dsn_shapes.specs.Limits.{AreFitDrawn}
use Rattle.dsn_structure.specs.Limits.{IsFitKeep, IsFitStructure}
use Rattle.dsn_structure.proofs.Sound.{structure_of_fit, structure_of_few}
use Rattle.dsn_library.specs.declared.library.Library.{Library}
use Rattle.dsn_network.specs.declared.classes.Class.{Class}
use Rattle.dsn_network.specs.declared.network.Network.{Network}
use Rattle.dsn_library.specs.Libraries.{library_of}
use Rattle.dsn_placement.specs.declared.placement.PlacedPart.{PlacedPart}
use Rattle.dsn_placement.specs.declared.placement.PlacedPart.TheVariants as placed
use Rattle.dsn_placement.specs.declared.placement.Placement.{Placement}
use Rattle.dsn_placement.specs.Components.{placement_of}
use Rattle.dsn_placement.specs.PlaceParts.{shapes_of_placed, points_of_parts}
use Rattle.dsn_placement.specs.PlaceLimits.{IsFitPlaced}
use Rattle.dsn_network.specs.References.{net_at}
use Rattle.dsn_network.specs.Networks.{network_of, in_class, named_in, classed}
use Rattle.dsn_library.specs.Limits.{IsFitLibrary}
use Rattle.dsn_network.specs.Limits.{IsFitNetwork}
use Rattle.dsn_library.proofs.Sound.{library_of_fit, HaveAtMost, library_of_few}
use Rattle.dsn_placement.proofs.FitShapes.{fit_shapes}
use Rattle.dsn_network.proofs.NetworkSound.{network_of_few, network_of_fit}
use Rattle.dsn_network.proofs.NetworkWhole.{has_found as network_found}
use Rattle.dsn_placement.proofs.PlacementWhole.{has_found as placement_found}
use Rattle.dsn_placement.proofs.PlaceFits.{placement_fit}
use Rattle.dsn_reader.specs.declared.wiring.Wiring.{Wiring}
use Rattle.dsn_reader.specs.Wirings.{Netted, wiring_of}
use Rattle.dsn_reader.specs.Assembly.{known_vias, held_vias, last_vias, class_row, class_rows, row_at, net_rows, classes_of, item_of, Gathered, assembled, Wired, wired_of, behind_library, sections_of, parts_of}
use Rattle.dsn_reader.proofs.Sound.{IsFitWiring}
use Rattle.dsn_reader.specs.Meaning.{used_in, section as wiring_in}
use Rattle.dsn_reader.proofs.Sound.{wiring_of_fit, fit_items}
use Rattle.dsn_reader.proofs.NumberingLaws.{numbers_below}
use Rattle.dsn_reader.proofs.PairRowLaws.{pairs_fit}
use Rattle.dsn_reader.proofs.AssemblyLaws.{loaded_are}
use Rattle.dsn_reader.proofs.LoadedSound.{keep_fits, pad_fits, net_below, all_joined}
use Rattle.dsn_reader.proofs.NetLaws.{long_with}
use Rattle.dsn_reader.proofs.Whole.{has_found as wiring_found}

-- ---- classes

length_rows : (names : List (List ℕ)) (rows : List ClassRow) (cs : List Class) → length (class_rows names rows cs) ≡ length rows + length cs
unfolding class_rows
length_rows names rows [] = omega arith
length_rows names rows (c ∷ cs) =
    let more = length_rows names (rows ++ class_row names c.name c.vias c.rule ∷ []) cs in
    let one = length-append rows (class_row names c.name c.vias c.rule ∷ []) in
    omega (arith, more, one)

held_there : (names : List (List ℕ)) (o : Option (List Mark)) → AreThere (length names) (held_vias names o)
held_there names None = tt
held_there names (Some ms) = numbers_below (length names) (place_of names) (place_bound names) [] ms tt

vias_there : (names : List (List ℕ)) (lists : List (List Mark)) → AreThere (length names) (last_vias names lists)
unfolding last_vias
vias_there names lists = held_there names (slice_get lists (length lists - 1))

fit_row : (stacks : ℕ) (names : List (List ℕ)) (name : List ℕ) (vias : List (List Mark)) (rule : Rule) → length names ≡ stacks → IsFitRule rule → IsFitClass stacks (class_row names name vias rule)
fit_row stacks names name vias rule same fit = record {
  width = fit.width;
  vias = subst (λ (n : ℕ). AreThere n (last_vias names vias)) same (vias_there names vias);
  clearances = fit.stated;
}

fit_rows : (stacks : ℕ) (names : List (List ℕ)) (rows : List ClassRow) (cs : List Class) → length names ≡ stacks → AllByRecursion (IsFitClass stacks) rows → AllByRecursion (λ (c : Class). IsFitRule c.rule) cs → AllByRecursion (IsFitClass stacks) (class_rows names rows cs)
unfolding class_rows
fit_rows stacks names rows [] same p q = p
fit_rows stacks names rows (c ∷ cs) same p q =
    fit_rows stacks names (rows ++ class_row names c.name c.vias c.rule ∷ []) cs same (all_push (IsFitClass stacks) rows (class_row names c.name c.vias c.rule) p (fit_row stacks names c.name c.vias c.rule same q.0)) q.1

-- ---- nets

all_set : {X : Type 0} (P : X → Type 0) (xs : List X) (i : ℕ) (x : X) → AllByRecursion P xs → P x → AllByRecursion P (set xs i x)
all_set P [] i x p q = tt
all_set P (y ∷ xs) zero x p q = (q, p.1)
all_set P (y ∷ xs) (suc i) x p q = (p.0, all_set P xs i x p.1 q)

all_below : (n m : ℕ) (xs : List ℕ) → n ≤ m → AllByRecursion (λ (i : ℕ). i < n) xs → AllByRecursion (λ (i : ℕ). i < m) xs
all_below n m [] low p = tt
all_below n m (x ∷ xs) low p = (omega (arith, low, p.0), all_below n m xs low p.1)

all_either : {X : Type 0} (P : X → Type 0) (b : Bool) (xs ys : List X) → AllByRecursion P xs → AllByRecursion P ys → AllByRecursion P (if b then xs else ys)
all_either P true xs ys p q = p
all_either P false xs ys p q = q

in_class_below : (cs : List ℕ) (k : ℕ) (o : Option ℕ) → AllByRecursion (λ (i : ℕ). i < suc k) cs → AllByRecursion (λ (i : ℕ). i < suc k) (in_class cs k o)
in_class_below cs k None p = p
in_class_below cs k (Some n) p = all_either (λ (i : ℕ). i < suc k) (get_or cs n 0 == 0) (set cs n k) cs (all_set (λ (i : ℕ). i < suc k) cs n k p (omega arith)) p

named_below : (nets : List (List ℕ)) (k : ℕ) (cs : List ℕ) (ms : List Mark) → AllByRecursion (λ (i : ℕ). i < suc k) cs → AllByRecursion (λ (i : ℕ). i < suc k) (named_in nets k cs ms)
unfolding named_in
named_below nets k cs [] p = p
named_below nets k cs (m ∷ ms) p = named_below nets k (in_class cs k (place_of nets m.name)) ms (in_class_below cs k (place_of nets m.name) p)

classed_below : (nets : List (List ℕ)) (k : ℕ) (cs : List ℕ) (classes : List Class) → AllByRecursion (λ (i : ℕ). i < k) cs → AllByRecursion (λ (i : ℕ). i < k + length classes) (classed nets k cs classes)
unfolding classed
classed_below nets k cs [] p = all_below k (k + 0) cs (omega arith) p
classed_below nets k cs (c ∷ classes) p =
    let first = named_below nets k cs c.nets (all_below k (suc k) cs (omega arith) p) in
    all_below (suc k + length classes) (k + length (c ∷ classes)) (classed nets (suc k) (named_in nets k cs c.nets) classes) (omega arith) (classed_below nets (suc k) (named_in nets k cs c.nets) classes first)

zeros_below : (n : ℕ) → AllByRecursion (λ (i : ℕ). i < 1) (replicate n 0)
zeros_below zero = tt
zeros_below (suc n) = (omega arith, zeros_below n)

class_below : (n : ℕ) (name : Option (List ℕ)) (o : Option ℕ) → 0 < n → ((k : ℕ) → o ≡ Some k → k < n) → (row_at name o).class < n
class_below n None o some below = some
class_below n (Some name) None some below = some
class_below n (Some name) (Some k) some below = below k refl

get_below : (n : ℕ) (cs : List ℕ) (i k : ℕ) → AllByRecursion (λ (j : ℕ). j < n) cs → slice_get cs i ≡ Some k → k < n
get_below n [] i k p e = absurd (grind arith)
get_below n (c ∷ cs) zero k p e = let low = p.0 in let same : c ≡ k = grind arith in omega (arith, low, same)
get_below n (c ∷ cs) (suc i) k p e = get_below n cs i k p.1 e

rows_below : (n count : ℕ) (names : List (List ℕ)) (cs : List ℕ) → 0 < n → AllByRecursion (λ (i : ℕ). i < n) cs → AllByRecursion (λ (r : NetRow). r.class < n) (net_rows count names cs)
unfolding net_rows
rows_below n zero names cs some p = tt
rows_below n (suc count) names cs some p =
    all_push (λ (r : NetRow). r.class < n) (net_rows count names cs) (row_at (slice_get names count) (slice_get cs count)) (rows_below n count names cs some p)
    (class_below n (slice_get names count) (slice_get cs count) some (λ k e. get_below n cs count k p e))

length_net_rows : (count : ℕ) (names : List (List ℕ)) (cs : List ℕ) → length (net_rows count names cs) ≡ count
unfolding net_rows
length_net_rows zero names cs = refl
length_net_rows (suc count) names cs =
    let rest = length_net_rows count names cs in
    let one = length-append (net_rows count names cs) (row_at (slice_get names count) (slice_get cs count) ∷ []) in
    omega (arith, rest, one)

-- ---- items

shapes_few : (layers : ℕ) (ss : List Shape) → AreFitDrawn layers ss → length ss ≤ points_of_shapes ss
shapes_few layers [] h = omega arith
shapes_few layers (s ∷ ss) h =
    let sum = sum_by-cons (λ (s : Shape). length (core_points s.core)) s ss in
    let one = some_point s.core h.0.core in
    let more = shapes_few layers ss h.1 in
    omega (arith, sum, one, more)
  where
    some_point : (c : Core) → HasCore c → 0 < length (core_points c)
    some_point (Chain points) k = k
    some_point (Area points) k = omega (arith, k)

keeps_fit : (p : Parts) (is : List Item) → AllByRecursion (IsFitKeep (length p.layers)) is → AllByRecursion (IsFitItem p) is
keeps_fit p [] h = tt
keeps_fit p (items.Keep k ss ∷ is) h = let few = h.0.few in (keep_fits p k ss h.0.shapes (omega (arith, few)), keeps_fit p is h.1)
keeps_fit p (items.Wire net layer width points fix ∷ is) h = absurd h.0
keeps_fit p (items.Via net stack place fix ∷ is) h = absurd h.0
keeps_fit p (items.Pad net ss ∷ is) h = absurd h.0

-- pads and keepouts of so few points, each pad with the net of its pin
placed_fit : (p : Parts) (pins : List ((ℕ × ℕ) × ℕ)) (xs : List PlacedPart) → AllByRecursion (λ (q : (ℕ × ℕ) × ℕ). q.1 < length p.nets) pins → AllByRecursion (IsFitPlaced (length p.layers)) xs → points_of_parts xs ≤ 4000000
    → AllByRecursion (IsFitItem p) (map (item_of pins) xs)
placed_fit p pins [] below h low = tt
placed_fit p pins (placed.Pad c q place ss ∷ xs) below h low =
    let sum = sum_by-cons (λ (x : PlacedPart). points_of_shapes (shapes_of_placed x)) (placed.Pad c q place ss) xs in
    let few = shapes_few (length p.layers) ss h.0 in
    (pad_fits p (net_at pins (c, q)) ss (λ n e. net_below (length p.nets) pins (c, q) n below e) h.0 (omega (arith, sum, few, low)), placed_fit p pins xs below h.1 (omega (arith, sum, low)))
placed_fit p pins (placed.Keep k ss ∷ xs) below h low =
    let sum = sum_by-cons (λ (x : PlacedPart). points_of_shapes (shapes_of_placed x)) (placed.Keep k ss) xs in
    let few = shapes_few (length p.layers) ss h.0 in
    (keep_fits p k ss h.0 (omega (arith, sum, few, low)), placed_fit p pins xs below h.1 (omega (arith, sum, low)))

all_pins_below : (n m : ℕ) (pins : List ((ℕ × ℕ) × ℕ)) → n ≤ m → AllByRecursion (λ (q : (ℕ × ℕ) × ℕ). q.1 < n) pins → AllByRecursion (λ (q : (ℕ × ℕ) × ℕ). q.1 < m) pins
all_pins_below n m [] low h = tt
all_pins_below n m (q ∷ qs) low h = let own = h.0 in (omega (arith, low, own), all_pins_below n m qs low h.1)

-- ---- the design

abbrev gathering : List ℕ → Structure → Library → Placement → Network → Netted Wiring → Gathered
gathering name s l p n w = record { name = name; structure = s; library = l; placement = p; classes = n.classes; between = n.pairs; pins = n.pins; numbers = classes_of n; nets = w.nets; wiring = w.it }

few_all : (most : ℕ) (ps : List Padstack) → most < 2 ^ 32 → HaveAtMost most ps → AllByRecursion (λ (s : Padstack). length s.shapes < 2 ^ 32) ps
few_all most [] low h = tt
few_all most (p ∷ ps) low h = (omega (arith, low, h.0), few_all most ps low h.1)

-- what is within the limits of all that the sections state
record AreFitSections (s : Structure) (l : Library) (p : Placement) (n : Network) (w : Netted Wiring) (most : ℕ) : Type 0 where
  structure : IsFitStructure s
  few_areas : length s.outline ≤ most
  library : IsFitLibrary (length s.layers) l
  few_shapes : HaveAtMost most l.stacks
  few_classes : length n.classes ≤ most
  placement : AllByRecursion (IsFitPlaced (length s.layers)) p.parts
  points : points_of_parts p.parts ≤ 4000000
  network : IsFitNetwork n
  more_nets : length n.nets ≤ length w.nets
  wiring : IsFitWiring (length s.layers) l.stacks w

fit_gathering : (name : List ℕ) (s : Structure) (l : Library) (x : Placement) (n : Network) (w : Netted Wiring) (most : ℕ) → most + 1 < 2 ^ 32 → AreFitSections s l x n w most
    → length (assembled (gathering name s l x n w)).items ≤ 200000 → IsSound (assembled (gathering name s l x n w))
fit_gathering name s l x n w most low h few_items =
    let p = assembled (gathering name s l x n w) in
    let count = length_rows l.names (class_row l.names [] s.vias s.rule ∷ []) n.classes in
    let nets = length_net_rows (length w.nets) w.nets (classes_of n) in
    let few_nets = h.wiring.nets in
    let small = few_all most l.stacks (omega (arith, low)) h.few_shapes in
    let few_areas = h.few_areas in
    let few_classes = h.few_classes in
    let more_nets = h.more_nets in
    let some : 0 < length p.classes = omega (arith, count) in
    let below = classed_below n.nets 1 (replicate (length n.nets) 0) n.classes (zeros_below (length n.nets)) in
    let pins = all_pins_below (length n.nets) (length p.nets) n.pins (omega (arith, more_nets, nets)) h.network.pins in
    let keeps = keeps_fit p s.keeps h.structure.keeps in
    let parts = placed_fit p n.pins x.parts pins h.placement h.points in
    let wires = fit_items p (length w.nets) w.it.items (sym nets) small h.wiring.items in
    let loaded = all_joined (IsFitItem p) s.keeps (map (item_of n.pins) x.parts ++ w.it.items) keeps (all_joined (IsFitItem p) (map (item_of n.pins) x.parts) w.it.items parts wires) in
    record {
      some_class = some;
      few_layers = h.structure.few_layers;
      few_nets = omega (arith, nets, few_nets);
      few_stacks = h.library.few;
      few_areas = omega (arith, few_areas, low);
      few_classes = omega (arith, count, few_classes, low);
      few_items = few_items;
      nets = rows_below (length p.classes) (length w.nets) w.nets (classes_of n) some (all_below (1 + length n.classes) (length p.classes) (classes_of n) (omega (arith, count)) below);
      classes = fit_rows (length l.stacks) l.names (class_row l.names [] s.vias s.rule ∷ []) n.classes h.library.names (fit_row (length l.stacks) l.names [] s.vias s.rule h.library.names h.structure.rule, tt) h.network.rules;
      pairs = pairs_fit (length p.classes) n.classes n.pairs (omega (arith, count)) h.network.between;
      stacks = h.library.shapes;
      few_shapes = small;
      outline = h.structure.outline;
      items = subst (λ (is : List Item). AllByRecursion (IsFitItem p) is) (sym (loaded_are n.pins s.keeps x.parts w.it.items)) loaded;
    }

abbrev with_wired : List ℕ → Structure → Library → Placement → Network → Wired → Gathered
with_wired name s l p n x = record { name = name; structure = s; library = l; placement = p; classes = n.classes; between = n.pairs; pins = n.pins; numbers = x.numbers; nets = x.nets; wiring = x.wiring }

-- what the sections behind the library give
record Behind (f : Forest) (name : List ℕ) (s : Structure) (l : Library) (g : Gathered) : Type 0 where
  placement : Placement
  network : Network
  wired : Netted Wiring
  placed_is : placement_of f s l ≡ Ok placement
  network_is : network_of f placement l ≡ Ok network
  wired_is : wiring_of f s.layers l network.nets network.quota ≡ Ok wired
  same : gathering name s l placement network wired ≡ g

behind_parts : (f : Forest) (name : List ℕ) (s : Structure) (l : Library) (g : Gathered) → behind_library f name s l ≡ Ok g → Behind f name s l g
unfolding behind_library wired_of
behind_parts f name s l g e =
    let d = bind_ok (placement_of f s l) _ g e in
    let h = bind_ok (network_of f d.0 l) _ g d.2 in
    let w = bind_ok (wired_of f s l h.0) _ g h.2 in
    let k = bind_ok (wiring_of f s.layers l h.0.nets h.0.quota) _ w.0 w.1 in
    let m = bind_ok (known_vias l.names s h.0.classes) _ w.0 k.2 in
    let last : with_wired name s l d.0 h.0 w.0 ≡ g = ok_is w.2 in
    let own : record { nets = k.0.nets; numbers = classes_of h.0; wiring = k.0.it } ≡ w.0 = ok_is m.2 in
    record { placement = d.0; network = h.0; wired = k.0; placed_is = d.1; network_is = h.1; wired_is = k.1; same = ap (λ (x : Wired). with_wired name s l d.0 h.0 x) own ∙ last }

fit_sections : (f : Forest) (name : List ℕ) (s : Structure) (l : Library) (g : Gathered) → structure_of f ≡ Ok s → library_of f s.layers ≡ Ok l → (x : Behind f name s l g) → AreFitSections s l x.placement x.network x.wired (32 * size f)
fit_sections f name s l g se le x =
    let structure = structure_of_fit f s se in
    let library = library_of_fit f s.layers l le in
    let has = placement_found f s l x.placement x.placed_is in
    let fit = placement_fit f s l x.placement (fit_shapes (length s.layers) l library) has in
    let network = network_of_fit f x.placement l x.network x.network_is in
    let laid = wiring_found f s.layers l x.network.nets x.network.quota x.wired network.few x.wired_is in
    let all = structure.points in
    let taken = has.2.sites.taken.points in
    record {
      structure = structure;
      few_areas = structure_of_few f s se;
      library = library;
      few_shapes = library_of_few f s.layers l le;
      few_classes = network_of_few f x.placement l x.network x.network_is;
      placement = fit.parts;
      points = omega (arith, all, taken);
      network = network;
      more_nets = subst (λ (xs : List (List ℕ)). length x.network.nets ≤ length xs) (sym laid.2.nets_are) (long_with (collect used_in (wiring_in f)) x.network.nets);
      wiring = wiring_of_fit f s.layers l x.network.nets x.network.quota x.wired library network.few x.wired_is;
    }

abbrev HasFew : Gathered → Type 0
HasFew g = length (assembled g).items ≤ 200000

few_behind : (f : Forest) (name : List ℕ) (s : Structure) (l : Library) (g : Gathered) → structure_of f ≡ Ok s → (x : Behind f name s l g) → HasFew (gathering name s l x.placement x.network x.wired)
few_behind f name s l g se x =
    let structure = structure_of_fit f s se in
    let has = placement_found f s l x.placement x.placed_is in
    let network = network_of_fit f x.placement l x.network x.network_is in
    let connected = network_found f x.placement l x.network x.network_is in
    let laid = wiring_found f s.layers l x.network.nets x.network.quota x.wired network.few x.wired_is in
    let whole = ap length (loaded_are x.network.pins s.keeps x.placement.parts x.wired.it.items) in
    let front = length-append s.keeps (map (item_of x.network.pins) x.placement.parts ++ x.wired.it.items) in
    let back = length-append (map (item_of x.network.pins) x.placement.parts) x.wired.it.items in
    let parts = length-map x.placement.parts (item_of x.network.pins) in
    let first = structure.items in
    let second = has.2.sites.taken.items in
    let third = ap (λ (quota : Quota). quota.items) connected.2.quota in
    let last = laid.2.few_items in
    omega (arith, whole, front, back, parts, first, second, third, last)

sections_sound : (f : Forest) (g : Gathered) → 32 * size f + 1 < 2 ^ 32 → sections_of f ≡ Ok g → IsSound (assembled g)
unfolding sections_of
sections_sound f g small e =
    let a = bind_ok (design_of f) _ g e in
    let b = bind_ok (structure_of f) _ g a.2 in
    let c = bind_ok (library_of f b.0.layers) _ g b.2 in
    let x = behind_parts f a.0.name b.0 c.0 g c.2 in
    subst (λ (y : Gathered). IsSound (assembled y)) x.same (fit_gathering a.0.name b.0 c.0 x.placement x.network x.wired (32 * size f) small (fit_sections f a.0.name b.0 c.0 g b.1 c.1 x) (few_behind f a.0.name b.0 c.0 g b.1 x))

-- the design that the lists and words of a text state is sound, where they aren't too many
pub parts_sound : (f : Forest) (p : Parts) → size f ≤ 67108864 → parts_of f ≡ Ok p → IsSound p
unfolding parts_of
parts_sound f p small e =
    let a = bind_ok (sections_of f) _ p e in
    subst IsSound (ok_is {x = assembled a.0} a.2) (sections_sound f a.0 (omega (arith, small)) a.1)
