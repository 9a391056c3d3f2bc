-- What the network section states is within the limits.
use Rattle.std.proofs.Common.{◌≡◌, ℕ, ◌+◌, ◌*◌, ◌≤◌, ◌<◌, Bool, true, false, cond, List, [], ◌∷◌, ◌++◌, length, Option, Some, None, Ok, subst, arith}
use Rattle.std.specs.Prelude.{not, ◌==◌, codes}
use Rattle.std.specs.List.{AllByRecursion}
use Rattle.std.proofs.lemmas.List.{length-append}
use Rattle.sexp_text.specs.Forest.{Forest, End, Word, Branch}
use Rattle.sexp_text.specs.Nodes.{size}
use Rattle.sexp_text.specs.declared.units.Unit.{Unit as LengthUnit}
use Rattle.dsn_lists.specs.declared.marks.Mark.{Mark}
use Rattle.dsn_lists.specs.declared.faults.DesignKind.TheVariants as kind
use Rattle.dsn_lists.specs.declared.pcb.Section.TheVariants as sections
use Rattle.dsn_lists.specs.Results.{each, wrong, ◌>>=◌}
use Rattle.dsn_lists.specs.Words.{Heading, same, mark, head_of, word_of, spare, names}
use Rattle.dsn_lists.specs.Units.{unit_list, governing}
use Rattle.dsn_lists.specs.Rules.{rule_of, clearances_of}
use Rattle.dsn_lists.specs.Pcbs.{Spot, design_of, section_in}
use Rattle.dsn_lists.specs.Limits.{AreFitStated, IsFitRule}
use Rattle.dsn_lists.specs.NewNames.{new_name}
use Rattle.dsn_lists.proofs.Bounds.{ok_is, err_gives, bind_ok, each_keeps, all_push, else_ok, rule_of_bound, no_rule_fit}
use Rattle.dsn_lists.proofs.ClearancesLaws.{clearances_bound}
use Rattle.dsn_lists.proofs.Sizes.{each_grows, section_size}
use Rattle.dsn_lists.proofs.NewNameLaws.{new_found}
use Rattle.dsn_network.specs.declared.classes.Class.{Class}
use Rattle.dsn_network.specs.declared.pairs.ClassPairs.{ClassPairs}
use Rattle.dsn_network.specs.declared.pairs.PairWord.{PairWord}
use Rattle.dsn_network.specs.declared.pairs.PairWord.TheVariants as pairs
use Rattle.dsn_network.specs.declared.classes.ClassWord.{ClassWord}
use Rattle.dsn_network.specs.declared.classes.ClassWord.TheVariants as class
use Rattle.dsn_library.specs.declared.library.Library.{Library}
use Rattle.dsn_network.specs.declared.network.Network.{Network}
use Rattle.dsn_network.specs.declared.network.NetworkWord.{NetworkWord}
use Rattle.dsn_network.specs.declared.network.NetworkWord.TheVariants as parts
use Rattle.dsn_placement.specs.declared.placement.Placement.{Placement}
use Rattle.dsn_network.specs.References.{net_at, pin_of}
use Rattle.dsn_network.specs.Networks.{net_added, pin_added, reference_of, pins_of, net_item, with_net, circuit_of, class_list, class_word, class_item, new_class, class_of, network_word, network_list, network_item, no_network, network_at, network_of}
use Rattle.dsn_network.specs.ClassPairings.{two_names, names_once, pair_word, pair_list, pair_item, no_pairs, pairs_of}
use Rattle.dsn_network.specs.Limits.{IsFitNetwork}

-- ---- nets of pins

abbrev IsBelow : ℕ → (ℕ × ℕ) × ℕ → Type 0
IsBelow count p = p.1 < count

abbrev AreBelow : ℕ → List ((ℕ × ℕ) × ℕ) → Type 0
AreBelow count pins = AllByRecursion (IsBelow count) pins

more_below : (count : ℕ) (pins : List ((ℕ × ℕ) × ℕ)) → AreBelow count pins → AreBelow (count + 1) pins
more_below count [] h = tt
more_below count (p ∷ pins) h = (let low = h.0 in omega (arith, low), more_below count pins h.1)

fit_added : (net : ℕ) (pins : List ((ℕ × ℕ) × ℕ)) (p : ℕ × ℕ) (at : ℕ) (o : Option ℕ) (y : List ((ℕ × ℕ) × ℕ)) → AreBelow (net + 1) pins → net_added net pins p at o ≡ Ok y → AreBelow (net + 1) y
fit_added net pins p at None y h e = subst (AreBelow (net + 1)) (ok_is e) (all_push (IsBelow (net + 1)) pins (p, net) h (omega arith))
fit_added net pins p at (Some k) y h e = by (k == net) e
  where
    by : (b : Bool) → cond b (Ok pins) (wrong kind.Twice at) ≡ Ok y → AreBelow (net + 1) y
    by true e = subst (AreBelow (net + 1)) (ok_is e) h
    by false e = absurd (err_gives e)

fit_pin : (net : ℕ) (pins : List ((ℕ × ℕ) × ℕ)) (at : ℕ) (o : Option (ℕ × ℕ)) (y : List ((ℕ × ℕ) × ℕ)) → AreBelow (net + 1) pins → pin_added net pins at o ≡ Ok y → AreBelow (net + 1) y
fit_pin net pins at None y h e = absurd (err_gives e)
fit_pin net pins at (Some p) y h e = fit_added net pins p at (net_at pins p) y h e

fit_reference : (p : Placement) (l : Library) (net : ℕ) (pins : List ((ℕ × ℕ) × ℕ)) (w : Mark) (y : List ((ℕ × ℕ) × ℕ)) → AreBelow (net + 1) pins → reference_of p l net pins w ≡ Ok y → AreBelow (net + 1) y
unfolding reference_of
fit_reference p l net pins w y h e = fit_pin net pins w.at (pin_of p l w.name) y h e

fit_pins : (p : Placement) (l : Library) (net : ℕ) (f : Forest) (pins y : List ((ℕ × ℕ) × ℕ)) → AreBelow (net + 1) pins → pins_of p l net pins f ≡ Ok y → AreBelow (net + 1) y
unfolding pins_of
fit_pins p l net End pins y h e = subst (AreBelow (net + 1)) (ok_is e) h
fit_pins p l net (Word at text rest) pins y h e =
    let a = bind_ok (reference_of p l net pins (mark at text)) _ y e in
    fit_pins p l net rest a.0 y (fit_reference p l net pins (mark at text) a.0 h a.1) a.2
fit_pins p l net (Branch at inside rest) pins y h e =
    let a = bind_ok (spare (Branch at inside rest)) _ y e in
    subst (AreBelow (net + 1)) (ok_is a.2) h

fit_net_item : (p : Placement) (l : Library) (net : ℕ) (pins : List ((ℕ × ℕ) × ℕ)) (at : ℕ) (inside : Forest) (y : List ((ℕ × ℕ) × ℕ)) → AreBelow (net + 1) pins → net_item p l net pins at inside ≡ Ok y → AreBelow (net + 1) y
unfolding net_item
fit_net_item p l net pins at inside y h e = by (same (head_of inside).text (codes "pins")) e
  where
    by : (b : Bool) → cond b (pins_of p l net pins (head_of inside).args) (Ok pins) ≡ Ok y → AreBelow (net + 1) y
    by true e = fit_pins p l net (head_of inside).args pins y h e
    by false e = subst (AreBelow (net + 1)) (ok_is e) h

-- ---- classes

fit_class_list : (u : LengthUnit) (c : Class) (at : ℕ) (h : Heading) (w : ClassWord) (y : Class) → IsFitRule c.rule → class_list u c at h w ≡ Ok y → IsFitRule y.rule
fit_class_list u c at h class.Circuit y p e = let a = bind_ok (circuit_of c.vias at h.args) _ y e in subst (λ (x : Class). IsFitRule x.rule) (ok_is a.2) p
fit_class_list u c at h class.Rules y p e =
    let a = bind_ok (rule_of u c.rule h.args) _ y e in
    subst (λ (x : Class). IsFitRule x.rule) (ok_is a.2) (rule_of_bound u c.rule h.args a.0 a.1 p)
fit_class_list u c at h class.Other y p e = subst (λ (x : Class). IsFitRule x.rule) (ok_is e) p

fit_class_item : (u : LengthUnit) (c : Class) (at : ℕ) (inside : Forest) (y : Class) → IsFitRule c.rule → class_item u c at inside ≡ Ok y → IsFitRule y.rule
unfolding class_item
fit_class_item u c at inside y p e = fit_class_list u c at (head_of inside) (class_word (head_of inside).text) y p e

abbrev IsFitClass : Class → Type 0
IsFitClass c = IsFitRule c.rule

fit_class_of : (u : LengthUnit) (at : ℕ) (f : Forest) (y : Class) → class_of u at f ≡ Ok y → IsFitClass y
unfolding class_of
fit_class_of u at f y e =
    let a = bind_ok (word_of at f) _ y e in
    each_keeps IsFitClass (class_item u) (fit_class_item u) (new_class a.0.0.name (names [] a.0.1).0) (names [] a.0.1).1 y no_rule_fit a.2

-- ---- lists between classes

abbrev IsFitPairs : ClassPairs → Type 0
IsFitPairs p = AreFitStated p.stated

fit_pair_list : (u : LengthUnit) (p : ClassPairs) (at : ℕ) (h : Heading) (w : PairWord) (y : ClassPairs) → IsFitPairs p → pair_list u p at h w ≡ Ok y → IsFitPairs y
unfolding names_once
fit_pair_list u p at h pairs.Names y g e =
    let a = else_ok (not (length p.names == 0)) (two_names at h.args >>= λ ms. Ok (record p { names = ms })) kind.Form at y e in
    let b = bind_ok (two_names at h.args) _ y a.1 in
    subst IsFitPairs (ok_is b.2) g
fit_pair_list u p at h pairs.Rules y g e =
    let a = bind_ok (clearances_of u p.stated h.args) _ y e in
    subst IsFitPairs (ok_is a.2) (clearances_bound u p.stated h.args a.0 g a.1)
fit_pair_list u p at h pairs.Other y g e = subst IsFitPairs (ok_is e) g

fit_pair_item : (u : LengthUnit) (p : ClassPairs) (at : ℕ) (inside : Forest) (y : ClassPairs) → IsFitPairs p → pair_item u p at inside ≡ Ok y → IsFitPairs y
unfolding pair_item
fit_pair_item u p at inside y g e = fit_pair_list u p at (head_of inside) (pair_word (head_of inside).text) y g e

fit_pairs_of : (u : LengthUnit) (at : ℕ) (f : Forest) (y : ClassPairs) → pairs_of u at f ≡ Ok y → IsFitPairs y
unfolding pairs_of
fit_pairs_of u at f y e =
    let a = bind_ok (each (pair_item u) no_pairs f) _ y e in
    let b = else_ok (length a.0.names == 0) (Ok a.0) kind.Missing at y a.2 in
    subst IsFitPairs (ok_is b.1) (each_keeps IsFitPairs (pair_item u) (fit_pair_item u) no_pairs f a.0 tt a.1)

-- ---- the network

abbrev AreFitParts : Network → Type 0
AreFitParts n = (length n.nets ≤ 100000) × AreBelow (length n.nets) n.pins × AllByRecursion IsFitClass n.classes × AllByRecursion IsFitPairs n.pairs

fit_net : (p : Placement) (l : Library) (n : Network) (at : ℕ) (f : Forest) (y : Network) → AreFitParts n → with_net p l n at f ≡ Ok y → AreFitParts y
unfolding with_net
fit_net p l n at f y h e =
    let a = bind_ok (word_of at f) _ y e in
    let b = bind_ok (new_name 100000 n.nets a.0.0) _ y a.2 in
    let c = bind_ok (each (net_item p l (length n.nets)) n.pins a.0.1) _ y b.2 in
    let few = (new_found 100000 n.nets a.0.0.at a.0.0.name tt b.1).1 in
    let pins = each_keeps (AreBelow (length n.nets + 1)) (net_item p l (length n.nets)) (fit_net_item p l (length n.nets)) n.pins a.0.1 c.0 (more_below (length n.nets) n.pins h.1) c.1 in
    let count : length (n.nets ++ a.0.0.name ∷ []) ≡ length n.nets + 1 = length-append n.nets (a.0.0.name ∷ []) in
    subst AreFitParts (ok_is c.2) (rw count (omega (arith, few)), rw count pins, h.2, h.3)

fit_network_list : (u : LengthUnit) (p : Placement) (l : Library) (n : Network) (at : ℕ) (h : Heading) (w : NetworkWord) (y : Network) → AreFitParts n → network_list u p l n at h w ≡ Ok y → AreFitParts y
fit_network_list u p l n at h parts.Net y g e = fit_net p l n at h.args y g e
fit_network_list u p l n at h parts.Class y g e =
    let a = bind_ok (class_of u at h.args) _ y e in
    subst AreFitParts (ok_is a.2) (g.0, g.1, all_push IsFitClass n.classes a.0 g.2 (fit_class_of u at h.args a.0 a.1), g.3)
fit_network_list u p l n at h parts.Pairs y g e =
    let a = bind_ok (pairs_of u at h.args) _ y e in
    subst AreFitParts (ok_is a.2) (g.0, g.1, g.2, all_push IsFitPairs n.pairs a.0 g.3 (fit_pairs_of u at h.args a.0 a.1))
fit_network_list u p l n at h parts.Unit y g e = let a = bind_ok (unit_list at h.args) _ y e in subst AreFitParts (ok_is a.2) g
fit_network_list u p l n at h parts.Resolution y g e = absurd (err_gives e)
fit_network_list u p l n at h parts.Other y g e = subst AreFitParts (ok_is e) g

fit_network_item : (u : LengthUnit) (p : Placement) (l : Library) (n : Network) (at : ℕ) (inside : Forest) (y : Network) → AreFitParts n → network_item u p l n at inside ≡ Ok y → AreFitParts y
unfolding network_item
fit_network_item u p l n at inside y g e = fit_network_list u p l n at (head_of inside) (network_word (head_of inside).text) y g e

fit_network_at : (u : LengthUnit) (p : Placement) (l : Library) (s : Spot) (y : Network) → network_at u p l s ≡ Ok y → AreFitParts y
unfolding network_at
fit_network_at u p l s y e = each_keeps AreFitParts (network_item (governing u s.args) p l) (fit_network_item (governing u s.args) p l) (no_network p.quota) s.args y (omega arith, tt, tt, tt) e

pub network_of_fit : (f : Forest) (p : Placement) (l : Library) (y : Network) → network_of f p l ≡ Ok y → IsFitNetwork y
unfolding network_of
network_of_fit f p l y e =
    let a = bind_ok (design_of f) _ y e in
    let s = fit_network_at a.0.unit p l (section_in sections.Network f) y a.2 in
    record { few = s.0; pins = s.1; rules = s.2; between = s.3 }

-- ---- how many classes there are

few_net : (p : Placement) (l : Library) (n : Network) (at : ℕ) (f : Forest) (y : Network) → with_net p l n at f ≡ Ok y → length y.classes ≤ length n.classes + 1
unfolding with_net
few_net p l n at f y e =
    let a = bind_ok (word_of at f) _ y e in
    let b = bind_ok (new_name 100000 n.nets a.0.0) _ y a.2 in
    let c = bind_ok (each (net_item p l (length n.nets)) n.pins a.0.1) _ y b.2 in
    subst (λ (x : Network). length x.classes ≤ length n.classes + 1) (ok_is c.2) (omega arith)

few_network_list : (u : LengthUnit) (p : Placement) (l : Library) (n : Network) (at : ℕ) (h : Heading) (w : NetworkWord) (y : Network) → network_list u p l n at h w ≡ Ok y → length y.classes ≤ length n.classes + 1
few_network_list u p l n at h parts.Net y e = few_net p l n at h.args y e
few_network_list u p l n at h parts.Class y e =
    let a = bind_ok (class_of u at h.args) _ y e in
    let more : length (n.classes ++ a.0 ∷ []) ≤ length n.classes + 1 = rw (length-append n.classes (a.0 ∷ [])) (omega arith) in
    subst (λ (x : Network). length x.classes ≤ length n.classes + 1) (ok_is a.2) more
few_network_list u p l n at h parts.Pairs y e =
    let a = bind_ok (pairs_of u at h.args) _ y e in
    subst (λ (x : Network). length x.classes ≤ length n.classes + 1) (ok_is a.2) (omega arith)
few_network_list u p l n at h parts.Unit y e =
    let a = bind_ok (unit_list at h.args) _ y e in
    subst (λ (x : Network). length x.classes ≤ length n.classes + 1) (ok_is a.2) (omega arith)
few_network_list u p l n at h parts.Resolution y e = absurd (err_gives e)
few_network_list u p l n at h parts.Other y e = subst (λ (x : Network). length x.classes ≤ length n.classes + 1) (ok_is e) (omega arith)

few_network_item : (u : LengthUnit) (p : Placement) (l : Library) (n : Network) (at : ℕ) (inside : Forest) (y : Network) → network_item u p l n at inside ≡ Ok y → length y.classes ≤ length n.classes + 32 * (1 + size inside)
unfolding network_item
few_network_item u p l n at inside y e =
    let own = few_network_list u p l n at (head_of inside) (network_word (head_of inside).text) y e in
    omega (arith, own)

few_network_at : (u : LengthUnit) (p : Placement) (l : Library) (s : Spot) (y : Network) → network_at u p l s ≡ Ok y → length y.classes ≤ 32 * size s.args
unfolding network_at
few_network_at u p l s y e =
    let own = each_grows (λ (n : Network). length n.classes) (network_item (governing u s.args) p l) (few_network_item (governing u s.args) p l) (no_network p.quota) s.args y e in
    omega (arith, own)

-- there are at most 32 classes for each word and list of the design
pub network_of_few : (f : Forest) (p : Placement) (l : Library) (y : Network) → network_of f p l ≡ Ok y → length y.classes ≤ 32 * size f
unfolding network_of
network_of_few f p l y e =
    let a = bind_ok (design_of f) _ y e in
    let own = few_network_at a.0.unit p l (section_in sections.Network f) y a.2 in
    let less = section_size sections.Network f in
    omega (arith, own, less)
