-- A network section is read exactly where it stands for a network, and the first fault is told exactly where it is the
-- first, by the section's own words.
use Rattle.std.proofs.Common.{◌≡◌, ℕ, ◌+◌, suc, ◌≤◌, ◌<◌, List, [], ◌∷◌, ◌++◌, length, Ok, Err, sym, ap, subst, ◌∙◌, arith, inl, inr}
use Rattle.sexp_text.specs.Forest.{Forest}
use Rattle.sexp_text.specs.declared.units.Unit.{Unit as LengthUnit}
use Rattle.dsn_lists.specs.declared.faults.DesignFault.{DesignFault}
use Rattle.dsn_lists.specs.Results.{each}
use Rattle.dsn_lists.specs.Words.{head_of}
use Rattle.dsn_lists.specs.Units.{governing}
use Rattle.dsn_lists.specs.Pcbs.{Spot}
use Rattle.dsn_lists.specs.Lists.{collect, IsFirst}
use Rattle.dsn_lists.specs.Measures.{governing_unit}
use Rattle.dsn_lists.proofs.Firsts.{made, first_found, first_again}
use Rattle.dsn_lists.proofs.Fresh.{AreFreshBehind}
use Rattle.dsn_lists.proofs.UnitLaws.{governs}
use Rattle.dsn_network.specs.declared.classes.Class.{Class}
use Rattle.dsn_network.specs.declared.pairs.ClassPairs.{ClassPairs}
use Rattle.dsn_library.specs.declared.library.Library.{Library}
use Rattle.dsn_network.specs.declared.network.Network.{Network}
use Rattle.dsn_placement.specs.declared.placement.Placement.{Placement}
use Rattle.dsn_network.specs.Networks.{network_word, network_item, no_network, network_at}
use Rattle.dsn_network.specs.NamedPins.{IsInNet, with_nets, ArePins}
use Rattle.dsn_network.specs.NetworkParts.{nets_in, net_references_in, references, classes_in, pairs_in, AreEach}
use Rattle.dsn_network.specs.ClassLists.{IsClass}
use Rattle.dsn_network.specs.ClassPairLists.{IsPairs}
use Rattle.dsn_network.specs.NetworkMeaning.{IsSection, IsNetwork, Stand, NetworkListFault, IsFirstFault}
use Rattle.dsn_network.proofs.PinPuts.{put, put_back, in_cases, in_none, free_has}
use Rattle.dsn_network.proofs.PinLists.{pins_found, pins_free, pins_are, no_net}
use Rattle.dsn_network.proofs.NetBefore.{IsBehind, all_of}
use Rattle.dsn_network.proofs.NetworkListLaws.{one_fault, one_fault_again}
use Rattle.dsn_network.proofs.NetworkLaws.{values_in, between_in, all, all_each, AreGood, all_found, all_again, classes_are, between_are, same_classes, same_between}

-- ---- the section

section_found : (u : LengthUnit) (p : Placement) (l : Library) (f : Forest) (n : Network) → each (network_item u p l) (no_network p.quota) f ≡ Ok n → IsSection u p l f n × (n ≡ all u p l (no_network p.quota) f)
section_found u p l f n e =
    let g = all_found u p l f (no_network p.quota) n (omega arith) e in
    let nets : n.nets ≡ collect nets_in f = ap (λ (x : Network). x.nets) g.1 in
    let pins : n.pins ≡ put p l [] (references f) = ap (λ (x : Network). x.pins) g.1 in
    let classes : n.classes ≡ collect (values_in u) f = ap (λ (x : Network). x.classes) g.1 in
    let between : n.pairs ≡ collect (between_in u) f = ap (λ (x : Network). x.pairs) g.1 in (
      record {
        formed = g.0.formed;
        nets = nets;
        fresh = subst (λ (xs : List (List ℕ)). AreFreshBehind [] xs) (sym nets) g.0.fresh;
        few = subst (λ (xs : List (List ℕ)). length xs ≤ 100000) (sym nets) g.0.few;
        pins = subst (λ (xs : List ((ℕ × ℕ) × ℕ)). ArePins p l (references f) xs) (sym pins) (pins_found p l (references f) g.0.free);
        classes = subst (λ (cs : List Class). AreEach (IsClass u) (collect classes_in f) cs) (sym classes) (classes_are u f g.0.formed);
        pairs = subst (λ (ps : List ClassPairs). AreEach (IsPairs u) (collect pairs_in f) ps) (sym between) (between_are u f g.0.formed);
        quota = ap (λ (x : Network). x.quota) g.1;
      },
      g.1,
    )

good_of_section : (u : LengthUnit) (p : Placement) (l : Library) (f : Forest) (n : Network) → IsSection u p l f n → AreGood u p l (no_network p.quota) f
good_of_section u p l f n h = record {
  formed = h.formed;
  fresh = subst (λ (xs : List (List ℕ)). AreFreshBehind [] xs) h.nets h.fresh;
  few = subst (λ (xs : List (List ℕ)). length xs ≤ 100000) h.nets h.few;
  free = pins_free p l (references f) n.pins h.pins;
}

section_is : (u : LengthUnit) (p : Placement) (l : Library) (f : Forest) (n : Network) → IsSection u p l f n → all u p l (no_network p.quota) f ≡ n
section_is u p l f n h =
    let classes = same_classes u (collect classes_in f) (collect (values_in u) f) n.classes (classes_are u f h.formed) h.classes in
    let between = same_between u (collect pairs_in f) (collect (between_in u) f) n.pairs (between_are u f h.formed) h.pairs in
    let pins = pins_are p l (references f) n.pins h.pins in
    λ i. record { nets = sym h.nets i; pins = pins i; classes = classes i; pairs = between i; quota = sym h.quota i }

section_all : (u : LengthUnit) (p : Placement) (l : Library) (f : Forest) (n : Network) → IsSection u p l f n → each (network_item u p l) (no_network p.quota) f ≡ Ok (all u p l (no_network p.quota) f)
section_all u p l f n h = all_again u p l f (no_network p.quota) (good_of_section u p l f n h)

pub network_found : (u : LengthUnit) (p : Placement) (l : Library) (s : Spot) (n : Network) → network_at u p l s ≡ Ok n → IsNetwork u p l s.args n
unfolding network_at
network_found u p l s n e = subst (λ (w : LengthUnit). IsSection w p l s.args n) (governs u s.args) (section_found (governing u s.args) p l s.args n e).0

pub network_again : (u : LengthUnit) (p : Placement) (l : Library) (s : Spot) (n : Network) → IsNetwork u p l s.args n → network_at u p l s ≡ Ok n
unfolding network_at
network_again u p l s n h = rw (governs u s.args) (section_all (governing_unit u s.args) p l s.args n h ∙ ap made (section_is (governing_unit u s.args) p l s.args n h))

-- ---- the first fault

-- the net of a reference of one net, or of later ones
low_texts : (p : Placement) (l : Library) (texts : List (List ℕ)) (refs : List (List (List ℕ))) (from : ℕ) (q : ℕ × ℕ) (j : ℕ) → IsInNet p l (all_of from texts ++ with_nets (suc from) refs) q j
    → (IsInNet p l (with_nets (suc from) refs) q j → j < suc from + length refs) → j < suc from + length refs
low_texts p l [] refs from q j i later = later i
low_texts p l (text ∷ texts) refs from q j i later =
    elim (in_cases p l (text, from) (all_of from texts ++ with_nets (suc from) refs) q j i) [
      | inl here ↦ let own = here.1 in omega (arith, own)
      | inr others ↦ low_texts p l texts refs from q j others later
    ]

-- the nets of references have the numbers from this one on
low_nets : (p : Placement) (l : Library) (refs : List (List (List ℕ))) (from : ℕ) (q : ℕ × ℕ) (j : ℕ) → IsInNet p l (with_nets from refs) q j → j < from + length refs
low_nets p l [] from q j i = absurd (in_none p l q j i)
low_nets p l (texts ∷ refs) from q j i =
    let low = low_texts p l texts refs from q j i (λ k. low_nets p l refs (suc from) q j k) in
    omega (arith, low)

stand_behind : (u : LengthUnit) (p : Placement) (l : Library) (before : Forest) → Stand u p l before → IsBehind p l (references before) (length (collect nets_in before)) (all u p l (no_network p.quota) before).pins
stand_behind u p l before stand = record {
  known = λ q j i. free_has p l (references before) [] q j (pins_free p l (references before) stand.0.pins stand.1.pins) i;
  back = λ q j e. elim (put_back p l (references before) [] q j e) [
    | inl none ↦ absurd (no_net q j none)
    | inr some ↦ inl some
  ];
  apart = λ q j i e.
      let low = low_nets p l (collect net_references_in before) 0 q j i in
      let count = all_each before in
      absurd (omega (arith, low, count, e));
}

stand_found : (u : LengthUnit) (p : Placement) (l : Library) (f : Forest) (n : Network) → each (network_item u p l) (no_network p.quota) f ≡ Ok n → Stand u p l f × (n ≡ all u p l (no_network p.quota) f)
stand_found u p l f n e = let h = section_found u p l f n e in ((n, h.0), h.1)

list_fault : (u : LengthUnit) (p : Placement) (l : Library) (before inside : Forest) (at : ℕ) (e : DesignFault) → Stand u p l before → network_item u p l (all u p l (no_network p.quota) before) at inside ≡ Err e → NetworkListFault u p l before at inside e
unfolding network_item
list_fault u p l before inside at e stand h = one_fault u p l (references before) (all u p l (no_network p.quota) before) at (head_of inside) (network_word (head_of inside).text) e (stand_behind u p l before stand) h

list_fault_again : (u : LengthUnit) (p : Placement) (l : Library) (before inside : Forest) (at : ℕ) (e : DesignFault) → Stand u p l before → NetworkListFault u p l before at inside e → network_item u p l (all u p l (no_network p.quota) before) at inside ≡ Err e
unfolding network_item
list_fault_again u p l before inside at e stand h = one_fault_again u p l (references before) (all u p l (no_network p.quota) before) at (head_of inside) (network_word (head_of inside).text) e (stand_behind u p l before stand) h

lists_fault : (u : LengthUnit) (p : Placement) (l : Library) (f : Forest) (e : DesignFault) → each (network_item u p l) (no_network p.quota) f ≡ Err e → IsFirst (Stand u p l) (NetworkListFault u p l) f e
lists_fault u p l f e h =
    first_found (network_item u p l) (no_network p.quota) (all u p l (no_network p.quota)) (Stand u p l) (NetworkListFault u p l) (stand_found u p l)
    (λ before inside at e stand k. list_fault u p l before inside at e stand k) f e h

lists_fault_again : (u : LengthUnit) (p : Placement) (l : Library) (f : Forest) (e : DesignFault) → IsFirst (Stand u p l) (NetworkListFault u p l) f e → each (network_item u p l) (no_network p.quota) f ≡ Err e
lists_fault_again u p l f e h =
    first_again (network_item u p l) (no_network p.quota) (all u p l (no_network p.quota)) (Stand u p l) (NetworkListFault u p l) (λ f s. section_all u p l f s.0 s.1)
    (λ before inside at e stand k. list_fault_again u p l before inside at e stand k) f e h

pub fault_found : (u : LengthUnit) (p : Placement) (l : Library) (s : Spot) (e : DesignFault) → network_at u p l s ≡ Err e → IsFirstFault u p l s.args e
unfolding network_at
fault_found u p l s e h = subst (λ (w : LengthUnit). IsFirst (Stand w p l) (NetworkListFault w p l) s.args e) (governs u s.args) (lists_fault (governing u s.args) p l s.args e h)

pub fault_again : (u : LengthUnit) (p : Placement) (l : Library) (s : Spot) (e : DesignFault) → IsFirstFault u p l s.args e → network_at u p l s ≡ Err e
unfolding network_at
fault_again u p l s e h = lists_fault_again (governing u s.args) p l s.args e (subst (λ (w : LengthUnit). IsFirst (Stand w p l) (NetworkListFault w p l) s.args e) (sym (governs u s.args)) h)
