-- The sections read one after another are the design that they state, or its first fault, and the other way round.
use Rattle.std.proofs.Common.{◌≡◌, ℕ, ◌≤◌, length, List, Ok, Err, refl, sym, ap, ◌∙◌, subst, inl, inr}
use Rattle.std.specs.Prelude.{MatchResult, ⊤}
use Rattle.sexp_text.specs.Forest.{Forest}
use Rattle.board_rules.specs.declared.design.Parts.{Parts}
use Rattle.dsn_lists.specs.declared.faults.DesignFault.{DesignFault}
use Rattle.dsn_lists.specs.declared.pcb.Title.{Title}
use Rattle.dsn_lists.specs.declared.faults.ReadWhy.{ReadWhy}
use Rattle.dsn_lists.specs.declared.faults.ReadWhy.TheVariants.{Fault, Memory}
use Rattle.dsn_lists.specs.Results.{Read, Fails, ◌>>=◌}
use Rattle.dsn_lists.specs.Pcbs.{design_of}
use Rattle.dsn_lists.specs.Titles.{IsTitle}
use Rattle.dsn_lists.proofs.Bounds.{ok_is, err_gives}
use Rattle.dsn_lists.proofs.Firsts.{bind_ok, bind_err}
use Rattle.dsn_lists.proofs.TitleLaws.{title_found, title_again, title_why, why_title}
use Rattle.dsn_structure.specs.declared.structure.Structure.{Structure}
use Rattle.dsn_structure.specs.Structures.{structure_of}
use Rattle.dsn_structure.specs.Meaning.{HasStructure}
use Rattle.dsn_structure.proofs.Whole.{has_found, has_again, why_found, why_again}
use Rattle.dsn_library.specs.declared.library.Library.{Library}
use Rattle.dsn_network.specs.declared.network.Network.{Network}
use Rattle.dsn_placement.specs.declared.placement.Placement.{Placement}
use Rattle.dsn_library.specs.Libraries.{library_of}
use Rattle.dsn_placement.specs.Components.{placement_of}
use Rattle.dsn_network.specs.Networks.{network_of}
use Rattle.dsn_reader.specs.declared.wiring.Wiring.{Wiring}
use Rattle.dsn_reader.specs.Wirings.{Netted, wiring_of}
use Rattle.dsn_reader.specs.Assembly.{Gathered, Wired, known_vias, classes_of, assembled, wired_of, behind_library, sections_of, parts_of}
use Rattle.dsn_reader.specs.Rows.{laid_out}
use Rattle.dsn_reader.specs.Whole.{gathering, States, FaultBehindNetwork, FaultBehindPlacement, FaultBehindLibrary, FaultBehindStructure, ListFault}
use Rattle.dsn_network.proofs.NetworkSound.{network_of_fit}
use Rattle.dsn_network.proofs.NetClasses.{classes_found, classes_again}
use Rattle.dsn_placement.proofs.PlacementWhole.{has_found as placement_found, has_again as placement_again, why_found as placement_why, why_again as why_placement}
use Rattle.dsn_library.proofs.LibraryWhole.{has_found as library_found, has_again as library_again, why_found as library_why, why_again as why_library}
use Rattle.dsn_network.proofs.NetworkWhole.{has_found as network_found, has_again as network_again, why_found as network_why, why_again as why_network}
use Rattle.dsn_reader.proofs.Whole.{has_found as wiring_found, has_again as wiring_again, why_found as wiring_why, why_again as why_wiring}
use Rattle.dsn_reader.proofs.UnknownLaws.{vias_known, known_again, unknown_found, unknown_again}
use Rattle.dsn_reader.proofs.AssemblyLaws.{assembled_is}

abbrev wronged : {A : Type 0} → DesignFault → Read A
wronged d = Err d

err_is : {A : Type 0} {d e : DesignFault} → wronged {A = A} d ≡ Err e → d ≡ e
err_is {A} {d} {e} h = subst (λ (r : Read A). MatchResult r (λ _. ⊤) (λ x. d ≡ x)) h refl

-- ---- what stands

-- what is found behind the library
record Behind (f : Forest) (name : List ℕ) (s : Structure) (l : Library) (g : Gathered) : Type 0 where
  placement : Placement
  network : Network
  wired : Netted Wiring
  placed : placement_of f s l ≡ Ok placement
  connected : network_of f placement l ≡ Ok network
  laid : wiring_of f s.layers l network.nets network.quota ≡ Ok wired
  known : known_vias l.names s network.classes ≡ Ok tt
  same : record { name = name; structure = s; library = l; placement = placement; classes = network.classes; between = network.pairs; pins = network.pins; numbers = classes_of network; nets = wired.nets; wiring = wired.it } ≡ g

abbrev with_wired : List ℕ → Structure → Library → Placement → Network → Wired → Gathered
with_wired name s l p n x = record { name = name; structure = s; library = l; placement = p; classes = n.classes; between = n.pairs; pins = n.pins; numbers = x.numbers; nets = x.nets; wiring = x.wiring }

behind_found : (f : Forest) (name : List ℕ) (s : Structure) (l : Library) (g : Gathered) → behind_library f name s l ≡ Ok g → Behind f name s l g
unfolding behind_library wired_of
behind_found f name s l g e =
    let d = bind_ok (placement_of f s l) _ g e in
    let h = bind_ok (network_of f d.0 l) _ g d.2 in
    let w = bind_ok (wired_of f s l h.0) _ g h.2 in
    let k = bind_ok (wiring_of f s.layers l h.0.nets h.0.quota) _ w.0 w.1 in
    let m = bind_ok (known_vias l.names s h.0.classes) _ w.0 k.2 in
    let last : with_wired name s l d.0 h.0 w.0 ≡ g = ok_is w.2 in
    let own : record { nets = k.0.nets; numbers = classes_of h.0; wiring = k.0.it } ≡ w.0 = ok_is m.2 in
    record {
      placement = d.0;
      network = h.0;
      wired = k.0;
      placed = d.1;
      connected = h.1;
      laid = k.1;
      known = m.1;
      same = ap (λ (x : Wired). with_wired name s l d.0 h.0 x) own ∙ last;
    }

pub states_found : (f : Forest) (p : Parts) → parts_of f ≡ Ok p → States f p
unfolding parts_of sections_of
states_found f p e =
    let g = bind_ok (sections_of f) (λ g. Ok (assembled g)) p e in
    let a = bind_ok (design_of f) _ g.0 g.1 in
    let b = bind_ok (structure_of f) _ g.0 a.2 in
    let c = bind_ok (library_of f b.0.layers) _ g.0 b.2 in
    let x = behind_found f a.0.name b.0 c.0 g.0 c.2 in
    let is : assembled g.0 ≡ p = ok_is g.2 in
    let connected = network_found f x.placement c.0 x.network x.connected in
    record {
      title = a.0;
      structure = b.0;
      library = c.0;
      placement = x.placement;
      network = x.network;
      numbers = classes_of x.network;
      wired = x.wired;
      titled = title_found f a.0 a.1;
      structured = has_found f b.0 b.1;
      stocked = library_found f b.0.layers c.0 c.1;
      placed = placement_found f b.0 c.0 x.placement x.placed;
      connected = connected;
      classed = classes_found x.network.classes x.network.nets connected.2.fresh;
      laid = wiring_found f b.0.layers c.0 x.network.nets x.network.quota x.wired (network_of_fit f x.placement c.0 x.network x.connected).few x.laid;
      known = vias_known c.0.names b.0 x.network.classes x.known;
      is = sym is ∙ assembled_is g.0 ∙ ap laid_out (sym x.same);
    }

wired_again : (f : Forest) (s : Structure) (l : Library) (n : Network) (w : Netted Wiring) → wiring_of f s.layers l n.nets n.quota ≡ Ok w → known_vias l.names s n.classes ≡ Ok tt
    → wired_of f s l n ≡ Ok (record { nets = w.nets; numbers = classes_of n; wiring = w.it })
unfolding wired_of
wired_again f s l n w laid known = rw (laid, known) refl

behind_again : (f : Forest) (t : Title) (s : Structure) (l : Library) (p : Placement) (n : Network) (w : Netted Wiring) → placement_of f s l ≡ Ok p → network_of f p l ≡ Ok n
    → wired_of f s l n ≡ Ok (record { nets = w.nets; numbers = classes_of n; wiring = w.it }) → behind_library f t.name s l ≡ Ok (gathering t s l p n (classes_of n) w)
unfolding behind_library
behind_again f t s l p n w placed connected laid = rw (placed, connected, laid) refl

sections_again : (f : Forest) (t : Title) (s : Structure) (l : Library) (g : Gathered) → design_of f ≡ Ok t → structure_of f ≡ Ok s → library_of f s.layers ≡ Ok l → behind_library f t.name s l ≡ Ok g → sections_of f ≡ Ok g
unfolding sections_of
sections_again f t s l g titled structured stocked rest = rw (titled, structured, stocked) rest

pub states_again : (f : Forest) (p : Parts) → States f p → parts_of f ≡ Ok p
unfolding parts_of
states_again f p h =
    let laid = wired_again f h.structure h.library h.network h.wired (wiring_again f h.structure.layers h.library h.network.nets h.network.quota h.wired h.laid) (known_again h.library.names h.structure h.network.classes h.known) in
    let rest = behind_again f h.title h.structure h.library h.placement h.network h.wired (placement_again f h.structure h.library h.placement h.placed) (network_again f h.placement h.library h.network h.connected) laid in
    let all = sections_again f h.title h.structure h.library (gathering h.title h.structure h.library h.placement h.network (classes_of h.network) h.wired) (title_again f h.title h.titled) (has_again f h.structure h.structured) (library_again f h.structure.layers h.library h.stocked) rest in
    let numbers = classes_again h.network.classes h.network.nets h.numbers h.connected.2.fresh h.classed in
    let is : assembled (gathering h.title h.structure h.library h.placement h.network (classes_of h.network) h.wired) ≡ p =
    assembled_is (gathering h.title h.structure h.library h.placement h.network (classes_of h.network) h.wired)
    ∙ ap (λ (ks : List ℕ). laid_out (gathering h.title h.structure h.library h.placement h.network ks h.wired)) (sym numbers) ∙ sym h.is
    in
    rw all (ap (λ (q : Parts). Ok q) is)

-- ---- the first fault

-- behind a reading that only makes a value, a fault is the reading's
wired_in : {A B : Type 0} (r : Read A) (make : A → B) (e : DesignFault) → (r >>= λ x. Ok (make x)) ≡ Err e → r ≡ Err e
wired_in (Ok x) make e h = absurd (err_gives (sym h))
wired_in (Err d) make e h = ap (λ (x : DesignFault). Err x) (err_is h)

unknown_in : {B : Type 0} (r : Read (Unit {0})) (x : B) (e : DesignFault) → (r >>= λ _. Ok x) ≡ Err e → r ≡ Err e
unknown_in r x e h = wired_in r (λ _. x) e h

wired_why : (f : Forest) (s : Structure) (l : Library) (n : Network) (e : DesignFault) → length n.nets ≤ 100000 → wired_of f s l n ≡ Err e → FaultBehindNetwork f s l n e
unfolding wired_of
wired_why f s l n e few h =
    elim (bind_err (wiring_of f s.layers l n.nets n.quota) (λ w. known_vias l.names s n.classes >>= λ _. Ok (record { nets = w.nets; numbers = classes_of n; wiring = w.it })) e h) [
      | inl here ↦ inl (wiring_why f s.layers l n.nets n.quota e few here)
      | inr later ↦ inr (later.0, wiring_found f s.layers l n.nets n.quota later.0 few later.1, unknown_found l.names s n.classes e (unknown_in (known_vias l.names s n.classes) (record { nets = later.0.nets; numbers = classes_of n; wiring = later.0.it }) e later.2))
    ]

network_behind : (f : Forest) (t : Title) (s : Structure) (l : Library) (p : Placement) (e : DesignFault) → (network_of f p l >>= λ n. (wired_of f s l n >>= λ w. Ok (with_wired t.name s l p n w))) ≡ Err e → FaultBehindPlacement f s l p e
network_behind f t s l p e h =
    elim (bind_err (network_of f p l) (λ n. (wired_of f s l n >>= λ w. Ok (with_wired t.name s l p n w))) e h) [
      | inl here ↦ inl (network_why f p l e here)
      | inr later ↦ inr (later.0, network_found f p l later.0 later.1, wired_why f s l later.0 e (network_of_fit f p l later.0 later.1).few (wired_in (wired_of f s l later.0) (λ w. with_wired t.name s l p later.0 w) e later.2))
    ]

behind_why : (f : Forest) (t : Title) (s : Structure) (l : Library) (e : DesignFault) → behind_library f t.name s l ≡ Err e → FaultBehindLibrary f s l e
unfolding behind_library
behind_why f t s l e h =
    elim (bind_err (placement_of f s l) (λ p. network_of f p l >>= λ n. (wired_of f s l n >>= λ w. Ok (with_wired t.name s l p n w))) e h) [
      | inl here ↦ inl (placement_why f s l e here)
      | inr later ↦ inr (later.0, placement_found f s l later.0 later.1, network_behind f t s l later.0 e later.2)
    ]

structure_behind : (f : Forest) (t : Title) (s : Structure) (e : DesignFault) → (library_of f s.layers >>= λ l. behind_library f t.name s l) ≡ Err e → FaultBehindStructure f s e
structure_behind f t s e h =
    elim (bind_err (library_of f s.layers) (λ l. behind_library f t.name s l) e h) [
      | inl here ↦ inl (library_why f s.layers e here)
      | inr later ↦ inr (later.0, library_found f s.layers later.0 later.1, behind_why f t s later.0 e later.2)
    ]

title_behind : (f : Forest) (t : Title) (e : DesignFault) → (structure_of f >>= λ s. library_of f s.layers >>= λ l. behind_library f t.name s l) ≡ Err e → ListFault f e
title_behind f t e h =
    elim (bind_err (structure_of f) (λ s. library_of f s.layers >>= λ l. behind_library f t.name s l) e h) [
      | inl here ↦ inl (why_found f e here)
      | inr later ↦ inr (later.0, has_found f later.0 later.1, structure_behind f t later.0 e later.2)
    ]

sections_why : (f : Forest) (e : DesignFault) → sections_of f ≡ Err e → ListFault f e
unfolding sections_of
sections_why f e h =
    elim (bind_err (design_of f) (λ t. structure_of f >>= λ s. library_of f s.layers >>= λ l. behind_library f t.name s l) e h) [
      | inl here ↦ inl (inl (title_why f e here))
      | inr later ↦ title_behind f later.0 e later.2
    ]

pub list_fault_found : (f : Forest) (e : DesignFault) → parts_of f ≡ Err e → ListFault f e
unfolding parts_of
list_fault_found f e h =
    elim (bind_err (sections_of f) (λ g. Ok (assembled g)) e h) [
      | inl here ↦ sections_why f e here
      | inr later ↦ absurd (err_gives (sym later.2))
    ]

-- ---- a first fault is told

wired_fault : (f : Forest) (s : Structure) (l : Library) (n : Network) (e : DesignFault) → FaultBehindNetwork f s l n e → wired_of f s l n ≡ Err e
unfolding wired_of
wired_fault f s l n e (inl here) = rw (why_wiring f s.layers l n.nets n.quota e here) refl
wired_fault f s l n e (inr later) = rw (wiring_again f s.layers l n.nets n.quota later.0 later.1, unknown_again l.names s n.classes e later.2) refl

behind_fault : (f : Forest) (name : List ℕ) (s : Structure) (l : Library) (e : DesignFault) → FaultBehindLibrary f s l e → behind_library f name s l ≡ Err e
unfolding behind_library
behind_fault f name s l e (inl here) = rw (why_placement f s l e here) refl
behind_fault f name s l e (inr (p, has, inl here)) = rw (placement_again f s l p has, why_network f p l e here) refl
behind_fault f name s l e (inr (p, has, inr later)) = rw (placement_again f s l p has, network_again f p l later.0 later.1, wired_fault f s l later.0 e later.2) refl

structure_fault : (f : Forest) (t : Title) (s : Structure) (e : DesignFault) → IsTitle f t → HasStructure f s → FaultBehindStructure f s e → sections_of f ≡ Err e
unfolding sections_of
structure_fault f t s e titled has (inl here) = rw (title_again f t titled, has_again f s has, why_library f s.layers e here) refl
structure_fault f t s e titled has (inr later) = rw (title_again f t titled, has_again f s has, library_again f s.layers later.0 later.1) (behind_fault f t.name s later.0 e later.2)

sections_fault : (f : Forest) (e : DesignFault) → ListFault f e → sections_of f ≡ Err e
unfolding sections_of
sections_fault f e (inl (inl here)) = rw (why_title f e here) refl
sections_fault f e (inl (inr later)) = rw (title_again f later.0 later.1, why_again f e (inr later)) refl
sections_fault f e (inr later) = structure_fault f later.1.0 later.0 e later.1.1 later.1 later.2

pub list_fault_again : (f : Forest) (e : DesignFault) → ListFault f e → parts_of f ≡ Err e
unfolding parts_of
list_fault_again f e h = rw (sections_fault f e h) refl

-- ---- a reading that ends with the wiring

pub behind_fails : (f : Forest) (name : List ℕ) (s : Structure) (l : Library) (p : Placement) (n : Network) (why : ReadWhy) → placement_of f s l ≡ Ok p → network_of f p l ≡ Ok n → Fails why (wired_of f s l n) → Fails why (behind_library f name s l)
unfolding behind_library
behind_fails f name s l p n Memory placed connected h = tt
behind_fails f name s l p n (Fault e) placed connected h = rw (placed, connected, h) refl
