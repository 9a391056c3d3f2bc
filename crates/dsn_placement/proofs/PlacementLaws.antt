-- What the lists of a placement section stand for is what is read, and their first fault is the one that is told.
use Rattle.std.proofs.Common.{◌≡◌, ℕ, List, [], Ok, Err, refl, sym, ap, subst, ◌∙◌, inl, inr}
use Rattle.sexp_text.specs.Forest.{Forest, End, Word, Branch}
use Rattle.dsn_lists.specs.declared.faults.DesignFault.{DesignFault}
use Rattle.dsn_lists.specs.Results.{Read, each}
use Rattle.dsn_lists.specs.Words.{Heading, head_of}
use Rattle.dsn_lists.specs.Units.{unit_list}
use Rattle.dsn_lists.specs.Lists.{collect, Every, IsFirst}
use Rattle.dsn_lists.proofs.Firsts.{made, failed, ok_is, bind_ok, bind_err, first_found, first_again}
use Rattle.dsn_lists.proofs.UnitLaws.{unit_found, unit_again, unit_fault, unit_fault_again}
use Rattle.dsn_shapes.specs.declared.quotas.Quota.{Quota}
use Rattle.dsn_structure.specs.Structures.{flip_of}
use Rattle.dsn_structure.proofs.FlipLaws.{flip_found, flip_again, flip_fault, flip_fault_again}
use Rattle.dsn_placement.specs.declared.place_lists.PlacementWord.{PlacementWord}
use Rattle.dsn_placement.specs.declared.place_lists.PlacementWord.TheVariants as words
use Rattle.dsn_placement.specs.declared.placement.Placement.{Placement}
use Rattle.dsn_placement.specs.Components.{placement_word, placement_list, placement_item, no_placement}
use Rattle.dsn_placement.specs.PlaceSites.{Site, Given, HasSites}
use Rattle.dsn_placement.specs.PlacementMeaning.{sites_of_list, sites_in, IsOfPlacement, IsPlacementList, IsSection, Stand, OfPlacementFault, PlacementListFault}
use Rattle.dsn_placement.proofs.PlaceAdding.{AreAdded, whole_of, of_whole, added_none, added_is, added_join, added_cut}
use Rattle.dsn_placement.proofs.PlaceComponentLaws.{component_found, component_again}
use Rattle.dsn_placement.proofs.PlaceComponentFaults.{component_fault, component_fault_again}

-- ---- one list

-- nothing is added
same_added : (g : Given) (pl m : Placement) → pl ≡ m → AreAdded g pl [] m
same_added g pl m is = subst (λ (p : Placement). AreAdded g pl [] p) is (added_none g pl)

one_found : (g : Given) (pl m : Placement) (at : ℕ) (h : Heading) (k : PlacementWord) → placement_list g.unit g.setting g.library pl at h k ≡ Ok m → IsOfPlacement g k h.args × AreAdded g pl (sites_of_list k h.args) m
one_found g pl m at h words.Component e = component_found g pl m at h.args e
one_found g pl m at h words.PlaceControl e = let s = bind_ok (flip_of at h.args) (λ _. made pl) m e in ((flip_found at h.args s.0 s.1).0, same_added g pl m (ok_is pl m s.2))
one_found g pl m at h words.Unit e = let v = bind_ok (unit_list at h.args) (λ _. made pl) m e in ((unit_found at h.args v.0 v.1).0, same_added g pl m (ok_is pl m v.2))
one_found g pl m at h words.Resolution e = absurd cc
one_found g pl m at h words.Other e = (tt, same_added g pl m (ok_is pl m e))

one_again : (g : Given) (pl m : Placement) (at : ℕ) (h : Heading) (k : PlacementWord) → IsOfPlacement g k h.args → AreAdded g pl (sites_of_list k h.args) m → placement_list g.unit g.setting g.library pl at h k ≡ Ok m
one_again g pl m at h words.Component f a = component_again g pl m at h.args f a
one_again g pl m at h words.PlaceControl f a = let s = flip_again at h.args f in rw s.1 (ap made (added_is g pl m a))
one_again g pl m at h words.Unit f a = let v = unit_again at h.args f in rw v.1 (ap made (added_is g pl m a))
one_again g pl m at h words.Resolution f a = absurd f
one_again g pl m at h words.Other f a = ap made (added_is g pl m a)

one_fault : (g : Given) (quota : Quota) (sites : List Site) (pl : Placement) (at : ℕ) (h : Heading) (k : PlacementWord) (e : DesignFault) → HasSites g quota sites pl
    → placement_list g.unit g.setting g.library pl at h k ≡ Err e → OfPlacementFault g quota sites at h k e
one_fault g quota sites pl at h words.Component e has f = component_fault g quota sites pl at h.args e has f
one_fault g quota sites pl at h words.PlaceControl e has f =
    elim (bind_err (flip_of at h.args) (λ _. made pl) e f) [
      | inl here ↦ flip_fault at h.args e here
      | inr later ↦ absurd cc
    ]
one_fault g quota sites pl at h words.Unit e has f =
    elim (bind_err (unit_list at h.args) (λ _. made pl) e f) [
      | inl here ↦ unit_fault at h.args e here
      | inr later ↦ absurd cc
    ]
one_fault g quota sites pl at h words.Resolution e has f = cc
one_fault g quota sites pl at h words.Other e has f = absurd cc

one_fault_again : (g : Given) (quota : Quota) (sites : List Site) (pl : Placement) (at : ℕ) (h : Heading) (k : PlacementWord) (e : DesignFault) → HasSites g quota sites pl
    → OfPlacementFault g quota sites at h k e → placement_list g.unit g.setting g.library pl at h k ≡ Err e
one_fault_again g quota sites pl at h words.Component e has f = component_fault_again g quota sites pl at h.args e has f
one_fault_again g quota sites pl at h words.PlaceControl e has f = rw (flip_fault_again at h.args e f) refl
one_fault_again g quota sites pl at h words.Unit e has f = rw (unit_fault_again at h.args e f) refl
one_fault_again g quota sites pl at h words.Resolution e has f = ap failed (sym f)
one_fault_again g quota sites pl at h words.Other e has f = absurd f

-- ---- all lists

-- what is read of lists of the section
abbrev pub reading : Given → Placement → Forest → Read Placement
reading g pl f = each (placement_item g.unit g.setting g.library) pl f

lists_found : (g : Given) (f : Forest) (pl m : Placement) → reading g pl f ≡ Ok m → Every (IsPlacementList g) f × AreAdded g pl (collect sites_in f) m
unfolding each placement_item
lists_found g End pl m e = (tt, same_added g pl m (ok_is pl m e))
lists_found g (Word at text rest) pl m e = absurd cc
lists_found g (Branch at inside rest) pl m e =
    let y = bind_ok (placement_item g.unit g.setting g.library pl at inside) (λ y. reading g y rest) m e in
    let one = one_found g pl y.0 at (head_of inside) (placement_word (head_of inside).text) y.1 in
    let others = lists_found g rest y.0 m y.2 in
    ((one.0, others.0), added_join g pl y.0 m (sites_in at inside) (collect sites_in rest) one.1 others.1)

lists_again : (g : Given) (f : Forest) (pl m : Placement) → Every (IsPlacementList g) f → AreAdded g pl (collect sites_in f) m → reading g pl f ≡ Ok m
unfolding each placement_item
lists_again g End pl m h a = ap made (added_is g pl m a)
lists_again g (Word at text rest) pl m h a = absurd h
lists_again g (Branch at inside rest) pl m h a =
    let c = added_cut g pl m (sites_in at inside) (collect sites_in rest) a in
    rw (one_again g pl c.0 at (head_of inside) (placement_word (head_of inside).text) h.0 c.1) (lists_again g rest c.0 m h.1 c.2)

pub section_found : (g : Given) (quota : Quota) (f : Forest) (p : Placement) → reading g (no_placement quota) f ≡ Ok p → IsSection g quota f p
section_found g quota f p e = let l = lists_found g f (no_placement quota) p e in record { formed = l.0; sites = whole_of g quota (collect sites_in f) p l.1 }

pub section_again : (g : Given) (quota : Quota) (f : Forest) (p : Placement) → IsSection g quota f p → reading g (no_placement quota) f ≡ Ok p
section_again g quota f p h = lists_again g f (no_placement quota) p h.formed (of_whole g quota (collect sites_in f) p h.sites)

-- ---- the first fault

-- what was read, and p where nothing was
abbrev read_or : Placement → Read Placement → Placement
read_or p (Ok q) = q
read_or p (Err e) = p

abbrev all : Given → Quota → Forest → Placement
all g quota f = read_or (no_placement quota) (reading g (no_placement quota) f)

reached : (g : Given) (quota : Quota) (f : Forest) → Stand g quota f → HasSites g quota (collect sites_in f) (all g quota f)
reached g quota f s = subst (λ (p : Placement). HasSites g quota (collect sites_in f) p) (sym (ap (λ (r : Read Placement). read_or (no_placement quota) r) (section_again g quota f s.0 s.1))) s.1.sites

list_fault : (g : Given) (quota : Quota) (before inside : Forest) (at : ℕ) (e : DesignFault) → Stand g quota before → placement_item g.unit g.setting g.library (all g quota before) at inside ≡ Err e → PlacementListFault g quota before at inside e
unfolding placement_item
list_fault g quota before inside at e s h = one_fault g quota (collect sites_in before) (all g quota before) at (head_of inside) (placement_word (head_of inside).text) e (reached g quota before s) h

list_fault_again : (g : Given) (quota : Quota) (before inside : Forest) (at : ℕ) (e : DesignFault) → Stand g quota before → PlacementListFault g quota before at inside e → placement_item g.unit g.setting g.library (all g quota before) at inside ≡ Err e
unfolding placement_item
list_fault_again g quota before inside at e s h = one_fault_again g quota (collect sites_in before) (all g quota before) at (head_of inside) (placement_word (head_of inside).text) e (reached g quota before s) h

pub lists_fault : (g : Given) (quota : Quota) (f : Forest) (e : DesignFault) → reading g (no_placement quota) f ≡ Err e → IsFirst (Stand g quota) (PlacementListFault g quota) f e
lists_fault g quota f e h =
    first_found (placement_item g.unit g.setting g.library) (no_placement quota) (all g quota) (Stand g quota) (PlacementListFault g quota)
    (λ f p k. ((p, section_found g quota f p k), sym (ap (λ (r : Read Placement). read_or (no_placement quota) r) k)))
    (list_fault g quota) f e h

pub lists_fault_again : (g : Given) (quota : Quota) (f : Forest) (e : DesignFault) → IsFirst (Stand g quota) (PlacementListFault g quota) f e → reading g (no_placement quota) f ≡ Err e
lists_fault_again g quota f e h =
    first_again (placement_item g.unit g.setting g.library) (no_placement quota) (all g quota) (Stand g quota) (PlacementListFault g quota)
    (λ f s. let r = section_again g quota f s.0 s.1 in r ∙ ap made (sym (ap (λ (x : Read Placement). read_or (no_placement quota) x) r)))
    (list_fault_again g quota) f e h
