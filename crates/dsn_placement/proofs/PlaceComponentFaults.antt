-- The first fault of a component list is the one that is told.
use Rattle.std.proofs.Common.{◌≡◌, ℕ, Bool, true, false, cond, List, [], ◌∷◌, ◌++◌, codes, Option, Some, None, Ok, Err, refl, sym, ap, subst, ◌∙◌, inl, inr, ◌⊎◌}
use Rattle.sexp_text.specs.Forest.{Forest, End, Word, Branch}
use Rattle.dsn_lists.specs.declared.faults.DesignFault.{DesignFault}
use Rattle.dsn_lists.specs.declared.faults.DesignKind.TheVariants as kind
use Rattle.dsn_lists.specs.Results.{Read, ◌>>=◌}
use Rattle.dsn_lists.specs.Names.{place_of}
use Rattle.dsn_lists.specs.Words.{same, head_of}
use Rattle.dsn_lists.specs.Lists.{collect, Every, told, IsFirst}
use Rattle.dsn_lists.specs.ShortLists.{only_lists}
use Rattle.dsn_lists.proofs.Firsts.{made, failed, bind_err, word_fault, word_fault_again, first_found, first_again}
use Rattle.dsn_shapes.specs.declared.quotas.Quota.{Quota}
use Rattle.dsn_placement.specs.declared.placement.Placement.{Placement}
use Rattle.dsn_placement.specs.Placements.{with_place}
use Rattle.dsn_placement.specs.Components.{Sited, sited, image_number, component_item, some_place, component_of, no_placement}
use Rattle.dsn_placement.specs.PoseLists.{PlaceListFault}
use Rattle.dsn_placement.specs.PlaceSites.{Site, site, Given, HasSites, SitePartsFault, SiteFault}
use Rattle.dsn_placement.specs.PlaceComponents.{sites_of, IsOfComponent, PlacesStand, PlaceFault, ComponentFault}
use Rattle.dsn_placement.proofs.PlaceAdding.{AreAdded, whole_of, of_whole, added_join, added_cut, added_none}
use Rattle.dsn_placement.proofs.PlaceSiteLaws.{added_same, site_fault, list_fault_again, parts_of_fault_again}
use Rattle.dsn_placement.proofs.PlaceComponentLaws.{Numbered, some, none_is, step, reading, lists_found, lists_again, lists_rest, number_ok, placed_err}

-- ---- components at these places, and others behind them

same_placement : (g : Given) (quota : Quota) (sites : List Site) (p q : Placement) → HasSites g quota sites p → HasSites g quota sites q → p ≡ q
same_placement g quota sites p q a b = added_same g sites (no_placement quota) p q (of_whole g quota sites p a) (of_whole g quota sites q b)

sites_behind : (g : Given) (quota : Quota) (xs ys : List Site) (pl p : Placement) → HasSites g quota xs pl → AreAdded g pl ys p → HasSites g quota (xs ++ ys) p
sites_behind g quota xs ys pl p h a = whole_of g quota (xs ++ ys) p (added_join g (no_placement quota) pl p xs ys (of_whole g quota xs pl h) a)

behind_sites : (g : Given) (quota : Quota) (xs ys : List Site) (pl p : Placement) → HasSites g quota xs pl → HasSites g quota (xs ++ ys) p → AreAdded g pl ys p
behind_sites g quota xs ys pl p h all =
    let c = added_cut g (no_placement quota) p xs ys (of_whole g quota (xs ++ ys) p all) in
    subst (λ (k : Placement). AreAdded g k ys p) (added_same g xs (no_placement quota) c.0 pl c.1 (of_whole g quota xs pl h)) c.2

-- ---- one list

one_fault : (g : Given) (quota : Quota) (image : List ℕ) (n : ℕ) (sites : List Site) (p : Placement) (found : Bool) (at : ℕ) (args : Forest) (b : Bool) (e : DesignFault) → Numbered g image n → HasSites g quota sites p
    → step g n (sited p found) at args b ≡ Err e → (b ≡ true) × SiteFault g quota sites at (site image args) e
one_fault g quota image n sites p found at args true e is h k =
    elim (bind_err (with_place g.unit g.setting g.library.images n p at args) (λ pl. made (sited pl true)) e k) [
      | inl here ↦ (
        refl,
        elim (site_fault g image n at args p e is here) [
          | inl list ↦ inl (subst (λ (ns : List (List ℕ)). PlaceListFault g.unit ns at args e) h.names list)
          | inr parts ↦ inr (p, h, parts)
        ],
      )
      | inr later ↦ absurd cc
    ]
one_fault g quota image n sites p found at args false e is h k = absurd cc

one_fault_again : (g : Given) (quota : Quota) (image : List ℕ) (n : ℕ) (sites : List Site) (p : Placement) (found : Bool) (at : ℕ) (args : Forest) (e : DesignFault) → Numbered g image n → HasSites g quota sites p
    → SiteFault g quota sites at (site image args) e → step g n (sited p found) at args true ≡ Err e
one_fault_again g quota image n sites p found at args e is h (inl list) =
    rw (list_fault_again g n at args p e (subst (λ (ns : List (List ℕ)). PlaceListFault g.unit ns at args e) (sym h.names) list)) refl
one_fault_again g quota image n sites p found at args e is h (inr parts) =
    let fault = subst (λ (q : Placement). SitePartsFault g q at (site image args) e) (same_placement g quota sites parts.0 p parts.1 h) parts.2 in
    rw (parts_of_fault_again g image n at args p e is fault) refl

-- ---- the lists of a component

-- what was read, and x where nothing was
abbrev read_or : Sited → Read Sited → Sited
read_or x (Ok y) = y
read_or x (Err e) = x

abbrev all : Given → ℕ → Placement → Forest → Sited
all g n pl f = read_or (sited pl false) (reading g n (sited pl false) f)

reached : (g : Given) (quota : Quota) (image : List ℕ) (n : ℕ) (sites : List Site) (pl : Placement) (f : Forest) → Numbered g image n → HasSites g quota sites pl → (s : PlacesStand g quota sites image f)
    → (found : Bool) × (reading g n (sited pl false) f ≡ Ok (sited s.1.0 found))
reached g quota image n sites pl f is h s =
    (_, lists_again g image n f (sited pl false) s.1.0 is s.0 (behind_sites g quota sites (collect (sites_of image) f) pl s.1.0 h s.1.1))

places_stand : (g : Given) (quota : Quota) (image : List ℕ) (n : ℕ) (sites : List Site) (pl : Placement) → Numbered g image n → HasSites g quota sites pl
    → (f : Forest) (y : Sited) → reading g n (sited pl false) f ≡ Ok y → PlacesStand g quota sites image f × (y ≡ all g n pl f)
places_stand g quota image n sites pl is h f y e =
    let l = lists_found g image n f (sited pl false) y is e in
    ((l.0, (y.placement, sites_behind g quota sites (collect (sites_of image) f) pl y.placement h l.1)), sym (ap (λ (r : Read Sited). read_or (sited pl false) r) e))

item_fault : (g : Given) (quota : Quota) (image : List ℕ) (n : ℕ) (sites : List Site) (pl : Placement) → Numbered g image n → HasSites g quota sites pl
    → (before inside : Forest) (at : ℕ) (e : DesignFault) → PlacesStand g quota sites image before → component_item g.unit g.setting g.library n (all g n pl before) at inside ≡ Err e → PlaceFault g quota sites image before at inside e
unfolding component_item
item_fault g quota image n sites pl is h before inside at e s k =
    let r = reached g quota image n sites pl before is h s in
    let state = ap (λ (x : Read Sited). read_or (sited pl false) x) r.1 in
    one_fault g quota image n (sites ++ collect (sites_of image) before) s.1.0 r.0 at (head_of inside).args (same (head_of inside).text (codes "place")) e is s.1.1
    (subst (λ (x : Sited). step g n x at (head_of inside).args (same (head_of inside).text (codes "place")) ≡ Err e) state k)

item_fault_again : (g : Given) (quota : Quota) (image : List ℕ) (n : ℕ) (sites : List Site) (pl : Placement) → Numbered g image n → HasSites g quota sites pl
    → (before inside : Forest) (at : ℕ) (e : DesignFault) → PlacesStand g quota sites image before → PlaceFault g quota sites image before at inside e → component_item g.unit g.setting g.library n (all g n pl before) at inside ≡ Err e
unfolding component_item
item_fault_again g quota image n sites pl is h before inside at e s k =
    let r = reached g quota image n sites pl before is h s in
    let state = ap (λ (x : Read Sited). read_or (sited pl false) x) r.1 in
    let place = ap (λ (b : Bool). step g n (all g n pl before) at (head_of inside).args b) k.0 in
    let told = one_fault_again g quota image n (sites ++ collect (sites_of image) before) s.1.0 r.0 at (head_of inside).args e is s.1.1 k.1 in
    place ∙ subst (λ (x : Sited). step g n x at (head_of inside).args true ≡ Err e) (sym state) told

-- ---- the component

-- the lists are at fault, or there is no place among them
abbrev RestFault : Given → Quota → List Site → List ℕ → ℕ → Forest → DesignFault → Type 0
RestFault g quota sites image at rest e =
    IsFirst (PlacesStand g quota sites image) (PlaceFault g quota sites image) rest e
    ⊎ ((only_lists rest ≡ true) × (collect (sites_of image) rest ≡ []) × (e ≡ told kind.Form at))

lists_only : (g : Given) (f : Forest) → Every (IsOfComponent g.unit) f → only_lists f ≡ true
lists_only g End h = refl
lists_only g (Word at text rest) h = absurd h
lists_only g (Branch at inside rest) h = lists_only g rest h.1

-- lists without a place are read over
every_other : (g : Given) (image : List ℕ) (f : Forest) → only_lists f ≡ true → collect (sites_of image) f ≡ [] → Every (IsOfComponent g.unit) f
every_other g image End h none = tt
every_other g image (Word at text rest) h none = absurd cc
every_other g image (Branch at inside rest) h none = by (same (head_of inside).text (codes "place")) refl none (every_other g image rest h)
  where
    by : (b : Bool) → same (head_of inside).text (codes "place") ≡ b → cond b (site image (head_of inside).args ∷ []) [] ++ collect (sites_of image) rest ≡ []
        → (collect (sites_of image) rest ≡ [] → Every (IsOfComponent g.unit) rest) → Every (IsOfComponent g.unit) (Branch at inside rest)
    by true is none more = absurd cc
    by false is none more = (rw is tt, more none)

rest_fault : (g : Given) (quota : Quota) (image : List ℕ) (n : ℕ) (sites : List Site) (pl : Placement) (at : ℕ) (rest : Forest) (e : DesignFault) → Numbered g image n → HasSites g quota sites pl
    → lists_rest g pl at rest n ≡ Err e → RestFault g quota sites image at rest e
rest_fault g quota image n sites pl at rest e is h k =
    elim (bind_err (reading g n (sited pl false) rest) (λ x. some_place at x) e k) [
      | inl here ↦ inl (first_found (component_item g.unit g.setting g.library n) (sited pl false) (all g n pl) (PlacesStand g quota sites image) (PlaceFault g quota sites image)
          (places_stand g quota image n sites pl is h) (item_fault g quota image n sites pl is h) rest e here)
      | inr x ↦
          let l = lists_found g image n rest (sited pl false) x.0 is x.1 in
          let none = placed_err at x.0.placement x.0.found e x.2 in
          inr (lists_only g rest l.0, none_is (collect (sites_of image) rest) (sym l.2 ∙ none.0), none.1)
    ]

rest_fault_again : (g : Given) (quota : Quota) (image : List ℕ) (n : ℕ) (sites : List Site) (pl : Placement) (at : ℕ) (rest : Forest) (e : DesignFault) → Numbered g image n → HasSites g quota sites pl
    → RestFault g quota sites image at rest e → lists_rest g pl at rest n ≡ Err e
rest_fault_again g quota image n sites pl at rest e is h (inl here) =
    rw (first_again (component_item g.unit g.setting g.library n) (sited pl false) (all g n pl) (PlacesStand g quota sites image) (PlaceFault g quota sites image)
    (λ f s. let r = reached g quota image n sites pl f is h s in r.1 ∙ ap made (sym (ap (λ (x : Read Sited). read_or (sited pl false) x) r.1)))
    (item_fault_again g quota image n sites pl is h) rest e here) refl
rest_fault_again g quota image n sites pl at rest e is h (inr none) =
    let added = subst (λ (ss : List Site). AreAdded g pl ss pl) (sym none.1) (added_none g pl) in
    let lists = lists_again g image n rest (sited pl false) pl is (every_other g image rest none.0 none.1) added in
    let nowhere = ap some none.1 in
    rw (lists, nowhere) (ap failed (sym none.2))

abbrev WordFault : Given → Quota → List Site → ℕ → ℕ → List ℕ → Forest → DesignFault → Type 0
WordFault g quota sites at a image rest e =
    ((place_of g.library.image_names image ≡ None) × (e ≡ told kind.Name a))
    ⊎ (((n : ℕ) × (place_of g.library.image_names image ≡ Some n)) × RestFault g quota sites image at rest e)

number_fault : (a : ℕ) (o : Option ℕ) (e : DesignFault) → image_number a o ≡ Err e → (o ≡ None) × (e ≡ told kind.Name a)
number_fault a None e h = (refl, cc)
number_fault a (Some n) e h = absurd cc

pub component_fault : (g : Given) (quota : Quota) (sites : List Site) (pl : Placement) (at : ℕ) (f : Forest) (e : DesignFault) → HasSites g quota sites pl
    → component_of g.unit g.setting g.library pl at f ≡ Err e → ComponentFault g quota sites at f e
unfolding component_of
component_fault g quota sites pl at f e h k =
    word_fault _ (WordFault g quota sites at) at f e (λ a image rest k.
    elim (bind_err (image_number a (place_of g.library.image_names image)) (λ n. lists_rest g pl at rest n) e k) [
      | inl here ↦ inl (number_fault a (place_of g.library.image_names image) e here)
      | inr n ↦
          let is = number_ok a (place_of g.library.image_names image) n.0 n.1 in
          inr ((n.0, is), rest_fault g quota image n.0 sites pl at rest e is h n.2)
    ]) k

pub component_fault_again : (g : Given) (quota : Quota) (sites : List Site) (pl : Placement) (at : ℕ) (f : Forest) (e : DesignFault) → HasSites g quota sites pl
    → ComponentFault g quota sites at f e → component_of g.unit g.setting g.library pl at f ≡ Err e
unfolding component_of
component_fault_again g quota sites pl at f e h k = word_fault_again _ (WordFault g quota sites at) at f e by k
  where
    by : (a : ℕ) (image : List ℕ) (rest : Forest) → WordFault g quota sites at a image rest e → (image_number a (place_of g.library.image_names image) >>= λ n. lists_rest g pl at rest n) ≡ Err e
    by a image rest (inl none) = rw (none.0, none.1) refl
    by a image rest (inr later) = rw later.0.1 (rest_fault_again g quota image later.0.0 sites pl at rest e later.0.1 h later.1)
