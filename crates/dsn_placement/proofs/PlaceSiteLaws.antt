-- What a component at its place adds is what is read of it, and the fault of a place is the one that is told.
use Rattle.std.proofs.Common.{◌≡◌, ℕ, false, List, [], ◌∷◌, ◌++◌, length, slice_get, Option, Some, None, Ok, Err, refl, sym, ap, subst, ◌∙◌, inl, inr, ◌⊎◌}
use Rattle.std.proofs.lemmas.List.{append-nil}
use Rattle.sexp_text.specs.Forest.{Forest}
use Rattle.dsn_turns.specs.Moves.{OneByOne}
use Rattle.dsn_lists.specs.declared.faults.DesignFault.{DesignFault}
use Rattle.dsn_lists.specs.Results.{◌>>=◌}
use Rattle.dsn_lists.specs.Names.{is_among, place_of}
use Rattle.dsn_lists.proofs.Firsts.{made, ok_is, bind_ok, bind_err}
use Rattle.dsn_lists.proofs.Fresh.{AreFreshBehind, fresh_one, fresh_head}
use Rattle.dsn_shapes.specs.declared.quotas.Quota.{Quota}
use Rattle.dsn_library.specs.declared.images.ImagePart.{ImagePart}
use Rattle.dsn_library.specs.declared.library.Library.{Library}
use Rattle.dsn_placement.specs.declared.placement.PlacedPart.{PlacedPart}
use Rattle.dsn_placement.specs.declared.placement.Placement.{Placement}
use Rattle.dsn_placement.specs.declared.poses.Pose.{Pose}
use Rattle.dsn_placement.specs.Placements.{Ground, parts_of, place_of_list, posed, with_component, with_place}
use Rattle.dsn_placement.specs.PoseLists.{IsPlaceList, PlaceListFault}
use Rattle.dsn_placement.specs.PlaceParts.{ArePlaced, AreTaken, PartsFault}
use Rattle.dsn_placement.specs.PlaceSites.{Site, site, name_in, names_at, parts_named, parts_numbered, Given, AreOfSites, SitePartsFault}
use Rattle.dsn_placement.proofs.PoseListLaws.{place_found, place_again, name_is, place_fault, place_fault_again}
use Rattle.dsn_placement.proofs.PlacePartLaws.{putting, putting_none, parts_found, parts_again, parts_fault, parts_fault_again, taken_none, taken_is}
use Rattle.dsn_placement.proofs.PlaceAdding.{HasNumber, AreAdded, added_is, added_cut}

-- ---- one component

-- its part of the placement: a name, an image and pads
abbrev added_one : Placement → List ℕ → ℕ → List PlacedPart → Quota → Placement
added_one pl name n ps quota = putting (with_component pl name n) ps quota

posed_found : (g : Ground) (o : Option Pose) (n at : ℕ) (pl m : Placement) (qs : List ImagePart) → posed g o at n pl qs ≡ Ok m
    → (ps : List PlacedPart) × (left : Quota) × ArePlaced g o n qs ps × AreTaken pl.quota ps left × (putting pl ps left ≡ m)
posed_found g None n at pl m qs e = ([], pl.quota, refl, taken_none pl.quota, sym (putting_none pl pl.quota refl) ∙ ok_is pl m e)
posed_found g (Some p) n at pl m qs e = parts_found g p at n qs pl m e

posed_again : (g : Ground) (o : Option Pose) (n at : ℕ) (pl : Placement) (qs : List ImagePart) (ps : List PlacedPart) (left : Quota) → ArePlaced g o n qs ps → AreTaken pl.quota ps left → posed g o at n pl qs ≡ Ok (putting pl ps left)
posed_again g None n at pl qs ps left h taken =
    let none : AreTaken pl.quota [] left = subst (λ (xs : List PlacedPart). AreTaken pl.quota xs left) h taken in
    ap made (putting_none pl left (taken_is pl.quota left none)) ∙ ap (λ (xs : List PlacedPart). made (putting pl xs left)) (sym h)
posed_again g (Some p) n at pl qs ps left h taken = parts_again g p at n qs pl ps left h taken

-- the parts of the image of this number are those of the image of the name
parts_are : (l : Library) (image : List ℕ) (n : ℕ) → place_of l.image_names image ≡ Some n → parts_of (slice_get l.images n) ≡ parts_named l image
parts_are l image n is = ap (λ (o : Option ℕ). parts_numbered l o) (sym is)

pub site_found : (g : Given) (image : List ℕ) (n at : ℕ) (args : Forest) (pl m : Placement) → place_of g.library.image_names image ≡ Some n → with_place g.unit g.setting g.library.images n pl at args ≡ Ok m
    → ((name : List ℕ) × (o : Option Pose) × IsPlaceList g.unit args name o) × AreAdded g pl (site image args ∷ []) m
unfolding with_place
site_found g image n at args pl m is e =
    let x = bind_ok (place_of_list g.unit pl.components at args)
    (λ x. posed g.setting x.1 at (length pl.components) (with_component pl x.0 n) (parts_of (slice_get g.library.images n))) m e in
    let h = place_found g.unit pl.components at args x.0 x.1 in
    let r = posed_found g.setting x.0.1 (length pl.components) at (with_component pl x.0.0 n) m (parts_of (slice_get g.library.images n)) x.2 in
    let names : names_at (site image args ∷ []) ≡ x.0.0 ∷ [] = ap (λ (name : List ℕ). name ∷ []) h.2 in
    let placed : ArePlaced g.setting x.0.1 (length pl.components) (parts_named g.library image) r.0
    = subst (λ (qs : List ImagePart). ArePlaced g.setting x.0.1 (length pl.components) qs r.0) (parts_are g.library image n is) r.2 in (
      (x.0.0, x.0.1, h.0),
      record {
        names = ap (λ (p : Placement). p.components) (sym r.4) ∙ ap (λ (ns : List (List ℕ)). pl.components ++ ns) (sym names);
        fresh = subst (λ (ns : List (List ℕ)). AreFreshBehind pl.components ns) (sym names) (fresh_one pl.components x.0.0 h.1);
        numbers = n ∷ [];
        images = ap (λ (p : Placement). p.images) (sym r.4);
        numbered = (is, tt);
        put = r.0;
        parts = ap (λ (p : Placement). p.parts) (sym r.4);
        of_sites = (r.0, [], (x.0.0, x.0.1, h.0, placed), refl, sym (append-nil r.0));
        taken = subst (λ (quota : Quota). AreTaken pl.quota r.0 quota) (ap (λ (p : Placement). p.quota) r.4) r.3;
      },
    )

pub site_again : (g : Given) (image : List ℕ) (n at : ℕ) (args : Forest) (pl m : Placement) → place_of g.library.image_names image ≡ Some n → AreAdded g pl (site image args ∷ []) m
    → with_place g.unit g.setting g.library.images n pl at args ≡ Ok m
unfolding with_place
site_again g image n at args pl m is h = by h.numbers h.images h.numbered h.of_sites
  where
    by : (numbers : List ℕ) → m.images ≡ pl.images ++ numbers → OneByOne (HasNumber g.library) (site image args ∷ []) numbers → AreOfSites g (length pl.components) (site image args ∷ []) h.put
        → (place_of_list g.unit pl.components at args >>= λ x. posed g.setting x.1 at (length pl.components) (with_component pl x.0 n) (parts_of (slice_get g.library.images n))) ≡ Ok m
    by [] images numbered sites = absurd numbered
    by (k ∷ l ∷ numbers) images numbered sites = absurd numbered.1
    by (k ∷ []) images numbered sites =
        let own = sites.2 in
        let name : name_in args ≡ own.0 = name_is g.unit args own.0 own.1 own.2 in
        let names : names_at (site image args ∷ []) ≡ own.0 ∷ [] = ap (λ (x : List ℕ). x ∷ []) name in
        let free = fresh_head pl.components own.0 [] (subst (λ (ns : List (List ℕ)). AreFreshBehind pl.components ns) names h.fresh) in
        let list = place_again g.unit pl.components at args own.0 own.1 own.2 free in
        let put : h.put ≡ sites.0 = sites.4 ∙ ap (λ (xs : List PlacedPart). sites.0 ++ xs) sites.3 ∙ append-nil sites.0 in
        let number : k ≡ n = let some : Some k ≡ Some n = sym numbered.0 ∙ is in cc in
        let placed : ArePlaced g.setting own.1 (length pl.components) (parts_of (slice_get g.library.images n)) h.put
        = subst (λ (xs : List PlacedPart). ArePlaced g.setting own.1 (length pl.components) (parts_of (slice_get g.library.images n)) xs) (sym put)
        (subst (λ (qs : List ImagePart). ArePlaced g.setting own.1 (length pl.components) qs sites.0) (sym (parts_are g.library image n is)) own.3) in
        let read = posed_again g.setting own.1 (length pl.components) at (with_component pl own.0 n) (parts_of (slice_get g.library.images n)) h.put m.quota placed h.taken in
        let component = sym (h.names ∙ ap (λ (ns : List (List ℕ)). pl.components ++ ns) names) in
        let image_is = sym (images ∙ ap (λ (x : ℕ). pl.images ++ x ∷ []) number) in
        let parts_is = sym h.parts in
        let whole : putting (with_component pl own.0 n) h.put m.quota ≡ m = λ i. record { components = component i; images = image_is i; parts = parts_is i; quota = m.quota } in
        rw list (read ∙ ap made whole)

-- ---- what is added is one thing

number_of : (g : Given) (pl m : Placement) (s : Site) → AreAdded g pl (s ∷ []) m → (n : ℕ) × (place_of g.library.image_names s.image ≡ Some n)
number_of g pl m s h = by h.numbers h.numbered
  where
    by : (numbers : List ℕ) → OneByOne (HasNumber g.library) (s ∷ []) numbers → (n : ℕ) × (place_of g.library.image_names s.image ≡ Some n)
    by [] numbered = absurd numbered
    by (n ∷ numbers) numbered = (n, numbered.0)

pub added_same : (g : Given) (sites : List Site) (pl m k : Placement) → AreAdded g pl sites m → AreAdded g pl sites k → m ≡ k
added_same g [] pl m k a b = sym (added_is g pl m a) ∙ added_is g pl k b
added_same g (s ∷ ss) pl m k a b =
    let x = added_cut g pl m (s ∷ []) ss a in
    let y = added_cut g pl k (s ∷ []) ss b in
    let n = number_of g pl x.0 s x.1 in
    let same = ok_is x.0 y.0 (sym (site_again g s.image n.0 0 s.args pl x.0 n.1 x.1) ∙ site_again g s.image n.0 0 s.args pl y.0 n.1 y.1) in
    added_same g ss y.0 m k (subst (λ (p : Placement). AreAdded g p ss m) same x.2) y.2

-- ---- the fault of a place

pub site_fault : (g : Given) (image : List ℕ) (n at : ℕ) (args : Forest) (pl : Placement) (e : DesignFault) → place_of g.library.image_names image ≡ Some n
    → with_place g.unit g.setting g.library.images n pl at args ≡ Err e → PlaceListFault g.unit pl.components at args e ⊎ SitePartsFault g pl at (site image args) e
unfolding with_place
site_fault g image n at args pl e is h =
    elim (bind_err (place_of_list g.unit pl.components at args)
    (λ x. posed g.setting x.1 at (length pl.components) (with_component pl x.0 n) (parts_of (slice_get g.library.images n))) e h) [
      | inl here ↦ inl (place_fault g.unit pl.components at args e here)
      | inr x ↦
          let p = place_found g.unit pl.components at args x.0 x.1 in
          inr (by x.0.0 x.0.1 p.0 p.1 x.2)
    ]
  where
    by : (name : List ℕ) (o : Option Pose) → IsPlaceList g.unit args name o → is_among name pl.components ≡ false
        → posed g.setting o at (length pl.components) (with_component pl name n) (parts_of (slice_get g.library.images n)) ≡ Err e → SitePartsFault g pl at (site image args) e
    by name None list free k = absurd cc
    by name (Some p) list free k =
        let fault = parts_fault g.setting p at (length pl.components) (parts_of (slice_get g.library.images n)) (with_component pl name n) e k in
        (name, p, list, free, subst (λ (qs : List ImagePart). PartsFault g.setting p (length pl.components) pl.quota at qs e) (parts_are g.library image n is) fault)

pub list_fault_again : (g : Given) (n at : ℕ) (args : Forest) (pl : Placement) (e : DesignFault) → PlaceListFault g.unit pl.components at args e → with_place g.unit g.setting g.library.images n pl at args ≡ Err e
unfolding with_place
list_fault_again g n at args pl e h = rw (place_fault_again g.unit pl.components at args e h) refl

pub parts_of_fault_again : (g : Given) (image : List ℕ) (n at : ℕ) (args : Forest) (pl : Placement) (e : DesignFault) → place_of g.library.image_names image ≡ Some n
    → SitePartsFault g pl at (site image args) e → with_place g.unit g.setting g.library.images n pl at args ≡ Err e
unfolding with_place
parts_of_fault_again g image n at args pl e is h =
    let list = place_again g.unit pl.components at args h.0 (Some h.1) h.2 h.3 in
    let fault = subst (λ (qs : List ImagePart). PartsFault g.setting h.1 (length pl.components) pl.quota at qs e) (sym (parts_are g.library image n is)) h.4 in
    rw list (parts_fault_again g.setting h.1 at (length pl.components) (parts_of (slice_get g.library.images n)) (with_component pl h.0 n) e fault)
