-- What a component list adds is what is read of it, and its first fault is the one that is told.
use Rattle.std.proofs.Common.{◌≡◌, ℕ, ◌<◌, Bool, true, false, cond, List, [], ◌∷◌, ◌++◌, codes, length, Option, Some, None, Ok, Err, refl, sym, ap, subst, ◌∙◌, arith}
use Rattle.std.specs.Prelude.{◌||◌}
use Rattle.sexp_text.specs.Forest.{Forest, End, Word, Branch}
use Rattle.dsn_lists.specs.declared.faults.DesignFault.{DesignFault}
use Rattle.dsn_lists.specs.declared.faults.DesignKind.TheVariants as kind
use Rattle.dsn_lists.specs.Results.{Read, ◌>>=◌, each}
use Rattle.dsn_lists.specs.Names.{place_of}
use Rattle.dsn_lists.specs.Words.{same, head_of, word_of}
use Rattle.dsn_lists.specs.Lists.{collect, Every, When, told}
use Rattle.dsn_lists.proofs.Firsts.{made, failed, ok_is, bind_ok}
use Rattle.dsn_placement.specs.declared.placement.Placement.{Placement}
use Rattle.dsn_placement.specs.declared.poses.Pose.{Pose}
use Rattle.dsn_placement.specs.declared.place_lists.PlacementWord.TheVariants as words
use Rattle.dsn_placement.specs.Placements.{with_place}
use Rattle.dsn_placement.specs.Components.{Sited, sited, image_number, component_item, some_place, component_of}
use Rattle.dsn_placement.specs.PoseLists.{IsPlaceList}
use Rattle.dsn_placement.specs.PlaceSites.{Site, site, Given}
use Rattle.dsn_placement.specs.PlaceComponents.{sites_of, IsOfComponent, IsComponent}
use Rattle.dsn_placement.specs.PlacementMeaning.{sites_of_list}
use Rattle.dsn_placement.proofs.PlaceAdding.{AreAdded, added_none, added_is, added_join, added_cut}
use Rattle.dsn_placement.proofs.PlaceSiteLaws.{site_found, site_again}

-- the text names the image of this number
abbrev pub Numbered : Given → List ℕ → ℕ → Type 0
Numbered g image n = place_of g.library.image_names image ≡ Some n

-- ---- whether there is a place

abbrev pub some : List Site → Bool
some [] = false
some (s ∷ ss) = true

or_none : (b : Bool) → b ≡ (b || false)
or_none true = refl
or_none false = refl

or_more : (b : Bool) (xs ys : List Site) → ((b || some xs) || some ys) ≡ (b || some (xs ++ ys))
or_more true xs ys = refl
or_more false [] ys = refl
or_more false (x ∷ xs) ys = refl

or_one : (b : Bool) → true ≡ (b || true)
or_one true = refl
or_one false = refl

some_is : (ss : List Site) → some ss ≡ true → 0 < length ss
some_is [] e = absurd cc
some_is (s ∷ ss) e = omega arith

is_some : (ss : List Site) → 0 < length ss → some ss ≡ true
is_some [] h = absurd (omega arith)
is_some (s ∷ ss) h = refl

pub none_is : (ss : List Site) → some ss ≡ false → ss ≡ []
none_is [] e = refl
none_is (s ∷ ss) e = absurd cc

-- ---- one list

-- what a list does to the placement, where it is a place or not
abbrev pub step : Given → ℕ → Sited → ℕ → Forest → Bool → Read Sited
step g n x at args b = cond b (with_place g.unit g.setting g.library.images n x.placement at args >>= λ pl. made (sited pl true)) (made x)

abbrev sites_by : List ℕ → Forest → Bool → List Site
sites_by image args b = cond b (site image args ∷ []) []

-- a place, if the list is one
abbrev IsBy : Given → Forest → Bool → Type 0
IsBy g args b = When b ((name : List ℕ) × (pose : Option Pose) × IsPlaceList g.unit args name pose)

one_found : (g : Given) (image : List ℕ) (n : ℕ) (x y : Sited) (at : ℕ) (args : Forest) (b : Bool) → Numbered g image n → step g n x at args b ≡ Ok y
    → IsBy g args b × AreAdded g x.placement (sites_by image args b) y.placement × (y.found ≡ (x.found || some (sites_by image args b)))
one_found g image n x y at args true is e =
    let pl = bind_ok (with_place g.unit g.setting g.library.images n x.placement at args) (λ pl. made (sited pl true)) y e in
    let s = site_found g image n at args x.placement pl.0 is pl.1 in
    let same = ok_is (sited pl.0 true) y pl.2 in
    (s.0, subst (λ (z : Sited). AreAdded g x.placement (site image args ∷ []) z.placement) same s.1, ap (λ (z : Sited). z.found) (sym same) ∙ or_one x.found)
one_found g image n x y at args false is e =
    let same = ok_is x y e in
    (tt, subst (λ (z : Sited). AreAdded g x.placement [] z.placement) same (added_none g x.placement), ap (λ (z : Sited). z.found) (sym same) ∙ or_none x.found)

one_again : (g : Given) (image : List ℕ) (n : ℕ) (x : Sited) (m : Placement) (at : ℕ) (args : Forest) (b : Bool) → Numbered g image n → AreAdded g x.placement (sites_by image args b) m
    → step g n x at args b ≡ Ok (sited m (x.found || some (sites_by image args b)))
one_again g image n x m at args true is h = rw (site_again g image n at args x.placement m is h) (ap (λ (b : Bool). made (sited m b)) (or_one x.found))
one_again g image n x m at args false is h =
    let same = added_is g x.placement m h in
    let found = or_none x.found in
    λ i. made (sited (same i) (found i))

-- ---- all lists of a component

-- what is read of the lists of a component of this image
abbrev pub reading : Given → ℕ → Sited → Forest → Read Sited
reading g n x f = each (component_item g.unit g.setting g.library n) x f

pub lists_found : (g : Given) (image : List ℕ) (n : ℕ) (f : Forest) (x y : Sited) → Numbered g image n → reading g n x f ≡ Ok y
    → Every (IsOfComponent g.unit) f × AreAdded g x.placement (collect (sites_of image) f) y.placement × (y.found ≡ (x.found || some (collect (sites_of image) f)))
unfolding each component_item
lists_found g image n End x y is e =
    let same = ok_is x y e in
    (tt, subst (λ (z : Sited). AreAdded g x.placement [] z.placement) same (added_none g x.placement), ap (λ (z : Sited). z.found) (sym same) ∙ or_none x.found)
lists_found g image n (Word at text rest) x y is e = absurd cc
lists_found g image n (Branch at inside rest) x y is e =
    let z = bind_ok (component_item g.unit g.setting g.library n x at inside) (λ z. reading g n z rest) y e in
    let one = one_found g image n x z.0 at (head_of inside).args (same (head_of inside).text (codes "place")) is z.1 in
    let others = lists_found g image n rest z.0 y is z.2 in (
      (one.0, others.0),
      added_join g x.placement z.0.placement y.placement (sites_of image at inside) (collect (sites_of image) rest) one.1 others.1,
      others.2 ∙ ap (λ (b : Bool). b || some (collect (sites_of image) rest)) one.2 ∙ or_more x.found (sites_of image at inside) (collect (sites_of image) rest),
    )

pub lists_again : (g : Given) (image : List ℕ) (n : ℕ) (f : Forest) (x : Sited) (m : Placement) → Numbered g image n → Every (IsOfComponent g.unit) f → AreAdded g x.placement (collect (sites_of image) f) m
    → reading g n x f ≡ Ok (sited m (x.found || some (collect (sites_of image) f)))
unfolding each component_item
lists_again g image n End x m is h a = let same = added_is g x.placement m a in let found = or_none x.found in λ i. made (sited (same i) (found i))
lists_again g image n (Word at text rest) x m is h a = absurd h
lists_again g image n (Branch at inside rest) x m is h a =
    let c = added_cut g x.placement m (sites_of image at inside) (collect (sites_of image) rest) a in
    let first = one_again g image n x c.0 at (head_of inside).args (same (head_of inside).text (codes "place")) is c.1 in
    let others = lists_again g image n rest (sited c.0 (x.found || some (sites_of image at inside))) m is h.1 c.2 in
    rw first (others ∙ ap (λ (b : Bool). made (sited m b)) (or_more x.found (sites_of image at inside) (collect (sites_of image) rest)))

-- ---- the component

-- what follows the name of the image
abbrev pub lists_rest : Given → Placement → ℕ → Forest → ℕ → Read Placement
lists_rest g pl at rest n = reading g n (sited pl false) rest >>= λ x. some_place at x

placed_ok : (at : ℕ) (pl m : Placement) (b : Bool) → cond b (made pl) (failed (told kind.Form at)) ≡ Ok m → (b ≡ true) × (pl ≡ m)
placed_ok at pl m true e = (refl, ok_is pl m e)
placed_ok at pl m false e = absurd cc

pub placed_err : (at : ℕ) (pl : Placement) (b : Bool) (e : DesignFault) → cond b (made pl) (failed (told kind.Form at)) ≡ Err e → (b ≡ false) × (e ≡ told kind.Form at)
placed_err at pl true e h = absurd cc
placed_err at pl false e h = (refl, cc)

pub number_ok : (at : ℕ) (o : Option ℕ) (n : ℕ) → image_number at o ≡ Ok n → o ≡ Some n
number_ok at None n e = absurd cc
number_ok at (Some k) n e = ap (λ (x : ℕ). Some x) (ok_is k n e)

pub component_found : (g : Given) (pl m : Placement) (at : ℕ) (f : Forest) → component_of g.unit g.setting g.library pl at f ≡ Ok m → IsComponent g f × AreAdded g pl (sites_of_list words.Component f) m
unfolding component_of word_of
component_found g pl m at End e = absurd cc
component_found g pl m at (Branch a inside rest) e = absurd cc
component_found g pl m at (Word a image rest) e =
    let n = bind_ok (image_number a (place_of g.library.image_names image)) (λ n. lists_rest g pl at rest n) m e in
    let is = number_ok a (place_of g.library.image_names image) n.0 n.1 in
    let x = bind_ok (reading g n.0 (sited pl false) rest) (λ x. some_place at x) m n.2 in
    let l = lists_found g image n.0 rest (sited pl false) x.0 is x.1 in
    let p = placed_ok at x.0.placement m x.0.found x.2 in
    (((n.0, is), l.0, some_is (collect (sites_of image) rest) (sym l.2 ∙ p.0)), subst (λ (q : Placement). AreAdded g pl (collect (sites_of image) rest) q) p.1 l.1)

pub component_again : (g : Given) (pl m : Placement) (at : ℕ) (f : Forest) → IsComponent g f → AreAdded g pl (sites_of_list words.Component f) m → component_of g.unit g.setting g.library pl at f ≡ Ok m
unfolding component_of word_of
component_again g pl m at End h a = absurd h
component_again g pl m at (Branch b inside rest) h a = absurd h
component_again g pl m at (Word b image rest) h a =
    let n = h.0 in
    let lists = lists_again g image n.0 rest (sited pl false) m n.1 h.1 a in
    rw (n.1, lists, is_some (collect (sites_of image) rest) h.2) refl
