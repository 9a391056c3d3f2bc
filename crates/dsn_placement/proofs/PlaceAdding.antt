-- Components behind others: what some add to a placement, and others to that, is what all of them add.
use Rattle.std.proofs.Common.{◌≡◌, ℕ, suc, ◌+◌, List, [], ◌∷◌, ◌++◌, length, Some, refl, sym, ap, subst, ◌∙◌, append_assoc, arith}
use Rattle.std.proofs.lemmas.List.{append-nil, length-append, map-append, length-map}
use Rattle.dsn_turns.specs.Moves.{OneByOne}
use Rattle.dsn_lists.specs.Names.{place_of}
use Rattle.dsn_lists.proofs.Fresh.{AreFreshBehind, fresh_none, fresh_join, fresh_front, fresh_back}
use Rattle.dsn_shapes.specs.declared.quotas.Quota.{Quota}
use Rattle.dsn_library.specs.declared.library.Library.{Library}
use Rattle.dsn_placement.specs.declared.placement.PlacedPart.{PlacedPart}
use Rattle.dsn_placement.specs.declared.placement.Placement.{Placement}
use Rattle.dsn_placement.specs.Components.{no_placement}
use Rattle.dsn_placement.specs.PlaceParts.{AreTaken}
use Rattle.dsn_placement.specs.PlaceSites.{Site, name_in, names_at, Given, AreOfSites, HasSites}
use Rattle.dsn_placement.proofs.PlacePartLaws.{taken_none, taken_is, taken_join, taken_cut}

-- ---- components behind others

-- the list names this image
abbrev pub HasNumber : Library → Site → ℕ → Type 0
HasNumber l s n = place_of l.image_names s.image ≡ Some n

-- the placement m is pl with the components at these places behind the others
pub record AreAdded (g : Given) (pl : Placement) (sites : List Site) (m : Placement) : Type 0 where
  pub names : m.components ≡ pl.components ++ names_at sites
  pub fresh : AreFreshBehind pl.components (names_at sites)
  pub numbers : List ℕ
  pub images : m.images ≡ pl.images ++ numbers
  pub numbered : OneByOne (HasNumber g.library) sites numbers
  pub put : List PlacedPart
  pub parts : m.parts ≡ pl.parts ++ put
  pub of_sites : AreOfSites g (length pl.components) sites put
  pub taken : AreTaken pl.quota put m.quota

-- the whole of them, behind no component
pub whole_of : (g : Given) (quota : Quota) (sites : List Site) (p : Placement) → AreAdded g (no_placement quota) sites p → HasSites g quota sites p
whole_of g quota sites p h = record {
  names = h.names;
  fresh = subst (λ (ns : List (List ℕ)). AreFreshBehind [] ns) (sym h.names) h.fresh;
  images = subst (λ (ns : List ℕ). OneByOne (HasNumber g.library) sites ns) (sym h.images) h.numbered;
  parts = subst (λ (ps : List PlacedPart). AreOfSites g 0 sites ps) (sym h.parts) h.of_sites;
  taken = subst (λ (ps : List PlacedPart). AreTaken quota ps p.quota) (sym h.parts) h.taken;
}

pub of_whole : (g : Given) (quota : Quota) (sites : List Site) (p : Placement) → HasSites g quota sites p → AreAdded g (no_placement quota) sites p
of_whole g quota sites p h = record {
  names = h.names;
  fresh = subst (λ (ns : List (List ℕ)). AreFreshBehind [] ns) h.names h.fresh;
  numbers = p.images;
  images = refl;
  numbered = h.images;
  put = p.parts;
  parts = refl;
  of_sites = h.parts;
  taken = h.taken;
}

-- ---- one after another

abbrev no_site : List Site
no_site = []

one_by_join : {A B : Type 0} (R : A → B → Type 0) (xs xs' : List A) (ys ys' : List B) → OneByOne R xs ys → OneByOne R xs' ys' → OneByOne R (xs ++ xs') (ys ++ ys')
one_by_join R [] xs' [] ys' a b = b
one_by_join R [] xs' (y ∷ ys) ys' a b = absurd a
one_by_join R (x ∷ xs) xs' [] ys' a b = absurd a
one_by_join R (x ∷ xs) xs' (y ∷ ys) ys' a b = (a.0, one_by_join R xs xs' ys ys' a.1 b)

-- a list of which a front and a back are related
record AreCut {A B : Type 0} (R : A → B → Type 0) (xs xs' : List A) (zs : List B) : Type 0 where
  front : List B
  back : List B
  parts : zs ≡ front ++ back
  first : OneByOne R xs front
  second : OneByOne R xs' back

one_by_cut : {A B : Type 0} (R : A → B → Type 0) (xs xs' : List A) (zs : List B) → OneByOne R (xs ++ xs') zs → AreCut R xs xs' zs
one_by_cut R [] xs' zs h = record { front = []; back = zs; parts = refl; first = tt; second = h }
one_by_cut R (x ∷ xs) xs' [] h = absurd h
one_by_cut R (x ∷ xs) xs' (z ∷ zs) h =
    let r = one_by_cut R xs xs' zs h.1 in
    record { front = z ∷ r.front; back = r.back; parts = ap (λ ys. z ∷ ys) r.parts; first = (h.0, r.first); second = r.second }

sites_join : (g : Given) (n : ℕ) (xs ys : List Site) (ps qs : List PlacedPart) → AreOfSites g n xs ps → AreOfSites g (n + length xs) ys qs → AreOfSites g n (xs ++ ys) (ps ++ qs)
sites_join g n [] ys ps qs a b =
    let same : n + length no_site ≡ n = omega arith in
    let rest = subst (λ (k : ℕ). AreOfSites g k ys qs) same b in
    subst (λ (xs : List PlacedPart). AreOfSites g n ys (xs ++ qs)) (sym a) rest
sites_join g n (x ∷ xs) ys ps qs a b =
    let count : n + length (x ∷ xs) ≡ suc n + length xs = omega arith in
    let rest = sites_join g (suc n) xs ys a.1 qs a.3 (subst (λ (k : ℕ). AreOfSites g k ys qs) count b) in
    (a.0, a.1 ++ qs, a.2, rest, ap (λ (xs : List PlacedPart). xs ++ qs) a.4 ∙ append_assoc a.0 a.1 qs)

record SitesCut (g : Given) (n : ℕ) (xs ys : List Site) (zs : List PlacedPart) : Type 0 where
  front : List PlacedPart
  back : List PlacedPart
  parts : zs ≡ front ++ back
  first : AreOfSites g n xs front
  second : AreOfSites g (n + length xs) ys back

sites_cut : (g : Given) (n : ℕ) (xs ys : List Site) (zs : List PlacedPart) → AreOfSites g n (xs ++ ys) zs → SitesCut g n xs ys zs
sites_cut g n [] ys zs h =
    let same : n ≡ n + length no_site = omega arith in
    record { front = []; back = zs; parts = refl; first = refl; second = subst (λ (k : ℕ). AreOfSites g k ys zs) same h }
sites_cut g n (x ∷ xs) ys zs h =
    let count : suc n + length xs ≡ n + length (x ∷ xs) = omega arith in
    let r = sites_cut g (suc n) xs ys h.1 h.3 in
    record {
      front = h.0 ++ r.front;
      back = r.back;
      parts = h.4 ∙ ap (λ (qs : List PlacedPart). h.0 ++ qs) r.parts ∙ sym (append_assoc h.0 r.front r.back);
      first = (h.0, r.front, h.2, r.first, refl);
      second = subst (λ (k : ℕ). AreOfSites g k ys r.back) count r.second;
    }

count_names : (pl m : Placement) (sites : List Site) → m.components ≡ pl.components ++ names_at sites → length m.components ≡ length pl.components + length sites
count_names pl m sites is =
    let all = ap length is in
    let sum = length-append pl.components (names_at sites) in
    let many = length-map sites (λ (s : Site). name_in s.args) in
    omega (arith, all, sum, many)

pub added_none : (g : Given) (pl : Placement) → AreAdded g pl [] pl
added_none g pl = record {
  names = sym (append-nil pl.components);
  fresh = fresh_none pl.components;
  numbers = [];
  images = sym (append-nil pl.images);
  numbered = tt;
  put = [];
  parts = sym (append-nil pl.parts);
  of_sites = refl;
  taken = taken_none pl.quota;
}

-- with none added it is the same
pub added_is : (g : Given) (pl m : Placement) → AreAdded g pl [] m → pl ≡ m
added_is g pl m h = by h.numbers h.images h.numbered h.put h.parts h.of_sites h.taken
  where
    by : (numbers : List ℕ) → m.images ≡ pl.images ++ numbers → OneByOne (HasNumber g.library) [] numbers
        → (put : List PlacedPart) → m.parts ≡ pl.parts ++ put → put ≡ [] → AreTaken pl.quota put m.quota → pl ≡ m
    by (n ∷ numbers) images numbered put parts none taken = absurd numbered
    by [] images numbered put parts none taken =
        let names = sym (h.names ∙ append-nil pl.components) in
        let images = sym (images ∙ append-nil pl.images) in
        let parts = sym (parts ∙ ap (λ (ps : List PlacedPart). pl.parts ++ ps) none ∙ append-nil pl.parts) in
        let quota = sym (taken_is pl.quota m.quota (subst (λ (ps : List PlacedPart). AreTaken pl.quota ps m.quota) none taken)) in
        λ i. record { components = names i; images = images i; parts = parts i; quota = quota i }

pub added_join : (g : Given) (pl k m : Placement) (xs ys : List Site) → AreAdded g pl xs k → AreAdded g k ys m → AreAdded g pl (xs ++ ys) m
added_join g pl k m xs ys a b =
    let names = map-append (λ (s : Site). name_in s.args) xs ys in
    record {
      names = b.names ∙ ap (λ (ns : List (List ℕ)). ns ++ names_at ys) a.names ∙ append_assoc pl.components (names_at xs) (names_at ys) ∙ ap (λ (ns : List (List ℕ)). pl.components ++ ns) (sym names);
      fresh = subst (λ (ns : List (List ℕ)). AreFreshBehind pl.components ns) (sym names)
          (fresh_join (names_at xs) (names_at ys) pl.components a.fresh (subst (λ (ns : List (List ℕ)). AreFreshBehind ns (names_at ys)) a.names b.fresh));
      numbers = a.numbers ++ b.numbers;
      images = b.images ∙ ap (λ (ns : List ℕ). ns ++ b.numbers) a.images ∙ append_assoc pl.images a.numbers b.numbers;
      numbered = one_by_join (HasNumber g.library) xs ys a.numbers b.numbers a.numbered b.numbered;
      put = a.put ++ b.put;
      parts = b.parts ∙ ap (λ (ps : List PlacedPart). ps ++ b.put) a.parts ∙ append_assoc pl.parts a.put b.put;
      of_sites = sites_join g (length pl.components) xs ys a.put b.put a.of_sites (subst (λ (n : ℕ). AreOfSites g n ys b.put) (count_names pl k xs a.names) b.of_sites);
      taken = taken_join pl.quota k.quota m.quota a.put b.put a.taken b.taken;
    }

pub added_cut : (g : Given) (pl m : Placement) (xs ys : List Site) → AreAdded g pl (xs ++ ys) m → (k : Placement) × AreAdded g pl xs k × AreAdded g k ys m
added_cut g pl m xs ys h =
    let names = map-append (λ (s : Site). name_in s.args) xs ys in
    let fresh = subst (λ (ns : List (List ℕ)). AreFreshBehind pl.components ns) names h.fresh in
    let numbers = one_by_cut (HasNumber g.library) xs ys h.numbers h.numbered in
    let sites = sites_cut g (length pl.components) xs ys h.put h.of_sites in
    let quota = taken_cut pl.quota m.quota sites.front sites.back (subst (λ (ps : List PlacedPart). AreTaken pl.quota ps m.quota) sites.parts h.taken) in
    let k : Placement = record { components = pl.components ++ names_at xs; images = pl.images ++ numbers.front; parts = pl.parts ++ sites.front; quota = quota.0 } in
    let count : length k.components ≡ length pl.components + length xs = count_names pl k xs refl in (
      k,
      record {
        names = refl;
        fresh = fresh_front (names_at xs) (names_at ys) pl.components fresh;
        numbers = numbers.front;
        images = refl;
        numbered = numbers.first;
        put = sites.front;
        parts = refl;
        of_sites = sites.first;
        taken = quota.1;
      },
      record {
        names = h.names ∙ ap (λ (ns : List (List ℕ)). pl.components ++ ns) names ∙ sym (append_assoc pl.components (names_at xs) (names_at ys));
        fresh = fresh_back (names_at xs) (names_at ys) pl.components fresh;
        numbers = numbers.back;
        images = h.images ∙ ap (λ (ns : List ℕ). pl.images ++ ns) numbers.parts ∙ sym (append_assoc pl.images numbers.front numbers.back);
        numbered = numbers.second;
        put = sites.back;
        parts = h.parts ∙ ap (λ (ps : List PlacedPart). pl.parts ++ ps) sites.parts ∙ sym (append_assoc pl.parts sites.front sites.back);
        of_sites = subst (λ (n : ℕ). AreOfSites g n ys sites.back) (sym count) sites.second;
        taken = quota.2;
      },
    )
