-- What one class does to the number that is worked out for a net.
use Rattle.std.proofs.Common.{◌≡◌, ◌≢◌, ℕ, ◌<◌, Bool, true, false, cond, eqb, ltb, List, [], ◌∷◌, ◌++◌, map, set, get_or, length, Option, Some, None, refl, sym, ap, ◌∙◌, arith}
use Rattle.std.specs.Prelude.{◌||◌}
use Rattle.std.specs.Str.{bytes_eq}
use Rattle.std.specs.List.{list_any, position_or_len}
use Rattle.std.proofs.lemmas.Bool.{lt-ltb, false≢true}
use Rattle.std.proofs.lemmas.List.{length-append, length-set, get_or-set_same, get_or-set_other}
use Rattle.std.proofs.Math.Seq.{get_or-append_seam}
use Rattle.std.proofs.lemmas.List.Quantifiers.{position-Some}
use Rattle.std.proofs.lemmas.Slice.Eq.{bytes_eq-Decides}
use Rattle.dsn_lists.specs.declared.marks.Mark.{Mark}
use Rattle.dsn_lists.specs.Names.{is_among, place_of}
use Rattle.dsn_network.specs.Networks.{in_class, named_in}

-- ---- the place of a net

or_false : (a b : Bool) → (a || b) ≡ false → (a ≡ false) × (b ≡ false)
or_false true b e = absurd cc
or_false false b e = (refl, e)

first_at : (p : List ℕ → Bool) (front back : List (List ℕ)) (x : List ℕ) → list_any p front ≡ false → p x ≡ true → position_or_len p (front ++ x ∷ back) ≡ length front
first_at p [] back x none here = rw here refl
first_at p (y ∷ ys) back x none here = let h = or_false (p y) (list_any p ys) none in rw h.0 (omega (arith, first_at p ys back x h.1 here))

own_place : (front back : List (List ℕ)) (net name : List ℕ) → is_among net front ≡ false → bytes_eq net name ≡ true → place_of (front ++ net ∷ back) name ≡ Some (length front)
own_place front back net name fresh same =
    let e = (bytes_eq-Decides net name).0 same in
    let here = (bytes_eq-Decides net net).1 refl in
    let at : position_or_len (bytes_eq net) (front ++ net ∷ back) ≡ length front = first_at (bytes_eq net) front back net fresh here in
    let low : length front < length (front ++ net ∷ back) = omega (arith, length-append front (net ∷ back)) in
    let b : ltb (length front) (length (front ++ net ∷ back)) ≡ true = lt-ltb _ _ low in
    ap (λ (x : List ℕ). place_of (front ++ net ∷ back) x) (sym e) ∙ rw (at, b) refl

other_place : (front back : List (List ℕ)) (net name : List ℕ) (j : ℕ) → bytes_eq net name ≡ false → place_of (front ++ net ∷ back) name ≡ Some j → length front ≢ j
other_place front back net name j other e same =
    let p = (position-Some (bytes_eq name) (front ++ net ∷ back) j [] e).1 in
    let here = ap (λ (i : ℕ). get_or (front ++ net ∷ back) i []) (sym same) ∙ get_or-append_seam front net back [] in
    let is = (bytes_eq-Decides name net).0 (ap (λ (x : List ℕ). bytes_eq name x) (sym here) ∙ p) in
    false≢true (sym other ∙ (bytes_eq-Decides net name).1 (sym is))

-- ---- what one class does to the number of a net

-- the number that is there, and where none is this one
abbrev pub held : ℕ → ℕ → ℕ
held k v = cond (eqb v 0) k v

both : (b : Bool) (k : ℕ) → cond b k k ≡ k
both true k = refl
both false k = refl

held_twice : (k v : ℕ) → held k (held k v) ≡ held k v
held_twice k v = by (eqb v 0) refl where
  by : (b : Bool) → eqb v 0 ≡ b → held k (cond b k v) ≡ cond b k v
  by true e = both (eqb k 0) k
  by false e = rw e refl

set_held : (cs : List ℕ) (k i : ℕ) → i < length cs → get_or (in_class cs k (Some i)) i 0 ≡ held k (get_or cs i 0)
set_held cs k i low = by (eqb (get_or cs i 0) 0) where
  by : (b : Bool) → get_or (cond b (set cs i k) cs) i 0 ≡ cond b k (get_or cs i 0)
  by true = get_or-set_same cs i k 0 low
  by false = refl

set_other : (cs : List ℕ) (k i j : ℕ) → i ≢ j → get_or (in_class cs k (Some j)) i 0 ≡ get_or cs i 0
set_other cs k i j other = by (eqb (get_or cs j 0) 0) where
  by : (b : Bool) → get_or (cond b (set cs j k) cs) i 0 ≡ get_or cs i 0
  by true = get_or-set_other cs j i k 0 other
  by false = refl

set_none : (cs : List ℕ) (k i : ℕ) (o : Option ℕ) → ((j : ℕ) → o ≡ Some j → i ≢ j) → get_or (in_class cs k o) i 0 ≡ get_or cs i 0
set_none cs k i None other = refl
set_none cs k i (Some j) other = set_other cs k i j (other j refl)

pub same_length : (cs : List ℕ) (k : ℕ) (o : Option ℕ) → length (in_class cs k o) ≡ length cs
same_length cs k None = refl
same_length cs k (Some j) = by (eqb (get_or cs j 0) 0) where
  by : (b : Bool) → length (cond b (set cs j k) cs) ≡ length cs
  by true = length-set cs j k
  by false = refl

name_held : (front back : List (List ℕ)) (net : List ℕ) → is_among net front ≡ false → (cs : List ℕ) (k : ℕ) (name : List ℕ) (b : Bool) → bytes_eq net name ≡ b → length front < length cs
    → get_or (in_class cs k (place_of (front ++ net ∷ back) name)) (length front) 0 ≡ cond b (held k (get_or cs (length front) 0)) (get_or cs (length front) 0)
name_held front back net fresh cs k name true same low =
    ap (λ (o : Option ℕ). get_or (in_class cs k o) (length front) 0) (own_place front back net name fresh same) ∙ set_held cs k (length front) low
name_held front back net fresh cs k name false other low = set_none cs k (length front) (place_of (front ++ net ∷ back) name) (λ j e. other_place front back net name j other e)

either : (a b : Bool) (k v : ℕ) → cond b (held k (cond a (held k v) v)) (cond a (held k v) v) ≡ cond (a || b) (held k v) v
either true true k v = held_twice k v
either true false k v = refl
either false true k v = refl
either false false k v = refl

pub names_held : (front back : List (List ℕ)) (net : List ℕ) → is_among net front ≡ false → (ms : List Mark) (cs : List ℕ) (k : ℕ) → length front < length cs
    → (get_or (named_in (front ++ net ∷ back) k cs ms) (length front) 0 ≡ cond (is_among net (map (λ (m : Mark). m.name) ms)) (held k (get_or cs (length front) 0)) (get_or cs (length front) 0))
    × (length (named_in (front ++ net ∷ back) k cs ms) ≡ length cs)
unfolding named_in
names_held front back net fresh [] cs k low = (refl, refl)
names_held front back net fresh (m ∷ ms) cs k low =
    let next = in_class cs k (place_of (front ++ net ∷ back) m.name) in
    let long = same_length cs k (place_of (front ++ net ∷ back) m.name) in
    let one = name_held front back net fresh cs k m.name (bytes_eq net m.name) refl low in
    let more = names_held front back net fresh ms (in_class cs k (place_of (front ++ net ∷ back) m.name)) k (omega (arith, low, long)) in
    let among = is_among net (map (λ (m : Mark). m.name) ms) in (
      more.0 ∙ ap (λ (v : ℕ). cond (is_among net (map (λ (m : Mark). m.name) ms)) (held k v) v) one ∙ either (bytes_eq net m.name) (is_among net (map (λ (m : Mark). m.name) ms)) k (get_or cs (length front) 0),
      more.1 ∙ long,
    )
