-- The number that is worked out for a net is that of the first class that names it.
use Rattle.std.proofs.Common.{◌≡◌, ℕ, suc, ◌+◌, ◌<◌, Bool, true, false, cond, eqb, List, [], ◌∷◌, ◌++◌, get_or, length, replicate, refl, sym, ap, ◌∙◌, arith, inl, inr, ◌⊎◌}
use Rattle.std.proofs.lemmas.Bool.{eqb-true, false_from_ne_true}
use Rattle.std.proofs.lemmas.List.{length-append, get_or-replicate, length-replicate}
use Rattle.dsn_lists.specs.Names.{is_among}
use Rattle.dsn_network.specs.declared.classes.Class.{Class}
use Rattle.dsn_network.specs.Networks.{named_in, classed}
use Rattle.dsn_network.specs.ClassOf.{names_net, NoneNames, IsClassOf}
use Rattle.dsn_network.proofs.ClassNumbers.{held, names_held}

-- ---- what all classes do

-- the number behind these classes, the first of which has the number k
abbrev pub behind : List ℕ → ℕ → ℕ → List Class → ℕ
behind net k v [] = v
behind net k v (c ∷ cs) = behind net (suc k) (cond (names_net net c) (held k v) v) cs

classes_held : (front back : List (List ℕ)) (net : List ℕ) → is_among net front ≡ false → (classes : List Class) (cs : List ℕ) (k : ℕ) → length front < length cs
    → get_or (classed (front ++ net ∷ back) k cs classes) (length front) 0 ≡ behind net k (get_or cs (length front) 0) classes
unfolding classed
classes_held front back net fresh [] cs k low = refl
classes_held front back net fresh (c ∷ classes) cs k low =
    let one = names_held front back net fresh c.nets cs k low in
    let long = one.1 in
    classes_held front back net fresh classes (named_in (front ++ net ∷ back) k cs c.nets) (suc k) (omega (arith, low, long)) ∙ ap (λ (v : ℕ). behind net (suc k) v classes) one.0

not_zero : (v : ℕ) → eqb (suc v) 0 ≡ false
not_zero v = false_from_ne_true (eqb (suc v) 0) (λ e. let z = eqb-true (suc v) 0 e in absurd (omega arith))

stays : (net : List ℕ) (k v : ℕ) (classes : List Class) → behind net k (suc v) classes ≡ suc v
stays net k v [] = refl
stays net k v (c ∷ cs) = same (names_net net c) ∙ stays net (suc k) v cs where
  same : (b : Bool) → behind net (suc k) (cond b (held k (suc v)) (suc v)) cs ≡ behind net (suc k) (suc v) cs
  same true = ap (λ (b : Bool). behind net (suc k) (cond b k (suc v)) cs) (not_zero v)
  same false = refl

-- counted from the number behind j, what is worked out for a net without a number is that of the first that names it
abbrev Numbered : List ℕ → ℕ → List Class → ℕ → Type 0
Numbered net j classes k =
    ((before : List Class) × (c : Class) × (after : List Class) × (classes ≡ before ++ c ∷ after) × (k ≡ suc (j + length before)) × (names_net net c ≡ true) × NoneNames net before)
    ⊎ (NoneNames net classes × (k ≡ 0))

one_behind : (net : List ℕ) (j : ℕ) (c : Class) (classes : List Class) (k : ℕ) → names_net net c ≡ false → Numbered net (suc j) classes k → Numbered net j (c ∷ classes) k
one_behind net j c classes k none (inl n) =
    let number = n.4 in
    inl (c ∷ n.0, n.1, n.2, ap (λ (xs : List Class). c ∷ xs) n.3, omega (arith, number), n.5, (none, n.6))
one_behind net j c classes k none (inr n) = inr ((none, n.0), n.1)

pub behind_is : (net : List ℕ) (j : ℕ) (classes : List Class) → Numbered net j classes (behind net (suc j) 0 classes)
behind_is net j [] = inr (tt, refl)
behind_is net j (c ∷ cs) = by (names_net net c) refl (behind_is net (suc j) cs) where
  by : (b : Bool) → names_net net c ≡ b → Numbered net (suc j) cs (behind net (suc (suc j)) 0 cs) → Numbered net j (c ∷ cs) (behind net (suc (suc j)) (cond b (suc j) 0) cs)
  by true named more = inl ([], c, cs, refl, stays net (suc (suc j)) j cs ∙ omega arith, named, tt)
  by false none more = one_behind net j c cs (behind net (suc (suc j)) 0 cs) none more

none_behind : (net : List ℕ) (j : ℕ) (classes : List Class) → NoneNames net classes → behind net (suc j) 0 classes ≡ 0
none_behind net j [] h = refl
none_behind net j (c ∷ cs) h = ap (λ (b : Bool). behind net (suc (suc j)) (cond b (suc j) 0) cs) h.0 ∙ none_behind net (suc j) cs h.1

first_behind : (net : List ℕ) (j : ℕ) (before after : List Class) (c : Class) → names_net net c ≡ true → NoneNames net before → behind net (suc j) 0 (before ++ c ∷ after) ≡ suc (j + length before)
first_behind net j [] after c named h = ap (λ (b : Bool). behind net (suc (suc j)) (cond b (suc j) 0) after) named ∙ stays net (suc (suc j)) j after ∙ omega arith
first_behind net j (b ∷ before) after c named h =
    let more = first_behind net (suc j) before after c named h.1 in
    ap (λ (x : Bool). behind net (suc (suc j)) (cond x (suc j) 0) (before ++ c ∷ after)) h.0 ∙ omega (arith, more)

-- ---- the class of a net

pub numbered_class : (net : List ℕ) (classes : List Class) (k : ℕ) → Numbered net 0 classes k → IsClassOf classes net k
numbered_class net classes k (inl n) = let number = n.4 in inl (record { before = n.0; class = n.1; after = n.2; parts = n.3; number = omega (arith, number); names = n.5; first = n.6 })
numbered_class net classes k (inr n) = inr n

pub behind_class : (net : List ℕ) (classes : List Class) (k : ℕ) → IsClassOf classes net k → behind net 1 0 classes ≡ k
behind_class net classes k (inl n) = ap (λ (xs : List Class). behind net 1 0 xs) n.parts ∙ first_behind net 0 n.before n.after n.class n.names n.first ∙ (let number = n.number in omega (arith, number))
behind_class net classes k (inr n) = none_behind net 0 classes n.0 ∙ sym n.1

-- the number that is worked out for a net behind these nets
abbrev pub number_at : List (List ℕ) → List Class → ℕ → ℕ
number_at nets classes i = get_or (classed nets 1 (replicate (length nets) 0) classes) i 0

pub number_behind : (front back : List (List ℕ)) (net : List ℕ) (classes : List Class) → is_among net front ≡ false → number_at (front ++ net ∷ back) classes (length front) ≡ behind net 1 0 classes
number_behind front back net classes fresh =
    let sum = length-append front (net ∷ back) in
    let low : length front < length (front ++ net ∷ back) = omega (arith, sum) in
    let long = length-replicate {A = ℕ} (length (front ++ net ∷ back)) 0 in
    classes_held front back net fresh classes (replicate (length (front ++ net ∷ back)) 0) 1 (omega (arith, low, long))
    ∙ ap (λ (v : ℕ). behind net 1 v classes) (get_or-replicate (length (front ++ net ∷ back)) (length front) 0 0 low)
