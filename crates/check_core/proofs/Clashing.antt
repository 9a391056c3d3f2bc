-- The clashes of adds, one add after another, are those of all, and rise.
use Rattle.std.proofs.Common.{◌≡◌, ℕ, zero, suc, ◌+◌, ◌<◌, ◌≤◌, List, [], ◌∷◌, ◌++◌, length, get_or, refl, sym, ap, subst, ◌∙◌, arith, inl, inr}
use Rattle.std.proofs.lemmas.List.{append_assoc}
use Rattle.std.specs.Prelude.{◌↔◌, Option, Result, Ok, Err, IfOk}
use Rattle.std.specs.List.{AllByRecursion, Contains}
use Rattle.std.specs.List.Sorted.{IsStrictlyIncreasing}
use Rattle.std.proofs.lemmas.List.Elements.{recursion_from_All}
use Rattle.std.proofs.lemmas.List.Kept.{AllPairs-from_increasing}
use Rattle.board_items.specs.declared.items.Item.{Item}
use Rattle.board_items.specs.declared.requests.Add.{Add}
use Rattle.board_items.specs.Adds.{item_of_add}
use Rattle.board_rules.specs.declared.design.Parts.{Parts}
use Rattle.number_slots.specs.Slots.{IsAt, numbered}
use Rattle.number_slots.proofs.ByNumber.{at_front, at_back, at_either}
use Rattle.board_core.specs.Boards.{Board}
use Rattle.board_core.specs.Clean.{GoesBefore}
use Rattle.board_core.specs.Edits.{IsNear}
use Rattle.board_core.specs.Verdicts.{ArePairsRising, IsRightAdd, IsClash}
use Rattle.check_core.specs.Tries.{AreNearAdd, AreClashes, paired}

-- ---- the pairs of one number

paired_at : (a : ℕ) (ids : List ℕ) (n id : ℕ) → IsAt (paired a ids) n id → (a ≡ n) × Contains ids id
paired_at a [] n id h = absurd h
paired_at a (m ∷ rest) n id (inl h) = (h.0, (0, omega arith, h.1))
paired_at a (m ∷ rest) n id (inr h) = let k = paired_at a rest n id h in (k.0, (suc k.1.0, omega (arith, k.1.1), k.1.2))

at_paired : (a : ℕ) (ids : List ℕ) (id : ℕ) → Contains ids id → IsAt (paired a ids) a id
at_paired a [] id (k, lt, at) = absurd (omega (arith, lt))
at_paired a (m ∷ rest) id (zero, lt, at) = inl (refl, at)
at_paired a (m ∷ rest) id (suc k, lt, at) = inr (at_paired a rest id (k, omega (arith, lt), at))

all_join : (P : ℕ × ℕ → Type 0) (xs ys : List (ℕ × ℕ)) → AllByRecursion P xs → AllByRecursion P ys → AllByRecursion P (xs ++ ys)
all_join P [] ys h k = k
all_join P (x ∷ xs) ys h k = (h.0, all_join P xs ys h.1 k)

all_mapped : (P : ℕ × ℕ → Type 0) (a : ℕ) (ids : List ℕ) → AllByRecursion (λ (id : ℕ). P (a, id)) ids → AllByRecursion P (paired a ids)
all_mapped P a [] h = tt
all_mapped P a (m ∷ rest) h = (h.0, all_mapped P a rest h.1)

all_other : (P Q : ℕ × ℕ → Type 0) (xs : List (ℕ × ℕ)) → ((x : ℕ × ℕ) → P x → Q x) → AllByRecursion P xs → AllByRecursion Q xs
all_other P Q [] w h = tt
all_other P Q (x ∷ xs) w h = (w x h.0, all_other P Q xs w h.1)

each_id : (P Q : ℕ → Type 0) (xs : List ℕ) → ((x : ℕ) → P x → Q x) → AllByRecursion P xs → AllByRecursion Q xs
each_id P Q [] w h = tt
each_id P Q (x ∷ xs) w h = (w x h.0, each_id P Q xs w h.1)

-- each number goes before those behind it
abbrev Rising : List ℕ → Type 0
Rising [] = Unit {0}
Rising (x ∷ rest) = AllByRecursion (λ (y : ℕ). x < y) rest × Rising rest

rising_of : (ids : List ℕ) → ((i j d : ℕ) → i < j → j < length ids → get_or ids i d < get_or ids j d) → Rising ids
rising_of [] h = tt
rising_of (x ∷ rest) h = (
  recursion_from_All (λ (y : ℕ). x < y) rest (λ k d lt. h 0 (suc k) d (omega arith) (omega (arith, lt))),
  rising_of rest (λ i j d lt within. h (suc i) (suc j) d (omega (arith, lt)) (omega (arith, within))),
)

-- behind the pairs of a number come those of greater ones
pairs_join : (a : ℕ) (ids : List ℕ) (more : List (ℕ × ℕ)) → Rising ids → AllByRecursion (λ (y : ℕ × ℕ). a < y.0) more → ArePairsRising more → ArePairsRising (paired a ids ++ more)
pairs_join a [] more r past h = h
pairs_join a (x ∷ rest) more r past h = (
  all_join (λ y. GoesBefore a x y.0 y.1) (paired a rest) more
      (all_mapped (λ y. GoesBefore a x y.0 y.1) a rest (each_id (λ (y : ℕ). x < y) (λ (y : ℕ). GoesBefore a x a y) rest (λ y lt. inr (refl, lt)) r.0))
      (all_other (λ (y : ℕ × ℕ). a < y.0) (λ y. GoesBefore a x y.0 y.1) more (λ y lt. inl lt) past),
  pairs_join a rest more r.1 past h,
)

-- ---- the clashes of adds

module _ (p : Parts) (b : Board) (deletes : List ℕ) where
  same_number : (a : ℕ) (ids : List ℕ) → AllByRecursion (λ (y : ℕ × ℕ). a ≤ y.0) (paired a ids)
  same_number a [] = tt
  same_number a (m ∷ rest) = (omega arith, same_number a rest)

  -- none has a number below that of the first add
  none_below : (a : ℕ) (adds : List Add) (clashes : List (ℕ × ℕ)) → AreClashes p b deletes a adds clashes → AllByRecursion (λ (y : ℕ × ℕ). a ≤ y.0) clashes
  none_below a [] clashes e = subst (λ (l : List (ℕ × ℕ)). AllByRecursion (λ (y : ℕ × ℕ). a ≤ y.0) l) (sym e) tt
  none_below a (add ∷ rest) clashes (ids, more, e, near, h) =
      subst (λ (l : List (ℕ × ℕ)). AllByRecursion (λ (y : ℕ × ℕ). a ≤ y.0) l) (sym e)
      (all_join (λ (y : ℕ × ℕ). a ≤ y.0) (paired a ids) more (same_number a ids)
      (all_other (λ (y : ℕ × ℕ). a + 1 ≤ y.0) (λ (y : ℕ × ℕ). a ≤ y.0) more (λ y le. omega (arith, le)) (none_below (a + 1) rest more h)))

  pub clashes_rise : (a : ℕ) (adds : List Add) (clashes : List (ℕ × ℕ)) → AreClashes p b deletes a adds clashes → ArePairsRising clashes
  clashes_rise a [] clashes e = subst ArePairsRising (sym e) tt
  clashes_rise a (add ∷ rest) clashes (ids, more, e, near, h) =
      subst ArePairsRising (sym e)
      (pairs_join a ids more (rising_of ids (AllPairs-from_increasing ids near.rising))
      (all_other (λ (y : ℕ × ℕ). a + 1 ≤ y.0) (λ (y : ℕ × ℕ). a < y.0) more (λ y le. omega (arith, le)) (none_below (a + 1) rest more h))
      (clashes_rise (a + 1) rest more h))

  -- an add of a number from a on, and a live item, that clash
  record IsClashFrom (a : ℕ) (adds : List Add) (n id : ℕ) : Type 0 where
    pub add : Add
    pub add_is : IsAt (numbered a adds) n add
    pub right : IsRightAdd p add
    pub near : IsNear p b.rules b.live deletes (item_of_add add) id

  clash_told : (a : ℕ) (adds : List Add) (clashes : List (ℕ × ℕ)) → AreClashes p b deletes a adds clashes → (n id : ℕ) → IsAt clashes n id → IsClashFrom a adds n id
  clash_told a [] clashes e n id at = absurd (subst (λ (l : List (ℕ × ℕ)). IsAt l n id) e at)
  clash_told a (add ∷ rest) clashes (ids, more, e, near, h) n id at =
      elim (at_either (paired a ids) more n id (subst (λ (l : List (ℕ × ℕ)). IsAt l n id) e at)) [
        | inl here ↦ (let k = paired_at a ids n id here in let c = (near.exact id).0 k.1 in record { add = add; add_is = inl (k.0, refl); right = c.0; near = c.1 })
        | inr later ↦ (let k = clash_told (a + 1) rest more h n id later in record { add = k.add; add_is = inr k.add_is; right = k.right; near = k.near })
      ]

  clash_found : (a : ℕ) (adds : List Add) (clashes : List (ℕ × ℕ)) → AreClashes p b deletes a adds clashes → (n id : ℕ) (add : Add) → IsAt (numbered a adds) n add → IsRightAdd p add → IsNear p b.rules b.live deletes (item_of_add add) id → IsAt clashes n id
  clash_found a [] clashes e n id add at right close = absurd at
  clash_found a (first ∷ rest) clashes (ids, more, e, near, h) n id add (inl at) right close =
      let listed : Contains ids id = (near.exact id).1 (subst (IsRightAdd p) (sym at.1) right, subst (λ (x : Add). IsNear p b.rules b.live deletes (item_of_add x) id) (sym at.1) close) in
      subst (λ (l : List (ℕ × ℕ)). IsAt l n id) (sym e) (at_front (paired a ids) more n id (subst (λ (m : ℕ). IsAt (paired a ids) m id) at.0 (at_paired a ids id listed)))
  clash_found a (first ∷ rest) clashes (ids, more, e, near, h) n id add (inr at) right close =
      subst (λ (l : List (ℕ × ℕ)). IsAt l n id) (sym e) (at_back (paired a ids) more n id (clash_found (a + 1) rest more h n id add at right close))

  pub clashes_exact : (adds : List Add) (clashes : List (ℕ × ℕ)) → AreClashes p b deletes 1 adds clashes → (n id : ℕ) → IsAt clashes n id ↔ IsClash p b deletes adds n id
  clashes_exact adds clashes h n id = (
    λ at. let k = clash_told 1 adds clashes h n id at in record { add = k.add; add_is = k.add_is; right = k.right; near = k.near },
    λ c. clash_found 1 adds clashes h n id c.add c.add_is c.right c.near,
  )

-- ---- one add

near_found : (p : Parts) (b : Board) (deletes : List ℕ) (add : Add) (rules : List (Option ℕ)) (item : Item) (ids : List ℕ) → IsRightAdd p add → rules ≡ b.rules → item ≡ item_of_add add → IsStrictlyIncreasing ids
    → ((id : ℕ) → Contains ids id ↔ IsNear p rules b.live deletes item id) → AreNearAdd p b deletes add ids
near_found p b deletes add rules item ids right same made rising exact =
    let told : (id : ℕ) → Contains ids id ↔ IsNear p b.rules b.live deletes (item_of_add add) id =
    subst (λ (x : Item). (id : ℕ) → Contains ids id ↔ IsNear p b.rules b.live deletes x id) made
    (subst (λ (rs : List (Option ℕ)). (id : ℕ) → Contains ids id ↔ IsNear p rs b.live deletes item id) same exact) in
    record { rising = rising; exact = λ id. (λ c. (right, (told id).0 c), λ n. (told id).1 n.1) }

-- what is found of an add that is right
pub near_add : {E : Type 0} (p : Parts) (b : Board) (deletes : List ℕ) (add : Add) (rules : List (Option ℕ)) (item : Item) (r : Result (List ℕ) E) → IsRightAdd p add → rules ≡ b.rules → item ≡ item_of_add add → IfOk r IsStrictlyIncreasing
    → IfOk r (λ ids. (id : ℕ) → Contains ids id ↔ IsNear p rules b.live deletes item id) → IfOk r (AreNearAdd p b deletes add)
near_add p b deletes add rules item (Ok ids) right same made rising exact = near_found p b deletes add rules item ids right same made rising exact
near_add p b deletes add rules item (Err e) right same made rising exact = tt

-- nothing is found of any other
pub near_none : (p : Parts) (b : Board) (deletes : List ℕ) (add : Add) (ids : List ℕ) → ids ≡ [] → (IsRightAdd p add → ⊥) → AreNearAdd p b deletes add ids
near_none p b deletes add ids none wrong = subst (AreNearAdd p b deletes add) (sym none) (record {
  rising = λ k within. absurd (omega (arith, within));
  exact = λ id. (λ c. absurd (omega (arith, c.1)), λ n. absurd (wrong n.0));
})

-- ---- pairs that are put one after another

pub put_next : (pairs : List (ℕ × ℕ)) (a id : ℕ) (rest : List ℕ) (now : List (ℕ × ℕ)) → now ≡ pairs ++ (a, id) ∷ [] → now ++ paired a rest ≡ pairs ++ paired a (id ∷ rest)
put_next pairs a id rest now e = ap (λ (l : List (ℕ × ℕ)). l ++ paired a rest) e ∙ append_assoc pairs ((a, id) ∷ []) (paired a rest)

-- ---- all clashes, where there is memory for them

pub rise_if : {E : Type 0} (p : Parts) (b : Board) (deletes : List ℕ) (adds : List Add) (r : Result (List (ℕ × ℕ)) E) → IfOk r (AreClashes p b deletes 1 adds) → IfOk r ArePairsRising
rise_if p b deletes adds (Ok clashes) h = clashes_rise p b deletes 1 adds clashes h
rise_if p b deletes adds (Err e) h = tt

pub exact_if : {E : Type 0} (p : Parts) (b : Board) (deletes : List ℕ) (adds : List Add) (r : Result (List (ℕ × ℕ)) E) → IfOk r (AreClashes p b deletes 1 adds)
    → IfOk r (λ clashes. (a id : ℕ) → IsAt clashes a id ↔ IsClash p b deletes adds a id)
exact_if p b deletes adds (Ok clashes) h = clashes_exact p b deletes adds clashes h
exact_if p b deletes adds (Err e) h = tt
