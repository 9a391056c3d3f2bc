-- Names of two classes, and what is stated for them.
use Rattle.std.proofs.Common.{◌≡◌, ◌≤◌, ℕ, List, [], ◌∷◌, max, Bool, true, false, cond, ◌&&◌, ◌||◌, arith, refl, sym, ap, ◌∙◌, inl, inr}
use Rattle.std.specs.Prelude.{◌⊎◌, Option, Some, None, filter, flat_map}
use Rattle.std.proofs.Math.Bool.{or_comm}
use Rattle.std.proofs.lemmas.Slice.Eq.{bytes_eq-Decides}
use Rattle.std.proofs.lemmas.List.Elements.{filter_agree}
use Rattle.board_rules.specs.declared.design.PairRow.{PairRow}
use Rattle.board_rules.specs.declared.design.Parts.{Parts}
use Rattle.board_rules.specs.Classes.{largest_in}
use Rattle.board_rules.specs.Pairs.{name_of, is_same_name, is_named, named_rows, pair_rows, largest_paired}

-- both hold
pub both_true : (a b : Bool) → a && b ≡ true → (a ≡ true) × (b ≡ true)
both_true true b e = (refl, e)
both_true false b e = absurd cc

-- what follows from each of two that are true follows from one of them
pub one_true : (a b : Bool) (C : Type 0) → (a ≡ true → C) → (b ≡ true → C) → a || b ≡ true → C
one_true true b C f g e = f refl
one_true false b C f g e = g e

name_is : (n m : Option (List ℕ)) → is_same_name n m ≡ true → n ≡ m
name_is None None e = refl
name_is None (Some m) e = absurd cc
name_is (Some n) None e = absurd cc
name_is (Some n) (Some m) e = ap Some ((bytes_eq-Decides n m).0 e)

-- the order of the names doesn't count
pub named_turned : (p : Parts) (n m : Option (List ℕ)) → named_rows p n m ≡ named_rows p m n
named_turned p n m =
    ap (λ (rows : List PairRow). flat_map (λ (r : PairRow). r.clearances) rows)
    (filter_agree (is_named p n m) (is_named p m n)
    (λ r. or_comm (is_same_name (name_of p r.a) n && is_same_name (name_of p r.b) m) (is_same_name (name_of p r.a) m && is_same_name (name_of p r.b) n)) p.pairs)

straight : (p : Parts) (n m o q : Option (List ℕ)) → is_same_name n o && is_same_name m q ≡ true → named_rows p o q ≡ named_rows p n m
straight p n m o q e =
    let both = both_true (is_same_name n o) (is_same_name m q) e in
    let first = name_is n o both.0 in
    let second = name_is m q both.1 in
    λ i. named_rows p (sym first i) (sym second i)

-- what is stated for two names is what is stated for the names of a row of them
named_same : (p : Parts) (n m : Option (List ℕ)) (r : PairRow) → is_named p n m r ≡ true → named_rows p n m ≡ pair_rows p r.a r.b
named_same p n m r e =
    one_true (is_same_name (name_of p r.a) n && is_same_name (name_of p r.b) m) (is_same_name (name_of p r.a) m && is_same_name (name_of p r.b) n) (named_rows p n m ≡ pair_rows p r.a r.b)
    (λ t. straight p (name_of p r.a) (name_of p r.b) n m t) (λ t. named_turned p n m ∙ straight p (name_of p r.a) (name_of p r.b) m n t) e

none_or_most : (p : Parts) (n m : Option (List ℕ)) (rows : List PairRow) → (filter (is_named p n m) rows ≡ []) ⊎ (largest_in (named_rows p n m) ≤ largest_paired p rows)
none_or_most p n m [] = inl refl
none_or_most p n m (r ∷ rest) = by (is_named p n m r) refl (none_or_most p n m rest)
  where
    by : (b : Bool) → is_named p n m r ≡ b → (filter (is_named p n m) rest ≡ []) ⊎ (largest_in (named_rows p n m) ≤ largest_paired p rest)
        → (cond b (r ∷ filter (is_named p n m) rest) (filter (is_named p n m) rest) ≡ []) ⊎ (largest_in (named_rows p n m) ≤ max (largest_in (pair_rows p r.a r.b)) (largest_paired p rest))
    by true is more = let same : largest_in (named_rows p n m) ≡ largest_in (pair_rows p r.a r.b) = ap largest_in (named_same p n m r is) in inr (omega (arith, same))
    by false is (inl none) = inl none
    by false is (inr le) = inr (omega (arith, le))

most_named : (p : Parts) (n m : Option (List ℕ)) → (filter (is_named p n m) p.pairs ≡ []) ⊎ (largest_in (named_rows p n m) ≤ largest_paired p p.pairs) → largest_in (named_rows p n m) ≤ largest_paired p p.pairs
most_named p n m (inl none) =
    let zero_is : largest_in (named_rows p n m) ≡ 0 = ap (λ (rows : List PairRow). largest_in (flat_map (λ (r : PairRow). r.clearances) rows)) none in
    omega (arith, zero_is)
most_named p n m (inr le) = le

-- nothing that is stated for two classes is more than the largest of all rows
pub paired_most : (p : Parts) (c d : ℕ) → largest_in (pair_rows p c d) ≤ largest_paired p p.pairs
paired_most p c d = most_named p (name_of p c) (name_of p d) (none_or_most p (name_of p c) (name_of p d) p.pairs)
