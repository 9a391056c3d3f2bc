-- Pairs and the places that they stand in.
use Rattle.std.proofs.Common.{◌≡◌, ℕ, zero, suc, ◌<◌, List, [], ◌∷◌, length, refl, ap, arith, inl, inr}
use Rattle.std.specs.Prelude.{Option, Some, None}
use Rattle.number_slots.specs.Slots.{IsAt}
use Rattle.number_slots.proofs.ByNumber.{there_false}
use Rattle.reservations.specs.Held.{AreHeldOnce}
use Rattle.reservations.specs.Places.{pairs_of, pair_of, IsIndex}

pub pair_is_at : (places : List (Option (ℕ × ℕ))) (i id c : ℕ) → pair_of places i ≡ Some (id, c) → IsAt (pairs_of places) id c
pair_is_at [] i id c e = let wrong : ◌≡◌ {A = Option (ℕ × ℕ)} None (Some (id, c)) = e in absurd (cc)
pair_is_at (None ∷ rest) zero id c e = let wrong : ◌≡◌ {A = Option (ℕ × ℕ)} None (Some (id, c)) = e in absurd (cc)
pair_is_at (Some p ∷ rest) zero id c e = let f : Some p ≡ Some (id, c) = e in let same : p ≡ (id, c) = cc in inl (ap (λ q. q.0) same, ap (λ q. q.1) same)
pair_is_at (None ∷ rest) (suc i) id c e = pair_is_at rest i id c e
pair_is_at (Some p ∷ rest) (suc i) id c e = inr (pair_is_at rest i id c e)

pub at_has_place : (places : List (Option (ℕ × ℕ))) (id c : ℕ) → IsAt (pairs_of places) id c → (i : ℕ) × (pair_of places i ≡ Some (id, c))
at_has_place [] id c h = absurd h
at_has_place (None ∷ rest) id c h = let k = at_has_place rest id c h in (suc k.0, k.1)
at_has_place (Some p ∷ rest) id c (inl h) = (0, (λ j. Some (h.0 j, h.1 j)))
at_has_place (Some p ∷ rest) id c (inr h) = let k = at_has_place rest id c h in (suc k.0, k.1)

pub pair_within : (places : List (Option (ℕ × ℕ))) (i : ℕ) (p : ℕ × ℕ) → pair_of places i ≡ Some p → i < length places
pair_within [] i p e = let wrong : ◌≡◌ {A = Option (ℕ × ℕ)} None (Some p) = e in absurd (cc)
pair_within (o ∷ rest) zero p e = omega arith
pair_within (o ∷ rest) (suc i) p e = let lt = pair_within rest i p e in omega (arith, lt)

-- no item has two places
abbrev AreApart : List (Option (ℕ × ℕ)) → Type 0
AreApart places = (id c d i j : ℕ) → pair_of places i ≡ Some (id, c) → pair_of places j ≡ Some (id, d) → i ≡ j

apart_once : (places : List (Option (ℕ × ℕ))) → AreApart places → AreHeldOnce (pairs_of places)
apart_once [] apart = tt
apart_once (None ∷ rest) apart = apart_once rest (λ id c d i j e f. let q = apart id c d (suc i) (suc j) e f in omega (arith, q))
apart_once (Some p ∷ rest) apart = (
  there_false (pairs_of rest) p.0 (λ d h. let k = at_has_place rest p.0 d h in let q = apart p.0 p.1 d 0 (suc k.0) refl k.1 in absurd (omega (arith, q))),
  apart_once rest (λ id c d i j e f. let q = apart id c d (suc i) (suc j) e f in omega (arith, q)),
)

-- an item has one pair
pub index_once : (f : ℕ → Option ℕ) (places : List (Option (ℕ × ℕ))) → IsIndex f places → AreHeldOnce (pairs_of places)
index_once f places index = apart_once places (λ id c d i j e g.
    let a : f id ≡ Some i = index.whole id c i e in
    let b : f id ≡ Some j = index.whole id d j g in
    cc)
