-- Places and their index after one more pair was put at the end.
use Rattle.std.proofs.Common.{◌≡◌, ℕ, zero, suc, List, [], ◌∷◌, ◌++◌, length, refl, sym, ap, subst, ◌∙◌, inl, inr, true, false, cond}
use Rattle.std.specs.Prelude.{◌⊎◌, Option, Some, None, ◌==◌}
use Rattle.std.proofs.lemmas.Bool.{eqb-true, eq-eqb, ne_eqb}
use Rattle.number_slots.proofs.ByNumber.{by_bool}
use Rattle.reservations.specs.Places.{pairs_of, pair_of, StandsAt, IsIndex}

pub pairs_join : (xs ys : List (Option (ℕ × ℕ))) → pairs_of (xs ++ ys) ≡ pairs_of xs ++ pairs_of ys
pairs_join [] ys = refl
pairs_join (None ∷ xs) ys = pairs_join xs ys
pairs_join (Some p ∷ xs) ys = ap (λ zs. p ∷ zs) (pairs_join xs ys)

pair_front : (xs : List (Option (ℕ × ℕ))) (o : Option (ℕ × ℕ)) (i : ℕ) (p : ℕ × ℕ) → pair_of xs i ≡ Some p → pair_of (xs ++ o ∷ []) i ≡ Some p
pair_front [] o i p e = let wrong : ◌≡◌ {A = Option (ℕ × ℕ)} None (Some p) = e in absurd (cc)
pair_front (x ∷ xs) o zero p e = e
pair_front (x ∷ xs) o (suc i) p e = pair_front xs o i p e

pair_last : (xs : List (Option (ℕ × ℕ))) (o : Option (ℕ × ℕ)) → pair_of (xs ++ o ∷ []) (length xs) ≡ o
pair_last [] o = refl
pair_last (x ∷ xs) o = pair_last xs o

pair_either : (xs : List (Option (ℕ × ℕ))) (o : Option (ℕ × ℕ)) (i : ℕ) (p : ℕ × ℕ) → pair_of (xs ++ o ∷ []) i ≡ Some p → (pair_of xs i ≡ Some p) ⊎ ((i ≡ length xs) × (o ≡ Some p))
pair_either [] o zero p e = inr (refl, e)
pair_either [] o (suc i) p e = let wrong : ◌≡◌ {A = Option (ℕ × ℕ)} None (Some p) = e in absurd (cc)
pair_either (x ∷ xs) o zero p e = inl e
pair_either (x ∷ xs) o (suc i) p e = elim (pair_either xs o i p e) [ inl f ↦ inl f | inr g ↦ inr (ap suc g.0, g.1) ]

-- an empty place more leaves the index as it is
pub index_same : (f : ℕ → Option ℕ) (places : List (Option (ℕ × ℕ))) → IsIndex f places → IsIndex f (places ++ None ∷ [])
index_same f places index = record {
  right = λ id i e. let s = index.right id i e in (s.0, pair_front places None i (id, s.0) s.1);
  whole = λ id c i e. elim (pair_either places None i (id, c) e) [ inl g ↦ index.whole id c i g | inr g ↦ let wrong : ◌≡◌ {A = Option (ℕ × ℕ)} None (Some (id, c)) = g.1 in absurd (cc) ];
}

-- what the index becomes as one item gets another place, or none
abbrev pub IsUpdate : (ℕ → Option ℕ) → (ℕ → Option ℕ) → ℕ → Option ℕ → Type 0
IsUpdate f g id w = (q : ℕ) → g q ≡ cond (id == q) w (f q)

more_right : (f g : ℕ → Option ℕ) (places : List (Option (ℕ × ℕ))) (id client q i : ℕ) → IsIndex f places → IsUpdate f g id (Some (length places)) → g q ≡ Some i → StandsAt (places ++ Some (id, client) ∷ []) q i
more_right f g places id client q i index up e = by_bool (id == q) (StandsAt (places ++ Some (id, client) ∷ []) q i)
    (λ t.
    let a : g q ≡ Some (length places) = rw t at (up q) in
    let same : i ≡ length places = cc in
    let item : id ≡ q = eqb-true id q t in
    (client, ap (λ (n : ℕ). pair_of (places ++ Some (id, client) ∷ []) n) same ∙ pair_last places (Some (id, client)) ∙ ap (λ (n : ℕ). Some (n, client)) item))
    (λ n.
    let a : g q ≡ f q = rw n at (up q) in
    let s = index.right q i (sym a ∙ e) in
    (s.0, pair_front places (Some (id, client)) i (q, s.0) s.1))

more_whole : (f g : ℕ → Option ℕ) (places : List (Option (ℕ × ℕ))) (id client q c i : ℕ) → IsIndex f places → f id ≡ None → IsUpdate f g id (Some (length places)) → (pair_of places i ≡ Some (q, c)) ⊎ ((i ≡ length places) × (◌≡◌ {A = Option (ℕ × ℕ)} (Some (id, client)) (Some (q, c)))) → g q ≡ Some i
more_whole f g places id client q c i index free up (inl e) =
    let a : f q ≡ Some i = index.whole q c i e in
    let other : (id == q) ≡ false = ne_eqb id q (λ same. let b : f q ≡ None = subst (λ (n : ℕ). f n ≡ None) same free in absurd (cc)) in
    let b : g q ≡ f q = rw other at (up q) in
    b ∙ a
more_whole f g places id client q c i index free up (inr e) =
    let h : ◌≡◌ {A = Option (ℕ × ℕ)} (Some (id, client)) (Some (q, c)) = e.1 in
    let same : ◌≡◌ {A = ℕ × ℕ} (id, client) (q, c) = cc in
    let t : (id == q) ≡ true = eq-eqb id q (ap (λ p. p.0) same) in
    let a : g q ≡ Some (length places) = rw t at (up q) in
    a ∙ ap Some (sym e.0)

-- the index after a pair was put at the end
pub index_more : (f g : ℕ → Option ℕ) (places : List (Option (ℕ × ℕ))) (id client : ℕ) → IsIndex f places → f id ≡ None → IsUpdate f g id (Some (length places)) → IsIndex g (places ++ Some (id, client) ∷ [])
index_more f g places id client index free up = record {
  right = λ q i e. more_right f g places id client q i index up e;
  whole = λ q c i e. more_whole f g places id client q c i index free up (pair_either places (Some (id, client)) i (q, c) e);
}
