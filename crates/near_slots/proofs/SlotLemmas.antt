-- What is filed in slots after a change of one of them.
use Rattle.std.proofs.Common.{◌≡◌, ◌≢◌, ℕ, ◌<◌, ◌≤◌, ◌+◌, List, [], ◌∷◌, ◌++◌, Option, Some, None, length, get_or, set, take, refl, sym, ap, ◌∙◌, subst, ⊎_elim, inl, inr, ◌⊎◌, arith, suc, zero, Bool, cond, not, eqb}
use Rattle.std.specs.List.{Contains, All, cons_option}
use Rattle.std.proofs.lemmas.List.{get_or-set_same, get_or-set_other, get_or_append_left, get_or_push, get_or_past, take_all, length_push}
use Rattle.std.proofs.lemmas.List.Elements.{All-contains, filter_map-append}
use Rattle.std.proofs.lemmas.Bool.{cases_eq, cases_lt, eq-eqb, ne_eqb}
use Rattle.seg_geometry.specs.declared.near.Filed.{Filed}
use Rattle.seg_geometry.specs.Near.{without}
use Rattle.near_slots.specs.Tables.{Table, IsIn, Keeps, KeepsOthers}
use Rattle.near_slots.specs.Slots.{filed_in, spot_of, IsAt, IsFreeOf, HasIds}
use Rattle.near_slots.specs.declared.buckets.Spot.{Spot}

pub IsAt-within : (slots : List (Option Filed)) (k : ℕ) (p : Filed) → IsAt slots k p → k < length slots
IsAt-within slots k p w = ⊎_elim (λ (h : k < length slots). h)
    (λ (h : length slots ≤ k). let e : None ≡ Some p = sym (get_or_past slots k None h) ∙ w.at in absurd (cc))
    (cases_lt k (length slots))

pub IsAt-push_cases : (slots : List (Option Filed)) (o : Option Filed) (k : ℕ) (p : Filed) → IsAt (slots ++ o ∷ []) k p
    → IsAt slots k p ⊎ ((k ≡ length slots) × (o ≡ Some p))
IsAt-push_cases slots o k p w = ⊎_elim
    (λ (h : k < length slots). inl (record { at = sym (get_or_append_left slots (o ∷ []) None k h) ∙ w.at }))
    (λ (h : length slots ≤ k).
    let within = IsAt-within (slots ++ o ∷ []) k p w in
    let e : k ≡ length slots = omega (arith, length_push slots o) in
    inr (e, sym (get_or_push slots o None k (sym e)) ∙ w.at))
    (cases_lt k (length slots))

pub IsAt-emptied : (slots : List (Option Filed)) (i k : ℕ) (p : Filed) → i < length slots → IsAt (set slots i None) k p → IsAt slots k p × (k ≢ i)
IsAt-emptied slots i k p h w = ⊎_elim
    (λ (e : k ≡ i). let f : None ≡ Some p = sym (get_or-set_same slots i None None h) ∙ (subst (λ (j : ℕ). get_or (set slots i None) j None ≡ Some p) e w.at) in absurd (cc))
    (λ (n : k ≢ i). (record { at = sym (get_or-set_other slots i k None None n) ∙ w.at }, n))
    (cases_eq k i)

pub HasIds-kept : (ids new : Table) (slots : List (Option Filed)) → Keeps ids new → HasIds ids slots → HasIds new slots
HasIds-kept ids new slots h f = record { each = λ k p w. h.each (spot_of p.id k p) (f.each k p w) }

pub HasIds-push : (ids : Table) (slots : List (Option Filed)) (p : Filed) → HasIds ids slots → IsIn ids (spot_of p.id (length slots) p) → HasIds ids (slots ++ Some p ∷ [])
HasIds-push ids slots p f w = record {
  each = λ k q at. ⊎_elim (λ (a : IsAt slots k q). f.each k q a)
      (λ (b : (k ≡ length slots) × (Some p ≡ Some q)). let e : p ≡ q = let s = b.1 in cc in
      subst (λ (j : ℕ). IsIn ids (spot_of q.id j q)) (sym b.0) (subst (λ (x : Filed). IsIn ids (spot_of x.id (length slots) x)) e w))
      (IsAt-push_cases slots (Some p) k q at);
}

pub HasIds-emptied : (ids new : Table) (slots : List (Option Filed)) (i : ℕ) → i < length slots → HasIds ids slots → KeepsOthers i ids new
    → HasIds new (set slots i None)
HasIds-emptied ids new slots i h f keeps = record {
  each = λ k p w. let was = IsAt-emptied slots i k p h w in keeps.each (spot_of p.id k p) was.1 (f.each k p was.0);
}

-- no spot of the bucket of an id has something of it
pub IsFreeOf-all : (ids : Table) (slots : List (Option Filed)) (id : ℕ) (spots : List Spot) (n : ℕ) → length spots ≤ n → HasIds ids slots
    → ((s : Spot) → s.key ≡ id → IsIn ids s → Contains spots s) → All (λ s. IsFreeOf id slots s.slot) (take n spots) → (k : ℕ) → IsFreeOf id slots k
IsFreeOf-all ids slots id spots n h f found free k = record {
  each = λ p w e. (All-contains (λ s. IsFreeOf id slots s.slot) spots (spot_of p.id k p)
      (subst (λ (xs : List Spot). All (λ s. IsFreeOf id slots s.slot) xs) (take_all n spots h) free)
      (found (spot_of p.id k p) e (f.each k p w))).each p w e;
}

-- ---- what is filed in all slots

Contains-cons_option : (o : Option Filed) (xs : List Filed) (p : Filed) → Contains xs p → Contains (cons_option o xs) p
Contains-cons_option None xs p h = h
Contains-cons_option (Some q) xs p h = (suc h.0, omega (arith, h.1), h.2)

pub Contains-filed : (slots : List (Option Filed)) (k : ℕ) (p : Filed) → get_or slots k None ≡ Some p → Contains (filed_in slots) p
Contains-filed [] k p e = absurd (cc)
Contains-filed (o ∷ os) zero p e = subst (λ (x : Option Filed). Contains (cons_option x (filed_in os)) p) (sym e) (0, omega arith, refl)
Contains-filed (o ∷ os) (suc k) p e = Contains-cons_option o (filed_in os) p (Contains-filed os k p e)

IsAt-behind : (o : Option Filed) (os : List (Option Filed)) (p : Filed) → (k : ℕ) × IsAt os k p → (k : ℕ) × IsAt (o ∷ os) k p
IsAt-behind o os p w = (suc w.0, record { at = w.1.at })

pub IsAt-from_filed : (slots : List (Option Filed)) (p : Filed) (n : ℕ) → n < length (filed_in slots) → get_or (filed_in slots) n p ≡ p → (k : ℕ) × IsAt slots k p
IsAt-from_filed [] p n h e = absurd (omega arith)
IsAt-from_filed (None ∷ os) p n h e = IsAt-behind None os p (IsAt-from_filed os p n h e)
IsAt-from_filed (Some q ∷ os) p zero h e = (0, record { at = ap Some e })
IsAt-from_filed (Some q ∷ os) p (suc n) h e = IsAt-behind (Some q) os p (IsAt-from_filed os p n (omega arith) e)

pub filed_in-push : (slots : List (Option Filed)) (p : Filed) → filed_in (slots ++ Some p ∷ []) ≡ filed_in slots ++ p ∷ []
filed_in-push slots p = filter_map-append (λ o. o) slots (Some p ∷ [])

-- ---- what is left of an id

abbrev other : ℕ → Filed → Bool
other id p = not (eqb p.id id)

without-cons : (id : ℕ) (o : Option Filed) (xs ys : List Filed) → without id xs ≡ without id ys → without id (cons_option o xs) ≡ without id (cons_option o ys)
without-cons id None xs ys e = e
without-cons id (Some q) xs ys e = ap (λ (r : List Filed). cond (other id q) (q ∷ r) r) e

-- an emptied slot of the id takes nothing else away
pub without-emptied : (id : ℕ) (slots : List (Option Filed)) (k : ℕ) (p : Filed) → get_or slots k None ≡ Some p → p.id ≡ id
    → without id (filed_in (set slots k None)) ≡ without id (filed_in slots)
without-emptied id [] k p at e = refl
without-emptied id (o ∷ os) zero p at e = subst (λ (x : Option Filed). without id (filed_in os) ≡ without id (cons_option x (filed_in os))) (sym at)
    (sym (ap (λ (b : Bool). cond (not b) (p ∷ without id (filed_in os)) (without id (filed_in os))) (eq-eqb p.id id e)))
without-emptied id (o ∷ os) (suc k) p at e = without-cons id o (filed_in (set os k None)) (filed_in os) (without-emptied id os k p at e)

length-cons_option : (o : Option Filed) (xs ys : List Filed) → length xs + 1 ≡ length ys → length (cons_option o xs) + 1 ≡ length (cons_option o ys)
length-cons_option None xs ys e = e
length-cons_option (Some q) xs ys e = omega arith

pub length-emptied : (slots : List (Option Filed)) (k : ℕ) (p : Filed) → get_or slots k None ≡ Some p → length (filed_in (set slots k None)) + 1 ≡ length (filed_in slots)
length-emptied [] k p at = absurd (cc)
length-emptied (o ∷ os) zero p at = subst (λ (x : Option Filed). length (filed_in os) + 1 ≡ length (cons_option x (filed_in os))) (sym at) (omega arith)
length-emptied (o ∷ os) (suc k) p at = length-cons_option o (filed_in (set os k None)) (filed_in os) (length-emptied os k p at)

-- with no slot of the id nothing is taken away
pub without-free : (id : ℕ) (slots : List (Option Filed)) → ((k : ℕ) → IsFreeOf id slots k) → without id (filed_in slots) ≡ filed_in slots
without-free id [] free = refl
without-free id (None ∷ os) free = without-free id os (λ k. record { each = λ p w. (free (suc k)).each p (record { at = w.at }) })
without-free id (Some q ∷ os) free =
    ap (λ (b : Bool). cond (not b) (q ∷ without id (filed_in os)) (without id (filed_in os))) (ne_eqb q.id id ((free 0).each q (record { at = refl })))
    ∙ ap (λ (r : List Filed). q ∷ r) (without-free id os (λ k. record { each = λ p w. (free (suc k)).each p (record { at = w.at }) }))
