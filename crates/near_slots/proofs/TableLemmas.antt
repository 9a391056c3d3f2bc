-- What writes to buckets leave in a table.
use Rattle.std.proofs.Common.{◌≡◌, ◌≢◌, ℕ, ◌<◌, ◌≤◌, ◌+◌, List, [], ◌∷◌, ◌++◌, length, get_or, set, take, sym, ap, ◌∙◌, subst, ⊎_elim, arith, suc, zero}
use Rattle.std.specs.List.{Contains, Any, swap_remove}
use Rattle.std.proofs.lemmas.List.Sorted.{Contains-permutation, IsPermutation-swap_remove}
use Rattle.std.proofs.lemmas.List.{get_or-set_same, get_or-set_other, take_more, get_or_default}
use Rattle.std.proofs.lemmas.List.Elements.{Contains-push_cases, Contains-append_left, Contains-push}
use Rattle.std.proofs.lemmas.Bool.{cases_eq}
use Rattle.std.proofs.lemmas.Nat.{and_le_r}
use Rattle.near_slots.specs.declared.buckets.Spot.{Spot}
use Rattle.near_slots.specs.Tables.{Table, IsIn, Keeps, KeepsOthers, HasAll, bucket_of}

abbrev pub table : List (List Spot) → ℕ → Table
table lists mask = record { lists = lists; mask = mask }

abbrev pub written : Table → ℕ → List Spot → Table
written t i b = record { lists = set t.lists i b; mask = t.mask }

pub bucket_of-le : (mask key : ℕ) → bucket_of mask key ≤ mask
unfolding bucket_of
bucket_of-le mask key = and_le_r _ _

-- what stands in the written bucket
pub IsIn-written : (t : Table) (i : ℕ) (b : List Spot) (s : Spot) → i < length t.lists → bucket_of t.mask s.key ≡ i → Contains b s → IsIn (written t i b) s
IsIn-written t i b s h e c = record {
  stands = subst (λ (place : ℕ). Contains (get_or (set t.lists i b) place []) s) (sym e)
      (subst (λ (xs : List Spot). Contains xs s) (sym (get_or-set_same t.lists i b [] h)) c);
}

-- what stood in the table, where it stays in the bucket
pub IsIn-kept : (t : Table) (i : ℕ) (b : List Spot) (s : Spot) → i < length t.lists → (Contains (get_or t.lists i []) s → Contains b s) → IsIn t s → IsIn (written t i b) s
IsIn-kept t i b s h f w = ⊎_elim
    (λ e. IsIn-written t i b s h e (f (subst (λ (place : ℕ). Contains (get_or t.lists place []) s) e w.stands)))
    (λ n. record { stands = subst (λ (xs : List Spot). Contains xs s) (sym (get_or-set_other t.lists i (bucket_of t.mask s.key) b [] n)) w.stands })
    (cases_eq (bucket_of t.mask s.key) i)

pub KeepsOthers-written : (t : Table) (i : ℕ) (b old : List Spot) (gone : ℕ) → i < length t.lists → old ≡ get_or t.lists i old
    → ((s : Spot) → s.slot ≢ gone → Contains old s → Contains b s) → KeepsOthers gone t (written t i b)
KeepsOthers-written t i b old gone h e f = record {
  each = λ s n w. IsIn-kept t i b s h (λ k. f s n (subst (λ (xs : List Spot). Contains xs s) (sym (e ∙ get_or_default t.lists i old [] h)) k)) w;
}

pub Keeps-refl : (t : Table) → Keeps t t
Keeps-refl t = record { each = λ s w. w }

pub Keeps-then : (t u v : Table) → Keeps t u → Keeps u v → Keeps t v
Keeps-then t u v h k = record { each = λ s w. k.each s (h.each s w) }

pub HasAll-kept : (t u : Table) (spots : List Spot) → Keeps t u → HasAll t spots → HasAll u spots
HasAll-kept t u spots h k = record { each = λ s c. h.each s (k.each s c) }

-- a loop's step
pub HasAll-more : (t : Table) (spots : List Spot) (i : ℕ) (d : Spot) → i < length spots → HasAll t (take i spots) → IsIn t (get_or spots i d)
    → HasAll t (take (i + 1) spots)
HasAll-more t spots i d h k w = record {
  each = λ s c. ⊎_elim (λ (a : Contains (take i spots) s). k.each s a)
      (λ (b : get_or spots i d ≡ s). subst (λ (x : Spot). IsIn t x) b w)
      (Contains-push_cases (take i spots) (get_or spots i d) s (subst (λ (xs : List Spot). Contains xs s) (take_more spots i d h) c));
}

-- all buckets of a table in another one
pub Keeps-from_buckets : (t u : Table) (n : ℕ) → t.mask < length t.lists → length t.lists ≤ n → ((j : ℕ) → j < n → HasAll u (get_or t.lists j [])) → Keeps t u
Keeps-from_buckets t u n h k all = record {
  each = λ s w. (all (bucket_of t.mask s.key) (omega (arith, bucket_of-le t.mask s.key))).each s w.stands;
}

pub Any-bucket : (t : Table) (s : Spot) → t.mask < length t.lists → IsIn t s → Any (λ spots. Contains spots s) t.lists
Any-bucket t s h w =
    let b : List Spot = get_or t.lists (bucket_of t.mask s.key) [] in
    let within : bucket_of t.mask s.key < length t.lists = omega (arith, bucket_of-le t.mask s.key) in
    (bucket_of t.mask s.key, b, within, get_or_default t.lists (bucket_of t.mask s.key) b [] within, w.stands)

from_cons : (x : Spot) (xs : List Spot) (s : Spot) → (x ≡ s → ⊥) → (k : ℕ) → k < length (x ∷ xs) → get_or (x ∷ xs) k s ≡ s → Contains xs s
from_cons x xs s n zero h e = absurd (n e)
from_cons x xs s n (suc k) h e = (k, omega arith, e)

-- what stands in a bucket from which a spot of another slot was taken
pub Contains-swap_removed : (xs : List Spot) (i : ℕ) (x : Spot) (slot : ℕ) → i < length xs → x ≡ get_or xs i x → (get_or xs i x).slot ≡ slot
    → (s : Spot) → s.slot ≢ slot → Contains xs s → Contains (swap_remove xs i x) s
Contains-swap_removed xs i x slot h e of s n c =
    let moved = Contains-permutation xs (x ∷ swap_remove xs i x) s (IsPermutation-swap_remove xs i x h e) c in
    from_cons x (swap_remove xs i x) s (λ same. n (ap (λ (y : Spot). y.slot) (sym same ∙ e) ∙ of)) moved.0 moved.1 moved.2

-- a spot put into its bucket
pub Keeps-put : (t : Table) (i : ℕ) (old new : List Spot) (x : Spot) → i < length t.lists → old ≡ get_or t.lists i old → new ≡ old ++ x ∷ [] → Keeps t (written t i new)
Keeps-put t i old new x h e put = record {
  each = λ s w. IsIn-kept t i new s h
      (λ k. subst (λ (xs : List Spot). Contains xs s) (sym put)
      (Contains-append_left old (x ∷ []) s (subst (λ (xs : List Spot). Contains xs s) (sym (e ∙ get_or_default t.lists i old [] h)) k)))
      w;
}

pub IsIn-put : (t : Table) (i : ℕ) (old new : List Spot) (x : Spot) → i < length t.lists → i ≡ bucket_of t.mask x.key → new ≡ old ++ x ∷ [] → IsIn (written t i new) x
IsIn-put t i old new x h e put = IsIn-written t i new x h (sym e) (subst (λ (xs : List Spot). Contains xs x) (sym put) (Contains-push old x))
