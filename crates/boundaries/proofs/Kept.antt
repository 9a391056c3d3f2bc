-- What calls leave of the live boundaries.
use Rattle.std.proofs.Common.{◌≡◌, ℕ, zero, suc, ◌+◌, ◌<◌, ◌≤◌, ◌^◌, List, [], ◌∷◌, ◌++◌, length, get_or, refl, sym, ap, subst, ◌∙◌, arith, inl, inr, Bool, true, false}
use Rattle.std.proofs.Math.ListN.{set}
use Rattle.std.specs.Prelude.{Option, Some, None, slice_get, not, ◌==◌, nat_lt, if◌then◌else◌, ◌↔◌, IsTrue}
use Rattle.std.specs.List.{AllByRecursion, remove}
use Rattle.std.proofs.lemmas.Bool.{eq-eqb, ne_eqb, lt-ltb, le-ltb}
use Rattle.std.proofs.lemmas.Option.{get_or_from_slice_get}
use Rattle.number_slots.specs.Slots.{is_among, without, IsAt, IsRisingFrom}
use Rattle.number_slots.proofs.ByNumber.{at_least, at_holds, all_stay}
use Rattle.boundaries.specs.Boundaries.{Boundary, Space, entitling, entitled_at, fence_made, IsEntitled, IsEntitledAt}
use Rattle.boundaries.specs.Marks.{AreLive, HasPlace}
use Rattle.boundaries.proofs.Walked.{read_at}

from_lower : {T : Type 0} (n m : ℕ) (xs : List (ℕ × T)) → n ≤ m → IsRisingFrom m xs → IsRisingFrom n xs
from_lower n m [] le r = tt
from_lower n m (x ∷ xs) le r = (omega (arith, r.0), r.1)

-- numbers below a bound
abbrev pub AreBelow : {T : Type 0} → ℕ → List (ℕ × T) → Type 0
AreBelow {T} m xs = AllByRecursion (λ (x : ℕ × T). x.0 < m) xs

below_more : {T : Type 0} (n m : ℕ) (xs : List (ℕ × T)) → n ≤ m → AreBelow n xs → AreBelow m xs
below_more n m [] le all = tt
below_more n m (x ∷ xs) le all = (omega (arith, all.0), below_more n m xs le all.1)

-- ---- a boundary is taken away

rising_one : {T : Type 0} (n : ℕ) (ids : List ℕ) (x : ℕ × T) (xs : List (ℕ × T)) (b : Bool) → not (is_among x.0 ids) ≡ b → n ≤ x.0 → IsRisingFrom (x.0 + 1) (without ids xs) → IsRisingFrom n (without ids (x ∷ xs))
rising_one n ids x xs true e le more = rw e (le, more)
rising_one n ids x xs false e le more = rw e (from_lower n (x.0 + 1) (without ids xs) (omega arith) more)

rising_left : {T : Type 0} (n : ℕ) (ids : List ℕ) (xs : List (ℕ × T)) → IsRisingFrom n xs → IsRisingFrom n (without ids xs)
rising_left n ids [] r = tt
rising_left n ids (x ∷ xs) r = rising_one n ids x xs (not (is_among x.0 ids)) refl r.0 (rising_left (x.0 + 1) ids xs r.1)

below_one : {T : Type 0} (m : ℕ) (ids : List ℕ) (x : ℕ × T) (xs : List (ℕ × T)) (b : Bool) → not (is_among x.0 ids) ≡ b → x.0 < m → AreBelow m (without ids xs) → AreBelow m (without ids (x ∷ xs))
below_one m ids x xs true e lt more = rw e (lt, more)
below_one m ids x xs false e lt more = rw e more

below_left : {T : Type 0} (m : ℕ) (ids : List ℕ) (xs : List (ℕ × T)) → AreBelow m xs → AreBelow m (without ids xs)
below_left m ids [] all = tt
below_left m ids (x ∷ xs) all = below_one m ids x xs (not (is_among x.0 ids)) refl all.0 (below_left m ids xs all.1)

low_stays : {T : Type 0} (m n : ℕ) (ys : List (ℕ × T)) → IsRisingFrom n ys → m < n → without (m ∷ []) ys ≡ ys
low_stays m n ys r lt = all_stay m ys (λ k x h q. let le = at_least n ys k x r h in absurd (omega arith))

-- what is removed from its place is the one thing of its number
pub removed : {T : Type 0} (k : ℕ) (xs : List (ℕ × T)) (i n : ℕ) (x : T) → IsRisingFrom k xs → slice_get xs i ≡ Some (n, x) → remove xs i ≡ without (n ∷ []) xs
removed k [] i n x r e = absurd (cc)
removed k (y ∷ ys) zero n x r e =
    let same : y ≡ (n, x) = cc in
    let here : n ≡ y.0 = ap (λ (z : ℕ × _). z.0) (sym same) in
    let f : (n == y.0) ≡ true = eq-eqb n y.0 here in
    rw f (sym (low_stays n (y.0 + 1) ys r.1 (omega (arith, here))))
removed k (y ∷ ys) (suc i) n x r e =
    let le = at_least (y.0 + 1) ys n x r.1 (read_at ys i (n, x) e) in
    let f : (n == y.0) ≡ false = ne_eqb n y.0 (λ q. absurd (omega (arith, le))) in
    rw f (ap (λ zs. y ∷ zs) (removed (y.0 + 1) ys i n x r.1 e))

pub live_left : (xs : List (ℕ × Boundary)) (last n : ℕ) → AreLive xs last → AreLive (without (n ∷ []) xs) last
live_left xs last n is = record { rising = rising_left 1 (n ∷ []) xs is.rising; within = below_left (last + 1) (n ∷ []) xs is.within; few = is.few }

-- where none has the number, all stay
pub none_removed : {T : Type 0} (xs : List (ℕ × T)) (n : ℕ) → ((x : T) → IsAt xs n x → ⊥) → xs ≡ without (n ∷ []) xs
none_removed {T} xs n none = sym (all_stay n xs (λ (k : ℕ) (x : T) h e. none x (subst (λ (m : ℕ). IsAt xs m x) (sym e) h)))

-- ---- a boundary entitles one more client

pub none_entitled : (xs : List (ℕ × Boundary)) (n client : ℕ) → ((b : Boundary) → IsAt xs n b → ⊥) → xs ≡ entitled_at n client xs
none_entitled [] n client none = refl
none_entitled (x ∷ xs) n client none =
    let f : (x.0 == n) ≡ false = ne_eqb x.0 n (λ e. none x.1 (inl (e, refl))) in
    rw f (ap (λ ys. x ∷ ys) (none_entitled xs n client (λ b h. none b (inr h))))

pub entitled_set : (k : ℕ) (xs : List (ℕ × Boundary)) (i n client : ℕ) (b : Boundary) → IsRisingFrom k xs → slice_get xs i ≡ Some (n, b) → set xs i (n, entitling client b) ≡ entitled_at n client xs
entitled_set k [] i n client b r e = absurd (cc)
entitled_set k (x ∷ xs) zero n client b r e =
    let same : x ≡ (n, b) = cc in
    let here : x.0 ≡ n = ap (λ (z : ℕ × Boundary). z.0) same in
    let is : x.1 ≡ b = ap (λ (z : ℕ × Boundary). z.1) same in
    let f : (x.0 == n) ≡ true = eq-eqb x.0 n here in
    let stay = none_entitled xs n client (λ c h. let le = at_least (x.0 + 1) xs n c r.1 h in absurd (omega (arith, here, le))) in
    rw f (λ j. (sym here j, entitling client (sym is j)) ∷ stay j)
entitled_set k (x ∷ xs) (suc i) n client b r e =
    let le = at_least (x.0 + 1) xs n b r.1 (read_at xs i (n, b) e) in
    let f : (x.0 == n) ≡ false = ne_eqb x.0 n (λ q. absurd (omega (arith, le))) in
    rw f (ap (λ ys. x ∷ ys) (entitled_set (x.0 + 1) xs i n client b r.1 e))

-- the boundary at a place entitles one more client
pub set_entitled : (xs : List (ℕ × Boundary)) (i n client : ℕ) (r new : ℕ × Boundary) (b : Boundary) → IsRisingFrom 1 xs → slice_get xs i ≡ Some (n, b) → r ≡ get_or xs i r → new ≡ (r.0, entitling client r.1) → set xs i new ≡ entitled_at n client xs
set_entitled xs i n client r new b rising e is made =
    let same : r ≡ (n, b) = is ∙ get_or_from_slice_get xs i (n, b) r e in
    ap (set xs i) (made ∙ ap (λ (z : ℕ × Boundary). (z.0, entitling client z.1)) same) ∙ entitled_set 1 xs i n client b rising e

entitled_number : (n client : ℕ) (x : ℕ × Boundary) (b : Bool) → (x.0 == n) ≡ b → (if x.0 == n then (x.0, entitling client x.1) else x).0 ≡ x.0
entitled_number n client x true e = rw e refl
entitled_number n client x false e = rw e refl

entitled_rises : (n client k : ℕ) (xs : List (ℕ × Boundary)) → IsRisingFrom k xs → IsRisingFrom k (entitled_at n client xs)
entitled_rises n client k [] r = tt
entitled_rises n client k (x ∷ xs) r =
    let e = entitled_number n client x (x.0 == n) refl in
    (subst (λ (m : ℕ). k ≤ m) (sym e) r.0, subst (λ (m : ℕ). IsRisingFrom (m + 1) (entitled_at n client xs)) (sym e) (entitled_rises n client (x.0 + 1) xs r.1))

entitled_below : (n client m : ℕ) (xs : List (ℕ × Boundary)) → AreBelow m xs → AreBelow m (entitled_at n client xs)
entitled_below n client m [] all = tt
entitled_below n client m (x ∷ xs) all = (subst (λ (k : ℕ). k < m) (sym (entitled_number n client x (x.0 == n) refl)) all.0, entitled_below n client m xs all.1)

pub live_entitled : (xs : List (ℕ × Boundary)) (last n client : ℕ) → AreLive xs last → AreLive (entitled_at n client xs) last
live_entitled xs last n client is = record { rising = entitled_rises n client 1 xs is.rising; within = entitled_below n client (last + 1) xs is.within; few = is.few }

-- ---- a boundary is drawn

rising_append : {T : Type 0} (n m : ℕ) (xs ys : List (ℕ × T)) → n ≤ m → IsRisingFrom n xs → AreBelow m xs → IsRisingFrom m ys → IsRisingFrom n (xs ++ ys)
rising_append n m [] ys le r low more = from_lower n m ys le more
rising_append n m (x ∷ xs) ys le r low more = (r.0, rising_append (x.0 + 1) m xs ys (omega (arith, low.0)) r.1 low.1 more)

below_append : {T : Type 0} (m : ℕ) (xs ys : List (ℕ × T)) → AreBelow m xs → AreBelow m ys → AreBelow m (xs ++ ys)
below_append m [] ys a b = b
below_append m (x ∷ xs) ys a b = (a.0, below_append m xs ys a.1 b)

pub live_more : (xs : List (ℕ × Boundary)) (last n : ℕ) (b : Boundary) → n ≡ last + 1 → n < 2 ^ 32 → AreLive xs last → AreLive (xs ++ (n, b) ∷ []) n
live_more xs last n b is low live = record {
  rising = rising_append 1 (last + 1) xs ((n, b) ∷ []) (omega arith) live.rising live.within (omega (arith, is), tt);
  within = below_append (n + 1) xs ((n, b) ∷ []) (below_more (last + 1) (n + 1) xs (omega (arith, is)) live.within) (omega arith, tt);
  few = low;
}

-- a number that was given and not used
pub live_past : (xs : List (ℕ × Boundary)) (last n : ℕ) → n ≡ last + 1 → n < 2 ^ 32 → AreLive xs last → AreLive xs n
live_past xs last n is low live = record { rising = live.rising; within = below_more (last + 1) (n + 1) xs (omega (arith, is)) live.within; few = low }

pub made_one : (n : ℕ) (b : Boundary) → 3 ≤ length b.area → (n, b) ∷ [] ≡ fence_made n b
made_one n b le = let f : nat_lt (length b.area) 3 ≡ false = le-ltb (length b.area) 3 le in rw f refl

pub made_none : (n : ℕ) (b : Boundary) → length b.area < 3 → fence_made n b ≡ []
made_none n b lt = let f : nat_lt (length b.area) 3 ≡ true = lt-ltb (length b.area) 3 lt in rw f refl

-- ---- what is read

few_between : {T : Type 0} (n m : ℕ) (xs : List (ℕ × T)) → n ≤ m → IsRisingFrom n xs → AreBelow m xs → n + length xs ≤ m
few_between n m [] le r low = omega arith
few_between n m (x ∷ xs) le r low = let more = few_between (x.0 + 1) m xs (omega (arith, low.0)) r.1 low.1 in omega (arith, r.0, more)

-- there are no more boundaries than numbers
pub few_live : (xs : List (ℕ × Boundary)) (last : ℕ) → AreLive xs last → length xs ≤ last
few_live xs last is = let few = few_between 1 (last + 1) xs (omega arith) is.rising is.within in omega (arith, few)

-- numbers lie between 1 and the last one
pub numbers_within : (xs : List (ℕ × Boundary)) (last n : ℕ) (b : Boundary) → AreLive xs last → IsAt xs n b → (0 < n) × (n ≤ last)
numbers_within xs last n b is h =
    let low = at_least 1 xs n b is.rising h in
    let high = at_holds (λ (x : ℕ × Boundary). x.0 < last + 1) xs n b is.within h in (omega (arith, low), omega (arith, high))

-- whether the boundary that stands under a number entitles a client
pub entitled_told : (xs : List (ℕ × Boundary)) (n client : ℕ) (b : Boundary) (r : Bool) → IsAt xs n b → ((c : Boundary) → IsAt xs n c → c ≡ b) → IsTrue r ↔ IsEntitled b client → IsTrue r ↔ IsEntitledAt xs n client
entitled_told xs n client b r at only told = (
  λ t. record { boundary = b; boundary_is = at; entitled = told.0 t },
  λ h. told.1 (subst (λ (c : Boundary). IsEntitled c client) (only h.boundary h.boundary_is) h.entitled),
)

-- the number of the boundary at a place
pub numbered_at : (xs : List (ℕ × Boundary)) (i n : ℕ) (r : ℕ × Boundary) → slice_get xs i ≡ Some r → n ≡ r.0 → (b : Boundary) × (slice_get xs i ≡ Some (n, b))
numbered_at xs i n r e is = (r.1, e ∙ ap Some (λ j. (sym is j, r.1)))

-- one boundary less leaves its place
pub place_left : (spare : Option Space) (live new capacity after : ℕ) → new + 1 ≡ live → after ≡ capacity → HasPlace spare live capacity → HasPlace spare new after
place_left None live new capacity after less same has = tt
place_left (Some space) live new capacity after less same has = omega (arith, less, same, has)
