-- The least two live items that are too near, one number after another.
use Rattle.std.proofs.Common.{◌≡◌, ℕ, ◌+◌, ◌<◌, ◌≤◌, List, [], ◌∷◌, Bool, true, false, arith, refl, sym, ap, subst, inl, inr}
use Rattle.std.specs.Prelude.{◌⊎◌, ◌↔◌, IsTrue, not, Option, Some, None, IfSome, Any, Result, Ok, Err, IfOk, nat_le}
use Rattle.std.proofs.lemmas.Bool.{le-leb, lt-leb, not-true}
use Rattle.seg_geometry.specs.declared.near.Filed.{Filed}
use Rattle.board_items.specs.declared.items.Item.{Item}
use Rattle.board_items.specs.Shapes.{copper_of_item}
use Rattle.board_rules.specs.declared.design.Parts.{Parts}
use Rattle.board_rules.specs.Costs.{pair_most}
use Rattle.board_rules.specs.Needs.{KeepsNeed}
use Rattle.number_slots.specs.Slots.{IsAt, IsThere, IsRisingFrom}
use Rattle.number_slots.specs.Sums.{sum_between}
use Rattle.number_slots.proofs.ByNumber.{by_lt, at_least}
use Rattle.board_core.specs.Clean.{IsCleanBoard, IsLeastPair}
use Rattle.board_core.specs.Edits.{IsNear}
use Rattle.board_core.proofs.Keeping.{keeps_need}
use Rattle.check_core.specs.Filings.{AreFiled, IsFoundBy}
use Rattle.check_core.specs.NearCosts.{near_pair_most, from_on}
use Rattle.check_core.specs.Nearest.{IsTooNear, KeepsLater, IsLeastOf, Each}
use Rattle.check_core.proofs.Tested.{same_at, tested_most, found_is_near}

-- ---- those of numbers from one on

at_from_one : {T : Type 0} (k : ℕ) (y : ℕ × T) (ys : List (ℕ × T)) (n : ℕ) (x : T) (b : Bool) → nat_le k y.0 ≡ b → IsAt (from_on k (y ∷ ys)) n x → (IsAt (from_on k ys) n x → IsAt ys n x) → IsAt (y ∷ ys) n x
at_from_one {T} k y ys n x true e h more = let here : IsAt (y ∷ from_on k ys) n x = rw e at h in elim here [ inl a ↦ inl a | inr later ↦ inr (more later) ]
at_from_one {T} k y ys n x false e h more = let here : IsAt (from_on k ys) n x = rw e at h in inr (more here)

at_from : {T : Type 0} (k : ℕ) (xs : List (ℕ × T)) (n : ℕ) (x : T) → IsAt (from_on k xs) n x → IsAt xs n x
at_from k [] n x h = h
at_from k (y ∷ ys) n x h = at_from_one k y ys n x (nat_le k y.0) refl h (at_from k ys n x)

-- nothing of a rising list is left out
pub from_all : {T : Type 0} (n m : ℕ) (xs : List (ℕ × T)) → n ≤ m → IsRisingFrom m xs → from_on n xs ≡ xs
from_all n m [] le r = refl
from_all n m (x ∷ xs) le r = let e : nat_le n x.0 ≡ true = le-leb n x.0 (omega (arith, r.0)) in rw e (ap (λ ys. x ∷ ys) (from_all n (x.0 + 1) xs (omega (arith, r.0)) r.1))

pub from_none : {T : Type 0} (n : ℕ) (xs : List (ℕ × T)) → (IsThere xs n → ⊥) → from_on n xs ≡ from_on (n + 1) xs
from_none n [] none = refl
from_none n (x ∷ xs) none =
    let more = from_none n xs (λ t. none (t.0, inr t.1)) in
    by_lt x.0 n (from_on n (x ∷ xs) ≡ from_on (n + 1) (x ∷ xs))
    (λ low. let e : nat_le n x.0 ≡ false = lt-leb n x.0 low in let f : nat_le (n + 1) x.0 ≡ false = lt-leb (n + 1) x.0 (omega (arith, low)) in rw (e, f) more)
    (λ past. by_lt n x.0 (from_on n (x ∷ xs) ≡ from_on (n + 1) (x ∷ xs))
    (λ high. let e : nat_le n x.0 ≡ true = le-leb n x.0 past in let f : nat_le (n + 1) x.0 ≡ true = le-leb (n + 1) x.0 (omega (arith, high)) in rw (e, f) (ap (λ ys. x ∷ ys) more))
    (λ here. let same : x.0 ≡ n = omega (arith, past, here) in absurd (none (x.1, inl (same, refl)))))

pub from_at : {T : Type 0} (k n : ℕ) (xs : List (ℕ × T)) (x : T) → IsRisingFrom k xs → IsAt xs n x → from_on n xs ≡ (n, x) ∷ from_on (n + 1) xs
from_at k n [] x r h = absurd h
from_at k n (y ∷ ys) x r (inl h) =
    let e : nat_le n y.0 ≡ true = le-leb n y.0 (omega (arith, h.0)) in
    let f : nat_le (n + 1) y.0 ≡ false = lt-leb (n + 1) y.0 (omega (arith, h.0)) in
    let a = from_all n (y.0 + 1) ys (omega (arith, h.0)) r.1 in
    let b = from_all (n + 1) (y.0 + 1) ys (omega (arith, h.0)) r.1 in
    rw (e, f) (rw (a, b) (λ i. (h.0 i, h.1 i) ∷ ys))
from_at k n (y ∷ ys) x r (inr h) =
    let low = at_least (y.0 + 1) ys n x r.1 h in
    let e : nat_le n y.0 ≡ false = lt-leb n y.0 (omega (arith, low)) in
    let f : nat_le (n + 1) y.0 ≡ false = lt-leb (n + 1) y.0 (omega (arith, low)) in
    rw (e, f) (from_at (y.0 + 1) n ys x r.1 h)

sum_term : {T : Type 0} (w : T → ℕ) (k m : ℕ) (x : ℕ × T) (xs : List (ℕ × T)) (b : Bool) → nat_le k x.0 ≡ b → k ≤ m → sum_between w m (m + 1) xs ≡ sum_between w m (m + 1) (from_on k xs) → sum_between w m (m + 1) (x ∷ xs) ≡ sum_between w m (m + 1) (from_on k (x ∷ xs))
sum_term w k m x xs true e le more = rw e (omega (arith, more))
sum_term w k m x xs false e le more =
    by_lt x.0 k (sum_between w m (m + 1) (x ∷ xs) ≡ sum_between w m (m + 1) (from_on k (x ∷ xs)))
    (λ low. let f : nat_le m x.0 ≡ false = lt-leb m x.0 (omega (arith, low, le)) in rw e (rw f (omega (arith, more))))
    (λ past. let t : nat_le k x.0 ≡ true = le-leb k x.0 past in absurd cc)

-- what stands at a number of those counts as it does among all
pub sum_from : {T : Type 0} (w : T → ℕ) (k m : ℕ) (xs : List (ℕ × T)) → k ≤ m → sum_between w m (m + 1) xs ≡ sum_between w m (m + 1) (from_on k xs)
sum_from w k m [] le = refl
sum_from w k m (x ∷ xs) le = sum_term w k m x xs (nat_le k x.0) refl le (sum_from w k m xs le)

-- a test of a number that is found takes what near items of greater numbers take
pub later_taken : (p : Parts) (by n k : ℕ) (item : Item) (live : List (ℕ × Item)) (filed : List Filed) (id : ℕ) → IsRisingFrom n live → AreFiled p.stacks live filed → Any (IsFoundBy by filed id) (copper_of_item p.stacks item)
    → sum_between (pair_most p item) id (id + 1) (from_on k live) ≡ sum_between (near_pair_most p by item) id (id + 1) (from_on k live)
later_taken p by n k item live filed id rises files a =
    same_at (pair_most p item) (near_pair_most p by item) id (from_on k live) (λ y at. sym (tested_most p by item y (found_is_near p.stacks by n item y live filed id rises files a (at_from k live id y at))))

-- ---- one item against a later one

pub later_near : (p : Parts) (rules : List (Option ℕ)) (live : List (ℕ × Item)) (n id : ℕ) (item : Item) (b : Bool) → n < id → IsTrue b ↔ IsNear p rules live [] item id → IsTrue b → IsTooNear (KeepsNeed p rules) live n item id
later_near p rules live n id item b later told t = let h = told.0 t in record { later = later; other = h.other; other_is = h.other_is; near = h.near }

pub later_kept : (p : Parts) (rules : List (Option ℕ)) (live : List (ℕ × Item)) (n id : ℕ) (item : Item) (b : Bool) → IsTrue b ↔ IsNear p rules live [] item id → IsTrue (not b) → KeepsLater (KeepsNeed p rules) live n item id
later_kept p rules live n id item b told f y later at =
    keeps_need p rules item y (λ near. let yes_ : b ≡ true = told.1 (record { other = y; other_is = at; near = near; stays = refl }) in let no_ : b ≡ false = not-true b f in absurd cc)

-- ---- all items

module _ (p : Parts) (rules : List (Option ℕ)) (live : List (ℕ × Item)) where
  -- each pair whose lower number lies below n keeps its need
  pub record AreKeptBelow (n : ℕ) : Type 0 where
    pub kept : (c d : ℕ) (x y : Item) → c < n → c < d → IsAt live c x → IsAt live d y → KeepsNeed p rules x y

  pub below_first : (n : ℕ) → ((m : ℕ) (x : Item) → IsAt live m x → n ≤ m) → AreKeptBelow n
  below_first n low = record { kept = λ c d x y lt less at other. absurd (omega (arith, lt, low c x at)) }

  pub below_more : (n : ℕ) → ((x : Item) → IsAt live n x → IsLeastOf (KeepsNeed p rules) live n x Each None) → AreKeptBelow n → AreKeptBelow (n + 1)
  below_more n none h = record {
    kept = λ c d x y lt less at other.
        let split : (c < n) ⊎ (c ≡ n) = grind (arith, lt) in
        elim split [
          | inl low ↦ h.kept c d x y low less at other
          | inr same ↦ none x (subst (λ (m : ℕ). IsAt live m x) same at) d tt y (omega (arith, less, same)) other
        ];
  }

  pub below_all : (n : ℕ) → ((m : ℕ) (x : Item) → IsAt live m x → m < n) → AreKeptBelow n → IsCleanBoard p rules live
  below_all n high h = λ a b x y less at other. h.kept a b x y (high a x at) less at other

  pub pair_at : (n b : ℕ) → IsThere live n → ((x : Item) → IsAt live n x → IsLeastOf (KeepsNeed p rules) live n x Each (Some b)) → AreKeptBelow n → IsLeastPair p rules live n b
  pair_at n b there least h =
      let near = (least there.0 there.1).0 in record {
        first = there.0;
        second = near.other;
        order = near.later;
        first_is = there.1;
        second_is = near.other_is;
        near = near.near;
        least = λ c d x y less before at other. elim before [
          | inl low ↦ h.kept c d x y low less at other
          | inr same ↦ (least x (subst (λ (m : ℕ). IsAt live m x) same.0 at)).1 d tt same.1 y (omega (arith, less, same.0)) other
        ];
      }

-- what is told of the one live item of a number is told of each
pub told_each : {E : Type 0} (Q : Item → Option ℕ → Type 0) (live : List (ℕ × Item)) (n : ℕ) (x : Item) (r : Result (Option ℕ) E) → ((y : Item) → IsAt live n y → y ≡ x) → IfOk r (Q x) → IfOk r (λ best. (y : Item) → IsAt live n y → Q y best)
told_each Q live n x (Ok best) only h = λ y at. subst (λ (z : Item). Q z best) (sym (only y at)) h
told_each Q live n x (Err e) only h = tt

pub there_each : {E : Type 0} (live : List (ℕ × Item)) (n : ℕ) (r : Result (Option ℕ) E) → IsThere live n → IfOk r (λ best. IfSome best (λ b. IsThere live n))
there_each live n (Ok None) h = tt
there_each live n (Ok (Some b)) h = h
there_each live n (Err e) h = tt
