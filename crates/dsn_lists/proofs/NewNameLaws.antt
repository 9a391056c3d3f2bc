-- A name is let in exactly where it is new, and its fault is the one that is told.
use Rattle.std.proofs.Common.{◌≡◌, ℕ, Bool, true, false, cond, ltb, List, length, Ok, Err, refl, arith, inl, inr}
use Rattle.std.proofs.lemmas.Bool.{ltb-true, ltb-false, le-ltb, lt-ltb}
use Rattle.dsn_lists.specs.declared.faults.DesignFault.{DesignFault}
use Rattle.dsn_lists.specs.declared.faults.DesignKind.TheVariants as kind
use Rattle.dsn_lists.specs.Results.{Read, wrong}
use Rattle.dsn_lists.specs.Names.{is_among}
use Rattle.dsn_lists.specs.Words.{mark}
use Rattle.dsn_lists.specs.Lists.{told}
use Rattle.dsn_lists.specs.NewNames.{IsNewName, OldNameFault, fresh_name, new_name}
use Rattle.dsn_lists.proofs.Firsts.{made, guard_ok, guard_err}

-- ---- of any number of names

pub fresh_found : (names : List (List ℕ)) (a : ℕ) (text : List ℕ) (x : Unit {0}) → fresh_name names (mark a text) ≡ Ok x → is_among text names ≡ false
unfolding fresh_name
fresh_found names a text x e = (guard_ok (is_among text names) (told kind.Twice a) (made tt) x e).0

pub fresh_again : (names : List (List ℕ)) (a : ℕ) (text : List ℕ) → is_among text names ≡ false → fresh_name names (mark a text) ≡ Ok tt
unfolding fresh_name
fresh_again names a text h = rw h refl

pub fresh_fault : (names : List (List ℕ)) (a : ℕ) (text : List ℕ) (e : DesignFault) → fresh_name names (mark a text) ≡ Err e → (is_among text names ≡ true) × (e ≡ told kind.Twice a)
unfolding fresh_name
fresh_fault names a text e h =
    elim (guard_err (is_among text names) (told kind.Twice a) (made tt) e h) [
      | inl old ↦ old
      | inr later ↦ absurd cc
    ]

pub fresh_fault_again : (names : List (List ℕ)) (a : ℕ) (text : List ℕ) (e : DesignFault) → is_among text names ≡ true → e ≡ told kind.Twice a → fresh_name names (mark a text) ≡ Err e
unfolding fresh_name
fresh_fault_again names a text e old is = rw (old, is) refl

-- ---- of at most so many

-- what is left of a name that is none of the others
abbrev few_or : Bool → ℕ → Read (Unit {0})
few_or b a = cond b (made tt) (wrong kind.Large a)

few_ok : (b : Bool) (a : ℕ) (x : Unit {0}) → few_or b a ≡ Ok x → b ≡ true
few_ok true a x e = refl
few_ok false a x e = absurd cc

few_err : (b : Bool) (a : ℕ) (e : DesignFault) → few_or b a ≡ Err e → (b ≡ false) × (e ≡ told kind.Large a)
few_err true a e h = absurd cc
few_err false a e h = (refl, cc)

pub new_found : (most : ℕ) (names : List (List ℕ)) (a : ℕ) (text : List ℕ) (x : Unit {0}) → new_name most names (mark a text) ≡ Ok x → IsNewName most names text
unfolding new_name
new_found most names a text x e =
    let g = guard_ok (is_among text names) (told kind.Twice a) (few_or (ltb (length names) most) a) x e in
    (g.0, let few = ltb-true (length names) most (few_ok (ltb (length names) most) a x g.1) in omega arith)

pub new_again : (most : ℕ) (names : List (List ℕ)) (a : ℕ) (text : List ℕ) → IsNewName most names text → new_name most names (mark a text) ≡ Ok tt
unfolding new_name
new_again most names a text h = let few = h.1 in rw (h.0, lt-ltb (length names) most (omega arith)) refl

pub new_fault : (most : ℕ) (names : List (List ℕ)) (a : ℕ) (text : List ℕ) (e : DesignFault) → new_name most names (mark a text) ≡ Err e → OldNameFault most names text a e
unfolding new_name
new_fault most names a text e h =
    elim (guard_err (is_among text names) (told kind.Twice a) (few_or (ltb (length names) most) a) e h) [
      | inl old ↦ inl old
      | inr fresh ↦
          let full = few_err (ltb (length names) most) a e fresh.1 in
          inr (fresh.0, (let many = ltb-false (length names) most full.0 in omega arith), full.1)
    ]

pub new_fault_again : (most : ℕ) (names : List (List ℕ)) (a : ℕ) (text : List ℕ) (e : DesignFault) → OldNameFault most names text a e → new_name most names (mark a text) ≡ Err e
unfolding new_name
new_fault_again most names a text e (inl old) = rw (old.0, old.1) refl
new_fault_again most names a text e (inr full) = let many = full.1 in rw (full.0, le-ltb (length names) most (omega arith), full.2) refl
