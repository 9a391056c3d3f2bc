-- What the lists with one keyword give is what is read, and their first fault is the one that is told.
use Rattle.std.proofs.Common.{◌≡◌, ℕ, Bool, true, false, cond, List, [], ◌++◌, Ok, Err, refl, sym, ap, ◌∙◌, append_assoc}
use Rattle.std.proofs.lemmas.List.{append-nil}
use Rattle.sexp_text.specs.Forest.{Forest, End, Word, Branch}
use Rattle.dsn_lists.specs.declared.faults.DesignFault.{DesignFault}
use Rattle.dsn_lists.specs.Results.{Read, each}
use Rattle.dsn_lists.specs.Words.{same, head_of}
use Rattle.dsn_lists.specs.Lists.{collect, Every, When, IsFirst}
use Rattle.dsn_lists.specs.Keyed.{keyed, HoldsWith, FaultWith, given_with}
use Rattle.dsn_lists.proofs.Firsts.{made, ok_is, bind_ok, first_found, first_again}

-- ---- one list

-- what is read of a list puts things behind those that are there
abbrev pub Found : {B : Type 0} → (List B → ℕ → Forest → Read (List B)) → (Forest → Type 0) → (Forest → List B) → Type 0
Found {B} read Is give = (xs : List B) (at : ℕ) (f : Forest) (ys : List B) → read xs at f ≡ Ok ys → Is f × (ys ≡ xs ++ give f)

abbrev pub Again : {B : Type 0} → (List B → ℕ → Forest → Read (List B)) → (Forest → Type 0) → (Forest → List B) → Type 0
Again {B} read Is give = (xs : List B) (at : ℕ) (f : Forest) → Is f → read xs at f ≡ Ok (xs ++ give f)

abbrev pub FaultFound : {B : Type 0} → (List B → ℕ → Forest → Read (List B)) → (ℕ → Forest → DesignFault → Type 0) → Type 0
FaultFound {B} read HasFault = (xs : List B) (at : ℕ) (f : Forest) (e : DesignFault) → read xs at f ≡ Err e → HasFault at f e

abbrev pub FaultAgain : {B : Type 0} → (List B → ℕ → Forest → Read (List B)) → (ℕ → Forest → DesignFault → Type 0) → Type 0
FaultAgain {B} read HasFault = (xs : List B) (at : ℕ) (f : Forest) (e : DesignFault) → HasFault at f e → read xs at f ≡ Err e

one_found : {B : Type 0} (read : List B → ℕ → Forest → Read (List B)) (Is : Forest → Type 0) (give : Forest → List B) → Found read Is give
    → (xs : List B) (at : ℕ) (args : Forest) (b : Bool) (ys : List B) → cond b (read xs at args) (made xs) ≡ Ok ys → When b (Is args) × (ys ≡ xs ++ cond b (give args) [])
one_found read Is give found xs at args true ys e = found xs at args ys e
one_found read Is give found xs at args false ys e = (tt, sym (ok_is xs ys e) ∙ sym (append-nil xs))

one_again : {B : Type 0} (read : List B → ℕ → Forest → Read (List B)) (Is : Forest → Type 0) (give : Forest → List B) → Again read Is give
    → (xs : List B) (at : ℕ) (args : Forest) (b : Bool) → When b (Is args) → cond b (read xs at args) (made xs) ≡ Ok (xs ++ cond b (give args) [])
one_again read Is give again xs at args true h = again xs at args h
one_again read Is give again xs at args false h = ap made (sym (append-nil xs))

one_fault : {B : Type 0} (read : List B → ℕ → Forest → Read (List B)) (HasFault : ℕ → Forest → DesignFault → Type 0) → FaultFound read HasFault
    → (xs : List B) (at : ℕ) (args : Forest) (b : Bool) (e : DesignFault) → cond b (read xs at args) (made xs) ≡ Err e → (b ≡ true) × HasFault at args e
one_fault read HasFault fault xs at args true e h = (refl, fault xs at args e h)
one_fault read HasFault fault xs at args false e h = absurd cc

-- ---- all lists

pub keyed_found : {B : Type 0} (name : List ℕ) (read : List B → ℕ → Forest → Read (List B)) (Is : Forest → Type 0) (give : Forest → List B) → Found read Is give
    → (f : Forest) (xs ys : List B) → each (keyed name read) xs f ≡ Ok ys → Every (HoldsWith name Is) f × (ys ≡ xs ++ collect (given_with name give) f)
unfolding each
keyed_found name read Is give found End xs ys e = (tt, sym (ok_is xs ys e) ∙ sym (append-nil xs))
keyed_found name read Is give found (Word at text rest) xs ys e = absurd cc
keyed_found {B} name read Is give found (Branch at inside rest) xs ys e =
    let z = bind_ok (keyed name read xs at inside) (λ z. each (keyed name read) z rest) ys e in
    let one = one_found read Is give found xs at (head_of inside).args (same (head_of inside).text name) z.0 z.1 in
    let more = keyed_found name read Is give found rest z.0 ys z.2 in
    let later = collect (given_with name give) rest in
    ((one.0, more.0), more.1 ∙ ap (λ (x : List B). x ++ later) one.1 ∙ append_assoc xs (given_with name give at inside) later)

pub keyed_again : {B : Type 0} (name : List ℕ) (read : List B → ℕ → Forest → Read (List B)) (Is : Forest → Type 0) (give : Forest → List B) → Again read Is give
    → (f : Forest) (xs : List B) → Every (HoldsWith name Is) f → each (keyed name read) xs f ≡ Ok (xs ++ collect (given_with name give) f)
unfolding each
keyed_again name read Is give again End xs h = ap made (sym (append-nil xs))
keyed_again name read Is give again (Word at text rest) xs h = absurd h
keyed_again name read Is give again (Branch at inside rest) xs h =
    let one = one_again read Is give again xs at (head_of inside).args (same (head_of inside).text name) h.0 in
    let later = collect (given_with name give) rest in
    rw one (keyed_again name read Is give again rest (xs ++ given_with name give at inside) h.1 ∙ ap made (append_assoc xs (given_with name give at inside) later))

pub keyed_fault : {B : Type 0} (name : List ℕ) (read : List B → ℕ → Forest → Read (List B)) (Is : Forest → Type 0) (give : Forest → List B) (HasFault : ℕ → Forest → DesignFault → Type 0)
    → Found read Is give → FaultFound read HasFault → (xs : List B) (f : Forest) (e : DesignFault) → each (keyed name read) xs f ≡ Err e → IsFirst (Every (HoldsWith name Is)) (FaultWith name HasFault) f e
keyed_fault name read Is give HasFault found fault xs f e h =
    first_found (keyed name read) xs (λ f. xs ++ collect (given_with name give) f) (Every (HoldsWith name Is)) (FaultWith name HasFault) (λ f ys k. keyed_found name read Is give found f xs ys k)
    (λ before inside at e stand k. one_fault read HasFault fault (xs ++ collect (given_with name give) before) at (head_of inside).args (same (head_of inside).text name) e k) f e h

pub keyed_fault_again : {B : Type 0} (name : List ℕ) (read : List B → ℕ → Forest → Read (List B)) (Is : Forest → Type 0) (give : Forest → List B) (HasFault : ℕ → Forest → DesignFault → Type 0)
    → Again read Is give → FaultAgain read HasFault → (xs : List B) (f : Forest) (e : DesignFault) → IsFirst (Every (HoldsWith name Is)) (FaultWith name HasFault) f e → each (keyed name read) xs f ≡ Err e
keyed_fault_again {B} name read Is give HasFault again fault xs f e h =
    first_again (keyed name read) xs (λ f. xs ++ collect (given_with name give) f) (Every (HoldsWith name Is)) (FaultWith name HasFault) (λ f k. keyed_again name read Is give again f xs k)
    (λ before inside at e stand k.
    let all = xs ++ collect (given_with name give) before in
    ap (λ (b : Bool). cond b (read all at (head_of inside).args) (made all)) k.0 ∙ fault all at (head_of inside).args e k.1)
    f e h
