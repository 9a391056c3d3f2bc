-- The circuits of classes are those that are read, and the fault of one is the one that is told.
use Rattle.std.proofs.Common.{◌≡◌, ℕ, ◌≤◌, ◌<◌, Bool, true, false, cond, ltb, List, [], ◌∷◌, ◌++◌, codes, length, Ok, Err, refl, sym, ap, ◌∙◌, arith, inl, inr}
use Rattle.std.proofs.lemmas.Bool.{ltb-true, ltb-false, le-ltb, lt-ltb}
use Rattle.std.proofs.lemmas.List.{append-nil, length-append}
use Rattle.sexp_text.specs.Forest.{Forest}
use Rattle.dsn_lists.specs.declared.faults.DesignFault.{DesignFault}
use Rattle.dsn_lists.specs.declared.faults.DesignKind.TheVariants as kind
use Rattle.dsn_lists.specs.declared.marks.Mark.{Mark}
use Rattle.dsn_lists.specs.Results.{each}
use Rattle.dsn_lists.specs.Words.{name_list}
use Rattle.dsn_lists.specs.Lists.{collect, Every, told, IsFirst}
use Rattle.dsn_lists.specs.ShortLists.{first_words, IsNameList, NameListFault}
use Rattle.dsn_lists.proofs.Firsts.{made, ok_is, bind_ok, bind_err}
use Rattle.dsn_lists.proofs.KeyedLaws.{keyed_found, keyed_again, keyed_fault, keyed_fault_again}
use Rattle.dsn_lists.proofs.ShortLaws.{names_found, names_again, names_fault, names_fault_again}
use Rattle.dsn_network.specs.Networks.{one_more_use, use_item, more_vias, circuit_of}
use Rattle.dsn_network.specs.ClassLists.{IsUse, UseFault, uses_in, IsCircuit, CircuitFault}

-- ---- the lists of a circuit

-- the names of one list
abbrev uses_of : Forest → List (List Mark)
uses_of f = first_words f ∷ []

use_found : (vs : List (List Mark)) (at : ℕ) (f : Forest) (ws : List (List Mark)) → one_more_use vs at f ≡ Ok ws → IsNameList f × (ws ≡ vs ++ uses_of f)
use_found vs at f ws e =
    let ms = bind_ok (name_list at f) (λ ms. made (vs ++ ms ∷ [])) ws e in
    let n = names_found at f ms.0 ms.1 in
    (n.0, sym (ok_is (vs ++ ms.0 ∷ []) ws ms.2) ∙ ap (λ (x : List Mark). vs ++ x ∷ []) n.1)

use_again : (vs : List (List Mark)) (at : ℕ) (f : Forest) → IsNameList f → one_more_use vs at f ≡ Ok (vs ++ uses_of f)
use_again vs at f h = rw (names_again at f h) refl

use_fault : (vs : List (List Mark)) (at : ℕ) (f : Forest) (e : DesignFault) → one_more_use vs at f ≡ Err e → NameListFault at f e
use_fault vs at f e h =
    elim (bind_err (name_list at f) (λ ms. made (vs ++ ms ∷ [])) e h) [
      | inl here ↦ names_fault at f e here
      | inr later ↦ absurd cc
    ]

use_fault_again : (vs : List (List Mark)) (at : ℕ) (f : Forest) (e : DesignFault) → NameListFault at f e → one_more_use vs at f ≡ Err e
use_fault_again vs at f e h = rw (names_fault_again at f e h) refl

uses_found : (f : Forest) (vs ws : List (List Mark)) → each use_item vs f ≡ Ok ws → Every IsUse f × (ws ≡ vs ++ collect uses_in f)
unfolding use_item
uses_found f vs ws e = keyed_found (codes "use_via") one_more_use IsNameList uses_of use_found f vs ws e

uses_again : (f : Forest) (vs : List (List Mark)) → Every IsUse f → each use_item vs f ≡ Ok (vs ++ collect uses_in f)
unfolding use_item
uses_again f vs h = keyed_again (codes "use_via") one_more_use IsNameList uses_of use_again f vs h

uses_fault : (vs : List (List Mark)) (f : Forest) (e : DesignFault) → each use_item vs f ≡ Err e → IsFirst (Every IsUse) UseFault f e
unfolding use_item
uses_fault vs f e h = keyed_fault (codes "use_via") one_more_use IsNameList uses_of NameListFault use_found use_fault vs f e h

uses_fault_again : (vs : List (List Mark)) (f : Forest) (e : DesignFault) → IsFirst (Every IsUse) UseFault f e → each use_item vs f ≡ Err e
unfolding use_item
uses_fault_again vs f e h = keyed_fault_again (codes "use_via") one_more_use IsNameList uses_of NameListFault use_again use_fault_again vs f e h

-- ---- a circuit

choose_ok : (b : Bool) (x y : List (List Mark)) (d : DesignFault) → cond b (made x) (Err d) ≡ Ok y → (b ≡ true) × (x ≡ y)
choose_ok true x y d e = (refl, ok_is x y e)
choose_ok false x y d e = absurd cc

choose_err : (b : Bool) (x : List (List Mark)) (d e : DesignFault) → cond b (made x) (Err d) ≡ Err e → (b ≡ false) × (e ≡ d)
choose_err true x d e h = absurd cc
choose_err false x d e h = (refl, cc)

more_ok : (at : ℕ) (vs us ws : List (List Mark)) → more_vias at (length vs) (vs ++ us) ≡ Ok ws → (0 < length us) × (vs ++ us ≡ ws)
unfolding more_vias
more_ok at vs us ws e =
    let c = choose_ok (ltb (length vs) (length (vs ++ us))) (vs ++ us) ws (told kind.Form at) e in
    let more = ltb-true (length vs) (length (vs ++ us)) c.0 in
    let sum = length-append vs us in
    (omega arith, c.1)

ok_more : (at : ℕ) (vs us : List (List Mark)) → 0 < length us → more_vias at (length vs) (vs ++ us) ≡ Ok (vs ++ us)
unfolding more_vias
ok_more at vs us h = let sum = length-append vs us in rw (lt-ltb (length vs) (length (vs ++ us)) (omega arith)) refl

is_none : {A : Type 0} (xs : List A) → length xs ≤ 0 → xs ≡ []
is_none [] h = refl
is_none (x ∷ xs) h = absurd (omega arith)

more_err : (at : ℕ) (vs us : List (List Mark)) (e : DesignFault) → more_vias at (length vs) (vs ++ us) ≡ Err e → (us ≡ []) × (e ≡ told kind.Form at)
unfolding more_vias
more_err at vs us e h =
    let c = choose_err (ltb (length vs) (length (vs ++ us))) (vs ++ us) (told kind.Form at) e h in
    let less = ltb-false (length vs) (length (vs ++ us)) c.0 in
    let sum = length-append vs us in
    (is_none us (omega arith), c.1)

err_more : (at : ℕ) (vs : List (List Mark)) → more_vias at (length vs) (vs ++ []) ≡ Err (told kind.Form at)
unfolding more_vias
err_more at vs = let same = ap length (append-nil vs) in rw (le-ltb (length vs) (length (vs ++ [])) (omega arith)) refl

pub circuit_found : (vs : List (List Mark)) (at : ℕ) (f : Forest) (ws : List (List Mark)) → circuit_of vs at f ≡ Ok ws → IsCircuit f × (ws ≡ vs ++ collect uses_in f)
unfolding circuit_of
circuit_found vs at f ws e =
    let y = bind_ok (each use_item vs f) (λ all. more_vias at (length vs) all) ws e in
    let h = uses_found f vs y.0 y.1 in
    let m = more_ok at vs (collect uses_in f) ws (ap (λ (x : List (List Mark)). more_vias at (length vs) x) (sym h.1) ∙ y.2) in
    ((h.0, m.0), sym m.1)

pub circuit_again : (vs : List (List Mark)) (at : ℕ) (f : Forest) → IsCircuit f → circuit_of vs at f ≡ Ok (vs ++ collect uses_in f)
unfolding circuit_of
circuit_again vs at f h = rw (uses_again f vs h.0) (ok_more at vs (collect uses_in f) h.1)

pub circuit_fault : (vs : List (List Mark)) (at : ℕ) (f : Forest) (e : DesignFault) → circuit_of vs at f ≡ Err e → CircuitFault at f e
unfolding circuit_of
circuit_fault vs at f e h =
    elim (bind_err (each use_item vs f) (λ all. more_vias at (length vs) all) e h) [
      | inl here ↦ inl (uses_fault vs f e here)
      | inr later ↦
          let all = uses_found f vs later.0 later.1 in
          let none = more_err at vs (collect uses_in f) e (ap (λ (x : List (List Mark)). more_vias at (length vs) x) (sym all.1) ∙ later.2) in
          inr (all.0, none.0, none.1)
    ]

pub circuit_fault_again : (vs : List (List Mark)) (at : ℕ) (f : Forest) (e : DesignFault) → CircuitFault at f e → circuit_of vs at f ≡ Err e
unfolding circuit_of
circuit_fault_again vs at f e (inl here) = rw (uses_fault_again vs f e here) refl
circuit_fault_again vs at f e (inr none) = rw (uses_again f vs none.0, none.1, none.2) (err_more at vs)
