-- The types of a layer are those that are read, and their faults are those that are told.
use Rattle.std.proofs.Common.{◌≡◌, ℕ, ◌≤◌, Bool, true, false, cond, ltb, List, [], ◌∷◌, codes, length, Ok, Err, refl, sym, ap, ◌∙◌, arith, inl, inr, ◌⊎◌}
use Rattle.std.proofs.lemmas.Bool.{ltb-true, ltb-false, le-ltb, lt-ltb}
use Rattle.sexp_text.specs.Forest.{Forest, End, Word, Branch}
use Rattle.dsn_lists.specs.declared.faults.DesignFault.{DesignFault}
use Rattle.dsn_lists.specs.declared.faults.DesignKind.TheVariants as kind
use Rattle.dsn_lists.specs.Results.{Read, ◌>>=◌, each}
use Rattle.dsn_lists.specs.Words.{same, head_of, one_word}
use Rattle.dsn_lists.specs.Lists.{collect, Every, When, args_of, IsFirst}
use Rattle.dsn_lists.specs.ShortLists.{IsOneWord, OneWordFault}
use Rattle.dsn_lists.proofs.Firsts.{made, ok_is, bind_ok, bind_err, first_found, first_again}
use Rattle.dsn_lists.proofs.ShortLaws.{one_found, one_again, one_fault, one_fault_again}
use Rattle.dsn_lists.proofs.TypeItemLaws.{has_type, has-append}
use Rattle.dsn_structure.specs.Structures.{type_item}
use Rattle.dsn_structure.specs.LayerLists.{IsProperty, PropertyFault}

-- ---- the lists of a layer

abbrev step : Bool → ℕ → Forest → Bool → Read Bool
step typed at args b = cond b (one_word at args >>= λ _. made true) (made typed)

type_found : (typed : Bool) (at : ℕ) (args : Forest) (b c : Bool) → step typed at args b ≡ Ok c → When b (IsOneWord args) × (c ≡ has_type typed (cond b (args ∷ []) []))
type_found typed at args true c e = let w = bind_ok (one_word at args) (λ _. made true) c e in (one_found at args w.0 w.1, sym (ok_is true c w.2))
type_found typed at args false c e = (tt, sym (ok_is typed c e))

type_again : (typed : Bool) (at : ℕ) (args : Forest) (b : Bool) → When b (IsOneWord args) → step typed at args b ≡ Ok (has_type typed (cond b (args ∷ []) []))
type_again typed at args true h = let w = one_again at args h in rw w.1 refl
type_again typed at args false h = refl

type_fault : (typed : Bool) (at : ℕ) (args : Forest) (b : Bool) (e : DesignFault) → step typed at args b ≡ Err e → (b ≡ true) × OneWordFault at args e
type_fault typed at args true e h =
    elim (bind_err (one_word at args) (λ _. made true) e h) [
      | inl here ↦ (refl, one_fault at args e here)
      | inr later ↦ absurd cc
    ]
type_fault typed at args false e h = absurd cc

abbrev pub types : Forest → List Forest
types f = collect (args_of (codes "type")) f

pub types_found : (f : Forest) (b c : Bool) → each type_item b f ≡ Ok c → Every IsProperty f × (c ≡ has_type b (types f))
unfolding each type_item
types_found End b c e = (tt, sym (ok_is b c e))
types_found (Word at text rest) b c e = absurd cc
types_found (Branch at inside rest) b c e =
    let y = bind_ok (type_item b at inside) (λ y. each type_item y rest) c e in
    let one = type_found b at (head_of inside).args (same (head_of inside).text (codes "type")) y.0 y.1 in
    let more = types_found rest y.0 c y.2 in
    ((one.0, more.0), more.1 ∙ ap (λ (x : Bool). has_type x (types rest)) one.1 ∙ has-append b (args_of (codes "type") at inside) (types rest))

pub types_again : (f : Forest) (b : Bool) → Every IsProperty f → each type_item b f ≡ Ok (has_type b (types f))
unfolding each type_item
types_again End b h = refl
types_again (Word at text rest) b h = absurd h
types_again (Branch at inside rest) b h =
    let one = type_again b at (head_of inside).args (same (head_of inside).text (codes "type")) h.0 in
    rw one (types_again rest (has_type b (args_of (codes "type") at inside)) h.1 ∙ ap made (has-append b (args_of (codes "type") at inside) (types rest)))

item_fault : (typed : Bool) (before inside : Forest) (at : ℕ) (e : DesignFault) → type_item typed at inside ≡ Err e → PropertyFault before at inside e
unfolding type_item
item_fault typed before inside at e h = type_fault typed at (head_of inside).args (same (head_of inside).text (codes "type")) e h

item_fault_again : (typed : Bool) (before inside : Forest) (at : ℕ) (e : DesignFault) → PropertyFault before at inside e → type_item typed at inside ≡ Err e
unfolding type_item
item_fault_again typed before inside at e h = rw (h.0, one_fault_again at (head_of inside).args e h.1) refl

pub types_fault : (f : Forest) (e : DesignFault) → each type_item false f ≡ Err e → IsFirst (Every IsProperty) PropertyFault f e
types_fault f e h =
    first_found type_item false (λ f. has_type false (types f)) (Every IsProperty) PropertyFault (λ f c k. types_found f false c k)
    (λ before inside at e stand k. item_fault (has_type false (types before)) before inside at e k) f e h

pub types_fault_again : (f : Forest) (e : DesignFault) → IsFirst (Every IsProperty) PropertyFault f e → each type_item false f ≡ Err e
types_fault_again f e h =
    first_again type_item false (λ f. has_type false (types f)) (Every IsProperty) PropertyFault (λ f k. types_again f false k)
    (λ before inside at e stand k. item_fault_again (has_type false (types before)) before inside at e k) f e h
