-- What the lists of a clearance name is what is read, and their first fault is the one that is told.
use Rattle.std.proofs.Common.{◌≡◌, ℕ, Bool, true, false, cond, List, [], ◌∷◌, ◌++◌, flat_map, codes, Ok, Err, refl, sym, ap, ◌∙◌, inl, inr}
use Rattle.std.proofs.lemmas.List.{append-nil}
use Rattle.std.proofs.lemmas.Grind.{flat_map-append}
use Rattle.sexp_text.specs.Forest.{Forest, End, Word, Branch}
use Rattle.board_rules.specs.declared.design.What.{What}
use Rattle.board_rules.specs.declared.design.Stated.{Stated}
use Rattle.dsn_lists.specs.declared.faults.DesignFault.{DesignFault}
use Rattle.dsn_lists.specs.declared.rules.Typed.{Typed}
use Rattle.dsn_lists.specs.Results.{◌>>=◌, each}
use Rattle.dsn_lists.specs.Words.{same, head_of}
use Rattle.dsn_lists.specs.Rules.{type_list, clearance_item}
use Rattle.dsn_lists.specs.Lists.{collect, Every, When, args_of}
use Rattle.dsn_lists.specs.ShortLists.{IsNameList, NameListFault}
use Rattle.dsn_lists.specs.Statements.{IsTypeList, TypeListFault, whats_in}
use Rattle.dsn_lists.proofs.Firsts.{made, ok_is, bind_ok, bind_err}
use Rattle.dsn_lists.proofs.TypeLaws.{said, said_more, type_found, type_again, type_fault, type_fault_again}

-- ---- the lists of a clearance

-- there is a type, also where these lists are among the rest
abbrev pub has_type : Bool → List Forest → Bool
has_type b [] = b
has_type b (t ∷ ts) = true

abbrev pub typed_by : ℕ → Typed → List Forest → Typed
typed_by value t ts = record { typed = has_type t.typed ts; stated = t.stated ++ said value (flat_map whats_in ts) }

typed_none : (value : ℕ) (t : Typed) → t ≡ typed_by value t []
typed_none value t = ap (λ (s : List Stated). record { typed = t.typed; stated = s }) (sym (append-nil t.stated))

pub has-append : (b : Bool) (xs ys : List Forest) → has_type (has_type b xs) ys ≡ has_type b (xs ++ ys)
has-append b [] ys = refl
has-append b (x ∷ xs) [] = refl
has-append b (x ∷ xs) (y ∷ ys) = refl

typed_more : (value : ℕ) (t : Typed) (xs ys : List Forest) → typed_by value (typed_by value t xs) ys ≡ typed_by value t (xs ++ ys)
typed_more value t xs ys = λ i. record {
  typed = has-append t.typed xs ys i;
  stated = (said_more value t.stated (flat_map whats_in xs) (flat_map whats_in ys) ∙ ap (λ (w : List What). t.stated ++ said value w) (sym (flat_map-append whats_in xs ys))) i;
}

item_found : (value : ℕ) (t : Typed) (at : ℕ) (args : Forest) (b : Bool) (q : Typed)
    → cond b (type_list t.stated value at args >>= λ ss. made (record { typed = true; stated = ss })) (made t) ≡ Ok q
    → When b (IsNameList args) × (q ≡ typed_by value t (cond b (args ∷ []) []))
item_found value t at args true q e =
    let s = bind_ok (type_list t.stated value at args) (λ ss. made (record { typed = true; stated = ss })) q e in
    let n = type_found t.stated value at args s.0 s.1 in
    (n.0, sym (ok_is (record { typed = true; stated = s.0 }) q s.2) ∙ ap (λ (ss : List Stated). record { typed = true; stated = ss }) (n.1 ∙ ap (λ (w : List What). t.stated ++ said value w) (sym (append-nil (whats_in args)))))
item_found value t at args false q e = (tt, sym (ok_is t q e) ∙ typed_none value t)

item_again : (value : ℕ) (t : Typed) (at : ℕ) (args : Forest) (b : Bool) → When b (IsNameList args)
    → cond b (type_list t.stated value at args >>= λ ss. made (record { typed = true; stated = ss })) (made t) ≡ Ok (typed_by value t (cond b (args ∷ []) []))
item_again value t at args true h = rw (type_again t.stated value at args h) (ap (λ (w : List What). made (record { typed = true; stated = t.stated ++ said value w })) (sym (append-nil (whats_in args))))
item_again value t at args false h = ap made (typed_none value t)

abbrev pub types : Forest → List Forest
types f = collect (args_of (codes "type")) f

pub items_found : (value : ℕ) (f : Forest) (t q : Typed) → each (clearance_item value) t f ≡ Ok q → Every IsTypeList f × (q ≡ typed_by value t (types f))
unfolding each clearance_item
items_found value End t q e = (tt, sym (ok_is t q e) ∙ typed_none value t)
items_found value (Word at text rest) t q e = absurd cc
items_found value (Branch at inside rest) t q e =
    let y = bind_ok (clearance_item value t at inside) (λ y. each (clearance_item value) y rest) q e in
    let one = item_found value t at (head_of inside).args (same (head_of inside).text (codes "type")) y.0 y.1 in
    let more = items_found value rest y.0 q y.2 in
    ((one.0, more.0), more.1 ∙ ap (λ (x : Typed). typed_by value x (types rest)) one.1 ∙ typed_more value t (args_of (codes "type") at inside) (types rest))

pub items_again : (value : ℕ) (f : Forest) (t : Typed) → Every IsTypeList f → each (clearance_item value) t f ≡ Ok (typed_by value t (types f))
unfolding each clearance_item
items_again value End t h = ap made (typed_none value t)
items_again value (Word at text rest) t h = absurd h
items_again value (Branch at inside rest) t h =
    let one = item_again value t at (head_of inside).args (same (head_of inside).text (codes "type")) h.0 in
    let more = items_again value rest (typed_by value t (args_of (codes "type") at inside)) h.1 in
    rw one (more ∙ ap made (typed_more value t (args_of (codes "type") at inside) (types rest)))

item_fault : (value : ℕ) (t : Typed) (at : ℕ) (args : Forest) (b : Bool) (e : DesignFault)
    → cond b (type_list t.stated value at args >>= λ ss. made (record { typed = true; stated = ss })) (made t) ≡ Err e
    → (b ≡ true) × NameListFault at args e
item_fault value t at args true e h =
    elim (bind_err (type_list t.stated value at args) (λ ss. made (record { typed = true; stated = ss })) e h) [
      | inl here ↦ (refl, type_fault t.stated value at args e here)
      | inr later ↦ absurd cc
    ]
item_fault value t at args false e h = absurd cc

pub type_item_fault : (value : ℕ) (t : Typed) (before inside : Forest) (at : ℕ) (e : DesignFault) → clearance_item value t at inside ≡ Err e → TypeListFault before at inside e
unfolding clearance_item
type_item_fault value t before inside at e h = item_fault value t at (head_of inside).args (same (head_of inside).text (codes "type")) e h

pub type_item_fault_again : (value : ℕ) (t : Typed) (before inside : Forest) (at : ℕ) (e : DesignFault) → TypeListFault before at inside e → clearance_item value t at inside ≡ Err e
unfolding clearance_item
type_item_fault_again value t before inside at e h = rw (h.0, type_fault_again t.stated value at (head_of inside).args e h.1) refl
