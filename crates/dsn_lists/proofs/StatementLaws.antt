-- The clearances that are stated are those that are read, and the first fault of one is the one that is told.
use Rattle.std.proofs.Common.{◌≡◌, ℕ, false, List, [], ◌∷◌, ◌++◌, map, flat_map, Ok, Err, refl, sym, ap, ◌∙◌, inl, inr, ◌⊎◌}
use Rattle.std.proofs.lemmas.List.{append-nil}
use Rattle.sexp_text.specs.Forest.{Forest, End, Word, Branch}
use Rattle.sexp_text.specs.declared.units.Unit.{Unit as LengthUnit}
use Rattle.board_rules.specs.declared.design.What.{What}
use Rattle.board_rules.specs.declared.design.What.TheVariants.{Untyped}
use Rattle.board_rules.specs.declared.design.Stated.{Stated}
use Rattle.dsn_lists.specs.declared.faults.DesignFault.{DesignFault}
use Rattle.dsn_lists.specs.declared.rules.Typed.{Typed}
use Rattle.dsn_lists.specs.Results.{Read, ◌>>=◌, each}
use Rattle.dsn_lists.specs.Words.{mark, word_of}
use Rattle.dsn_lists.specs.Numbers.{width_word}
use Rattle.dsn_lists.specs.Rules.{clearance_item, untyped_unless, clearance_list}
use Rattle.dsn_lists.specs.Lists.{Every, IsFirst}
use Rattle.dsn_lists.specs.Measures.{StatesWidth, WidthWordFault}
use Rattle.dsn_lists.specs.Statements.{IsTypeList, TypeListFault, IsClearance, ClearanceFault, whats_in, stated_by, Claim, claims_for, clearance_claims}
use Rattle.dsn_lists.proofs.Firsts.{made, ok_is, bind_ok, bind_err, word_fault, word_fault_again, first_found, first_again}
use Rattle.dsn_lists.proofs.WidthWordLaws.{width_found, width_again, width_fault, width_fault_again, width_value, value_is}
use Rattle.dsn_lists.proofs.TypeLaws.{said}
use Rattle.dsn_lists.proofs.TypeItemLaws.{has_type, typed_by, types, items_found, items_again, type_item_fault, type_item_fault_again}

-- ---- a clearance

-- the statement with the width that is read
abbrev pub claimed : LengthUnit → Claim → Stated
claimed u c = record { what = c.what; value = width_value u c.size }

claimed_for : (u : LengthUnit) (text : List ℕ) (whats : List What) → map (claimed u) (claims_for text whats) ≡ said (width_value u text) whats
claimed_for u text [] = refl
claimed_for u text (w ∷ ws) = ap (λ (xs : List Stated). record { what = w; value = width_value u text } ∷ xs) (claimed_for u text ws)

unless_is : (value : ℕ) (ss : List Stated) (ts : List Forest) → untyped_unless (has_type false ts) (ss ++ said value (flat_map whats_in ts)) value ≡ ss ++ said value (stated_by ts)
unless_is value ss [] = ap (λ (s : List Stated). s ++ record { what = Untyped; value = value } ∷ []) (append-nil ss)
unless_is value ss (t ∷ ts) = refl

abbrev no_types : List Stated → Typed
no_types ss = record { typed = false; stated = ss }

-- what follows the width
abbrev clearance_rest : List Stated → Forest → ℕ → Read (List Stated)
clearance_rest ss rest value = each (clearance_item value) (no_types ss) rest >>= λ t. made (untyped_unless t.typed t.stated value)

pub clearance_found : (u : LengthUnit) (ss : List Stated) (at : ℕ) (f : Forest) (xs : List Stated) → clearance_list u ss at f ≡ Ok xs → IsClearance u f × (xs ≡ ss ++ map (claimed u) (clearance_claims f))
unfolding clearance_list word_of
clearance_found u ss at End xs e = absurd cc
clearance_found u ss at (Branch a inside rest) xs e = absurd cc
clearance_found u ss at (Word a text rest) xs e =
    let w = bind_ok (width_word u (mark a text)) (clearance_rest ss rest) xs e in
    let t = bind_ok (each (clearance_item w.0) (no_types ss) rest) (λ t. made (untyped_unless t.typed t.stated w.0)) xs w.2 in
    let width = width_found u a text w.0 w.1 in
    let all = items_found w.0 rest (no_types ss) t.0 t.1 in (
      ((w.0, width), all.0),
      sym (ok_is (untyped_unless t.0.typed t.0.stated w.0) xs t.2)
          ∙ ap (λ (t : Typed). untyped_unless t.typed t.stated w.0) all.1
          ∙ unless_is w.0 ss (types rest)
          ∙ ap (λ (v : ℕ). ss ++ said v (stated_by (types rest))) (sym (value_is u text w.0 width))
          ∙ ap (λ (s : List Stated). ss ++ s) (sym (claimed_for u text (stated_by (types rest)))),
    )

pub clearance_again : (u : LengthUnit) (ss : List Stated) (at : ℕ) (f : Forest) → IsClearance u f → clearance_list u ss at f ≡ Ok (ss ++ map (claimed u) (clearance_claims f))
unfolding clearance_list word_of
clearance_again u ss at End h = absurd h
clearance_again u ss at (Branch a inside rest) h = absurd h
clearance_again u ss at (Word a text rest) h =
    rw (width_again u a text h.0.0 h.0.1, items_again h.0.0 rest (no_types ss) h.1)
    (ap made (unless_is h.0.0 ss (types rest)
    ∙ ap (λ (v : ℕ). ss ++ said v (stated_by (types rest))) (sym (value_is u text h.0.0 h.0.1))
    ∙ ap (λ (s : List Stated). ss ++ s) (sym (claimed_for u text (stated_by (types rest))))))

items_fault : (value : ℕ) (ss : List Stated) (f : Forest) (e : DesignFault) → each (clearance_item value) (no_types ss) f ≡ Err e → IsFirst (Every IsTypeList) TypeListFault f e
items_fault value ss f e h =
    first_found (clearance_item value) (no_types ss) (λ f. typed_by value (no_types ss) (types f)) (Every IsTypeList) TypeListFault
    (λ f q k. items_found value f (no_types ss) q k)
    (λ before inside at e stand k. type_item_fault value (typed_by value (no_types ss) (types before)) before inside at e k)
    f e h

items_fault_again : (value : ℕ) (ss : List Stated) (f : Forest) (e : DesignFault) → IsFirst (Every IsTypeList) TypeListFault f e → each (clearance_item value) (no_types ss) f ≡ Err e
items_fault_again value ss f e h =
    first_again (clearance_item value) (no_types ss) (λ f. typed_by value (no_types ss) (types f)) (Every IsTypeList) TypeListFault
    (λ f k. items_again value f (no_types ss) k)
    (λ before inside at e stand k. type_item_fault_again value (typed_by value (no_types ss) (types before)) before inside at e k)
    f e h

clearance_rest_fault : (value : ℕ) (ss : List Stated) (rest : Forest) (e : DesignFault) → clearance_rest ss rest value ≡ Err e → IsFirst (Every IsTypeList) TypeListFault rest e
clearance_rest_fault value ss rest e h =
    elim (bind_err (each (clearance_item value) (no_types ss) rest) (λ t. made (untyped_unless t.typed t.stated value)) e h) [
      | inl here ↦ items_fault value ss rest e here
      | inr later ↦ absurd cc
    ]

abbrev ClearanceWordFault : LengthUnit → ℕ → List ℕ → Forest → DesignFault → Type 0
ClearanceWordFault u a text rest e = WidthWordFault u a text e ⊎ (StatesWidth u text × IsFirst (Every IsTypeList) TypeListFault rest e)

clearance_word : (u : LengthUnit) (ss : List Stated) (a : ℕ) (text : List ℕ) (rest : Forest) (e : DesignFault) → (width_word u (mark a text) >>= clearance_rest ss rest) ≡ Err e → ClearanceWordFault u a text rest e
clearance_word u ss a text rest e h =
    elim (bind_err (width_word u (mark a text)) (clearance_rest ss rest) e h) [
      | inl here ↦ inl (width_fault u a text e here)
      | inr later ↦ inr ((later.0, width_found u a text later.0 later.1), clearance_rest_fault later.0 ss rest e later.2)
    ]

clearance_word_again : (u : LengthUnit) (ss : List Stated) (a : ℕ) (text : List ℕ) (rest : Forest) (e : DesignFault) → ClearanceWordFault u a text rest e → (width_word u (mark a text) >>= clearance_rest ss rest) ≡ Err e
clearance_word_again u ss a text rest e (inl here) = rw (width_fault_again u a text e here) refl
clearance_word_again u ss a text rest e (inr later) = rw (width_again u a text later.0.0 later.0.1, items_fault_again later.0.0 ss rest e later.1) refl

pub clearance_fault : (u : LengthUnit) (ss : List Stated) (at : ℕ) (f : Forest) (e : DesignFault) → clearance_list u ss at f ≡ Err e → ClearanceFault u at f e
unfolding clearance_list
clearance_fault u ss at f e h = word_fault _ (ClearanceWordFault u) at f e (λ a text rest k. clearance_word u ss a text rest e k) h

pub clearance_fault_again : (u : LengthUnit) (ss : List Stated) (at : ℕ) (f : Forest) (e : DesignFault) → ClearanceFault u at f e → clearance_list u ss at f ≡ Err e
unfolding clearance_list
clearance_fault_again u ss at f e h = word_fault_again _ (ClearanceWordFault u) at f e (λ a text rest k. clearance_word_again u ss a text rest e k) h
