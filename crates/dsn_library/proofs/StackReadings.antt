-- The padstacks that stand in a library are those that are read, and the fault of one is the one that is told.
use Rattle.std.proofs.Common.{◌≡◌, ℕ, ◌<◌, Bool, true, false, cond, List, [], ◌∷◌, length, Ok, Err, refl, sym, ap, subst, ◌∙◌, arith, inl, inr, ◌⊎◌}
use Rattle.sexp_text.specs.Forest.{Forest, End, Word, Branch}
use Rattle.sexp_text.specs.declared.units.Unit.{Unit as LengthUnit}
use Rattle.area_geometry.specs.declared.shapes.Shape.{Shape}
use Rattle.board_items.specs.declared.items.Padstack.{Padstack}
use Rattle.dsn_lists.specs.declared.faults.DesignFault.{DesignFault}
use Rattle.dsn_lists.specs.declared.faults.DesignKind.TheVariants as kind
use Rattle.dsn_lists.specs.Results.{Read, ◌>>=◌, each}
use Rattle.dsn_lists.specs.Words.{mark, word_of}
use Rattle.dsn_lists.specs.Lists.{Joins, told}
use Rattle.dsn_lists.proofs.Firsts.{made, ok_is, bind_ok, bind_err, word_fault, word_fault_again}
use Rattle.dsn_lists.proofs.JoinLaws.{joins_found, joins_again, joins_fault, joins_fault_again}
use Rattle.dsn_library.specs.declared.stacks.Drawn.{Drawn}
use Rattle.dsn_library.specs.Libraries.{stack_item, nothing_drawn, as_stack, stack_of}
use Rattle.dsn_lists.specs.NewNames.{IsNewName, OldNameFault, first_name, new_name}
use Rattle.dsn_library.specs.StackLists.{IsStackList, StackListFault, IsNamedStack, IsStack, NoStackFault, StackFault}
use Rattle.dsn_lists.proofs.NewNameLaws.{new_found, new_again, new_fault, new_fault_again}
use Rattle.dsn_library.proofs.StackListLaws.{some, all_shapes, adding, list_fault, list_fault_again, lists_add}

-- ---- a padstack with shapes

some_is : (drawn : List (List Shape)) → some drawn ≡ true → 0 < length drawn
some_is [] e = absurd cc
some_is (ss ∷ drawn) e = omega arith

is_some : (drawn : List (List Shape)) → 0 < length drawn → some drawn ≡ true
is_some [] h = absurd (omega arith)
is_some (ss ∷ drawn) h = refl

none_is : (drawn : List (List Shape)) → some drawn ≡ false → drawn ≡ []
none_is [] e = refl
none_is (ss ∷ drawn) e = absurd cc

abbrev padstack : List ℕ → List Shape → Padstack
padstack name ss = record { name = name; shapes = ss }

choose_ok : (b : Bool) (x y : Padstack) (d : DesignFault) → cond b (made x) (Err d) ≡ Ok y → (b ≡ true) × (x ≡ y)
choose_ok true x y d e = (refl, ok_is x y e)
choose_ok false x y d e = absurd cc

choose_err : (b : Bool) (x : Padstack) (d e : DesignFault) → cond b (made x) (Err d) ≡ Err e → (b ≡ false) × (e ≡ d)
choose_err true x d e h = absurd cc
choose_err false x d e h = (refl, cc)

-- what is drawn by these lists
abbrev all_drawn : List (List Shape) → Drawn
all_drawn drawn = adding nothing_drawn drawn

-- what follows the name
abbrev lists_rest : LengthUnit → List (List ℕ) → ℕ → List ℕ → Forest → Read Padstack
lists_rest u layers at name f = each (stack_item u layers) nothing_drawn f >>= λ d. as_stack at name d

named_found : (u : LengthUnit) (layers : List (List ℕ)) (at : ℕ) (name : List ℕ) (f : Forest) (p : Padstack) → lists_rest u layers at name f ≡ Ok p → IsNamedStack u layers name f p
unfolding as_stack
named_found u layers at name f p e =
    let d = bind_ok (each (stack_item u layers) nothing_drawn f) (λ d. as_stack at name d) p e in
    let j = joins_found (stack_item u layers) adding (IsStackList u layers) (lists_add u layers) f nothing_drawn d.0 d.1 in
    let c = choose_ok (some j.0) (padstack name (all_shapes j.0)) p (told kind.Form at) (ap (λ (x : Drawn). as_stack at name x) (sym j.2) ∙ d.2) in
    record { drawn = j.0; lists = j.1; some = some_is j.0 c.0; name_is = ap (λ (x : Padstack). x.name) (sym c.1); shapes = ap (λ (x : Padstack). x.shapes) (sym c.1) }

named_again : (u : LengthUnit) (layers : List (List ℕ)) (at : ℕ) (name : List ℕ) (f : Forest) (p : Padstack) → IsNamedStack u layers name f p → lists_rest u layers at name f ≡ Ok p
unfolding as_stack
named_again u layers at name f p h =
    let whole : padstack name (all_shapes h.drawn) ≡ p = λ i. record { name = sym h.name_is i; shapes = sym h.shapes i } in
    let read = joins_again (stack_item u layers) adding (IsStackList u layers) (lists_add u layers) f nothing_drawn h.drawn h.lists in
    rw (read, is_some h.drawn h.some) (ap made whole)

named_fault : (u : LengthUnit) (layers : List (List ℕ)) (at : ℕ) (name : List ℕ) (f : Forest) (e : DesignFault) → lists_rest u layers at name f ≡ Err e → NoStackFault u layers at f e
unfolding as_stack
named_fault u layers at name f e h =
    elim (bind_err (each (stack_item u layers) nothing_drawn f) (λ d. as_stack at name d) e h) [
      | inl here ↦ inl (joins_fault (stack_item u layers) adding (IsStackList u layers) (lists_add u layers) (StackListFault u layers) (list_fault u layers) nothing_drawn f e here)
      | inr d ↦
          let j = joins_found (stack_item u layers) adding (IsStackList u layers) (lists_add u layers) f nothing_drawn d.0 d.1 in
          let c = choose_err (some j.0) (padstack name (all_shapes j.0)) (told kind.Form at) e (ap (λ (x : Drawn). as_stack at name x) (sym j.2) ∙ d.2) in
          inr (subst (λ (x : List (List Shape)). Joins (IsStackList u layers) f x) (none_is j.0 c.0) j.1, c.1)
    ]

named_fault_again : (u : LengthUnit) (layers : List (List ℕ)) (at : ℕ) (name : List ℕ) (f : Forest) (e : DesignFault) → NoStackFault u layers at f e → lists_rest u layers at name f ≡ Err e
unfolding as_stack
named_fault_again u layers at name f e (inl here) =
    rw (joins_fault_again (stack_item u layers) adding (IsStackList u layers) (lists_add u layers) (StackListFault u layers) (list_fault_again u layers) nothing_drawn f e here) refl
named_fault_again u layers at name f e (inr none) =
    rw (joins_again (stack_item u layers) adding (IsStackList u layers) (lists_add u layers) f nothing_drawn [] none.0, none.1) refl

-- ---- a padstack

-- what follows the word of the name
abbrev name_rest : LengthUnit → List (List ℕ) → List (List ℕ) → ℕ → ℕ → List ℕ → Forest → Read Padstack
name_rest u layers names at a text rest = new_name 65535 names (mark a text) >>= λ _. lists_rest u layers at text rest

pub stack_found : (u : LengthUnit) (layers names : List (List ℕ)) (at : ℕ) (f : Forest) (p : Padstack) → stack_of u layers names at f ≡ Ok p → IsStack u layers f p × (first_name f ≡ p.name ∷ []) × IsNewName 65535 names p.name
unfolding stack_of word_of
stack_found u layers names at End p e = absurd cc
stack_found u layers names at (Branch a inside rest) p e = absurd cc
stack_found u layers names at (Word a text rest) p e =
    let new = bind_ok (new_name 65535 names (mark a text)) (λ _. lists_rest u layers at text rest) p e in
    let s = named_found u layers at text rest p new.2 in
    (s, ap (λ (x : List ℕ). x ∷ []) (sym s.name_is), subst (λ (x : List ℕ). IsNewName 65535 names x) (sym s.name_is) (new_found 65535 names a text new.0 new.1))

pub stack_again : (u : LengthUnit) (layers names : List (List ℕ)) (at : ℕ) (f : Forest) (p : Padstack) → IsStack u layers f p → IsNewName 65535 names p.name → stack_of u layers names at f ≡ Ok p
unfolding stack_of word_of
stack_again u layers names at End p h new = absurd h
stack_again u layers names at (Branch a inside rest) p h new = absurd h
stack_again u layers names at (Word a text rest) p h new =
    rw (new_again 65535 names a text (subst (λ (x : List ℕ). IsNewName 65535 names x) h.name_is new)) (named_again u layers at text rest p h)

pub stack_name : (u : LengthUnit) (layers : List (List ℕ)) (f : Forest) (p : Padstack) → IsStack u layers f p → first_name f ≡ p.name ∷ []
stack_name u layers End p h = absurd h
stack_name u layers (Branch a inside rest) p h = absurd h
stack_name u layers (Word a text rest) p h = ap (λ (x : List ℕ). x ∷ []) (sym h.name_is)

abbrev read_list : Read Padstack → List Padstack
read_list (Ok p) = p ∷ []
read_list (Err e) = []

-- the padstack of a list, where it is one
abbrev pub stack_value : LengthUnit → List (List ℕ) → Forest → List Padstack
stack_value u layers f = read_list (stack_of u layers [] 0 f)

-- a padstack is what is read
pub stack_is : (u : LengthUnit) (layers : List (List ℕ)) (f : Forest) (p : Padstack) → IsStack u layers f p → stack_value u layers f ≡ p ∷ []
stack_is u layers f p h = ap read_list (stack_again u layers [] 0 f p h (refl, omega arith))

abbrev StackWordFault : LengthUnit → List (List ℕ) → List (List ℕ) → ℕ → ℕ → List ℕ → Forest → DesignFault → Type 0
StackWordFault u layers names at a text rest e = OldNameFault 65535 names text a e ⊎ (IsNewName 65535 names text × NoStackFault u layers at rest e)

stack_word_fault : (u : LengthUnit) (layers names : List (List ℕ)) (at a : ℕ) (text : List ℕ) (rest : Forest) (e : DesignFault) → name_rest u layers names at a text rest ≡ Err e → StackWordFault u layers names at a text rest e
stack_word_fault u layers names at a text rest e h =
    elim (bind_err (new_name 65535 names (mark a text)) (λ _. lists_rest u layers at text rest) e h) [
      | inl here ↦ inl (new_fault 65535 names a text e here)
      | inr later ↦ inr (new_found 65535 names a text later.0 later.1, named_fault u layers at text rest e later.2)
    ]

stack_word_again : (u : LengthUnit) (layers names : List (List ℕ)) (at a : ℕ) (text : List ℕ) (rest : Forest) (e : DesignFault) → StackWordFault u layers names at a text rest e → name_rest u layers names at a text rest ≡ Err e
stack_word_again u layers names at a text rest e (inl old) = rw (new_fault_again 65535 names a text e old) refl
stack_word_again u layers names at a text rest e (inr later) = rw (new_again 65535 names a text later.0) (named_fault_again u layers at text rest e later.1)

pub stack_fault : (u : LengthUnit) (layers names : List (List ℕ)) (at : ℕ) (f : Forest) (e : DesignFault) → stack_of u layers names at f ≡ Err e → StackFault u layers names at f e
unfolding stack_of
stack_fault u layers names at f e h = word_fault _ (StackWordFault u layers names at) at f e (λ a text rest k. stack_word_fault u layers names at a text rest e k) h

pub stack_fault_again : (u : LengthUnit) (layers names : List (List ℕ)) (at : ℕ) (f : Forest) (e : DesignFault) → StackFault u layers names at f e → stack_of u layers names at f ≡ Err e
unfolding stack_of
stack_fault_again u layers names at f e h = word_fault_again _ (StackWordFault u layers names at) at f e (λ a text rest k. stack_word_again u layers names at a text rest e k) h
