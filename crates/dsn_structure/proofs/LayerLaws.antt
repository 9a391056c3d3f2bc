-- The layers that are named are those that are read, and the fault of one is the one that is told.
use Rattle.std.proofs.Common.{◌≡◌, ℕ, ◌≤◌, ◌<◌, Bool, true, false, cond, List, [], ◌∷◌, length, Ok, Err, refl, sym, ap, subst, ◌∙◌, arith, inl, inr, ◌⊎◌}
use Rattle.sexp_text.specs.Forest.{Forest, End, Word, Branch}
use Rattle.dsn_lists.specs.declared.faults.DesignFault.{DesignFault}
use Rattle.dsn_lists.specs.declared.faults.DesignKind.TheVariants as kind
use Rattle.dsn_lists.specs.Results.{Read, ◌>>=◌, wrong, each}
use Rattle.dsn_lists.specs.Words.{mark, word_of}
use Rattle.dsn_lists.specs.Lists.{told}
use Rattle.dsn_lists.specs.NewNames.{IsNewName, OldNameFault, new_name}
use Rattle.dsn_lists.proofs.Firsts.{made, ok_is, bind_ok, bind_err, word_fault, word_fault_again}
use Rattle.dsn_lists.proofs.TypeItemLaws.{has_type}
use Rattle.dsn_lists.proofs.NewNameLaws.{new_found, new_again, new_fault, new_fault_again}
use Rattle.dsn_structure.specs.Structures.{type_item, layer_of}
use Rattle.dsn_structure.specs.LayerLists.{TypeFault, IsLayer, LayerFault, layer_name}
use Rattle.dsn_structure.proofs.LayerTypes.{types, types_found, types_again, types_fault, types_fault_again}

-- ---- a layer

typed_is : (ts : List Forest) → has_type false ts ≡ true → 0 < length ts
typed_is [] e = absurd cc
typed_is (t ∷ ts) e = omega arith

is_typed : (ts : List Forest) → 0 < length ts → has_type false ts ≡ true
is_typed [] h = absurd (omega arith)
is_typed (t ∷ ts) h = refl

untyped_is : (ts : List Forest) → has_type false ts ≡ false → ts ≡ []
untyped_is [] e = refl
untyped_is (t ∷ ts) e = absurd cc

choose_ok : (b : Bool) (x y : List ℕ) (d : DesignFault) → cond b (made x) (Err d) ≡ Ok y → (b ≡ true) × (x ≡ y)
choose_ok true x y d e = (refl, ok_is x y e)
choose_ok false x y d e = absurd cc

choose_err : (b : Bool) (x : List ℕ) (d e : DesignFault) → cond b (made x) (Err d) ≡ Err e → (b ≡ false) × (e ≡ d)
choose_err true x d e h = absurd cc
choose_err false x d e h = (refl, cc)

-- what follows the name
abbrev layer_rest : ℕ → List ℕ → Forest → Read (List ℕ)
layer_rest at text rest = each type_item false rest >>= λ typed. cond typed (made text) (wrong kind.Form at)

pub layer_found : (names : List (List ℕ)) (at : ℕ) (f : Forest) (n : List ℕ) → layer_of names at f ≡ Ok n → IsLayer f × (layer_name f ≡ n ∷ []) × IsNewName 32 names n
unfolding layer_of word_of
layer_found names at End n e = absurd cc
layer_found names at (Branch a inside rest) n e = absurd cc
layer_found names at (Word a text rest) n e =
    let new = bind_ok (new_name 32 names (mark a text)) (λ _. layer_rest at text rest) n e in
    let typed = bind_ok (each type_item false rest) (λ typed. cond typed (made text) (wrong kind.Form at)) n new.2 in
    let all = types_found rest false typed.0 typed.1 in
    let name = choose_ok typed.0 text n (told kind.Form at) typed.2 in
    ((all.0, typed_is (types rest) (sym all.1 ∙ name.0)), ap (λ (x : List ℕ). x ∷ []) name.1, subst (λ (x : List ℕ). IsNewName 32 names x) name.1 (new_found 32 names a text new.0 new.1))

pub layer_again : (names : List (List ℕ)) (at : ℕ) (f : Forest) → IsLayer f → ((n : List ℕ) → layer_name f ≡ n ∷ [] → IsNewName 32 names n) → (n : List ℕ) × (layer_of names at f ≡ Ok n) × (layer_name f ≡ n ∷ [])
unfolding layer_of word_of
layer_again names at End h new = absurd h
layer_again names at (Branch a inside rest) h new = absurd h
layer_again names at (Word a text rest) h new = (text, rw (new_again 32 names a text (new text refl), types_again rest false h.0, is_typed (types rest) h.1) refl, refl)

rest_fault : (at : ℕ) (text : List ℕ) (rest : Forest) (e : DesignFault) → layer_rest at text rest ≡ Err e → TypeFault at rest e
rest_fault at text rest e h =
    elim (bind_err (each type_item false rest) (λ typed. cond typed (made text) (wrong kind.Form at)) e h) [
      | inl here ↦ inl (types_fault rest e here)
      | inr later ↦
          let all = types_found rest false later.0 later.1 in
          let none = choose_err later.0 text (told kind.Form at) e later.2 in
          inr (all.0, untyped_is (types rest) (sym all.1 ∙ none.0), none.1)
    ]

rest_fault_again : (at : ℕ) (text : List ℕ) (rest : Forest) (e : DesignFault) → TypeFault at rest e → layer_rest at text rest ≡ Err e
rest_fault_again at text rest e (inl here) = rw (types_fault_again rest e here) refl
rest_fault_again at text rest e (inr none) = rw (types_again rest false none.0, none.1, none.2) refl

abbrev LayerWordFault : List (List ℕ) → ℕ → ℕ → List ℕ → Forest → DesignFault → Type 0
LayerWordFault names at a text rest e = OldNameFault 32 names text a e ⊎ (IsNewName 32 names text × TypeFault at rest e)

layer_word : (names : List (List ℕ)) (at a : ℕ) (text : List ℕ) (rest : Forest) (e : DesignFault) → (new_name 32 names (mark a text) >>= λ _. layer_rest at text rest) ≡ Err e → LayerWordFault names at a text rest e
layer_word names at a text rest e h =
    elim (bind_err (new_name 32 names (mark a text)) (λ _. layer_rest at text rest) e h) [
      | inl here ↦ inl (new_fault 32 names a text e here)
      | inr later ↦ inr (new_found 32 names a text later.0 later.1, rest_fault at text rest e later.2)
    ]

layer_word_again : (names : List (List ℕ)) (at a : ℕ) (text : List ℕ) (rest : Forest) (e : DesignFault) → LayerWordFault names at a text rest e → (new_name 32 names (mark a text) >>= λ _. layer_rest at text rest) ≡ Err e
layer_word_again names at a text rest e (inl old) = rw (new_fault_again 32 names a text e old) refl
layer_word_again names at a text rest e (inr later) = rw (new_again 32 names a text later.0) (rest_fault_again at text rest e later.1)

pub layer_fault : (names : List (List ℕ)) (at : ℕ) (f : Forest) (e : DesignFault) → layer_of names at f ≡ Err e → LayerFault names at f e
unfolding layer_of
layer_fault names at f e h = word_fault _ (LayerWordFault names at) at f e (λ a text rest k. layer_word names at a text rest e k) h

pub layer_fault_again : (names : List (List ℕ)) (at : ℕ) (f : Forest) (e : DesignFault) → LayerFault names at f e → layer_of names at f ≡ Err e
unfolding layer_of
layer_fault_again names at f e h = word_fault_again _ (LayerWordFault names at) at f e (λ a text rest k. layer_word_again names at a text rest e k) h
