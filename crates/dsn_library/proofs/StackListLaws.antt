-- The lists of a padstack state the shapes that are read, and their first fault is the one that is told.
use Rattle.std.proofs.Common.{◌≡◌, ℕ, Bool, true, false, List, [], ◌∷◌, ◌++◌, codes, Ok, Err, refl, sym, ap, ◌∙◌, append_assoc, inl, inr}
use Rattle.std.specs.Prelude.{◌||◌}
use Rattle.std.specs.List.{flat_map}
use Rattle.std.proofs.lemmas.List.{append-nil}
use Rattle.std.proofs.lemmas.Grind.{flat_map-append}
use Rattle.sexp_text.specs.Forest.{Forest}
use Rattle.sexp_text.specs.declared.units.Unit.{Unit as LengthUnit}
use Rattle.area_geometry.specs.declared.shapes.Shape.{Shape}
use Rattle.dsn_lists.specs.declared.faults.DesignFault.{DesignFault}
use Rattle.dsn_lists.specs.Words.{Heading, head_of}
use Rattle.dsn_lists.proofs.Firsts.{made, failed, ok_is, bind_ok, bind_err}
use Rattle.dsn_lists.proofs.JoinLaws.{Adds}
use Rattle.dsn_library.specs.declared.stacks.Drawn.{Drawn}
use Rattle.dsn_library.specs.declared.stacks.StackWord.{StackWord}
use Rattle.dsn_library.specs.declared.stacks.StackWord.TheVariants as stacks
use Rattle.dsn_shapes.specs.Drawn.{shapes_of}
use Rattle.dsn_library.specs.Libraries.{not_first, stack_word, stack_list, stack_item}
use Rattle.dsn_library.specs.StackLists.{StacksBy, IsStackList, StacksByFault, StackListFault}
use Rattle.dsn_shapes.proofs.ShapeListLaws.{shapes_again, shapes_fault, shapes_fault_again, shapes_found}
use Rattle.dsn_library.proofs.StartLaws.{start_found, start_again, start_fault, start_fault_again}

-- ---- what lists add to what is drawn

abbrev pub some : List (List Shape) → Bool
some [] = false
some (ss ∷ drawn) = true

-- all these shapes, one list behind another
abbrev pub all_shapes : List (List Shape) → List Shape
all_shapes drawn = flat_map (λ (ss : List Shape). ss) drawn

-- what is drawn, and these behind it
abbrev pub adding : Drawn → List (List Shape) → Drawn
adding d drawn = record { shapes = d.shapes ++ all_shapes drawn; drawn = d.drawn || some drawn }

or_none : (b : Bool) → b ≡ (b || false)
or_none true = refl
or_none false = refl

or_more : (b : Bool) (xs ys : List (List Shape)) → ((b || some xs) || some ys) ≡ (b || some (xs ++ ys))
or_more true xs ys = refl
or_more false [] ys = refl
or_more false (x ∷ xs) ys = refl

or_one : (b : Bool) → true ≡ (b || true)
or_one true = refl
or_one false = refl

adding_none : (d : Drawn) → d ≡ adding d []
adding_none d = λ i. record { shapes = sym (append-nil d.shapes) i; drawn = or_none d.drawn i }

adding_more : (d : Drawn) (xs ys : List (List Shape)) → adding (adding d xs) ys ≡ adding d (xs ++ ys)
adding_more d xs ys = λ i. record {
  shapes = (append_assoc d.shapes (all_shapes xs) (all_shapes ys) ∙ ap (λ (zs : List Shape). d.shapes ++ zs) (sym (flat_map-append (λ (ss : List Shape). ss) xs ys))) i;
  drawn = or_more d.drawn xs ys i;
}

-- what is drawn with these shapes
abbrev with_shapes : List Shape → Drawn
with_shapes ss = record { shapes = ss; drawn = true }

adding_one : (d : Drawn) (ss : List Shape) → with_shapes (d.shapes ++ ss) ≡ adding d (ss ∷ [])
adding_one d ss = λ i. record { shapes = d.shapes ++ sym (append-nil ss) i; drawn = or_one d.drawn i }

-- ---- one list

by_found : (u : LengthUnit) (layers : List (List ℕ)) (d : Drawn) (at : ℕ) (h : Heading) (k : StackWord) (t : Drawn) → stack_list u layers d at h k ≡ Ok t
    → (drawn : List (List Shape)) × StacksBy u layers k h.args drawn × (t ≡ adding d drawn)
by_found u layers d at h stacks.Shapes t e =
    let ss = bind_ok (shapes_of u layers d.shapes at h.args) (λ ss. made (with_shapes ss)) t e in
    let x = shapes_found u layers d.shapes at h.args ss.0 ss.1 in
    (x.0 ∷ [], (x.0, x.1, refl), sym (ok_is (with_shapes ss.0) t ss.2) ∙ ap with_shapes x.2 ∙ adding_one d x.0)
by_found u layers d at h stacks.Window t e = absurd cc
by_found u layers d at h stacks.Rotate t e =
    let x = bind_ok (not_first (codes "off") h.args) (λ _. made d) t e in
    ([], (start_found (codes "off") h.args x.0 x.1, refl), sym (ok_is d t x.2) ∙ adding_none d)
by_found u layers d at h stacks.Absolute t e =
    let x = bind_ok (not_first (codes "on") h.args) (λ _. made d) t e in
    ([], (start_found (codes "on") h.args x.0 x.1, refl), sym (ok_is d t x.2) ∙ adding_none d)
by_found u layers d at h stacks.Other t e = ([], refl, sym (ok_is d t e) ∙ adding_none d)

by_again : (u : LengthUnit) (layers : List (List ℕ)) (d : Drawn) (at : ℕ) (h : Heading) (k : StackWord) (drawn : List (List Shape)) → StacksBy u layers k h.args drawn → stack_list u layers d at h k ≡ Ok (adding d drawn)
by_again u layers d at h stacks.Shapes drawn g =
    rw (shapes_again u layers d.shapes at h.args g.0 g.1) (ap made (adding_one d g.0 ∙ ap (λ (x : List (List Shape)). adding d x) (sym g.2)))
by_again u layers d at h stacks.Window drawn g = absurd g
by_again u layers d at h stacks.Rotate drawn g = rw (start_again (codes "off") h.args g.0, g.1) (ap made (adding_none d))
by_again u layers d at h stacks.Absolute drawn g = rw (start_again (codes "on") h.args g.0, g.1) (ap made (adding_none d))
by_again u layers d at h stacks.Other drawn g = rw g (ap made (adding_none d))

by_fault : (u : LengthUnit) (layers : List (List ℕ)) (d : Drawn) (at : ℕ) (h : Heading) (k : StackWord) (e : DesignFault) → stack_list u layers d at h k ≡ Err e → StacksByFault u layers at h k e
by_fault u layers d at h stacks.Shapes e g =
    elim (bind_err (shapes_of u layers d.shapes at h.args) (λ ss. made (with_shapes ss)) e g) [
      | inl here ↦ shapes_fault u layers d.shapes at h.args e here
      | inr later ↦ absurd cc
    ]
by_fault u layers d at h stacks.Window e g = cc
by_fault u layers d at h stacks.Rotate e g =
    elim (bind_err (not_first (codes "off") h.args) (λ _. made d) e g) [
      | inl here ↦ start_fault (codes "off") h.args e here
      | inr later ↦ absurd cc
    ]
by_fault u layers d at h stacks.Absolute e g =
    elim (bind_err (not_first (codes "on") h.args) (λ _. made d) e g) [
      | inl here ↦ start_fault (codes "on") h.args e here
      | inr later ↦ absurd cc
    ]
by_fault u layers d at h stacks.Other e g = absurd cc

by_fault_again : (u : LengthUnit) (layers : List (List ℕ)) (d : Drawn) (at : ℕ) (h : Heading) (k : StackWord) (e : DesignFault) → StacksByFault u layers at h k e → stack_list u layers d at h k ≡ Err e
by_fault_again u layers d at h stacks.Shapes e g = rw (shapes_fault_again u layers d.shapes at h.args e g) refl
by_fault_again u layers d at h stacks.Window e g = ap failed (sym g)
by_fault_again u layers d at h stacks.Rotate e g = rw (start_fault_again (codes "off") h.args e g) refl
by_fault_again u layers d at h stacks.Absolute e g = rw (start_fault_again (codes "on") h.args e g) refl
by_fault_again u layers d at h stacks.Other e g = absurd g

item_states : (u : LengthUnit) (layers : List (List ℕ)) (d : Drawn) (at : ℕ) (inside : Forest) (t : Drawn) → stack_item u layers d at inside ≡ Ok t → (drawn : List (List Shape)) × IsStackList u layers inside drawn × (t ≡ adding d drawn)
unfolding stack_item
item_states u layers d at inside t e = by_found u layers d at (head_of inside) (stack_word (head_of inside).text) t e

item_again : (u : LengthUnit) (layers : List (List ℕ)) (d : Drawn) (at : ℕ) (inside : Forest) (drawn : List (List Shape)) → IsStackList u layers inside drawn → stack_item u layers d at inside ≡ Ok (adding d drawn)
unfolding stack_item
item_again u layers d at inside drawn h = by_again u layers d at (head_of inside) (stack_word (head_of inside).text) drawn h

pub list_fault : (u : LengthUnit) (layers : List (List ℕ)) (d : Drawn) (before inside : Forest) (at : ℕ) (e : DesignFault) → stack_item u layers d at inside ≡ Err e → StackListFault u layers before at inside e
unfolding stack_item
list_fault u layers d before inside at e h = by_fault u layers d at (head_of inside) (stack_word (head_of inside).text) e h

pub list_fault_again : (u : LengthUnit) (layers : List (List ℕ)) (d : Drawn) (before inside : Forest) (at : ℕ) (e : DesignFault) → StackListFault u layers before at inside e → stack_item u layers d at inside ≡ Err e
unfolding stack_item
list_fault_again u layers d before inside at e h = by_fault_again u layers d at (head_of inside) (stack_word (head_of inside).text) e h

-- each list adds the shapes that it states
pub lists_add : (u : LengthUnit) (layers : List (List ℕ)) → Adds (stack_item u layers) adding (IsStackList u layers)
lists_add u layers = record {
  none = adding_none;
  more = adding_more;
  found = item_states u layers;
  again = item_again u layers;
}
