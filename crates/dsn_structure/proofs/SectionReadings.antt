-- A section is read exactly where it stands for a structure, and the first fault is told exactly where it is the first, by
-- the section's own words.
use Rattle.std.proofs.Common.{◌≡◌, ℕ, zero, suc, ◌+◌, ◌-◌, ◌≤◌, ◌<◌, Bool, true, false, cond, eqb, List, [], ◌∷◌, ◌++◌, codes, length, Ok, Err, refl, sym, ap, subst, ◌∙◌, arith, inl, inr}
use Rattle.std.proofs.lemmas.Bool.{eqb-true}
use Rattle.sexp_text.specs.Forest.{Forest}
use Rattle.sexp_text.specs.declared.units.Unit.{Unit as LengthUnit}
use Rattle.seg_geometry.specs.declared.points.Pt.{Pt}
use Rattle.board_items.specs.declared.items.Item.{Item}
use Rattle.dsn_lists.specs.declared.faults.DesignFault.{DesignFault}
use Rattle.dsn_lists.specs.declared.faults.DesignKind.TheVariants as kind
use Rattle.dsn_lists.specs.Results.{Read, ◌>>=◌, wrong, each}
use Rattle.dsn_lists.specs.Names.{is_among}
use Rattle.dsn_lists.specs.Words.{head_of}
use Rattle.dsn_lists.specs.declared.rules.Rule.{Rule}
use Rattle.dsn_lists.specs.Statements.{Says}
use Rattle.dsn_lists.specs.Rules.{no_rule}
use Rattle.dsn_lists.specs.Pcbs.{Spot}
use Rattle.dsn_lists.specs.Lists.{collect, told, IsFirst}
use Rattle.dsn_lists.specs.Measures.{governing_unit}
use Rattle.dsn_lists.proofs.Firsts.{made, ok_is, bind_ok, bind_err, guard_ok, guard_err, first_found, first_again}
use Rattle.dsn_lists.proofs.UnitLaws.{governs}
use Rattle.dsn_lists.proofs.RuleListLaws.{rule_by}
use Rattle.dsn_lists.proofs.RuleLaws.{says_found, says_is}
use Rattle.dsn_shapes.specs.declared.quotas.Quota.{Quota}
use Rattle.dsn_shapes.specs.Quotas.{whole_quota}
use Rattle.dsn_shapes.proofs.NameLaws.{ahead_is}
use Rattle.dsn_structure.specs.declared.structure.Structure.{Structure}
use Rattle.dsn_structure.specs.Structures.{structure_word, structure_item, no_structure, with_layer, all_layers, structure_at}
use Rattle.dsn_structure.specs.InLists.{layers_in, rule_widths, rule_claims}
use Rattle.dsn_structure.specs.AreaLists.{boundaries_in, AreOutlines, keeps_in, AreKeeps, points_of_keeps}
use Rattle.dsn_structure.specs.Meaning.{IsSection, section_layers, IsStructure, Stand, OfStructureFault, StructureListFault, FaultIn, IsFirstFault}
use Rattle.dsn_structure.proofs.TakenLaws.{taken, HasQuota}
use Rattle.dsn_structure.proofs.AreaLaws.{areas_in, items_in, outlines_found, outlines_are, keeps_found, keeps_are}
use Rattle.dsn_structure.proofs.OneListLaws.{one_fault, one_fault_again}
use Rattle.dsn_structure.proofs.SectionLaws.{all, AreGood, all_found, all_again, all_state}

-- ---- the lists of the section

section_of_good : (u : LengthUnit) (layers : List (List ℕ)) (f : Forest) (t : Structure) → AreGood u layers no_structure f → t ≡ all u layers no_structure f → IsSection u layers f t
section_of_good u layers f t g e =
    let states = all_state u layers f g.formed in
    let rule : t.rule ≡ rule_by u no_rule (collect rule_widths f) (collect rule_claims f) = ap (λ (x : Structure). x.rule) e in
    let names : t.layers ≡ collect layers_in f = ap (λ (x : Structure). x.layers) e in
    let areas : t.outline ≡ collect (areas_in u) f = ap (λ (x : Structure). x.outline) e in
    let keeps : t.keeps ≡ collect (items_in u layers) f = ap (λ (x : Structure). x.keeps) e in
    let quota : t.quota ≡ taken whole_quota (collect (items_in u layers) f) = ap (λ (x : Structure). x.quota) e in
    let few_items = g.space.items in
    let few_points = g.space.points in
    let all_items : length (collect (items_in u layers) f) + (200000 - length (collect (items_in u layers) f)) ≡ 200000 = omega (arith, few_items) in
    let all_points : points_of_keeps (collect (items_in u layers) f) + (4000000 - points_of_keeps (collect (items_in u layers) f)) ≡ 4000000 = omega (arith, few_points) in
    record {
      formed = g.formed;
      layers = names;
      fresh = subst (λ (xs : List (List ℕ)). (before after : List (List ℕ)) (name : List ℕ) → xs ≡ before ++ name ∷ after → is_among name before ≡ false) (sym names) g.fresh;
      few = subst (λ (xs : List (List ℕ)). length xs ≤ 32) (sym names) g.few;
      vias = ap (λ (x : Structure). x.vias) e;
      rule = subst (λ (r : Rule). Says u (collect rule_widths f) (collect rule_claims f) r) (sym rule) (says_found u (collect rule_widths f) (collect rule_claims f) states.0 states.1);
      flip = ap (λ (x : Structure). x.flip) e;
      outline = subst (λ (xs : List (List Pt)). AreOutlines u (collect boundaries_in f) xs) (sym areas) (outlines_found u layers f g.formed);
      keeps = subst (λ (xs : List Item). AreKeeps u layers (collect keeps_in f) xs) (sym keeps) (keeps_found u layers f g.formed);
      items = ap (λ (xs : List Item). length xs + t.quota.items) keeps ∙ ap (λ (r : Quota). length (collect (items_in u layers) f) + r.items) quota ∙ all_items;
      points = ap (λ (xs : List Item). points_of_keeps xs + t.quota.points) keeps ∙ ap (λ (r : Quota). points_of_keeps (collect (items_in u layers) f) + r.points) quota ∙ all_points;
    }

section_found : (u : LengthUnit) (layers : List (List ℕ)) (f : Forest) (t : Structure) → each (structure_item u layers) no_structure f ≡ Ok t → IsSection u layers f t × (t ≡ all u layers no_structure f)
section_found u layers f t e = let h = all_found u layers f no_structure t (omega arith) e in (section_of_good u layers f t h.0 h.1, h.1)

has_quota : (quota : Quota) (ks : List Item) → length ks + quota.items ≡ 200000 → points_of_keeps ks + quota.points ≡ 4000000 → HasQuota whole_quota ks
has_quota quota ks items points = record { items = omega (arith, items); points = omega (arith, points) }

quota_is : (quota : Quota) (ks : List Item) → length ks + quota.items ≡ 200000 → points_of_keeps ks + quota.points ≡ 4000000 → taken whole_quota ks ≡ quota
quota_is quota ks items points =
    let a : 200000 - length ks ≡ quota.items = omega (arith, items) in
    let b : 4000000 - points_of_keeps ks ≡ quota.points = omega (arith, points) in
    λ i. record { items = a i; points = b i }

good_of_section : (u : LengthUnit) (layers : List (List ℕ)) (f : Forest) (t : Structure) → IsSection u layers f t → AreGood u layers no_structure f
good_of_section u layers f t h = record {
  formed = h.formed;
  fresh = subst (λ (xs : List (List ℕ)). (before after : List (List ℕ)) (name : List ℕ) → xs ≡ before ++ name ∷ after → is_among name before ≡ false) h.layers h.fresh;
  few = subst (λ (xs : List (List ℕ)). length xs ≤ 32) h.layers h.few;
  space = subst (λ (ks : List Item). HasQuota whole_quota ks) (sym (keeps_are u layers f t.keeps h.keeps)) (has_quota t.quota t.keeps h.items h.points);
}

section_is : (u : LengthUnit) (layers : List (List ℕ)) (f : Forest) (t : Structure) → IsSection u layers f t → all u layers no_structure f ≡ t
section_is u layers f t h =
    let rule = says_is u (collect rule_widths f) (collect rule_claims f) t.rule h.rule in
    let areas = outlines_are u f t.outline h.outline in
    let keeps = keeps_are u layers f t.keeps h.keeps in
    let quota = ap (λ (ks : List Item). taken whole_quota ks) keeps ∙ quota_is t.quota t.keeps h.items h.points in
    λ i. record { layers = sym h.layers i; vias = sym h.vias i; rule = sym rule i; flip = sym h.flip i; outline = areas i; keeps = keeps i; quota = quota i }

section_again : (u : LengthUnit) (layers : List (List ℕ)) (f : Forest) (t : Structure) → IsSection u layers f t → each (structure_item u layers) no_structure f ≡ Ok (all u layers no_structure f)
section_again u layers f t h = all_again u layers f no_structure (good_of_section u layers f t h)

-- ---- a section with a layer

above : (n : ℕ) → eqb n 0 ≡ false → 0 < n
above zero e = absurd cc
above (suc n) e = omega arith

off : (b : Bool) → (b ≡ true → ⊥) → b ≡ false
off true h = absurd (h refl)
off false h = refl

not_zero : (n : ℕ) → 0 < n → eqb n 0 ≡ false
not_zero n h = off (eqb n 0) (λ e. let z = eqb-true n 0 e in absurd (omega arith))

is_none : {A : Type 0} (xs : List A) → eqb (length xs) 0 ≡ true → xs ≡ []
is_none [] e = refl
is_none (x ∷ xs) e = let z = eqb-true (length (x ∷ xs)) 0 e in absurd (omega arith)

-- the names of the layers of the whole section
layers_are : (f : Forest) → all_layers f ≡ section_layers f
layers_are f = ahead_is (codes "layer") f

-- a section by this unit and these names
abbrev read_as : LengthUnit → List (List ℕ) → Spot → Read Structure
read_as u layers p = each (structure_item u layers) no_structure p.args >>= λ s. with_layer p.at s

abbrev IsAs : LengthUnit → List (List ℕ) → Forest → Structure → Type 0
IsAs u layers f t = IsSection u layers f t × (0 < length t.layers)

as_found : (u : LengthUnit) (layers : List (List ℕ)) (p : Spot) (t : Structure) → read_as u layers p ≡ Ok t → IsAs u layers p.args t
unfolding with_layer
as_found u layers p t e =
    let y = bind_ok (each (structure_item u layers) no_structure p.args) (λ s. cond (eqb (length s.layers) 0) (wrong kind.Missing p.at) (made s)) t e in
    let g = guard_ok (eqb (length y.0.layers) 0) (told kind.Missing p.at) (made y.0) t y.2 in
    subst (λ (x : Structure). IsAs u layers p.args x) (ok_is y.0 t g.1) ((section_found u layers p.args y.0 y.1).0, above (length y.0.layers) g.0)

as_again : (u : LengthUnit) (layers : List (List ℕ)) (p : Spot) (t : Structure) → IsAs u layers p.args t → read_as u layers p ≡ Ok t
unfolding with_layer
as_again u layers p t h = rw (section_again u layers p.args t h.0 ∙ ap made (section_is u layers p.args t h.0), not_zero (length t.layers) h.1) refl

-- the unit and the names, in own words
read_is : (u : LengthUnit) (p : Spot) → structure_at u p ≡ read_as (governing_unit u p.args) (section_layers p.args) p
unfolding structure_at
read_is u p = ap (λ (w : LengthUnit). read_as w (all_layers p.args) p) (governs u p.args) ∙ ap (λ (ns : List (List ℕ)). read_as (governing_unit u p.args) ns p) (layers_are p.args)

pub structure_found : (u : LengthUnit) (p : Spot) (t : Structure) → structure_at u p ≡ Ok t → IsStructure u p.args t
structure_found u p t e =
    let h = as_found (governing_unit u p.args) (section_layers p.args) p t (sym (read_is u p) ∙ e) in
    record { section = h.0; some = h.1 }

pub structure_again : (u : LengthUnit) (p : Spot) (t : Structure) → IsStructure u p.args t → structure_at u p ≡ Ok t
structure_again u p t h = read_is u p ∙ as_again (governing_unit u p.args) (section_layers p.args) p t (h.section, h.some)

-- ---- the first fault

stand_found : (u : LengthUnit) (layers : List (List ℕ)) (f : Forest) (t : Structure) → each (structure_item u layers) no_structure f ≡ Ok t → Stand u layers f × (t ≡ all u layers no_structure f)
stand_found u layers f t e = let h = section_found u layers f t e in ((t, h.0), h.1)

list_fault : (u : LengthUnit) (layers : List (List ℕ)) (before inside : Forest) (at : ℕ) (e : DesignFault) → Stand u layers before → structure_item u layers (all u layers no_structure before) at inside ≡ Err e → StructureListFault u layers before at inside e
unfolding structure_item
list_fault u layers before inside at e stand h =
    let one = one_fault u layers (all u layers no_structure before) at (head_of inside) (structure_word (head_of inside).text) e h in
    (stand.0, stand.1, subst (λ (s : Structure). OfStructureFault u layers s at (head_of inside) (structure_word (head_of inside).text) e) (section_is u layers before stand.0 stand.1) one)

list_fault_again : (u : LengthUnit) (layers : List (List ℕ)) (before inside : Forest) (at : ℕ) (e : DesignFault) → StructureListFault u layers before at inside e → structure_item u layers (all u layers no_structure before) at inside ≡ Err e
unfolding structure_item
list_fault_again u layers before inside at e h =
    let one = subst (λ (s : Structure). OfStructureFault u layers s at (head_of inside) (structure_word (head_of inside).text) e) (sym (section_is u layers before h.0 h.1)) h.2 in
    one_fault_again u layers (all u layers no_structure before) at (head_of inside) (structure_word (head_of inside).text) e one

lists_fault : (u : LengthUnit) (layers : List (List ℕ)) (f : Forest) (e : DesignFault) → each (structure_item u layers) no_structure f ≡ Err e → IsFirst (Stand u layers) (StructureListFault u layers) f e
lists_fault u layers f e h =
    first_found (structure_item u layers) no_structure (all u layers no_structure) (Stand u layers) (StructureListFault u layers) (stand_found u layers)
    (λ before inside at e stand k. list_fault u layers before inside at e stand k) f e h

lists_fault_again : (u : LengthUnit) (layers : List (List ℕ)) (f : Forest) (e : DesignFault) → IsFirst (Stand u layers) (StructureListFault u layers) f e → each (structure_item u layers) no_structure f ≡ Err e
lists_fault_again u layers f e h =
    first_again (structure_item u layers) no_structure (all u layers no_structure) (Stand u layers) (StructureListFault u layers) (λ f s. section_again u layers f s.0 s.1)
    (λ before inside at e stand k. list_fault_again u layers before inside at e k) f e h

fault_in : (u : LengthUnit) (layers : List (List ℕ)) (p : Spot) (e : DesignFault) → read_as u layers p ≡ Err e → FaultIn u layers p e
unfolding with_layer
fault_in u layers p e h =
    elim (bind_err (each (structure_item u layers) no_structure p.args) (λ s. cond (eqb (length s.layers) 0) (wrong kind.Missing p.at) (made s)) e h) [
      | inl here ↦ inl (lists_fault u layers p.args e here)
      | inr later ↦
          let s = section_found u layers p.args later.0 later.1 in
          elim (guard_err (eqb (length later.0.layers) 0) (told kind.Missing p.at) (made later.0) e later.2) [
            | inl none ↦ inr ((later.0, s.0), sym s.0.layers ∙ is_none later.0.layers none.0, none.1)
            | inr some ↦ absurd cc
          ]
    ]

fault_in_again : (u : LengthUnit) (layers : List (List ℕ)) (p : Spot) (e : DesignFault) → FaultIn u layers p e → read_as u layers p ≡ Err e
unfolding with_layer
fault_in_again u layers p e (inl here) = rw (lists_fault_again u layers p.args e here) refl
fault_in_again u layers p e (inr none) = rw (section_again u layers p.args none.0.0 none.0.1, none.1, none.2) refl

pub fault_found : (u : LengthUnit) (p : Spot) (e : DesignFault) → structure_at u p ≡ Err e → IsFirstFault u p e
fault_found u p e h = fault_in (governing_unit u p.args) (section_layers p.args) p e (sym (read_is u p) ∙ h)

pub fault_again : (u : LengthUnit) (p : Spot) (e : DesignFault) → IsFirstFault u p e → structure_at u p ≡ Err e
fault_again u p e h = read_is u p ∙ fault_in_again (governing_unit u p.args) (section_layers p.args) p e h
