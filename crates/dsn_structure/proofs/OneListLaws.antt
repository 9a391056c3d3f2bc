-- What one list of a section adds is what is read, and its fault is the one that is told.
use Rattle.std.proofs.Common.{◌≡◌, ℕ, ◌≤◌, ◌<◌, List, [], ◌∷◌, ◌++◌, length, Option, Some, None, Ok, Err, refl, sym, ap, subst, ◌∙◌, arith, inl, inr}
use Rattle.std.proofs.lemmas.List.{append-nil, length-append}
use Rattle.sexp_text.specs.Forest.{Forest}
use Rattle.sexp_text.specs.declared.units.Unit.{Unit as LengthUnit}
use Rattle.area_geometry.specs.declared.shapes.Shape.{Shape}
use Rattle.seg_geometry.specs.declared.points.Pt.{Pt}
use Rattle.board_items.specs.declared.items.KeepKind.{KeepKind}
use Rattle.board_items.specs.declared.items.Item.TheVariants as items
use Rattle.dsn_lists.specs.declared.faults.DesignFault.{DesignFault}
use Rattle.dsn_lists.specs.declared.faults.DesignKind.TheVariants as kind
use Rattle.dsn_lists.specs.Results.{Read, ◌>>=◌, each}
use Rattle.dsn_lists.specs.Words.{Heading, name_list}
use Rattle.dsn_lists.specs.Units.{unit_list}
use Rattle.dsn_lists.specs.Rules.{rule_item}
use Rattle.dsn_lists.specs.Lists.{collect, told}
use Rattle.dsn_lists.specs.ShortLists.{first_words}
use Rattle.dsn_lists.specs.Statements.{widths_in, claims_in}
use Rattle.dsn_lists.specs.NewNames.{IsNewName}
use Rattle.dsn_lists.proofs.Firsts.{made, failed, ok_is, bind_ok, bind_err}
use Rattle.dsn_lists.proofs.Fresh.{AreFreshBehind, fresh_none, fresh_one, fresh_head}
use Rattle.dsn_lists.proofs.ShortLaws.{names_found, names_again, names_fault, names_fault_again}
use Rattle.dsn_lists.proofs.UnitLaws.{unit_found, unit_again, unit_fault, unit_fault_again}
use Rattle.dsn_lists.proofs.RuleListLaws.{rule_all, rule_found, rule_again, rule_fault, rule_fault_again}
use Rattle.dsn_shapes.specs.declared.quotas.Quota.{Quota}
use Rattle.dsn_shapes.specs.Quotas.{quota_behind}
use Rattle.dsn_shapes.specs.Keepouts.{keep_shapes}
use Rattle.dsn_shapes.specs.Outlines.{outlines_of}
use Rattle.dsn_shapes.specs.QuotaLists.{points_of_shapes, NoQuota}
use Rattle.dsn_shapes.proofs.KeepLaws.{keep_found, keep_again, keep_fault, keep_fault_again}
use Rattle.dsn_shapes.proofs.OutlineLaws.{outlines_found, outlines_again, outlines_fault, outlines_fault_again}
use Rattle.dsn_structure.specs.declared.flips.FlipStyle.{FlipStyle}
use Rattle.dsn_structure.specs.declared.structure.Structure.{Structure}
use Rattle.dsn_structure.specs.declared.structure.StructureWord.{StructureWord}
use Rattle.dsn_structure.specs.declared.structure.StructureWord.TheVariants as words
use Rattle.dsn_structure.specs.Structures.{layer_of, flip_of, put_keep, structure_list}
use Rattle.dsn_structure.specs.InLists.{layer_of_list, vias_of_list, widths_of_list, claims_of_list, flips_of_list}
use Rattle.dsn_structure.specs.Meaning.{IsOfStructure, KeepFault, OfStructureFault}
use Rattle.dsn_structure.proofs.FlipLaws.{flip_found, flip_again, flip_fault, flip_fault_again}
use Rattle.dsn_structure.proofs.LayerLaws.{layer_found, layer_again, layer_fault, layer_fault_again}
use Rattle.dsn_structure.proofs.TakenLaws.{taken, HasQuota, none_fit, one_taken, one_fits, one_too_many, too_many_again}
use Rattle.dsn_structure.proofs.AreaLaws.{areas_of, kept_shapes, areas_are, shapes_are, areas_of_list, items_of_list}
use Rattle.dsn_structure.proofs.AddingLaws.{Added, adding, adding_none, adding_layer, adding_vias, adding_rule, adding_flip, adding_areas, adding_keep}

-- ---- one list

-- what one list adds
abbrev pub added_by : LengthUnit → List (List ℕ) → StructureWord → Forest → Added
added_by u layers k f = record {
  layers = layer_of_list k f;
  vias = vias_of_list k f;
  widths = widths_of_list k f;
  claims = claims_of_list k f;
  flips = flips_of_list k f;
  areas = areas_of_list u k f;
  keeps = items_of_list u layers k f;
}

-- the structure behind one list
abbrev pub next : LengthUnit → List (List ℕ) → Structure → StructureWord → Forest → Structure
next u layers s k f = adding u s (added_by u layers k f)

-- a list as it has to be, a layer whose name is new, and room for a keepout
pub record IsGood (u : LengthUnit) (layers : List (List ℕ)) (s : Structure) (k : StructureWord) (f : Forest) : Type 0 where
  pub formed : IsOfStructure u layers k f
  pub fresh : AreFreshBehind s.layers (layer_of_list k f)
  pub few : length (s.layers ++ layer_of_list k f) ≤ 32
  pub space : HasQuota s.quota (items_of_list u layers k f)

pub still_few : (xs : List (List ℕ)) → length xs ≤ 32 → length (xs ++ []) ≤ 32
still_few xs h = let same = ap length (append-nil xs) in omega arith

one_more : (xs : List (List ℕ)) (n : List ℕ) → length xs < 32 → length (xs ++ n ∷ []) ≤ 32
one_more xs n h = let sum = length-append xs (n ∷ []) in omega arith

layer_room : (xs : List (List ℕ)) (n : List ℕ) → length (xs ++ n ∷ []) ≤ 32 → length xs < 32
layer_room xs n h = let sum = length-append xs (n ∷ []) in omega arith

-- ---- one keepout

abbrev keep_rest : ℕ → Structure → KeepKind → List Shape → Read Structure
keep_rest at s k ss = put_keep at s k ss (quota_behind s.quota ss)

abbrev with_one : Structure → KeepKind → List Shape → Quota → Structure
with_one s k ss left = record s { keeps = s.keeps ++ items.Keep k ss ∷ []; quota = left }

put_found : (at : ℕ) (s : Structure) (k : KeepKind) (ss : List Shape) (t : Structure) → keep_rest at s k ss ≡ Ok t → (left : Quota) × (quota_behind s.quota ss ≡ Some left) × (t ≡ with_one s k ss left)
put_found at s k ss t e = by (quota_behind s.quota ss) refl e
  where
    by : (o : Option Quota) → quota_behind s.quota ss ≡ o → put_keep at s k ss o ≡ Ok t → (left : Quota) × (quota_behind s.quota ss ≡ Some left) × (t ≡ with_one s k ss left)
    by (Some left) is e = (left, is, sym (ok_is (with_one s k ss left) t e))
    by None is e = absurd cc

put_fault : (at : ℕ) (s : Structure) (k : KeepKind) (ss : List Shape) (e : DesignFault) → keep_rest at s k ss ≡ Err e → NoQuota s.quota (points_of_shapes ss) × (e ≡ told kind.Large at)
put_fault at s k ss e h = by (quota_behind s.quota ss) refl h
  where
    by : (o : Option Quota) → quota_behind s.quota ss ≡ o → put_keep at s k ss o ≡ Err e → NoQuota s.quota (points_of_shapes ss) × (e ≡ told kind.Large at)
    by (Some left) is h = absurd cc
    by None is h = (one_too_many s.quota ss is, cc)

keep_list_found : (u : LengthUnit) (layers : List (List ℕ)) (s : Structure) (at : ℕ) (f : Forest) (k : KeepKind) (t : Structure) → length s.layers ≤ 32 → (keep_shapes u layers at f >>= λ ss. keep_rest at s k ss) ≡ Ok t
    → IsGood u layers s (words.Keep k) f × (t ≡ next u layers s (words.Keep k) f)
keep_list_found u layers s at f k t few e =
    let ss = bind_ok (keep_shapes u layers at f) (λ ss. keep_rest at s k ss) t e in
    let is = keep_found u layers at f ss.0 ss.1 in
    let p = put_found at s k ss.0 t ss.2 in
    let same = ap (λ (xs : List Shape). items.Keep k xs ∷ []) (shapes_are u layers f ss.0 is) in
    let one = one_taken s.quota p.0 k ss.0 p.1 in (
      record { formed = (ss.0, is); fresh = fresh_none s.layers; few = still_few s.layers few; space = subst (HasQuota s.quota) (sym same) one.0 },
      p.2 ∙ adding_keep u s (items.Keep k ss.0) p.0 (items.Keep k (kept_shapes u layers f) ∷ []) same (one.1 ∙ ap (taken s.quota) (sym same)),
    )

keep_list_again : (u : LengthUnit) (layers : List (List ℕ)) (s : Structure) (at : ℕ) (f : Forest) (k : KeepKind) → IsGood u layers s (words.Keep k) f
    → (keep_shapes u layers at f >>= λ ss. keep_rest at s k ss) ≡ Ok (next u layers s (words.Keep k) f)
keep_list_again u layers s at f k g =
    let ss = g.formed.0 in
    let same = ap (λ (xs : List Shape). items.Keep k xs ∷ []) (shapes_are u layers f g.formed.0 g.formed.1) in
    let left = one_fits s.quota k g.formed.0 (subst (HasQuota s.quota) same g.space) in
    rw (keep_again u layers at f g.formed.0 g.formed.1, left)
    (ap made (adding_keep u s (items.Keep k g.formed.0) (taken s.quota (items.Keep k g.formed.0 ∷ [])) (items.Keep k (kept_shapes u layers f) ∷ []) same (ap (taken s.quota) (sym same))))

keep_list_fault : (u : LengthUnit) (layers : List (List ℕ)) (s : Structure) (at : ℕ) (f : Forest) (k : KeepKind) (e : DesignFault) → (keep_shapes u layers at f >>= λ ss. keep_rest at s k ss) ≡ Err e → KeepFault u layers s at f e
keep_list_fault u layers s at f k e h =
    elim (bind_err (keep_shapes u layers at f) (λ ss. keep_rest at s k ss) e h) [
      | inl here ↦ inl (keep_fault u layers at f e here)
      | inr later ↦
          let full = put_fault at s k later.0 e later.2 in
          inr (later.0, keep_found u layers at f later.0 later.1, full.0, full.1)
    ]

keep_list_fault_again : (u : LengthUnit) (layers : List (List ℕ)) (s : Structure) (at : ℕ) (f : Forest) (k : KeepKind) (e : DesignFault) → KeepFault u layers s at f e → (keep_shapes u layers at f >>= λ ss. keep_rest at s k ss) ≡ Err e
keep_list_fault_again u layers s at f k e (inl here) = rw (keep_fault_again u layers at f e here) refl
keep_list_fault_again u layers s at f k e (inr full) = rw (keep_again u layers at f full.0 full.1, too_many_again s.quota full.0 full.2) (ap failed (sym full.3))

-- ---- one list as it has to be

pub one_found : (u : LengthUnit) (layers : List (List ℕ)) (s : Structure) (at : ℕ) (h : Heading) (k : StructureWord) (t : Structure) → length s.layers ≤ 32 → structure_list u layers s at h k ≡ Ok t → IsGood u layers s k h.args × (t ≡ next u layers s k h.args)
one_found u layers s at h words.Layer t few e =
    let names = bind_ok (layer_of s.layers at h.args >>= λ name. made (s.layers ++ name ∷ [])) (λ names. made (record s { layers = names })) t e in
    let n = bind_ok (layer_of s.layers at h.args) (λ name. made (s.layers ++ name ∷ [])) names.0 names.1 in
    let l = layer_found s.layers at h.args n.0 n.1 in
    let same = ok_is (s.layers ++ n.0 ∷ []) names.0 n.2 in (
      record {
        formed = l.0;
        fresh = subst (λ (xs : List (List ℕ)). AreFreshBehind s.layers xs) (sym l.1) (fresh_one s.layers n.0 l.2.0);
        few = subst (λ (xs : List (List ℕ)). length (s.layers ++ xs) ≤ 32) (sym l.1) (one_more s.layers n.0 l.2.1);
        space = none_fit s.quota;
      },
      sym (ok_is (record s { layers = names.0 }) t names.2) ∙ ap (λ (xs : List (List ℕ)). record s { layers = xs }) (sym same) ∙ adding_layer u s n.0 _ l.1,
    )
one_found u layers s at h words.Via t few e =
    let ms = bind_ok (name_list at h.args) (λ ms. made (record s { vias = s.vias ++ ms ∷ [] })) t e in
    let v = names_found at h.args ms.0 ms.1 in
    (record { formed = v.0; fresh = fresh_none s.layers; few = still_few s.layers few; space = none_fit s.quota }, sym (ok_is (record s { vias = s.vias ++ ms.0 ∷ [] }) t ms.2) ∙ adding_vias u s ms.0 _ v.1)
one_found u layers s at h words.Rule t few e =
    let r = bind_ok (each (rule_item u) s.rule h.args) (λ r. made (record s { rule = r })) t e in
    let v = rule_found u h.args s.rule r.0 r.1 in
    (record { formed = v.0; fresh = fresh_none s.layers; few = still_few s.layers few; space = none_fit s.quota }, sym (ok_is (record s { rule = r.0 }) t r.2) ∙ adding_rule u s r.0 (collect widths_in h.args) (collect claims_in h.args) v.1)
one_found u layers s at h words.PlaceControl t few e =
    let f = bind_ok (flip_of at h.args) (λ o. made (record s { flip = Some o })) t e in
    let v = flip_found at h.args f.0 f.1 in
    (record { formed = v.0; fresh = fresh_none s.layers; few = still_few s.layers few; space = none_fit s.quota }, sym (ok_is (record s { flip = Some f.0 }) t f.2) ∙ adding_flip u s f.0 _ v.1)
one_found u layers s at h words.Unit t few e =
    let v = bind_ok (unit_list at h.args) (λ _. made s) t e in
    (record { formed = (unit_found at h.args v.0 v.1).0; fresh = fresh_none s.layers; few = still_few s.layers few; space = none_fit s.quota }, sym (ok_is s t v.2) ∙ adding_none u s)
one_found u layers s at h words.Resolution t few e = absurd cc
one_found u layers s at h words.Boundary t few e =
    let areas = bind_ok (outlines_of u s.outline at h.args) (λ areas. made (record s { outline = areas })) t e in
    let v = outlines_found u s.outline at h.args areas.0 areas.1 in
    let same = areas_are u h.args v.0 v.1 in (
      record { formed = (v.0, v.1); fresh = fresh_none s.layers; few = still_few s.layers few; space = none_fit s.quota },
      sym (ok_is (record s { outline = areas.0 }) t areas.2) ∙ adding_areas u s areas.0 (areas_of u h.args) (v.2 ∙ ap (λ (xs : List (List Pt)). s.outline ++ xs) (sym same)),
    )
one_found u layers s at h (words.Keep k) t few e = keep_list_found u layers s at h.args k t few e
one_found u layers s at h words.Other t few e = (record { formed = tt; fresh = fresh_none s.layers; few = still_few s.layers few; space = none_fit s.quota }, sym (ok_is s t e) ∙ adding_none u s)

pub one_again : (u : LengthUnit) (layers : List (List ℕ)) (s : Structure) (at : ℕ) (h : Heading) (k : StructureWord) → IsGood u layers s k h.args → structure_list u layers s at h k ≡ Ok (next u layers s k h.args)
one_again u layers s at h words.Layer g =
    let new : (n : List ℕ) → layer_of_list words.Layer h.args ≡ n ∷ [] → IsNewName 32 s.layers n = λ n e.
    (fresh_head s.layers n [] (subst (λ (xs : List (List ℕ)). AreFreshBehind s.layers xs) e g.fresh), layer_room s.layers n (subst (λ (xs : List (List ℕ)). length (s.layers ++ xs) ≤ 32) e g.few)) in
    let l = layer_again s.layers at h.args g.formed new in
    ap (λ (x : Read (List ℕ)). (x >>= λ name. made (s.layers ++ name ∷ [])) >>= λ names. made (record s { layers = names })) l.1 ∙ ap made (adding_layer u s l.0 _ l.2)
one_again u layers s at h words.Via g = rw (names_again at h.args g.formed) (ap made (adding_vias u s (first_words h.args) _ refl))
one_again u layers s at h words.Rule g = rw (rule_again u h.args s.rule g.formed) (ap made (adding_rule u s (rule_all u s.rule h.args) (collect widths_in h.args) (collect claims_in h.args) refl))
one_again u layers s at h words.PlaceControl g = let f = flip_again at h.args g.formed in ap (λ (x : Read FlipStyle). x >>= λ o. made (record s { flip = Some o })) f.1 ∙ ap made (adding_flip u s f.0 _ f.2)
one_again u layers s at h words.Unit g = let v = unit_again at h.args g.formed in rw v.1 (ap made (adding_none u s))
one_again u layers s at h words.Resolution g = absurd g.formed
one_again u layers s at h words.Boundary g =
    let same = areas_are u h.args g.formed.0 g.formed.1 in
    rw (outlines_again u s.outline at h.args g.formed.0 g.formed.1)
    (ap made (adding_areas u s (s.outline ++ g.formed.0) (areas_of u h.args) (ap (λ (xs : List (List Pt)). s.outline ++ xs) (sym same))))
one_again u layers s at h (words.Keep k) g = keep_list_again u layers s at h.args k g
one_again u layers s at h words.Other g = ap made (adding_none u s)

-- ---- the fault of one list

pub one_fault : (u : LengthUnit) (layers : List (List ℕ)) (s : Structure) (at : ℕ) (h : Heading) (k : StructureWord) (e : DesignFault) → structure_list u layers s at h k ≡ Err e → OfStructureFault u layers s at h k e
one_fault u layers s at h words.Layer e k =
    elim (bind_err (layer_of s.layers at h.args >>= λ name. made (s.layers ++ name ∷ [])) (λ names. made (record s { layers = names })) e k) [
      | inl here ↦ elim (bind_err (layer_of s.layers at h.args) (λ name. made (s.layers ++ name ∷ [])) e here) [
        | inl first ↦ layer_fault s.layers at h.args e first
        | inr later ↦ absurd cc
      ]
      | inr later ↦ absurd cc
    ]
one_fault u layers s at h words.Via e k =
    elim (bind_err (name_list at h.args) (λ ms. made (record s { vias = s.vias ++ ms ∷ [] })) e k) [
      | inl here ↦ names_fault at h.args e here
      | inr later ↦ absurd cc
    ]
one_fault u layers s at h words.Rule e k =
    elim (bind_err (each (rule_item u) s.rule h.args) (λ r. made (record s { rule = r })) e k) [
      | inl here ↦ rule_fault u s.rule h.args e here
      | inr later ↦ absurd cc
    ]
one_fault u layers s at h words.PlaceControl e k =
    elim (bind_err (flip_of at h.args) (λ o. made (record s { flip = Some o })) e k) [
      | inl here ↦ flip_fault at h.args e here
      | inr later ↦ absurd cc
    ]
one_fault u layers s at h words.Unit e k =
    elim (bind_err (unit_list at h.args) (λ _. made s) e k) [
      | inl here ↦ unit_fault at h.args e here
      | inr later ↦ absurd cc
    ]
one_fault u layers s at h words.Resolution e k = cc
one_fault u layers s at h words.Boundary e k =
    elim (bind_err (outlines_of u s.outline at h.args) (λ areas. made (record s { outline = areas })) e k) [
      | inl here ↦ outlines_fault u s.outline at h.args e here
      | inr later ↦ absurd cc
    ]
one_fault u layers s at h (words.Keep what) e k = keep_list_fault u layers s at h.args what e k
one_fault u layers s at h words.Other e k = absurd cc

pub one_fault_again : (u : LengthUnit) (layers : List (List ℕ)) (s : Structure) (at : ℕ) (h : Heading) (k : StructureWord) (e : DesignFault) → OfStructureFault u layers s at h k e → structure_list u layers s at h k ≡ Err e
one_fault_again u layers s at h words.Layer e k = rw (layer_fault_again s.layers at h.args e k) refl
one_fault_again u layers s at h words.Via e k = rw (names_fault_again at h.args e k) refl
one_fault_again u layers s at h words.Rule e k = rw (rule_fault_again u s.rule h.args e k) refl
one_fault_again u layers s at h words.PlaceControl e k = rw (flip_fault_again at h.args e k) refl
one_fault_again u layers s at h words.Unit e k = rw (unit_fault_again at h.args e k) refl
one_fault_again u layers s at h words.Resolution e k = ap failed (sym k)
one_fault_again u layers s at h words.Boundary e k = rw (outlines_fault_again u s.outline at h.args e k) refl
one_fault_again u layers s at h (words.Keep what) e k = keep_list_fault_again u layers s at h.args what e k
one_fault_again u layers s at h words.Other e k = absurd k
