-- What the structure section states is within the limits.
use Rattle.std.proofs.Common.{◌≡◌, ℕ, ◌+◌, ◌*◌, ◌≤◌, ◌<◌, List, [], ◌∷◌, ◌++◌, length, Option, Some, None, Ok, ap, ◌∙◌, subst, arith}
use Rattle.std.specs.Prelude.{nat_lt, ◌==◌}
use Rattle.std.specs.List.{AllByRecursion}
use Rattle.std.proofs.lemmas.List.{length-append}
use Rattle.sexp_text.specs.Forest.{Forest}
use Rattle.sexp_text.specs.declared.units.Unit.{Unit as LengthUnit}
use Rattle.sexp_text.specs.Nodes.{size}
use Rattle.area_geometry.specs.declared.shapes.Shape.{Shape}
use Rattle.board_items.specs.declared.items.KeepKind.{KeepKind}
use Rattle.board_items.specs.declared.items.Item.TheVariants.{Keep}
use Rattle.dsn_lists.specs.declared.marks.Mark.{Mark}
use Rattle.dsn_lists.specs.declared.pcb.Section.TheVariants as sections
use Rattle.dsn_lists.specs.Results.{◌>>=◌, each}
use Rattle.dsn_lists.specs.Words.{Heading, head_of, word_of, name_list}
use Rattle.dsn_lists.specs.Units.{unit_list, governing}
use Rattle.dsn_lists.specs.Rules.{rule_of}
use Rattle.dsn_lists.specs.Pcbs.{Spot, design_of, section_in}
use Rattle.dsn_lists.specs.Limits.{IsFitRule}
use Rattle.dsn_lists.specs.NewNames.{new_name}
use Rattle.dsn_lists.proofs.Bounds.{ok_is, err_gives, bind_ok, else_ok, each_keeps, all_push, rule_of_bound, no_rule_fit}
use Rattle.dsn_lists.proofs.Sizes.{each_grows, head_of_size, section_size}
use Rattle.dsn_lists.proofs.NewNameLaws.{new_found}
use Rattle.dsn_shapes.specs.declared.quotas.Quota.{Quota}
use Rattle.dsn_shapes.specs.Quotas.{quota_behind}
use Rattle.dsn_shapes.specs.Keepouts.{keep_shapes}
use Rattle.dsn_shapes.specs.Outlines.{outlines_of}
use Rattle.dsn_shapes.specs.Limits.{AreFitAreas}
use Rattle.dsn_shapes.proofs.KeepFits.{keep_shapes_fit, keep_shapes_few}
use Rattle.dsn_shapes.proofs.OutlineFits.{outlines_of_fit, outlines_of_few}
use Rattle.dsn_shapes.proofs.NameLaws.{ahead_is}
use Rattle.dsn_structure.specs.declared.structure.Structure.{Structure}
use Rattle.dsn_structure.specs.declared.structure.StructureWord.{StructureWord}
use Rattle.dsn_structure.specs.declared.structure.StructureWord.TheVariants as words
use Rattle.dsn_structure.specs.Structures.{flip_of, layer_of, layers_with, with_outlines, put_keep, with_keep, structure_word, structure_list, structure_item, no_structure, with_layer, all_layers, structure_at, structure_of}
use Rattle.dsn_structure.specs.Limits.{IsFitKeep, IsFitStructure}
use Rattle.dsn_structure.specs.Meaning.{IsStructure}
use Rattle.dsn_structure.proofs.AheadLaws.{ahead_are_layers}
use Rattle.dsn_structure.proofs.SectionReadings.{structure_found}

-- the structure so far, with keepouts on so many layers: it may have no layer yet
record IsFitPart (count : ℕ) (s : Structure) : Type 0 where
  few : length s.layers ≤ 32
  rule : IsFitRule s.rule
  outline : AreFitAreas s.outline
  keeps : AllByRecursion (IsFitKeep count) s.keeps

room_for_layer_of : (names : List (List ℕ)) (at : ℕ) (f : Forest) (name : List ℕ) → layer_of names at f ≡ Ok name → length names < 32
unfolding layer_of
room_for_layer_of names at f name e =
    let a = bind_ok (word_of at f) _ name e in
    let b = bind_ok (new_name 32 names a.0.0) _ name a.2 in
    (new_found 32 names a.0.0.at a.0.0.name tt b.1).1

fit_layers : (count : ℕ) (s : Structure) (at : ℕ) (f : Forest) (y : Structure) → IsFitPart count s → (layers_with s.layers at f >>= λ names. Ok (record s { layers = names })) ≡ Ok y → IsFitPart count y
fit_layers count s at f y p e =
    let a = bind_ok (layers_with s.layers at f) _ y e in
    let b = bind_ok (layer_of s.layers at f) _ a.0 a.1 in
    let quota = room_for_layer_of s.layers at f b.0 b.1 in
    let more : length (s.layers ++ b.0 ∷ []) ≤ 32 = rw (length-append s.layers (b.0 ∷ [])) (omega (arith, quota)) in
    let few = subst (λ (names : List (List ℕ)). length names ≤ 32) (ok_is b.2) more in
    let own : IsFitPart count (record s { layers = a.0 }) = record { few = few; rule = p.rule; outline = p.outline; keeps = p.keeps } in
    subst (IsFitPart count) (ok_is a.2) own

fit_outlines : (u : LengthUnit) (count : ℕ) (s : Structure) (at : ℕ) (f : Forest) (y : Structure) → IsFitPart count s → with_outlines u s at f ≡ Ok y → IsFitPart count y
fit_outlines u count s at f y p e =
    let a = bind_ok (outlines_of u s.outline at f) _ y e in
    let own : IsFitPart count (record s { outline = a.0 }) = record { few = p.few; rule = p.rule; outline = outlines_of_fit u s.outline at f a.0 p.outline a.1; keeps = p.keeps } in
    subst (IsFitPart count) (ok_is a.2) own

put_parts : (at : ℕ) (s : Structure) (k : KeepKind) (ss : List Shape) (o : Option Quota) (y : Structure) → put_keep at s k ss o ≡ Ok y → (quota : Quota) × (record s { keeps = s.keeps ++ Keep k ss ∷ []; quota = quota } ≡ y)
put_parts at s k ss None y e = absurd (err_gives e)
put_parts at s k ss (Some quota) y e = (quota, ok_is e)

fit_keep : (u : LengthUnit) (names : List (List ℕ)) (s : Structure) (k : KeepKind) (at : ℕ) (f : Forest) (y : Structure) → IsFitPart (length names) s → with_keep u names s k at f ≡ Ok y → IsFitPart (length names) y
fit_keep u names s k at f y p e =
    let a = bind_ok (keep_shapes u names at f) _ y e in
    let b = put_parts at s k a.0 (quota_behind s.quota a.0) y a.2 in
    let kept : IsFitKeep (length names) (Keep k a.0) = record { shapes = keep_shapes_fit u names at f a.0 a.1; few = keep_shapes_few u names at f a.0 a.1 } in
    let own : IsFitPart (length names) (record s { keeps = s.keeps ++ Keep k a.0 ∷ []; quota = b.0 }) =
    record { few = p.few; rule = p.rule; outline = p.outline; keeps = all_push (IsFitKeep (length names)) s.keeps (Keep k a.0) p.keeps kept } in
    subst (IsFitPart (length names)) b.1 own

fit_list : (u : LengthUnit) (names : List (List ℕ)) (s : Structure) (at : ℕ) (h : Heading) (w : StructureWord) (y : Structure) → IsFitPart (length names) s → structure_list u names s at h w ≡ Ok y → IsFitPart (length names) y
fit_list u names s at h words.Layer y p e = fit_layers (length names) s at h.args y p e
fit_list u names s at h words.Via y p e =
    let a = bind_ok (name_list at h.args) _ y e in
    subst (IsFitPart (length names)) (ok_is a.2) (record { few = p.few; rule = p.rule; outline = p.outline; keeps = p.keeps })
fit_list u names s at h words.Rule y p e =
    let a = bind_ok (rule_of u s.rule h.args) _ y e in
    subst (IsFitPart (length names)) (ok_is a.2) (record { few = p.few; rule = rule_of_bound u s.rule h.args a.0 a.1 p.rule; outline = p.outline; keeps = p.keeps })
fit_list u names s at h words.PlaceControl y p e =
    let a = bind_ok (flip_of at h.args) _ y e in
    subst (IsFitPart (length names)) (ok_is a.2) (record { few = p.few; rule = p.rule; outline = p.outline; keeps = p.keeps })
fit_list u names s at h words.Unit y p e = let a = bind_ok (unit_list at h.args) _ y e in subst (IsFitPart (length names)) (ok_is a.2) p
fit_list u names s at h words.Resolution y p e = absurd (err_gives e)
fit_list u names s at h words.Boundary y p e = fit_outlines u (length names) s at h.args y p e
fit_list u names s at h (words.Keep k) y p e = fit_keep u names s k at h.args y p e
fit_list u names s at h words.Other y p e = subst (IsFitPart (length names)) (ok_is e) p

fit_item : (u : LengthUnit) (names : List (List ℕ)) (s : Structure) (at : ℕ) (inside : Forest) (y : Structure) → IsFitPart (length names) s → structure_item u names s at inside ≡ Ok y → IsFitPart (length names) y
unfolding structure_item
fit_item u names s at inside y p e = fit_list u names s at (head_of inside) (structure_word (head_of inside).text) y p e

empty_fit : (count : ℕ) → IsFitPart count no_structure
empty_fit count = record { few = omega arith; rule = no_rule_fit; outline = tt; keeps = tt }

-- a section with a layer is what was read of its lists
whole_of : (at : ℕ) (s y : Structure) → with_layer at s ≡ Ok y → s ≡ y
unfolding with_layer
whole_of at s y e = ok_is (else_ok (length s.layers == 0) _ _ _ y e).1

part_of : (u : LengthUnit) (p : Spot) (y : Structure) → structure_at u p ≡ Ok y → IsFitPart (length (all_layers p.args)) y
unfolding structure_at
part_of u p y e =
    let a = bind_ok (each (structure_item (governing u p.args) (all_layers p.args)) no_structure p.args) _ y e in
    let n = length (all_layers p.args) in
    let own = each_keeps (IsFitPart (length (all_layers p.args))) (structure_item (governing u p.args) (all_layers p.args)) (fit_item (governing u p.args) (all_layers p.args)) no_structure p.args a.0 (empty_fit n) a.1 in
    subst (IsFitPart (length (all_layers p.args))) (whole_of p.at a.0 y a.2) own

fit_of : (names : List (List ℕ)) (p : Spot) (u : LengthUnit) (y : Structure) → names ≡ y.layers → IsFitPart (length names) y → IsStructure u p.args y → IsFitStructure y
fit_of names p u y same part is = record {
  some_layer = is.some;
  few_layers = part.few;
  rule = part.rule;
  outline = part.outline;
  keeps = subst (λ (ns : List (List ℕ)). AllByRecursion (IsFitKeep (length ns)) y.keeps) same part.keeps;
  items = is.section.items;
  points = is.section.points;
}

structure_at_fit : (u : LengthUnit) (p : Spot) (y : Structure) → structure_at u p ≡ Ok y → IsFitStructure y
structure_at_fit u p y e =
    let is = structure_found u p y e in
    fit_of (all_layers p.args) p u y (ahead_is _ p.args ∙ ahead_are_layers _ _ p.args y is.section) (part_of u p y e) is

pub structure_of_fit : (f : Forest) (y : Structure) → structure_of f ≡ Ok y → IsFitStructure y
unfolding structure_of
structure_of_fit f y e =
    let a = bind_ok (design_of f) _ y e in
    structure_at_fit a.0.unit (section_in sections.Structure f) y a.2

-- ---- how many outline areas there are

grown_list : (u : LengthUnit) (names : List (List ℕ)) (s : Structure) (at : ℕ) (h : Heading) (w : StructureWord) (y : Structure) → structure_list u names s at h w ≡ Ok y → length y.outline ≤ length s.outline + 32 * size h.args
grown_list u names s at h words.Layer y e =
    let a = bind_ok (layers_with s.layers at h.args) _ y e in
    let same = ap (λ (t : Structure). length t.outline) (ok_is a.2) in
    omega (arith, same)
grown_list u names s at h words.Via y e =
    let a = bind_ok (name_list at h.args) _ y e in
    let same = ap (λ (t : Structure). length t.outline) (ok_is a.2) in
    omega (arith, same)
grown_list u names s at h words.Rule y e =
    let a = bind_ok (rule_of u s.rule h.args) _ y e in
    let same = ap (λ (t : Structure). length t.outline) (ok_is a.2) in
    omega (arith, same)
grown_list u names s at h words.PlaceControl y e =
    let a = bind_ok (flip_of at h.args) _ y e in
    let same = ap (λ (t : Structure). length t.outline) (ok_is a.2) in
    omega (arith, same)
grown_list u names s at h words.Unit y e =
    let a = bind_ok (unit_list at h.args) _ y e in
    let same = ap (λ (t : Structure). length t.outline) (ok_is a.2) in
    omega (arith, same)
grown_list u names s at h words.Resolution y e = absurd (err_gives e)
grown_list u names s at h words.Boundary y e =
    let a = bind_ok (outlines_of u s.outline at h.args) _ y e in
    let more = outlines_of_few u s.outline at h.args a.0 a.1 in
    let same = ap (λ (t : Structure). length t.outline) (ok_is a.2) in
    omega (arith, same, more)
grown_list u names s at h (words.Keep k) y e =
    let a = bind_ok (keep_shapes u names at h.args) _ y e in
    let b = put_parts at s k a.0 (quota_behind s.quota a.0) y a.2 in
    let same = ap (λ (t : Structure). length t.outline) b.1 in
    omega (arith, same)
grown_list u names s at h words.Other y e = let same = ap (λ (t : Structure). length t.outline) (ok_is e) in omega (arith, same)

grown_item : (u : LengthUnit) (names : List (List ℕ)) (s : Structure) (at : ℕ) (inside : Forest) (y : Structure) → structure_item u names s at inside ≡ Ok y → length y.outline ≤ length s.outline + 32 * (1 + size inside)
unfolding structure_item
grown_item u names s at inside y e =
    let more = grown_list u names s at (head_of inside) (structure_word (head_of inside).text) y e in
    let small = head_of_size inside in
    omega (arith, more, small)

structure_at_few : (u : LengthUnit) (p : Spot) (y : Structure) → structure_at u p ≡ Ok y → length y.outline ≤ 32 * size p.args
unfolding structure_at
structure_at_few u p y e =
    let a = bind_ok (each (structure_item (governing u p.args) (all_layers p.args)) no_structure p.args) _ y e in
    let own = each_grows (λ (s : Structure). length s.outline) (structure_item (governing u p.args) (all_layers p.args)) (grown_item (governing u p.args) (all_layers p.args)) no_structure p.args a.0 a.1 in
    let same = ap (λ (t : Structure). length t.outline) (whole_of p.at a.0 y a.2) in
    omega (arith, own, same)

pub structure_of_few : (f : Forest) (y : Structure) → structure_of f ≡ Ok y → length y.outline ≤ 32 * size f
unfolding structure_of
structure_of_few f y e =
    let a = bind_ok (design_of f) _ y e in
    let few = structure_at_few a.0.unit (section_in sections.Structure f) y a.2 in
    let small = section_size sections.Structure f in
    omega (arith, few, small)
