-- What the lists of a section stand for together is what is read.
use Rattle.std.proofs.Common.{◌≡◌, ℕ, ◌≤◌, List, ◌++◌, length, Ok, sym, ap, subst, ◌∙◌, append_assoc, arith}
use Rattle.std.proofs.lemmas.List.{length-append}
use Rattle.sexp_text.specs.Forest.{Forest, End, Word, Branch}
use Rattle.sexp_text.specs.declared.units.Unit.{Unit as LengthUnit}
use Rattle.dsn_lists.specs.Results.{each}
use Rattle.dsn_lists.specs.Words.{head_of}
use Rattle.dsn_lists.specs.Lists.{collect, Every}
use Rattle.dsn_lists.proofs.Firsts.{made, ok_is, bind_ok}
use Rattle.dsn_lists.proofs.Fresh.{AreFreshBehind, fresh_none, fresh_join, fresh_front, fresh_back}
use Rattle.dsn_lists.proofs.RuleLaws.{rule_states, AllWidths, AllClaims, widths_join, claims_join}
use Rattle.dsn_shapes.specs.declared.quotas.Quota.{Quota}
use Rattle.dsn_structure.specs.declared.structure.Structure.{Structure}
use Rattle.dsn_structure.specs.declared.structure.StructureWord.{StructureWord}
use Rattle.dsn_structure.specs.declared.structure.StructureWord.TheVariants as words
use Rattle.dsn_structure.specs.Structures.{structure_word, structure_item}
use Rattle.dsn_structure.specs.InLists.{layers_in, vias_in, widths_of_list, rule_widths, claims_of_list, rule_claims, flips_in}
use Rattle.dsn_structure.specs.Meaning.{IsOfStructure, IsStructureList}
use Rattle.dsn_structure.proofs.TakenLaws.{taken, HasQuota, none_fit, quota_join, quota_front, quota_rest}
use Rattle.dsn_structure.proofs.AreaLaws.{areas_in, items_in}
use Rattle.dsn_structure.proofs.AddingLaws.{Added, adding, adding_more, adding_none}
use Rattle.dsn_structure.proofs.OneListLaws.{added_by, next, IsGood, still_few, one_found, one_again}

-- ---- all lists

-- what all lists add
abbrev pub added_by_all : LengthUnit → List (List ℕ) → Forest → Added
added_by_all u layers f = record {
  layers = collect layers_in f;
  vias = collect vias_in f;
  widths = collect rule_widths f;
  claims = collect rule_claims f;
  flips = collect flips_in f;
  areas = collect (areas_in u) f;
  keeps = collect (items_in u layers) f;
}

-- the structure behind all lists
abbrev pub all : LengthUnit → List (List ℕ) → Structure → Forest → Structure
all u layers s f = adding u s (added_by_all u layers f)

-- the structure behind a list, by its keyword
abbrev next_list : LengthUnit → List (List ℕ) → Structure → Forest → Structure
next_list u layers s inside = next u layers s (structure_word (head_of inside).text) (head_of inside).args

more : (u : LengthUnit) (layers : List (List ℕ)) (s : Structure) (at : ℕ) (inside rest : Forest) → all u layers (next_list u layers s inside) rest ≡ all u layers s (Branch at inside rest)
more u layers s at inside rest = adding_more u s (added_by u layers (structure_word (head_of inside).text) (head_of inside).args) (added_by_all u layers rest)

-- lists as they have to be, layers whose names are new, and room for keepouts
pub record AreGood (u : LengthUnit) (layers : List (List ℕ)) (s : Structure) (f : Forest) : Type 0 where
  pub formed : Every (IsStructureList u layers) f
  pub fresh : AreFreshBehind s.layers (collect layers_in f)
  pub few : length (s.layers ++ collect layers_in f) ≤ 32
  pub space : HasQuota s.quota (collect (items_in u layers) f)

pub all_found : (u : LengthUnit) (layers : List (List ℕ)) (f : Forest) (s t : Structure) → length s.layers ≤ 32 → each (structure_item u layers) s f ≡ Ok t → AreGood u layers s f × (t ≡ all u layers s f)
unfolding each structure_item
all_found u layers End s t few e = (record { formed = tt; fresh = fresh_none s.layers; few = still_few s.layers few; space = none_fit s.quota }, sym (ok_is s t e) ∙ adding_none u s)
all_found u layers (Word at text rest) s t few e = absurd cc
all_found u layers (Branch at inside rest) s t few e =
    let y = bind_ok (structure_item u layers s at inside) (λ y. each (structure_item u layers) y rest) t e in
    let one = one_found u layers s at (head_of inside) (structure_word (head_of inside).text) y.0 few y.1 in
    let names : y.0.layers ≡ s.layers ++ layers_in at inside = ap (λ (x : Structure). x.layers) one.1 in
    let left : y.0.quota ≡ taken s.quota (items_in u layers at inside) = ap (λ (x : Structure). x.quota) one.1 in
    let others = all_found u layers rest y.0 t (subst (λ (xs : List (List ℕ)). length xs ≤ 32) (sym names) one.0.few) y.2 in (
      record {
        formed = (one.0.formed, others.0.formed);
        fresh = fresh_join (layers_in at inside) (collect layers_in rest) s.layers one.0.fresh (subst (λ (xs : List (List ℕ)). AreFreshBehind xs (collect layers_in rest)) names others.0.fresh);
        few = subst (λ (xs : List (List ℕ)). length xs ≤ 32) (ap (λ (xs : List (List ℕ)). xs ++ collect layers_in rest) names ∙ append_assoc s.layers (layers_in at inside) (collect layers_in rest)) others.0.few;
        space = quota_join s.quota (items_in u layers at inside) (collect (items_in u layers) rest) one.0.space (subst (λ (r : Quota). HasQuota r (collect (items_in u layers) rest)) left others.0.space);
      },
      others.1 ∙ ap (λ (x : Structure). all u layers x rest) one.1 ∙ more u layers s at inside rest,
    )

front_few : (xs ys zs : List (List ℕ)) → length (xs ++ (ys ++ zs)) ≤ 32 → length (xs ++ ys) ≤ 32
front_few xs ys zs h =
    let sum = length-append (xs ++ ys) zs in
    let same = ap length (append_assoc xs ys zs) in
    omega arith

pub all_again : (u : LengthUnit) (layers : List (List ℕ)) (f : Forest) (s : Structure) → AreGood u layers s f → each (structure_item u layers) s f ≡ Ok (all u layers s f)
unfolding each structure_item
all_again u layers End s g = ap made (adding_none u s)
all_again u layers (Word at text rest) s g = absurd g.formed
all_again u layers (Branch at inside rest) s g =
    let here : IsGood u layers s (structure_word (head_of inside).text) (head_of inside).args = record {
      formed = g.formed.0;
      fresh = fresh_front (layers_in at inside) (collect layers_in rest) s.layers g.fresh;
      few = front_few s.layers (layers_in at inside) (collect layers_in rest) g.few;
      space = quota_front s.quota (items_in u layers at inside) (collect (items_in u layers) rest) g.space;
    } in
    let first = one_again u layers s at (head_of inside) (structure_word (head_of inside).text) here in
    let others : AreGood u layers (next_list u layers s inside) rest = record {
      formed = g.formed.1;
      fresh = fresh_back (layers_in at inside) (collect layers_in rest) s.layers g.fresh;
      few = subst (λ (xs : List (List ℕ)). length xs ≤ 32) (sym (append_assoc s.layers (layers_in at inside) (collect layers_in rest))) g.few;
      space = quota_rest s.quota (items_in u layers at inside) (collect (items_in u layers) rest) g.space;
    } in
    rw first (all_again u layers rest (next_list u layers s inside) others ∙ ap made (more u layers s at inside rest))

-- ---- what rules state

one_states : (u : LengthUnit) (layers : List (List ℕ)) (f : Forest) (k : StructureWord) → IsOfStructure u layers k f → AllWidths u (widths_of_list k f) × AllClaims u (claims_of_list k f)
one_states u layers f words.Rule h = rule_states u f h
one_states u layers f words.Layer h = (tt, tt)
one_states u layers f words.Via h = (tt, tt)
one_states u layers f words.PlaceControl h = (tt, tt)
one_states u layers f words.Unit h = (tt, tt)
one_states u layers f words.Resolution h = (tt, tt)
one_states u layers f words.Boundary h = (tt, tt)
one_states u layers f (words.Keep k) h = (tt, tt)
one_states u layers f words.Other h = (tt, tt)

pub all_state : (u : LengthUnit) (layers : List (List ℕ)) (f : Forest) → Every (IsStructureList u layers) f → AllWidths u (collect rule_widths f) × AllClaims u (collect rule_claims f)
all_state u layers End h = (tt, tt)
all_state u layers (Word at text rest) h = absurd h
all_state u layers (Branch at inside rest) h =
    let one = one_states u layers (head_of inside).args (structure_word (head_of inside).text) h.0 in
    let others = all_state u layers rest h.1 in
    (widths_join u (rule_widths at inside) (collect rule_widths rest) one.0 others.0, claims_join u (rule_claims at inside) (collect rule_claims rest) one.1 others.1)
