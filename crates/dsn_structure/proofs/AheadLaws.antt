-- The names of layers that are collected ahead are the layers of a section that stands.
use Rattle.std.proofs.Common.{◌≡◌, ℕ, Bool, true, false, cond, List, [], ◌++◌, codes, refl, sym, ap, ◌∙◌}
use Rattle.std.specs.Prelude.{Option, Some, None}
use Rattle.sexp_text.specs.Forest.{Forest, End, Word, Branch}
use Rattle.sexp_text.specs.declared.units.Unit.{Unit as LengthUnit}
use Rattle.board_items.specs.declared.items.KeepKind.{KeepKind}
use Rattle.dsn_lists.specs.Words.{same, head_of}
use Rattle.dsn_lists.specs.Lists.{collect}
use Rattle.dsn_shapes.specs.Keepouts.{keep_kind}
use Rattle.dsn_shapes.specs.NameLists.{each_once, first_word, first_of}
use Rattle.dsn_shapes.proofs.NameLaws.{each_once_fresh}
use Rattle.dsn_structure.specs.declared.structure.Structure.{Structure}
use Rattle.dsn_structure.specs.declared.structure.StructureWord.{StructureWord}
use Rattle.dsn_structure.specs.declared.structure.StructureWord.TheVariants as words
use Rattle.dsn_structure.specs.Structures.{keep_word, area_word, structure_word}
use Rattle.dsn_structure.specs.LayerLists.{layer_name}
use Rattle.dsn_structure.specs.InLists.{layer_of_list, layers_in}
use Rattle.dsn_structure.specs.Meaning.{IsSection, section_layers}

name_is : (f : Forest) → first_word f ≡ layer_name f
name_is End = refl
name_is (Word at text rest) = refl
name_is (Branch at inside rest) = refl

-- a list of this keyword names no layer
abbrev NamesNone : StructureWord → Forest → Type 0
NamesNone k f = layer_of_list k f ≡ []

either : (b : Bool) (k l : StructureWord) (f : Forest) → NamesNone k f → NamesNone l f → NamesNone (cond b k l) f
either true k l f p q = p
either false k l f p q = q

no_keep : (o : Option KeepKind) (f : Forest) → NamesNone (keep_word o) f
no_keep None f = refl
no_keep (Some k) f = refl

no_area : (text : List ℕ) (f : Forest) → NamesNone (area_word text) f
unfolding area_word
no_area text f = either (same text (codes "boundary")) words.Boundary (keep_word (keep_kind text)) f refl (no_keep (keep_kind text) f)

-- what a keyword is that isn't `layer`
abbrev other_word : List ℕ → StructureWord
other_word text =
    cond (same text (codes "via")) words.Via (
    cond (same text (codes "rule")) words.Rule (
    cond (same text (codes "place_control")) words.PlaceControl (
    cond (same text (codes "unit")) words.Unit (
    cond (same text (codes "resolution")) words.Resolution (area_word text)))))

no_other : (text : List ℕ) (f : Forest) → NamesNone (other_word text) f
no_other text f =
    either (same text (codes "via")) words.Via _ f refl (
    either (same text (codes "rule")) words.Rule _ f refl (
    either (same text (codes "place_control")) words.PlaceControl _ f refl (
    either (same text (codes "unit")) words.Unit _ f refl (
    either (same text (codes "resolution")) words.Resolution (area_word text) f refl (no_area text f)))))

word_is : (text : List ℕ) → structure_word text ≡ cond (same text (codes "layer")) words.Layer (other_word text)
unfolding structure_word
word_is text = refl

one_is : (at : ℕ) (inside : Forest) → first_of (codes "layer") at inside ≡ layers_in at inside
one_is at inside =
    by (same (head_of inside).text (codes "layer")) (name_is (head_of inside).args) (no_other (head_of inside).text (head_of inside).args)
    ∙ ap (λ (k : StructureWord). layer_of_list k (head_of inside).args) (sym (word_is (head_of inside).text))
  where
    by : (b : Bool) → first_word (head_of inside).args ≡ layer_name (head_of inside).args → NamesNone (other_word (head_of inside).text) (head_of inside).args
        → cond b (first_word (head_of inside).args) [] ≡ layer_of_list (cond b words.Layer (other_word (head_of inside).text)) (head_of inside).args
    by true name none = name
    by false name none = sym none

names_are : (f : Forest) → collect (first_of (codes "layer")) f ≡ collect layers_in f
names_are End = refl
names_are (Word at text rest) = names_are rest
names_are (Branch at inside rest) =
    ap (λ (ns : List (List ℕ)). ns ++ collect (first_of (codes "layer")) rest) (one_is at inside) ∙ ap (λ (ns : List (List ℕ)). layers_in at inside ++ ns) (names_are rest)

-- the names of a section that stands are its layers
pub ahead_are_layers : (u : LengthUnit) (layers : List (List ℕ)) (f : Forest) (s : Structure) → IsSection u layers f s → section_layers f ≡ s.layers
ahead_are_layers u layers f s h =
    let names = names_are f ∙ sym h.layers in
    ap each_once names ∙ each_once_fresh s.layers h.fresh
