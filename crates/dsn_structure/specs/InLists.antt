-- What each list of a structure section states, by its keyword.
use Rattle.std.specs.Prelude.{ℕ, List, [], ◌∷◌, Option}
use Rattle.sexp_text.specs.Forest.{Forest}
use Rattle.dsn_lists.specs.declared.marks.Mark.{Mark}
use Rattle.dsn_lists.specs.Words.{head_of}
use Rattle.dsn_lists.specs.Lists.{collect}
use Rattle.dsn_lists.specs.ShortLists.{first_words}
use Rattle.dsn_lists.specs.Statements.{Claim, widths_in, claims_in}
use Rattle.dsn_structure.specs.declared.flips.FlipStyle.{FlipStyle}
use Rattle.dsn_structure.specs.declared.structure.StructureWord.{StructureWord}
use Rattle.dsn_structure.specs.declared.structure.StructureWord.TheVariants as words
use Rattle.dsn_structure.specs.Structures.{structure_word}
use Rattle.dsn_structure.specs.LayerLists.{layer_name}
use Rattle.dsn_structure.specs.FlipLists.{styles_in}

-- the name of a layer, of a list that is one
abbrev pub layer_of_list : StructureWord → Forest → List (List ℕ)
layer_of_list words.Layer f = layer_name f
layer_of_list _ f = []

-- the name of the layer that a list states
abbrev pub layers_in : ℕ → Forest → List (List ℕ)
layers_in at inside = layer_of_list (structure_word (head_of inside).text) (head_of inside).args

-- the padstacks, of a `via` list
abbrev pub vias_of_list : StructureWord → Forest → List (List Mark)
vias_of_list words.Via f = first_words f ∷ []
vias_of_list _ f = []

-- the padstacks that a `via` list names
abbrev pub vias_in : ℕ → Forest → List (List Mark)
vias_in at inside = vias_of_list (structure_word (head_of inside).text) (head_of inside).args

-- the texts of the widths, of a rule
abbrev pub widths_of_list : StructureWord → Forest → List (Option (List ℕ))
widths_of_list words.Rule f = collect widths_in f
widths_of_list _ f = []

-- the texts of the widths that a rule states
abbrev pub rule_widths : ℕ → Forest → List (Option (List ℕ))
rule_widths at inside = widths_of_list (structure_word (head_of inside).text) (head_of inside).args

-- the clearances, of a rule
abbrev pub claims_of_list : StructureWord → Forest → List Claim
claims_of_list words.Rule f = collect claims_in f
claims_of_list _ f = []

-- the clearances that a rule states
abbrev pub rule_claims : ℕ → Forest → List Claim
rule_claims at inside = claims_of_list (structure_word (head_of inside).text) (head_of inside).args

-- the flip style, of a `place_control` list
abbrev pub flips_of_list : StructureWord → Forest → List FlipStyle
flips_of_list words.PlaceControl f = collect styles_in f
flips_of_list _ f = []

-- the flip style that a `place_control` list states
abbrev pub flips_in : ℕ → Forest → List FlipStyle
flips_in at inside = flips_of_list (structure_word (head_of inside).text) (head_of inside).args
