-- The lists of a network section, and what each states.
-- Models: the network descriptor of the SPECCTRA reference.
use Rattle.std.specs.Prelude.{◌≡◌, ℕ, List, [], ◌∷◌}
use Rattle.sexp_text.specs.Forest.{Forest}
use Rattle.sexp_text.specs.declared.units.Unit.{Unit as LengthUnit}
use Rattle.dsn_lists.specs.Words.{head_of}
use Rattle.dsn_lists.specs.Lists.{collect}
use Rattle.dsn_lists.specs.Measures.{IsUnitList}
use Rattle.dsn_network.specs.declared.classes.Class.{Class}
use Rattle.dsn_network.specs.declared.pairs.ClassPairs.{ClassPairs}
use Rattle.dsn_network.specs.declared.network.NetworkWord.{NetworkWord}
use Rattle.dsn_network.specs.declared.network.NetworkWord.TheVariants as words
use Rattle.dsn_network.specs.Networks.{network_word}
use Rattle.dsn_lists.specs.NewNames.{first_name}
use Rattle.dsn_network.specs.NamedPins.{references_of, with_nets}
use Rattle.dsn_network.specs.NetLists.{IsNet}
use Rattle.dsn_network.specs.ClassLists.{IsClass}
use Rattle.dsn_network.specs.ClassPairLists.{IsPairs}

-- what a list of the section has to be, by its keyword
abbrev pub IsOfNetwork : LengthUnit → NetworkWord → Forest → Type 0
IsOfNetwork u words.Net f = IsNet f
IsOfNetwork u words.Class f = (c : Class) × IsClass u f c
IsOfNetwork u words.Pairs f = (p : ClassPairs) × IsPairs u f p
IsOfNetwork u words.Unit f = IsUnitList f
IsOfNetwork u words.Resolution f = ⊥
IsOfNetwork u words.Other f = Unit {0}

-- a list that can stand in the section
abbrev pub IsNetworkList : LengthUnit → ℕ → Forest → Type 0
IsNetworkList u at inside = IsOfNetwork u (network_word (head_of inside).text) (head_of inside).args

-- the name of a net, of a list that is one
abbrev pub net_of_list : NetworkWord → Forest → List (List ℕ)
net_of_list words.Net f = first_name f
net_of_list _ f = []

-- the name of the net that a list states
abbrev pub nets_in : ℕ → Forest → List (List ℕ)
nets_in at inside = net_of_list (network_word (head_of inside).text) (head_of inside).args

-- the references of the net that a list states, by the list's keyword
abbrev pub references_of_list : NetworkWord → Forest → List (List (List ℕ))
references_of_list words.Net f = references_of f
references_of_list _ f = []

-- the references of the net that a list states
abbrev pub net_references_in : ℕ → Forest → List (List (List ℕ))
net_references_in at inside = references_of_list (network_word (head_of inside).text) (head_of inside).args

-- the references of the nets of a section, each with the number of its net
abbrev pub references : Forest → List (List ℕ × ℕ)
references f = with_nets 0 (collect net_references_in f)

-- what stands behind the keyword, of a class
abbrev pub class_of_list : NetworkWord → Forest → List Forest
class_of_list words.Class f = f ∷ []
class_of_list _ f = []

-- what stands behind the keyword of a list that is a class
abbrev pub classes_in : ℕ → Forest → List Forest
classes_in at inside = class_of_list (network_word (head_of inside).text) (head_of inside).args

-- what stands behind the keyword, of a list between classes
abbrev pub pairs_of_list : NetworkWord → Forest → List Forest
pairs_of_list words.Pairs f = f ∷ []
pairs_of_list _ f = []

-- what stands behind the keyword of a list between classes
abbrev pub pairs_in : ℕ → Forest → List Forest
pairs_in at inside = pairs_of_list (network_word (head_of inside).text) (head_of inside).args

-- each of these lists is the thing in its place, and there are no more things
abbrev pub AreEach : {A : Type 0} → (Forest → A → Type 0) → List Forest → List A → Type 0
AreEach Is [] xs = xs ≡ []
AreEach Is (f ∷ fs) [] = ⊥
AreEach Is (f ∷ fs) (x ∷ xs) = Is f x × AreEach Is fs xs
