-- What a layer of a structure is, and what is wrong with a list that is none.
-- Models: the layer descriptor of the SPECCTRA reference, whatever the type.
use Rattle.std.specs.Prelude.{◌≡◌, ℕ, ◌≤◌, ◌<◌, ◌⊎◌, true, false, List, [], ◌∷◌, codes, length}
use Rattle.row_lists.specs.Limits.{layer_limit}
use Rattle.sexp_text.specs.Forest.{Forest, End, Word, Branch}
use Rattle.dsn_lists.specs.declared.faults.DesignFault.{DesignFault}
use Rattle.dsn_lists.specs.declared.faults.DesignKind.TheVariants as kind
use Rattle.dsn_lists.specs.Words.{same, head_of}
use Rattle.dsn_lists.specs.Lists.{collect, Every, When, args_of, told, IsFirst}
use Rattle.dsn_lists.specs.ShortLists.{HasWord, NoWordOr, IsOneWord, OneWordFault}
use Rattle.dsn_lists.specs.NewNames.{IsNewName, OldNameFault}

-- ---- `(layer <id> (type <word>) ..)`

-- a `type` list holds one word; other lists are read over
abbrev pub IsProperty : ℕ → Forest → Type 0
IsProperty at inside = When (same (head_of inside).text (codes "type")) (IsOneWord (head_of inside).args)

-- the fault of a `type` list
abbrev pub PropertyFault : Forest → ℕ → Forest → DesignFault → Type 0
PropertyFault before at inside e = (same (head_of inside).text (codes "type") ≡ true) × OneWordFault at (head_of inside).args e

-- lists that state a type, once or more
abbrev pub HasType : Forest → Type 0
HasType f = Every IsProperty f × (0 < length (collect (args_of (codes "type")) f))

-- the first fault of these lists, of a layer that begins at this byte; where there is no type it is told at that byte
abbrev pub TypeFault : ℕ → Forest → DesignFault → Type 0
TypeFault at f e = IsFirst (Every IsProperty) PropertyFault f e ⊎ (Every IsProperty f × (collect (args_of (codes "type")) f ≡ []) × (e ≡ told kind.Form at))

-- a layer: a name, and a type
abbrev pub IsLayer : Forest → Type 0
IsLayer f = HasWord (λ text rest. HasType rest) f

-- the fault of a layer behind layers of these names: its name is one of them, there are 32 already, or its type is at fault
abbrev pub LayerFault : List (List ℕ) → ℕ → Forest → DesignFault → Type 0
LayerFault names at f e =
    NoWordOr (λ a text rest e. OldNameFault layer_limit names text a e
    ⊎ (IsNewName layer_limit names text × TypeFault at rest e)) at f e

-- the name of a layer
abbrev pub layer_name : Forest → List (List ℕ)
layer_name End = []
layer_name (Word at text rest) = text ∷ []
layer_name (Branch at inside rest) = []
