-- What a net of a network is, and what is wrong with a list that is none.
-- Models: the net and pins descriptors of the SPECCTRA reference.
use Rattle.std.specs.Prelude.{◌≡◌, ℕ, ◌⊎◌, true, List, codes}
use Rattle.std.specs.List.{AllByRecursion}
use Rattle.row_lists.specs.Limits.{net_limit}
use Rattle.sexp_text.specs.Forest.{Forest, End, Word, Branch}
use Rattle.dsn_lists.specs.declared.faults.DesignFault.{DesignFault}
use Rattle.dsn_lists.specs.declared.faults.DesignKind.TheVariants as kind
use Rattle.dsn_lists.specs.Words.{same, head_of}
use Rattle.dsn_lists.specs.Lists.{collect, Every, When, told, IsFirst}
use Rattle.dsn_lists.specs.ShortLists.{only_lists, HasStray, HasWord, NoWordOr, behind_words}
use Rattle.dsn_library.specs.declared.library.Library.{Library}
use Rattle.dsn_placement.specs.declared.placement.Placement.{Placement}
use Rattle.dsn_lists.specs.NewNames.{IsNewName, OldNameFault}
use Rattle.dsn_network.specs.PinOf.{IsPinOf, NamesNone}
use Rattle.dsn_network.specs.NamedPins.{references_in, IsInNet}

-- ---- `(net <id> (pins <reference> ..) ..)`

-- behind the references of a `pins` list stand only lists; other lists are read over
abbrev pub IsNetList : ℕ → Forest → Type 0
IsNetList at inside = When (same (head_of inside).text (codes "pins")) (only_lists (behind_words (head_of inside).args) ≡ true)

-- a net: a name, and lists
abbrev pub IsNet : Forest → Type 0
IsNet f = HasWord (λ text rest. Every IsNetList rest) f

-- ---- faults, behind nets of these names with these references

-- an earlier net names the pin
abbrev pub IsTaken : Placement → Library → List (List ℕ × ℕ) → ℕ × ℕ → Type 0
IsTaken p l earlier pin = (net : ℕ) × IsInNet p l earlier pin net

-- the reference names a pin that no earlier net names
abbrev pub NamesFreePin : Placement → Library → List (List ℕ × ℕ) → List ℕ → Type 0
NamesFreePin p l earlier text = (pin : ℕ × ℕ) × IsPinOf p l text pin × (IsTaken p l earlier pin → ⊥)

-- the fault of a reference at this byte: it names no pin, or one that an earlier net names
abbrev pub ReferenceFault : Placement → Library → List (List ℕ × ℕ) → List ℕ → ℕ → DesignFault → Type 0
ReferenceFault p l earlier text at e =
    (NamesNone p l text × (e ≡ told kind.Name at))
    ⊎ ((pin : ℕ × ℕ) × IsPinOf p l text pin × IsTaken p l earlier pin × (e ≡ told kind.Twice at))

-- the fault of what stands in a `pins` list: the first reference with a fault; or a word behind lists
abbrev pub PinsFault : Placement → Library → List (List ℕ × ℕ) → Forest → DesignFault → Type 0
PinsFault p l earlier End e = ⊥
PinsFault p l earlier (Word at text rest) e = ReferenceFault p l earlier text at e ⊎ (NamesFreePin p l earlier text × PinsFault p l earlier rest e)
PinsFault p l earlier (Branch at inside rest) e = HasStray rest e

-- the fault of a list of a net
abbrev pub NetListFault : Placement → Library → List (List ℕ × ℕ) → Forest → ℕ → Forest → DesignFault → Type 0
NetListFault p l earlier before at inside e = (same (head_of inside).text (codes "pins") ≡ true) × PinsFault p l earlier (head_of inside).args e

-- lists of a net that are without fault
abbrev pub AreNetLists : Placement → Library → List (List ℕ × ℕ) → Forest → Type 0
AreNetLists p l earlier f = Every IsNetList f × AllByRecursion (NamesFreePin p l earlier) (collect references_in f)

-- the fault of a net: its name isn't new, or a list of it is at fault
abbrev pub NetFault : Placement → Library → List (List ℕ) → List (List ℕ × ℕ) → ℕ → Forest → DesignFault → Type 0
NetFault p l names earlier at f e =
    NoWordOr (λ a text rest e. OldNameFault net_limit names text a e
    ⊎ (IsNewName net_limit names text × IsFirst (AreNetLists p l earlier) (NetListFault p l earlier) rest e)) at f e
