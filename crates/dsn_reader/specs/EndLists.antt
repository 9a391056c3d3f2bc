-- What the lists of a wire or a via say of its net and its type, and what is wrong with lists that say nothing of the kind.
-- Models: the net and type descriptors in the wiring of the SPECCTRA reference.
use Rattle.std.specs.Prelude.{◌≡◌, ◌≤◌, ℕ, Bool, ◌⊎◌, true, false, List, [], ◌∷◌, ◌++◌, length, Option, Some, None, is_some, if◌then◌else◌}
use Rattle.row_lists.specs.Limits.{net_limit}
use Rattle.sexp_text.specs.Forest.{Forest, End, Word, Branch}
use Rattle.dsn_lists.specs.declared.faults.DesignFault.{DesignFault}
use Rattle.dsn_lists.specs.declared.faults.DesignKind.TheVariants as kind
use Rattle.dsn_lists.specs.Words.{head_of}
use Rattle.dsn_lists.specs.Names.{is_among, place_of}
use Rattle.dsn_lists.specs.Lists.{collect, told, IsFirst}
use Rattle.dsn_lists.specs.ShortLists.{only_lists, HasStray, HasWord, NoWordOr}
use Rattle.dsn_reader.specs.declared.ends.Ends.{Ends}
use Rattle.dsn_reader.specs.declared.ends.EndWord.{EndWord}
use Rattle.dsn_reader.specs.declared.ends.EndWord.TheVariants as ends
use Rattle.dsn_reader.specs.Wirings.{Netted, type_named, end_word}

-- at most one list stands here, and it states this
abbrev pub StateAtMostOne : {A : Type 0} → (Forest → A → Type 0) → List Forest → Option A → Type 0
StateAtMostOne States [] o = o ≡ None
StateAtMostOne {A} States (f ∷ []) o = (x : A) × States f x × (o ≡ Some x)
StateAtMostOne States (f ∷ g ∷ fs) o = ⊥

-- ---- nets

-- these names, and behind them each of those that isn't there, in the order of its first use
abbrev pub with_names : List (List ℕ) → List (List ℕ) → List (List ℕ)
with_names nets [] = nets
with_names nets (name ∷ names) = with_names (if is_among name nets then nets else nets ++ name ∷ []) names

-- what stands behind the keyword of a list that states a net
abbrev pub net_args : EndWord → Forest → List Forest
net_args ends.Net f = f ∷ []
net_args _ f = []

-- the list, where it states a net
abbrev pub nets_in : ℕ → Forest → List Forest
nets_in at inside = net_args (end_word (head_of inside).text) (head_of inside).args

-- the first word
abbrev pub first_name : Forest → List (List ℕ)
first_name End = []
first_name (Word at text rest) = text ∷ []
first_name (Branch at inside rest) = []

-- the name of the net that a list states, by its keyword
abbrev pub name_of_list : EndWord → Forest → List (List ℕ)
name_of_list ends.Net f = first_name f
name_of_list _ f = []

-- the name of the net that a list states
abbrev pub names_in : ℕ → Forest → List (List ℕ)
names_in at inside = name_of_list (end_word (head_of inside).text) (head_of inside).args

-- `(net <id>)`, behind its keyword: the name of the net of this number
abbrev pub IsNet : List (List ℕ) → Forest → ℕ → Type 0
IsNet nets f n = HasWord (λ text rest. (only_lists rest ≡ true) × (place_of nets text ≡ Some n)) f

-- the name is new, and there are 100,000 nets already
abbrev pub IsNetTooMany : List (List ℕ) → List ℕ → Type 0
IsNetTooMany nets text = (is_among text nets ≡ false) × (net_limit ≤ length nets)

-- the fault of a list that is to name a net
abbrev pub NetFault : List (List ℕ) → ℕ → Forest → DesignFault → Type 0
NetFault nets at f e = NoWordOr (λ a text rest e. HasStray rest e ⊎ ((only_lists rest ≡ true) × IsNetTooMany nets text × (e ≡ told kind.Large a))) at f e

-- ---- types

-- what stands behind the keyword of a list that states a type
abbrev pub type_args : EndWord → Forest → List Forest
type_args ends.Kind f = f ∷ []
type_args _ f = []

-- the list, where it states a type
abbrev pub types_in : ℕ → Forest → List Forest
types_in at inside = type_args (end_word (head_of inside).text) (head_of inside).args

-- `(type t)`, behind its keyword: whether t is `fix`
abbrev pub IsType : Forest → Bool → Type 0
IsType f fix = HasWord (λ text rest. (type_named text ≡ Some fix) × (only_lists rest ≡ true)) f

-- the word is a type
abbrev pub NamesType : List ℕ → Type 0
NamesType text = (fix : Bool) × (type_named text ≡ Some fix)

-- the fault of a list that is to state a type
abbrev pub TypeFault : ℕ → Forest → DesignFault → Type 0
TypeFault at f e = NoWordOr (λ a text rest e. ((type_named text ≡ None) × (e ≡ told kind.Style a)) ⊎ (NamesType text × HasStray rest e)) at f e

-- ---- both

-- lists of which at most one names a net, one of these, and at most one a type
pub record AreEnds (nets : List (List ℕ)) (f : Forest) (x : Ends) : Type 0 where
  pub lists : only_lists f ≡ true
  pub net : StateAtMostOne (IsNet nets) (collect nets_in f) x.net
  pub fix : StateAtMostOne IsType (collect types_in f) x.fix

-- the same, where the net is put behind these nets if it isn't there; there are at most 100,000
pub record HasEnds (nets : List (List ℕ)) (f : Forest) (x : Netted Ends) : Type 0 where
  pub nets_are : x.nets ≡ with_names nets (collect names_in f)
  pub few : length x.nets ≤ net_limit
  pub ends_are : AreEnds x.nets f x.it

-- what is wrong with a list that begins at this byte, behind lists that state this, by its keyword
abbrev pub OfEndFault : Netted Ends → ℕ → Forest → EndWord → DesignFault → Type 0
OfEndFault x at f ends.Net e = ((is_some x.it.net ≡ true) × (e ≡ told kind.Form at)) ⊎ ((x.it.net ≡ None) × NetFault x.nets at f e)
OfEndFault x at f ends.Kind e = ((is_some x.it.fix ≡ true) × (e ≡ told kind.Form at)) ⊎ ((x.it.fix ≡ None) × TypeFault at f e)
OfEndFault x at f ends.Other e = ⊥

-- the fault of a list behind others: a second net or type, or the fault of what it states
abbrev pub EndFault : List (List ℕ) → Forest → ℕ → Forest → DesignFault → Type 0
EndFault nets before at inside e = (x : Netted Ends) × HasEnds nets before x × OfEndFault x at (head_of inside).args (end_word (head_of inside).text) e

-- the first fault of the lists behind the words of a via
abbrev pub EndsFault : List (List ℕ) → Forest → DesignFault → Type 0
EndsFault nets f e = IsFirst (λ f. (x : Netted Ends) × HasEnds nets f x) (EndFault nets) f e
