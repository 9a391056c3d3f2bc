-- What a list between classes stands for, and what is wrong with one that stands for nothing.
-- Models: the class_class and classes descriptors of the SPECCTRA reference.
use Rattle.std.specs.Prelude.{◌≡◌, ℕ, ◌≤◌, ◌<◌, ◌⊎◌, List, [], ◌∷◌, length}
use Rattle.sexp_text.specs.Forest.{Forest}
use Rattle.sexp_text.specs.declared.units.Unit.{Unit as LengthUnit}
use Rattle.dsn_lists.specs.declared.faults.DesignFault.{DesignFault}
use Rattle.dsn_lists.specs.declared.faults.DesignKind.TheVariants as kind
use Rattle.dsn_lists.specs.declared.marks.Mark.{Mark}
use Rattle.dsn_lists.specs.Words.{head_of}
use Rattle.dsn_lists.specs.Lists.{collect, Every, told, IsFirst}
use Rattle.dsn_lists.specs.ShortLists.{HasWord, NoWordOr, first_words, IsNameList, NameListFault}
use Rattle.dsn_lists.specs.Statements.{Claim, AreStated, IsClearanceList, ClearancesFault, clearances_in}
use Rattle.dsn_network.specs.declared.pairs.ClassPairs.{ClassPairs}
use Rattle.dsn_network.specs.declared.pairs.PairWord.{PairWord}
use Rattle.dsn_network.specs.declared.pairs.PairWord.TheVariants as pairs
use Rattle.dsn_network.specs.ClassPairings.{pair_word}

-- ---- `(classes <class> <class> ..)`

-- two names or more stand here
abbrev pub AreTwoNames : Forest → Type 0
AreTwoNames f = HasWord (λ text rest. IsNameList rest) f

-- the fault of a list that is to hold two names or more
abbrev pub TwoNamesFault : ℕ → Forest → DesignFault → Type 0
TwoNamesFault at f e = NoWordOr (λ a text rest e. NameListFault at rest e) at f e

-- ---- the lists of `class_class`

-- what a list has to be, by its keyword; a rule states clearances alone
abbrev pub IsOfPairs : LengthUnit → PairWord → Forest → Type 0
IsOfPairs u pairs.Names f = AreTwoNames f
IsOfPairs u pairs.Rules f = Every (IsClearanceList u) f
IsOfPairs u pairs.Other f = Unit {0}

-- a list that can stand there
abbrev pub IsPairsList : LengthUnit → ℕ → Forest → Type 0
IsPairsList u at inside = IsOfPairs u (pair_word (head_of inside).text) (head_of inside).args

-- the names, of a list of classes
abbrev pub names_of_list : PairWord → Forest → List (List Mark)
names_of_list pairs.Names f = first_words f ∷ []
names_of_list _ f = []

-- the names that a list gives
abbrev pub pair_names : ℕ → Forest → List (List Mark)
pair_names at inside = names_of_list (pair_word (head_of inside).text) (head_of inside).args

-- the clearances, of a rule
abbrev pub claims_of_list : PairWord → Forest → List Claim
claims_of_list pairs.Rules f = collect clearances_in f
claims_of_list _ f = []

-- the clearances that a list states
abbrev pub pair_claims : ℕ → Forest → List Claim
pair_claims at inside = claims_of_list (pair_word (head_of inside).text) (head_of inside).args

-- ---- `(class_class (classes <class> <class> ..) (rule ..) ..)`

-- the list, behind its keyword, stands for these names and clearances: one list in it names classes, and the clearances of all
-- its rules are kept in order
pub record IsPairs (u : LengthUnit) (f : Forest) (p : ClassPairs) : Type 0 where
  pub formed : Every (IsPairsList u) f
  pub names : collect pair_names f ≡ p.names ∷ []
  pub stated : AreStated u (collect pair_claims f) p.stated

-- ---- the first fault

-- lists that can stand there, of which at most one names classes
pub record MayStand (u : LengthUnit) (f : Forest) : Type 0 where
  pub formed : Every (IsPairsList u) f
  pub once : length (collect pair_names f) ≤ 1

-- what is wrong with a list that begins at this byte, by its keyword, behind lists that name classes so often
abbrev pub OfPairsFault : LengthUnit → ℕ → ℕ → PairWord → Forest → DesignFault → Type 0
OfPairsFault u named at pairs.Names f e = ((0 < named) × (e ≡ told kind.Form at)) ⊎ ((named ≡ 0) × TwoNamesFault at f e)
OfPairsFault u named at pairs.Rules f e = ClearancesFault u f e
OfPairsFault u named at pairs.Other f e = ⊥

-- the fault of a list behind others: a second list of classes, or a fault of its own
abbrev pub PairsListFault : LengthUnit → Forest → ℕ → Forest → DesignFault → Type 0
PairsListFault u before at inside e = OfPairsFault u (length (collect pair_names before)) at (pair_word (head_of inside).text) (head_of inside).args e

-- the fault of a list between classes that begins at this byte: of its first list that has one; where none names classes it is
-- told there
abbrev pub PairsFault : LengthUnit → ℕ → Forest → DesignFault → Type 0
PairsFault u at f e =
    IsFirst (MayStand u) (PairsListFault u) f e
    ⊎ (Every (IsPairsList u) f × (collect pair_names f ≡ []) × (e ≡ told kind.Missing at))
