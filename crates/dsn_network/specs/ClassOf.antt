-- Of which class a net is.
-- Models: the class descriptor of the SPECCTRA reference; of several classes that name a net the first holds. Cited by: the
-- design that a text states.
use Rattle.std.specs.Prelude.{◌≡◌, ℕ, suc, ◌⊎◌, Bool, true, false, List, [], ◌∷◌, ◌++◌, map, length}
use Rattle.std.specs.List.{AllByRecursion}
use Rattle.dsn_lists.specs.declared.marks.Mark.{Mark}
use Rattle.dsn_lists.specs.Names.{is_among}
use Rattle.dsn_network.specs.declared.classes.Class.{Class}

-- the class names the net
abbrev pub names_net : List ℕ → Class → Bool
names_net net c = is_among net (map (λ (m : Mark). m.name) c.nets)

-- none of the classes names the net
abbrev pub NoneNames : List ℕ → List Class → Type 0
NoneNames net classes = AllByRecursion (λ (c : Class). names_net net c ≡ false) classes

-- the class of this number, counted from 1 in the order of the text, names the net, and none before it does
pub record IsFirstNaming (net : List ℕ) (classes : List Class) (k : ℕ) : Type 0 where
  pub before : List Class
  pub class : Class
  pub after : List Class
  pub parts : classes ≡ before ++ class ∷ after
  pub number : k ≡ suc (length before)
  pub names : names_net net class ≡ true
  pub first : NoneNames net before

-- the number of the net's class: that of the first class that names it, and 0 where none does
abbrev pub IsClassOf : List Class → List ℕ → ℕ → Type 0
IsClassOf classes net k = IsFirstNaming net classes k ⊎ (NoneNames net classes × (k ≡ 0))

-- the numbers are those of the classes of these nets, one for each net, in order
abbrev pub AreClassesOf : List Class → List (List ℕ) → List ℕ → Type 0
AreClassesOf classes [] numbers = numbers ≡ []
AreClassesOf classes (net ∷ nets) [] = ⊥
AreClassesOf classes (net ∷ nets) (k ∷ numbers) = IsClassOf classes net k × AreClassesOf classes nets numbers
