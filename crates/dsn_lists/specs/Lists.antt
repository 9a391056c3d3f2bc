-- What lists that stand one after another state, said of all of them at once, and the first thing among them that is wrong.
-- Cited by: the meaning of each section.
use Rattle.std.specs.Prelude.{◌≡◌, ℕ, Bool, true, false, List, [], ◌∷◌, ◌++◌, if◌then◌else◌}
use Rattle.sexp_text.specs.Forest.{Forest, End, Word, Branch}
use Rattle.dsn_lists.specs.declared.faults.DesignFault.{DesignFault}
use Rattle.dsn_lists.specs.declared.faults.DesignKind.{DesignKind}
use Rattle.dsn_lists.specs.declared.faults.DesignKind.TheVariants.{Form}
use Rattle.dsn_lists.specs.Names.{is_among}
use Rattle.dsn_lists.specs.Words.{same, head_of}

-- what the lists of a forest give, in order
abbrev pub collect : {A : Type 0} → (ℕ → Forest → List A) → Forest → List A
collect give End = []
collect give (Word at text rest) = collect give rest
collect give (Branch at inside rest) = give at inside ++ collect give rest

-- there are only lists, and this holds of each, by its byte and what stands in it
abbrev pub Every : (ℕ → Forest → Type 0) → Forest → Type 0
Every Holds End = Unit {0}
Every Holds (Word at text rest) = ⊥
Every Holds (Branch at inside rest) = Holds at inside × Every Holds rest

-- this holds, if the test is true
abbrev pub When : Bool → Type 0 → Type 0
When true Holds = Holds
When false Holds = Unit {0}

-- what stands behind the keyword of a list, where it has this one
abbrev pub args_of : List ℕ → ℕ → Forest → List Forest
args_of name at inside = if same (head_of inside).text name then (head_of inside).args ∷ [] else []

-- the last one, and x where there is none
abbrev pub last_of : {A : Type 0} → A → List A → A
last_of x [] = x
last_of x (y ∷ ys) = last_of y ys

-- no name is one of those that stand before it
abbrev pub AreFresh : List (List ℕ) → Type 0
AreFresh names = (before after : List (List ℕ)) (name : List ℕ) → names ≡ before ++ name ∷ after → is_among name before ≡ false

-- there are only lists, and one behind another they state these, each by what stands in it
abbrev pub Joins : {A : Type 0} → (Forest → List A → Type 0) → Forest → List A → Type 0
Joins States End xs = xs ≡ []
Joins States (Word at text rest) xs = ⊥
Joins {A = A} States (Branch at inside rest) xs = (front : List A) × (back : List A) × States inside front × Joins States rest back × (xs ≡ front ++ back)

-- one forest after another
abbrev pub joined : Forest → Forest → Forest
joined End g = g
joined (Word at text rest) g = Word at text (joined rest g)
joined (Branch at inside rest) g = Branch at inside (joined rest g)

-- a fault of this kind at this byte
abbrev pub told : DesignKind → ℕ → DesignFault
told kind at = record { kind = kind; at = at }

-- what stands first is wrong: a word where only a list can stand, or a list with a fault of its own
abbrev pub Breaks : (ℕ → Forest → DesignFault → Type 0) → Forest → DesignFault → Type 0
Breaks HasFault End e = ⊥
Breaks HasFault (Word at text rest) e = e ≡ told Form at
Breaks HasFault (Branch at inside rest) e = HasFault at inside e

-- the first fault of lists: a front of them stands, and behind it something is wrong
pub record IsFirst (Stand : Forest → Type 0) (HasFault : Forest → ℕ → Forest → DesignFault → Type 0) (f : Forest) (e : DesignFault) : Type 0 where
  pub before : Forest
  pub after : Forest
  pub parts : f ≡ joined before after
  pub stand : Stand before
  pub breaks : Breaks (HasFault before) after e
