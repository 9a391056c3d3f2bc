-- The parts of a line, as they are read one after another, each behind a space.
use Rattle.std.specs.Prelude.{ℕ, ◌≡◌, ◌≤◌, ◌⊎◌, List, ◌∷◌, ◌++◌, length}
use Rattle.std.specs.List.{flat_map, AllByRecursion}
use Rattle.session_wire.specs.declared.faults.Halt.{Halt}
use Rattle.session_wire.specs.declared.faults.Halt.TheVariants.{Left, Memory}
use Rattle.session_wire.specs.Words.{IsWord, EndsWord}
use Rattle.session_wire.specs.Numbers.{number_text}
use Rattle.session_wire.specs.Places.{Continues}

-- a thing of a form, and what follows it
pub record Then {T : Type 0} (P : T → Type 0) (text : T → List ℕ) (line : List ℕ) (x : T) (rest : List ℕ) : Type 0 where
  pub formed : P x
  pub ends : EndsWord rest
  pub spelled : line ≡ text x ++ rest

-- the line begins with a thing of the form
abbrev pub Begins : {T : Type 0} → (T → Type 0) → (T → List ℕ) → List ℕ → Type 0
Begins {T} P text line = (x : T) × (rest : List ℕ) × Then P text line x rest

-- so many things of a form
abbrev pub AreSo : {T : Type 0} → ℕ → (T → Type 0) → List T → Type 0
AreSo count P things = (length things ≡ count) × AllByRecursion P things

-- so many of them, each spelled in turn, and what follows
abbrev pub AreThen : {T : Type 0} → (T → Type 0) → (T → List ℕ) → ℕ → List ℕ → List T → List ℕ → Type 0
AreThen P text count = Then (AreSo count P) (flat_map text)

-- things of a form, as many as two bounds allow
pub record AreCounted {T : Type 0} (least most : ℕ) (P : T → Type 0) (things : List T) : Type 0 where
  pub enough : least ≤ length things
  pub fit : length things ≤ most
  pub formed : AllByRecursion P things

-- how many things, and these
abbrev pub counted_text : {T : Type 0} → (T → List ℕ) → List T → List ℕ
counted_text text things = number_text (length things) ++ flat_map text things

-- how many of them, each spelled in turn, and what follows
abbrev pub CountedThen : {T : Type 0} → (T → Type 0) → (T → List ℕ) → ℕ → ℕ → List ℕ → List T → List ℕ → Type 0
CountedThen P text least most = Then (AreCounted least most P) (counted_text text)

-- the first word with which no line of the form goes on has so many bytes left, itself among them
pub record StopsAtWord (Is : List ℕ → Type 0) (line : List ℕ) (left : ℕ) : Type 0 where
  pub words : List ℕ
  pub word : List ℕ
  pub rest : List ℕ
  pub parts : line ≡ words ++ 32 ∷ (word ++ rest)
  pub place : left ≡ length (word ++ rest)
  pub whole : IsWord word
  pub ends : EndsWord rest
  pub read : Continues Is words
  pub lost : Continues Is (words ++ 32 ∷ word) → ⊥

-- lines of the form begin with the line and go on, and none ends with it: no byte is left
pub record StopsShort (Is : List ℕ → Type 0) (line : List ℕ) (left : ℕ) : Type 0 where
  pub place : left ≡ 0
  pub read : Continues Is line
  pub none : Is line → ⊥

-- how many bytes are left of a line, behind a word's end, where it stops to be one of the form
abbrev pub StopsAt : (List ℕ → Type 0) → List ℕ → ℕ → Type 0
StopsAt Is line left = StopsAtWord Is line left ⊎ StopsShort Is line left

-- why a part isn't read
abbrev pub WhyHalts : (List ℕ → Type 0) → List ℕ → Halt → Type 0
WhyHalts Is line (Left left) = StopsAt Is line left
WhyHalts Is line Memory = Unit {0}
