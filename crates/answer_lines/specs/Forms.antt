-- Texts by their form: numbers, and reasons with the numbers that they name. No public contract cites this module.
use Rattle.std.specs.Prelude.{◌≡◌, ◌⊎◌, ℕ, List, ◌∷◌, ◌++◌, codes, decimal}
use Rattle.session_wire.specs.Numbers.{IsBetween}
use Rattle.answer_lines.specs.Answers.{number_limit, IsNumbered, IsTwice}

-- a number between two bounds
pub record IsNumber (least most : ℕ) (text : List ℕ) : Type 0 where
  pub number : ℕ
  pub fits : IsBetween least most number
  pub spelled : text ≡ decimal number

-- two numbers, each between two bounds
pub record AreNumbers (least first_most second_most : ℕ) (text : List ℕ) : Type 0 where
  pub first : ℕ
  pub second : ℕ
  pub first_fits : IsBetween least first_most first
  pub second_fits : IsBetween least second_most second
  pub spelled : text ≡ decimal first ++ (32 ∷ decimal second)

-- a word alone
unfoldable pub IsBare : List ℕ → Type 0
IsBare text = (text ≡ codes "empty") ⊎ (text ≡ codes "area")

-- reasons with the number of an add
unfoldable pub IsOfAdd : List ℕ → Type 0
IsOfAdd text = IsNumbered (codes "net ") number_limit text ⊎ IsNumbered (codes "layer ") number_limit text ⊎ IsNumbered (codes "narrow ") number_limit text
    ⊎ IsNumbered (codes "padstack ") number_limit text ⊎ IsNumbered (codes "range ") number_limit text ⊎ IsNumbered (codes "outside ") number_limit text

-- reasons with the number of an item
unfoldable pub IsOfItem : List ℕ → Type 0
IsOfItem text = IsNumbered (codes "repeated ") number_limit text ⊎ IsNumbered (codes "missing ") number_limit text ⊎ IsNumbered (codes "fixed ") number_limit text
    ⊎ IsNumbered (codes "unheld ") number_limit text ⊎ IsNumbered (codes "covers ") number_limit text

-- reasons with the number of a boundary
unfoldable pub IsOfFence : List ℕ → Type 0
IsOfFence text = IsNumbered (codes "protected ") number_limit text ⊎ IsNumbered (codes "overlap ") number_limit text
    ⊎ IsNumbered (codes "nofence ") number_limit text ⊎ IsNumbered (codes "notowner ") number_limit text

-- reasons with the number of a boundary's layer, of a client or of a class
unfoldable pub IsOfOther : List ℕ → Type 0
IsOfOther text = IsNumbered (codes "fencelayer ") 255 text ⊎ IsNumbered (codes "client ") 255 text ⊎ IsNumbered (codes "noclass ") number_limit text

-- reasons with two numbers
unfoldable pub IsOfTwo : List ℕ → Type 0
IsOfTwo text = IsTwice (codes "own ") number_limit text ⊎ IsTwice (codes "clash ") number_limit text
    ⊎ IsTwice (codes "unclean ") number_limit text ⊎ IsTwice (codes "reserved ") 255 text

-- reasons with no number, or with one of an add or an item
unfoldable pub IsPlain : List ℕ → Type 0
IsPlain text = IsBare text ⊎ IsOfAdd text ⊎ IsOfItem text

-- the other reasons
unfoldable pub IsOther : List ℕ → Type 0
IsOther text = IsOfFence text ⊎ IsOfOther text ⊎ IsOfTwo text
