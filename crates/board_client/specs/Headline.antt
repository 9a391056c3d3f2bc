-- What a client's words lead to.
-- Cited by `client`
use Rattle.std.specs.Prelude.{◌≡◌, ◌≢◌, ◌⊎◌, ℕ, List, [], ◌∷◌, length, codes}
use Rattle.layout_io.specs.Told.{FilesTold, SinkTold}
use Rattle.layout_io.specs.Links.{LinkTold}
use Rattle.layout_io.specs.Doors.{DialTold}
use Rattle.whole_files.specs.Stops.{Tells}
use Rattle.board_client.specs.Visits.{HasCalled, HasMissed}

-- the words are an address, a design and a file of lines, and a link to the address was visited
pub record HasLink (words : List (List ℕ)) (f g : FilesTold) (o p : SinkTold) (d e : DialTold) (l : LinkTold) (status : ℕ) : Type 0 where
  pub address : List ℕ
  pub design : List ℕ
  pub lines : List ℕ
  pub words_are : words ≡ address ∷ design ∷ lines ∷ []
  pub called : HasCalled address design lines f g o p d e l status

-- the words aren't three, which the line `usage` tells; nothing else was done
pub record HasUsage (words : List (List ℕ)) (f g : FilesTold) (o p : SinkTold) (d e : DialTold) (status : ℕ) : Type 0 where
  pub status_is : status ≡ 1
  pub form : length words ≢ 3
  pub line : Tells (codes "usage\n") o p
  pub files : g ≡ f
  pub dial : e ≡ d

-- the words are three, and no link came to the address
pub record HasNoAnswer (words : List (List ℕ)) (f g : FilesTold) (o p : SinkTold) (d e : DialTold) (status : ℕ) : Type 0 where
  pub address : List ℕ
  pub design : List ℕ
  pub lines : List ℕ
  pub words_are : words ≡ address ∷ design ∷ lines ∷ []
  pub missed : HasMissed address f g o p d e status

-- memory ran out while the words were read; nothing was done
pub record HasNoMemory (f g : FilesTold) (o p : SinkTold) (d e : DialTold) (status : ℕ) : Type 0 where
  pub status_is : status ≡ 7
  pub files : g ≡ f
  pub out : p ≡ o
  pub dial : e ≡ d

-- no link came
abbrev pub HasNoLink : List (List ℕ) → FilesTold → FilesTold → SinkTold → SinkTold → DialTold → DialTold → ℕ → Type 0
HasNoLink words f g o p d e status = HasUsage words f g o p d e status ⊎ HasNoAnswer words f g o p d e status ⊎ HasNoMemory f g o p d e status

-- the statuses that are given
abbrev pub IsGiven : ℕ → Type 0
IsGiven status = (status ≡ 0) ⊎ (status ≡ 1) ⊎ (status ≡ 2) ⊎ (status ≡ 3) ⊎ (status ≡ 4) ⊎ (status ≡ 7) ⊎ (status ≡ 9) ⊎ (status ≡ 10)
