-- Addresses that are asked for, and links that come.
use Rattle.std.specs.Prelude.{◌≡◌, ℕ, Bool, false, List, [], ◌∷◌, Option, Some, None, Result, Ok, Err}
use Rattle.layout_io.specs.declared.fault.IoFault.{IoFault}
use Rattle.layout_io.specs.declared.fault.IoFault.TheVariants.{Failed, Memory}
use Rattle.layout_io.specs.Links.{Wire, LinkTold}

-- what a dial tells: the address asked for, the bytes to read of the link to come, where it tells them, and how often a
-- connect answered `Failed`
pub record DialTold : Type 0 where
  pub asked : Option (List ℕ)
  pub coming : Option (List ℕ)
  pub faults : ℕ

-- what a door tells: the address asked for, whether it is bound, the bytes to read of each link still to come, where it
-- tells them, and how often a bind or an accept answered `Failed`
pub record DoorTold : Type 0 where
  pub asked : Option (List ℕ)
  pub bound : Bool
  pub coming : Option (List (List ℕ))
  pub faults : ℕ

-- the address was asked for, but where memory ran out
abbrev pub Asks : {T : Type 0} → List ℕ → Option (List ℕ) → Result T IoFault → Type 0
Asks address now (Ok x) = now ≡ Some address
Asks address now (Err Failed) = now ≡ Some address
Asks address now (Err Memory) = now ≡ None

-- no call on the link failed, and no write met want of memory
pub record IsUntouched (l : LinkTold) : Type 0 where
  pub reads : l.read_faults ≡ 0
  pub writes : l.write_faults ≡ 0
  pub shortages : l.shortages ≡ 0
  pub late : l.late ≡ false

-- a new link with these bytes to read: nothing was written, and no call failed
pub record IsNew (bytes : List ℕ) (l : LinkTold) : Type 0 where
  pub wire : l.wire ≡ Some (record { left = bytes; written = [] })
  pub untouched : IsUntouched l

-- a new link came, with the bytes to come, where they are told
abbrev pub HasCome : Option (List ℕ) → LinkTold → Type 0
HasCome None l = IsUntouched l
HasCome (Some bytes) l = IsNew bytes l

-- where the links to come are told, the first of them came, and the others are still to come
abbrev pub TakesNext : Option (List (List ℕ)) → Option (List (List ℕ)) → LinkTold → Type 0
TakesNext None now l = IsUntouched l
TakesNext (Some []) now l = ⊥
TakesNext (Some (bytes ∷ rest)) now l = IsNew bytes l × (now ≡ Some rest)
