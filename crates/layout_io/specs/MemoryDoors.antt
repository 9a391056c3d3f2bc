-- What contracts see of a dial and of a door in memory.
use Rattle.std.specs.Prelude.{◌≡◌, ◌⊎◌, ℕ, Bool, List, [], Option, Some, None, ⊤}
use Rattle.layout_io.specs.declared.memory_link.MemLink.{MemLink}
use Rattle.layout_io.specs.Calls.{IsListed}
use Rattle.layout_io.specs.MemoryLinks.{wire_of, link_told}
use Rattle.layout_io.specs.Doors.{DialTold, DoorTold, IsUntouched}

-- nothing was read or written
pub record IsUnused (link : MemLink) : Type 0 where
  pub nothing : (wire_of link).written ≡ []
  pub untouched : IsUntouched (link_told link)
  pub no_read : link.read_calls ≡ 0
  pub no_write : link.write_calls ≡ 0

-- the bytes that a link has to read
abbrev pub bytes_left : MemLink → List ℕ
bytes_left link = (wire_of link).left

-- the link is there until an address was asked for, and was not used
abbrev pub IsReady : Option (List ℕ) → Option MemLink → Type 0
IsReady asked (Some link) = IsUnused link
IsReady (Some address) None = ⊤
IsReady None None = ⊥

-- a dial: the address asked for, the bytes of the link to come, whether a connect is to fail, the count of faults
pub record DialState : Type 0 where
  pub asked : Option (List ℕ)
  pub coming : Option (List ℕ)
  pub failing : Bool
  pub faults : ℕ

-- what a dial tells
abbrev pub dial_told : DialState → DialTold
dial_told d = record { asked = d.asked; coming = d.coming; faults = d.faults }

-- a door: the address asked for, whether it is bound, the bytes of the links to come, whether a bind is to fail, the
-- accepts that are to fail, how many were made, the count of faults
pub record DoorState : Type 0 where
  pub asked : Option (List ℕ)
  pub bound : Bool
  pub coming : List (List ℕ)
  pub failing_bind : Bool
  pub failing : List ℕ
  pub accepts : ℕ
  pub faults : ℕ

-- what a door tells
abbrev pub door_told : DoorState → DoorTold
door_told d = record { asked = d.asked; bound = d.bound; coming = Some d.coming; faults = d.faults }

-- an accept fails: it is listed, or no link is left
abbrev pub IsAcceptDue : DoorState → Type 0
IsAcceptDue d = IsListed d.failing d.accepts ⊎ (d.coming ≡ [])
