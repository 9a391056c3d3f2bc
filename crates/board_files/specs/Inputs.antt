-- What the design under its name was found to be.
use Rattle.std.specs.Prelude.{◌≡◌, ℕ, List, Option, Some, None}
use Rattle.layout_io.specs.Told.{Disk, bytes_of}
use Rattle.board_rules.specs.declared.design.Design.{Design}
use Rattle.board_core.specs.Boards.{first_board}
use Rattle.board_core.specs.Clean.{IsCleanBoard, IsLeastPair}
use Rattle.dsn_lists.specs.declared.faults.DesignFault.{DesignFault}
use Rattle.dsn_reader.specs.Design.{IsDesign, IsFirstFault}

-- the file under the name states this design
abbrev pub HasDesign : List ℕ → Design → Disk → Type 0
HasDesign name d disk = (bytes : List ℕ) × (bytes_of disk.files name ≡ Some bytes) × IsDesign bytes d

-- the file under the name has this first fault
abbrev pub HasFault : List ℕ → DesignFault → Disk → Type 0
HasFault name e disk = (bytes : List ℕ) × (bytes_of disk.files name ≡ Some bytes) × IsFirstFault bytes e

-- no two loaded items of the design are too near to each other, under the rules that it starts with
abbrev pub IsClean : Design → Type 0
IsClean d = IsCleanBoard d.parts (first_board d.parts).rules (first_board d.parts).live

-- a and b are the least two loaded items of the design that are too near
abbrev pub AreLeast : Design → ℕ → ℕ → Type 0
AreLeast d a b = IsLeastPair d.parts (first_board d.parts).rules (first_board d.parts).live a b

-- the file under the name states this design, and it is clean
abbrev pub HasClean : List ℕ → Design → Disk → Type 0
HasClean name d disk = HasDesign name d disk × IsClean d

-- the file under the name states a design that isn't clean, by these two items
abbrev pub HasUnclean : List ℕ → ℕ → ℕ → Disk → Type 0
HasUnclean name a b disk = (d : Design) × HasDesign name d disk × AreLeast d a b

-- the files are told, and the one under the name states this clean design
abbrev pub HasToldClean : List ℕ → Design → Option Disk → Type 0
HasToldClean name d None = ⊥
HasToldClean name d (Some disk) = HasClean name d disk
