-- How `serve` ends: what is known of the design, the files and the door at each of its ends.
-- Models: one order of causes, and one session at most. Cited by `serve`
use Rattle.std.specs.Prelude.{◌≡◌, ◌≢◌, ◌⊎◌, ◌<◌, ℕ, List, [], ◌∷◌, length, take, Some, None, IfSome}
use Rattle.layout_io.specs.Causes.{Rose}
use Rattle.layout_io.specs.Told.{Disk, Told, FilesTold, SameBut, bytes_of}
use Rattle.layout_io.specs.Doors.{DoorTold}
use Rattle.board_rules.specs.declared.design.Design.{Design}
use Rattle.board_core.specs.Boards.{last_board}
use Rattle.whole_files.specs.Words.{Asked}
use Rattle.whole_files.specs.Outside.{SameFiles, OnlyRead, FailedRead}
use Rattle.board_files.specs.Inputs.{HasClean, HasFault, HasUnclean}
use Rattle.ses_writer.specs.Session.{session_of}
use Rattle.session_server.specs.Words.{Names, IsServe}
use Rattle.session_server.specs.Lefts.{Left, nothing, HasServed}
use Rattle.session_server.specs.declared.ends.End.{End}
use Rattle.session_server.specs.declared.ends.End.TheVariants as ends

-- ---- the files

-- the file under the name has these bytes, and other files stayed
abbrev pub HasFile : List ℕ → List ℕ → Disk → Disk → Type 0
HasFile name bytes old new = (bytes_of new.files name ≡ Some bytes) × SameBut name old.files new.files

-- a front of the text is in the file
abbrev pub HasFront : List ℕ → List ℕ → ℕ → Disk → Disk → Type 0
HasFront name text m old new = HasFile name (take m text) old new

-- the design's file and then the session file were asked for, as far as it came, and no open or read failed
pub record AsksBoth (design session : List ℕ) (f g : FilesTold) : Type 0 where
  pub asked : Asked (design ∷ session ∷ []) f.asked g.asked
  pub reads : g.read_faults ≡ f.read_faults

-- the design's file states a clean design
abbrev pub HasSomeClean : List ℕ → FilesTold → Type 0
HasSomeClean design f = (d : Design) × IfSome f.disk (HasClean design d)

-- the design is clean, and the session file was made; it is empty
pub record IsMade (design session : List ℕ) (f g : FilesTold) : Type 0 where
  pub clean : HasSomeClean design f
  pub file : Told f.disk g.disk (HasFile session [])
  pub asks : AsksBoth design session f g
  pub writes : g.write_faults ≡ f.write_faults

-- the design is clean, and the making of the session file failed
pub record IsUnmade (design session : List ℕ) (f g : FilesTold) : Type 0 where
  pub clean : HasSomeClean design f
  pub kept : Told f.disk g.disk SameFiles
  pub asks : AsksBoth design session f g
  pub rose : Rose f.write_faults g.write_faults

-- memory ran out: no file changed, or the session file was made and is empty
pub record IsShort (design session : List ℕ) (f g : FilesTold) : Type 0 where
  pub file : Told f.disk g.disk SameFiles ⊎ Told f.disk g.disk (HasFile session [])
  pub asks : AsksBoth design session f g
  pub writes : g.write_faults ≡ f.write_faults

-- why no session began, by what is known of the files
abbrev pub FilesEnd : List ℕ → List ℕ → FilesTold → FilesTold → End → Type 0
FilesEnd design session f g (ends.Design kind at) = IfSome f.disk (HasFault design (record { kind = kind; at = at })) × OnlyRead (design ∷ []) f g
FilesEnd design session f g ends.Read = FailedRead (design ∷ []) f g
FilesEnd design session f g ends.Write = IsUnmade design session f g
FilesEnd design session f g (ends.Unclean a b) = IfSome f.disk (HasUnclean design a.0 b.0) × OnlyRead (design ∷ []) f g
FilesEnd design session f g ends.Memory = IsShort design session f g
FilesEnd design session f g _ = ⊥

-- how the session text was stored: the whole, a front of it with a write that failed, or a front of it for want of memory
abbrev pub IsStored : List ℕ → List ℕ → FilesTold → FilesTold → End → Type 0
IsStored session text f g ends.Done = Told f.disk g.disk (HasFile session text) × (g.write_faults ≡ f.write_faults)
IsStored session text f g ends.Write = (m : ℕ) × (m < length text) × Told f.disk g.disk (HasFront session text m) × Rose f.write_faults g.write_faults
IsStored session text f g ends.Memory = (m : ℕ) × Told f.disk g.disk (HasFront session text m) × (g.write_faults ≡ f.write_faults)
IsStored session text f g _ = ⊥

-- ---- the door

-- the door was asked for the address, and no call on it failed
pub record IsAsked (address : List ℕ) (d e : DoorTold) : Type 0 where
  pub asked : e.asked ≡ Some address
  pub faults : e.faults ≡ d.faults

-- the same, but that it may not have been asked yet
abbrev pub MayBeAsked : List ℕ → DoorTold → DoorTold → Type 0
MayBeAsked address d e = ((e.asked ≡ None) ⊎ (e.asked ≡ Some address)) × (e.faults ≡ d.faults)

-- the bind failed, before any file was asked for, or the accept did, behind the making of the session file
pub record HasFailedDoor (n : Names) (f g : FilesTold) (d e : DoorTold) : Type 0 where
  pub asked : e.asked ≡ Some n.address
  pub rose : Rose d.faults e.faults
  pub files : (g ≡ f) ⊎ IsMade n.design n.session f g

-- ---- the ends

-- why no session began
abbrev pub HasNotBegun : Names → FilesTold → FilesTold → DoorTold → DoorTold → End → Type 0
HasNotBegun n f g d e ends.Memory = IsShort n.design n.session f g × MayBeAsked n.address d e
HasNotBegun n f g d e ends.Door = HasFailedDoor n f g d e
HasNotBegun n f g d e end = FilesEnd n.design n.session f g end × IsAsked n.address d e

-- one session was served, of the clean design that the file states, and the text of its last board was stored so
pub record HasBegun (n : Names) (f g : FilesTold) (d e : DoorTold) (l : Left) (end : End) : Type 0 where
  pub design : Design
  pub has : IfSome f.disk (HasClean n.design design)
  pub served : HasServed design.parts d.coming l
  pub stored : IsStored n.session (session_of design.parts (last_board design.parts l.journal).live) f g end
  pub asks : AsksBoth n.design n.session f g
  pub door : IsAsked n.address d e

-- no session began, and the end says why; or one was served, and the end says how its text was stored
abbrev pub IsEnded : Names → FilesTold → FilesTold → DoorTold → DoorTold → Left → End → Type 0
IsEnded n f g d e l end = ((l ≡ nothing) × HasNotBegun n f g d e end) ⊎ HasBegun n f g d e l end

-- `Usage` comes exactly where the words aren't those of `serve`; then nothing was asked for and nothing is left
pub record IsUsage (words : List (List ℕ)) (f g : FilesTold) (d e : DoorTold) (l : Left) (end : End) : Type 0 where
  pub words_are : end ≡ ends.Usage → IsServe words → ⊥
  pub told : (IsServe words → ⊥) → end ≡ ends.Usage
  pub files : end ≡ ends.Usage → g ≡ f
  pub door : end ≡ ends.Usage → e ≡ d
  pub left : end ≡ ends.Usage → l ≡ nothing

-- an end comes of a fault only where the count of it rose, and no fault is passed over
pub record HasCounts (end : End) (f g : FilesTold) (d e : DoorTold) : Type 0 where
  pub read : end ≡ ends.Read → Rose f.read_faults g.read_faults
  pub no_read_fault : end ≢ ends.Read → g.read_faults ≡ f.read_faults
  pub write : end ≡ ends.Write → Rose f.write_faults g.write_faults
  pub no_write_fault : end ≢ ends.Write → g.write_faults ≡ f.write_faults
  pub door : end ≡ ends.Door → Rose d.faults e.faults
  pub no_door_fault : end ≢ ends.Door → e.faults ≡ d.faults

-- no count of failed calls rose
pub record NoFault (f g : FilesTold) (d e : DoorTold) : Type 0 where
  pub read : Rose f.read_faults g.read_faults → ⊥
  pub write : Rose f.write_faults g.write_faults → ⊥
  pub door : Rose d.faults e.faults → ⊥
