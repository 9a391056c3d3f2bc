-- The parts of a serving, and what each of them leaves.
-- No public contract cites this module
use Rattle.std.specs.Prelude.{◌≡◌, ◌⊎◌, ℕ, true, List, [], Some, None, IfSome}
use Rattle.layout_io.specs.Causes.{Rose}
use Rattle.layout_io.specs.Told.{Disk, Told, FilesTold, SameBut, bytes_of}
use Rattle.layout_io.specs.Doors.{DoorTold}
use Rattle.board_rules.specs.declared.design.Design.{Design}
use Rattle.board_rules.specs.declared.design.Parts.{Parts}
use Rattle.board_core.specs.Boards.{last_board}
use Rattle.whole_files.specs.Outside.{SameFiles, OnlyWrites, WroteFile, WroteFirst, WroteSome}
use Rattle.board_files.specs.Inputs.{HasClean, IsClean}
use Rattle.ses_writer.specs.Session.{session_of}
use Rattle.session_server.specs.Lefts.{Left, nothing, HasServed}
use Rattle.session_server.specs.Rows.{AsksBoth}
use Rattle.session_server.specs.declared.ends.End.{End}
use Rattle.session_server.specs.declared.ends.End.TheVariants as ends

-- the door is bound at the address, and the links to come are as before
pub record IsBound (address : List ℕ) (d e : DoorTold) : Type 0 where
  pub asked : e.asked ≡ Some address
  pub bound : e.bound ≡ true
  pub coming : e.coming ≡ d.coming
  pub faults : e.faults ≡ d.faults

-- why the door was not bound
abbrev pub BindEnd : List ℕ → DoorTold → DoorTold → End → Type 0
BindEnd address d e ends.Door = (e.asked ≡ Some address) × Rose d.faults e.faults
BindEnd address d e ends.Memory = (e.asked ≡ None) × (e.faults ≡ d.faults)
BindEnd address d e _ = ⊥

-- the design of the file, which is clean, is made of these parts
pub record IsLoaded (name : List ℕ) (parts : Parts) (f : FilesTold) : Type 0 where
  pub design : Design
  pub parts_are : parts ≡ design.parts
  pub has : IfSome f.disk (HasClean name design)
  pub clean : IsClean design

-- why the session file was not made: no file changed
abbrev pub MakeEnd : FilesTold → FilesTold → End → Type 0
MakeEnd f g ends.Write = Told f.disk g.disk SameFiles × Rose f.write_faults g.write_faults
MakeEnd f g ends.Memory = Told f.disk g.disk SameFiles × (g.write_faults ≡ f.write_faults)
MakeEnd f g _ = ⊥

-- the session file is empty, and is written under the number
pub record IsEmptyFile (session : List ℕ) (file : ℕ) (d e : Disk) : Type 0 where
  pub empty : bytes_of e.files session ≡ Some []
  pub others : SameBut session d.files e.files
  pub target : e.target file ≡ session

-- the design is loaded, and the session file made
pub record IsReady (design session : List ℕ) (parts : Parts) (file : ℕ) (f g : FilesTold) : Type 0 where
  pub loaded : IsLoaded design parts f
  pub made : Told f.disk g.disk (IsEmptyFile session file)
  pub asks : AsksBoth design session f g
  pub writes : g.write_faults ≡ f.write_faults

-- why no link was accepted
abbrev pub AcceptEnd : DoorTold → DoorTold → End → Type 0
AcceptEnd d e ends.Door = Rose d.faults e.faults × (e.asked ≡ d.asked)
AcceptEnd d e ends.Memory = (e.faults ≡ d.faults) × (e.asked ≡ d.asked)
AcceptEnd d e _ = ⊥

-- how a text was written to the file of the number
abbrev pub StoreEnd : ℕ → List ℕ → FilesTold → FilesTold → End → Type 0
StoreEnd file text f g ends.Done = Told f.disk g.disk (WroteFile file text) × (g.write_faults ≡ f.write_faults) × OnlyWrites f g
StoreEnd file text f g ends.Write = WroteSome file text f g × Rose f.write_faults g.write_faults × OnlyWrites f g
StoreEnd file text f g ends.Memory = ((m : ℕ) × Told f.disk g.disk (WroteFirst file text m)) × (g.write_faults ≡ f.write_faults) × OnlyWrites f g
StoreEnd file text f g _ = ⊥

-- no call on the door failed, and it was asked for no other address
pub record IsStill (d e : DoorTold) : Type 0 where
  pub asked : e.asked ≡ d.asked
  pub faults : e.faults ≡ d.faults

-- one session was served, and the text of its last board was stored so
pub record HasRun (p : Parts) (file : ℕ) (f g : FilesTold) (d e : DoorTold) (l : Left) (end : End) : Type 0 where
  pub served : HasServed p d.coming l
  pub stored : StoreEnd file (session_of p (last_board p l.journal).live) f g end
  pub door : IsStill d e

-- no link was accepted, or one session was served
abbrev pub RunEnd : Parts → ℕ → FilesTold → FilesTold → DoorTold → DoorTold → Left → End → Type 0
RunEnd p file f g d e l end = ((l ≡ nothing) × (g ≡ f) × AcceptEnd d e end) ⊎ HasRun p file f g d e l end
