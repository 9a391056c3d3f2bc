-- What a client does over a link, by how it ends.
-- Left out: what the turns of a talk are, which client_talk has. Cited by `client`, by way of `HasLink`
use Rattle.std.specs.Prelude.{◌≡◌, ◌⊎◌, ℕ, List, [], ◌∷◌, Some, None, IfSome, Result, Ok, Err}
use Rattle.layout_io.specs.Causes.{Rose}
use Rattle.layout_io.specs.Told.{FilesTold, SinkTold}
use Rattle.layout_io.specs.Links.{LinkTold}
use Rattle.layout_io.specs.Doors.{DialTold, HasCome}
use Rattle.board_rules.specs.declared.design.Design.{Design}
use Rattle.whole_files.specs.Outside.{OnlyRead}
use Rattle.whole_files.specs.Stops.{status_of as file_status}
use Rattle.client_talk.specs.declared.stop.Stop.{Stop}
use Rattle.client_talk.specs.declared.stop.Stop.TheVariants as talks
use Rattle.client_talk.specs.Hears.{LinkCause, OutCause}
use Rattle.client_talk.specs.Lines.{lines_of}
use Rattle.client_talk.specs.Meets.{HasSpoken}
use Rattle.board_client.specs.Loads.{HasInputs, LoadStop}
use Rattle.board_client.specs.declared.stop.ClientStop.{ClientStop}
use Rattle.board_client.specs.declared.stop.ClientStop.TheVariants.{Files, Talk}

-- the status of a talk that stopped
abbrev pub talk_status : Stop → ℕ
talk_status talks.Out = 4
talk_status talks.Memory = 7
talk_status talks.Link = 9
talk_status talks.Ended = 9
talk_status talks.Refused = 10

-- the status of an end
abbrev pub status_of : {T : Type 0} → Result T ClientStop → ℕ
status_of (Ok x) = 0
status_of (Err (Files stop)) = file_status stop
status_of (Err (Talk stop)) = talk_status stop

-- both files were read, and then the lines' text was talked over the link, with a new replica of the design
pub record HasTalkedOver {T : Type 0} (design lines : List ℕ) (f g : FilesTold) (o p : SinkTold) (came l : LinkTold) (end : Result T Stop) : Type 0 where
  pub plan : Design
  pub text : List ℕ
  pub inputs : IfSome f.disk (HasInputs design plan lines text)
  pub only : OnlyRead (design ∷ lines ∷ []) f g
  pub spoken : HasSpoken (lines_of text) plan.parts o.written p.written came.wire l.wire end
  pub link_cause : LinkCause came.read_faults l.read_faults came.write_faults l.write_faults end
  pub out_cause : OutCause o.faults p.faults end

-- what was done over a link, by how it ended: where a file wasn't read, nothing was done on the link or the output
abbrev pub HasVisited : {T : Type 0} → List ℕ → List ℕ → FilesTold → FilesTold → SinkTold → SinkTold → LinkTold → LinkTold → Result T ClientStop → Type 0
HasVisited {T = T} design lines f g o p came l (Ok x) = HasTalkedOver {T = T} design lines f g o p came l (Ok x)
HasVisited {T = T} design lines f g o p came l (Err (Talk stop)) = HasTalkedOver {T = T} design lines f g o p came l (Err stop)
HasVisited {T = T} design lines f g o p came l (Err (Files stop)) = LoadStop design lines f g stop × (l ≡ came) × (p ≡ o)

-- the address was asked for, a link came, and it was visited; it is handed back as it stood at the end
pub record HasCalled (address design lines : List ℕ) (f g : FilesTold) (o p : SinkTold) (d e : DialTold) (l : LinkTold) (status : ℕ) : Type 0 where
  pub came : LinkTold
  pub come : HasCome d.coming came
  pub asked : e.asked ≡ Some address
  pub faults : e.faults ≡ d.faults
  pub end : Result (Unit {0}) ClientStop
  pub status_is : status ≡ status_of end
  pub visited : HasVisited design lines f g o p came l end

-- no link came: the connect failed, or memory ran out before anything was asked for
pub record HasMissed (address : List ℕ) (f g : FilesTold) (o p : SinkTold) (d e : DialTold) (status : ℕ) : Type 0 where
  pub why : ((status ≡ 9) × Rose d.faults e.faults × (e.asked ≡ Some address)) ⊎ ((status ≡ 7) × (e.faults ≡ d.faults) × (e.asked ≡ None))
  pub files : g ≡ f
  pub out : p ≡ o
