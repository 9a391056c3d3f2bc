-- A talk over a link, behind files that were read.
use Rattle.std.proofs.Common.{◌≡◌, ℕ, List, [], ◌∷◌, Result, subst}
use Rattle.std.specs.Prelude.{IfSome}
use Rattle.layout_io.specs.Told.{FilesTold, SinkTold}
use Rattle.layout_io.specs.Links.{LinkTold}
use Rattle.board_rules.specs.declared.design.Design.{Design}
use Rattle.whole_files.specs.Outside.{OnlyRead}
use Rattle.client_talk.specs.declared.stop.Stop.{Stop}
use Rattle.client_talk.specs.Hears.{LinkCause, OutCause}
use Rattle.client_talk.specs.Lines.{lines_of}
use Rattle.client_talk.specs.Meets.{HasSpoken}
use Rattle.board_client.specs.Loads.{HasInputs}
use Rattle.board_client.specs.Visits.{HasTalkedOver}

pub talked_over : (T : Type 0) (design lines : List ℕ) (plan : Design) (text shown : List ℕ) (f g : FilesTold) (o p : SinkTold) (came l : LinkTold) (end : Result T Stop)
    → IfSome f.disk (HasInputs design plan lines text) → OnlyRead (design ∷ lines ∷ []) f g → shown ≡ text
    → HasSpoken {T = T} (lines_of shown) plan.parts o.written p.written came.wire l.wire end → LinkCause {T = T} came.read_faults l.read_faults came.write_faults l.write_faults end → OutCause {T = T} o.faults p.faults end
    → HasTalkedOver {T = T} design lines f g o p came l end
talked_over T design lines plan text shown f g o p came l end inputs only is spoken link out = record {
  plan = plan;
  text = text;
  inputs = inputs;
  only = only;
  spoken = subst (λ (x : List ℕ). HasSpoken {T = T} (lines_of x) plan.parts o.written p.written came.wire l.wire end) is spoken;
  link_cause = link;
  out_cause = out;
}
