-- Where `check` stops.
use Rattle.std.proofs.Common.{◌≡◌, ℕ, List, [], ◌∷◌, Result, Ok, Err, refl, subst, inl, inr}
use Rattle.std.specs.Prelude.{IfSome, IfErr, OnOk}
use Rattle.layout_io.specs.Told.{SinkTold, FilesTold}
use Rattle.board_rules.specs.declared.design.Design.{Design}
use Rattle.whole_files.specs.Outside.{OnlyRead}
use Rattle.whole_files.specs.Puts.{IsPut, PutStop}
use Rattle.board_files.specs.Inputs.{HasClean}
use Rattle.board_files.specs.Loads.{DesignStop}
use Rattle.layout_server.specs.Checks.{Checks, CheckStop, line_of}
use Rattle.whole_files.specs.declared.stop.Stop.{Stop}
use Rattle.whole_files.specs.declared.stop.Stop.TheVariants as stops
use Rattle.whole_files.proofs.Founds.{short_of}

-- before the line
pub load_stops : (stop : Stop) (name : List ℕ) (f g : FilesTold) (o : SinkTold) → DesignStop name f g stop → CheckStop name f g o o stop
load_stops (stops.Design e) name f g o h = (h, refl)
load_stops stops.Read name f g o h = (h, refl)
load_stops stops.Write name f g o h = absurd h
load_stops (stops.Script k) name f g o h = absurd h
load_stops (stops.Unclean x y) name f g o h = (h, refl)
load_stops stops.Memory name f g o h = (h, inl refl)

-- where there is no memory for the line
pub short_stops : (name : List ℕ) (f g : FilesTold) (o : SinkTold) → OnlyRead (name ∷ []) f g → CheckStop name f g o o stops.Memory
short_stops name f g o only = (short_of (name ∷ []) f g only, inl refl)

-- in the line
pub put_stops : (stop : Stop) (name : List ℕ) (d : Design) (f g : FilesTold) (o p : SinkTold) → IfSome f.disk (HasClean name d) → OnlyRead (name ∷ []) f g → PutStop (line_of d) o p stop → CheckStop name f g o p stop
put_stops stops.Write name d f g o p has only h = (record { design = d; has = has; out = h.0 }, h.1, only)
put_stops stops.Memory name d f g o p has only h = (short_of (name ∷ []) f g only, inr (record { design = d; has = has; out = h.0 }, h.1))
put_stops (stops.Design e) name d f g o p has only h = absurd h
put_stops stops.Read name d f g o p has only h = absurd h
put_stops (stops.Script k) name d f g o p has only h = absurd h
put_stops (stops.Unclean x y) name d f g o p has only h = absurd h

-- at the end
pub checks_if : (r : Result (Unit {0}) Stop) (name : List ℕ) (d : Design) (f g : FilesTold) (o p : SinkTold) (text : List ℕ) → IfSome f.disk (HasClean name d) → OnlyRead (name ∷ []) f g → text ≡ line_of d → OnOk r (IsPut text o p) → OnOk r (Checks name f g o p)
checks_if (Ok u) name d f g o p text has only is put = record { design = d; has = has; out = subst (λ (t : List ℕ). IsPut t o p) is put; reads = only }
checks_if (Err e) name d f g o p text has only is put = tt

pub cut_if : (r : Result (Unit {0}) Stop) (name : List ℕ) (d : Design) (f g : FilesTold) (o p : SinkTold) (text : List ℕ) → IfSome f.disk (HasClean name d) → OnlyRead (name ∷ []) f g → text ≡ line_of d → IfErr r (PutStop text o p) → IfErr r (CheckStop name f g o p)
cut_if (Ok u) name d f g o p text has only is put = tt
cut_if (Err stop) name d f g o p text has only is put = put_stops stop name d f g o p has only (subst (λ (t : List ℕ). PutStop t o p stop) is put)
