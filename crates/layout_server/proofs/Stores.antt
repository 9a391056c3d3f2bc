-- Where the storing of two texts stops.
use Rattle.std.proofs.Common.{ℕ, List, refl, inl, inr}
use Rattle.layout_io.specs.Told.{SinkTold, FilesTold}
use Rattle.whole_files.specs.Outside.{WriteStop}
use Rattle.whole_files.specs.Puts.{IsPut, PutStop}
use Rattle.layout_server.specs.Stores.{TextsStop}
use Rattle.whole_files.specs.declared.stop.Stop.{Stop}
use Rattle.whole_files.specs.declared.stop.Stop.TheVariants as stops

-- in the output: the files stay
pub output_stops : (stop : Stop) (output session : List ℕ) (file : ℕ) (f : FilesTold) (o p : SinkTold) → PutStop output o p stop → TextsStop output session file f f o p stop
output_stops stops.Write output session file f o p h = inl (h.0, h.1, refl)
output_stops stops.Memory output session file f o p h = inl (h.0, h.1, refl)
output_stops (stops.Design e) output session file f o p h = absurd h
output_stops stops.Read output session file f o p h = absurd h
output_stops (stops.Script k) output session file f o p h = absurd h
output_stops (stops.Unclean a b) output session file f o p h = absurd h

-- in the session, behind the whole output
pub session_stops : (stop : Stop) (output session : List ℕ) (file : ℕ) (f g : FilesTold) (o p : SinkTold) → IsPut output o p → WriteStop file session f g stop → TextsStop output session file f g o p stop
session_stops stops.Write output session file f g o p put h = inr (put, h.0, h.1)
session_stops stops.Memory output session file f g o p put h = inr (put, h.0, h.1)
session_stops (stops.Design e) output session file f g o p put h = absurd h
session_stops stops.Read output session file f g o p put h = absurd h
session_stops (stops.Script k) output session file f g o p put h = absurd h
session_stops (stops.Unclean a b) output session file f g o p put h = absurd h
