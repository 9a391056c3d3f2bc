-- What is known of the numbers from the bytes that were read of a file, and where loading and writing stop.
use Rattle.std.proofs.Common.{◌≡◌, ℕ, List, [], ◌∷◌, ◌++◌, length, Option, Result, Ok, Err, refl, subst, ◌<◌, length-append, arith, inl, inr}
use Rattle.std.specs.Prelude.{IfSome, OnOk}
use Rattle.layout_io.specs.Told.{Disk, Told, SinkTold, FilesTold}
use Rattle.dsn_lists.specs.declared.faults.DesignFault.{DesignFault}
use Rattle.dsn_reader.specs.Design.{IsFirstFault}
use Rattle.whole_files.specs.Outside.{IsFound, OnlyRead, ReadStop}
use Rattle.whole_files.specs.Puts.{IsPut, PutStop}
use Rattle.whole_files.specs.declared.stop.Stop.{Stop}
use Rattle.whole_files.specs.declared.stop.Stop.TheVariants as stops
use Rattle.whole_files.proofs.Founds.{short_of, found_whole, found_long}
use Rattle.board_numbers.specs.Numbers.{IsNumbered}
use Rattle.board_numbers.specs.Headline.{HasNumbers, HasFault, TextCause, LoadStop, Numbers, NumbersStop}

-- ---- one file

pub found_numbers : (name bytes text : List ℕ) (a b : Option Disk) → Told a b (IsFound name 67108864 bytes) → IsNumbered bytes text → IfSome a (HasNumbers name text)
found_numbers name bytes text a b told is = found_whole name bytes (λ all. IsNumbered all text) a b told is.is_design.short is

longer : (bytes more : List ℕ) → 67108864 < length bytes → 67108864 < length (bytes ++ more)
longer bytes more long = omega (arith, long, length-append bytes more)

found_fault : (name bytes : List ℕ) (e : DesignFault) (a b : Option Disk) → Told a b (IsFound name 67108864 bytes) → IsFirstFault bytes e → IfSome a (HasFault name e)
found_fault name bytes e a b told (inl h) = found_long name bytes (λ all. IsFirstFault all e) a b told (λ more. inl (record { long = longer bytes more h.long; fault = h.fault }))
found_fault name bytes e a b told (inr (inl h)) = found_whole name bytes (λ all. IsFirstFault all e) a b told h.short (inr (inl h))
found_fault name bytes e a b told (inr (inr h)) = found_whole name bytes (λ all. IsFirstFault all e) a b told h.short (inr (inr h))

-- the bytes of a design were read, and give no numbers
pub text_stop : (stop : Stop) (name bytes : List ℕ) (f g : FilesTold) → Told f.disk g.disk (IsFound name 67108864 bytes) → OnlyRead (name ∷ []) f g → TextCause bytes stop → LoadStop name f g stop
text_stop (stops.Design e) name bytes f g told only cause = (found_fault name bytes e f.disk g.disk told cause, only)
text_stop stops.Memory name bytes f g told only cause = short_of (name ∷ []) f g only
text_stop stops.Read name bytes f g told only cause = absurd cause
text_stop stops.Write name bytes f g told only cause = absurd cause
text_stop (stops.Script k) name bytes f g told only cause = absurd cause
text_stop (stops.Unclean x y) name bytes f g told only cause = absurd cause

pub unread : (stop : Stop) (name : List ℕ) (f g : FilesTold) → ReadStop (name ∷ []) f g stop → LoadStop name f g stop
unread stops.Read name f g cause = cause
unread stops.Memory name f g cause = cause
unread (stops.Design e) name f g cause = absurd cause
unread stops.Write name f g cause = absurd cause
unread (stops.Script k) name f g cause = absurd cause
unread (stops.Unclean x y) name f g cause = absurd cause

-- ---- the text

-- before it
pub load_stops : (stop : Stop) (name : List ℕ) (f g : FilesTold) (o : SinkTold) → LoadStop name f g stop → NumbersStop name f g o o stop
load_stops (stops.Design e) name f g o h = (h, refl)
load_stops stops.Read name f g o h = (h, refl)
load_stops stops.Write name f g o h = absurd h
load_stops (stops.Script k) name f g o h = absurd h
load_stops (stops.Unclean x y) name f g o h = absurd h
load_stops stops.Memory name f g o h = (h, inl refl)

-- in it
pub put_stops : (stop : Stop) (name text : List ℕ) (f g : FilesTold) (o p : SinkTold) → IfSome f.disk (HasNumbers name text) → OnlyRead (name ∷ []) f g → PutStop text o p stop → NumbersStop name f g o p stop
put_stops stops.Write name text f g o p has only h = (record { text = text; has = has; out = h.0 }, h.1, only)
put_stops stops.Memory name text f g o p has only h = (short_of (name ∷ []) f g only, inr (record { text = text; has = has; out = h.0 }, h.1))
put_stops (stops.Design e) name text f g o p has only h = absurd h
put_stops stops.Read name text f g o p has only h = absurd h
put_stops (stops.Script k) name text f g o p has only h = absurd h
put_stops (stops.Unclean x y) name text f g o p has only h = absurd h

-- at the end
pub numbers_if : (r : Result (Unit {0}) Stop) (name text put : List ℕ) (f g : FilesTold) (o p : SinkTold) → IfSome f.disk (HasNumbers name text) → OnlyRead (name ∷ []) f g → put ≡ text → OnOk r (IsPut put o p) → OnOk r (Numbers name f g o p)
numbers_if (Ok u) name text put f g o p has only is done = record { text = text; has = has; out = subst (λ (t : List ℕ). IsPut t o p) is done; reads = only }
numbers_if (Err e) name text put f g o p has only is done = tt
