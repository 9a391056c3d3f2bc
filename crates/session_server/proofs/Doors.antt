-- The door up to the first link.
use Rattle.std.proofs.Common.{◌≡◌, ℕ, List, subst, inr}
use Rattle.layout_io.specs.Told.{FilesTold}
use Rattle.layout_io.specs.Doors.{DoorTold}
use Rattle.board_rules.specs.declared.design.Parts.{Parts}
use Rattle.session_server.specs.Words.{Names}
use Rattle.session_server.specs.Rows.{FilesEnd, HasNotBegun}
use Rattle.session_server.specs.Stages.{IsBound, IsReady}
use Rattle.session_server.proofs.Files.{short_ready}
use Rattle.session_server.specs.declared.ends.End.{End}
use Rattle.session_server.specs.declared.ends.End.TheVariants as ends

-- the files stopped it behind the bind
pub files_end : (end : End) (n : Names) (f g : FilesTold) (d e : DoorTold) → IsBound n.address d e → FilesEnd n.design n.session f g end → HasNotBegun n f g d e end
files_end (ends.Design kind at) n f g d e bound cause = (cause, record { asked = bound.asked; faults = bound.faults })
files_end ends.Read n f g d e bound cause = (cause, record { asked = bound.asked; faults = bound.faults })
files_end ends.Write n f g d e bound cause = (cause, record { asked = bound.asked; faults = bound.faults })
files_end (ends.Unclean a b) n f g d e bound cause = (cause, record { asked = bound.asked; faults = bound.faults })
files_end ends.Memory n f g d e bound cause = (cause, (inr bound.asked, bound.faults))
files_end ends.Done n f g d e bound cause = absurd cause
files_end ends.Usage n f g d e bound cause = absurd cause
files_end ends.Door n f g d e bound cause = absurd cause

-- memory ran out behind the making of the session file
no_room_at : (n : Names) (parts : Parts) (file : ℕ) (f g : FilesTold) (d e : DoorTold) → IsBound n.address d e → IsReady n.design n.session parts file f g → HasNotBegun n f g d e ends.Memory
no_room_at n parts file f g d e bound r = (short_ready n.design n.session parts file f g r, (inr bound.asked, bound.faults))

pub no_room : (n : Names) (address design session : List ℕ) (parts : Parts) (file : ℕ) (f g : FilesTold) (d e : DoorTold) → address ≡ n.address → design ≡ n.design → session ≡ n.session → IsBound address d e → IsReady design session parts file f g
    → HasNotBegun n f g d e ends.Memory
no_room n address design session parts file f g d e a b c bound r =
    no_room_at n parts file f g d e (subst (λ (x : List ℕ). IsBound x d e) a bound)
    (subst (λ (x : List ℕ). IsReady n.design x parts file f g) c (subst (λ (x : List ℕ). IsReady x session parts file f g) b r))
