-- From the client's desk, after its session, to the session over one master.
use Rattle.std.proofs.Common.{◌≡◌, ℕ, true, List, [], length, sym, ap, subst, ◌∙◌}
use Rattle.row_lists.specs.Limits.{weight_limit}
use Rattle.board_items.specs.declared.history.Entry.{Entry}
use Rattle.layout_io.specs.Links.{LinkTold}
use Rattle.layout_io.specs.Doors.{IsNew}
use Rattle.board_rules.specs.declared.design.Parts.{Parts}
use Rattle.board_core.specs.Histories.{journal_of, has_left, IsLegal}
use Rattle.desk_core.specs.Desks.{DeskTold}
use Rattle.client_desk.specs.Standings.{Standing, journal}
use Rattle.client_desk.specs.Given.{StartsWith, AreWithin, HasAnswers}
use Rattle.client_desk.specs.Seats.{DeskState, IsSeatAt, desk_told}
use Rattle.serial_master.specs.Bases.{IsFresh}
use Rattle.session_loop.specs.declared.end.SessionEnd.{SessionEnd}
use Rattle.session_loop.specs.Sessions.{HasSession, HasEndCause, IsTimely, Extends, ReachesEach}
use Rattle.session_loop.specs.Sessions.{IsFresh as IsFreshLink}
use Rattle.session_server.specs.Lefts.{standing_of, HasSat}
use Rattle.session_server.proofs.Sitting.{leaves_last}

-- the place that the type names is that of the one client
pub record IsOnlySeat (p parts : Parts) (clients limit client : ℕ) : Type 0 where
  pub parts_are : parts ≡ p
  pub clients_is : clients ≡ 1
  pub limit_is : limit ≡ weight_limit
  pub client_is : client ≡ 1

pub same_standing : (p : Parts) (s : Standing) → s.parts ≡ p → s.clients ≡ 1 → s.limit ≡ weight_limit → s ≡ standing_of p s.history
same_standing p s parts clients limit =
    ap (λ (x : Parts). record { parts = x; clients = s.clients; limit = s.limit; history = s.history }) parts
    ∙ ap (λ (x : ℕ). record { parts = p; clients = x; limit = s.limit; history = s.history }) clients
    ∙ ap (λ (x : ℕ). record { parts = p; clients = 1; limit = x; history = s.history }) limit

pub standing_after : (p parts : Parts) (clients limit client who : ℕ) (s : Standing) → IsOnlySeat p parts clients limit client → IsSeatAt parts clients limit client s who → s ≡ standing_of p s.history
standing_after p parts clients limit client who s only seat = same_standing p s (seat.parts_are ∙ only.parts_are) (seat.clients_is ∙ only.clients_is) (seat.limit_is ∙ only.limit_is)

-- what the desk's end says of the history
pub record IsOver (s : Standing) (d : DeskState) : Type 0 where
  pub handed : StartsWith (journal s) (desk_told d).handed
  pub reaches : AreWithin (length (journal s)) d.answers
  pub answers : HasAnswers s d.client d.answers
  pub left_is : has_left d.client s.history ≡ d.left
  pub left : d.left ≡ true
  pub legal : IsLegal s.parts s.clients s.limit s.history
  pub fresh : IsFresh 1 s.history

-- what the session over the link says, of a desk that told so before
pub record IsLinked (before after : LinkTold) (old : DeskTold) (d : DeskState) (end : SessionEnd) : Type 0 where
  pub handed : old.handed ≡ []
  pub answers : old.answers ≡ []
  pub session : (input : List ℕ) (entries : List Entry) → IsFreshLink input before old → Extends (desk_told d).handed entries → ReachesEach d.answers entries → HasSession 1 1 input after end d.answers entries
  pub cause : HasEndCause end before after
  pub timely : IsTimely before after

link_fresh : (input : List ℕ) (before : LinkTold) (old : DeskTold) → old.handed ≡ [] → old.answers ≡ [] → IsNew input before → IsFreshLink input before old
link_fresh input before old handed answers new = record {
  wire = new.wire;
  reads = new.untouched.reads;
  writes = new.untouched.writes;
  shortages = new.untouched.shortages;
  handed = handed;
  answers = answers;
}

legal_standing : (p : Parts) (s : Standing) → s ≡ standing_of p s.history → IsLegal s.parts s.clients s.limit s.history → IsLegal p 1 weight_limit s.history
legal_standing p s is legal = subst (λ (x : Standing). IsLegal x.parts x.clients x.limit s.history) is legal

pub sat_of : (p parts : Parts) (clients limit client : ℕ) (before after : LinkTold) (old : DeskTold) (s : Standing) (d : DeskState) (end : SessionEnd)
    → IsOnlySeat p parts clients limit client → IsSeatAt parts clients limit client s d.client → IsOver s d → IsLinked before after old d end → HasSat p before s.history end after
sat_of p parts clients limit client before after old s d end only seat over linked =
    let is = standing_after p parts clients limit client d.client s only seat in
    let who : d.client ≡ 1 = seat.client_is ∙ only.client_is in
    let legal = legal_standing p s is over.legal in record {
      answers = d.answers;
      legal = legal;
      fresh = over.fresh;
      leaves = leaves_last p s.history legal (ap (λ (n : ℕ). has_left n s.history) (sym who) ∙ (over.left_is ∙ over.left));
      answered = subst (λ (x : Standing). HasAnswers x 1 d.answers) is (subst (λ (n : ℕ). HasAnswers s n d.answers) who over.answers);
      session = λ input new. linked.session input (journal_of s.history) (link_fresh input before old linked.handed linked.answers new) over.handed over.reaches;
      cause = linked.cause;
      timely = linked.timely;
    }
