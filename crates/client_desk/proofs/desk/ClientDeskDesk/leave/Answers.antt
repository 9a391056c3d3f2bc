use Rattle.std.proofs.Common.{◌≡◌, subst, take}
use Rattle.client_desk.specs.Standings.{journal}
use Rattle.client_desk.specs.Seats.{DeskState}
use Rattle.client_desk.proofs.Desking.{desk_left, seat_left, left_starts, told_stays}
use Rattle.client_desk.proofs.desk.ClientDeskDesk.leave.Goals as goal

pub invariant_of-self : goal.invariant_of-self
invariant_of-self g c =
    let d = c.self.inside in
    let s = g.M.Answers.standing d.master in
    let t = g.M.Answers.standing c.leave.new.self in (
      desk_left s t d.client d.handed d.answers.items d.left c.self.invariant.0 c.leave.ensures.left,
      seat_left g.J.Place.parts g.J.Place.clients g.J.Place.limit g.J.Place.client s t d.client c.leave.ensures.left c.self.invariant.1,
    )

pub returns-clause-handed : goal.returns-clause-handed
returns-clause-handed g c =
    let d = c.self.inside in
    let s = g.M.Answers.standing d.master in
    let t = g.M.Answers.standing c.leave.new.self in
    subst (λ (x : DeskState). take d.handed (journal t) ≡ take x.handed (journal x.standing)) c.self.view_is
    (told_stays s t d.client d.handed d.answers.items d.left c.self.invariant.0 (left_starts s t d.client c.leave.ensures.left))
