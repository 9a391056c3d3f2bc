use Rattle.std.proofs.Common.{◌≡◌, ◌≤◌, ◌∙◌, ap, false, length, subst, take}
use Rattle.client_desk.specs.Standings.{journal}
use Rattle.client_desk.specs.Seats.{DeskState}
use Rattle.client_desk.proofs.Desking.{desk_asked, seat_asked, asked_starts, told_stays, place_behind}
use Rattle.client_desk.proofs.desk.ClientDeskDesk.ask.Goals as goal

pub invariant_of-self : goal.invariant_of-self
invariant_of-self g c =
    let d = c.self.inside in
    let s = g.M.Answers.standing d.master in
    let t = g.M.Answers.standing c.ask_kept.new.master in
    let stays : d.left ≡ false = ap (λ (x : DeskState). x.left) c.self.view_is ∙ c.requires.here in (
      desk_asked s t d.client d.handed c.args.request c.in-Ok.placed d.answers.items c.ask_kept.new.answers.items d.left c.self.invariant.0 stays c.in-Ok.ensures.placed c.in-Ok.ensures.answers,
      seat_asked g.J.Place.parts g.J.Place.clients g.J.Place.limit g.J.Place.client s t d.client c.args.request c.in-Ok.placed c.in-Ok.ensures.placed c.self.invariant.1,
    )

pub returns-in-Ok-clause-place : goal.returns-in-Ok-clause-place
returns-in-Ok-clause-place g c =
    let d = c.self.inside in
    let s = g.M.Answers.standing d.master in
    let t = g.M.Answers.standing c.ask_kept.new.master in
    subst (λ (x : DeskState). length (take x.handed (journal x.standing)) ≤ c.in-Ok.placed.place) c.self.view_is
    (place_behind s t d.client d.handed d.answers.items d.left c.args.request c.in-Ok.placed c.self.invariant.0 c.in-Ok.ensures.placed)

pub returns-in-Ok-clause-handed : goal.returns-in-Ok-clause-handed
returns-in-Ok-clause-handed g c =
    let d = c.self.inside in
    let s = g.M.Answers.standing d.master in
    let t = g.M.Answers.standing c.ask_kept.new.master in
    subst (λ (x : DeskState). take d.handed (journal t) ≡ take x.handed (journal x.standing)) c.self.view_is
    (told_stays s t d.client d.handed d.answers.items d.left c.self.invariant.0 (asked_starts s t d.client c.args.request c.in-Ok.placed c.in-Ok.ensures.placed))
