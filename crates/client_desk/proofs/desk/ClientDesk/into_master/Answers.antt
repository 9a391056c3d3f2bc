use Rattle.std.proofs.Common.{subst, take}
use Rattle.client_desk.specs.Standings.{journal}
use Rattle.client_desk.specs.Given.{StartsWith}
use Rattle.client_desk.specs.Seats.{DeskState}
use Rattle.client_desk.proofs.Fronts.{starts_take}
use Rattle.client_desk.proofs.desk.ClientDesk.into_master.Goals as goal

pub returns-clause-handed : goal.returns-clause-handed
returns-clause-handed g c =
    let d = c.self.inside in
    let s = g.M.Answers.standing d.master in
    subst (λ (x : DeskState). StartsWith (journal s) (take x.handed (journal x.standing))) c.self.view_is (starts_take (journal s) d.handed)
