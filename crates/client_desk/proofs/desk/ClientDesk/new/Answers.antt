use Rattle.std.proofs.Common.{List, subst, sym, false}
use Rattle.desk_core.specs.declared.desk.Answer.{Answer}
use Rattle.client_desk.specs.Seats.{IsDesk}
use Rattle.client_desk.proofs.Desking.{desk_new}
use Rattle.client_desk.proofs.desk.ClientDesk.new.Goals as goal

pub invariant_of-result : goal.invariant_of-result
invariant_of-result g c =
    let s = g.M.Answers.standing c.args.master in
    (subst (λ (given : List Answer). IsDesk s c.args.client 0 given false) (sym c.new.ensures.items) (desk_new s c.args.client c.requires.some c.requires.there c.requires.unheard), c.requires.seat)
