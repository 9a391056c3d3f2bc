use Rattle.std.proofs.Common.{List, subst, sym}
use Rattle.desk_core.specs.declared.desk.Answer.{Answer}
use Rattle.session_tests.specs.MemoryDesks.{IsKept}
use Rattle.session_tests.proofs.Growing.{kept_asked, kept_unasked}
use Rattle.session_tests.proofs.memory_desk.MemDeskDesk.ask.Goals as goal

pub invariant_of-self : goal.invariant_of-self
invariant_of-self c =
    let e = c.in-Ok.ensures in
    let d = c.self.inside in
    let j = c.place.new.journal.items in
    subst (λ (given : List Answer). IsKept d.client d.most j d.shown given) (sym e.answers) (kept_asked d.client d.most d.shown d.journal.items j d.answers.items c.args.request c.in-Ok.placed c.self.invariant c.requires.formed e.journal e.place.1)

pub invariant_of-self-in-Err : goal.invariant_of-self-in-Err
invariant_of-self-in-Err c =
    let e = c.in-Err.ensures in
    let d = c.self.inside in
    let j = c.place.new.journal.items in
    subst (λ (given : List Answer). IsKept d.client d.most j d.shown given) (sym e.answers) (kept_unasked d.client d.most d.shown d.journal.items j d.answers.items c.args.request c.self.invariant c.requires.formed e.journal)
