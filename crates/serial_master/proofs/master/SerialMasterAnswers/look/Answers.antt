use Rattle.std.proofs.Common.{◌-◌, ◌∙◌, length}
use Rattle.serial_master.proofs.Legals.{looked_formed}
use Rattle.serial_master.proofs.master.SerialMasterAnswers.look.Goals as goal

pub returns-clause-formed : goal.returns-clause-formed
returns-clause-formed c =
    let t = c.self.inside.terms in
    let b = c.self.inside.books in
    let es = c.as_slice.result.now in
    looked_formed t.design.parts t.clients t.limit b.history.items es c.args.from (length es - c.args.from) c.copy_of.result c.self.invariant.terms.few c.self.invariant.legal (c.as_slice.ensures ∙ c.self.invariant.journal) c.copy_of.ensures
