use Rattle.std.proofs.Common.{[], subst, sym}
use Rattle.serial_master.specs.Bases.{AreAtEnd}
use Rattle.serial_master.proofs.Legals.{fresh_at_end}
use Rattle.serial_master.proofs.master.SerialMaster.history.Goals as goal

pub returns-clause-fresh : goal.returns-clause-fresh
returns-clause-fresh c client = fresh_at_end client c.as_slice.result.now (subst (AreAtEnd []) (sym c.as_slice.ensures) c.self.invariant.bases)
