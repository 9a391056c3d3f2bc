use Rattle.std.proofs.Common.{◌∙◌, refl, arith}
use Rattle.serial_master.proofs.Keeping.{begun}
use Rattle.serial_master.proofs.master.opened.Goals as goal

pub returns-clause-kept : goal.returns-clause-kept
returns-clause-kept c =
    let t = c.args.terms.now in
    begun t (record { board = c.in_ok-new.field-0; journal = c.make_room.new.self; history = c.make_room-2.new.self; weight = 0; present = c.from-3.result }) c.requires.some c.requires.few c.requires.least c.requires.most
    c.in_ok-new.ensures.first c.in_ok-new.ensures.fits (c.make_room.ensures.same ∙ c.new-journal.ensures.items) (c.make_room-2.ensures.same ∙ c.new-history.ensures.items) refl c.from-3.ensures
    (omega (arith, c.from.ensures, c.in_ok-make_room.ensures.room)) (omega (arith, c.from-2.ensures, c.in_ok-make_room-2.ensures.room))
