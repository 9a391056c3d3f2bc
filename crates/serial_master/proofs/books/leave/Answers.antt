use Rattle.std.proofs.Common.{◌≡◌, ◌+◌, ◌-◌, ap, refl, arith}
use Rattle.board_items.specs.declared.history.Act.TheVariants.{Leave}
use Rattle.serial_master.specs.Books.{HasTaken}
use Rattle.serial_master.proofs.Keeping.{left, one_present, on_ok_if}
use Rattle.serial_master.proofs.books.leave.Goals as goal

pub take-taken-requires-clause-room : goal.take-taken-requires-clause-room
take-taken-requires-clause-room c =
    omega (arith, one_present c.args.terms.now c.args.books.now c.args.client c.requires.kept c.requires.present, c.requires.kept.journal_room)

pub put-requires : goal.put-requires
put-requires c =
    let b = c.args.books.now in
    let t = c.args.terms.now in
    let has : HasTaken t b c.args.client Leave c.take-taken.new.books = on_ok_if c.take-taken.result _ (c.take-taken.ensures.leave refl) c.take-taken.ensures.ok in
    omega (arith, one_present t b c.args.client c.requires.kept c.requires.present, c.requires.kept.history_room, ap (λ s. s.room) has.history)

pub overflow_sub-books : goal.overflow_sub-books
overflow_sub-books c =
    let b = c.args.books.now in
    let t = c.args.terms.now in
    let has : HasTaken t b c.args.client Leave c.take-taken.new.books = on_ok_if c.take-taken.result _ (c.take-taken.ensures.leave refl) c.take-taken.ensures.ok in
    omega (arith, one_present t b c.args.client c.requires.kept c.requires.present, has.present)

pub returns-clause-left : goal.returns-clause-left
returns-clause-left c =
    let b = c.args.books.now in
    let t = c.args.terms.now in
    let mid = c.take-taken.new.books in
    let has : HasTaken t b c.args.client Leave mid = on_ok_if c.take-taken.result _ (c.take-taken.ensures.leave refl) c.take-taken.ensures.ok in
    let stay : (mid.present - 1) + 1 ≡ mid.present = omega (arith, one_present t b c.args.client c.requires.kept c.requires.present, has.present) in
    left t b mid (record { board = mid.board; journal = mid.journal; history = c.put.new.self; weight = mid.weight + 2; present = mid.present - 1 }) c.args.client c.len-base.result
    c.requires.kept c.requires.present c.len-base.ensures has refl refl c.put.ensures.items c.put.ensures.room refl stay
