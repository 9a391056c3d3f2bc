use Rattle.std.proofs.Common.{◌≡◌, ◌+◌, ℕ, length, ap, refl}
use Rattle.serial_master.proofs.Taking.{taken}
use Rattle.serial_master.proofs.books.take.Goals as goal

pub returns-clause-ok : goal.returns-clause-ok
returns-clause-ok c =
    let b = c.args.books.now in
    let t = c.args.terms.now in
    let number : c.len.result + 1 ≡ length b.journal.items + 1 = ap (λ (n : ℕ). n + 1) c.len.ensures in
    taken t b (record { board = c.apply.new.self; journal = c.put.new.self; history = b.history; weight = b.weight; present = b.present }) c.args.client (c.len.result + 1) c.args.act
    c.requires.at number c.in_ok-apply.ensures.ok (c.in_ok-apply.ensures.fits t.design.parts c.requires.at.of c.requires.fit) c.put.ensures.items c.put.ensures.room refl refl refl
