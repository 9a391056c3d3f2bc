use Rattle.std.proofs.Common.{◌≡◌, ◌+◌, ℕ, length, ap, refl}
use Rattle.script_replay.proofs.Journals.{taken}
use Rattle.script_replay.proofs.master.take.Goals as goal

pub returns : goal.returns
returns c =
    let m = c.args.master.now in
    let d = c.args.design.now in
    let number : c.len.result + 1 ≡ length m.journal + 1 = ap (λ (n : ℕ). n + 1) c.len.ensures in
    taken d m (record { board = c.apply.new.self; journal = c.push.new.self; history = m.history; weight = m.weight; present = m.present }) c.args.client (c.len.result + 1) c.args.act
    c.requires.at number c.in_ok-apply.ensures.ok (c.in_ok-apply.ensures.fits d.parts c.requires.at.of c.requires.fit) c.in_ok-push.ensures refl refl refl
