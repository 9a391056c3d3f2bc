use Rattle.std.proofs.Common.{◌≡◌, ◌+◌, ◌-◌, ◌≤◌, refl, arith}
use Rattle.script_replay.proofs.Journals.{left, one_present}
use Rattle.script_replay.proofs.master.leave.Goals as goal

pub returns : goal.returns
returns c =
    let m = c.args.master.now in
    let mid = c.take.new.master in
    let some : 1 ≤ m.present = one_present c.args.design.now m c.args.client c.requires.master c.requires.present in
    let stay : (mid.present - 1) + 1 ≡ mid.present = omega (arith, some, c.in_ok-take.ensures.present) in
    left c.args.design.now m mid (record { board = mid.board; journal = mid.journal; history = c.push.new.self; weight = mid.weight + 2; present = mid.present - 1 }) c.args.client c.len-base.result
    c.requires.master c.requires.present c.len-base.ensures c.in_ok-take.ensures refl refl c.in_ok-push.ensures refl stay
