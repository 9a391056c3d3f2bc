use Rattle.std.proofs.Common.{◌≡◌, ◌<◌, arith, refl, not, true}
use Rattle.seg_geometry.specs.Ends.{IsMeeting}
use Rattle.seg_geometry.proofs.MeetTests.{apart_at_zero, apart_iff, not_apart}
use Rattle.seg_geometry.proofs.segments.seg_keeps.Goals as goal

pub returns-then-k-eq0-clause-apart : goal.returns-then-k-eq0-clause-apart
returns-then-k-eq0-clause-apart g c = (λ _. apart_at_zero c.args.s c.args.t c.args.k c.if-k-eq0.true, λ _. refl)

pub returns-then-not-meets-clause-apart : goal.returns-then-not-meets-clause-apart
returns-then-not-meets-clause-apart g c =
    let some : 0 < c.args.k = omega arith in
    let clear : ¬ (IsMeeting c.args.s c.args.t) = λ m. let wrong = c.if-not-meets.ensures.1 m in cc in
    let iff = apart_iff c.args.s c.args.t c.args.k some clear in
    (λ r. iff.0 (c.ends_keep.ensures.0 r), λ a. c.ends_keep.ensures.1 (iff.1 a))

pub returns-else-not-meets-clause-apart : goal.returns-else-not-meets-clause-apart
returns-else-not-meets-clause-apart g c =
    let some : 0 < c.args.k = omega arith in
    let met = c.if-not-meets.ensures.0 refl in
    let yes = c.if-not-meets.false in (
      λ r. let wrong : not c.meets.result ≡ true = r in absurd (let opened = rw c.if-not-meets.false at wrong in cc),
      λ a. absurd (not_apart c.args.s c.args.t c.args.k some met a),
    )
