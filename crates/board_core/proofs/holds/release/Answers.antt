use Rattle.std.proofs.Common.{◌≡◌, ◌∙◌, sym}
use Rattle.board_core.proofs.Released.{released_none, released_own, released_fewer}
use Rattle.board_core.proofs.holds.release.Goals as goal

pub returns-in_default-clause-pairs : goal.returns-in_default-clause-pairs
returns-in_default-clause-pairs c = sym (released_none c.args.id.0 c.args.client c.args.held.now.pairs (λ h. c.in_default.ensures.none c.args.client h))

pub returns-then-holder-client-clause-pairs : goal.returns-then-holder-client-clause-pairs
returns-then-holder-client-clause-pairs c =
    sym (released_none c.args.id.0 c.args.client c.args.held.now.pairs (λ h. c.if-holder-client.true (sym (c.in-Some.ensures.only c.args.client h))))

pub returns-clause-pairs : goal.returns-clause-pairs
returns-clause-pairs c =
    let same : c.in-Some.holder ≡ c.args.client = c.if-holder-client.false in
    c.release.ensures.pairs ∙ released_own c.args.id.0 c.args.client c.args.held.now.pairs (λ other h. c.in-Some.ensures.only other h ∙ same)

pub returns-clause-fewer : goal.returns-clause-fewer
returns-clause-fewer c = released_fewer c.args.id.0 c.args.held.now.pairs _ c.release.ensures.pairs
