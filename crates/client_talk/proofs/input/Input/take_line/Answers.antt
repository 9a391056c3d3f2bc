use Rattle.std.proofs.Common.{◌∙◌, sym}
use Rattle.client_talk.proofs.FileLines.{takes}
use Rattle.client_talk.proofs.input.Input.take_line.Goals as goal

pub returns : goal.returns
returns c = takes c.self.inside.bytes c.args.self.now c.in-Some.front.now c.in-Some.after.now c.in_ok-line.line c.self.inside.at c.len.result c.self.view_is c.self.invariant (sym c.rest.ensures ∙ c.in-Some.ensures.1) c.in-Some.ensures.0 c.in_ok-line.ensures c.len.ensures
