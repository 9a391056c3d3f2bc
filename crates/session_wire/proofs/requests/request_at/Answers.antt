use Rattle.std.proofs.Common.{sym, subst}
use Rattle.std.specs.Prelude.{ℕ, List}
use Rattle.board_items.specs.Formed.{IsFormed}
use Rattle.session_wire.specs.Requests.{next_request_text}
use Rattle.session_wire.specs.Parts.{Begins, StopsAt}
use Rattle.session_wire.proofs.Halts.{same_halt}
use Rattle.session_wire.proofs.RequestTexts.{no_request}
use Rattle.session_wire.proofs.requests.request_at.Goals as goal

pub returns-in_default-clause-err : goal.returns-in_default-clause-err
returns-in_default-clause-err c = no_request c.args.line.now c.in_default.ensures.none

pub returns-clause-err : goal.returns-clause-err
returns-clause-err c =
    let word = c.in-Some.ensures.some in
    same_halt c.request_behind.result c.request_behind.ensures.err (λ left. subst (λ (l : List ℕ). StopsAt (Begins IsFormed next_request_text) l left) (sym word.2))
