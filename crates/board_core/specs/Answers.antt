-- What a request of a client is answered on a board, for so many clients: the first reason against it, or none.
-- Cited by `slow_answer`. Each kind of request has its reasons in a module and a row here
use Rattle.std.specs.Prelude.{ℕ, Option}
use Rattle.board_items.specs.declared.requests.Request.{Request}
use Rattle.board_items.specs.declared.requests.Request.TheVariants as requests
use Rattle.board_items.specs.declared.history.Why.{Why}
use Rattle.board_rules.specs.declared.design.Parts.{Parts}
use Rattle.board_core.specs.Boards.{Board}
use Rattle.board_core.specs.Edits.{IsEditReason}
use Rattle.board_core.specs.Reservings.{IsReserveReason, IsReleaseReason}
use Rattle.board_core.specs.Barrings.{IsFenceReason, IsUnfenceReason, IsEntitleReason}
use Rattle.board_core.specs.Clearances.{IsRuleReason}

-- what the request of a client is answered, under the board's rules
abbrev pub IsAnswer : Parts → ℕ → Board → ℕ → Request → Option Why → Type 0
IsAnswer p clients b client (requests.Edit deletes adds) why = IsEditReason p clients b client deletes adds why
IsAnswer p clients b client (requests.Reserve id) why = IsReserveReason p b client id.0 why
IsAnswer p clients b client (requests.Release id) why = IsReleaseReason b client id.0 why
IsAnswer p clients b client (requests.Fence layers area entitled) why = IsFenceReason p clients b client layers area entitled why
IsAnswer p clients b client (requests.Unfence fence) why = IsUnfenceReason b client fence why
IsAnswer p clients b client (requests.Entitle fence other) why = IsEntitleReason clients b client fence other why
IsAnswer p clients b client (requests.Rule class clearance) why = IsRuleReason p clients b class clearance why
