-- How much of the history an act takes up.
-- Cited by `weight`
use Rattle.std.specs.Prelude.{ℕ, ◌+◌, ◌*◌, length, map}
use Rattle.std.specs.List.{sum}
use Rattle.board_items.specs.declared.requests.Add.{Add}
use Rattle.board_items.specs.declared.requests.Add.TheVariants as adds
use Rattle.board_items.specs.declared.requests.Request.{Request}
use Rattle.board_items.specs.declared.requests.Request.TheVariants as requests
use Rattle.board_items.specs.declared.history.Act.{Act}
use Rattle.board_items.specs.declared.history.Act.TheVariants as acts

-- a wire weighs 4 and twice its points, a via 4
abbrev pub weight_of_add : Add → ℕ
weight_of_add (adds.Wire net layer width points) = 4 + 2 * length points
weight_of_add (adds.Via net padstack place) = 4

-- an edit weighs 2, 1 for each delete and its adds; a boundary 3, its layers, its clients and twice its points
abbrev pub weight_of_request : Request → ℕ
weight_of_request (requests.Edit deletes adds) = 2 + length deletes + sum (map weight_of_add adds)
weight_of_request (requests.Reserve id) = 2
weight_of_request (requests.Release id) = 2
weight_of_request (requests.Fence layers area clients) = 3 + length layers + length clients + 2 * length area
weight_of_request (requests.Unfence fence) = 2
weight_of_request (requests.Entitle fence client) = 3
weight_of_request (requests.Rule class clearance) = 3

abbrev pub weight_of : Act → ℕ
weight_of (acts.Ask request) = weight_of_request request
weight_of acts.Leave = 2
