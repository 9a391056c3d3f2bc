-- The script that is made for a count of nets from a number: four lines for each net.
-- Left out: what the lines are answered. Cited by `make` and its laws
use Rattle.std.specs.Prelude.{ℕ, ◌+◌, ◌*◌, ◌/◌, ◌%◌, pos, List, [], ◌∷◌, map, nat_lt, ◌==◌, if◌then◌else◌}
use Rattle.std.specs.List.{flat_map, range_with_len}
use Rattle.board_items.specs.declared.requests.Add.{Add}
use Rattle.board_items.specs.declared.requests.Add.TheVariants as adds
use Rattle.board_items.specs.declared.requests.Request.{Request}
use Rattle.board_items.specs.declared.requests.Request.TheVariants as requests
use Rattle.session_wire.specs.declared.steps.ScriptStep.{ScriptStep}
use Rattle.session_wire.specs.declared.steps.ScriptStep.TheVariants as steps
use Rattle.session_wire.specs.Lines.{step_line}
use Rattle.board_maker.specs.declared.draws.Pick.{Pick}
use Rattle.board_maker.specs.Draws.{pick}

-- the nets for which something is made, at most
abbrev pub made_net_limit : ℕ
made_net_limit = 2000

-- a wire of 100,000 nm from a place to one 900,000 nm at its right
abbrev pub wire_of : ℕ → Pick → Add
wire_of net p = adds.Wire net p.layer 100000 (record { x = pos p.x; y = pos p.y } ∷ record { x = pos (p.x + 900000); y = pos p.y } ∷ [])

-- a via at a place
abbrev pub via_of : ℕ → Pick → Add
via_of net p = adds.Via net 0 (record { x = pos p.x; y = pos p.y })

-- what line i asks for: six times of eight a wire, once a via, and once that item 1 + i / 2 goes
abbrev pub request_of : ℕ → ℕ → Pick → Request
request_of net i p =
    if nat_lt p.kind 6 then requests.Edit [] (wire_of net p ∷ [])
    else (if p.kind == 6 then requests.Edit [] (via_of net p ∷ [])
    else requests.Edit ((1 + i / 2) ∷ []) [])

-- line i, from 0: clients 1 to 4 and the nets take turns
abbrev pub made_step : ℕ → ℕ → ℕ → ScriptStep
made_step nets number i = steps.Do (1 + i % 4) (request_of (i % nets) i (pick number i))

-- the steps of the script
abbrev pub made_steps : ℕ → ℕ → List ScriptStep
made_steps nets number = map (made_step nets number) (range_with_len 0 (4 * nets))

-- the script, a line a step
abbrev pub script_text : ℕ → ℕ → List ℕ
script_text nets number = flat_map step_line (made_steps nets number)
