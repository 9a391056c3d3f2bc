-- A made script has at most 200 bytes a line
use Rattle.std.proofs.Common.{ℕ, zero, suc, ◌+◌, ◌*◌, ◌/◌, ◌%◌, ◌^◌, ◌<◌, ◌≤◌, Bool, true, false, [], ◌∷◌, ◌++◌, length, map, arith}
use Rattle.std.specs.Prelude.{codes, nat_lt, ◌==◌, if◌then◌else◌}
use Rattle.std.proofs.Math.IntN.{pos}
use Rattle.std.specs.List.{flat_map, range_with_len}
use Rattle.std.proofs.lemmas.Fmt.{length-decimal-le}
use Rattle.std.proofs.lemmas.List.{length-append}
use Rattle.row_lists.specs.Limits.{text_limit_bytes}
use Rattle.board_items.specs.declared.requests.Add.{Add}
use Rattle.board_items.specs.declared.requests.Request.{Request}
use Rattle.board_items.specs.declared.requests.Request.TheVariants as requests
use Rattle.session_wire.specs.declared.steps.ScriptStep.TheVariants as steps
use Rattle.session_wire.specs.Numbers.{number_text}
use Rattle.session_wire.specs.Points.{coordinate_text, point_text}
use Rattle.session_wire.specs.Adds.{next_add_text}
use Rattle.session_wire.specs.Requests.{edit_text, request_text}
use Rattle.session_wire.specs.Parts.{counted_text}
use Rattle.session_wire.specs.Lines.{step_text, step_line}
use Rattle.board_maker.specs.declared.draws.Pick.{Pick}
use Rattle.board_maker.specs.Draws.{pick}
use Rattle.board_maker.specs.Scripts.{made_net_limit, wire_of, via_of, request_of, made_step, script_text}
use Rattle.board_maker.proofs.Forms.{IsPick, each_pick}

number_short : (n : ℕ) → n < 2 ^ 32 → length (number_text n) ≤ 11
number_short n low = omega (arith, length-decimal-le 10 n (omega arith) (omega arith) (omega arith))

point_short : (x y : ℕ) → x < 2 ^ 32 → y < 2 ^ 32 → length (point_text (record { x = pos x; y = pos y })) ≤ 22
point_short x y a b = omega (arith, length-append (coordinate_text (pos x)) (coordinate_text (pos y)), number_short x a, number_short y b)

wire_short : (net : ℕ) (p : Pick) → net < 2 ^ 32 → IsPick p → length (next_add_text (wire_of net p)) ≤ 100
wire_short net p low is =
    let from = point_text (record { x = pos p.x; y = pos p.y }) in
    let to = point_text (record { x = pos (p.x + 900000); y = pos p.y }) in
    let counted = number_text 2 ++ (from ++ (to ++ [])) in
    let from_width = number_text 100000 ++ counted in
    let from_layer = number_text p.layer ++ from_width in
    let one = length-append (codes " wire") (number_text net ++ from_layer) in
    let two = length-append (number_text net) from_layer in
    let three = length-append (number_text p.layer) from_width in
    let four = length-append (number_text 100000) counted in
    let five = length-append (number_text 2) (from ++ (to ++ [])) in
    let six = length-append from (to ++ []) in
    let seven = length-append to [] in
    let here = point_short p.x p.y (omega (arith, is.x)) (omega (arith, is.y)) in
    let there = point_short (p.x + 900000) p.y (omega (arith, is.x)) (omega (arith, is.y)) in
    omega (arith, one, two, three, four, five, six, seven, here, there, number_short net low, number_short p.layer (omega (arith, is.layer)), number_short 100000 (omega arith), number_short 2 (omega arith))

via_short : (net : ℕ) (p : Pick) → net < 2 ^ 32 → IsPick p → length (next_add_text (via_of net p)) ≤ 100
via_short net p low is =
    let at_ = point_text (record { x = pos p.x; y = pos p.y }) in
    let one = length-append (codes " via") (number_text net ++ (number_text 0 ++ at_)) in
    let two = length-append (number_text net) (number_text 0 ++ at_) in
    let three = length-append (number_text 0) at_ in
    let here = point_short p.x p.y (omega (arith, is.x)) (omega (arith, is.y)) in
    omega (arith, one, two, three, here, number_short net low, number_short 0 (omega arith))

-- an edit of one add
add_short : (add : Add) → length (next_add_text add) ≤ 100 → length (edit_text [] (add ∷ [])) ≤ 130
add_short add short =
    let added = counted_text next_add_text (add ∷ []) in
    let one = length-append (codes "edit") (counted_text number_text [] ++ added) in
    let two = length-append (counted_text number_text []) added in
    let three = length-append (number_text 0) [] in
    let four = length-append (number_text 1) (next_add_text add ++ []) in
    let five = length-append (next_add_text add) [] in
    omega (arith, one, two, three, four, five, short, number_short 0 (omega arith), number_short 1 (omega arith))

-- an edit of one delete
delete_short : (id : ℕ) → id < 2 ^ 32 → length (edit_text (id ∷ []) []) ≤ 130
delete_short id low =
    let deleted = counted_text number_text (id ∷ []) in
    let none = counted_text next_add_text [] in
    let one = length-append (codes "edit") (deleted ++ none) in
    let two = length-append deleted none in
    let three = length-append (number_text 1) (number_text id ++ []) in
    let four = length-append (number_text id) [] in
    let five = length-append (number_text 0) [] in
    omega (arith, one, two, three, four, five, number_short id low, number_short 0 (omega arith), number_short 1 (omega arith))

request_short : (wires vias : Bool) (net i : ℕ) (p : Pick) → net < 2 ^ 32 → 1 + i / 2 < 2 ^ 32 → IsPick p → length (request_text (if wires then requests.Edit [] (wire_of net p ∷ []) else (if vias then requests.Edit [] (via_of net p ∷ []) else requests.Edit ((1 + i / 2) ∷ []) []))) ≤ 130
request_short true vias net i p n d is = add_short (wire_of net p) (wire_short net p n is)
request_short false true net i p n d is = add_short (via_of net p) (via_short net p n is)
request_short false false net i p n d is = delete_short (1 + i / 2) d

line_short : (client : ℕ) (r : Request) → client < 2 ^ 32 → length (request_text r) ≤ 130 → length (step_line (steps.Do client r)) ≤ 200
line_short client r low short =
    let rest = 32 ∷ request_text r in
    let one = length-append (step_text (steps.Do client r)) (10 ∷ []) in
    let two = length-append (codes "do") (number_text client ++ rest) in
    let three = length-append (number_text client) rest in
    omega (arith, one, two, three, number_short client low, short)

made_line_short : (nets number i : ℕ) → nets ≤ made_net_limit → i < 4 * nets → length (step_line (made_step nets number i)) ≤ 200
made_line_short nets number i few low =
    let p = pick number i in
    let net : i % nets < 2 ^ 32 = grind arith in
    let id : 1 + i / 2 < 2 ^ 32 = grind arith in
    let client : 1 + i % 4 < 2 ^ 32 = grind arith in
    line_short (1 + i % 4) (request_of (i % nets) i p) client (request_short (nat_lt p.kind 6) (p.kind == 6) (i % nets) i p net id (each_pick number i))

lines_short : (nets number k n : ℕ) → nets ≤ made_net_limit → k + n ≤ 4 * nets → length (flat_map step_line (map (made_step nets number) (range_with_len k n))) ≤ 200 * n
lines_short nets number k zero few low = omega arith
lines_short nets number k (suc n) few low =
    let rest = flat_map step_line (map (made_step nets number) (range_with_len (k + 1) n)) in
    let one = length-append (step_line (made_step nets number k)) rest in
    omega (arith, one, made_line_short nets number k few (omega arith), lines_short nets number (k + 1) n few (omega arith))

pub text_short : (nets number : ℕ) → nets ≤ made_net_limit → length (script_text nets number) ≤ text_limit_bytes
text_short nets number few = omega (arith, lines_short nets number 0 (4 * nets) few (omega arith))
