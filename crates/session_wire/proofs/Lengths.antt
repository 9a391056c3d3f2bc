-- How long the text of a step may be.
use Rattle.std.proofs.Common.{◌≡◌, ℕ, suc, ◌+◌, ◌-◌, ◌*◌, ◌^◌, ◌<◌, ◌≤◌, inl, inr, List, [], ◌∷◌, ◌++◌, length, ap, arith}
use Rattle.std.specs.Prelude.{codes, ℤ}
use Rattle.std.proofs.Math.IntN.{pos, negsuc}
use Rattle.std.specs.List.{flat_map, AllByRecursion}
use Rattle.std.proofs.lemmas.Fmt.{length-decimal-le}
use Rattle.std.proofs.lemmas.List.{length-append}
use Rattle.seg_geometry.specs.Points.{IsInRange}
use Rattle.seg_geometry.specs.declared.points.Pt.{Pt}
use Rattle.board_items.specs.declared.requests.Add.{Add}
use Rattle.board_items.specs.declared.requests.Add.TheVariants as adds
use Rattle.board_items.specs.declared.requests.Request.{Request}
use Rattle.board_items.specs.declared.requests.Request.TheVariants as requests
use Rattle.board_items.specs.Formed.{IsFormedAdd, IsFormedEdit, IsFormedFence, IsFormed, IsFormedAct}
use Rattle.board_items.specs.declared.history.Act.{Act}
use Rattle.board_items.specs.declared.history.Act.TheVariants as acts
use Rattle.session_wire.specs.declared.messages.Message.TheVariants as messages
use Rattle.session_wire.specs.declared.steps.ScriptStep.{ScriptStep}
use Rattle.session_wire.specs.declared.steps.ScriptStep.TheVariants as steps
use Rattle.session_wire.specs.Lines.{step_text, act_text}
use Rattle.session_wire.specs.Numbers.{number_text, IsId, IsSmall}
use Rattle.session_wire.specs.Points.{coordinate_text, point_text, IsCoordinate}
use Rattle.session_wire.specs.Adds.{next_add_text}
use Rattle.session_wire.specs.Requests.{edit_text, fence_text, request_text, next_request_text}
use Rattle.session_wire.specs.Parts.{counted_text}
use Rattle.session_wire.specs.Places.{Continues, IsBadAt}
use Rattle.session_wire.specs.Steps.{IsStep, HasStep, WhyStopped}
use Rattle.session_wire.specs.Readings as readings
use Rattle.session_wire.specs.Messages.{HasMessage}
use Rattle.session_wire.specs.EntryLines.{HasEntry}
use Rattle.session_wire.proofs.ReadingLaws.{fits_left}
use Rattle.session_wire.specs.declared.faults.Halt.{Halt}
use Rattle.session_wire.specs.declared.faults.Halt.TheVariants.{Left, Memory}

number_short : (k n : ℕ) → 0 < k → n < 10 ^ k → n < 2 ^ 64 → length (number_text n) ≤ k + 1
number_short k n some low fits = omega (arith, length-decimal-le k n some low fits)

id_short : (n : ℕ) → IsId n → length (number_text n) ≤ 11
id_short n low = number_short 10 n (omega arith) (omega arith) (omega arith)

coordinate_short : (z : ℤ) → IsCoordinate z → length (coordinate_text z) ≤ 12
coordinate_short (pos n) low = omega (arith, length-decimal-le 10 n (omega arith) (omega arith) (omega arith))
coordinate_short (negsuc n) low = omega (arith, length-decimal-le 10 (suc n) (omega arith) (omega arith) (omega arith))

point_short : (p : Pt) → IsInRange p → length (point_text p) ≤ 24
point_short p f = omega (arith, length-append (coordinate_text p.x) (coordinate_text p.y), coordinate_short p.x f.x, coordinate_short p.y f.y)

ids_short : (ds : List ℕ) → AllByRecursion IsId ds → length (flat_map number_text ds) ≤ 11 * length ds
ids_short [] f = omega arith
ids_short (d ∷ ds) f = omega (arith, length-append (number_text d) (flat_map number_text ds), id_short d f.0, ids_short ds f.1)

points_short : (ps : List Pt) → AllByRecursion IsInRange ps → length (flat_map point_text ps) ≤ 24 * length ps
points_short [] f = omega arith
points_short (p ∷ ps) f = omega (arith, length-append (point_text p) (flat_map point_text ps), point_short p f.0, points_short ps f.1)

add_short : (add : Add) → IsFormedAdd add → length (next_add_text add) ≤ 6185
add_short (adds.Wire net layer width ps) f =
    let counted = counted_text point_text ps in
    let from_width = number_text width ++ counted in
    let from_layer = number_text layer ++ from_width in
    let from_net = number_text net ++ from_layer in
    let count = number_short 3 (length ps) (omega arith) (omega (arith, f.points_fit)) (omega (arith, f.points_fit)) in
    let thick = number_short 9 width (omega arith) (omega (arith, f.width_fits)) (omega (arith, f.width_fits)) in
    let one = length-append (codes " wire") from_net in
    let two = length-append (number_text net) from_layer in
    let three = length-append (number_text layer) from_width in
    let four = length-append (number_text width) counted in
    let five = length-append (number_text (length ps)) (flat_map point_text ps) in
    omega (arith, one, two, three, four, five, count, thick, id_short net f.net_fits, id_short layer f.layer_fits, points_short ps f.in_range, f.points_fit)
add_short (adds.Via net padstack place) f =
    let from_padstack = number_text padstack ++ point_text place in
    let one = length-append (codes " via") (number_text net ++ from_padstack) in
    let two = length-append (number_text net) from_padstack in
    let three = length-append (number_text padstack) (point_text place) in
    omega (arith, one, two, three, id_short net f.net_fits, id_short padstack f.padstack_fits, point_short place f.in_range)

adds_short : (more : List Add) → AllByRecursion IsFormedAdd more → length (flat_map next_add_text more) ≤ 6185 * length more
adds_short [] f = omega arith
adds_short (a ∷ more) f = omega (arith, length-append (next_add_text a) (flat_map next_add_text more), add_short a f.0, adds_short more f.1)

edit_short : (ds : List ℕ) (more : List Add) → IsFormedEdit ds more → length (edit_text ds more) ≤ 398667
edit_short ds more f =
    let deletes = counted_text number_text ds in
    let added = counted_text next_add_text more in
    let one = length-append (codes "edit") (deletes ++ added) in
    let two = length-append deletes added in
    let three = length-append (number_text (length ds)) (flat_map number_text ds) in
    let four = length-append (number_text (length more)) (flat_map next_add_text more) in
    let first = number_short 3 (length ds) (omega arith) (omega (arith, f.deletes_fit)) (omega (arith, f.deletes_fit)) in
    let second = number_short 2 (length more) (omega arith) (omega (arith, f.adds_fit)) (omega (arith, f.adds_fit)) in
    omega (arith, one, two, three, four, first, second, ids_short ds f.numbers_fit, adds_short more f.formed, f.deletes_fit, f.adds_fit)

small_short : (n : ℕ) → IsSmall n → length (number_text n) ≤ 4
small_short n low = number_short 3 n (omega arith) (omega (arith, low)) (omega (arith, low))

smalls_short : (ns : List ℕ) → AllByRecursion IsSmall ns → length (flat_map number_text ns) ≤ 4 * length ns
smalls_short [] f = omega arith
smalls_short (n ∷ ns) f = omega (arith, length-append (number_text n) (flat_map number_text ns), small_short n f.0, smalls_short ns f.1)

fence_short : (layers : List ℕ) (area : List Pt) (clients : List ℕ) → IsFormedFence layers area clients → length (fence_text layers area clients) ≤ 6318
fence_short layers area clients f =
    let first = counted_text number_text layers in
    let second = counted_text point_text area in
    let third = counted_text number_text clients in
    let one = length-append (codes "fence") (first ++ (second ++ third)) in
    let two = length-append first (second ++ third) in
    let three = length-append second third in
    let four = length-append (number_text (length layers)) (flat_map number_text layers) in
    let five = length-append (number_text (length area)) (flat_map point_text area) in
    let six = length-append (number_text (length clients)) (flat_map number_text clients) in
    let a = number_short 2 (length layers) (omega arith) (omega (arith, f.layers_fit)) (omega (arith, f.layers_fit)) in
    let b = number_short 3 (length area) (omega arith) (omega (arith, f.points_fit)) (omega (arith, f.points_fit)) in
    let d = number_short 1 (length clients) (omega arith) (omega (arith, f.clients_fit)) (omega (arith, f.clients_fit)) in
    omega (arith, one, two, three, four, five, six, a, b, d, smalls_short layers f.layers_in, points_short area f.in_range, smalls_short clients f.clients_in, f.layers_fit, f.points_fit, f.clients_fit)

named_short : (word : List ℕ) (n : ℕ) → length word ≤ 7 → IsId n → length (word ++ number_text n) ≤ 18
named_short word n short low = omega (arith, length-append word (number_text n), short, id_short n low)

-- an edit is the longest request
request_short : (q : Request) → IsFormed q → length (request_text q) ≤ 398667
request_short (requests.Edit ds more) f = edit_short ds more f
request_short (requests.Reserve id) f = omega (arith, named_short (codes "reserve") id.0 (omega arith) f)
request_short (requests.Release id) f = omega (arith, named_short (codes "release") id.0 (omega arith) f)
request_short (requests.Fence layers area clients) f = omega (arith, fence_short layers area clients f)
request_short (requests.Unfence fence) f = omega (arith, named_short (codes "unfence") fence (omega arith) f)
request_short (requests.Entitle fence client) f =
    let one = length-append (codes "entitle") (number_text fence ++ number_text client) in
    let two = length-append (number_text fence) (number_text client) in
    omega (arith, one, two, id_short fence f.0, small_short client f.1)
request_short (requests.Rule class clearance) f =
    let one = length-append (codes "rule") (number_text class ++ number_text clearance) in
    let two = length-append (number_text class) (number_text clearance) in
    let far = number_short 9 clearance (omega arith) (omega (arith, f.1)) (omega (arith, f.1)) in
    omega (arith, one, two, id_short class f.0, far)

-- a step's text has at most 398,672 bytes
pub step_short : (step : ScriptStep) → IsStep step → length (step_text step) ≤ 398672
step_short (steps.Do client q) f =
    let request = next_request_text q in
    let one = length-append (codes "do") (number_text client ++ request) in
    let two = length-append (number_text client) request in
    let number = number_short 1 client (omega arith) (omega (arith, f.1)) (omega (arith, f.1)) in
    omega (arith, one, two, number, request_short q f.2)
step_short (steps.Leave client) f = omega (arith, named_short (codes "leave") client (omega arith) (omega (arith, f.1)))

words_short : (words : List ℕ) → Continues HasStep words → length words ≤ 398672
words_short words (r, f, (step, reads)) = omega (arith, length-append words r, ap length reads.spelled, step_short step reads.formed)

-- so the byte at which a line is bad isn't far
pub place_fits : (line : List ℕ) (at : ℕ) → IsBadAt HasStep line at → at ≤ 398673
place_fits line at (inl x) = elim x.read [
  | inl e ↦ omega (arith, ap length e, x.place)
  | inr (words, e, on) ↦ omega (arith, ap length e, length-append words (32 ∷ []), words_short words on, x.place)
]
place_fits line at (inr x) = omega (arith, words_short line x.read, x.place)

pub left_fits : (line : List ℕ) (h : Halt) (left : ℕ) → h ≡ Left left → WhyStopped line h → length line - left ≤ 398673
left_fits line (Left n) left e (at, bad, sum) = let same : n ≡ left = cc in omega (arith, place_fits line at bad, sum, same)
left_fits line Memory left e w = absurd cc

message_line_short : (line : List ℕ) → HasMessage line → length line ≤ 398667
message_line_short line (messages.Ask q, reads) = omega (arith, ap length reads.spelled, request_short q reads.formed)
message_line_short line (messages.Bye, reads) = omega (arith, ap length reads.spelled)

act_short : (act : Act) → IsFormedAct act → length (act_text act) ≤ 398667
act_short (acts.Ask q) f = request_short q f
act_short acts.Leave f = omega arith

entry_line_short : (line : List ℕ) → HasEntry line → length line ≤ 398686
entry_line_short line (e, reads) =
    let act = 32 ∷ act_text e.act in
    let one = length-append (codes "entry") (number_text e.number ++ (number_text e.client ++ act)) in
    let two = length-append (number_text e.number) (number_text e.client ++ act) in
    let three = length-append (number_text e.client) act in
    let number = id_short e.number reads.formed.number_fits in
    let client = number_short 1 e.client (omega arith) (omega (arith, reads.formed.client_fits)) (omega (arith, reads.formed.client_fits)) in
    omega (arith, ap length reads.spelled, one, two, three, number, client, act_short e.act reads.formed.act_formed)

-- so the byte at which a client's line or an entry's is bad isn't far
pub message_left_fits : (line : List ℕ) (h : Halt) (left : ℕ) → h ≡ Left left → readings.WhyStopped HasMessage line h → length line - left ≤ 398668
message_left_fits line h left e w = omega (arith, fits_left HasMessage 398667 message_line_short line h left e w)

pub entry_left_fits : (line : List ℕ) (h : Halt) (left : ℕ) → h ≡ Left left → readings.WhyStopped HasEntry line h → length line - left ≤ 398687
entry_left_fits line h left e w = omega (arith, fits_left HasEntry 398686 entry_line_short line h left e w)
