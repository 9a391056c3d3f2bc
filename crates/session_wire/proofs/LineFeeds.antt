-- The text of a step has no line feed.
use Rattle.std.proofs.Common.{◌≡◌, ◌≢◌, ℕ, suc, ◌^◌, ◌<◌, false, eqb, List, [], ◌∷◌, ◌++◌, length, get_or, refl, arith}
use Rattle.std.specs.Prelude.{codes, decimal, ℤ}
use Rattle.std.proofs.Math.IntN.{pos, negsuc}
use Rattle.std.specs.List.{flat_map, AllByRecursion}
use Rattle.std.proofs.lemmas.Bool.{eqb-false}
use Rattle.std.proofs.lemmas.Str.Parse.{not_in_digits}
use Rattle.seg_geometry.specs.Points.{IsInRange}
use Rattle.seg_geometry.specs.declared.points.Pt.{Pt}
use Rattle.board_items.specs.declared.requests.Add.{Add}
use Rattle.board_items.specs.declared.requests.Add.TheVariants as adds
use Rattle.board_items.specs.declared.requests.Request.{Request}
use Rattle.board_items.specs.declared.requests.Request.TheVariants as requests
use Rattle.board_items.specs.Formed.{IsFormedAdd, IsFormedEdit, IsFormedFence, IsFormed, IsFormedAct}
use Rattle.board_items.specs.declared.history.Act.{Act}
use Rattle.board_items.specs.declared.history.Act.TheVariants as acts
use Rattle.board_items.specs.declared.history.Entry.{Entry}
use Rattle.session_wire.specs.declared.messages.Message.{Message}
use Rattle.session_wire.specs.declared.messages.Message.TheVariants as messages
use Rattle.session_wire.specs.declared.steps.ScriptStep.{ScriptStep}
use Rattle.session_wire.specs.declared.steps.ScriptStep.TheVariants as steps
use Rattle.session_wire.specs.Lines.{step_text, act_text, entry_text}
use Rattle.session_wire.specs.Numbers.{number_text, IsId, IsSmall}
use Rattle.session_wire.specs.Points.{coordinate_text, point_text, IsCoordinate}
use Rattle.session_wire.specs.Adds.{next_add_text}
use Rattle.session_wire.specs.Requests.{edit_text, fence_text, request_text, next_request_text}
use Rattle.session_wire.specs.Parts.{counted_text}
use Rattle.session_wire.specs.Steps.{IsStep, IsLine}
use Rattle.session_wire.specs.Messages.{message_text, IsMessage}
use Rattle.session_wire.specs.EntryLines.{IsEntry}
use Rattle.session_wire.proofs.Digits.{own, decimal_digits}
use Rattle.session_wire.proofs.WordParts.{stands, bytes_without}

pub line_by_index : (xs : List ℕ) → ((i : ℕ) → i < length xs → get_or xs i 0 ≢ 10) → IsLine xs
line_by_index [] h = tt
line_by_index (x ∷ xs) h = (h 0 (omega arith), line_by_index xs (λ i lt. h (suc i) (omega arith)))

pub line_append : (xs ys : List ℕ) → IsLine xs → IsLine ys → IsLine (xs ++ ys)
line_append [] ys p q = q
line_append (x ∷ xs) ys p q = (p.0, line_append xs ys p.1 q)

not_ten : (b : ℕ) → eqb b 10 ≡ false → b ≢ 10
not_ten b e = eqb-false b 10 e

decimal_line : (n : ℕ) → n < 2 ^ 32 → IsLine (decimal n)
decimal_line n low = line_by_index (decimal n) (not_in_digits own (decimal n) 10 (decimal_digits n low) (λ r. absurd (omega (arith, r))))

spaced : (xs : List ℕ) → IsLine xs → IsLine (32 ∷ xs)
spaced xs p = (not_ten 32 refl, p)

number_line : (n : ℕ) → n < 2 ^ 32 → IsLine (number_text n)
number_line n low = spaced (decimal n) (decimal_line n low)

signed_line : (z : ℤ) → IsCoordinate z → IsLine (coordinate_text z)
signed_line (pos n) low = number_line n (omega arith)
signed_line (negsuc n) low = spaced (45 ∷ decimal (suc n)) (not_ten 45 refl, decimal_line (suc n) (omega arith))

point_line : (p : Pt) → IsInRange p → IsLine (point_text p)
point_line p f = line_append (coordinate_text p.x) (coordinate_text p.y) (signed_line p.x f.x) (signed_line p.y f.y)

-- where each thing's text is a line, so are all of them
all_line : {T : Type 0} (P : T → Type 0) (text : T → List ℕ) (xs : List T) → ((x : T) → P x → IsLine (text x)) → AllByRecursion P xs → IsLine (flat_map text xs)
all_line P text [] h f = tt
all_line P text (x ∷ xs) h f = line_append (text x) (flat_map text xs) (h x f.0) (all_line P text xs h f.1)

counted_line : {T : Type 0} (P : T → Type 0) (text : T → List ℕ) (xs : List T) → ((x : T) → P x → IsLine (text x)) → AllByRecursion P xs → length xs < 2 ^ 32 → IsLine (counted_text text xs)
counted_line P text xs h f low = line_append (number_text (length xs)) (flat_map text xs) (number_line (length xs) low) (all_line P text xs h f)

small_line : (n : ℕ) → IsSmall n → IsLine (number_text n)
small_line n low = number_line n (omega (arith, low))

-- a word, and a line behind it
behind : (word rest : List ℕ) → stands 10 word ≡ false → IsLine rest → IsLine (word ++ rest)
behind word rest e p = line_append word rest (bytes_without 10 word e) p

add_line : (add : Add) → IsFormedAdd add → IsLine (next_add_text add)
add_line (adds.Wire net layer width ps) f =
    let counted = counted_text point_text ps in
    let from_width = number_text width ++ counted in
    let from_layer = number_text layer ++ from_width in
    let last = counted_line IsInRange point_text ps point_line f.in_range (omega (arith, f.points_fit)) in
    let third = line_append (number_text width) counted (number_line width (omega (arith, f.width_fits))) last in
    let second = line_append (number_text layer) from_width (number_line layer f.layer_fits) third in
    let first = line_append (number_text net) from_layer (number_line net f.net_fits) second in
    behind (codes " wire") (number_text net ++ from_layer) refl first
add_line (adds.Via net padstack place) f =
    let from_padstack = number_text padstack ++ point_text place in
    let second = line_append (number_text padstack) (point_text place) (number_line padstack f.padstack_fits) (point_line place f.in_range) in
    let first = line_append (number_text net) from_padstack (number_line net f.net_fits) second in
    behind (codes " via") (number_text net ++ from_padstack) refl first

edit_line : (ds : List ℕ) (more : List Add) → IsFormedEdit ds more → IsLine (edit_text ds more)
edit_line ds more f =
    let deletes = counted_line IsId number_text ds number_line f.numbers_fit (omega (arith, f.deletes_fit)) in
    let adds = counted_line IsFormedAdd next_add_text more add_line f.formed (omega (arith, f.adds_fit)) in
    behind (codes "edit") (counted_text number_text ds ++ counted_text next_add_text more) refl (line_append (counted_text number_text ds) (counted_text next_add_text more) deletes adds)

fence_line : (layers : List ℕ) (area : List Pt) (clients : List ℕ) → IsFormedFence layers area clients → IsLine (fence_text layers area clients)
fence_line layers area clients f =
    let third = counted_line IsSmall number_text clients small_line f.clients_in (omega (arith, f.clients_fit)) in
    let second = line_append (counted_text point_text area) (counted_text number_text clients) (counted_line IsInRange point_text area point_line f.in_range (omega (arith, f.points_fit))) third in
    let first = line_append (counted_text number_text layers) (counted_text point_text area ++ counted_text number_text clients) (counted_line IsSmall number_text layers small_line f.layers_in (omega (arith, f.layers_fit))) second in
    behind (codes "fence") (counted_text number_text layers ++ (counted_text point_text area ++ counted_text number_text clients)) refl first

request_line : (q : Request) → IsFormed q → IsLine (request_text q)
request_line (requests.Edit ds more) f = edit_line ds more f
request_line (requests.Reserve id) f = behind (codes "reserve") (number_text id.0) refl (number_line id.0 f)
request_line (requests.Release id) f = behind (codes "release") (number_text id.0) refl (number_line id.0 f)
request_line (requests.Fence layers area clients) f = fence_line layers area clients f
request_line (requests.Unfence fence) f = behind (codes "unfence") (number_text fence) refl (number_line fence f)
request_line (requests.Entitle fence client) f = behind (codes "entitle") (number_text fence ++ number_text client) refl (line_append (number_text fence) (number_text client) (number_line fence f.0) (small_line client f.1))
request_line (requests.Rule class clearance) f = behind (codes "rule") (number_text class ++ number_text clearance) refl (line_append (number_text class) (number_text clearance) (number_line class f.0) (number_line clearance (omega (arith, f.1))))

pub step_is_one_line : (step : ScriptStep) → IsStep step → IsLine (step_text step)
step_is_one_line (steps.Do client q) f = behind (codes "do") (number_text client ++ next_request_text q) refl (line_append (number_text client) (next_request_text q) (number_line client (omega (arith, f.1))) (spaced (request_text q) (request_line q f.2)))
step_is_one_line (steps.Leave client) f = behind (codes "leave") (number_text client) refl (number_line client (omega (arith, f.1)))

pub message_is_one_line : (message : Message) → IsMessage message → IsLine (message_text message)
message_is_one_line (messages.Ask q) f = request_line q f
message_is_one_line messages.Bye f = bytes_without 10 (codes "bye") refl

act_line : (act : Act) → IsFormedAct act → IsLine (act_text act)
act_line (acts.Ask q) f = request_line q f
act_line acts.Leave f = bytes_without 10 (codes "leave") refl

pub entry_is_one_line : (entry : Entry) → IsEntry entry → IsLine (entry_text entry)
entry_is_one_line e f =
    let act = 32 ∷ act_text e.act in
    let third = spaced (act_text e.act) (act_line e.act f.act_formed) in
    let second = line_append (number_text e.client) act (number_line e.client (omega (arith, f.client_fits))) third in
    let first = line_append (number_text e.number) (number_text e.client ++ act) (number_line e.number f.number_fits) second in
    behind (codes "entry") (number_text e.number ++ (number_text e.client ++ act)) refl first
