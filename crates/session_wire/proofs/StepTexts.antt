-- The steps of a line.
use Rattle.std.proofs.Common.{◌≡◌, ◌≢◌, ℕ, List, [], ◌++◌, length, get_or, Result, Ok, Err, refl, sym, ap, ◌∙◌, arith, append_assoc}
use Rattle.std.specs.Prelude.{codes, IfOk, IfErr}
use Rattle.std.proofs.lemmas.List.{append-nil}
use Rattle.board_items.specs.declared.requests.Request.{Request}
use Rattle.board_items.specs.Formed.{IsFormed}
use Rattle.row_lists.specs.Limits.{client_limit}
use Rattle.session_wire.specs.declared.faults.Halt.{Halt}
use Rattle.session_wire.specs.declared.faults.Halt.TheVariants as halts
use Rattle.session_wire.specs.declared.faults.LineFault.{LineFault}
use Rattle.session_wire.specs.declared.faults.LineFault.TheVariants.{Bad, Memory}
use Rattle.session_wire.specs.declared.steps.ScriptStep.{ScriptStep}
use Rattle.session_wire.specs.declared.steps.ScriptStep.TheVariants as steps
use Rattle.session_wire.specs.Words.{IsWord, EndsWord}
use Rattle.session_wire.specs.Numbers.{number_text, IsBetween}
use Rattle.session_wire.specs.Requests.{next_request_text}
use Rattle.session_wire.specs.Lines.{step_text}
use Rattle.session_wire.specs.Places.{IsBadAt}
use Rattle.session_wire.specs.Parts.{Then, Begins, StopsAt, WhyHalts}
use Rattle.session_wire.specs.Steps.{IsStep, Reads, HasStep, HasLeft, WhyStopped, WhyUnread, Gives}
use Rattle.session_wire.proofs.WordParts.{word_split, bytes_without}
use Rattle.session_wire.proofs.PointTexts.{betweens}
use Rattle.session_wire.proofs.RequestTexts.{all_requests}
use Rattle.session_wire.proofs.Stops.{stops_behind}
use Rattle.session_wire.proofs.PlaceLaws.{one_place, no_place, place_behind, place_first}
use Rattle.session_wire.proofs.Things.{IsSpelling}
use Rattle.session_wire.proofs.Pairs.{AreBoth, both_text, both_then, stops_at_first, stops_at_second, both}
use Rattle.session_wire.proofs.WordKinds.{IsMade, IsKind, same_kind}
use Rattle.session_wire.proofs.Wholes.{IsWhole, stops_in_whole, stops_behind_whole, whole_of, in_whole_kind}

abbrev pub IsClient : ℕ → Type 0
IsClient = IsBetween 1 client_limit

-- each number of a client has one text
pub clients : IsSpelling IsClient number_text
clients = betweens 1 client_limit (omega arith) (omega arith)

-- the client and the request behind the word `do`
abbrev pub AreAsked : (ℕ × Request) → Type 0
AreAsked = AreBoth IsClient IsFormed

abbrev pub asked_text : (ℕ × Request) → List ℕ
asked_text = both_text number_text next_request_text

asked : IsSpelling AreAsked asked_text
asked = both clients all_requests

abbrev pub make_do : (ℕ × Request) → ScriptStep
make_do x = steps.Do x.0 x.1

abbrev pub make_leave : ℕ → ScriptStep
make_leave n = steps.Leave n

abbrev word_of : ScriptStep → List ℕ
word_of (steps.Do client request) = codes "do"
word_of (steps.Leave client) = codes "leave"

abbrev tail_of : ScriptStep → List ℕ
tail_of (steps.Do client request) = asked_text (client, request)
tail_of (steps.Leave client) = number_text client

parts_of : (s : ScriptStep) → step_text s ≡ word_of s ++ tail_of s
parts_of (steps.Do client request) = refl
parts_of (steps.Leave client) = refl

tail_first : (s : ScriptStep) (r : List ℕ) → EndsWord (tail_of s ++ r)
tail_first (steps.Do client request) r = refl
tail_first (steps.Leave client) r = refl

word_is : (s : ScriptStep) → IsWord (word_of s)
word_is (steps.Do client request) = bytes_without 32 (codes "do") refl
word_is (steps.Leave client) = bytes_without 32 (codes "leave") refl

-- a text that begins with a step begins with its word
same_word : (word t : List ℕ) (s : ScriptStep) (r : List ℕ) → IsWord word → EndsWord t → word ++ t ≡ step_text s ++ r → word ≡ word_of s
same_word word t s r whole ends e = (word_split word (word_of s) t (tail_of s ++ r) whole (word_is s) ends (tail_first s r) (e ∙ ap (λ (y : List ℕ). y ++ r) (parts_of s) ∙ append_assoc (word_of s) (tail_of s) r)).0

first : (a b : List ℕ) → a ≡ b → get_or a 0 0 ≡ get_or b 0 0
first a b e = ap (λ (w : List ℕ). get_or w 0 0) e

do_made : (s : ScriptStep) → IsStep s → codes "do" ≡ word_of s → IsMade AreAsked make_do s
do_made (steps.Do client q) f e = record { thing = (client, q); formed = ((f.0, f.1), f.2); is = refl }
do_made (steps.Leave client) f e = absurd (omega (arith, first (codes "do") (codes "leave") e))

leave_made : (s : ScriptStep) → IsStep s → codes "leave" ≡ word_of s → IsMade IsClient make_leave s
leave_made (steps.Do client q) f e = absurd (omega (arith, first (codes "leave") (codes "do") e))
leave_made (steps.Leave client) f e = record { thing = client; formed = f; is = refl }

dos : IsKind IsStep step_text AreAsked asked_text (codes "do") make_do
dos = record {
  spelling = asked;
  formed = λ x f. (f.0.0, f.0.1, f.1);
  spelled = λ x. refl;
  back = λ t s r ends f end e. do_made s f (same_word (codes "do") t s r (bytes_without 32 (codes "do") refl) ends e);
}

leaves : IsKind IsStep step_text IsClient number_text (codes "leave") make_leave
leaves = record {
  spelling = clients;
  formed = λ x f. f;
  spelled = λ x. refl;
  back = λ t s r ends f end e. leave_made s f (same_word (codes "leave") t s r (bytes_without 32 (codes "leave") refl) ends e);
}

-- a line stops to spell a step where it stops to be one's text
in_step : (word line : List ℕ) (left : ℕ) → EndsWord line → StopsAt (λ t. IsWhole IsStep step_text (word ++ t)) line left → StopsAt (λ t. HasStep (word ++ t)) line left
in_step word line left ends = stops_behind (λ t. HasStep (word ++ t)) (λ t. IsWhole IsStep step_text (word ++ t)) line [] line left refl ends
    (λ t end is. (is.0, record { formed = is.1; spelled = is.2 }))
    (λ t end is. (is.0, is.1.formed, is.1.spelled))

in_do : (line : List ℕ) (left : ℕ) → EndsWord line → StopsAt (IsWhole AreAsked asked_text) line left → StopsAt (λ t. HasStep (codes "do" ++ t)) line left
in_do line left ends s = in_step (codes "do") line left ends (in_whole_kind dos line left ends s)

in_leave : (line : List ℕ) (left : ℕ) → EndsWord line → StopsAt (IsWhole IsClient number_text) line left → StopsAt (λ t. HasStep (codes "leave" ++ t)) line left
in_leave line left ends s = in_step (codes "leave") line left ends (in_whole_kind leaves line left ends s)

-- a `do` stops where its client does
pub do_at_client : (line : List ℕ) (left : ℕ) → EndsWord line → StopsAt (Begins (IsBetween 1 client_limit) number_text) line left → StopsAt (λ t. HasStep (codes "do" ++ t)) line left
do_at_client line left ends s = in_do line left ends (stops_in_whole AreAsked asked_text line left ends (stops_at_first clients all_requests line left ends s))

-- or its request
pub do_at_request : (line : List ℕ) (client : ℕ) (rest : List ℕ) (left : ℕ) → EndsWord line → Then (IsBetween 1 client_limit) number_text line client rest → StopsAt (Begins IsFormed next_request_text) rest left → StopsAt (λ t. HasStep (codes "do" ++ t)) line left
do_at_request line client rest left ends a s = in_do line left ends (stops_in_whole AreAsked asked_text line left ends (stops_at_second clients all_requests line client rest left a s))

asked_then : (line : List ℕ) (client : ℕ) (q : Request) (from rest : List ℕ) → Then IsClient number_text line client from → Then IsFormed next_request_text from q rest → Then AreAsked asked_text line (client, q) rest
asked_then line client q from rest a b = both_then IsClient IsFormed number_text next_request_text line from rest client q a b

-- or at something behind it
pub do_at_end : (line : List ℕ) (client : ℕ) (q : Request) (from rest : List ℕ) (left : ℕ) → EndsWord line → Then (IsBetween 1 client_limit) number_text line client from → Then IsFormed next_request_text from q rest → StopsAt (λ r. r ≡ []) rest left → StopsAt (λ t. HasStep (codes "do" ++ t)) line left
do_at_end line client q from rest left ends a b s = in_do line left ends (stops_behind_whole asked line (client, q) rest left (asked_then line client q from rest a b) s)

-- the step of this client and request
pub do_from : (line : List ℕ) (client : ℕ) (q : Request) (from rest : List ℕ) → Then (IsBetween 1 client_limit) number_text line client from → Then IsFormed next_request_text from q rest → rest ≡ [] → Reads (codes "do" ++ line) (steps.Do client q)
do_from line client q from rest a b e = record {
  formed = (a.formed.0, a.formed.1, b.formed);
  spelled = ap (λ (t : List ℕ). codes "do" ++ t) (whole_of line (client, q) rest (asked_then line client q from rest a b) e);
}

-- a leave stops where its client does, or at something behind it
pub leave_at_client : (line : List ℕ) (left : ℕ) → EndsWord line → StopsAt (Begins (IsBetween 1 client_limit) number_text) line left → StopsAt (λ t. HasStep (codes "leave" ++ t)) line left
leave_at_client line left ends s = in_leave line left ends (stops_in_whole IsClient number_text line left ends s)

pub leave_at_end : (line : List ℕ) (client : ℕ) (rest : List ℕ) (left : ℕ) → EndsWord line → Then (IsBetween 1 client_limit) number_text line client rest → StopsAt (λ r. r ≡ []) rest left → StopsAt (λ t. HasStep (codes "leave" ++ t)) line left
leave_at_end line client rest left ends a s = in_leave line left ends (stops_behind_whole clients line client rest left a s)

-- the leave of this client
pub leave_from : (line : List ℕ) (client : ℕ) (rest : List ℕ) → Then (IsBetween 1 client_limit) number_text line client rest → rest ≡ [] → Reads (codes "leave" ++ line) (steps.Leave client)
leave_from line client rest a e = record { formed = a.formed; spelled = ap (λ (t : List ℕ). codes "leave" ++ t) (whole_of line client rest a e) }

no_word : (word : List ℕ) → word ≢ codes "do" → word ≢ codes "leave" → (s : ScriptStep) → word ≢ word_of s
no_word word no_do no_leave (steps.Do client request) = no_do
no_word word no_do no_leave (steps.Leave client) = no_leave

-- a line whose first word begins no step
pub bad_step : (line word rest : List ℕ) → line ≡ word ++ rest → IsWord word → EndsWord rest → word ≢ codes "do" → word ≢ codes "leave" → HasLeft line (length line)
bad_step line word rest e whole ends no_do no_leave = place_first HasStep line word rest e whole ends (λ on.
    let (r, end, (step, reads)) = on in
    no_word word no_do no_leave step (same_word word r step [] whole end (reads.spelled ∙ sym (append-nil (step_text step)))))

-- a line stops where what follows its first word does
pub stops_in_step : (kind line word rest : List ℕ) (left : ℕ) → line ≡ word ++ rest → word ≡ kind → StopsAt (λ t. HasStep (kind ++ t)) rest left → HasLeft line left
stops_in_step kind line word rest left e is = place_behind HasStep line kind rest left (e ∙ ap (λ (w : List ℕ). w ++ rest) is)

same_text : (one other : ScriptStep) → step_text one ≡ step_text other → step_text one ++ [] ≡ step_text other ++ []
same_text one other e = ap (λ (y : List ℕ). y ++ []) e

pub one_step : (one other : ScriptStep) → IsStep one → IsStep other → step_text one ≡ step_text other → one ≡ other
one_step (steps.Do c p) other f g e = (same_kind dos (c, p) other [] [] ((f.0, f.1), f.2) g tt tt (same_text (steps.Do c p) other e)).0
one_step (steps.Leave c) other f g e = (same_kind leaves c other [] [] f g tt tt (same_text (steps.Leave c) other e)).0

-- the step that is read is the one, and the byte that is told is the one
pub only_step : (line : List ℕ) (r : Result ScriptStep LineFault) → IfOk r (Reads line) → IfErr r (WhyUnread line) → (step : ScriptStep) → Reads line step → Gives r (Ok step)
only_step line (Ok found) ok err step reads = ap Ok (one_step step found reads.formed ok.formed (sym reads.spelled ∙ ok.spelled))
only_step line (Err (Bad at)) ok err step reads = absurd (no_place HasStep line at (step, reads) err)
only_step line (Err Memory) ok err step reads = tt

pub only_place : (line : List ℕ) (r : Result ScriptStep LineFault) → IfOk r (Reads line) → IfErr r (WhyUnread line) → (at : ℕ) → IsBadAt HasStep line at → Gives r (Err (Bad at))
only_place line (Ok found) ok err at bad = absurd (no_place HasStep line at (found, ok) bad)
only_place line (Err (Bad told)) ok err at bad = ap (λ (n : ℕ). Err (Bad n)) (one_place HasStep line at told bad err)
only_place line (Err Memory) ok err at bad = tt

-- a line that is bad has no reading
pub no_reading : (line : List ℕ) (at : ℕ) → IsBadAt HasStep line at → (step : ScriptStep) → Reads line step → ⊥
no_reading line at bad step reads = no_place HasStep line at (step, reads) bad

-- what a halt behind the first word says of the line
pub stopped : {T : Type 0} {Js : List ℕ → Type 0} {line rest : List ℕ} (r : Result T Halt) → IfErr r (WhyHalts Js rest) → ((left : ℕ) → StopsAt Js rest left → HasLeft line left) → IfErr r (WhyStopped line)
stopped (Ok x) w longer = tt
stopped (Err (halts.Left left)) w longer = longer left w
stopped (Err halts.Memory) w longer = tt
