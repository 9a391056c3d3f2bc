-- The lines of clients.
use Rattle.std.proofs.Common.{◌≡◌, ◌≢◌, ℕ, List, [], ◌∷◌, ◌++◌, refl, sym, ap, ◌∙◌, subst, arith}
use Rattle.std.specs.Prelude.{codes, IfOk, IfErr, Result}
use Rattle.session_wire.specs.declared.faults.Halt.{Halt}
use Rattle.std.proofs.lemmas.List.{append-nil, append_cancel_left}
use Rattle.board_items.specs.declared.requests.Request.{Request}
use Rattle.board_items.specs.Formed.{IsFormed}
use Rattle.session_wire.specs.declared.messages.Message.{Message}
use Rattle.session_wire.specs.declared.messages.Message.TheVariants as messages
use Rattle.session_wire.specs.Words.{IsWord, EndsWord}
use Rattle.session_wire.specs.Requests.{request_text, next_request_text}
use Rattle.session_wire.specs.Parts.{Then, Begins, StopsAt}
use Rattle.session_wire.specs.Readings.{Reads, HasLeft, WhyStopped}
use Rattle.session_wire.specs.Messages.{message_text, IsMessage, HasMessage}
use Rattle.session_wire.proofs.WordParts.{word_split, bytes_without}
use Rattle.session_wire.proofs.Stops.{stops_behind}
use Rattle.session_wire.proofs.PlaceLaws.{place_behind}
use Rattle.session_wire.proofs.OtherLines.{stops_also, place_spaced}
use Rattle.session_wire.proofs.WordKinds.{cons_is}
use Rattle.session_wire.proofs.Wholes.{IsWhole, stops_in_whole, stops_behind_whole, whole_of}
use Rattle.session_wire.proofs.RequestWords.{same_word, low_third}
use Rattle.session_wire.proofs.RequestTexts.{all_requests}

-- a message behind a space
abbrev next_message_text : Message → List ℕ
next_message_text message = 32 ∷ message_text message

abbrev Asks : List ℕ → Type 0
Asks = IsWhole IsFormed next_request_text

abbrev Says : List ℕ → Type 0
Says = IsWhole IsMessage next_message_text

bye_word : IsWord (codes "bye")
bye_word = bytes_without 32 (codes "bye") refl

-- no request begins with `bye`
no_bye : (t : List ℕ) (q : Request) (r : List ℕ) → EndsWord t → codes "bye" ++ t ≡ request_text q ++ r → ⊥
no_bye t q r end e = low_third (codes "bye") (omega arith) q (same_word (codes "bye") t q r bye_word end e)

asks_says : (t : List ℕ) → Asks t → Says t
asks_says t (q, f, e) = (messages.Ask q, f, e)

says_asks : (word t : List ℕ) → IsWord word → word ≢ codes "bye" → EndsWord t → Says (32 ∷ (word ++ t)) → Asks (32 ∷ (word ++ t))
says_asks word t whole differs end (messages.Ask q, f, e) = (q, f, e)
says_asks word t whole differs end (messages.Bye, f, e) = absurd (differs (word_split word (codes "bye") t [] whole bye_word end tt (cons_is (word ++ t) (codes "bye" ++ []) e)).0)

said_is : (t : List ℕ) → Says (32 ∷ t) → HasMessage t
said_is t (m, f, e) = (m, record { formed = f; spelled = cons_is t (message_text m) e })

is_said : (t : List ℕ) → HasMessage t → Says (32 ∷ t)
is_said t (m, a) = (m, a.formed, ap (λ (y : List ℕ). 32 ∷ y) a.spelled)

ask_left : (word rest : List ℕ) (left : ℕ) → IsWord word → EndsWord rest → word ≢ codes "bye" → StopsAt Asks (32 ∷ (word ++ rest)) left → HasLeft HasMessage (word ++ rest) left
ask_left word rest left whole ends differs s = place_spaced HasMessage Says (word ++ rest) left said_is is_said
    (stops_also Asks Says (32 ∷ (word ++ rest)) word rest left whole ends refl asks_says (λ t end. says_asks word t whole differs end) s)

-- a line that doesn't begin with `bye` is bad where its request stops
pub ask_at_request : (word rest : List ℕ) (left : ℕ) → IsWord word → EndsWord rest → word ≢ codes "bye" → StopsAt (Begins IsFormed next_request_text) (32 ∷ (word ++ rest)) left → HasLeft HasMessage (word ++ rest) left
ask_at_request word rest left whole ends differs s = ask_left word rest left whole ends differs (stops_in_whole IsFormed next_request_text (32 ∷ (word ++ rest)) left refl s)

-- or at something behind it
pub ask_at_end : (word rest : List ℕ) (q : Request) (more : List ℕ) (left : ℕ) → IsWord word → EndsWord rest → word ≢ codes "bye" → Then IsFormed next_request_text (32 ∷ (word ++ rest)) q more → StopsAt (λ r. r ≡ []) more left → HasLeft HasMessage (word ++ rest) left
ask_at_end word rest q more left whole ends differs a s = ask_left word rest left whole ends differs (stops_behind_whole all_requests (32 ∷ (word ++ rest)) q more left a s)

pub ask_from : (word rest : List ℕ) (q : Request) (more : List ℕ) → Then IsFormed next_request_text (32 ∷ (word ++ rest)) q more → more ≡ [] → Reads IsMessage message_text (word ++ rest) (messages.Ask q)
ask_from word rest q more a e = record { formed = a.formed; spelled = cons_is (word ++ rest) (request_text q) (whole_of (32 ∷ (word ++ rest)) q more a e) }

bye_back : (t : List ℕ) → EndsWord t → HasMessage (codes "bye" ++ t) → t ≡ []
bye_back t end (messages.Ask q, a) = absurd (no_bye t q [] end (a.spelled ∙ sym (append-nil (request_text q))))
bye_back t end (messages.Bye, a) = append_cancel_left (codes "bye") t [] a.spelled

-- a line that begins with `bye` is bad at something behind it
pub bye_at_end : (line : List ℕ) (left : ℕ) → EndsWord line → StopsAt (λ r. r ≡ []) line left → StopsAt (λ t. HasMessage (codes "bye" ++ t)) line left
bye_at_end line left ends = stops_behind (λ t. HasMessage (codes "bye" ++ t)) (λ r. r ≡ []) line [] line left refl ends
    (λ t end e. (messages.Bye, record { formed = tt; spelled = ap (λ (y : List ℕ). codes "bye" ++ y) e }))
    bye_back

pub bye_from : (line : List ℕ) → line ≡ [] → Reads IsMessage message_text (codes "bye" ++ line) messages.Bye
bye_from line e = record { formed = tt; spelled = ap (λ (y : List ℕ). codes "bye" ++ y) e }

-- a line stops where what follows its first word does
pub stops_in_bye : (line word rest : List ℕ) (left : ℕ) → line ≡ word ++ rest → word ≡ codes "bye" → StopsAt (λ t. HasMessage (codes "bye" ++ t)) rest left → HasLeft HasMessage line left
stops_in_bye line word rest left e is = place_behind HasMessage line (codes "bye") rest left (e ∙ ap (λ (w : List ℕ). w ++ rest) is)

pub one_message : (one other : Message) → IsMessage one → IsMessage other → message_text one ≡ message_text other → one ≡ other
one_message (messages.Ask p) (messages.Ask q) f g e = ap (λ (x : Request). messages.Ask x) (all_requests.same p q [] [] f g tt tt (ap (λ (y : List ℕ). 32 ∷ (y ++ [])) e)).0
one_message (messages.Ask p) messages.Bye f g e = absurd (no_bye [] p [] tt (sym e ∙ sym (append-nil (request_text p))))
one_message messages.Bye (messages.Ask q) f g e = absurd (no_bye [] q [] tt (e ∙ sym (append-nil (request_text q))))
one_message messages.Bye messages.Bye f g e = refl

-- what is said of the parts of a line is said of the line
pub same_line_stops : {line whole : List ℕ} → line ≡ whole → (r : Result Message Halt) → IfErr r (WhyStopped HasMessage whole) → IfErr r (WhyStopped HasMessage line)
same_line_stops {line} {whole} e r w = subst (λ (l : List ℕ). IfErr r (WhyStopped HasMessage l)) (sym e) w

pub same_line_reads : {line whole : List ℕ} → line ≡ whole → (r : Result Message Halt) → IfOk r (Reads IsMessage message_text whole) → IfOk r (Reads IsMessage message_text line)
same_line_reads {line} {whole} e r w = subst (λ (l : List ℕ). IfOk r (Reads IsMessage message_text l)) (sym e) w
