-- The acts at the front of a line.
use Rattle.std.proofs.Common.{◌≡◌, ◌≢◌, ℕ, List, [], ◌∷◌, ◌++◌, refl, sym, ap, ◌∙◌, subst, arith}
use Rattle.std.specs.Prelude.{codes}
use Rattle.std.proofs.lemmas.List.{append_cancel_left}
use Rattle.board_items.specs.declared.history.Act.{Act}
use Rattle.board_items.specs.declared.history.Act.TheVariants as acts
use Rattle.board_items.specs.declared.requests.Request.{Request}
use Rattle.board_items.specs.Formed.{IsFormed, IsFormedAct}
use Rattle.session_wire.specs.Words.{IsWord, EndsWord}
use Rattle.session_wire.specs.Requests.{request_text, next_request_text}
use Rattle.session_wire.specs.EntryLines.{next_act_text}
use Rattle.session_wire.specs.Places.{Continues}
use Rattle.session_wire.specs.Parts.{Then, Begins, StopsAt}
use Rattle.session_wire.proofs.WordParts.{word_split, bytes_without}
use Rattle.session_wire.proofs.NumberTexts.{no_cons}
use Rattle.session_wire.proofs.Stops.{some_thing, stops_empty, behind_word}
use Rattle.session_wire.proofs.OtherLines.{stops_also}
use Rattle.session_wire.proofs.Things.{IsSpelling}
use Rattle.session_wire.proofs.WordKinds.{cons_is}
use Rattle.session_wire.proofs.RequestWords.{same_word, low_third}
use Rattle.session_wire.proofs.RequestTexts.{all_requests}

abbrev IsActLine : List ℕ → Type 0
IsActLine = Begins IsFormedAct next_act_text

abbrev IsRequestLine : List ℕ → Type 0
IsRequestLine = Begins IsFormed next_request_text

leave_word : IsWord (codes "leave")
leave_word = bytes_without 32 (codes "leave") refl

-- no request begins with `leave`
no_leave : (t : List ℕ) (q : Request) (r : List ℕ) → EndsWord t → codes "leave" ++ t ≡ request_text q ++ r → ⊥
no_leave t q r end e = low_third (codes "leave") (omega arith) q (same_word (codes "leave") t q r leave_word end e)

some_act : Continues IsActLine []
some_act = some_thing IsFormedAct next_act_text acts.Leave tt refl

no_empty_act : IsActLine [] → ⊥
no_empty_act (act, rest, a) = no_cons a.spelled

-- a line without a word has no act
pub no_act : (line : List ℕ) → line ≡ [] → StopsAt (Begins IsFormedAct next_act_text) line 0
no_act line e = stops_empty IsActLine line some_act no_empty_act e

request_act : (t : List ℕ) → IsRequestLine t → IsActLine t
request_act t (q, r, a) = (acts.Ask q, r, record { formed = a.formed; ends = a.ends; spelled = a.spelled })

act_request : (word t : List ℕ) → IsWord word → word ≢ codes "leave" → EndsWord t → IsActLine (32 ∷ (word ++ t)) → IsRequestLine (32 ∷ (word ++ t))
act_request word t whole differs end (acts.Ask q, r, a) = (q, r, record { formed = a.formed; ends = a.ends; spelled = a.spelled })
act_request word t whole differs end (acts.Leave, r, a) = absurd (differs (word_split word (codes "leave") t r whole leave_word end a.ends (cons_is (word ++ t) (codes "leave" ++ r) a.spelled)).0)

-- an act that isn't a leave stops where its request does
pub act_at_request : (line word rest : List ℕ) (left : ℕ) → IsWord word → EndsWord rest → line ≡ 32 ∷ (word ++ rest) → word ≢ codes "leave" → StopsAt (Begins IsFormed next_request_text) (32 ∷ (word ++ rest)) left → StopsAt (Begins IsFormedAct next_act_text) line left
act_at_request line word rest left whole ends e differs s = stops_also IsRequestLine IsActLine line word rest left whole ends e request_act (λ t end. act_request word t whole differs end) (subst (λ (l : List ℕ). StopsAt IsRequestLine l left) (sym e) s)

pub act_from : (line word rest : List ℕ) (q : Request) (more : List ℕ) → line ≡ 32 ∷ (word ++ rest) → Then IsFormed next_request_text (32 ∷ (word ++ rest)) q more → Then IsFormedAct next_act_text line (acts.Ask q) more
act_from line word rest q more e a = record { formed = a.formed; ends = a.ends; spelled = e ∙ a.spelled }

pub leave_act : (line word rest : List ℕ) → EndsWord rest → line ≡ 32 ∷ (word ++ rest) → word ≡ codes "leave" → Then IsFormedAct next_act_text line acts.Leave rest
leave_act line word rest ends e is = record { formed = tt; ends = ends; spelled = behind_word line word rest (codes "leave") e is }

same_act : (a b : Act) (r s : List ℕ) → IsFormedAct a → IsFormedAct b → EndsWord r → EndsWord s → next_act_text a ++ r ≡ next_act_text b ++ s → (a ≡ b) × (r ≡ s)
same_act (acts.Ask p) (acts.Ask q) r s f g stop end e = let same = all_requests.same p q r s f g stop end e in (ap (λ (x : Request). acts.Ask x) same.0, same.1)
same_act (acts.Ask p) acts.Leave r s f g stop end e = absurd (no_leave s p r end (sym (cons_is (request_text p ++ r) (codes "leave" ++ s) e)))
same_act acts.Leave (acts.Ask q) r s f g stop end e = absurd (no_leave r q s stop (cons_is (codes "leave" ++ r) (request_text q ++ s) e))
same_act acts.Leave acts.Leave r s f g stop end e = (refl, append_cancel_left (codes " leave") r s e)

-- each act has one text
pub all_acts : IsSpelling IsFormedAct next_act_text
all_acts = record { sample = acts.Leave; fits = tt; first = λ a r stop. refl; same = same_act }
