-- The requests at the front of a line.
use Rattle.std.proofs.Common.{◌≡◌, ◌≢◌, ℕ, ◌+◌, ◌-◌, List, [], ◌∷◌, ◌++◌, length, refl, subst, arith}
use Rattle.std.specs.Prelude.{codes}
use Rattle.std.proofs.lemmas.List.{length-append}
use Rattle.board_items.specs.declared.requests.Request.{Request}
use Rattle.board_items.specs.declared.requests.Request.TheVariants as requests
use Rattle.board_items.specs.Formed.{IsFormed}
use Rattle.session_wire.specs.Words.{IsWord, EndsWord}
use Rattle.session_wire.specs.Requests.{request_text, next_request_text}
use Rattle.session_wire.specs.Places.{Continues}
use Rattle.session_wire.specs.Parts.{Begins, StopsAt}
use Rattle.session_wire.proofs.NumberTexts.{no_cons}
use Rattle.session_wire.proofs.Stops.{some_thing, stops_empty, stops_here}
use Rattle.session_wire.proofs.Things.{IsSpelling}
use Rattle.session_wire.proofs.WordKinds.{cons_is, stops_in_kind, same_kind}
use Rattle.session_wire.proofs.RequestWords.{word_of, same_word}
use Rattle.session_wire.proofs.EditTexts.{edits, edit_formed}
use Rattle.session_wire.proofs.HeldTexts.{reserves, releases}
use Rattle.session_wire.proofs.FenceTexts.{fences, fence_formed, unfences, entitles}
use Rattle.session_wire.proofs.RuleTexts.{rules, rule_formed}

abbrev IsRequest : List ℕ → Type 0
IsRequest = Begins IsFormed next_request_text

abbrev reserve_first : Request
reserve_first = requests.Reserve (record { 0 = 1 })

some_request : Continues IsRequest []
some_request = some_thing IsFormed next_request_text reserve_first (omega arith) refl

no_empty_request : IsRequest [] → ⊥
no_empty_request (q, rest, a) = no_cons a.spelled

-- a line without a word has no request
pub no_request : (line : List ℕ) → line ≡ [] → StopsAt (Begins IsFormed next_request_text) line 0
no_request line e = stops_empty IsRequest line some_request no_empty_request e

-- the word is none of those with which a request begins
pub record BeginsNone (word : List ℕ) : Type 0 where
  pub no_edit : word ≢ codes "edit"
  pub no_reserve : word ≢ codes "reserve"
  pub no_release : word ≢ codes "release"
  pub no_fence : word ≢ codes "fence"
  pub no_unfence : word ≢ codes "unfence"
  pub no_entitle : word ≢ codes "entitle"
  pub no_rule : word ≢ codes "rule"

no_word : (word : List ℕ) → BeginsNone word → (q : Request) → word ≢ word_of q
no_word word none (requests.Edit deletes adds) = none.no_edit
no_word word none (requests.Reserve id) = none.no_reserve
no_word word none (requests.Release id) = none.no_release
no_word word none (requests.Fence layers area clients) = none.no_fence
no_word word none (requests.Unfence fence) = none.no_unfence
no_word word none (requests.Entitle fence client) = none.no_entitle
no_word word none (requests.Rule class clearance) = none.no_rule

-- a word that begins no request
bad_request : (line word rest : List ℕ) → IsWord word → EndsWord rest → line ≡ 32 ∷ (word ++ rest) → BeginsNone word → StopsAt (Begins IsFormed next_request_text) line (length line - 1)
bad_request line word rest whole ends e none = stops_here IsRequest line word rest some_request whole ends e
    (λ t end is.
    let (q, r, a) = is in
    no_word word none q (same_word word t q r whole end (cons_is (word ++ t) (request_text q ++ r) a.spelled)))

pub bad_request_left : (word rest : List ℕ) → IsWord word → EndsWord rest → BeginsNone word → StopsAt (Begins IsFormed next_request_text) (32 ∷ (word ++ rest)) (length word + length rest)
bad_request_left word rest whole ends none =
    let long : length (32 ∷ (word ++ rest)) - 1 ≡ length word + length rest = let sum = length-append word rest in omega (arith, sum) in
    subst (λ (n : ℕ). StopsAt IsRequest (32 ∷ (word ++ rest)) n) long (bad_request (32 ∷ (word ++ rest)) word rest whole ends refl none)

-- a request stops where what follows its word does
pub stops_in_request : (kind line word rest : List ℕ) (left : ℕ) → EndsWord rest → line ≡ 32 ∷ (word ++ rest) → word ≡ kind → StopsAt (λ t. Begins IsFormed next_request_text (32 ∷ (kind ++ t))) rest left → StopsAt (Begins IsFormed next_request_text) line left
stops_in_request kind line word rest left ends e is s = stops_in_kind IsFormed request_text kind line word rest left ends e is s

same_of : (p q : Request) (r s : List ℕ) → IsFormed p → IsFormed q → EndsWord r → EndsWord s → request_text p ++ r ≡ request_text q ++ s → (p ≡ q) × (r ≡ s)
same_of (requests.Edit ds more) q r s f g stop end e = same_kind edits (ds, more) q r s (edit_formed ds more f) g stop end e
same_of (requests.Reserve id) q r s f g stop end e = same_kind reserves id.0 q r s f g stop end e
same_of (requests.Release id) q r s f g stop end e = same_kind releases id.0 q r s f g stop end e
same_of (requests.Fence ls ps cs) q r s f g stop end e = same_kind fences (ls, (ps, cs)) q r s (fence_formed ls ps cs f) g stop end e
same_of (requests.Unfence fence) q r s f g stop end e = same_kind unfences fence q r s f g stop end e
same_of (requests.Entitle fence client) q r s f g stop end e = same_kind entitles (fence, client) q r s f g stop end e
same_of (requests.Rule class clearance) q r s f g stop end e = same_kind rules (class, clearance) q r s (rule_formed class clearance f) g stop end e

same_request : (p q : Request) (r s : List ℕ) → IsFormed p → IsFormed q → EndsWord r → EndsWord s → next_request_text p ++ r ≡ next_request_text q ++ s → (p ≡ q) × (r ≡ s)
same_request p q r s f g stop end e = same_of p q r s f g stop end (cons_is (request_text p ++ r) (request_text q ++ s) e)

-- each request has one text
pub all_requests : IsSpelling IsFormed next_request_text
all_requests = record { sample = reserve_first; fits = omega arith; first = λ q r stop. refl; same = same_request }
