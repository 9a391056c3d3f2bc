-- The requests that name one item, behind their words.
use Rattle.std.proofs.Common.{◌≡◌, ℕ, List, ◌++◌, refl, arith}
use Rattle.std.specs.Prelude.{codes}
use Rattle.board_items.specs.declared.requests.Request.{Request}
use Rattle.board_items.specs.declared.requests.Request.TheVariants as requests
use Rattle.board_items.specs.Formed.{IsFormed}
use Rattle.session_wire.specs.Words.{EndsWord}
use Rattle.session_wire.specs.Numbers.{number_text, IsId}
use Rattle.session_wire.specs.Requests.{request_text, next_request_text}
use Rattle.session_wire.specs.Parts.{Then, Begins, StopsAt}
use Rattle.session_wire.proofs.WordParts.{bytes_without}
use Rattle.session_wire.proofs.PointTexts.{ids}
use Rattle.session_wire.proofs.WordKinds.{IsMade, IsKind, kind_then, in_kind}
use Rattle.session_wire.proofs.RequestWords.{word_of, third, second, request_kind}

abbrev pub make_reserve : ℕ → Request
make_reserve n = requests.Reserve (record { 0 = n })

abbrev pub make_release : ℕ → Request
make_release n = requests.Release (record { 0 = n })

reserve_made : (q : Request) → IsFormed q → codes "reserve" ≡ word_of q → IsMade IsId make_reserve q
reserve_made (requests.Reserve id) f e = record { thing = id.0; formed = f; is = refl }
reserve_made q f e = absurd (omega (arith, third (codes "reserve") (word_of q) e))

release_made : (q : Request) → IsFormed q → codes "release" ≡ word_of q → IsMade IsId make_release q
release_made (requests.Release id) f e = record { thing = id.0; formed = f; is = refl }
release_made q f e = absurd (omega (arith, third (codes "release") (word_of q) e, second (codes "release") (word_of q) e))

pub reserves : IsKind IsFormed request_text IsId number_text (codes "reserve") make_reserve
reserves = request_kind IsId number_text (codes "reserve") make_reserve ids (bytes_without 32 (codes "reserve") refl) (λ x f. f) (λ x. refl) reserve_made

pub releases : IsKind IsFormed request_text IsId number_text (codes "release") make_release
releases = request_kind IsId number_text (codes "release") make_release ids (bytes_without 32 (codes "release") refl) (λ x f. f) (λ x. refl) release_made

-- each stops where its number does
pub reserve_stops : (line : List ℕ) (left : ℕ) → EndsWord line → StopsAt (Begins IsId number_text) line left → StopsAt (λ t. Begins IsFormed next_request_text (codes " reserve" ++ t)) line left
reserve_stops line left ends s = in_kind reserves line left ends s

pub release_stops : (line : List ℕ) (left : ℕ) → EndsWord line → StopsAt (Begins IsId number_text) line left → StopsAt (λ t. Begins IsFormed next_request_text (codes " release" ++ t)) line left
release_stops line left ends s = in_kind releases line left ends s

pub reserve_from : (line : List ℕ) (id : ℕ) (rest : List ℕ) → Then IsId number_text line id rest → Then IsFormed next_request_text (codes " reserve" ++ line) (requests.Reserve (record { 0 = id })) rest
reserve_from line id rest a = kind_then reserves line id rest a

pub release_from : (line : List ℕ) (id : ℕ) (rest : List ℕ) → Then IsId number_text line id rest → Then IsFormed next_request_text (codes " release" ++ line) (requests.Release (record { 0 = id })) rest
release_from line id rest a = kind_then releases line id rest a
