-- The request that changes a clearance, behind its word.
use Rattle.std.proofs.Common.{◌≡◌, ℕ, List, ◌++◌, refl, arith}
use Rattle.std.specs.Prelude.{codes}
use Rattle.board_items.specs.declared.requests.Request.{Request}
use Rattle.board_items.specs.declared.requests.Request.TheVariants as requests
use Rattle.board_items.specs.Formed.{IsFormed}
use Rattle.row_lists.specs.Limits.{width_limit_nm}
use Rattle.session_wire.specs.Words.{EndsWord}
use Rattle.session_wire.specs.Numbers.{number_text, IsId, IsBetween}
use Rattle.session_wire.specs.Requests.{request_text, next_request_text}
use Rattle.session_wire.specs.Parts.{Then, Begins, StopsAt}
use Rattle.session_wire.proofs.WordParts.{bytes_without}
use Rattle.session_wire.proofs.PointTexts.{ids, betweens}
use Rattle.session_wire.proofs.Things.{IsSpelling}
use Rattle.session_wire.proofs.Pairs.{AreBoth, both_text, both_then, stops_at_first, stops_at_second, both}
use Rattle.session_wire.proofs.WordKinds.{IsMade, IsKind, kind_then, in_kind}
use Rattle.session_wire.proofs.RequestWords.{word_of, second, request_kind}

abbrev pub IsClearance : ℕ → Type 0
IsClearance = IsBetween 0 width_limit_nm

clearances : IsSpelling IsClearance number_text
clearances = betweens 0 width_limit_nm (omega arith) (omega arith)

abbrev pub make_rule : (ℕ × ℕ) → Request
make_rule x = requests.Rule x.0 x.1

pub rule_formed : (class clearance : ℕ) → IsFormed (requests.Rule class clearance) → AreBoth IsId IsClearance (class, clearance)
rule_formed class clearance f = (f.0, (omega arith, f.1))

rule_made : (q : Request) → IsFormed q → codes "rule" ≡ word_of q → IsMade (AreBoth IsId IsClearance) make_rule q
rule_made (requests.Rule class clearance) f e = record { thing = (class, clearance); formed = rule_formed class clearance f; is = refl }
rule_made q f e = absurd (omega (arith, second (codes "rule") (word_of q) e))

pub rules : IsKind IsFormed request_text (AreBoth IsId IsClearance) (both_text number_text number_text) (codes "rule") make_rule
rules = request_kind (AreBoth IsId IsClearance) (both_text number_text number_text) (codes "rule") make_rule (both ids clearances) (bytes_without 32 (codes "rule") refl) (λ x f. (f.0, f.1.1)) (λ x. refl) rule_made

-- a changed clearance stops where its class does
pub rule_at_class : (line : List ℕ) (left : ℕ) → EndsWord line → StopsAt (Begins IsId number_text) line left → StopsAt (λ t. Begins IsFormed next_request_text (codes " rule" ++ t)) line left
rule_at_class line left ends s = in_kind rules line left ends (stops_at_first ids clearances line left ends s)

-- or its length
pub rule_at_clearance : (line : List ℕ) (class : ℕ) (rest : List ℕ) (left : ℕ) → EndsWord line → Then IsId number_text line class rest → StopsAt (Begins (IsBetween 0 width_limit_nm) number_text) rest left → StopsAt (λ t. Begins IsFormed next_request_text (codes " rule" ++ t)) line left
rule_at_clearance line class rest left ends a s = in_kind rules line left ends (stops_at_second ids clearances line class rest left a s)

-- the clearance of this class
pub rule_from : (line : List ℕ) (class clearance : ℕ) (mid rest : List ℕ) → Then IsId number_text line class mid → Then (IsBetween 0 width_limit_nm) number_text mid clearance rest → Then IsFormed next_request_text (codes " rule" ++ line) (requests.Rule class clearance) rest
rule_from line class clearance mid rest a b = kind_then rules line (class, clearance) rest (both_then IsId IsClearance number_text number_text line mid rest class clearance a b)
