-- The edits at the front of a line, behind their word.
use Rattle.std.proofs.Common.{◌≡◌, ℕ, List, ◌++◌, refl, arith}
use Rattle.std.specs.Prelude.{codes}
use Rattle.board_items.specs.declared.requests.Add.{Add}
use Rattle.board_items.specs.declared.requests.Request.{Request}
use Rattle.board_items.specs.declared.requests.Request.TheVariants as requests
use Rattle.board_items.specs.Formed.{IsFormed, IsFormedAdd, IsFormedEdit}
use Rattle.row_lists.specs.Limits.{delete_limit, add_limit}
use Rattle.session_wire.specs.Words.{EndsWord}
use Rattle.session_wire.specs.Numbers.{number_text, IsId}
use Rattle.session_wire.specs.Adds.{next_add_text}
use Rattle.session_wire.specs.Requests.{request_text, next_request_text}
use Rattle.session_wire.specs.Parts.{Then, Begins, AreCounted, CountedThen, counted_text, StopsAt}
use Rattle.session_wire.proofs.WordParts.{bytes_without}
use Rattle.session_wire.proofs.PointTexts.{ids}
use Rattle.session_wire.proofs.AddTexts.{all_adds}
use Rattle.session_wire.proofs.Things.{IsSpelling, all_counted}
use Rattle.session_wire.proofs.Pairs.{AreBoth, both_text, both_then, stops_at_first, stops_at_second, both}
use Rattle.session_wire.proofs.WordKinds.{IsMade, IsKind, kind_then, in_kind}
use Rattle.session_wire.proofs.RequestWords.{word_of, third, request_kind}

abbrev pub AreDeletes : List ℕ → Type 0
AreDeletes = AreCounted 0 delete_limit IsId

abbrev pub deletes_text : List ℕ → List ℕ
deletes_text = counted_text number_text

abbrev pub AreAdds : List Add → Type 0
AreAdds = AreCounted 0 add_limit IsFormedAdd

abbrev pub adds_text : List Add → List ℕ
adds_text = counted_text next_add_text

deletes : IsSpelling AreDeletes deletes_text
deletes = all_counted ids 0 delete_limit (omega arith) (omega arith)

more_adds : IsSpelling AreAdds adds_text
more_adds = all_counted all_adds 0 add_limit (omega arith) (omega arith)

abbrev pub make_edit : (List ℕ × List Add) → Request
make_edit x = requests.Edit x.0 x.1

pub edit_formed : (ds : List ℕ) (more : List Add) → IsFormedEdit ds more → AreBoth AreDeletes AreAdds (ds, more)
edit_formed ds more f = (record { enough = omega arith; fit = f.deletes_fit; formed = f.numbers_fit }, record { enough = omega arith; fit = f.adds_fit; formed = f.formed })

edit_made : (q : Request) → IsFormed q → codes "edit" ≡ word_of q → IsMade (AreBoth AreDeletes AreAdds) make_edit q
edit_made (requests.Edit ds more) f e = record { thing = (ds, more); formed = edit_formed ds more f; is = refl }
edit_made q f e = absurd (omega (arith, third (codes "edit") (word_of q) e))

pub edits : IsKind IsFormed request_text (AreBoth AreDeletes AreAdds) (both_text deletes_text adds_text) (codes "edit") make_edit
edits = request_kind (AreBoth AreDeletes AreAdds) (both_text deletes_text adds_text) (codes "edit") make_edit (both deletes more_adds) (bytes_without 32 (codes "edit") refl)
    (λ x f. record { deletes_fit = f.0.fit; numbers_fit = f.0.formed; adds_fit = f.1.fit; formed = f.1.formed })
    (λ x. refl)
    edit_made

-- an edit stops where its deletes do
pub edit_at_deletes : (line : List ℕ) (left : ℕ) → EndsWord line → StopsAt (Begins (AreCounted 0 delete_limit IsId) (counted_text number_text)) line left → StopsAt (λ t. Begins IsFormed next_request_text (codes " edit" ++ t)) line left
edit_at_deletes line left ends s = in_kind edits line left ends (stops_at_first deletes more_adds line left ends s)

-- or its adds
pub edit_at_adds : (line ds rest : List ℕ) (left : ℕ) → EndsWord line → CountedThen IsId number_text 0 delete_limit line ds rest → StopsAt (Begins (AreCounted 0 add_limit IsFormedAdd) (counted_text next_add_text)) rest left → StopsAt (λ t. Begins IsFormed next_request_text (codes " edit" ++ t)) line left
edit_at_adds line ds rest left ends a s = in_kind edits line left ends (stops_at_second deletes more_adds line ds rest left a s)

-- the edit of these deletes and adds
pub edit_from : (line ds mid : List ℕ) (more : List Add) (rest : List ℕ) → CountedThen IsId number_text 0 delete_limit line ds mid → CountedThen IsFormedAdd next_add_text 0 add_limit mid more rest → Then IsFormed next_request_text (codes " edit" ++ line) (requests.Edit ds more) rest
edit_from line ds mid more rest a b = kind_then edits line (ds, more) rest (both_then AreDeletes AreAdds deletes_text adds_text line mid rest ds more a b)
