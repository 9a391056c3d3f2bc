-- The vias at the front of a line, behind their word.
use Rattle.std.proofs.Common.{◌≡◌, ℕ, List, [], ◌++◌, refl, sym, ap, ◌∙◌, arith}
use Rattle.std.specs.Prelude.{codes}
use Rattle.seg_geometry.specs.Points.{IsInRange}
use Rattle.seg_geometry.specs.declared.points.Pt.{Pt}
use Rattle.board_items.specs.declared.requests.Add.TheVariants as adds
use Rattle.board_items.specs.Formed.{IsFormedVia, IsFormedAdd}
use Rattle.session_wire.specs.Words.{EndsWord}
use Rattle.session_wire.specs.Numbers.{number_text, IsId}
use Rattle.session_wire.specs.Points.{point_text}
use Rattle.session_wire.specs.Adds.{next_add_text}
use Rattle.session_wire.specs.Parts.{Then, Begins, StopsAt}
use Rattle.session_wire.proofs.NumberTexts.{same_number}
use Rattle.session_wire.proofs.PointTexts.{points}
use Rattle.session_wire.proofs.Stops.{stops_at_thing}
use Rattle.session_wire.proofs.AddParts.{from_padstack, from_via, Vias, via_of, via_spelled, two_numbers, behind_two}

-- a via stops where its net does
pub via_at_net : (line : List ℕ) (left : ℕ) → EndsWord line → StopsAt (Begins IsId number_text) line left → StopsAt Vias line left
via_at_net line left ends = stops_at_thing IsId number_text Vias line [] line left refl ends
    (λ net f.
    let p = points.sample in
    (from_padstack 0 p [], refl, (adds.Via net 0 p, [], via_spelled (from_via net 0 p []) net 0 p [] (record { net_fits = f; padstack_fits = omega arith; in_range = points.fits }) tt refl)))
    (λ t end is.
    let v = via_of t is in
    (v.net, from_padstack v.padstack v.place v.rest, record { formed = v.formed.net_fits; ends = refl; spelled = v.parts }))

-- or its padstack
pub via_at_padstack : (line : List ℕ) (net : ℕ) (rest : List ℕ) (left : ℕ) → Then IsId number_text line net rest → StopsAt (Begins IsId number_text) rest left → StopsAt Vias line left
via_at_padstack line net rest left a = stops_at_thing IsId number_text Vias line (number_text net) rest left a.spelled a.ends
    (λ padstack f.
    let p = points.sample in
    (point_text p ++ [], refl, (adds.Via net padstack p, [], via_spelled (from_via net padstack p []) net padstack p [] (record { net_fits = a.formed; padstack_fits = f; in_range = points.fits }) tt refl)))
    (λ t end is.
    let v = via_of (number_text net ++ t) is in
    let same = same_number net v.net t (from_padstack v.padstack v.place v.rest) a.formed v.formed.net_fits end refl v.parts in
    (v.padstack, point_text v.place ++ v.rest, record { formed = v.formed.padstack_fits; ends = refl; spelled = same.1 }))

-- or its place
pub via_at_place : (line : List ℕ) (net padstack : ℕ) (from rest : List ℕ) (left : ℕ) → Then IsId number_text line net from → Then IsId number_text from padstack rest → StopsAt (Begins IsInRange point_text) rest left → StopsAt Vias line left
via_at_place line net padstack from rest left a b = stops_at_thing IsInRange point_text Vias line (number_text net ++ number_text padstack) rest left (two_numbers line net padstack from rest a b) b.ends
    (λ p f.
    ([], tt, (adds.Via net padstack p, [], via_spelled ((number_text net ++ number_text padstack) ++ (point_text p ++ [])) net padstack p [] (record { net_fits = a.formed; padstack_fits = b.formed; in_range = f }) tt (behind_two net padstack (point_text p ++ [])))))
    (λ t end is.
    let v = via_of ((number_text net ++ number_text padstack) ++ t) is in
    let one = same_number net v.net (number_text padstack ++ t) (from_padstack v.padstack v.place v.rest) a.formed v.formed.net_fits refl refl (sym (behind_two net padstack t) ∙ v.parts) in
    let two = same_number padstack v.padstack t (point_text v.place ++ v.rest) b.formed v.formed.padstack_fits end refl one.1 in
    (v.place, v.rest, record { formed = v.formed.in_range; ends = v.ends; spelled = two.1 }))

-- the via of these numbers
pub via_from : (line : List ℕ) (net padstack : ℕ) (p : Pt) (from mid rest : List ℕ) → Then IsId number_text line net from → Then IsId number_text from padstack mid → Then IsInRange point_text mid p rest → Then IsFormedAdd next_add_text (codes " via" ++ line) (adds.Via net padstack p) rest
via_from line net padstack p from mid rest a b c = via_spelled line net padstack p rest (record { net_fits = a.formed; padstack_fits = b.formed; in_range = c.formed }) c.ends
    (two_numbers line net padstack from mid a b ∙ ap (λ (t : List ℕ). (number_text net ++ number_text padstack) ++ t) c.spelled ∙ behind_two net padstack (point_text p ++ rest))

-- each via has one text
pub same_via : (net net' padstack padstack' : ℕ) (p q : Pt) (r s : List ℕ) → IsFormedVia net padstack p → IsFormedVia net' padstack' q → EndsWord r → EndsWord s → from_via net padstack p r ≡ from_via net' padstack' q s → (adds.Via net padstack p ≡ adds.Via net' padstack' q) × (r ≡ s)
same_via net net' padstack padstack' p q r s f g stop end e =
    let one = same_number net net' (from_padstack padstack p r) (from_padstack padstack' q s) f.net_fits g.net_fits refl refl e in
    let two = same_number padstack padstack' (point_text p ++ r) (point_text q ++ s) f.padstack_fits g.padstack_fits refl refl one.1 in
    let three = points.same p q r s f.in_range g.in_range stop end two.1 in
    let a : net ≡ net' = one.0 in
    let b : padstack ≡ padstack' = two.0 in
    let c : p ≡ q = three.0 in
    (cc, three.1)
