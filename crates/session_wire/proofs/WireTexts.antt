-- The wires at the front of a line, behind their word.
use Rattle.std.proofs.Common.{◌≡◌, ℕ, List, [], ◌++◌, refl, sym, ap, ◌∙◌, arith, append_assoc}
use Rattle.std.specs.Prelude.{codes}
use Rattle.seg_geometry.specs.Points.{IsInRange}
use Rattle.seg_geometry.specs.declared.points.Pt.{Pt}
use Rattle.board_items.specs.declared.requests.Add.TheVariants as adds
use Rattle.board_items.specs.Formed.{IsFormedWire, IsFormedAdd}
use Rattle.row_lists.specs.Limits.{wire_point_limit}
use Rattle.session_wire.specs.Words.{EndsWord}
use Rattle.session_wire.specs.Numbers.{number_text, IsId}
use Rattle.session_wire.specs.Points.{point_text}
use Rattle.session_wire.specs.Adds.{next_add_text}
use Rattle.session_wire.specs.Parts.{Then, Begins, AreCounted, CountedThen, counted_text, StopsAt}
use Rattle.session_wire.proofs.NumberTexts.{same_number}
use Rattle.session_wire.proofs.Stops.{stops_at_thing}
use Rattle.session_wire.proofs.AddParts.{ArePoints, points_text, IsWidth, counted, from_width, from_layer, from_net, Wires, wire_of, points_of, wire_formed, wire_spelled, two_numbers, behind_two}

-- a wire stops where its net does
pub wire_at_net : (line : List ℕ) (left : ℕ) → EndsWord line → StopsAt (Begins IsId number_text) line left → StopsAt Wires line left
wire_at_net line left ends = stops_at_thing IsId number_text Wires line [] line left refl ends
    (λ net f.
    let ps = counted.sample in
    (from_layer 0 1 ps [], refl, (adds.Wire net 0 1 ps, [], wire_spelled (from_net net 0 1 ps []) net 0 1 ps [] (wire_formed net 0 1 ps f (omega arith) (omega arith, omega arith) counted.fits) tt refl)))
    (λ t end is.
    let w = wire_of t is in
    (w.net, from_layer w.layer w.width w.ps w.rest, record { formed = w.formed.net_fits; ends = refl; spelled = w.parts }))

-- or its layer
pub wire_at_layer : (line : List ℕ) (net : ℕ) (rest : List ℕ) (left : ℕ) → Then IsId number_text line net rest → StopsAt (Begins IsId number_text) rest left → StopsAt Wires line left
wire_at_layer line net rest left a = stops_at_thing IsId number_text Wires line (number_text net) rest left a.spelled a.ends
    (λ layer f.
    let ps = counted.sample in
    (from_width 1 ps [], refl, (adds.Wire net layer 1 ps, [], wire_spelled (from_net net layer 1 ps []) net layer 1 ps [] (wire_formed net layer 1 ps a.formed f (omega arith, omega arith) counted.fits) tt refl)))
    (λ t end is.
    let w = wire_of (number_text net ++ t) is in
    let same = same_number net w.net t (from_layer w.layer w.width w.ps w.rest) a.formed w.formed.net_fits end refl w.parts in
    (w.layer, from_width w.width w.ps w.rest, record { formed = w.formed.layer_fits; ends = refl; spelled = same.1 }))

-- or its width
pub wire_at_width : (line : List ℕ) (net layer : ℕ) (from rest : List ℕ) (left : ℕ) → Then IsId number_text line net from → Then IsId number_text from layer rest → StopsAt (Begins IsWidth number_text) rest left → StopsAt Wires line left
wire_at_width line net layer from rest left a b = stops_at_thing IsWidth number_text Wires line (number_text net ++ number_text layer) rest left (two_numbers line net layer from rest a b) b.ends
    (λ width f.
    let ps = counted.sample in
    let t = points_text ps ++ [] in
    (t, refl, (adds.Wire net layer width ps, [], wire_spelled ((number_text net ++ number_text layer) ++ (number_text width ++ t)) net layer width ps [] (wire_formed net layer width ps a.formed b.formed f counted.fits) tt (behind_two net layer (number_text width ++ t)))))
    (λ t end is.
    let w = wire_of ((number_text net ++ number_text layer) ++ t) is in
    let one = same_number net w.net (number_text layer ++ t) (from_layer w.layer w.width w.ps w.rest) a.formed w.formed.net_fits refl refl (sym (behind_two net layer t) ∙ w.parts) in
    let two = same_number layer w.layer t (from_width w.width w.ps w.rest) b.formed w.formed.layer_fits end refl one.1 in
    (w.width, points_text w.ps ++ w.rest, record { formed = (w.formed.some_width, w.formed.width_fits); ends = refl; spelled = two.1 }))

three_numbers : (line : List ℕ) (net layer width : ℕ) (from mid rest : List ℕ) → Then IsId number_text line net from → Then IsId number_text from layer mid → Then IsWidth number_text mid width rest → line ≡ (number_text net ++ (number_text layer ++ number_text width)) ++ rest
three_numbers line net layer width from mid rest a b c =
    a.spelled
    ∙ ap (λ (t : List ℕ). number_text net ++ t) (b.spelled ∙ ap (λ (t : List ℕ). number_text layer ++ t) c.spelled ∙ sym (append_assoc (number_text layer) (number_text width) rest))
    ∙ sym (append_assoc (number_text net) (number_text layer ++ number_text width) rest)

behind_three : (net layer width : ℕ) (t : List ℕ) → (number_text net ++ (number_text layer ++ number_text width)) ++ t ≡ number_text net ++ (number_text layer ++ (number_text width ++ t))
behind_three net layer width t = append_assoc (number_text net) (number_text layer ++ number_text width) t ∙ ap (λ (s : List ℕ). number_text net ++ s) (append_assoc (number_text layer) (number_text width) t)

-- or its points
pub wire_at_points : (line : List ℕ) (net layer width : ℕ) (from mid rest : List ℕ) (left : ℕ) → Then IsId number_text line net from → Then IsId number_text from layer mid → Then IsWidth number_text mid width rest → StopsAt (Begins (AreCounted 2 wire_point_limit IsInRange) (counted_text point_text)) rest left → StopsAt Wires line left
wire_at_points line net layer width from mid rest left a b c = stops_at_thing ArePoints points_text Wires line (number_text net ++ (number_text layer ++ number_text width)) rest left (three_numbers line net layer width from mid rest a b c) c.ends
    (λ ps f.
    ([], tt, (adds.Wire net layer width ps, [], wire_spelled ((number_text net ++ (number_text layer ++ number_text width)) ++ (points_text ps ++ [])) net layer width ps [] (wire_formed net layer width ps a.formed b.formed c.formed f) tt (behind_three net layer width (points_text ps ++ [])))))
    (λ t end is.
    let w = wire_of ((number_text net ++ (number_text layer ++ number_text width)) ++ t) is in
    let one = same_number net w.net (number_text layer ++ (number_text width ++ t)) (from_layer w.layer w.width w.ps w.rest) a.formed w.formed.net_fits refl refl (sym (behind_three net layer width t) ∙ w.parts) in
    let two = same_number layer w.layer (number_text width ++ t) (from_width w.width w.ps w.rest) b.formed w.formed.layer_fits refl refl one.1 in
    let three = same_number width w.width t (points_text w.ps ++ w.rest) (omega (arith, c.formed.1)) (omega (arith, w.formed.width_fits)) end refl two.1 in
    (w.ps, w.rest, record { formed = points_of w.net w.layer w.width w.ps w.formed; ends = w.ends; spelled = three.1 }))

-- the wire of these numbers and points
pub wire_from : (line : List ℕ) (net layer width : ℕ) (ps : List Pt) (from mid last rest : List ℕ) → Then IsId number_text line net from → Then IsId number_text from layer mid → Then IsWidth number_text mid width last → CountedThen IsInRange point_text 2 wire_point_limit last ps rest → Then IsFormedAdd next_add_text (codes " wire" ++ line) (adds.Wire net layer width ps) rest
wire_from line net layer width ps from mid last rest a b c d = wire_spelled line net layer width ps rest (wire_formed net layer width ps a.formed b.formed c.formed d.formed) d.ends
    (three_numbers line net layer width from mid last a b c ∙ ap (λ (t : List ℕ). (number_text net ++ (number_text layer ++ number_text width)) ++ t) d.spelled ∙ behind_three net layer width (points_text ps ++ rest))

-- each wire has one text
pub same_wire : (net net' layer layer' width width' : ℕ) (ps qs : List Pt) (r s : List ℕ) → IsFormedWire net layer width ps → IsFormedWire net' layer' width' qs → EndsWord r → EndsWord s → from_net net layer width ps r ≡ from_net net' layer' width' qs s → (adds.Wire net layer width ps ≡ adds.Wire net' layer' width' qs) × (r ≡ s)
same_wire net net' layer layer' width width' ps qs r s f g stop end e =
    let one = same_number net net' (from_layer layer width ps r) (from_layer layer' width' qs s) f.net_fits g.net_fits refl refl e in
    let two = same_number layer layer' (from_width width ps r) (from_width width' qs s) f.layer_fits g.layer_fits refl refl one.1 in
    let three = same_number width width' (points_text ps ++ r) (points_text qs ++ s) (omega (arith, f.width_fits)) (omega (arith, g.width_fits)) refl refl two.1 in
    let four = counted.same ps qs r s (points_of net layer width ps f) (points_of net' layer' width' qs g) stop end three.1 in
    let a : net ≡ net' = one.0 in
    let b : layer ≡ layer' = two.0 in
    let c : width ≡ width' = three.0 in
    let d : ps ≡ qs = four.0 in
    (cc, four.1)
