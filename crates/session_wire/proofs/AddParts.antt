-- What the texts of wires and vias are made of.
use Rattle.std.proofs.Common.{◌≡◌, ◌≢◌, ℕ, List, ◌∷◌, ◌++◌, sym, ap, ◌∙◌, arith, append_assoc}
use Rattle.std.specs.Prelude.{codes}
use Rattle.std.proofs.lemmas.List.{append_cancel_left}
use Rattle.seg_geometry.specs.Points.{IsInRange}
use Rattle.seg_geometry.specs.declared.points.Pt.{Pt}
use Rattle.board_items.specs.declared.requests.Add.TheVariants as adds
use Rattle.board_items.specs.Formed.{IsFormedWire, IsFormedVia, IsFormedAdd}
use Rattle.row_lists.specs.Limits.{wire_point_limit, width_limit_nm}
use Rattle.session_wire.specs.Words.{EndsWord}
use Rattle.session_wire.specs.Numbers.{number_text, IsId, IsBetween}
use Rattle.session_wire.specs.Points.{point_text}
use Rattle.session_wire.specs.Adds.{next_add_text}
use Rattle.session_wire.specs.Parts.{Then, Begins, AreCounted, counted_text}
use Rattle.session_wire.proofs.PointTexts.{points}
use Rattle.session_wire.proofs.Things.{IsSpelling, all_counted}

abbrev pub ArePoints : List Pt → Type 0
ArePoints = AreCounted 2 wire_point_limit IsInRange

abbrev pub points_text : List Pt → List ℕ
points_text = counted_text point_text

abbrev pub IsWidth : ℕ → Type 0
IsWidth = IsBetween 1 width_limit_nm

pub counted : IsSpelling ArePoints points_text
counted = all_counted points 2 wire_point_limit (omega arith) (omega arith)

-- what follows the word of a wire, and what follows each of its numbers
abbrev pub from_width : ℕ → List Pt → List ℕ → List ℕ
from_width width ps rest = number_text width ++ (points_text ps ++ rest)

abbrev pub from_layer : ℕ → ℕ → List Pt → List ℕ → List ℕ
from_layer layer width ps rest = number_text layer ++ from_width width ps rest

abbrev pub from_net : ℕ → ℕ → ℕ → List Pt → List ℕ → List ℕ
from_net net layer width ps rest = number_text net ++ from_layer layer width ps rest

-- the same of a via
abbrev pub from_padstack : ℕ → Pt → List ℕ → List ℕ
from_padstack padstack place rest = number_text padstack ++ (point_text place ++ rest)

abbrev pub from_via : ℕ → ℕ → Pt → List ℕ → List ℕ
from_via net padstack place rest = number_text net ++ from_padstack padstack place rest

pub wire_parts : (net layer width : ℕ) (ps : List Pt) (rest : List ℕ) → next_add_text (adds.Wire net layer width ps) ++ rest ≡ codes " wire" ++ from_net net layer width ps rest
wire_parts net layer width ps rest =
    append_assoc (codes " wire") (number_text net ++ (number_text layer ++ (number_text width ++ points_text ps))) rest
    ∙ ap (λ (t : List ℕ). codes " wire" ++ t) (append_assoc (number_text net) (number_text layer ++ (number_text width ++ points_text ps)) rest)
    ∙ ap (λ (t : List ℕ). codes " wire" ++ (number_text net ++ t)) (append_assoc (number_text layer) (number_text width ++ points_text ps) rest)
    ∙ ap (λ (t : List ℕ). codes " wire" ++ (number_text net ++ (number_text layer ++ t))) (append_assoc (number_text width) (points_text ps) rest)

pub via_parts : (net padstack : ℕ) (place : Pt) (rest : List ℕ) → next_add_text (adds.Via net padstack place) ++ rest ≡ codes " via" ++ from_via net padstack place rest
via_parts net padstack place rest =
    append_assoc (codes " via") (number_text net ++ (number_text padstack ++ point_text place)) rest
    ∙ ap (λ (t : List ℕ). codes " via" ++ t) (append_assoc (number_text net) (number_text padstack ++ point_text place) rest)
    ∙ ap (λ (t : List ℕ). codes " via" ++ (number_text net ++ t)) (append_assoc (number_text padstack) (point_text place) rest)

pub second_is : (a b c d : ℕ) (x y : List ℕ) → a ∷ (b ∷ x) ≡ c ∷ (d ∷ y) → b ≡ d
second_is a b c d x y e = cc

pub wire_no_via : (x y : List ℕ) → codes " wire" ++ x ≢ codes " via" ++ y
wire_no_via x y e =
    let letters : 119 ≡ 118 = second_is 32 119 32 118 (codes "ire" ++ x) (codes "ia" ++ y) e in
    absurd (omega (arith, letters))

-- a wire behind its word
pub record IsWireOf (line : List ℕ) : Type 0 where
  pub net : ℕ
  pub layer : ℕ
  pub width : ℕ
  pub ps : List Pt
  pub rest : List ℕ
  pub formed : IsFormedWire net layer width ps
  pub ends : EndsWord rest
  pub parts : line ≡ from_net net layer width ps rest

-- a via behind its word
pub record IsViaOf (line : List ℕ) : Type 0 where
  pub net : ℕ
  pub padstack : ℕ
  pub place : Pt
  pub rest : List ℕ
  pub formed : IsFormedVia net padstack place
  pub ends : EndsWord rest
  pub parts : line ≡ from_via net padstack place rest

abbrev pub Wires : List ℕ → Type 0
Wires t = Begins IsFormedAdd next_add_text (codes " wire" ++ t)

abbrev pub Vias : List ℕ → Type 0
Vias t = Begins IsFormedAdd next_add_text (codes " via" ++ t)

pub wire_of : (line : List ℕ) → Wires line → IsWireOf line
wire_of line (adds.Wire net layer width ps, rest, a) = record { net = net; layer = layer; width = width; ps = ps; rest = rest; formed = a.formed; ends = a.ends; parts = append_cancel_left (codes " wire") line (from_net net layer width ps rest) (a.spelled ∙ wire_parts net layer width ps rest) }
wire_of line (adds.Via net padstack place, rest, a) = absurd (wire_no_via line _ (a.spelled ∙ via_parts net padstack place rest))

pub via_of : (line : List ℕ) → Vias line → IsViaOf line
via_of line (adds.Wire net layer width ps, rest, a) = absurd (wire_no_via _ line (sym (wire_parts net layer width ps rest) ∙ sym a.spelled))
via_of line (adds.Via net padstack place, rest, a) = record { net = net; padstack = padstack; place = place; rest = rest; formed = a.formed; ends = a.ends; parts = append_cancel_left (codes " via") line (from_via net padstack place rest) (a.spelled ∙ via_parts net padstack place rest) }

pub points_of : (net layer width : ℕ) (ps : List Pt) → IsFormedWire net layer width ps → ArePoints ps
points_of net layer width ps f = record { enough = f.two_points; fit = f.points_fit; formed = f.in_range }

pub wire_formed : (net layer width : ℕ) (ps : List Pt) → IsId net → IsId layer → IsWidth width → ArePoints ps → IsFormedWire net layer width ps
wire_formed net layer width ps a b c d = record { net_fits = a; layer_fits = b; some_width = c.0; width_fits = c.1; two_points = d.enough; points_fit = d.fit; in_range = d.formed }

pub wire_spelled : (line : List ℕ) (net layer width : ℕ) (ps : List Pt) (rest : List ℕ) → IsFormedWire net layer width ps → EndsWord rest → line ≡ from_net net layer width ps rest → Then IsFormedAdd next_add_text (codes " wire" ++ line) (adds.Wire net layer width ps) rest
wire_spelled line net layer width ps rest f end e = record { formed = f; ends = end; spelled = ap (λ (t : List ℕ). codes " wire" ++ t) e ∙ sym (wire_parts net layer width ps rest) }

pub via_spelled : (line : List ℕ) (net padstack : ℕ) (place : Pt) (rest : List ℕ) → IsFormedVia net padstack place → EndsWord rest → line ≡ from_via net padstack place rest → Then IsFormedAdd next_add_text (codes " via" ++ line) (adds.Via net padstack place) rest
via_spelled line net padstack place rest f end e = record { formed = f; ends = end; spelled = ap (λ (t : List ℕ). codes " via" ++ t) e ∙ sym (via_parts net padstack place rest) }

-- the parts of a wire up to its width
pub two_numbers : (line : List ℕ) (net layer : ℕ) (from rest : List ℕ) → Then IsId number_text line net from → Then IsId number_text from layer rest → line ≡ (number_text net ++ number_text layer) ++ rest
two_numbers line net layer from rest a b = a.spelled ∙ ap (λ (t : List ℕ). number_text net ++ t) b.spelled ∙ sym (append_assoc (number_text net) (number_text layer) rest)

pub behind_two : (net layer : ℕ) (t : List ℕ) → (number_text net ++ number_text layer) ++ t ≡ number_text net ++ (number_text layer ++ t)
behind_two net layer t = append_assoc (number_text net) (number_text layer) t
