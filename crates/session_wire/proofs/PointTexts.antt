-- The points at the front of a line, and the numbers of items.
use Rattle.std.proofs.Common.{◌≡◌, ℕ, ◌^◌, ◌<◌, ◌≤◌, List, [], ◌++◌, refl, sym, ap, ◌∙◌, arith, append_assoc}
use Rattle.std.specs.Prelude.{ℤ}
use Rattle.std.proofs.Math.IntN.{pos}
use Rattle.std.proofs.lemmas.List.{append-nil}
use Rattle.seg_geometry.specs.Points.{IsInRange}
use Rattle.seg_geometry.specs.declared.points.Pt.{Pt}
use Rattle.session_wire.specs.Words.{EndsWord}
use Rattle.session_wire.specs.Numbers.{number_text, IsBetween, IsId, IsSmall}
use Rattle.session_wire.specs.Points.{coordinate_text, point_text, IsCoordinate}
use Rattle.session_wire.specs.Parts.{Then, Begins, StopsAt}
use Rattle.session_wire.proofs.NumberTexts.{same_number, same_coordinate}
use Rattle.session_wire.proofs.Stops.{stops_at_thing}
use Rattle.session_wire.proofs.Things.{IsSpelling}

abbrev make : ℤ → ℤ → Pt
make x y = record { x = x; y = y }

same_fields : (p q : Pt) → p.x ≡ q.x → p.y ≡ q.y → p ≡ q
same_fields p q e f = ap (λ (x : ℤ). make x p.y) e ∙ ap (λ (y : ℤ). make q.x y) f

point_parts : (p : Pt) (rest : List ℕ) → point_text p ++ rest ≡ coordinate_text p.x ++ (coordinate_text p.y ++ rest)
point_parts p rest = append_assoc (coordinate_text p.x) (coordinate_text p.y) rest

same_point : (p q : Pt) (r s : List ℕ) → IsInRange p → IsInRange q → EndsWord r → EndsWord s → point_text p ++ r ≡ point_text q ++ s → (p ≡ q) × (r ≡ s)
same_point p q r s f g m n e =
    let first = same_coordinate p.x q.x (coordinate_text p.y ++ r) (coordinate_text q.y ++ s) f.x g.x refl refl (sym (point_parts p r) ∙ e ∙ point_parts q s) in
    let second = same_coordinate p.y q.y r s f.y g.y m n first.1 in
    (same_fields p q first.0 second.0, second.1)

in_range : (x y : ℤ) → IsCoordinate x → IsCoordinate y → IsInRange (make x y)
in_range x y f g = record { x = f; y = g }

-- a line without the first coordinate has no point
pub no_x : (line : List ℕ) (left : ℕ) → EndsWord line → StopsAt (Begins IsCoordinate coordinate_text) line left → StopsAt (Begins IsInRange point_text) line left
no_x line left ends = stops_at_thing IsCoordinate coordinate_text (Begins IsInRange point_text) line [] line left refl ends
    (λ x f. (coordinate_text (pos 0), refl, (make x (pos 0), [], record { formed = in_range x (pos 0) f (omega arith); ends = tt; spelled = sym (append-nil (point_text (make x (pos 0)))) })))
    (λ t end is. let (p, r, b) = is in (p.x, coordinate_text p.y ++ r, record { formed = b.formed.x; ends = refl; spelled = b.spelled ∙ point_parts p r }))

-- nor has one without the second
pub no_y : (line : List ℕ) (x : ℤ) (rest : List ℕ) (left : ℕ) → Then IsCoordinate coordinate_text line x rest → StopsAt (Begins IsCoordinate coordinate_text) rest left → StopsAt (Begins IsInRange point_text) line left
no_y line x rest left a = stops_at_thing IsCoordinate coordinate_text (Begins IsInRange point_text) line (coordinate_text x) rest left a.spelled a.ends
    (λ y f. ([], tt, (make x y, [], record { formed = in_range x y a.formed f; ends = tt; spelled = sym (append_assoc (coordinate_text x) (coordinate_text y) []) })))
    (λ t end is.
    let (p, r, b) = is in
    let same = same_coordinate x p.x t (coordinate_text p.y ++ r) a.formed b.formed.x end refl (b.spelled ∙ point_parts p r) in
    (p.y, r, record { formed = b.formed.y; ends = b.ends; spelled = same.1 }))

pub point_from : (line : List ℕ) (x y : ℤ) (mid rest : List ℕ) → Then IsCoordinate coordinate_text line x mid → Then IsCoordinate coordinate_text mid y rest → Then IsInRange point_text line (record { x = x; y = y }) rest
point_from line x y mid rest a b = record {
  formed = in_range x y a.formed b.formed;
  ends = b.ends;
  spelled = a.spelled ∙ ap (λ (t : List ℕ). coordinate_text x ++ t) b.spelled ∙ sym (append_assoc (coordinate_text x) (coordinate_text y) rest);
}

-- each point has one text
pub points : IsSpelling IsInRange point_text
points = record { sample = make (pos 0) (pos 0); fits = in_range (pos 0) (pos 0) (omega arith) (omega arith); first = λ p r stop. refl; same = same_point }

-- each number of an item has one text
pub ids : IsSpelling IsId number_text
ids = record { sample = 0; fits = omega arith; first = λ n r stop. refl; same = same_number }

same_small : (n m : ℕ) (r s : List ℕ) → IsSmall n → IsSmall m → EndsWord r → EndsWord s → number_text n ++ r ≡ number_text m ++ s → (n ≡ m) × (r ≡ s)
same_small n m r s low short = same_number n m r s (omega (arith, low)) (omega (arith, short))

-- each number of a layer or a client of a boundary has one text
pub smalls : IsSpelling IsSmall number_text
smalls = record { sample = 0; fits = omega arith; first = λ n r stop. refl; same = same_small }

-- each number between two bounds has one text
pub betweens : (least most : ℕ) → least ≤ most → most < 2 ^ 32 → IsSpelling (IsBetween least most) number_text
betweens least most some low = record {
  sample = least;
  fits = (omega arith, some);
  first = λ n r stop. refl;
  same = λ n m r s f g. same_number n m r s (omega (arith, low, f.1)) (omega (arith, low, g.1));
}
