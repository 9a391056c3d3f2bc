-- What a list of vias is, and what is wrong with a list that is none.
-- Models: the via descriptor in the wiring of the SPECCTRA reference.
use Rattle.std.specs.Prelude.{◌≡◌, ℕ, ◌≤◌, ◌<◌, Bool, ◌⊎◌, true, false, List, [], ◌∷◌, map, length, slice_get, Option, Some, None, is_some}
use Rattle.std.specs.List.{AllByRecursion}
use Rattle.sexp_text.specs.Forest.{Forest}
use Rattle.sexp_text.specs.declared.units.Unit.{Unit as LengthUnit}
use Rattle.seg_geometry.specs.declared.points.Pt.{Pt}
use Rattle.seg_geometry.specs.Points.{IsInRange}
use Rattle.area_geometry.specs.declared.shapes.Shape.{Shape}
use Rattle.area_geometry.specs.Copper.{core_points, moved}
use Rattle.board_items.specs.declared.items.Item.{Item}
use Rattle.board_items.specs.declared.items.Item.TheVariants as items
use Rattle.board_items.specs.Shapes.{shapes_of}
use Rattle.dsn_lists.specs.declared.faults.DesignFault.{DesignFault}
use Rattle.dsn_lists.specs.declared.faults.DesignKind.TheVariants as kind
use Rattle.dsn_lists.specs.declared.marks.Mark.{Mark}
use Rattle.dsn_lists.specs.Names.{place_of}
use Rattle.dsn_lists.specs.Lists.{told}
use Rattle.dsn_lists.specs.ShortLists.{HasWord, NoWordOr, first_words, behind_words}
use Rattle.dsn_lists.specs.PointWords.{AllLengths, ArePoints, LengthsFault, are_even}
use Rattle.dsn_shapes.specs.declared.quotas.Quota.{Quota}
use Rattle.dsn_shapes.specs.QuotaLists.{points_of_shapes, IsTaken, NoQuota}
use Rattle.dsn_library.specs.declared.library.Library.{Library}
use Rattle.dsn_reader.specs.declared.ends.Ends.{Ends}
use Rattle.dsn_reader.specs.declared.wiring.Wiring.{Wiring}
use Rattle.dsn_reader.specs.Wirings.{Netted, is_fixed}
use Rattle.dsn_reader.specs.EndLists.{AreEnds, HasEnds, EndsFault}

-- ---- vias

-- all points of the shapes, moved by this one, are in range
abbrev pub IsNear : List Shape → Pt → Type 0
IsNear shapes p = AllByRecursion (λ (s : Shape). AllByRecursion IsInRange (map (moved p) (core_points s.core))) shapes

-- a via at each point, of the padstack of this number, whose shapes are in range there
pub record AreViasOf (u : LengthUnit) (nets : List (List ℕ)) (shapes : List Shape) (stack : ℕ) (f : Forest) (is : List Item) : Type 0 where
  pub points : List Pt
  pub net : ℕ
  pub fix : Option Bool
  pub pairs : ArePoints u (first_words f) points
  pub some : 1 ≤ length points
  pub ends : AreEnds nets (behind_words f) (record { net = Some net; fix = fix })
  pub near : AllByRecursion (IsNear shapes) points
  pub are : is ≡ map (λ p. items.Via net stack p (is_fixed fix)) points

-- `(via <padstack> x y ..)`, behind its keyword: a known padstack, one point or more, and lists
abbrev pub AreVias : LengthUnit → Library → List (List ℕ) → Forest → List Item → Type 0
AreVias u l nets f is = HasWord (λ text rest. (stack : ℕ) × (place_of l.names text ≡ Some stack) × AreViasOf u nets (shapes_of (slice_get l.stacks stack)) stack rest is) f

-- the fault of the first via that is out of range or for which there is no room
abbrev pub PointFault : List Shape → ℕ → Quota → List Pt → DesignFault → Type 0
PointFault shapes at quota [] e = ⊥
PointFault shapes at quota (p ∷ ps) e =
    ((IsNear shapes p → ⊥) × (e ≡ told kind.Range at))
    ⊎ ((IsNear shapes p × NoQuota quota (points_of_shapes shapes) × (e ≡ told kind.Large at))
    ⊎ (IsNear shapes p × (left : Quota) × IsTaken quota (points_of_shapes shapes) left × PointFault shapes at left ps e))

-- so many coordinates are no points, or none at all
abbrev pub AreNoPlaces : List Mark → Type 0
AreNoPlaces words = (are_even words ≡ false) ⊎ (length words < 2)

-- what is wrong behind the words of a via, which state lengths, and whose lists state this: its points, its net, or one of
-- the vias
abbrev pub WholeViaFault : LengthUnit → List Shape → Wiring → ℕ → Forest → Ends → DesignFault → Type 0
WholeViaFault u shapes w at f x e =
    (AreNoPlaces (first_words f) × (e ≡ told kind.Points at))
    ⊎ ((ps : List Pt) × ArePoints u (first_words f) ps × (1 ≤ length ps)
    × (((x.net ≡ None) × (e ≡ told kind.Missing at)) ⊎ ((is_some x.net ≡ true) × PointFault shapes at w.quota ps e)))

-- the fault behind the padstack of a via: of a coordinate, then of a list, then what is wrong with them together
abbrev pub PlacedFault : LengthUnit → List Shape → Netted Wiring → ℕ → Forest → DesignFault → Type 0
PlacedFault u shapes x at f e =
    LengthsFault u (first_words f) e
    ⊎ (AllLengths u (first_words f)
    × (EndsFault x.nets (behind_words f) e ⊎ ((y : Netted Ends) × HasEnds x.nets (behind_words f) y × WholeViaFault u shapes x.it at f y.it e)))

-- the fault of a list of vias that begins at this byte, behind wiring
abbrev pub ViaFault : LengthUnit → Library → Netted Wiring → ℕ → Forest → DesignFault → Type 0
ViaFault u l x at f e =
    NoWordOr (λ a text rest e. ((place_of l.names text ≡ None) × (e ≡ told kind.Name a))
    ⊎ ((stack : ℕ) × (place_of l.names text ≡ Some stack) × PlacedFault u (shapes_of (slice_get l.stacks stack)) x at rest e)) at f e
