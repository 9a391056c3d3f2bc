-- Shapes led through turns and moves to their place; all lengths in nm.
-- Cited by `moved_shapes`
use Rattle.std.specs.Prelude.{◌≡◌, ℕ, List, [], ◌∷◌, Option, ⊤}
use Rattle.seg_geometry.specs.declared.points.Pt.{Pt}
use Rattle.seg_geometry.specs.Points.{IsInRange}
use Rattle.area_geometry.specs.declared.shapes.Core.{Core}
use Rattle.area_geometry.specs.declared.shapes.Core.TheVariants.{Chain, Area}
use Rattle.area_geometry.specs.declared.shapes.Shape.{Shape}
use Rattle.area_geometry.specs.Copper.{moved}
use Rattle.dsn_turns.specs.declared.moves.Motion.{Motion}
use Rattle.dsn_turns.specs.Turns.{IsTurned}
use Rattle.dsn_turns.specs.Turning.{over_layer}

-- q is p after the turn and the move of a step, and is in range after each
pub record IsStepped (s : Motion) (p q : Pt) : Type 0 where
  pub turned : Pt
  pub turn : IsTurned p s.eighths s.flip turned
  pub turn_in_range : IsInRange turned
  pub move : q ≡ moved s.by turned
  pub move_in_range : IsInRange q

-- q is p after the turn and the move of a step, wherever it comes to lie
abbrev pub IsCarried : Motion → Pt → Pt → Type 0
IsCarried s p q = (turned : Pt) × IsTurned p s.eighths s.flip turned × (q ≡ moved s.by turned)

-- the steps, one after another, lead from p to q
abbrev pub Leads : List Motion → Pt → Pt → Type 0
Leads [] p q = q ≡ p
Leads (s ∷ steps) p q = (r : Pt) × IsStepped s p r × Leads steps r q

-- the lists have as many elements, and each pair of them is related
abbrev pub OneByOne : {A B : Type 0} → (A → B → Type 0) → List A → List B → Type 0
OneByOne Related [] [] = ⊤
OneByOne Related [] (y ∷ ys) = ⊥
OneByOne Related (x ∷ xs) [] = ⊥
OneByOne Related (x ∷ xs) (y ∷ ys) = Related x y × OneByOne Related xs ys

-- the core of the same kind, with each point led through the steps
abbrev pub IsCoreMoved : List Motion → Core → Core → Type 0
IsCoreMoved steps (Chain points) (Chain places) = OneByOne (Leads steps) points places
IsCoreMoved steps (Chain points) (Area places) = ⊥
IsCoreMoved steps (Area points) (Chain places) = ⊥
IsCoreMoved steps (Area points) (Area places) = OneByOne (Leads steps) points places

-- t is s, led through the steps, of the same width, on the layer that its own becomes
pub record IsMoved (steps : List Motion) (over : Option ℕ) (s t : Shape) : Type 0 where
  pub layer : t.layer ≡ over_layer over s.layer
  pub core : IsCoreMoved steps s.core t.core
  pub width : t.width ≡ s.width

-- the shapes are the others, each led through the steps
abbrev pub AreMoved : List Motion → Option ℕ → List Shape → List Shape → Type 0
AreMoved steps over shapes places = OneByOne (IsMoved steps over) shapes places
