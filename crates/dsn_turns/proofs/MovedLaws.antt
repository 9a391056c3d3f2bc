-- What shapes keep that are led to their place, and what their points are there.
use Rattle.std.proofs.Common.{◌≡◌, ℕ, suc, ◌<◌, List, [], ◌∷◌, length, Option, Some, None, refl, sym, ap, subst, arith}
use Rattle.std.specs.List.{AllByRecursion}
use Rattle.seg_geometry.specs.declared.points.Pt.{Pt}
use Rattle.seg_geometry.specs.Points.{IsInRange}
use Rattle.area_geometry.specs.declared.shapes.Core.{Core}
use Rattle.area_geometry.specs.declared.shapes.Core.TheVariants.{Chain, Area}
use Rattle.area_geometry.specs.declared.shapes.Shape.{Shape}
use Rattle.area_geometry.specs.Copper.{is_area, core_points}
use Rattle.dsn_turns.specs.declared.moves.Motion.{Motion}
use Rattle.dsn_turns.specs.Turning.{over_layer}
use Rattle.dsn_turns.specs.Moves.{Leads, OneByOne, IsCoreMoved, IsMoved, AreMoved}

-- one by one

pub same_length : {A B : Type 0} (R : A → B → Type 0) (xs : List A) (ys : List B) → OneByOne R xs ys → length ys ≡ length xs
same_length R [] [] o = refl
same_length R [] (y ∷ ys) o = absurd o
same_length R (x ∷ xs) [] o = absurd o
same_length R (x ∷ xs) (y ∷ ys) o = ap suc (same_length R xs ys o.1)

-- what the one of a pair has gives what the other has
pub each_has : {A B : Type 0} (R : A → B → Type 0) (P : A → Type 0) (Q : B → Type 0) → ((x : A) (y : B) → P x → R x y → Q y) → (xs : List A) (ys : List B) → AllByRecursion P xs → OneByOne R xs ys → AllByRecursion Q ys
each_has R P Q h [] [] a o = tt
each_has R P Q h [] (y ∷ ys) a o = absurd o
each_has R P Q h (x ∷ xs) [] a o = absurd o
each_has R P Q h (x ∷ xs) (y ∷ ys) a o = (h x y a.0 o.0, each_has R P Q h xs ys a.1 o.1)

-- the same of what each pair gives by itself
pub each_gives : {A B : Type 0} (R : A → B → Type 0) (Q : B → Type 0) → ((x : A) (y : B) → R x y → Q y) → (xs : List A) (ys : List B) → OneByOne R xs ys → AllByRecursion Q ys
each_gives R Q h [] [] o = tt
each_gives R Q h [] (y ∷ ys) o = absurd o
each_gives R Q h (x ∷ xs) [] o = absurd o
each_gives R Q h (x ∷ xs) (y ∷ ys) o = (h x y o.0, each_gives R Q h xs ys o.1)

-- points

-- a point in range is led to one in range
pub leads_in_range : (steps : List Motion) (p q : Pt) → IsInRange p → Leads steps p q → IsInRange q
leads_in_range [] p q near l = subst IsInRange (sym l) near
leads_in_range (s ∷ steps) p q near (r, step, rest) = leads_in_range steps r q step.move_in_range rest

-- and any point is, by one step or more
pub steps_in_range : (steps : List Motion) (p q : Pt) → 0 < length steps → Leads steps p q → IsInRange q
steps_in_range [] p q some l = absurd (omega arith)
steps_in_range (s ∷ steps) p q some (r, step, rest) = leads_in_range steps r q step.move_in_range rest

-- the points of a core are in range
abbrev pub IsCoreInRange : Core → Type 0
IsCoreInRange core = AllByRecursion IsInRange (core_points core)

pub core_in_range : (steps : List Motion) (c d : Core) → IsCoreInRange c → IsCoreMoved steps c d → IsCoreInRange d
core_in_range steps (Chain points) (Chain places) near m = each_has (Leads steps) IsInRange IsInRange (leads_in_range steps) points places near m
core_in_range steps (Chain points) (Area places) near m = absurd m
core_in_range steps (Area points) (Chain places) near m = absurd m
core_in_range steps (Area points) (Area places) near m = each_has (Leads steps) IsInRange IsInRange (leads_in_range steps) points places near m

pub core_steps_in_range : (steps : List Motion) (c d : Core) → 0 < length steps → IsCoreMoved steps c d → IsCoreInRange d
core_steps_in_range steps (Chain points) (Chain places) some m = each_gives (Leads steps) IsInRange (λ p q l. steps_in_range steps p q some l) points places m
core_steps_in_range steps (Chain points) (Area places) some m = absurd m
core_steps_in_range steps (Area points) (Chain places) some m = absurd m
core_steps_in_range steps (Area points) (Area places) some m = each_gives (Leads steps) IsInRange (λ p q l. steps_in_range steps p q some l) points places m

-- cores

-- a core keeps the number of its points
pub same_count : (steps : List Motion) (c d : Core) → IsCoreMoved steps c d → length (core_points d) ≡ length (core_points c)
same_count steps (Chain points) (Chain places) m = same_length (Leads steps) points places m
same_count steps (Chain points) (Area places) m = absurd m
same_count steps (Area points) (Chain places) m = absurd m
same_count steps (Area points) (Area places) m = same_length (Leads steps) points places m

-- and its kind
pub same_kind : (steps : List Motion) (c d : Core) → IsCoreMoved steps c d → is_area d ≡ is_area c
same_kind steps (Chain points) (Chain places) m = refl
same_kind steps (Chain points) (Area places) m = absurd m
same_kind steps (Area points) (Chain places) m = absurd m
same_kind steps (Area points) (Area places) m = refl

-- layers

-- a layer of the board stays one of the board
pub over_below : (n layer : ℕ) → layer < n → over_layer (Some n) layer < n
over_below n layer h = omega arith

pub layer_below : (steps : List Motion) (n : ℕ) (s t : Shape) → s.layer < n → IsMoved steps (Some n) s t → t.layer < n
layer_below steps n s t h m = subst (λ (layer : ℕ). layer < n) (sym m.layer) (over_below n s.layer h)

pub layer_kept : (steps : List Motion) (n : ℕ) (s t : Shape) → s.layer < n → IsMoved steps None s t → t.layer < n
layer_kept steps n s t h m = subst (λ (layer : ℕ). layer < n) (sym m.layer) h

-- shapes

-- the points of a shape are in range
abbrev pub IsShapeInRange : Shape → Type 0
IsShapeInRange s = IsCoreInRange s.core

pub shapes_in_range : (steps : List Motion) (over : Option ℕ) (ss ts : List Shape) → AllByRecursion IsShapeInRange ss → AreMoved steps over ss ts → AllByRecursion IsShapeInRange ts
shapes_in_range steps over ss ts near m = each_has (IsMoved steps over) IsShapeInRange IsShapeInRange (λ s t p h. core_in_range steps s.core t.core p h.core) ss ts near m

pub shapes_steps_in_range : (steps : List Motion) (over : Option ℕ) (ss ts : List Shape) → 0 < length steps → AreMoved steps over ss ts → AllByRecursion IsShapeInRange ts
shapes_steps_in_range steps over ss ts some m = each_gives (IsMoved steps over) IsShapeInRange (λ s t h. core_steps_in_range steps s.core t.core some h.core) ss ts m
