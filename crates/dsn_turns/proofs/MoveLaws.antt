-- Where shapes come to lie is where the reading says, both ways.
use Rattle.std.proofs.Common.{◌≡◌, ℕ, List, [], ◌∷◌, Option, Some, None, ◌↔◌, refl, sym, ap, subst, ◌∙◌}
use Rattle.seg_geometry.specs.declared.points.Pt.{Pt}
use Rattle.seg_geometry.specs.Points.{IsInRange}
use Rattle.area_geometry.specs.declared.shapes.Core.{Core}
use Rattle.area_geometry.specs.declared.shapes.Core.TheVariants.{Chain, Area}
use Rattle.area_geometry.specs.declared.shapes.Shape.{Shape}
use Rattle.area_geometry.specs.Copper.{moved}
use Rattle.dsn_turns.specs.declared.moves.Motion.{Motion}
use Rattle.dsn_turns.specs.Turning.{within, turned, turn_of, carried, each_of, step_of, through, over_layer, core_moved, shape_moved, shapes_moved}
use Rattle.dsn_turns.specs.Moves.{IsStepped, IsCarried, Leads, OneByOne, IsCoreMoved, IsMoved, AreMoved}
use Rattle.dsn_turns.specs.Turns.{IsTurned}
use Rattle.dsn_turns.proofs.Ranges.{within_some, within_of, none_iff, then_iff}
use Rattle.dsn_turns.proofs.TurnLaws.{turned_is, turned_only, turn_iff}

-- one by one

each_some : {A B : Type 0} (f : A → Option B) (R : A → B → Type 0) → ((x : A) (y : B) → (f x ≡ Some y) ↔ R x y) → (xs : List A) (ys : List B) → each_of f xs ≡ Some ys → OneByOne R xs ys
unfolding each_of
each_some f R h [] [] e = tt
each_some f R h [] (y ∷ ys) e = absurd cc
each_some f R h (x ∷ xs) ys e =
    let first = (then_iff (f x) _ ys).0 e in
    let rest = (then_iff (each_of f xs) _ ys).0 first.2 in
    let same : first.0 ∷ rest.0 ≡ ys = cc in
    subst (OneByOne R (x ∷ xs)) same ((h x first.0).0 first.1, each_some f R h xs rest.0 rest.1)

each_from : {A B : Type 0} (f : A → Option B) (R : A → B → Type 0) → ((x : A) (y : B) → (f x ≡ Some y) ↔ R x y) → (xs : List A) (ys : List B) → OneByOne R xs ys → each_of f xs ≡ Some ys
unfolding each_of
each_from f R h [] [] o = refl
each_from f R h [] (y ∷ ys) o = absurd o
each_from f R h (x ∷ xs) [] o = absurd o
each_from f R h (x ∷ xs) (y ∷ ys) o =
    let first = (h x y).1 o.0 in
    let rest = each_from f R h xs ys o.1 in
    (then_iff (f x) _ _).1 (y, first, (then_iff (each_of f xs) _ _).1 (ys, rest, refl))

pub each_iff : {A B : Type 0} (f : A → Option B) (R : A → B → Type 0) → ((x : A) (y : B) → (f x ≡ Some y) ↔ R x y) → (xs : List A) (ys : List B) → (each_of f xs ≡ Some ys) ↔ OneByOne R xs ys
each_iff f R h xs ys = (each_some f R h xs ys, each_from f R h xs ys)

-- steps

step_some : (s : Motion) (p q : Pt) → step_of s p ≡ Some q → IsStepped s p q
unfolding step_of
step_some s p q e =
    let turn = (then_iff (turn_of p s.eighths s.flip) _ q).0 e in
    let own = (turn_iff p s.eighths s.flip turn.0).0 turn.1 in
    let move = within_some (moved s.by turn.0) q turn.2 in
    record {
      turned = turn.0;
      turn = own.0;
      turn_in_range = own.1;
      move = sym move.0;
      move_in_range = subst IsInRange move.0 move.1;
    }

step_from : (s : Motion) (p q : Pt) → IsStepped s p q → step_of s p ≡ Some q
unfolding step_of
step_from s p q h =
    let turn = (turn_iff p s.eighths s.flip h.turned).1 (h.turn, h.turn_in_range) in
    let move : within (moved s.by h.turned) ≡ Some q = ap within (sym h.move) ∙ within_of q h.move_in_range in
    (then_iff (turn_of p s.eighths s.flip) _ q).1 (h.turned, turn, move)

pub step_iff : (s : Motion) (p q : Pt) → (step_of s p ≡ Some q) ↔ IsStepped s p q
step_iff s p q = (step_some s p q, step_from s p q)

-- what is carried comes to lie at one place
pub carried_is : (s : Motion) (p : Pt) → IsCarried s p (carried s p)
carried_is s p = (turned p s.eighths s.flip, turned_is p s.eighths s.flip, refl)

pub carried_only : (s : Motion) (p q : Pt) → IsCarried s p q → q ≡ carried s p
carried_only s p q (turned, is, same) = same ∙ ap (moved s.by) (turned_only p s.eighths s.flip turned is)

-- what is turned and then moved is carried
pub carried_of : (s : Motion) (p turn q : Pt) → turn ≡ turned p s.eighths s.flip → q ≡ moved s.by turn → IsCarried s p q
carried_of s p turn q is same = (turn, subst (IsTurned p s.eighths s.flip) (sym is) (turned_is p s.eighths s.flip), same)

leads_some : (steps : List Motion) (p q : Pt) → through steps p ≡ Some q → Leads steps p q
unfolding through
leads_some [] p q e = cc
leads_some (s ∷ steps) p q e =
    let first = (then_iff (step_of s p) (through steps) q).0 e in
    (first.0, (step_iff s p first.0).0 first.1, leads_some steps first.0 q first.2)

leads_from : (steps : List Motion) (p q : Pt) → Leads steps p q → through steps p ≡ Some q
unfolding through
leads_from [] p q e = ap Some (sym e)
leads_from (s ∷ steps) p q (r, step, rest) = (then_iff (step_of s p) (through steps) q).1 (r, (step_iff s p r).1 step, leads_from steps r q rest)

pub leads_iff : (steps : List Motion) (p q : Pt) → (through steps p ≡ Some q) ↔ Leads steps p q
leads_iff steps p q = (leads_some steps p q, leads_from steps p q)

-- shapes

points_iff : (steps : List Motion) (points places : List Pt) → (each_of (through steps) points ≡ Some places) ↔ OneByOne (Leads steps) points places
points_iff steps points places = each_iff (through steps) (Leads steps) (leads_iff steps) points places

core_some : (steps : List Motion) (c d : Core) → core_moved steps c ≡ Some d → IsCoreMoved steps c d
core_some steps (Chain points) d e =
    let h = (then_iff (each_of (through steps) points) _ d).0 e in
    let same : Chain h.0 ≡ d = cc in
    subst (IsCoreMoved steps (Chain points)) same ((points_iff steps points h.0).0 h.1)
core_some steps (Area points) d e =
    let h = (then_iff (each_of (through steps) points) _ d).0 e in
    let same : Area h.0 ≡ d = cc in
    subst (IsCoreMoved steps (Area points)) same ((points_iff steps points h.0).0 h.1)

core_from : (steps : List Motion) (c d : Core) → IsCoreMoved steps c d → core_moved steps c ≡ Some d
core_from steps (Chain points) (Chain places) h = (then_iff (each_of (through steps) points) _ _).1 (places, (points_iff steps points places).1 h, refl)
core_from steps (Chain points) (Area places) h = absurd h
core_from steps (Area points) (Chain places) h = absurd h
core_from steps (Area points) (Area places) h = (then_iff (each_of (through steps) points) _ _).1 (places, (points_iff steps points places).1 h, refl)

pub core_iff : (steps : List Motion) (c d : Core) → (core_moved steps c ≡ Some d) ↔ IsCoreMoved steps c d
core_iff steps c d = (core_some steps c d, core_from steps c d)

shape_some : (steps : List Motion) (over : Option ℕ) (s t : Shape) → shape_moved steps over s ≡ Some t → IsMoved steps over s t
unfolding shape_moved
shape_some steps over s t e =
    let h = (then_iff (core_moved steps s.core) _ t).0 e in
    let shape : Shape = record { layer = over_layer over s.layer; core = h.0; width = s.width } in
    let same : shape ≡ t = cc in
    subst (IsMoved steps over s) same (record { layer = refl; core = (core_iff steps s.core h.0).0 h.1; width = refl })

shape_from : (steps : List Motion) (over : Option ℕ) (s t : Shape) → IsMoved steps over s t → shape_moved steps over s ≡ Some t
unfolding shape_moved
shape_from steps over s t h =
    let layer = sym h.layer in
    let width = sym h.width in
    let same : Some (record { layer = over_layer over s.layer; core = t.core; width = s.width }) ≡ Some t = λ i. Some (record { layer = layer i; core = t.core; width = width i }) in
    (then_iff (core_moved steps s.core) _ t).1 (t.core, (core_iff steps s.core t.core).1 h.core, same)

pub shape_iff : (steps : List Motion) (over : Option ℕ) (s t : Shape) → (shape_moved steps over s ≡ Some t) ↔ IsMoved steps over s t
shape_iff steps over s t = (shape_some steps over s t, shape_from steps over s t)

pub shapes_iff : (steps : List Motion) (over : Option ℕ) (ss ts : List Shape) → (shapes_moved steps over ss ≡ Some ts) ↔ AreMoved steps over ss ts
shapes_iff steps over ss ts = each_iff (shape_moved steps over) (IsMoved steps over) (shape_iff steps over) ss ts

pub shapes_none_iff : (steps : List Motion) (over : Option ℕ) (ss : List Shape) → (shapes_moved steps over ss ≡ None) ↔ ((ts : List Shape) → AreMoved steps over ss ts → ⊥)
shapes_none_iff steps over ss = none_iff (shapes_moved steps over ss) (AreMoved steps over ss) (shapes_iff steps over ss)
