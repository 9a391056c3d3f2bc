-- The shapes of `shape` lists are those that are read, and their first fault is the one that is told.
use Rattle.std.proofs.Common.{◌≡◌, ℕ, List, ◌++◌, Ok, Err, sym, ap}
use Rattle.sexp_text.specs.Forest.{Forest, End, Word, Branch}
use Rattle.sexp_text.specs.declared.units.Unit.{Unit as LengthUnit}
use Rattle.area_geometry.specs.declared.shapes.Shape.{Shape}
use Rattle.dsn_lists.specs.declared.faults.DesignFault.{DesignFault}
use Rattle.dsn_lists.proofs.Firsts.{failed}
use Rattle.dsn_lists.proofs.JoinLaws.{joins_found, joins_again, joins_fault, joins_fault_again}
use Rattle.dsn_shapes.specs.Drawn.{shape_item, shapes_of}
use Rattle.dsn_shapes.specs.DrawnLists.{Draws, ShapeFault, IsShapeList, ShapeListFault}
use Rattle.dsn_shapes.proofs.ShapeLaws.{item_fault, item_fault_again, shapes_add}

-- ---- `(shape <shape> ..)`

abbrev join : List Shape → List Shape → List Shape
join ss xs = ss ++ xs

pub shapes_found : (u : LengthUnit) (layers : List (List ℕ)) (ss : List Shape) (at : ℕ) (f : Forest) (ts : List Shape) → shapes_of u layers ss at f ≡ Ok ts → (xs : List Shape) × IsShapeList u layers f xs × (ts ≡ ss ++ xs)
unfolding shapes_of
shapes_found u layers ss at End ts e = absurd cc
shapes_found u layers ss at (Word a text rest) ts e = absurd cc
shapes_found u layers ss at (Branch a inside rest) ts e = joins_found (shape_item u layers) join (Draws u layers) (shapes_add u layers) (Branch a inside rest) ss ts e

pub shapes_again : (u : LengthUnit) (layers : List (List ℕ)) (ss : List Shape) (at : ℕ) (f : Forest) (xs : List Shape) → IsShapeList u layers f xs → shapes_of u layers ss at f ≡ Ok (ss ++ xs)
unfolding shapes_of
shapes_again u layers ss at End xs h = absurd h
shapes_again u layers ss at (Word a text rest) xs h = absurd h
shapes_again u layers ss at (Branch a inside rest) xs h = joins_again (shape_item u layers) join (Draws u layers) (shapes_add u layers) (Branch a inside rest) ss xs h

pub shapes_fault : (u : LengthUnit) (layers : List (List ℕ)) (ss : List Shape) (at : ℕ) (f : Forest) (e : DesignFault) → shapes_of u layers ss at f ≡ Err e → ShapeListFault u layers at f e
unfolding shapes_of
shapes_fault u layers ss at End e h = cc
shapes_fault u layers ss at (Word a text rest) e h = cc
shapes_fault u layers ss at (Branch a inside rest) e h =
    joins_fault (shape_item u layers) join (Draws u layers) (shapes_add u layers) (ShapeFault u layers) (item_fault u layers) ss (Branch a inside rest) e h

pub shapes_fault_again : (u : LengthUnit) (layers : List (List ℕ)) (ss : List Shape) (at : ℕ) (f : Forest) (e : DesignFault) → ShapeListFault u layers at f e → shapes_of u layers ss at f ≡ Err e
unfolding shapes_of
shapes_fault_again u layers ss at End e h = ap failed (sym h)
shapes_fault_again u layers ss at (Word a text rest) e h = ap failed (sym h)
shapes_fault_again u layers ss at (Branch a inside rest) e h =
    joins_fault_again (shape_item u layers) join (Draws u layers) (shapes_add u layers) (ShapeFault u layers) (item_fault_again u layers) ss (Branch a inside rest) e h
