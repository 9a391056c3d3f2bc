-- A design is sound in one way at most.
-- Cited by `Design`, which keeps that it is sound
use Rattle.std.specs.Prelude.{ℕ, List, [], ◌∷◌, Option, Some, None}
use Rattle.std.specs.List.{AllByRecursion}
use Rattle.std.specs.Coded.{×_prop, Unit-prop, le_prop}
use Rattle.area_geometry.specs.declared.shapes.Core.{Core}
use Rattle.area_geometry.specs.declared.shapes.Core.TheVariants.{Chain, Area}
use Rattle.area_geometry.specs.declared.shapes.Shape.{Shape}
use Rattle.board_items.specs.declared.items.Item.{Item}
use Rattle.board_items.specs.declared.items.Item.TheVariants as items
use Rattle.board_rules.specs.declared.design.ClassRow.{ClassRow}
use Rattle.board_rules.specs.declared.design.PairRow.{PairRow}
use Rattle.board_rules.specs.declared.design.Parts.{Parts}
use Rattle.board_rules.specs.Designs.{IsFitSize, AreThere, HasCore, IsFitShape, IsFitClass, IsFitPair, NamesThere, IsFitItem, IsSound}

all_prop : {T : Type 0} (P : T → Type 0) → ((x : T) → IsProp (P x)) → (xs : List T) → IsProp (AllByRecursion P xs)
all_prop P one [] = Unit-prop
all_prop P one (x ∷ xs) = ×_prop (one x) (all_prop P one xs)

size_prop : (n : Option ℕ) → IsProp (IsFitSize n)
size_prop None = Unit-prop
size_prop (Some n) = le_prop

there_prop : (count : ℕ) (ids : Option (List ℕ)) → IsProp (AreThere count ids)
there_prop count None = Unit-prop
there_prop count (Some ids) = all_prop _ (λ i. le_prop) ids

core_prop : (c : Core) → IsProp (HasCore c)
core_prop (Chain points) = le_prop
core_prop (Area points) = le_prop

shape_prop : (layers : ℕ) (s : Shape) → IsProp (IsFitShape layers s)
shape_prop layers s = Prim.hlevel (le_prop, core_prop, all_prop)

class_prop : (stacks : ℕ) (c : ClassRow) → IsProp (IsFitClass stacks c)
class_prop stacks c = Prim.hlevel (le_prop, size_prop, there_prop, all_prop)

pair_prop : (classes : ℕ) (r : PairRow) → IsProp (IsFitPair classes r)
pair_prop classes r = Prim.hlevel (le_prop, all_prop)

names_prop : (p : Parts) (i : Item) → IsProp (NamesThere p i)
names_prop p (items.Wire net layer width points fix) = Prim.hlevel (le_prop)
names_prop p (items.Via net padstack place fix) = Prim.hlevel (le_prop)
names_prop p (items.Pad None shapes) = Prim.hlevel (le_prop, all_prop)
names_prop p (items.Pad (Some net) shapes) = Prim.hlevel (le_prop, all_prop)
names_prop p (items.Keep kind shapes) = Prim.hlevel (le_prop, all_prop)

item_prop : (p : Parts) (i : Item) → IsProp (IsFitItem p i)
item_prop p i = Prim.hlevel (le_prop, names_prop)

pub IsSound-prop : (p : Parts) → IsProp (IsSound p)
IsSound-prop p = Prim.hlevel (le_prop, all_prop, shape_prop, class_prop, pair_prop, item_prop)
