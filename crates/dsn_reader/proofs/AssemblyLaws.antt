-- The classes and nets of a design are those that are assembled.
use Rattle.std.proofs.Common.{◌≡◌, ℕ, zero, suc, ◌-◌, List, [], ◌∷◌, ◌++◌, map, length, Option, Some, None, refl, sym, ap, ◌∙◌, append_assoc, arith}
use Rattle.std.specs.Prelude.{slice_get, Result, Ok, Err, IfOk}
use Rattle.std.specs.Option.{option_map}
use Rattle.std.proofs.lemmas.List.{append-nil}
use Rattle.board_items.specs.declared.items.Item.{Item}
use Rattle.board_rules.specs.declared.design.ClassRow.{ClassRow}
use Rattle.board_rules.specs.declared.design.NetRow.{NetRow}
use Rattle.board_rules.specs.declared.design.PairRow.{PairRow}
use Rattle.board_rules.specs.declared.design.Parts.{Parts}
use Rattle.dsn_lists.specs.declared.marks.Mark.{Mark}
use Rattle.dsn_lists.specs.declared.rules.Rule.{Rule}
use Rattle.dsn_lists.specs.Names.{place_of}
use Rattle.dsn_lists.specs.Lists.{last_of}
use Rattle.dsn_structure.specs.declared.structure.Structure.{Structure}
use Rattle.dsn_network.specs.declared.classes.Class.{Class}
use Rattle.dsn_placement.specs.declared.placement.PlacedPart.{PlacedPart}
use Rattle.dsn_reader.specs.declared.reader.Laid.{Laid}
use Rattle.dsn_reader.specs.Assembly.{held_vias, last_vias, class_row, class_rows, all_classes, net_row, row_at, net_rows, item_of, with_placed, Gathered, rows_of, with_rows, assembled}
use Rattle.dsn_reader.specs.Rows.{numbers_by_place, row_of, row_of_class, rows_of_classes, rows_of_nets, rows_of_pairs, laid_out}
use Rattle.dsn_reader.proofs.NumberingLaws.{numbers_are}
use Rattle.dsn_reader.proofs.PairRowLaws.{pairs_are}

-- ---- classes

last_got : {A : Type 0} (o : Option A) (x : A) (xs : List A) → slice_get (x ∷ xs) (length xs) ≡ last_of o (map Some (x ∷ xs))
last_got o x [] = refl
last_got o x (y ∷ xs) = last_got (Some x) y xs

one_less : (n : ℕ) → suc n - 1 ≡ n
one_less n = omega arith

last_is : (names : List (List ℕ)) (lists : List (List Mark)) → last_vias names lists ≡ option_map (numbers_by_place names) (last_of None (map Some lists))
unfolding last_vias
last_is names [] = refl
last_is names (ms ∷ lists) =
    ap (λ (n : ℕ). held_vias names (slice_get (ms ∷ lists) n)) (one_less (length lists))
    ∙ ap (held_vias names) (last_got None ms lists)
    ∙ held_is (last_of None (map Some (ms ∷ lists)))
  where
    held_is : (o : Option (List Mark)) → held_vias names o ≡ option_map (numbers_by_place names) o
    held_is None = refl
    held_is (Some xs) = ap (λ (ids : List ℕ). Some ids) (numbers_are (place_of names) [] xs)

row_is : (names : List (List ℕ)) (name : List ℕ) (lists : List (List Mark)) (rule : Rule) → class_row names name lists rule ≡ row_of names name lists rule
row_is names name lists rule = ap (λ (o : Option (List ℕ)). record { name = name; width = rule.width; vias = o; clearances = rule.stated }) (last_is names lists)

rows_are : (names : List (List ℕ)) (rows : List ClassRow) (cs : List Class) → class_rows names rows cs ≡ rows ++ map (row_of_class names) cs
unfolding class_rows
rows_are names rows [] = sym (append-nil rows)
rows_are names rows (c ∷ cs) =
    rows_are names (rows ++ class_row names c.name c.vias c.rule ∷ []) cs
    ∙ ap (λ (r : ClassRow). (rows ++ r ∷ []) ++ map (row_of_class names) cs) (row_is names c.name c.vias c.rule)
    ∙ append_assoc rows (row_of_class names c ∷ []) (map (row_of_class names) cs)

-- the rows that are assembled are those of the classes
pub classes_are : (names : List (List ℕ)) (s : Structure) (cs : List Class) → all_classes names s cs ≡ rows_of_classes names s cs
classes_are names s cs =
    rows_are names (class_row names [] s.vias s.rule ∷ []) cs
    ∙ ap (λ (r : ClassRow). r ∷ map (row_of_class names) cs) (row_is names [] s.vias s.rule)

-- ---- nets

nets_none : (n : ℕ) (name : List ℕ) (names : List (List ℕ)) → net_rows (suc n) (name ∷ names) [] ≡ net_row name 0 ∷ net_rows n names []
unfolding net_rows
nets_none zero name names = refl
nets_none (suc n) name names = ap (λ (rs : List NetRow). rs ++ row_at (slice_get names n) None ∷ []) (nets_none n name names)

nets_more : (n : ℕ) (name : List ℕ) (names : List (List ℕ)) (c : ℕ) (cs : List ℕ) → net_rows (suc n) (name ∷ names) (c ∷ cs) ≡ net_row name c ∷ net_rows n names cs
unfolding net_rows
nets_more zero name names c cs = refl
nets_more (suc n) name names c cs = ap (λ (rs : List NetRow). rs ++ row_at (slice_get names n) (slice_get cs n) ∷ []) (nets_more n name names c cs)

-- the rows that are assembled are those of the nets
pub nets_are : (names : List (List ℕ)) (cs : List ℕ) → net_rows (length names) names cs ≡ rows_of_nets names cs
unfolding net_rows
nets_are [] cs = refl
nets_are (name ∷ names) [] = nets_none (length names) name names ∙ ap (λ (rs : List NetRow). net_row name 0 ∷ rs) (nets_are names [])
nets_are (name ∷ names) (c ∷ cs) = nets_more (length names) name names c cs ∙ ap (λ (rs : List NetRow). net_row name c ∷ rs) (nets_are names cs)

-- ---- items

-- the pads and keepouts are put one by one
pub placed_are : (pins : List ((ℕ × ℕ) × ℕ)) (is : List Item) (xs : List PlacedPart) → with_placed pins is xs ≡ is ++ map (item_of pins) xs
unfolding with_placed
placed_are pins is [] = sym (append-nil is)
placed_are pins is (x ∷ xs) = placed_are pins (is ++ item_of pins x ∷ []) xs ∙ append_assoc is (item_of pins x ∷ []) (map (item_of pins) xs)

-- the items that are put are those of the design
pub loaded_are : (pins : List ((ℕ × ℕ) × ℕ)) (keeps : List Item) (parts : List PlacedPart) (wiring : List Item) → with_placed pins keeps parts ++ wiring ≡ keeps ++ (map (item_of pins) parts ++ wiring)
loaded_are pins keeps parts wiring =
    ap (λ (is : List Item). is ++ wiring) (placed_are pins keeps parts) ∙ append_assoc keeps (map (item_of pins) parts) wiring

-- ---- the design

abbrev parts_with : Gathered → List NetRow → List ClassRow → List PairRow → List Item → Parts
parts_with g nets classes pairs is = record { name = g.name; layers = g.structure.layers; stacks = g.library.stacks; nets = nets; classes = classes; pairs = pairs; outline = g.structure.outline; items = is }

-- the design that is assembled is that of what was stated
pub assembled_is : (g : Gathered) → assembled g ≡ laid_out g
assembled_is g =
    let is = with_placed g.pins g.structure.keeps g.placement.parts ++ g.wiring.items in
    let nets = rows_of_nets g.nets g.numbers in
    let classes = rows_of_classes g.library.names g.structure g.classes in
    ap (λ (x : List NetRow). parts_with g x (rows_of g).classes (rows_of g).pairs is) (nets_are g.nets g.numbers)
    ∙ ap (λ (x : List ClassRow). parts_with g nets x (rows_of g).pairs is) (classes_are g.library.names g.structure g.classes)
    ∙ ap (λ (x : List PairRow). parts_with g nets classes x is) (pairs_are g.classes g.between)
    ∙ ap (parts_with g nets classes (rows_of_pairs g.classes g.between)) (loaded_are g.pins g.structure.keeps g.placement.parts g.wiring.items)

-- what is made of rows that were copied is the design of what was stated
pub if_assembled : {E : Type 0} (g : Gathered) (x : Laid) (r : Result Parts E) → x ≡ rows_of g → IfOk r (λ (p : Parts). p ≡ with_rows g x) → IfOk r (λ (p : Parts). p ≡ assembled g)
if_assembled g x (Ok p) e h = h ∙ ap (with_rows g) e
if_assembled g x (Err w) e h = tt
