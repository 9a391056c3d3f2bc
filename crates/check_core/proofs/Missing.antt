-- What an index doesn't find is apart, and so keeps what it must.
use Rattle.std.proofs.Common.{◌≡◌, ℕ, ◌≤◌, inl, inr, List, [], ◌∷◌, ◌++◌, arith, refl, sym, subst, ◌∙◌}
use Rattle.std.specs.Prelude.{All, Option, Some, None}
use Rattle.std.specs.List.{Contains, AllByRecursion}
use Rattle.std.proofs.lemmas.List.Elements.{All-from_recursion, All-weaker, Contains-append_left, Contains-append_right}
use Rattle.seg_geometry.specs.declared.near.Filed.{Filed}
use Rattle.seg_geometry.specs.declared.rectangles.Rect.{Rect}
use Rattle.seg_geometry.specs.Rectangles.{Meets}
use Rattle.area_geometry.specs.Copper.{Copper}
use Rattle.area_geometry.specs.Apart.{AreShapesApart}
use Rattle.area_geometry.proofs.Missed.{apart_by_boxes}
use Rattle.board_items.specs.declared.items.Item.{Item}
use Rattle.board_items.specs.declared.items.Padstack.{Padstack}
use Rattle.board_items.specs.Shapes.{copper_of_item}
use Rattle.board_rules.specs.declared.design.Parts.{Parts}
use Rattle.board_rules.specs.Needs.{need_in, largest_of, AreApart, Keeps, KeepsNeed}
use Rattle.board_rules.proofs.Gaps.{largest_need}
use Rattle.number_slots.specs.Slots.{IsAt}
use Rattle.check_core.specs.Filings.{IsFiledBy, AreFiledUnder, AreFiled, FindsNear, FindsAll}

-- what stands in a part stands in the whole
in_front : (front back all : List Filed) (f : Filed) → all ≡ front ++ back → Contains front f → Contains all f
in_front front back all f e h = subst (λ (l : List Filed). Contains l f) (sym e) (Contains-append_left front back f h)

in_back : (front back all : List Filed) (f : Filed) → all ≡ front ++ back → Contains back f → Contains all f
in_back front back all f e h = subst (λ (l : List Filed). Contains l f) (sym e) (Contains-append_right front back f h)

-- what some shapes are filed by under a number
record HasPart (d : ℕ) (shapes : List Copper) (filed : List Filed) : Type 0 where
  pub part : List Filed
  pub is : AreFiledUnder d shapes part
  pub within : (f : Filed) → Contains part f → Contains filed f

part_first : (d : ℕ) (shapes : List Copper) (front back filed : List Filed) → filed ≡ front ++ back → AreFiledUnder d shapes front → HasPart d shapes filed
part_first d shapes front back filed e r = record { part = front; is = r; within = λ f h. in_front front back filed f e h }

part_later : (d : ℕ) (shapes : List Copper) (front back filed : List Filed) → filed ≡ front ++ back → HasPart d shapes back → HasPart d shapes filed
part_later d shapes front back filed e h = record { part = h.part; is = h.is; within = λ f k. in_back front back filed f e (h.within f k) }

-- what a live item is filed by
part_of : (stacks : List Padstack) (live : List (ℕ × Item)) (filed : List Filed) (d : ℕ) (y : Item) → AreFiled stacks live filed → IsAt live d y → HasPart d (copper_of_item stacks y) filed
part_of stacks [] filed d y h f = absurd f
part_of stacks (l ∷ rest) filed d y (front, back, e, r, j) (inl f) =
    part_first d (copper_of_item stacks y) front back filed e
    (subst (λ (i : Item). AreFiledUnder d (copper_of_item stacks i) front) f.1 (subst (λ (n : ℕ). AreFiledUnder n (copper_of_item stacks l.1) front) f.0 r))
part_of stacks (l ∷ rest) filed d y (front, back, e, r, j) (inr f) = part_later d (copper_of_item stacks y) front back filed e (part_of stacks rest back d y j f)

meets_turned : (r s : Rect) → Meets r s → Meets s r
meets_turned r s m = record { at = m.at; in_first = m.in_second; in_second = m.in_first }

-- a shape whose box isn't found is apart
shape_apart : (s t : Copper) (by c d : ℕ) (filed : List Filed) (ids : List ℕ) (f : Filed) → c ≤ by → FindsNear by filed ids s → (Contains ids d → ⊥) → IsFiledBy d t f → Contains filed f → AreShapesApart s t c
shape_apart s t by c d filed ids f le near missing here there =
    apart_by_boxes s t c by 0 near.box f.rect (omega arith) near.box_is here.box
    (λ same meets. missing (subst (λ (n : ℕ). Contains ids n) here.of
    (near.found f there (record { on_layer = here.on_layer ∙ sym same; meets = meets_turned near.box f.rect meets }))))

first_is : (f : Filed) (fs : List Filed) → Contains (f ∷ fs) f
first_is f fs = (0, omega arith, refl)

shapes_apart : (s : Copper) (shapes : List Copper) (by c d : ℕ) (filed : List Filed) (ids : List ℕ) (part : List Filed) → c ≤ by → FindsNear by filed ids s → (Contains ids d → ⊥) → AreFiledUnder d shapes part
    → ((f : Filed) → Contains part f → Contains filed f) → AllByRecursion (λ t. AreShapesApart s t c) shapes
shapes_apart s [] by c d filed ids part le near missing under within = tt
shapes_apart s (t ∷ rest) by c d filed ids [] le near missing under within = absurd under
shapes_apart s (t ∷ rest) by c d filed ids (f ∷ fs) le near missing under within = (
  shape_apart s t by c d filed ids f le near missing under.0 (within f (first_is f fs)),
  shapes_apart s rest by c d filed ids fs le near missing under.1 (λ g h. within g (Contains-append_right (f ∷ []) fs g h)),
)

item_apart : (p : Parts) (x y : Item) (by c d : ℕ) (filed : List Filed) (ids : List ℕ) → c ≤ by → FindsAll by (copper_of_item p.stacks x) filed ids → (Contains ids d → ⊥) → HasPart d (copper_of_item p.stacks y) filed
    → AreApart p.stacks x y c
item_apart p x y by c d filed ids le finds missing part = record {
  apart = All-weaker (FindsNear by filed ids) (λ s. All (λ t. AreShapesApart s t c) (copper_of_item p.stacks y))
      (λ s near. All-from_recursion (λ t. AreShapesApart s t c) (copper_of_item p.stacks y)
      (shapes_apart s (copper_of_item p.stacks y) by c d filed ids part.part le near missing part.is part.within))
      (copper_of_item p.stacks x) finds.all;
}

keeps_by : (p : Parts) (rules : List (Option ℕ)) (x y : Item) (o : Option ℕ) → need_in p rules x y ≡ o → ((c : ℕ) → c ≤ largest_of p rules → AreApart p.stacks x y c) → Keeps p.stacks x y o
keeps_by p rules x y None e h = tt
keeps_by p rules x y (Some c) e h = h c (largest_need p rules x y c e)

-- a live item whose number isn't found near an item's boxes, moved out by the largest clearance, keeps what it must
pub kept_where_missing : (p : Parts) (rules : List (Option ℕ)) (x : Item) (live : List (ℕ × Item)) (filed : List Filed) (ids : List ℕ) (d : ℕ) (y : Item) → AreFiled p.stacks live filed
    → FindsAll (largest_of p rules) (copper_of_item p.stacks x) filed ids → IsAt live d y → (Contains ids d → ⊥) → KeepsNeed p rules x y
kept_where_missing p rules x live filed ids d y all finds at missing = record {
  keeps = keeps_by p rules x y (need_in p rules x y) refl (λ c le. item_apart p x y (largest_of p rules) c d filed ids le finds missing (part_of p.stacks live filed d y all at));
}
