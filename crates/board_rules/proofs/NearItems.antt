-- Items that aren't near by their boxes keep their need.
use Rattle.std.proofs.Common.{◌≡◌, ◌≤◌, ◌⊎◌, inl, inr, ℕ, List, [], ◌∷◌, refl, arith}
use Rattle.std.specs.Prelude.{Option, Some, None, All}
use Rattle.std.specs.List.{Contains, AllByRecursion}
use Rattle.std.proofs.lemmas.List.Elements.{All-from_recursion, Contains-append_left, Contains-append_right}
use Rattle.area_geometry.specs.Copper.{Copper}
use Rattle.area_geometry.specs.Apart.{AreShapesApart}
use Rattle.area_geometry.specs.Boxes.{AreBoxesNear}
use Rattle.area_geometry.proofs.Missed.{near_or_apart}
use Rattle.board_items.specs.declared.items.Item.{Item}
use Rattle.board_items.specs.Shapes.{copper_of_item}
use Rattle.board_rules.specs.declared.design.Parts.{Parts}
use Rattle.board_rules.specs.Needs.{need_in, largest_of, Keeps, KeepsNeed}
use Rattle.board_rules.specs.NearItems.{AreItemsNear}
use Rattle.board_rules.proofs.Gaps.{largest_need}

-- a shape of each of two lists, near each other
record HasNear (by : ℕ) (ss ts : List Copper) : Type 0 where
  pub s : Copper
  pub t : Copper
  pub s_is : Contains ss s
  pub t_is : Contains ts t
  pub near : AreBoxesNear by s t

first_is : (s : Copper) (rest : List Copper) → Contains (s ∷ rest) s
first_is s rest = (0, omega arith, refl)

near_one : (by c : ℕ) → c ≤ by → (s : Copper) (ts : List Copper) → HasNear by (s ∷ []) ts ⊎ AllByRecursion (λ t. AreShapesApart s t c) ts
near_one by c le s [] = inr tt
near_one by c le s (t ∷ rest) = elim (near_or_apart s t c by le) [
  | inl n ↦ inl (record { s = s; t = t; s_is = first_is s []; t_is = first_is t rest; near = n })
  | inr apart ↦ elim (near_one by c le s rest) [
    | inl h ↦ inl (record { s = h.s; t = h.t; s_is = h.s_is; t_is = Contains-append_right (t ∷ []) rest h.t h.t_is; near = h.near })
    | inr all ↦ inr (apart, all)
  ]
]

near_two : (by c : ℕ) → c ≤ by → (ss ts : List Copper) → HasNear by ss ts ⊎ AllByRecursion (λ s. All (λ t. AreShapesApart s t c) ts) ss
near_two by c le [] ts = inr tt
near_two by c le (s ∷ rest) ts = elim (near_one by c le s ts) [
  | inl h ↦ inl (record { s = h.s; t = h.t; s_is = Contains-append_left (s ∷ []) rest h.s h.s_is; t_is = h.t_is; near = h.near })
  | inr all ↦ elim (near_two by c le rest ts) [
    | inl h ↦ inl (record { s = h.s; t = h.t; s_is = Contains-append_right (s ∷ []) rest h.s h.s_is; t_is = h.t_is; near = h.near })
    | inr more ↦ inr (All-from_recursion (λ t. AreShapesApart s t c) ts all, more)
  ]
]

near_by : (p : Parts) (rules : List (Option ℕ)) (a b : Item) (o : Option ℕ) → need_in p rules a b ≡ o → AreItemsNear p.stacks (largest_of p rules) a b ⊎ Keeps p.stacks a b o
near_by p rules a b None e = inr tt
near_by p rules a b (Some c) e = elim (near_two (largest_of p rules) c (largest_need p rules a b c e) (copper_of_item p.stacks a) (copper_of_item p.stacks b)) [
  | inl h ↦ inl (record { shape = h.s; other = h.t; shape_is = h.s_is; other_is = h.t_is; near = h.near })
  | inr all ↦ inr (record { apart = All-from_recursion (λ s. All (λ t. AreShapesApart s t c) (copper_of_item p.stacks b)) (copper_of_item p.stacks a) all })
]

-- items are near by their boxes, or have no need, or keep it
pub near_or_keeps : (p : Parts) (rules : List (Option ℕ)) (a b : Item) → AreItemsNear p.stacks (largest_of p rules) a b ⊎ KeepsNeed p rules a b
near_or_keeps p rules a b = elim (near_by p rules a b (need_in p rules a b) refl) [ inl near ↦ inl near | inr keeps ↦ inr (record { keeps = keeps }) ]
