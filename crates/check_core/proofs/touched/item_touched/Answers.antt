use Rattle.std.proofs.Common.{◌≡◌, ◌++◌, List, ℕ, ap, subst, ◌∙◌, true}
use Rattle.std.specs.Prelude.{◌↔◌, if◌then◌else◌, is_ok}
use Rattle.board_items.specs.Adds.{item_seen}
use Rattle.board_items.specs.Shapes.{copper_of_item}
use Rattle.board_items.specs.declared.items.Padstack.{Padstack}
use Rattle.boundaries.specs.Boundaries.{Boundary}
use Rattle.boundaries.specs.Touching.{IsTouched}
use Rattle.number_slots.specs.Slots.{is_among}
use Rattle.check_core.proofs.Growth.{grows_if}
use Rattle.check_core.proofs.touched.item_touched.Goals as goal

pub returns-clause-found : goal.returns-clause-found
returns-clause-found g c =
    let shapes = copper_of_item c.args.design.now.parts.stacks (item_seen c.args.item) in
    let ids = c.in_ok-ids.ids in
    let exact = subst (λ (fences : List (ℕ × Boundary)). (n : ℕ) → (is_among n ids ≡ true) ↔ IsTouched fences shapes n) c.fences.ensures.fences
    (subst (λ (stacks : List Padstack). (n : ℕ) → (is_among n ids ≡ true) ↔ IsTouched c.fences.result.now.fences (copper_of_item stacks (item_seen c.args.item)) n) c.stacks.ensures c.in_ok-ids.ensures.exact) in
    grows_if (IsTouched c.args.board.now.fences shapes) c.append_all.result ids c.args.found.now c.append_all.new.self
    (c.append_all.ensures ∙ ap (λ (l : List ℕ). if is_ok c.append_all.result then c.args.found.now ++ l else c.args.found.now) c.into_vec.ensures) exact
