use Rattle.std.proofs.Common.{ℕ, List, [], ◌∷◌, ◌++◌, Option, ap, ◌∙◌, subst}
use Rattle.seg_geometry.specs.declared.near.Filed.{Filed}
use Rattle.near_slots.specs.Slots.{filed_in}
use Rattle.grid_index.specs.Levels.{IsInCell}
use Rattle.grid_index.proofs.LevelLemmas.{AreInCells-kept, AreInCells-push}
use Rattle.near_slots.proofs.SlotLemmas.{filed_in-push}
use Rattle.grid_index.proofs.grid.GridNear.insert.Goals as goal

pub invariant_of-self : goal.invariant_of-self
invariant_of-self c = AreInCells-kept _ _ _ c.in_err-put_in_cell.ensures.kept c.self.invariant

pub invariant_of-self-in_err-push : goal.invariant_of-self-in_err-push
invariant_of-self-in_err-push c = rw c.in_err-push.ensures (AreInCells-kept _ _ _ c.in_ok-put_in_cell.ensures.kept c.self.invariant)

pub invariant_of-self-2 : goal.invariant_of-self-2
invariant_of-self-2 c =
    let p : Filed = record { id = c.args.id; layer = c.args.layer; rect = c.args.rect } in
    rw c.in_ok-push.ensures (AreInCells-push c.put_in_cell.new.levels.items c.self.inside.shelf p (AreInCells-kept _ _ _ c.in_ok-put_in_cell.ensures.kept c.self.invariant)
    (subst (λ (k : ℕ). IsInCell c.put_in_cell.new.levels.items p k) c.len.ensures c.in_ok-put_in_cell.ensures.added))

pub returns : goal.returns
returns c =
    let p : Filed = record { id = c.args.id; layer = c.args.layer; rect = c.args.rect } in
    ap (λ (s : List (Option Filed)). filed_in s) c.in_ok-push.ensures ∙ filed_in-push c.self.inside.shelf p ∙ ap (λ (ps : List Filed). ps ++ p ∷ []) c.self.view_is
