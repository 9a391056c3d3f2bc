use Rattle.std.proofs.Common.{ℕ, List, subst}
use Rattle.std.specs.List.{Contains, Any}
use Rattle.std.specs.Prelude.{◌≡◌, ◌↔◌}
use Rattle.seg_geometry.specs.declared.near.Filed.{Filed}
use Rattle.seg_geometry.specs.Near.{IsNear}
use Rattle.near_slots.specs.Tables.{Table}
use Rattle.near_slots.specs.Looks.{Looks}
use Rattle.grid_index.specs.Cells.{level_count}
use Rattle.grid_index.specs.Levels.{IsAskedBelow}
use Rattle.grid_index.proofs.SearchLemmas.{found-exactly}
use Rattle.grid_index.proofs.grid.Grid.found.Goals as goal

pub returns : goal.returns
returns c =
    let shelf = c.self.inside.shelf in
    let levels = c.self.inside.levels.items in
    let found = c.look.new.found.items in
    let by_levels = subst (λ (ts : List Table). Looks shelf c.args.layer c.args.rect (IsAskedBelow ts c.args.layer c.args.rect level_count) c.new-found.result.items found)
    c.deref.ensures.value c.in_ok-look.ensures in
    let from_none = subst (λ (ids : List ℕ). Looks shelf c.args.layer c.args.rect (IsAskedBelow levels c.args.layer c.args.rect level_count) ids found)
    c.new-found.ensures.items by_levels in
    subst (λ (filed : List Filed). (id : ℕ) → Contains found id ↔ Any (λ p. (p.id ≡ id) × IsNear c.args.layer c.args.rect p) filed) c.self.view_is
    (found-exactly levels shelf c.args.layer c.args.rect found c.self.invariant from_none)
