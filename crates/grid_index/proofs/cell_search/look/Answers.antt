use Rattle.std.proofs.Common.{◌≡◌, ℕ, ◌∙◌, subst, arith}
use Rattle.std.proofs.lemmas.List.{get_or_default}
use Rattle.near_slots.specs.Tables.{Table}
use Rattle.near_slots.specs.Looks.{Looks}
use Rattle.grid_index.specs.Cells.{shift_of}
use Rattle.grid_index.specs.Levels.{level_at, IsAsked}
use Rattle.grid_index.proofs.LevelLemmas.{none_at}
use Rattle.grid_index.proofs.SearchLemmas.{Looks-levels_more}
use Rattle.near_slots.proofs.LookLemmas.{Looks-none}
use Rattle.grid_index.proofs.cell_search.look.Goals as goal

pub loop-level-init : goal.loop-level-init
loop-level-init c = Looks-none _ _ _ _ _ (λ k w. let h = w.below in omega arith)

pub loop-level-preserved : goal.loop-level-preserved
loop-level-preserved c =
    let s = c.args.search.now in
    let levels = c.args.levels.now in
    let level = c.loop-level.level in
    let here : c.index-levels-level.result ≡ level_at levels level = c.index-levels-level.is ∙ get_or_default levels level _ none_at c.loop-level-test.true in
    Looks-levels_more _ _ _ levels level _ _ _ c.loop-level.invariant
    (subst (λ (t : Table). Looks s.shelf.now s.layer s.rect (IsAsked t s.layer (shift_of level) s.rect) c.loop-level.found.items c.look_by.new.found.items) here
    (subst (λ (shift : ℕ). Looks s.shelf.now s.layer s.rect (IsAsked c.index-levels-level.result s.layer shift s.rect) c.loop-level.found.items c.look_by.new.found.items)
    c.shift_of.ensures c.in_ok-look_by.ensures))
