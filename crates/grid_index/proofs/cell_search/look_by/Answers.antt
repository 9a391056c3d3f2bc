use Rattle.std.proofs.Common.{rules, w64, FitsSigned, arith}
use Rattle.std.proofs.lemmas.Int.{to_z-of_z}
use Rattle.std.proofs.lemmas.Result.{on_ok_weaker}
use Rattle.near_slots.specs.Tables.{IsIn}
use Rattle.grid_index.specs.Levels.{IsInColumns}
use Rattle.near_slots.proofs.LookLemmas.{Looks-fewer}
use Rattle.grid_index.proofs.cell_search.look_by.Goals as goal

pub returns-then-saturating_mul-all : goal.returns-then-saturating_mul-all
returns-then-saturating_mul-all c =
    let columns = c.span_of-columns.result in
    let rows = c.span_of-rows.result in
    let a : FitsSigned w64 c.args.search.now.rect.lo.x = search rules in
    let b : FitsSigned w64 c.args.search.now.rect.hi.x = search rules in
    let d : FitsSigned w64 c.args.search.now.rect.lo.y = search rules in
    let e : FitsSigned w64 c.args.search.now.rect.hi.y = search rules in
    let left = simp (to_z-of_z _ _ a) at c.span_of-columns.ensures.from in
    let right = simp (to_z-of_z _ _ b) at c.span_of-columns.ensures.to in
    let low = simp (to_z-of_z _ _ d) at c.span_of-rows.ensures.from in
    let high = simp (to_z-of_z _ _ e) at c.span_of-rows.ensures.to in
    on_ok_weaker c.look_in_cells.result
    (Looks-fewer _ _ _ (IsInColumns c.args.cells.now c.args.search.now.layer columns.0 columns.1 rows.0 rows.1) _ _ _
    (λ k w. record {
      column = w.column;
      low = omega (arith, left, w.low);
      high = omega (arith, right, w.high);
      stands = record {
        row = w.stands.row;
        low = omega (arith, low, w.stands.low);
        high = omega (arith, high, w.stands.high);
        key = w.stands.key;
        stands = w.stands.stands;
      };
    }))
    c.look_in_cells.ensures

pub returns-then-all-le-FEW_BUCKETS : goal.returns-then-all-le-FEW_BUCKETS
returns-then-all-le-FEW_BUCKETS c = on_ok_weaker c.look_through.result
    (Looks-fewer _ _ _ (IsIn c.args.cells.now) _ _ _ (λ s w. w.stands.stands)) c.look_through.ensures

pub returns-else-saturating_mul-all : goal.returns-else-saturating_mul-all
returns-else-saturating_mul-all c = on_ok_weaker c.look_through-else-saturating_mul-all.result
    (Looks-fewer _ _ _ (IsIn c.args.cells.now) _ _ _ (λ s w. w.stands.stands)) c.look_through-else-saturating_mul-all.ensures
