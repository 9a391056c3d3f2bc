use Rattle.std.proofs.Common.{◌-◌, sym, ap, ◌∙◌}
use Rattle.std.proofs.lemmas.List.{length-map}
use Rattle.area_geometry.specs.Copper.{copper_of, moved}
use Rattle.area_geometry.proofs.PieceLists.{count_area, count_single, count_chain}
use Rattle.area_geometry.proofs.shapes.ShapeView.piece_count.Goals as goal

pub returns-then-self : goal.returns-then-self
returns-then-self c =
    let n = length-map c.args.self.points.now (moved c.args.self.at) in
    sym (count_area (copper_of c.args.self) c.if-self.true ∙ n)

pub returns-then-count-eq1 : goal.returns-then-count-eq1
returns-then-count-eq1 c =
    let n = length-map c.args.self.points.now (moved c.args.self.at) in
    sym (count_single (copper_of c.args.self) (n ∙ c.if-count-eq1.true))

pub returns-else-count-eq1 : goal.returns-else-count-eq1
returns-else-count-eq1 c =
    let n = length-map c.args.self.points.now (moved c.args.self.at) in
    c.saturating_sub.ensures ∙ ap (λ k. k - 1) (sym n) ∙ sym (count_chain (copper_of c.args.self) c.if-self.false (λ h. c.if-count-eq1.false (sym n ∙ h)))
