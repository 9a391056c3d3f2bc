use Rattle.std.proofs.Common.{rules, ◌≡◌, ◌∙◌, ap}
use Rattle.std.specs.Prelude.{List}
use Rattle.std.proofs.lemmas.Fn.{filter_same}
use Rattle.seg_geometry.specs.declared.near.Filed.{Filed}
use Rattle.seg_geometry.specs.Near.{without}
use Rattle.near_tests.proofs.scan.ScanNear.remove.Goals as goal

pub returns : goal.returns
returns c =
    let before = c.self.inside.list.items in
    let kept : c.retain.new.self.items ≡ without c.args.id before = filter_same _ _ _ (λ x b f' k. search rules) _ _ c.retain.ensures.filtered in
    kept ∙ ap (λ (fs : List Filed). without c.args.id fs) c.self.view_is
