use Rattle.std.proofs.Common.{◌≡◌, ◌≤◌, ◌<◌, ◌^◌, ℕ, List, length, subst}
use Rattle.std.specs.Prelude.{Some, slice_get, ◌↔◌}
use Rattle.std.specs.List.{Contains}
use Rattle.area_geometry.specs.Copper.{copper_of}
use Rattle.board_items.specs.Adds.{item_seen}
use Rattle.board_items.specs.Shapes.{copper_of_item}
use Rattle.board_items.specs.declared.items.Padstack.{Padstack}
use Rattle.check_core.proofs.Found.{found_more, found_all, sound_more, sound_all}
use Rattle.check_core.proofs.nearest.found_near.Goals as goal

pub loop-i-preserved : goal.loop-i-preserved
loop-i-preserved g c =
    let shapes = copper_of_item c.args.design.now.parts.stacks (item_seen c.args.item) in
    let s = copper_of c.shape_at.result in
    let is = subst (λ (stacks : List Padstack). slice_get (copper_of_item stacks (item_seen c.args.item)) c.loop-i.i ≡ Some s) c.stacks-stacks.ensures c.shape_at.ensures in
    let added = c.in_ok-add_near.ensures in record {
      all = found_more c.args.by (g.N.Near.filed c.args.near.now) shapes c.loop-i.i s c.loop-i.found c.add_near.new.found is added.kept added.found c.loop-i.invariant.all;
      sound = sound_more c.args.by (g.N.Near.filed c.args.near.now) shapes c.loop-i.i s c.loop-i.found c.add_near.new.found is added.sound c.loop-i.invariant.sound;
    }

pub returns-clause-all : goal.returns-clause-all
returns-clause-all g c =
    let shapes = copper_of_item c.args.design.now.parts.stacks (item_seen c.args.item) in
    let few = subst (λ (stacks : List Padstack). length (copper_of_item stacks (item_seen c.args.item)) < 2 ^ 32 → c.shape_count-i-end.result ≡ length (copper_of_item stacks (item_seen c.args.item))) c.stacks-stacks.ensures c.shape_count-i-end.ensures.few in
    let count = few c.requires.item_fits.few in
    let past = subst (λ (m : ℕ). m ≤ c.loop-i.i) count c.loop-i-test.false in
    let same = subst (λ (l : List ℕ). (id : ℕ) → Contains c.rising.result id ↔ Contains l id) c.into_vec.ensures c.rising.ensures.same in
    found_all c.args.by (g.N.Near.filed c.args.near.now) shapes c.loop-i.i c.loop-i.found c.rising.result past same c.rising.ensures.rising c.loop-i.invariant.all

pub returns-clause-sound : goal.returns-clause-sound
returns-clause-sound g c =
    let shapes = copper_of_item c.args.design.now.parts.stacks (item_seen c.args.item) in
    let few = subst (λ (stacks : List Padstack). length (copper_of_item stacks (item_seen c.args.item)) < 2 ^ 32 → c.shape_count-i-end.result ≡ length (copper_of_item stacks (item_seen c.args.item))) c.stacks-stacks.ensures c.shape_count-i-end.ensures.few in
    let count = few c.requires.item_fits.few in
    let past = subst (λ (m : ℕ). m ≤ c.loop-i.i) count c.loop-i-test.false in
    let same = subst (λ (l : List ℕ). (id : ℕ) → Contains c.rising.result id ↔ Contains l id) c.into_vec.ensures c.rising.ensures.same in
    sound_all c.args.by (g.N.Near.filed c.args.near.now) shapes c.loop-i.i c.loop-i.found c.rising.result past same c.loop-i.invariant.sound
