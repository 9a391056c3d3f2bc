use Rattle.std.proofs.Common.{ℕ, List, sym, subst, ap, ◌∙◌, ◌++◌}
use Rattle.std.specs.List.{Contains}
use Rattle.std.proofs.lemmas.List.Elements.{Contains-append_left}
use Rattle.area_geometry.specs.Copper.{copper_of}
use Rattle.check_core.proofs.Found.{found_of, sound_of}
use Rattle.check_core.proofs.nearest.add_near.Goals as goal

pub returns-clause-kept : goal.returns-clause-kept
returns-clause-kept g c = λ id h. subst (λ (l : List ℕ). Contains l id) (sym c.in_ok-append_all.ensures) (Contains-append_left c.args.found.now c.into_vec.result.items id h)

pub returns-clause-found : goal.returns-clause-found
returns-clause-found g c =
    let e = c.in_ok-append_all.ensures ∙ ap (λ (l : List ℕ). c.args.found.now ++ l) c.into_vec.ensures in
    found_of c.args.by (g.N.Near.filed c.args.near.now) (copper_of c.args.shape) c.box_of.result c.in_ok-ids.ids c.args.found.now c.append_all.new.self c.box_of.ensures c.in_ok-ids.ensures e

pub returns-clause-sound : goal.returns-clause-sound
returns-clause-sound g c =
    let e = c.in_ok-append_all.ensures ∙ ap (λ (l : List ℕ). c.args.found.now ++ l) c.into_vec.ensures in
    sound_of c.args.by (g.N.Near.filed c.args.near.now) (copper_of c.args.shape) c.box_of.result c.in_ok-ids.ids c.args.found.now c.append_all.new.self c.box_of.ensures c.in_ok-ids.ensures e
