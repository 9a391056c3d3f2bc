use Rattle.std.proofs.Common.{rules, ◌≡◌, w8, refl, FitsSigned}
use Rattle.std.specs.Prelude.{◌-ℤ◌, ◌*ℤ◌}
use Rattle.std.proofs.lemmas.Int.{to_z-of_z}
use Rattle.seg_geometry.specs.Points.{turn_of}
use Rattle.seg_geometry.specs.Products.{signed}
use Rattle.seg_geometry.proofs.TurnSigns.{left_is, right_is, straight_is}
use Rattle.seg_geometry.proofs.turns.cross_sign.Goals as goal

pub returns-clause-left : goal.returns-clause-left
returns-clause-left c =
    let r : FitsSigned w8 c.order.result = search rules in
    let bx : c.apart.result ≡ c.args.b.x -ℤ c.args.a.x = search rules in
    let cy : c.apart-2.result ≡ c.args.c.y -ℤ c.args.a.y = search rules in
    let by : c.apart-3.result ≡ c.args.b.y -ℤ c.args.a.y = search rules in
    let cx : c.apart-4.result ≡ c.args.c.x -ℤ c.args.a.x = search rules in
    let p : signed c.multiply-first.result.negative c.multiply-first.result.size ≡ c.apart.result *ℤ c.apart-2.result = search rules in
    let q : signed c.multiply-second.result.negative c.multiply-second.result.size ≡ c.apart-3.result *ℤ c.apart-4.result = search rules in
    let e : turn_of c.args.a c.args.b c.args.c ≡ signed c.multiply-first.result.negative c.multiply-first.result.size -ℤ signed c.multiply-second.result.negative c.multiply-second.result.size = rw (p, q, bx, cy, by, cx) refl in
    simp (to_z-of_z _ _ r) (left_is _ _ _ c.order.result e c.order.ensures.more)

pub returns-clause-right : goal.returns-clause-right
returns-clause-right c =
    let r : FitsSigned w8 c.order.result = search rules in
    let bx : c.apart.result ≡ c.args.b.x -ℤ c.args.a.x = search rules in
    let cy : c.apart-2.result ≡ c.args.c.y -ℤ c.args.a.y = search rules in
    let by : c.apart-3.result ≡ c.args.b.y -ℤ c.args.a.y = search rules in
    let cx : c.apart-4.result ≡ c.args.c.x -ℤ c.args.a.x = search rules in
    let p : signed c.multiply-first.result.negative c.multiply-first.result.size ≡ c.apart.result *ℤ c.apart-2.result = search rules in
    let q : signed c.multiply-second.result.negative c.multiply-second.result.size ≡ c.apart-3.result *ℤ c.apart-4.result = search rules in
    let e : turn_of c.args.a c.args.b c.args.c ≡ signed c.multiply-first.result.negative c.multiply-first.result.size -ℤ signed c.multiply-second.result.negative c.multiply-second.result.size = rw (p, q, bx, cy, by, cx) refl in
    simp (to_z-of_z _ _ r) (right_is _ _ _ c.order.result e c.order.ensures.less)

pub returns-clause-straight : goal.returns-clause-straight
returns-clause-straight c =
    let r : FitsSigned w8 c.order.result = search rules in
    let bx : c.apart.result ≡ c.args.b.x -ℤ c.args.a.x = search rules in
    let cy : c.apart-2.result ≡ c.args.c.y -ℤ c.args.a.y = search rules in
    let by : c.apart-3.result ≡ c.args.b.y -ℤ c.args.a.y = search rules in
    let cx : c.apart-4.result ≡ c.args.c.x -ℤ c.args.a.x = search rules in
    let p : signed c.multiply-first.result.negative c.multiply-first.result.size ≡ c.apart.result *ℤ c.apart-2.result = search rules in
    let q : signed c.multiply-second.result.negative c.multiply-second.result.size ≡ c.apart-3.result *ℤ c.apart-4.result = search rules in
    let e : turn_of c.args.a c.args.b c.args.c ≡ signed c.multiply-first.result.negative c.multiply-first.result.size -ℤ signed c.multiply-second.result.negative c.multiply-second.result.size = rw (p, q, bx, cy, by, cx) refl in
    simp (to_z-of_z _ _ r) (straight_is _ _ _ c.order.result e c.order.ensures.same)
