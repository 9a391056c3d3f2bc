use Rattle.std.proofs.Common.{◌≡◌, suc, ◌<◌, length, arith, ◌∙◌}
use Rattle.std.proofs.lemmas.List.{length-map}
use Rattle.area_geometry.specs.Copper.{copper_of, moved}
use Rattle.area_geometry.proofs.PieceLists.{pieces_within, piece_is, follows_within}
use Rattle.area_geometry.proofs.shapes.ShapeView.piece.Goals as goal

pub following-next-requires : goal.following-next-requires
following-next-requires c =
    let n = length-map c.args.self.points.now (moved c.args.self.at) in
    let within = pieces_within (copper_of c.args.self) c.args.i c.requires.within in
    omega arith

pub point-requires-clause-within : goal.point-requires-clause-within
point-requires-clause-within c =
    let n = length-map c.args.self.points.now (moved c.args.self.at) in
    let within = pieces_within (copper_of c.args.self) c.args.i c.requires.within in
    omega arith

pub point-requires-2-clause-within : goal.point-requires-2-clause-within
point-requires-2-clause-within c =
    let n = length-map c.args.self.points.now (moved c.args.self.at) in
    let within = pieces_within (copper_of c.args.self) c.args.i c.requires.within in
    follows_within c.args.i c.following-next.result _ (omega arith) c.following-next.ensures.on c.following-next.ensures.back

pub returns-clause-is : goal.returns-clause-is
returns-clause-is c =
    let n = length-map c.args.self.points.now (moved c.args.self.at) in
    let on : suc c.args.i < length (copper_of c.args.self).points → c.following-next.result ≡ suc c.args.i = λ h. c.following-next.ensures.on (omega arith) ∙ omega arith in
    let back : suc c.args.i ≡ length (copper_of c.args.self).points → c.following-next.result ≡ 0 = λ h. c.following-next.ensures.back (omega arith) in
    piece_is (copper_of c.args.self) c.args.i c.following-next.result c.point.result c.point-2.result c.requires.within c.point.ensures.is c.point-2.ensures.is on back
