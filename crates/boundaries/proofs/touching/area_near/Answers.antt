use Rattle.std.proofs.Common.{sym, subst}
use Rattle.area_geometry.specs.Copper.{Copper}
use Rattle.area_geometry.specs.Boxes.{IsBox}
use Rattle.boundaries.proofs.touching.area_near.Goals as goal

pub touches_framed-requires-clause-own : goal.touches_framed-requires-clause-own
touches_framed-requires-clause-own g c = subst (λ (s : Copper). IsBox c.args.own s 1) (sym c.area_view.ensures) (record { box = c.requires.own })
