use Rattle.std.proofs.Common.{rules, ◌∙◌}
use Rattle.std.specs.Prelude.{nat_eq}
use Rattle.indexmap.specs.IndexMap.{get}
use Rattle.reservations.proofs.Found.{lost_holder, found_holder}
use Rattle.reservations.proofs.places.client_at.Goals as goal

pub returns-in_err-place : goal.returns-in_err-place
returns-in_err-place c = c.from_residual.ensures ∙ lost_holder (get nat_eq c.args.index.now) c.args.places.now c.args.id c.requires (search rules)

pub returns : goal.returns
returns c = found_holder (get nat_eq c.args.index.now) c.args.places.now c.args.id c.in_ok-place.place.now c.in_ok-pair.pair c.requires (search rules) (search rules)
