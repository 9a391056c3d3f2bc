use Rattle.std.proofs.Common.{◌≡◌, sym, ap, ◌∙◌}
use Rattle.std.specs.Prelude.{is_some, nat_eq}
use Rattle.indexmap.specs.IndexMap.{get}
use Rattle.reservations.specs.Held.{holder_of}
use Rattle.reservations.specs.Places.{pairs_of}
use Rattle.reservations.proofs.Pairs.{holder_some, holder_only, holder_none, holder_held}
use Rattle.reservations.proofs.Placed.{index_once}
use Rattle.reservations.proofs.held.Held.holder.Goals as goal

pub returns-clause-some : goal.returns-clause-some
returns-clause-some c = rw (← c.self.view_is) (holder_some _ c.args.id.0 (pairs_of c.self.inside.places.items) (rw c.as_slice.ensures.value at c.client_at.ensures))

pub returns-clause-only : goal.returns-clause-only
returns-clause-only c =
    let once = index_once (get nat_eq c.self.inside.index) c.self.inside.places.items c.self.invariant.index in
    rw (← c.self.view_is) (holder_only _ c.args.id.0 (pairs_of c.self.inside.places.items) (rw c.as_slice.ensures.value at c.client_at.ensures) once)

pub returns-clause-none : goal.returns-clause-none
returns-clause-none c = rw (← c.self.view_is) (holder_none _ c.args.id.0 (pairs_of c.self.inside.places.items) (rw c.as_slice.ensures.value at c.client_at.ensures))

pub returns-clause-held : goal.returns-clause-held
returns-clause-held c =
    let told : c.client_at.result ≡ holder_of c.args.id.0 (pairs_of c.self.inside.places.items) = rw c.as_slice.ensures.value at c.client_at.ensures in
    rw (← c.self.view_is) (holder_held c.args.id.0 (pairs_of c.self.inside.places.items) ∙ ap is_some (sym told))
