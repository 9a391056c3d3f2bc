use Rattle.std.proofs.Common.{◌≡◌, [], drop}
use Rattle.boundaries.specs.Boundaries.{with_clients}
use Rattle.boundaries.proofs.clients.ClientSet.of.Given as goal

-- the clients that are left, put in after those so far, are all of them
abbrev pub invariant-loop-client : goal.invariant-loop-client
invariant-loop-client l = with_clients (drop l.client-index l.clients) l.set ≡ with_clients l.clients []
