use Rattle.std.proofs.Common.{arith}
use Rattle.client_replica.specs.Replicas.{first_of}
use Rattle.client_replica.proofs.Steady.{counts}
use Rattle.client_replica.proofs.laws.a_replica_counts_its_entries.Goals as goal

pub returns : goal.returns
returns c = λ p entries r follows. let all = counts (first_of p) entries r follows in omega (arith, all)
