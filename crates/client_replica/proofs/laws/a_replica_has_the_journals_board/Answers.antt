use Rattle.std.proofs.Common.{take}
use Rattle.client_replica.specs.Replicas.{first_of}
use Rattle.client_replica.proofs.Steady.{folds}
use Rattle.client_replica.proofs.laws.a_replica_has_the_journals_board.Goals as goal

pub returns : goal.returns
returns c = λ p journal k r follows. folds (first_of p) (take k journal) r follows
