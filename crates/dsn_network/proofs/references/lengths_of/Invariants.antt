use Rattle.dsn_network.proofs.NameLengths.{HaveLengthsBelow}
use Rattle.dsn_network.proofs.references.lengths_of.Given as goal

abbrev pub invariant-names : goal.invariant-names
invariant-names l = HaveLengthsBelow l.place l.names l.lengths.keys
