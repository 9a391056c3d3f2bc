use Rattle.std.proofs.Common.{◌≡◌, length}
use Rattle.sexp_text.specs.Shows.{forest}
use Rattle.dsn_lists.specs.Words.{names}
use Rattle.dsn_lists.proofs.words.add_names.Given as goal

abbrev pub invariant-words : goal.invariant-words
invariant-words l = names l.marks (forest l.rest) ≡ names l.initial.marks (forest l.initial.rest)

abbrev pub decreases-words : goal.decreases-words
decreases-words l = length l.rest.entries.now
