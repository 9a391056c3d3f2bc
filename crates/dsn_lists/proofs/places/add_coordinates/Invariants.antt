use Rattle.std.proofs.Common.{◌≡◌, length}
use Rattle.sexp_text.specs.Shows.{forest}
use Rattle.dsn_lists.specs.Places.{coordinates}
use Rattle.dsn_lists.proofs.places.add_coordinates.Given as goal

abbrev pub invariant-words : goal.invariant-words
invariant-words l = coordinates l.unit l.c (forest l.rest) ≡ coordinates l.unit l.initial.c (forest l.initial.rest)

abbrev pub decreases-words : goal.decreases-words
decreases-words l = length l.rest.entries.now
