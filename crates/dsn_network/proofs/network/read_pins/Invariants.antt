use Rattle.std.proofs.Common.{◌≡◌, length}
use Rattle.sexp_text.specs.Shows.{forest}
use Rattle.dsn_network.specs.Networks.{pins_of}
use Rattle.dsn_network.proofs.network.read_pins.Given as goal

abbrev pub invariant-words : goal.invariant-words
invariant-words l = pins_of l.names.placement.now l.names.library.now l.net l.pins (forest l.rest) ≡ pins_of l.names.placement.now l.names.library.now l.net l.initial.pins (forest l.initial.rest)

abbrev pub decreases-words : goal.decreases-words
decreases-words l = length l.rest.entries.now
