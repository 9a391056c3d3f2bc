use Rattle.std.proofs.Common.{◌≡◌, length}
use Rattle.sexp_text.specs.Shows.{forest}
use Rattle.dsn_lists.specs.Results.{each}
use Rattle.dsn_library.specs.Images.{pin_trail_item}
use Rattle.dsn_library.proofs.image_lists.read_pin_lists.Given as goal

abbrev pub invariant-lists : goal.invariant-lists
invariant-lists l = each pin_trail_item tt (forest l.rest) ≡ each pin_trail_item tt (forest l.initial.rest)

abbrev pub decreases-lists : goal.decreases-lists
decreases-lists l = length l.rest.entries.now
