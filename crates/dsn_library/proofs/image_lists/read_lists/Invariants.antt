use Rattle.std.proofs.Common.{◌≡◌, length}
use Rattle.sexp_text.specs.Shows.{forest}
use Rattle.dsn_lists.specs.Results.{each}
use Rattle.dsn_library.specs.Images.{image_item}
use Rattle.dsn_library.proofs.image_lists.read_lists.Given as goal

abbrev pub invariant-lists : goal.invariant-lists
invariant-lists l = each (image_item l.unit l.layers l.stacks) l.image (forest l.rest) ≡ each (image_item l.unit l.layers l.stacks) l.initial.image (forest l.initial.rest)

abbrev pub decreases-lists : goal.decreases-lists
decreases-lists l = length l.rest.entries.now
