use Rattle.std.proofs.Common.{◌≡◌, length}
use Rattle.sexp_text.specs.Shows.{forest}
use Rattle.dsn_library.specs.Images.{rotation}
use Rattle.dsn_library.proofs.image_lists.rotation_at.Given as goal

abbrev pub invariant-lists : goal.invariant-lists
invariant-lists l = rotation l.found (forest l.rest) ≡ rotation l.initial.found (forest l.initial.rest)

abbrev pub decreases-lists : goal.decreases-lists
decreases-lists l = length l.rest.entries.now
