use Rattle.std.proofs.Common.{◌≡◌, length}
use Rattle.sexp_text.specs.Shows.{forest}
use Rattle.dsn_placement.specs.Components.{governing_style}
use Rattle.dsn_placement.proofs.place_lists.style_for.Given as goal

abbrev pub invariant-lists : goal.invariant-lists
invariant-lists l = governing_style l.style (forest l.rest) ≡ governing_style l.initial.style (forest l.initial.rest)

abbrev pub decreases-lists : goal.decreases-lists
decreases-lists l = length l.rest.entries.now
