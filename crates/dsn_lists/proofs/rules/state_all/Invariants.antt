use Rattle.std.proofs.Common.{◌≡◌, length}
use Rattle.sexp_text.specs.Shows.{forest}
use Rattle.dsn_lists.specs.Rules.{stated_for}
use Rattle.dsn_lists.proofs.rules.state_all.Given as goal

abbrev pub invariant-words : goal.invariant-words
invariant-words l = stated_for l.stated l.value (forest l.rest) ≡ stated_for l.initial.stated l.value (forest l.initial.rest)

abbrev pub decreases-words : goal.decreases-words
decreases-words l = length l.rest.entries.now
