use Rattle.std.proofs.Common.{◌≡◌, length}
use Rattle.sexp_text.specs.Shows.{forest}
use Rattle.dsn_lists.specs.Results.{each}
use Rattle.dsn_lists.specs.Rules.{rule_item}
use Rattle.dsn_lists.proofs.rules.read_rule.Given as goal

abbrev pub invariant-lists : goal.invariant-lists
invariant-lists l = each (rule_item l.unit) l.rule (forest l.rest) ≡ each (rule_item l.unit) l.initial.rule (forest l.initial.rest)

abbrev pub decreases-lists : goal.decreases-lists
decreases-lists l = length l.rest.entries.now
