use Rattle.std.proofs.Common.{ap, ◌∙◌}
use Rattle.dsn_shapes.specs.Quotas.{item_less, quota_behind}
use Rattle.dsn_shapes.proofs.Clauses.{quota_if_found, quota_if_none, quota_if_taken}
use Rattle.dsn_shapes.proofs.quotas.quota_behind.Goals as goal

pub returns-clause-found : goal.returns-clause-found
unfolding quota_behind
returns-clause-found c = quota_if_found c.args.quota c.args.shapes.now c.item_less.result (c.item_less.ensures ∙ ap (item_less c.args.quota) c.less_all.ensures)

pub returns-clause-only : goal.returns-clause-only
unfolding quota_behind
returns-clause-only c = λ left h. quota_if_taken c.args.quota left c.args.shapes.now c.item_less.result (c.item_less.ensures ∙ ap (item_less c.args.quota) c.less_all.ensures) h

pub returns-clause-none : goal.returns-clause-none
unfolding quota_behind
returns-clause-none c = quota_if_none c.args.quota c.args.shapes.now c.item_less.result (c.item_less.ensures ∙ ap (item_less c.args.quota) c.less_all.ensures)
