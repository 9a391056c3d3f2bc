use Rattle.std.proofs.Common.{◌≡◌, ◌∙◌}
use Rattle.board_rules.proofs.Stating.{typed_most, typed_largest_is}
use Rattle.board_rules.proofs.largest.typed_largest.Goals as goal

pub returns : goal.returns
returns c = let same : c.max-3.result ≡ typed_most c.args.rows.now = cc in same ∙ typed_largest_is c.args.rows.now
