use Rattle.std.proofs.Common.{◌≡◌}
use Rattle.turn_lock.proofs.steps.take_value.Given as goal

-- the value has the fixed part of the value given to `new`
abbrev pub ghosts-claim_at_last : goal.ghosts-claim_at_last
ghosts-claim_at_last g a = record { says = λ x. g.T.Kept.fixed x ≡ g.T.Kept.fixed a.steps.now.key.value }
