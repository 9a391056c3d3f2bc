use Rattle.std.proofs.Common.{length}
use Rattle.client_feed.proofs.Feeding.{IsRead}
use Rattle.client_feed.proofs.feeds.read_lines.Given as goal

abbrev pub invariant-lines : goal.invariant-lines
invariant-lines l = IsRead l.bytes l.entries l.rest

abbrev pub decreases-lines : goal.decreases-lines
decreases-lines l = length l.rest
