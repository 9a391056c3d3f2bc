use Rattle.client_feed.proofs.OneFeed.{only_feed, only_bad}
use Rattle.client_feed.proofs.feeds.read_feed.Goals as goal

pub returns-clause-only : goal.returns-clause-only
returns-clause-only c = only_feed c.args.bytes.now c.read_lines.result c.read_lines.ensures.found c.read_lines.ensures.fault

pub returns-clause-first : goal.returns-clause-first
returns-clause-first c = only_bad c.args.bytes.now c.read_lines.result c.read_lines.ensures.found c.read_lines.ensures.fault
