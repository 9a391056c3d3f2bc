use Rattle.layout_server.specs.Words.{names_in}
use Rattle.whole_files.specs.Words.{texts, text_at}
use Rattle.layout_server.specs.Headline.{ReplayStop}
use Rattle.layout_server.specs.Checks.{CheckStop}
use Rattle.layout_server.proofs.Words.{asked_three}
use Rattle.whole_files.proofs.Words.{asked_one}
use Rattle.whole_files.proofs.Statuses.{never_1, is_status, usage_counts}
use Rattle.layout_server.proofs.Ended.{replay_counts, replay_asked, replay_complete}
use Rattle.layout_server.proofs.CheckEnded.{check_counts, check_asked, check_complete}
use Rattle.layout_server.proofs.run.run.Goals as goal

pub returns-then-is_replay-clause-usage : goal.returns-then-is_replay-clause-usage
returns-then-is_replay-clause-usage g c = λ one.
    absurd (never_1 (ReplayStop (names_in (texts c.args.words.now)) (g.F.Files.told c.args.files.now) (g.F.Files.told c.run_replay.new.files) (g.O.Sink.told c.args.out.now)) (g.O.Sink.told c.run_replay.new.out) c.run_replay.result c.run_replay.ensures.stopped one)

pub returns-then-is_replay-clause-statuses : goal.returns-then-is_replay-clause-statuses
returns-then-is_replay-clause-statuses g c =
    is_status (ReplayStop (names_in (texts c.args.words.now)) (g.F.Files.told c.args.files.now) (g.F.Files.told c.run_replay.new.files) (g.O.Sink.told c.args.out.now)) (g.O.Sink.told c.run_replay.new.out) c.run_replay.result c.run_replay.ensures.stopped

pub returns-then-is_replay-clause-counts : goal.returns-then-is_replay-clause-counts
returns-then-is_replay-clause-counts g c =
    replay_counts (names_in (texts c.args.words.now)) (g.F.Files.told c.args.files.now) (g.F.Files.told c.run_replay.new.files) (g.O.Sink.told c.args.out.now) (g.O.Sink.told c.run_replay.new.out) c.run_replay.result c.run_replay.ensures.ok c.run_replay.ensures.stopped

pub returns-then-is_replay-clause-asked : goal.returns-then-is_replay-clause-asked
returns-then-is_replay-clause-asked g c =
    asked_three c.args.words.now (g.F.Files.told c.args.files.now).asked (g.F.Files.told c.run_replay.new.files).asked (c.is_replay.ensures.four c.if-is_replay.true)
    (replay_asked (names_in (texts c.args.words.now)) (g.F.Files.told c.args.files.now) (g.F.Files.told c.run_replay.new.files) (g.O.Sink.told c.args.out.now) (g.O.Sink.told c.run_replay.new.out) c.run_replay.result c.run_replay.ensures.ok c.run_replay.ensures.stopped)

pub returns-then-is_replay-clause-complete : goal.returns-then-is_replay-clause-complete
returns-then-is_replay-clause-complete g c = λ d steps form has none.
    replay_complete (names_in (texts c.args.words.now)) d steps (g.F.Files.told c.args.files.now) (g.F.Files.told c.run_replay.new.files) (g.O.Sink.told c.args.out.now) (g.O.Sink.told c.run_replay.new.out) c.run_replay.result c.run_replay.ensures.stopped has none

pub returns-then-is_check-clause-usage : goal.returns-then-is_check-clause-usage
returns-then-is_check-clause-usage g c = λ one.
    absurd (never_1 (CheckStop (text_at (texts c.args.words.now) 1) (g.F.Files.told c.args.files.now) (g.F.Files.told c.run_check.new.files) (g.O.Sink.told c.args.out.now)) (g.O.Sink.told c.run_check.new.out) c.run_check.result c.run_check.ensures.stopped one)

pub returns-then-is_check-clause-statuses : goal.returns-then-is_check-clause-statuses
returns-then-is_check-clause-statuses g c =
    is_status (CheckStop (text_at (texts c.args.words.now) 1) (g.F.Files.told c.args.files.now) (g.F.Files.told c.run_check.new.files) (g.O.Sink.told c.args.out.now)) (g.O.Sink.told c.run_check.new.out) c.run_check.result c.run_check.ensures.stopped

pub returns-then-is_check-clause-counts : goal.returns-then-is_check-clause-counts
returns-then-is_check-clause-counts g c =
    check_counts (text_at (texts c.args.words.now) 1) (g.F.Files.told c.args.files.now) (g.F.Files.told c.run_check.new.files) (g.O.Sink.told c.args.out.now) (g.O.Sink.told c.run_check.new.out) c.run_check.result c.run_check.ensures.ok c.run_check.ensures.stopped

pub returns-then-is_check-clause-asked : goal.returns-then-is_check-clause-asked
returns-then-is_check-clause-asked g c =
    asked_one c.args.words.now (g.F.Files.told c.args.files.now).asked (g.F.Files.told c.run_check.new.files).asked (c.is_check.ensures.two c.if-is_check.true)
    (check_asked (text_at (texts c.args.words.now) 1) (g.F.Files.told c.args.files.now) (g.F.Files.told c.run_check.new.files) (g.O.Sink.told c.args.out.now) (g.O.Sink.told c.run_check.new.out) c.run_check.result c.run_check.ensures.ok c.run_check.ensures.stopped)

pub returns-then-is_check-clause-check_complete : goal.returns-then-is_check-clause-check_complete
returns-then-is_check-clause-check_complete g c = λ d form has none.
    check_complete (text_at (texts c.args.words.now) 1) d (g.F.Files.told c.args.files.now) (g.F.Files.told c.run_check.new.files) (g.O.Sink.told c.args.out.now) (g.O.Sink.told c.run_check.new.out) c.run_check.result c.run_check.ensures.stopped has none

pub returns-clause-counts : goal.returns-clause-counts
returns-clause-counts g c = usage_counts (g.F.Files.told c.args.files.now) (g.O.Sink.told c.args.out.now) (g.O.Sink.told c.tell.new.out)
