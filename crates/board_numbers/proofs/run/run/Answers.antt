use Rattle.whole_files.specs.Words.{texts, text_at}
use Rattle.whole_files.proofs.Words.{asked_one}
use Rattle.whole_files.proofs.Statuses.{never_1, usage_counts}
use Rattle.board_numbers.specs.Headline.{NumbersStop}
use Rattle.board_numbers.proofs.Ended.{is_given, numbers_counts, numbers_asked, numbers_complete}
use Rattle.board_numbers.proofs.run.run.Goals as goal

pub returns-then-is_numbers-clause-usage : goal.returns-then-is_numbers-clause-usage
returns-then-is_numbers-clause-usage g c = λ one.
    absurd (never_1 (NumbersStop (text_at (texts c.args.words.now) 1) (g.F.Files.told c.args.files.now) (g.F.Files.told c.run_numbers.new.files) (g.O.Sink.told c.args.out.now)) (g.O.Sink.told c.run_numbers.new.out) c.run_numbers.result c.run_numbers.ensures.stopped one)

pub returns-then-is_numbers-clause-statuses : goal.returns-then-is_numbers-clause-statuses
returns-then-is_numbers-clause-statuses g c =
    is_given (text_at (texts c.args.words.now) 1) (g.F.Files.told c.args.files.now) (g.F.Files.told c.run_numbers.new.files) (g.O.Sink.told c.args.out.now) (g.O.Sink.told c.run_numbers.new.out) c.run_numbers.result c.run_numbers.ensures.stopped

pub returns-then-is_numbers-clause-counts : goal.returns-then-is_numbers-clause-counts
returns-then-is_numbers-clause-counts g c =
    numbers_counts (text_at (texts c.args.words.now) 1) (g.F.Files.told c.args.files.now) (g.F.Files.told c.run_numbers.new.files) (g.O.Sink.told c.args.out.now) (g.O.Sink.told c.run_numbers.new.out) c.run_numbers.result c.run_numbers.ensures.ok c.run_numbers.ensures.stopped

pub returns-then-is_numbers-clause-asked : goal.returns-then-is_numbers-clause-asked
returns-then-is_numbers-clause-asked g c =
    asked_one c.args.words.now (g.F.Files.told c.args.files.now).asked (g.F.Files.told c.run_numbers.new.files).asked (c.is_numbers.ensures.two c.if-is_numbers.true)
    (numbers_asked (text_at (texts c.args.words.now) 1) (g.F.Files.told c.args.files.now) (g.F.Files.told c.run_numbers.new.files) (g.O.Sink.told c.args.out.now) (g.O.Sink.told c.run_numbers.new.out) c.run_numbers.result c.run_numbers.ensures.ok c.run_numbers.ensures.stopped)

pub returns-then-is_numbers-clause-complete : goal.returns-then-is_numbers-clause-complete
returns-then-is_numbers-clause-complete g c = λ text form has none.
    numbers_complete (text_at (texts c.args.words.now) 1) text (g.F.Files.told c.args.files.now) (g.F.Files.told c.run_numbers.new.files) (g.O.Sink.told c.args.out.now) (g.O.Sink.told c.run_numbers.new.out) c.run_numbers.result c.run_numbers.ensures.stopped has none

pub returns-clause-counts : goal.returns-clause-counts
returns-clause-counts g c = usage_counts (g.F.Files.told c.args.files.now) (g.O.Sink.told c.args.out.now) (g.O.Sink.told c.tell.new.out)
