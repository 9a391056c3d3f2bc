use Rattle.std.proofs.Common.{◌≡◌, ◌++◌, ◌∙◌, take}
use Rattle.whole_files.proofs.Sinks.{wrote_more, put_fault, put_shortage, some_left}
use Rattle.whole_files.proofs.Files.{split_here}
use Rattle.whole_files.proofs.outside.put_out.Goals as goal

pub loop-rest-preserved : goal.loop-rest-preserved
loop-rest-preserved g c =
    let old = g.O.Sink.told c.args.out.now in
    let mid = g.O.Sink.told c.loop-rest.out in
    let new = g.O.Sink.told c.write.new.self in
    let rest = c.loop-rest.rest.now in
    let after = c.split_at.result.1.now in
    let count = c.in-Ok.count in
    let parts : rest ≡ take count rest ++ after = split_here count rest after c.split_at.ensures.back in
    record {
      wrote = wrote_more c.args.text.now rest (take count rest) after old.written mid.written new.written c.loop-rest.invariant.wrote c.in-Ok.ensures.ok.appended parts;
      faults = c.in-Ok.ensures.cause ∙ c.loop-rest.invariant.faults;
      shortages = c.in-Ok.ensures.memory ∙ c.loop-rest.invariant.shortages;
    }

pub returns-in-Err-Failed-clause-err : goal.returns-in-Err-Failed-clause-err
returns-in-Err-Failed-clause-err g c =
    let e = c.in-Err-Failed.ensures in
    put_fault c.args.text.now c.loop-rest.rest.now (g.O.Sink.told c.args.out.now) (g.O.Sink.told c.loop-rest.out) (g.O.Sink.told c.write.new.self) c.in-Err-Failed.field-0 c.in-Err-Failed.field-0-is
    c.loop-rest.invariant.wrote e.err (some_left c.loop-rest.rest.now c.loop-rest-test.ensures) c.loop-rest.invariant.faults c.loop-rest.invariant.shortages e.cause e.memory

pub returns-in-Err-Memory-clause-err : goal.returns-in-Err-Memory-clause-err
returns-in-Err-Memory-clause-err g c =
    let e = c.in-Err-Memory.ensures in
    put_shortage c.args.text.now c.loop-rest.rest.now (g.O.Sink.told c.args.out.now) (g.O.Sink.told c.loop-rest.out) (g.O.Sink.told c.write.new.self) c.in-Err-Memory.field-0 c.in-Err-Memory.field-0-is
    c.loop-rest.invariant.wrote e.err (some_left c.loop-rest.rest.now c.loop-rest-test.ensures) c.loop-rest.invariant.faults c.loop-rest.invariant.shortages e.cause e.memory
