use Rattle.std.proofs.Common.{◌≡◌, ◌++◌, ◌∙◌, take}
use Rattle.whole_files.proofs.Sinks.{some_left}
use Rattle.whole_files.proofs.Files.{gave_call, write_fault, write_short, split_here}
use Rattle.whole_files.proofs.outside.put_file.Goals as goal

pub loop-rest-preserved : goal.loop-rest-preserved
loop-rest-preserved g c =
    let old = (g.F.Files.told c.args.files.now).disk in
    let rest = c.loop-rest.rest.now in
    let after = c.split_at.result.1.now in
    let piece = take c.in-Ok.count rest in
    let parts : rest ≡ piece ++ after = split_here c.in-Ok.count rest after c.split_at.ensures.back in
    let told = c.in-Ok.ensures in
    record {
      gave = gave_call c.args.file c.args.text.now rest piece after old (g.F.Files.told c.loop-rest.files).disk (g.F.Files.told c.write.new.self).disk parts c.loop-rest.invariant.gave told.ok;
      writes = told.writes c.args.file c.loop-rest.invariant.writes;
      asked = told.asked ∙ c.loop-rest.invariant.asked;
      read_faults = told.other_count ∙ c.loop-rest.invariant.read_faults;
      write_faults = told.cause ∙ c.loop-rest.invariant.write_faults;
    }

pub returns-in-Err-Failed-clause-err : goal.returns-in-Err-Failed-clause-err
returns-in-Err-Failed-clause-err g c =
    let e = c.in-Err-Failed.ensures in
    write_fault c.args.file c.args.text.now c.loop-rest.rest.now (g.F.Files.told c.args.files.now) (g.F.Files.told c.loop-rest.files) (g.F.Files.told c.write.new.self) c.in-Err-Failed.field-0 c.in-Err-Failed.field-0-is
    c.loop-rest.invariant.gave e.err (some_left c.loop-rest.rest.now c.loop-rest-test.ensures) c.loop-rest.invariant.write_faults e.cause

pub returns-in-Err-Memory-clause-err : goal.returns-in-Err-Memory-clause-err
returns-in-Err-Memory-clause-err g c =
    let e = c.in-Err-Memory.ensures in
    write_short c.args.file c.args.text.now c.loop-rest.rest.now (g.F.Files.told c.args.files.now) (g.F.Files.told c.loop-rest.files) (g.F.Files.told c.write.new.self) c.in-Err-Memory.field-0 c.in-Err-Memory.field-0-is
    c.loop-rest.invariant.gave e.err (some_left c.loop-rest.rest.now c.loop-rest-test.ensures) c.loop-rest.invariant.write_faults e.cause
