use Rattle.dsn_reader.proofs.Fits.{small_tree}
use Rattle.dsn_reader.proofs.Readings.{only_if, no_only_if, no_first_if}
use Rattle.dsn_reader.proofs.reader.read_short.Goals as goal

pub design_of-requires : goal.design_of-requires
design_of-requires c = small_tree c.args.bytes.now _ c.requires c.in-Ok.ensures.found

pub returns-in-Ok-clause-only : goal.returns-in-Ok-clause-only
returns-in-Ok-clause-only c = only_if c.args.bytes.now c.in-Ok.tree c.design_of.result c.in-Ok.ensures.only c.design_of.ensures.states

pub returns-in-Err-clause-only : goal.returns-in-Err-clause-only
returns-in-Err-clause-only c = no_only_if c.args.bytes.now c.in-Err.why c.text_why.result c.text_why.ensures c.in-Err.ensures.only

pub returns-in-Err-clause-first : goal.returns-in-Err-clause-first
returns-in-Err-clause-first c = no_first_if c.args.bytes.now c.in-Err.why c.text_why.result c.requires c.text_why.ensures c.in-Err.ensures.only c.in-Err.ensures.first
