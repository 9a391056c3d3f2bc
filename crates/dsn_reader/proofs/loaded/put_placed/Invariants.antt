use Rattle.std.proofs.Common.{◌≡◌}
use Rattle.std.specs.Vec.Iter.{into_iter_items}
use Rattle.dsn_reader.specs.Assembly.{with_placed}
use Rattle.dsn_reader.proofs.loaded.put_placed.Given as goal

abbrev pub invariant-loop-part : goal.invariant-loop-part
invariant-loop-part l = with_placed l.pins l.items (into_iter_items l.part-iterator) ≡ with_placed l.pins l.initial.items l.fn.parts.items
