-- What a line is drawn from, told by the state before it.
-- No public contract cites this module
use Rattle.std.specs.Prelude.{ℕ, ◌*◌}
use Rattle.std.specs.Fn.{iterate}
use Rattle.board_maker.specs.declared.draws.Pick.{Pick}
use Rattle.board_maker.specs.Draws.{next_state, drawn}

-- the four draws behind a state
abbrev pub picked_behind : ℕ → Pick
picked_behind s = record {
  x = 1000000 * drawn 50 (iterate next_state 1 s);
  y = 100000 * drawn 500 (iterate next_state 2 s);
  kind = drawn 8 (iterate next_state 3 s);
  layer = drawn 2 (iterate next_state 4 s);
}
