-- The numbers that a script is made from.
-- Models: a linear congruence modulo 2^32, of which each draw takes the high half. Cited by `make` and its laws
use Rattle.std.specs.Prelude.{ℕ, ◌+◌, ◌*◌, ◌/◌, ◌%◌, ◌^◌}
use Rattle.std.specs.Fn.{iterate}
use Rattle.board_maker.specs.declared.draws.Pick.{Pick}

-- the state behind a state
abbrev pub next_state : ℕ → ℕ
next_state s = (s * 1664525 + 1013904223) % 2 ^ 32

-- the state so many steps behind the number
abbrev pub state_at : ℕ → ℕ → ℕ
state_at number k = iterate next_state k number

-- the number below a count that a state gives
abbrev pub drawn : ℕ → ℕ → ℕ
drawn count s = (s / 2 ^ 16) % count

-- draw k, from 0, of those that begin with a number: a number below a count
abbrev pub draw : ℕ → ℕ → ℕ → ℕ
draw number k count = drawn count (state_at number (k + 1))

-- what line i, from 0, is drawn from: four draws, a place in nm, what is asked for, and a layer
abbrev pub pick : ℕ → ℕ → Pick
pick number i = record {
  x = 1000000 * draw number (4 * i) 50;
  y = 100000 * draw number (4 * i + 1) 500;
  kind = draw number (4 * i + 2) 8;
  layer = draw number (4 * i + 3) 2;
}
