-- The states at which lines are drawn
use Rattle.std.proofs.Common.{◌≡◌, ℕ, zero, suc, ◌+◌, ◌*◌, refl, ap, ◌∙◌, arith}
use Rattle.std.specs.Fn.{iterate}
use Rattle.board_maker.specs.Draws.{next_state, drawn, state_at, pick}
use Rattle.board_maker.specs.Picks.{picked_behind}

-- as many steps
as_many : (m n s : ℕ) → m ≡ n → iterate next_state m s ≡ iterate next_state n s
as_many m n s e = ap (λ j. iterate next_state j s) e

-- steps on from steps are steps
on_to : (m n k s : ℕ) → m + n ≡ k → iterate next_state n (iterate next_state m s) ≡ iterate next_state k s
on_to zero n k s e = as_many n k s (omega arith)
on_to (suc m) n k s e = on_to m n (m + n) (next_state s) refl ∙ as_many (suc (m + n)) k s (omega arith)

-- a line's four draws lead to the next line
pub next_line : (number i : ℕ) → iterate next_state 4 (state_at number (4 * i)) ≡ state_at number (4 * (i + 1))
next_line number i = on_to (4 * i) 4 (4 * (i + 1)) number (omega arith)

-- what a line is drawn from is told by the state before it
pub pick_is : (number i : ℕ) → picked_behind (state_at number (4 * i)) ≡ pick number i
pick_is number i =
    let x = on_to (4 * i) 1 (4 * i + 1) number (omega arith) in
    let y = on_to (4 * i) 2 (4 * i + 1 + 1) number (omega arith) in
    let kind = on_to (4 * i) 3 (4 * i + 2 + 1) number (omega arith) in
    let layer = on_to (4 * i) 4 (4 * i + 3 + 1) number (omega arith) in
    λ j. record {
      x = 1000000 * drawn 50 (x j);
      y = 100000 * drawn 500 (y j);
      kind = drawn 8 (kind j);
      layer = drawn 2 (layer j);
    }
