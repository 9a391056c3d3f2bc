-- The sign of a turn is that of the order of its two products.
use Rattle.std.proofs.Common.{◌≡◌, arith}
use Rattle.std.specs.Prelude.{ℤ, pos, negsuc, ◌-ℤ◌, ◌<ℤ◌, ◌↔◌}
use Rattle.std.proofs.lemmas.Int.{ints}

pub left_is : (p q turn r : ℤ) → turn ≡ p -ℤ q → ((r ≡ pos 1) ↔ (q <ℤ p)) → ((r ≡ pos 1) ↔ (pos 0 <ℤ turn))
left_is p q turn r e h = (λ k. let l = h.0 k in omega (arith, ints, l, e), λ k. h.1 (omega (arith, ints, k, e)))

pub right_is : (p q turn r : ℤ) → turn ≡ p -ℤ q → ((r ≡ negsuc 0) ↔ (p <ℤ q)) → ((r ≡ negsuc 0) ↔ (turn <ℤ pos 0))
right_is p q turn r e h = (λ k. let l = h.0 k in omega (arith, ints, l, e), λ k. h.1 (omega (arith, ints, k, e)))

pub straight_is : (p q turn r : ℤ) → turn ≡ p -ℤ q → ((r ≡ pos 0) ↔ (p ≡ q)) → ((r ≡ pos 0) ↔ (turn ≡ pos 0))
straight_is p q turn r e h = (λ k. let l = h.0 k in omega (arith, ints, l, e), λ k. h.1 (omega (arith, ints, k, e)))
