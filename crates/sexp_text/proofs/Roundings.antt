-- Powers of ten, and rounding by them.
use Rattle.std.proofs.Common.{◌≡◌, ℕ, ◌+◌, ◌-◌, ◌*◌, ◌/◌, ◌^◌, ◌<◌, ◌≤◌, Option, Some, None, IfNone, ap, ◌∙◌, arith}
use Rattle.std.proofs.Math.Nat.{mul-le-mul_left, mul-le-mul_right, one-le-pow, pow-le-pow_right, mul-div-le, lt-mul-div-succ, lt_of_mul-lt-mul_left, le_trans}
use Rattle.std.proofs.lemmas.Nat.{pow-add}
use Rattle.sexp_text.specs.declared.number.Decimal.{Decimal}
use Rattle.sexp_text.specs.Lengths.{IsNearest, IsSize}

next_le : (v d : ℕ) → d ≤ 9 → v * 10 + d + 1 ≤ (v + 1) * 10
next_le v d small = omega arith

-- the digit that comes next leaves a number with room for the others
pub room_left : (v d i n limit : ℕ) → i < n → d ≤ 9 → (v + 1) * 10 ^ (n - i) ≤ limit → (v * 10 + d + 1) * 10 ^ (n - (i + 1)) ≤ limit
room_left v d i n limit h small room =
    let k : n - i ≡ (n - (i + 1)) + 1 = omega arith in
    let e : 10 ^ (n - i) ≡ 10 ^ (n - (i + 1)) * 10 = ap (λ (j : ℕ). 10 ^ j) k ∙ pow-add 10 (n - (i + 1)) 1 in
    let r : (v + 1) * (10 ^ (n - (i + 1)) * 10) ≤ limit = rw e at room in
    omega (arith, mul-le-mul_right (10 ^ (n - (i + 1))) (next_le v d small))

-- and fits the limit itself
pub room_here : (v d i n start : ℕ) → i < n → d ≤ 9 → (v + 1) * 10 ^ (n - i) ≤ (start + 1) * 10 ^ n → (start + 1) * 10 ^ n ≤ 10 ^ 38 → v * 10 + d < 10 ^ 38
room_here v d i n start h small room few =
    let more : (v * 10 + d + 1) * 10 ^ (n - (i + 1)) ≤ (start + 1) * 10 ^ n = room_left v d i n _ h small room in
    let at_least : (v * 10 + d + 1) * 1 ≤ (v * 10 + d + 1) * 10 ^ (n - (i + 1)) = mul-le-mul_left (v * 10 + d + 1) (one-le-pow (n - (i + 1)) 10 (omega arith)) in
    let all : (v * 10 + d + 1) * 1 ≤ 10 ^ 38 = le_trans at_least (le_trans more few) in
    omega arith

-- so few digits have room
pub room_of : (n most : ℕ) → n ≤ most → 10 ^ n ≤ 10 ^ most
room_of n most h = pow-le-pow_right (omega arith) h

-- two lists of digits, one behind the other
pub room_behind : (v a b : ℕ) → v + 1 ≤ 1 * 10 ^ a → a + b ≤ 38 → (v + 1) * 10 ^ b ≤ 10 ^ 38
room_behind v a b h few =
    let all : 10 ^ (a + b) ≤ 10 ^ 38 = room_of (a + b) 38 few in
    let both : 10 ^ a * 10 ^ b ≤ 10 ^ 38 = rw pow-add at all in
    omega (arith, mul-le-mul_right (10 ^ b) h)

-- and write less than a number with one zero for each
pub room_total : (r v a b : ℕ) → v + 1 ≤ 1 * 10 ^ a → r + 1 ≤ (v + 1) * 10 ^ b → a + b ≤ 30 → r < 10 ^ 30
room_total r v a b first second few =
    let all : 10 ^ (a + b) ≤ 10 ^ 30 = room_of (a + b) 30 few in
    let both : 10 ^ a * 10 ^ b ≤ 10 ^ 30 = rw pow-add at all in
    omega (arith, mul-le-mul_right (10 ^ b) first)

-- a zero behind a number multiplies it by ten
pub one_place : (s i n : ℕ) → i < n → s * 10 * 10 ^ (n - (i + 1)) ≡ s * 10 ^ (n - i)
one_place s i n h =
    let k : n - i ≡ (n - (i + 1)) + 1 = omega arith in
    let e : 10 ^ (n - i) ≡ 10 ^ (n - (i + 1)) * 10 = ap (λ (j : ℕ). 10 ^ j) k ∙ pow-add 10 (n - (i + 1)) 1 in
    rw e (omega arith)

pub grows : (s k : ℕ) → s ≤ s * 10 ^ k
grows s k = omega (arith, mul-le-mul_left s (one-le-pow k 10 (omega arith)))

-- a quotient that is rounded half upwards
pub nearest_quotient : (x q : ℕ) → 0 < q → IsNearest x q ((2 * x + q) / (2 * q))
nearest_quotient x q h =
    let two : 0 < 2 * q = omega arith in
    record {
      low = omega (arith, mul-div-le (2 * x + q) (2 * q));
      high = omega (arith, lt-mul-div-succ (2 * x + q) two);
    }

-- nothing is left of less than half
pub nearest_zero : (x places : ℕ) → 2 * x < 10 ^ 38 → 38 ≤ places → IsNearest x (10 ^ places) 0
nearest_zero x places small far =
    let big : 10 ^ 38 ≤ 10 ^ places = room_of 38 places far in
    record { low = omega arith; high = omega arith }

-- a whole number is nearest to itself
pub nearest_whole : (x : ℕ) → IsNearest x 1 x
nearest_whole x = record { low = omega arith; high = omega arith }

below : (d k l : ℕ) → d * k < d * l + d → k ≤ l
below d k l h =
    let e : d * k < d * (l + 1) = omega arith in
    let lt : k < l + 1 = lt_of_mul-lt-mul_left d e in
    omega arith

-- at most one whole number is nearest
pub one_nearest : (x q k l : ℕ) → IsNearest x q k → IsNearest x q l → k ≡ l
one_nearest x q k l a b =
    let up : k ≤ l = below (2 * q) k l (omega (arith, a.low, b.high)) in
    let down : l ≤ k = below (2 * q) l k (omega (arith, b.low, a.high)) in
    omega arith

-- a whole size above the limit
pub size_above : (r : Option ℕ) (d : Decimal) (per_unit : ℕ) → d.left ≤ d.right → IfNone r (1000000000 < d.digits * per_unit * 10 ^ (d.right - d.left)) → IfNone r ((x : ℕ) × IsSize d per_unit x × (1000000000 < x))
size_above (Some k) d per_unit le h = tt
size_above None d per_unit le h =
    let none : d.left - d.right ≡ 0 = omega arith in
    (d.digits * per_unit * 10 ^ (d.right - d.left), rw none (nearest_whole _), h)
