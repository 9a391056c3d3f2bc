-- The greatest whole number with twice its square at most d², and that there is one.
use Rattle.std.proofs.Common.{◌≡◌, ℕ, zero, suc, ◌+◌, ◌*◌, ◌/◌, ◌%◌, ◌<◌, ◌≤◌, Bool, true, false, cond, leb, inl, inr, refl, sym, ap, subst, ◌∙◌, arith}
use Rattle.std.specs.Prelude.{ℤ, pos, negsuc, neg_ℤ, ◌≤ℤ◌, unsigned_abs}
use Rattle.std.proofs.Math.Nat.{mul-le-mul, mod-add-div', mod-lt, div-eq_of_lt-le}
use Rattle.std.proofs.lemmas.Bool.{leb-true, leb-false, cases_lt}
use Rattle.std.proofs.lemmas.Int.{ints}
use Rattle.dsn_turns.specs.Turns.{AreOneSided, IsRoot}
use Rattle.dsn_turns.specs.Turning.{root_up_to, size_root, root_of}

-- squares

square_le : (r s : ℕ) → r ≤ s → r * r ≤ s * s
square_le r s h = mul-le-mul h h

-- the number of a lesser square is less
pub root_below : (r s : ℕ) → r * r < s * s → r < s
root_below r s h = elim (cases_lt r s) [ inl lt ↦ lt | inr le ↦ absurd (omega (arith, square_le s r le)) ]

no_square : (r : ℕ) → 2 * (r * r) ≤ 0 → r ≡ 0
no_square zero h = refl
no_square (suc r) h = absurd (omega arith)

-- the search

fits_cond : (d k rest : ℕ) (b : Bool) → leb (2 * (k * k)) (d * d) ≡ b → 2 * (rest * rest) ≤ d * d → 2 * (cond b k rest * cond b k rest) ≤ d * d
fits_cond d k rest true e h = leb-true _ _ e
fits_cond d k rest false e h = h

root_fits : (d limit : ℕ) → 2 * (root_up_to d limit * root_up_to d limit) ≤ d * d
unfolding root_up_to
root_fits d zero = omega arith
root_fits d (suc limit) = fits_cond d (suc limit) (root_up_to d limit) _ refl (root_fits d limit)

most_cond : (d limit rest s : ℕ) (b : Bool) → leb (2 * (suc limit * suc limit)) (d * d) ≡ b → 2 * (s * s) ≤ d * d → s ≤ suc limit → (s ≤ limit → s ≤ rest) → s ≤ cond b (suc limit) rest
most_cond d limit rest s true e fits few below = few
most_cond d limit rest s false e fits few below =
    let many = leb-false _ _ e in
    below (elim (cases_lt limit s) [
      | inl lt ↦
          let same : s ≡ suc limit = omega arith in
          let square : s * s ≡ suc limit * suc limit = ap (λ (x : ℕ). x * x) same in
          absurd (omega arith)
      | inr le ↦ le
    ])

root_most : (d limit s : ℕ) → s ≤ limit → 2 * (s * s) ≤ d * d → s ≤ root_up_to d limit
unfolding root_up_to
root_most d zero s few fits = few
root_most d (suc limit) s few fits = most_cond d limit (root_up_to d limit) s _ refl fits few (λ le. root_most d limit s le fits)

pub size_fits : (d : ℕ) → 2 * (size_root d * size_root d) ≤ d * d
unfolding size_root
size_fits d = root_fits d d

small : (d s : ℕ) → 2 * (s * s) ≤ d * d → s ≤ d
small d s h = elim (cases_lt d s) [
  | inl lt ↦
      let square = square_le (suc d) s (omega arith) in
      absurd (omega arith)
  | inr le ↦ le
]

pub size_most : (d s : ℕ) → 2 * (s * s) ≤ d * d → s ≤ size_root d
unfolding size_root
size_most d s h = root_most d d s (small d s h) h

-- with a sign

pub size_negated : (r : ℕ) → unsigned_abs (neg_ℤ (pos r)) ≡ r
size_negated zero = refl
size_negated (suc r) = refl

negated_below : (r : ℕ) → neg_ℤ (pos r) ≤ℤ pos 0
negated_below zero = omega (arith, ints)
negated_below (suc r) = omega (arith, ints)

-- there is a root
pub root_is : (d : ℤ) → IsRoot d (root_of d)
root_is (pos d) = record {
  fits = size_fits d;
  greatest = size_most d;
  sign = inl (omega (arith, ints), omega (arith, ints));
}
root_is (negsuc d) =
    let size = size_negated (size_root (suc d)) in
    record {
      fits = rw size (size_fits (suc d));
      greatest = λ s h. rw size (size_most (suc d) s h);
      sign = inr (omega (arith, ints), negated_below (size_root (suc d)));
    }

same_sign : (d r s : ℤ) → unsigned_abs r ≡ unsigned_abs s → (unsigned_abs d ≡ 0 → unsigned_abs r ≡ 0) → AreOneSided d r → AreOneSided d s → r ≡ s
same_sign d r s size none (inl (a, b)) (inl (a', b')) = omega (arith, ints)
same_sign d r s size none (inl (a, b)) (inr (a', b')) =
    let zero_d : unsigned_abs d ≡ 0 = omega (arith, ints) in
    let zero_r = none zero_d in
    omega (arith, ints)
same_sign d r s size none (inr (a, b)) (inl (a', b')) =
    let zero_d : unsigned_abs d ≡ 0 = omega (arith, ints) in
    let zero_r = none zero_d in
    omega (arith, ints)
same_sign d r s size none (inr (a, b)) (inr (a', b')) = omega (arith, ints)

none_of : (d r : ℕ) → 2 * (r * r) ≤ d * d → d ≡ 0 → r ≡ 0
none_of d r h e = no_square r (subst (λ (x : ℕ). 2 * (r * r) ≤ x * x) e h)

-- and one alone
pub one_root : (d r s : ℤ) → IsRoot d r → IsRoot d s → r ≡ s
one_root d r s a b =
    let up = b.greatest _ a.fits in
    let down = a.greatest _ b.fits in
    let size : unsigned_abs r ≡ unsigned_abs s = omega arith in
    same_sign d r s size (none_of _ _ a.fits) a.sign b.sign

-- how the code finds it

halved : (h b : ℕ) → b < 2 → (2 * h + b) * (2 * h + b) / 2 ≡ 2 * h * (h + b)
halved h zero lt = div-eq_of_lt-le 2 (omega arith) (omega arith)
halved h (suc zero) lt = div-eq_of_lt-le 2 (omega arith) (omega arith)
halved h (suc (suc b)) lt = absurd (omega arith)

-- half the square without the square
pub half_square : (d : ℕ) → 2 * (d / 2) * (d / 2 + d % 2) ≡ d * d / 2
half_square d =
    let parts : 2 * (d / 2) + d % 2 ≡ d = omega (arith, mod-add-div' d 2) in
    sym (halved (d / 2) (d % 2) (mod-lt d (omega arith))) ∙ ap (λ (x : ℕ). x * x / 2) parts

-- the number whose square is next below half the square of d is its root
pub size_is : (d r : ℕ) → r * r ≤ d * d / 2 → d * d / 2 < (r + 1) * (r + 1) → r ≡ size_root d
size_is d r low high =
    let half = mod-add-div' (d * d) 2 in
    let rest = mod-lt (d * d) {m = 2} (omega arith) in
    let up = size_most d r (omega arith) in
    let fits = size_fits d in
    let lt = root_below (size_root d) (r + 1) (omega arith) in
    omega arith
