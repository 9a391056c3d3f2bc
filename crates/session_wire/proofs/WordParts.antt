-- Words, and where they end.
use Rattle.std.proofs.Common.{◌≡◌, ◌≢◌, ℕ, zero, suc, Bool, true, false, eqb, ◌<◌, ◌⊎◌, inl, inr, List, [], ◌∷◌, ◌++◌, length, take, drop, get_or, refl, sym, ◌∙◌, arith}
use Rattle.std.specs.List.{AllByRecursion}
use Rattle.std.proofs.lemmas.Bool.{eqb-false}
use Rattle.session_wire.specs.Words.{IsWord, EndsWord}

tail_is : (a b : ℕ) (x y : List ℕ) → a ∷ x ≡ b ∷ y → x ≡ y
tail_is a b x y e = cc

-- bytes behind a front that ends a word end one
pub ends_behind : (m r s : List ℕ) → EndsWord (m ++ r) → EndsWord s → EndsWord (m ++ s)
ends_behind [] r s e f = f
ends_behind (b ∷ m) r s e f = e

-- a front of bytes that end a word ends one
pub ends_front : (m r : List ℕ) → EndsWord (m ++ r) → EndsWord m
ends_front [] r e = tt
ends_front (b ∷ m) r e = e

pub word_front : (x : List ℕ) (more : List ℕ) → IsWord (x ++ more) → IsWord x
word_front [] more p = tt
word_front (b ∷ x) more p = (p.0, word_front x more p.1)

pub word_join : (x more : List ℕ) → IsWord x → IsWord more → IsWord (x ++ more)
word_join [] more p q = q
word_join (b ∷ x) more p q = (p.0, word_join x more p.1 q)

not_ended : (b : ℕ) (x r : List ℕ) → b ≢ 32 → EndsWord r → r ≢ b ∷ x
not_ended b x [] differs e f = absurd cc
not_ended b x (c ∷ r) differs e f = let same : c ≡ b = cc in differs (sym same ∙ e)

-- two words that end are one, and what follows is the same
pub word_split : (a b r s : List ℕ) → IsWord a → IsWord b → EndsWord r → EndsWord s → a ++ r ≡ b ++ s → (a ≡ b) × (r ≡ s)
word_split [] [] r s p q m n e = (refl, e)
word_split [] (d ∷ b) r s p q m n e = absurd (not_ended d (b ++ s) r q.0 m e)
word_split (c ∷ a) [] r s p q m n e = absurd (not_ended c (a ++ r) s p.0 n (sym e))
word_split (c ∷ a) (d ∷ b) r s p q m n e =
    let rest = word_split a b r s p.1 q.1 m n (tail_is c d (a ++ r) (b ++ s) e) in
    (cc, rest.1)

-- two splits of a list: one front goes on from the other
pub two_fronts : (a c b d : List ℕ) → a ++ b ≡ c ++ d → ((m : List ℕ) × (a ≡ c ++ m) × (d ≡ m ++ b)) ⊎ ((m : List ℕ) × (c ≡ a ++ m) × (b ≡ m ++ d))
two_fronts [] c b d e = inr (c, refl, e)
two_fronts (x ∷ a) [] b d e = inl (x ∷ a, refl, sym e)
two_fronts (x ∷ a) (y ∷ c) b d e = elim (two_fronts a c b d (tail_is x y (a ++ b) (c ++ d) e)) [
  | inl (m, f, g) ↦ let head : x ≡ y = cc in inl (m, cc, g)
  | inr (m, f, g) ↦ let head : x ≡ y = cc in inr (m, cc, g)
]

-- the bytes in front of a space
pub word_more : (xs : List ℕ) (i : ℕ) → i < length xs → IsWord (take i xs) → get_or xs i 0 ≢ 32 → IsWord (take (suc i) xs)
word_more [] i lt p differs = absurd (omega arith)
word_more (x ∷ xs) zero lt p differs = (differs, tt)
word_more (x ∷ xs) (suc i) lt p differs = (p.0, word_more xs i (omega arith) p.1 differs)

pub ends_there : (xs : List ℕ) (i : ℕ) → i < length xs → get_or xs i 0 ≡ 32 → EndsWord (drop i xs)
ends_there [] i lt e = absurd (omega arith)
ends_there (x ∷ xs) zero lt e = e
ends_there (x ∷ xs) (suc i) lt e = ends_there xs i (omega arith) e

pub word_back : (x more : List ℕ) → IsWord (x ++ more) → IsWord more
word_back [] more p = p
word_back (b ∷ x) more p = word_back x more p.1

abbrev either : Bool → Bool → Bool
either true b = true
either false b = b

either_false : (a b : Bool) → either a b ≡ false → (a ≡ false) × (b ≡ false)
either_false true b e = absurd cc
either_false false b e = (refl, e)

-- the byte stands among the bytes
abbrev pub stands : ℕ → List ℕ → Bool
stands x [] = false
stands x (b ∷ w) = either (eqb b x) (stands x w)

pub bytes_without : (x : ℕ) (w : List ℕ) → stands x w ≡ false → AllByRecursion (λ b. b ≢ x) w
bytes_without x [] e = tt
bytes_without x (b ∷ w) e =
    let both = either_false (eqb b x) (stands x w) e in
    (eqb-false b x both.0, bytes_without x w both.1)
