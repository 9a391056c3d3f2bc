-- What lists add, and how much stands in what is read.
use Rattle.std.proofs.Common.{◌≡◌, ℕ, ◌+◌, ◌*◌, ◌≤◌, Bool, true, false, List, Ok, ap, subst, arith, le_refl}
use Rattle.std.specs.Prelude.{if◌then◌else◌}
use Rattle.sexp_text.specs.Forest.{Forest, End, Word, Branch}
use Rattle.sexp_text.specs.Nodes.{size}
use Rattle.dsn_lists.specs.declared.marks.Mark.{Mark}
use Rattle.dsn_lists.specs.declared.pcb.Section.{Section}
use Rattle.dsn_lists.specs.Results.{Read, each}
use Rattle.dsn_lists.specs.Words.{same, head_of, word_of}
use Rattle.dsn_lists.specs.Pcbs.{Spot, section_name, list_named, section_in}
use Rattle.dsn_lists.proofs.Bounds.{ok_is, err_gives, bind_ok}

-- what each list of a size keeps, all lists keep
pub each_keeps_within : {A : Type 0} (P : A → Type 0) (most : ℕ) (step : A → ℕ → Forest → Read A)
    → ((x : A) (at : ℕ) (inside : Forest) (y : A) → P x → size inside ≤ most → step x at inside ≡ Ok y → P y)
    → (x : A) (f : Forest) (y : A) → P x → size f ≤ most → each step x f ≡ Ok y → P y
unfolding each
each_keeps_within P most step keeps x End y p low e = subst P (ok_is e) p
each_keeps_within P most step keeps x (Word at text rest) y p low e = absurd (err_gives e)
each_keeps_within P most step keeps x (Branch at inside rest) y p low e =
    let s = bind_ok (step x at inside) _ y e in
    each_keeps_within P most step keeps s.0 rest y (keeps x at inside s.0 p (omega (arith, low)) s.1) (omega (arith, low)) s.2

-- what grows by at most 32 for each word and list of a list does so by all lists
pub each_grows : {A : Type 0} (count : A → ℕ) (step : A → ℕ → Forest → Read A)
    → ((x : A) (at : ℕ) (inside : Forest) (y : A) → step x at inside ≡ Ok y → count y ≤ count x + 32 * (1 + size inside))
    → (x : A) (f : Forest) (y : A) → each step x f ≡ Ok y → count y ≤ count x + 32 * size f
unfolding each
each_grows count step grows x End y e = let same = ap count (ok_is e) in omega (arith, same)
each_grows count step grows x (Word at text rest) y e = absurd (err_gives e)
each_grows count step grows x (Branch at inside rest) y e =
    let s = bind_ok (step x at inside) _ y e in
    let first = grows x at inside s.0 s.1 in
    let more = each_grows count step grows s.0 rest y s.2 in
    omega (arith, first, more)

pub word_of_size : (at : ℕ) (f : Forest) (w : Mark × Forest) → word_of at f ≡ Ok w → 1 + size w.1 ≤ size f
unfolding word_of
word_of_size at End w e = absurd (err_gives e)
word_of_size at (Word a text rest) w e = let same = ap (λ (x : Mark × Forest). size x.1) (ok_is e) in omega (arith, same)
word_of_size at (Branch a inside rest) w e = absurd (err_gives e)

pub head_of_size : (f : Forest) → size (head_of f).args ≤ size f
unfolding head_of
head_of_size End = le_refl 0
head_of_size (Word at text rest) = omega arith
head_of_size (Branch at inside rest) = omega arith

one_or_other : (b : Bool) (at most : ℕ) (f : Forest) (p : Spot) → size f ≤ most → size p.args ≤ most → size (if b then record { at = at; args = f } else p).args ≤ most
one_or_other true at most f p h k = h
one_or_other false at most f p h k = k

list_named_size : (name : List ℕ) (f : Forest) → size (list_named name f).args ≤ size f
unfolding list_named
list_named_size name End = le_refl 0
list_named_size name (Word at text rest) = let more = list_named_size name rest in omega (arith, more)
list_named_size name (Branch at inside rest) =
    let first = head_of_size inside in
    let more = list_named_size name rest in
    one_or_other (same (head_of inside).text name) at (size (Branch at inside rest)) (head_of inside).args (list_named name rest) (omega (arith, first)) (omega (arith, more))

-- no more stands in a section than in the design
pub section_size : (s : Section) (f : Forest) → size (section_in s f).args ≤ size f
unfolding section_in
section_size s End = le_refl 0
section_size s (Word at text rest) = omega arith
section_size s (Branch at inside rest) = let own = list_named_size (section_name s) inside in omega (arith, own)
