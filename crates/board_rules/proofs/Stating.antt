-- The largest value that statements state.
use Rattle.std.proofs.Common.{◌≡◌, ◌≤◌, ℕ, List, [], ◌∷◌, max, Bool, true, false, cond, ◌&&◌, arith, refl, sym, ap, ◌∙◌, subst}
use Rattle.std.specs.Prelude.{Option, Some, None, not, filter, if◌then◌else◌}
use Rattle.board_rules.specs.declared.design.Kind.{Kind}
use Rattle.board_rules.specs.declared.design.Kind.TheVariants as kinds
use Rattle.board_rules.specs.declared.design.What.{What}
use Rattle.board_rules.specs.declared.design.What.TheVariants as whats
use Rattle.board_rules.specs.declared.design.Stated.{Stated}
use Rattle.board_rules.specs.Classes.{same_kind, same_what, or_else, or_zero, value_of, is_one_smd, typed_value, is_typed, largest_given, largest_in}
use Rattle.board_rules.proofs.BothWays.{value_turned}
use Rattle.board_rules.proofs.Named.{both_true, one_true}

kind_is : (k l : Kind) → same_kind k l ≡ true → k ≡ l
kind_is kinds.Wire kinds.Wire e = refl
kind_is kinds.Wire kinds.Via e = absurd cc
kind_is kinds.Wire kinds.Pin e = absurd cc
kind_is kinds.Wire kinds.Smd e = absurd cc
kind_is kinds.Via kinds.Wire e = absurd cc
kind_is kinds.Via kinds.Via e = refl
kind_is kinds.Via kinds.Pin e = absurd cc
kind_is kinds.Via kinds.Smd e = absurd cc
kind_is kinds.Pin kinds.Wire e = absurd cc
kind_is kinds.Pin kinds.Via e = absurd cc
kind_is kinds.Pin kinds.Pin e = refl
kind_is kinds.Pin kinds.Smd e = absurd cc
kind_is kinds.Smd kinds.Wire e = absurd cc
kind_is kinds.Smd kinds.Via e = absurd cc
kind_is kinds.Smd kinds.Pin e = absurd cc
kind_is kinds.Smd kinds.Smd e = refl

straight : (a b c d : Kind) (rows : List Stated) → same_kind a c && same_kind b d ≡ true → value_of (whats.Pair a b) rows ≡ value_of (whats.Pair c d) rows
straight a b c d rows e =
    let both = both_true (same_kind a c) (same_kind b d) e in
    let first = kind_is a c both.0 in
    let other = kind_is b d both.1 in
    λ i. value_of (whats.Pair (first i) (other i)) rows

-- statements give the same to what is the same thing
same_value : (a b : What) (rows : List Stated) → same_what a b ≡ true → value_of a rows ≡ value_of b rows
same_value whats.Untyped whats.Untyped rows e = refl
same_value whats.Untyped whats.DefaultSmd rows e = absurd cc
same_value whats.Untyped (whats.Pair c d) rows e = absurd cc
same_value whats.DefaultSmd whats.Untyped rows e = absurd cc
same_value whats.DefaultSmd whats.DefaultSmd rows e = refl
same_value whats.DefaultSmd (whats.Pair c d) rows e = absurd cc
same_value (whats.Pair a b) whats.Untyped rows e = absurd cc
same_value (whats.Pair a b) whats.DefaultSmd rows e = absurd cc
same_value (whats.Pair a b) (whats.Pair c d) rows e =
    one_true (same_kind a c && same_kind b d) (same_kind a d && same_kind b c) (value_of (whats.Pair a b) rows ≡ value_of (whats.Pair c d) rows)
    (straight a b c d rows) (λ t. straight a b d c rows t ∙ value_turned rows d c) e

-- what some of the statements are of is given at most the largest value
given : (all rest : List Stated) (what : What) (n : ℕ) → value_of what rest ≡ Some n → or_zero (value_of what all) ≤ largest_given all rest
given all [] what n e = absurd cc
given all (s ∷ rest) what n e = by (λ k. given all rest what n k) (same_what s.what what) refl
  where
    left : (o : Option ℕ) → or_else o None ≡ Some n → o ≡ Some n
    left (Some m) k = k
    left None k = k

    by : (value_of what rest ≡ Some n → or_zero (value_of what all) ≤ largest_given all rest) → (b : Bool) → same_what s.what what ≡ b → or_zero (value_of what all) ≤ max (or_zero (value_of s.what all)) (largest_given all rest)
    by more true is = let same : or_zero (value_of s.what all) ≡ or_zero (value_of what all) = ap or_zero (same_value s.what what all is) in omega (arith, same)
    by more false is =
        let e2 : or_else (value_of what rest) None ≡ Some n = subst (λ (b : Bool). or_else (value_of what rest) (if b then Some s.value else None) ≡ Some n) is e in
        let later = more (left (value_of what rest) e2) in
        omega (arith, later)

-- no thing is given more than the largest value
pub most_given : (rows : List Stated) (what : What) → or_zero (value_of what rows) ≤ largest_in rows
most_given rows what = by (value_of what rows) refl
  where
    by : (o : Option ℕ) → value_of what rows ≡ o → or_zero (value_of what rows) ≤ largest_in rows
    by (Some n) is = given rows rows what n is
    by None is = let none : or_zero (value_of what rows) ≡ 0 = ap or_zero is in omega (arith, none)

-- what bounds each thing's value bounds the largest one
pub largest_up_to : (m : ℕ) (rows rest : List Stated) → ((what : What) → or_zero (value_of what rows) ≤ m) → largest_given rows rest ≤ m
largest_up_to m rows [] h = omega arith
largest_up_to m rows (s ∷ rest) h = let one = h s.what in let more = largest_up_to m rows rest h in omega (arith, one, more)

-- the largest value that is given this kind and another, by what each thing is given
abbrev kind_by : (What → Option ℕ) → Kind → ℕ
kind_by f a =
    max (max (or_zero (f (whats.Pair a kinds.Wire))) (or_zero (f (whats.Pair a kinds.Via))))
    (max (or_zero (f (whats.Pair a kinds.Pin))) (or_zero (f (whats.Pair a kinds.Smd))))

-- the largest value that is given any thing
abbrev pub all_by : (What → Option ℕ) → ℕ
all_by f =
    max (max (or_zero (f whats.Untyped)) (or_zero (f whats.DefaultSmd)))
    (max (max (kind_by f kinds.Wire) (kind_by f kinds.Via)) (max (kind_by f kinds.Pin) (kind_by f kinds.Smd)))

-- the same of statements
abbrev kind_most : List Stated → Kind → ℕ
kind_most rows a = kind_by (λ what. value_of what rows) a

abbrev pub all_most : List Stated → ℕ
all_most rows = all_by (λ what. value_of what rows)

kind_covers : (rows : List Stated) (a b : Kind) → or_zero (value_of (whats.Pair a b) rows) ≤ kind_most rows a
kind_covers rows a kinds.Wire = omega arith
kind_covers rows a kinds.Via = omega arith
kind_covers rows a kinds.Pin = omega arith
kind_covers rows a kinds.Smd = omega arith

kinds_cover : (rows : List Stated) (a : Kind) → kind_most rows a ≤ all_most rows
kinds_cover rows kinds.Wire = omega arith
kinds_cover rows kinds.Via = omega arith
kinds_cover rows kinds.Pin = omega arith
kinds_cover rows kinds.Smd = omega arith

all_cover : (rows : List Stated) (what : What) → or_zero (value_of what rows) ≤ all_most rows
all_cover rows whats.Untyped = omega arith
all_cover rows whats.DefaultSmd = omega arith
all_cover rows (whats.Pair a b) = let one = kind_covers rows a b in let more = kinds_cover rows a in omega (arith, one, more)

kind_most_up_to : (rows : List Stated) (a : Kind) → kind_most rows a ≤ largest_in rows
kind_most_up_to rows a =
    let wire = most_given rows (whats.Pair a kinds.Wire) in
    let via = most_given rows (whats.Pair a kinds.Via) in
    let pin = most_given rows (whats.Pair a kinds.Pin) in
    let smd = most_given rows (whats.Pair a kinds.Smd) in
    omega (arith, wire, via, pin, smd)

-- the largest value that is given any thing is the largest that is stated
pub largest_is : (rows : List Stated) → all_most rows ≡ largest_in rows
largest_is rows =
    let up = largest_up_to (all_most rows) rows rows (all_cover rows) in
    let untyped = most_given rows whats.Untyped in
    let smd = most_given rows whats.DefaultSmd in
    let wire = kind_most_up_to rows kinds.Wire in
    let via = kind_most_up_to rows kinds.Via in
    let pin = kind_most_up_to rows kinds.Pin in
    let other = kind_most_up_to rows kinds.Smd in
    omega (arith, up, untyped, smd, wire, via, pin, other)

-- ---- but for untyped values

or_none : (o : Option ℕ) → or_else o None ≡ o
or_none (Some n) = refl
or_none None = refl

untyped_other : (w what : What) → not (same_what w whats.Untyped) ≡ false → same_what whats.Untyped what ≡ false → same_what w what ≡ false
untyped_other whats.Untyped what is other = other
untyped_other whats.DefaultSmd what is other = absurd cc
untyped_other (whats.Pair a b) what is other = absurd cc

typed_differs : (b : Bool) → not b ≡ true → b ≡ false
typed_differs true e = absurd cc
typed_differs false e = refl

-- other things than untyped values are given the same without these
kept : (rows : List Stated) (what : What) → same_what whats.Untyped what ≡ false → value_of what (filter is_typed rows) ≡ value_of what rows
kept [] what other = refl
kept (s ∷ rest) what other = by (is_typed s) refl (kept rest what other)
  where
    by : (b : Bool) → is_typed s ≡ b → value_of what (filter is_typed rest) ≡ value_of what rest
        → value_of what (cond b (s ∷ filter is_typed rest) (filter is_typed rest)) ≡ or_else (value_of what rest) (if same_what s.what what then Some s.value else None)
    by true is e = ap (λ (o : Option ℕ). or_else o (if same_what s.what what then Some s.value else None)) e
    by false is e =
        e ∙ subst (λ (b : Bool). value_of what rest ≡ or_else (value_of what rest) (if b then Some s.value else None)) (sym (untyped_other s.what what is other)) (sym (or_none (value_of what rest)))

-- and no untyped value is given
none_untyped : (rows : List Stated) → value_of whats.Untyped (filter is_typed rows) ≡ None
none_untyped [] = refl
none_untyped (s ∷ rest) = by (is_typed s) refl (none_untyped rest)
  where
    by : (b : Bool) → is_typed s ≡ b → value_of whats.Untyped (filter is_typed rest) ≡ None → value_of whats.Untyped (cond b (s ∷ filter is_typed rest) (filter is_typed rest)) ≡ None
    by true is e =
        ap (λ (o : Option ℕ). or_else o (if same_what s.what whats.Untyped then Some s.value else None)) e
        ∙ ap (λ (b : Bool). if b then Some s.value else None) (typed_differs (same_what s.what whats.Untyped) is)
    by false is e = e

-- two kinds are given the same
pub typed_same : (rows : List Stated) (k l : Kind) → typed_value (filter is_typed rows) k l ≡ typed_value rows k l
typed_same rows k l = λ i. or_else (kept rows (whats.Pair k l) refl i) (if is_one_smd k l then kept rows whats.DefaultSmd refl i else None)

-- what is given each thing but untyped values
abbrev typed_given : List Stated → What → Option ℕ
typed_given rows whats.Untyped = None
typed_given rows whats.DefaultSmd = value_of whats.DefaultSmd rows
typed_given rows (whats.Pair a b) = value_of (whats.Pair a b) rows

typed_given_is : (rows : List Stated) (what : What) → value_of what (filter is_typed rows) ≡ typed_given rows what
typed_given_is rows whats.Untyped = none_untyped rows
typed_given_is rows whats.DefaultSmd = kept rows whats.DefaultSmd refl
typed_given_is rows (whats.Pair a b) = kept rows (whats.Pair a b) refl

-- the largest value that is given any thing but untyped values
abbrev pub typed_most : List Stated → ℕ
typed_most rows =
    max (max (kind_most rows kinds.Wire) (kind_most rows kinds.Via)) (max (kind_most rows kinds.Pin) (max (kind_most rows kinds.Smd) (or_zero (value_of whats.DefaultSmd rows))))

pub typed_largest_is : (rows : List Stated) → typed_most rows ≡ largest_in (filter is_typed rows)
typed_largest_is rows =
    let same : all_by (typed_given rows) ≡ all_most (filter is_typed rows) = λ i. all_by (λ what. sym (typed_given_is rows what) i) in
    let order : typed_most rows ≡ all_by (typed_given rows) = omega arith in
    order ∙ same ∙ largest_is (filter is_typed rows)
