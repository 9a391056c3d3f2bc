-- How large a need may be.
use Rattle.std.proofs.Common.{◌≡◌, ◌≤◌, ℕ, zero, suc, List, [], ◌∷◌, max, length, ◌++◌, Bool, true, false, cond, ◌||◌, arith, subst}
use Rattle.std.specs.Prelude.{Option, Some, None, slice_get, ◌==◌, filter, flat_map, if◌then◌else◌}
use Rattle.std.specs.List.{AllByRecursion}
use Rattle.row_lists.specs.Limits.{width_limit_nm}
use Rattle.board_items.specs.declared.items.Item.{Item}
use Rattle.board_rules.specs.declared.design.Kind.{Kind}
use Rattle.board_rules.specs.declared.design.What.{What}
use Rattle.board_rules.specs.declared.design.What.TheVariants as whats
use Rattle.board_rules.specs.declared.design.Stated.{Stated}
use Rattle.board_rules.specs.declared.design.ClassRow.{ClassRow}
use Rattle.board_rules.specs.declared.design.Parts.{Parts}
use Rattle.board_rules.specs.declared.needs.Role.{Role}
use Rattle.board_rules.specs.declared.needs.Role.TheVariants.{Copper, Keepout}
use Rattle.board_rules.specs.declared.design.PairRow.{PairRow}
use Rattle.board_rules.specs.Designs.{IsFitSize, IsFitClass, IsFitPair, IsSound}
use Rattle.board_rules.specs.Classes.{or_else, or_zero, value_of, same_what, is_one_smd, typed_value, stated_in, untyped_in, untyped_of, untyped_at, own_value, class_of, value_in, is_typed, largest_in, largest_typed, largest_rule}
use Rattle.board_rules.specs.Pairs.{name_of, is_named, pair_rows, given_by, between, pair_value, largest_paired}
use Rattle.board_rules.specs.Needs.{bars, or_number, copper_gap, gap_of, need_in, role_of, net_of, largest_of}
use Rattle.board_rules.proofs.Stating.{most_given, largest_up_to, typed_same}
use Rattle.board_rules.proofs.Named.{paired_most}

-- at most m, where there is a number
abbrev pub UpTo : ℕ → Option ℕ → Type 0
UpTo m None = Unit {0}
UpTo m (Some n) = n ≤ m

-- these statements' values are at most m
abbrev pub AllUpTo : ℕ → List Stated → Type 0
AllUpTo m rows = AllByRecursion (λ (s : Stated). s.value ≤ m) rows

-- what these statements give is at most m
abbrev pub GivesUpTo : ℕ → List Stated → Type 0
GivesUpTo m rows = (what : What) → UpTo m (value_of what rows)

-- what each class states for two kinds, but for its untyped value, is at most m
abbrev pub ClassesUpTo : ℕ → List ClassRow → Type 0
ClassesUpTo m classes = AllByRecursion (λ (c : ClassRow). (k l : Kind) → UpTo m (typed_value c.clearances k l)) classes

-- what each two classes' names are given is at most m
abbrev pub PairsUpTo : ℕ → Parts → Type 0
PairsUpTo m p = (c d : ℕ) → GivesUpTo m (pair_rows p c d)

-- each untyped value is at most m
abbrev pub UntypedUpTo : ℕ → List (Option ℕ) → Type 0
UntypedUpTo m us = AllByRecursion (UpTo m) us

or_else_up_to : (m : ℕ) (a b : Option ℕ) → UpTo m a → UpTo m b → UpTo m (or_else a b)
or_else_up_to m (Some n) b h k = h
or_else_up_to m None b h k = k

some_up_to : (m : ℕ) (t : Bool) (n : ℕ) → n ≤ m → UpTo m (if t then Some n else None)
some_up_to m true n h = h
some_up_to m false n h = tt

if_up_to : (m : ℕ) (t : Bool) (a : Option ℕ) → UpTo m a → UpTo m (if t then a else None)
if_up_to m true a h = h
if_up_to m false a h = tt

value_up_to : (m : ℕ) (what : What) (rows : List Stated) → AllUpTo m rows → UpTo m (value_of what rows)
value_up_to m what [] h = tt
value_up_to m what (s ∷ rest) h = or_else_up_to m (value_of what rest) _ (value_up_to m what rest h.1) (some_up_to m (same_what s.what what) s.value h.0)

typed_up_to : (m : ℕ) (rows : List Stated) (k l : Kind) → GivesUpTo m rows → UpTo m (typed_value rows k l)
typed_up_to m rows k l h =
    or_else_up_to m (value_of (whats.Pair k l) rows) (if is_one_smd k l then value_of whats.DefaultSmd rows else None) (h (whats.Pair k l)) (if_up_to m (is_one_smd k l) _ (h whats.DefaultSmd))

stated_up_to : (m : ℕ) (classes : List ClassRow) (n : ℕ) → ClassesUpTo m classes → (k l : Kind) → UpTo m (typed_value (stated_in (slice_get classes n)) k l)
stated_up_to m [] n h k l = if_up_to m (is_one_smd k l) None tt
stated_up_to m (c ∷ rest) zero h k l = h.0 k l
stated_up_to m (c ∷ rest) (suc n) h k l = stated_up_to m rest n h.1 k l

untyped_up_to : (m : ℕ) (us : List (Option ℕ)) (n : ℕ) → UntypedUpTo m us → UpTo m (untyped_at us n)
untyped_up_to m [] n h = tt
untyped_up_to m (u ∷ rest) zero h = h.0
untyped_up_to m (u ∷ rest) (suc n) h = untyped_up_to m rest n h.1

zero_up_to : (m : ℕ) (a : Option ℕ) → UpTo m a → or_zero a ≤ m
zero_up_to m (Some n) h = h
zero_up_to m None h = omega arith

own_up_to : (m : ℕ) (p : Parts) (us : List (Option ℕ)) → ClassesUpTo m p.classes → UntypedUpTo m us → (class : ℕ) (k l : Kind) → UpTo m (own_value p us class k l)
own_up_to m p us h u class k l = or_else_up_to m (typed_value (stated_in (slice_get p.classes class)) k l) (untyped_at us class) (stated_up_to m p.classes class h k l) (untyped_up_to m us class u)

value_in_up_to : (m : ℕ) (p : Parts) (us : List (Option ℕ)) → ClassesUpTo m p.classes → UntypedUpTo m us → (class : ℕ) (k l : Kind) → value_in p us class k l ≤ m
value_in_up_to m p us h u class k l =
    zero_up_to m (or_else (own_value p us class k l) (own_value p us 0 k l)) (or_else_up_to m (own_value p us class k l) (own_value p us 0 k l) (own_up_to m p us h u class k l) (own_up_to m p us h u 0 k l))

given_up_to : (m : ℕ) (rows : List Stated) (k l : Kind) → GivesUpTo m rows → UpTo m (given_by rows k l)
given_up_to m rows k l h = or_else_up_to m (typed_value rows k l) (value_of whats.Untyped rows) (typed_up_to m rows k l h) (h whats.Untyped)

number_up_to : (m : ℕ) (o : Option ℕ) (n : ℕ) → UpTo m o → n ≤ m → or_number o n ≤ m
number_up_to m (Some k) n h le = h
number_up_to m None n h le = le

max_up_to : (m a b : ℕ) → a ≤ m → b ≤ m → max a b ≤ m
max_up_to m a b h k = omega arith

unless_up_to : (m : ℕ) (t : Bool) (a : Option ℕ) → UpTo m a → UpTo m (if t then None else a)
unless_up_to m true a h = tt
unless_up_to m false a h = h

-- what bounds all that the classes, the pairs and the rules give bounds what copper must keep
copper_up_to : (m : ℕ) (p : Parts) (us : List (Option ℕ)) → 1 ≤ m → ClassesUpTo m p.classes → PairsUpTo m p → UntypedUpTo m us → (k : Kind) (c : ℕ) (l : Kind) (d : ℕ) → copper_gap p us k c l d ≤ m
copper_up_to m p us one h pairs u k c l d =
    max_up_to m 1 _ one
    (number_up_to m (pair_value p c d k l) (max (value_in p us c k l) (value_in p us d k l)) (unless_up_to m ((c == 0) || (d == 0)) (between p c d k l) (given_up_to m (pair_rows p c d) k l (pairs c d)))
    (max_up_to m _ _ (value_in_up_to m p us h u c k l) (value_in_up_to m p us h u d k l)))

gap_up_to : (m : ℕ) (p : Parts) (us : List (Option ℕ)) → 1 ≤ m → ClassesUpTo m p.classes → PairsUpTo m p → UntypedUpTo m us → (a : Role) (net : Option ℕ) (b : Role) (other : Option ℕ) → UpTo m (gap_of p us a net b other)
gap_up_to m p us one h pairs u (Copper k) net (Copper l) other = copper_up_to m p us one h pairs u k (class_of p net) l (class_of p other)
gap_up_to m p us one h pairs u (Copper k) net (Keepout keep) other = some_up_to m (bars keep k) 1 one
gap_up_to m p us one h pairs u (Keepout keep) net (Copper l) other = some_up_to m (bars keep l) 1 one
gap_up_to m p us one h pairs u (Keepout keep) net (Keepout other_keep) other = tt

need_up_to : (m : ℕ) (p : Parts) (us : List (Option ℕ)) → 1 ≤ m → ClassesUpTo m p.classes → PairsUpTo m p → UntypedUpTo m us → (a b : Item) → UpTo m (need_in p us a b)
need_up_to m p us one h pairs u a b = unless_up_to m _ _ (gap_up_to m p us one h pairs u (role_of a) (net_of a) (role_of b) (net_of b))

-- ---- within the limits

gives_up_to : (m : ℕ) (rows : List Stated) → AllUpTo m rows → GivesUpTo m rows
gives_up_to m rows h what = value_up_to m what rows h

fit_classes : (stacks : ℕ) (classes : List ClassRow) → AllByRecursion (IsFitClass stacks) classes → ClassesUpTo width_limit_nm classes
fit_classes stacks [] h = tt
fit_classes stacks (c ∷ rest) h = (λ k l. typed_up_to width_limit_nm c.clearances k l (gives_up_to width_limit_nm c.clearances h.0.clearances), fit_classes stacks rest h.1)

joined_up_to : (m : ℕ) (xs ys : List Stated) → AllUpTo m xs → AllUpTo m ys → AllUpTo m (xs ++ ys)
joined_up_to m [] ys h k = k
joined_up_to m (x ∷ xs) ys h k = (h.0, joined_up_to m xs ys h.1 k)

fit_joined : (classes : ℕ) (test : PairRow → Bool) (rows : List PairRow) → AllByRecursion (IsFitPair classes) rows → AllUpTo width_limit_nm (flat_map (λ (r : PairRow). r.clearances) (filter test rows))
fit_joined classes test [] h = tt
fit_joined classes test (r ∷ rest) h = by (test r) (fit_joined classes test rest h.1)
  where
    by : (b : Bool) → AllUpTo width_limit_nm (flat_map (λ (q : PairRow). q.clearances) (filter test rest)) → AllUpTo width_limit_nm (flat_map (λ (q : PairRow). q.clearances) (cond b (r ∷ filter test rest) (filter test rest)))
    by true more = joined_up_to width_limit_nm r.clearances (flat_map (λ (q : PairRow). q.clearances) (filter test rest)) h.0.clearances more
    by false more = more

fit_pairs : (p : Parts) → IsSound p → PairsUpTo width_limit_nm p
fit_pairs p h c d = gives_up_to width_limit_nm (pair_rows p c d) (fit_joined (length p.classes) (is_named p (name_of p c) (name_of p d)) p.pairs h.pairs)

fit_rules : (us : List (Option ℕ)) → AllByRecursion IsFitSize us → UntypedUpTo width_limit_nm us
fit_rules [] h = tt
fit_rules (None ∷ rest) h = (tt, fit_rules rest h.1)
fit_rules (Some n ∷ rest) h = (h.0, fit_rules rest h.1)

-- under rules within the limit a need is at most a tenth of a metre
pub fit_need : (p : Parts) → IsSound p → (us : List (Option ℕ)) → AllByRecursion IsFitSize us → (a b : Item) (c : ℕ) → need_in p us a b ≡ Some c → c ≤ width_limit_nm
fit_need p h us u a b c e =
    subst (UpTo width_limit_nm) e (need_up_to width_limit_nm p us (omega arith) (fit_classes _ p.classes h.classes) (fit_pairs p h) (fit_rules us u) a b)

fit_of : (o : Option ℕ) → UpTo width_limit_nm o → IsFitSize o
fit_of None h = tt
fit_of (Some n) h = h

untyped_fit_in : (stacks : ℕ) (classes : List ClassRow) → AllByRecursion (IsFitClass stacks) classes → AllByRecursion IsFitSize (untyped_in classes)
untyped_fit_in stacks [] h = tt
untyped_fit_in stacks (c ∷ rest) h = (fit_of (value_of whats.Untyped c.clearances) (value_up_to width_limit_nm whats.Untyped c.clearances h.0.clearances), untyped_fit_in stacks rest h.1)

-- the rules that a design starts with are within the limit
pub untyped_fit : (p : Parts) → IsSound p → AllByRecursion IsFitSize (untyped_of p)
untyped_fit p h = untyped_fit_in (length p.stacks) p.classes h.classes

rule_up_to : (m : ℕ) (us : List (Option ℕ)) → UntypedUpTo m us → largest_rule us ≤ m
rule_up_to m [] h = omega arith
rule_up_to m (None ∷ rest) h = let more = rule_up_to m rest h.1 in omega (arith, more)
rule_up_to m (Some n ∷ rest) h = let more = rule_up_to m rest h.1 in let one : n ≤ m = h.0 in omega (arith, one, more)

up_to_largest : (m : ℕ) (rows : List Stated) → AllUpTo m rows → largest_in rows ≤ m
up_to_largest m rows h = largest_up_to m rows rows (λ what. zero_up_to m (value_of what rows) (value_up_to m what rows h))

typed_all : (m : ℕ) (test : Stated → Bool) (rows : List Stated) → AllUpTo m rows → AllUpTo m (filter test rows)
typed_all m test [] h = tt
typed_all m test (s ∷ rest) h = by (test s) (typed_all m test rest h.1)
  where
    by : (b : Bool) → AllUpTo m (filter test rest) → AllUpTo m (cond b (s ∷ filter test rest) (filter test rest))
    by true more = (h.0, more)
    by false more = more

fit_typed : (stacks : ℕ) (classes : List ClassRow) → AllByRecursion (IsFitClass stacks) classes → largest_typed classes ≤ width_limit_nm
fit_typed stacks [] h = omega arith
fit_typed stacks (c ∷ rest) h = max_up_to width_limit_nm _ _ (up_to_largest width_limit_nm (filter is_typed c.clearances) (typed_all width_limit_nm is_typed c.clearances h.0.clearances)) (fit_typed stacks rest h.1)

fit_paired : (p : Parts) → IsSound p → (rows : List PairRow) → largest_paired p rows ≤ width_limit_nm
fit_paired p h [] = omega arith
fit_paired p h (r ∷ rest) = max_up_to width_limit_nm _ _ (up_to_largest width_limit_nm (pair_rows p r.a r.b) (fit_joined (length p.classes) (is_named p (name_of p r.a) (name_of p r.b)) p.pairs h.pairs)) (fit_paired p h rest)

-- under rules within the limit the largest clearance is at most a tenth of a metre
pub fit_largest : (p : Parts) → IsSound p → (us : List (Option ℕ)) → AllByRecursion IsFitSize us → largest_of p us ≤ width_limit_nm
fit_largest p h us u =
    max_up_to width_limit_nm _ _ (max_up_to width_limit_nm 1 _ (omega arith) (max_up_to width_limit_nm _ _ (fit_typed _ p.classes h.classes) (fit_paired p h p.pairs))) (rule_up_to width_limit_nm us (fit_rules us u))

-- ---- at most the largest

up_to_zero : (m : ℕ) (o : Option ℕ) → or_zero o ≤ m → UpTo m o
up_to_zero m (Some n) h = h
up_to_zero m None h = tt

within_gives : (m : ℕ) (rows : List Stated) → largest_in rows ≤ m → GivesUpTo m rows
within_gives m rows h what = up_to_zero m (value_of what rows) (let one = most_given rows what in omega (arith, one, h))

classes_within : (m : ℕ) (classes : List ClassRow) → largest_typed classes ≤ m → ClassesUpTo m classes
classes_within m [] h = tt
classes_within m (c ∷ rest) h =
    (λ k l. subst (UpTo m) (typed_same c.clearances k l) (typed_up_to m (filter is_typed c.clearances) k l (within_gives m (filter is_typed c.clearances) (omega (arith, h)))), classes_within m rest (omega (arith, h)))

rules_within : (m : ℕ) (us : List (Option ℕ)) → largest_rule us ≤ m → UntypedUpTo m us
rules_within m [] h = tt
rules_within m (u ∷ rest) h = (up_to_zero m u (omega (arith, h)), rules_within m rest (omega (arith, h)))

-- no need is larger than the largest clearance under the same rules
pub largest_need : (p : Parts) (us : List (Option ℕ)) (a b : Item) (c : ℕ) → need_in p us a b ≡ Some c → c ≤ largest_of p us
largest_need p us a b c e =
    let m = largest_of p us in
    subst (UpTo m) e (need_up_to m p us (omega arith) (classes_within m p.classes (omega arith)) (λ x y. within_gives m (pair_rows p x y) (let le = paired_most p x y in omega (arith, le))) (rules_within m us (omega arith)) a b)
