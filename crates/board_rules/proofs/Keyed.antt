-- The table of a key has what is stated for its two names.
use Rattle.std.proofs.Common.{◌≡◌, ℕ, List, [], ◌∷◌, ◌++◌, min, max, Bool, true, false, cond, ◌&&◌, ◌||◌, refl, sym, ap, subst, arith, ◌∙◌}
use Rattle.std.specs.Prelude.{Option, Some, None, slice_get, ◌==◌, filter, flat_map, if◌then◌else◌}
use Rattle.std.specs.Map.{lookup}
use Rattle.std.proofs.lemmas.Bool.{eqb-true}
use Rattle.std.proofs.lemmas.List.Elements.{filter_agree}
use Rattle.indexmap.specs.IndexMap.{insert_entry}
use Rattle.board_rules.specs.declared.design.What.{What}
use Rattle.board_rules.specs.declared.design.Kind.{Kind}
use Rattle.board_rules.specs.declared.design.Kind.TheVariants as kinds
use Rattle.board_rules.specs.declared.design.Stated.{Stated}
use Rattle.board_rules.specs.declared.design.PairRow.{PairRow}
use Rattle.board_rules.specs.declared.design.Parts.{Parts}
use Rattle.board_rules.specs.declared.pair_tables.PairTable.{PairTable}
use Rattle.board_rules.specs.Classes.{or_else, value_of, same_what}
use Rattle.board_rules.specs.Pairs.{name_of, is_named, pair_rows, given_by}
use Rattle.board_rules.specs.Numbers.{numbers_of}
use Rattle.board_rules.specs.PairTables.{table_by, table_of, later_table, value_by, key_in, key_of, is_same_key, table_at, put_row, put_rows, or_empty, pair_tables_of}
use Rattle.board_rules.proofs.Named.{both_true}
use Rattle.board_rules.proofs.Numbering.{is_same_number, same_numbers}

-- ---- keys

-- two keys are there, and they are the same
abbrev is_key : Option (ℕ × ℕ) → Option (ℕ × ℕ) → Bool
is_key (Some j) (Some k) = is_same_key j k
is_key (Some j) None = false
is_key None k = false

and_false : (b : Bool) → b && false ≡ false
and_false true = refl
and_false false = refl

both_false : (b c : Bool) → (b && false) || (c && false) ≡ false
both_false true true = refl
both_false true false = refl
both_false false true = refl
both_false false false = refl

in_order : (a b c d : ℕ) → ((a == c) && (b == d)) || ((a == d) && (b == c)) ≡ (min a b == min c d) && (max a b == max c d)
in_order a b c d = grind arith

-- two numbers are of two others, in either order, exactly where their keys are the same
keys_agree : (a b c d : Option ℕ) → (is_same_number a c && is_same_number b d) || (is_same_number a d && is_same_number b c) ≡ is_key (key_in a b) (key_in c d)
keys_agree None b c d = refl
keys_agree (Some a) None None None = refl
keys_agree (Some a) None None (Some d) = and_false (a == d)
keys_agree (Some a) None (Some c) None = ap (λ (b : Bool). b || false) (and_false (a == c))
keys_agree (Some a) None (Some c) (Some d) = both_false (a == c) (a == d)
keys_agree (Some a) (Some b) None None = refl
keys_agree (Some a) (Some b) None (Some d) = and_false (a == d)
keys_agree (Some a) (Some b) (Some c) None = ap (λ (b : Bool). b || false) (and_false (a == c))
keys_agree (Some a) (Some b) (Some c) (Some d) = in_order a b c d

-- a row is of the names of two classes exactly where its key is theirs
named_key : (p : Parts) (c d : ℕ) (r : PairRow) → is_key (key_of (numbers_of p.classes) r.a r.b) (key_of (numbers_of p.classes) c d) ≡ is_named p (name_of p c) (name_of p d) r
named_key p c d r =
    let ns = numbers_of p.classes in
    sym (keys_agree (slice_get ns r.a) (slice_get ns r.b) (slice_get ns c) (slice_get ns d))
    ∙ (λ i. (sym (same_numbers p.classes r.a c) i && sym (same_numbers p.classes r.b d) i) || (sym (same_numbers p.classes r.a d) i && sym (same_numbers p.classes r.b c) i))

-- ---- tables of statements that are joined

value_join : (xs ys : List Stated) (what : What) → value_of what (xs ++ ys) ≡ or_else (value_of what ys) (value_of what xs)
value_join [] ys what = sym (or_none (value_of what ys))
  where
    or_none : (o : Option ℕ) → or_else o None ≡ o
    or_none (Some n) = refl
    or_none None = refl
value_join (s ∷ xs) ys what =
    ap (λ (o : Option ℕ). or_else o (if same_what s.what what then Some s.value else None)) (value_join xs ys what)
    ∙ first (value_of what ys) (value_of what xs) (if same_what s.what what then Some s.value else None)
  where
    first : (a b c : Option ℕ) → or_else (or_else a b) c ≡ or_else a (or_else b c)
    first (Some n) b c = refl
    first None b c = refl

later_is : (xs ys : List Stated) → later_table ys (table_of xs) ≡ table_of (xs ++ ys)
later_is xs ys = λ i. table_by (λ what. sym (value_join xs ys what) i)

-- what a table of statements gives two kinds
pub value_is : (rows : List Stated) (k l : Kind) → value_by (table_of rows) k l ≡ given_by rows k l
value_is rows kinds.Wire kinds.Wire = refl
value_is rows kinds.Wire kinds.Via = refl
value_is rows kinds.Wire kinds.Pin = refl
value_is rows kinds.Wire kinds.Smd = refl
value_is rows kinds.Via kinds.Wire = refl
value_is rows kinds.Via kinds.Via = refl
value_is rows kinds.Via kinds.Pin = refl
value_is rows kinds.Via kinds.Smd = refl
value_is rows kinds.Pin kinds.Wire = refl
value_is rows kinds.Pin kinds.Via = refl
value_is rows kinds.Pin kinds.Pin = refl
value_is rows kinds.Pin kinds.Smd = refl
value_is rows kinds.Smd kinds.Wire = refl
value_is rows kinds.Smd kinds.Via = refl
value_is rows kinds.Smd kinds.Pin = refl
value_is rows kinds.Smd kinds.Smd = refl

-- ---- the entries of the tables

abbrev Entries : Type 0
Entries = List ((ℕ × ℕ) × PairTable)

key_is : (j k : ℕ × ℕ) → is_same_key j k ≡ true → j ≡ k
key_is j k e =
    let both = both_true (j.0 == k.0) (j.1 == k.1) e in
    λ i. (eqb-true j.0 k.0 both.0 i, eqb-true j.1 k.1 both.1 i)

key_turned : (j k : ℕ × ℕ) → is_same_key j k ≡ is_same_key k j
key_turned j k = λ i. number_turned j.0 k.0 i && number_turned j.1 k.1 i
  where
    number_turned : (n m : ℕ) → (n == m) ≡ (m == n)
    number_turned n m = grind arith

-- what stands at a key after an entry was put in
found : (es : Entries) (j key : ℕ × ℕ) (t : PairTable) → lookup (is_same_key key) (insert_entry is_same_key es j t) ≡ cond (is_same_key j key) (Some t) (lookup (is_same_key key) es)
found [] j key t = ap (λ (b : Bool). cond b (Some t) None) (key_turned key j)
found (e ∷ es) j key t = by (is_same_key j e.0) (is_same_key j key) refl refl (found es j key t)
  where
    by : (b c : Bool) → is_same_key j e.0 ≡ b → is_same_key j key ≡ c → lookup (is_same_key key) (insert_entry is_same_key es j t) ≡ cond c (Some t) (lookup (is_same_key key) es)
        → lookup (is_same_key key) (cond b ((e.0, t) ∷ es) (e ∷ insert_entry is_same_key es j t)) ≡ cond c (Some t) (cond (is_same_key key e.0) (Some e.1) (lookup (is_same_key key) es))
    by true true is at more = ap (λ (x : Bool). cond x (Some t) (lookup (is_same_key key) es)) (subst (λ (k : ℕ × ℕ). is_same_key k e.0 ≡ true) (key_is j key at) is)
    by true false is at more =
        let other : is_same_key key e.0 ≡ false = key_turned key e.0 ∙ subst (λ (k : ℕ × ℕ). is_same_key k key ≡ false) (key_is j e.0 is) at in
        rw other refl
    by false true is at more =
        let other : is_same_key key e.0 ≡ false = subst (λ (k : ℕ × ℕ). is_same_key k e.0 ≡ false) (key_is j key at) is in
        rw other more
    by false false is at more = ap (λ (o : Option PairTable). cond (is_same_key key e.0) (Some e.1) o) more

-- the table of a key after one more row
one_more : (k : Option (ℕ × ℕ)) (rows : List Stated) (es : Entries) (key : ℕ × ℕ)
    → table_at (put_row k rows es) (Some key) ≡ cond (is_key k (Some key)) (later_table rows (table_at es (Some key))) (table_at es (Some key))
one_more None rows es key = refl
one_more (Some j) rows es key = ap or_empty (found es j key (later_table rows (table_at es (Some j)))) ∙ by (is_same_key j key) refl
  where
    by : (b : Bool) → is_same_key j key ≡ b
        → or_empty (cond b (Some (later_table rows (table_at es (Some j)))) (lookup (is_same_key key) es)) ≡ cond b (later_table rows (table_at es (Some key))) (table_at es (Some key))
    by true at = ap (λ (k : ℕ × ℕ). later_table rows (table_at es (Some k))) (key_is j key at)
    by false at = refl

-- what rows state for a key
abbrev keyed_rows : List ℕ → Option (ℕ × ℕ) → List PairRow → List Stated
keyed_rows ns key rows = flat_map (λ (r : PairRow). r.clearances) (filter (λ (r : PairRow). is_key (key_of ns r.a r.b) key) rows)

all_rows : (ns : List ℕ) (rows : List PairRow) (es : Entries) (key : ℕ × ℕ) (before : List Stated) → table_at es (Some key) ≡ table_of before
    → table_at (put_rows ns rows es) (Some key) ≡ table_of (before ++ keyed_rows ns (Some key) rows)
all_rows ns [] es key before is = is ∙ ap table_of (sym (append_none before))
  where
    append_none : (xs : List Stated) → xs ++ [] ≡ xs
    append_none [] = refl
    append_none (x ∷ xs) = ap (λ (ys : List Stated). x ∷ ys) (append_none xs)
all_rows ns (r ∷ rest) es key before is =
    by (is_key (key_of ns r.a r.b) (Some key)) (one_more (key_of ns r.a r.b) r.clearances es key) (λ sofar e. all_rows ns rest (put_row (key_of ns r.a r.b) r.clearances es) key sofar e)
  where
    next : Entries
    next = put_row (key_of ns r.a r.b) r.clearances es

    join : (xs ys zs : List Stated) → (xs ++ ys) ++ zs ≡ xs ++ (ys ++ zs)
    join [] ys zs = refl
    join (x ∷ xs) ys zs = ap (λ (ws : List Stated). x ∷ ws) (join xs ys zs)

    tail : List PairRow
    tail = filter (λ (q : PairRow). is_key (key_of ns q.a q.b) (Some key)) rest

    by : (b : Bool) → table_at next (Some key) ≡ cond b (later_table r.clearances (table_at es (Some key))) (table_at es (Some key))
        → ((sofar : List Stated) → table_at next (Some key) ≡ table_of sofar → table_at (put_rows ns rest next) (Some key) ≡ table_of (sofar ++ keyed_rows ns (Some key) rest))
        → table_at (put_rows ns rest next) (Some key) ≡ table_of (before ++ flat_map (λ (q : PairRow). q.clearances) (cond b (r ∷ tail) tail))
    by true e more =
        more (before ++ r.clearances) (e ∙ ap (later_table r.clearances) is ∙ later_is before r.clearances)
        ∙ ap table_of (join before r.clearances (keyed_rows ns (Some key) rest))
    by false e more = more before (e ∙ is)

none_keyed : (ns : List ℕ) (rows : List PairRow) → keyed_rows ns None rows ≡ []
none_keyed ns [] = refl
none_keyed ns (r ∷ rest) = ap (λ (b : Bool). flat_map (λ (q : PairRow). q.clearances) (cond b (r ∷ tail) tail)) (never (key_of ns r.a r.b)) ∙ none_keyed ns rest
  where
    tail : List PairRow
    tail = filter (λ (q : PairRow). is_key (key_of ns q.a q.b) None) rest

    never : (k : Option (ℕ × ℕ)) → is_key k None ≡ false
    never None = refl
    never (Some j) = refl

at_key : (ns : List ℕ) (rows : List PairRow) (key : Option (ℕ × ℕ)) → table_at (put_rows ns rows []) key ≡ table_of (keyed_rows ns key rows)
at_key ns rows None = ap table_of (sym (none_keyed ns rows))
at_key ns rows (Some key) = all_rows ns rows [] key [] refl

-- the table of two classes has what is stated for their names
pub paired_is : (p : Parts) (c d : ℕ) → table_at (pair_tables_of p).1 (key_of (pair_tables_of p).0 c d) ≡ table_of (pair_rows p c d)
paired_is p c d =
    let ns = numbers_of p.classes in
    at_key ns p.pairs (key_of ns c d)
    ∙ ap (λ (rows : List PairRow). table_of (flat_map (λ (r : PairRow). r.clearances) rows))
    (filter_agree (λ (r : PairRow). is_key (key_of ns r.a r.b) (key_of ns c d)) (is_named p (name_of p c) (name_of p d)) (named_key p c d) p.pairs)
