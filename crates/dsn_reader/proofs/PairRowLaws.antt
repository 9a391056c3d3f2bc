-- The pairs of classes that are made one by one are those of the design, and are within the limits.
use Rattle.std.proofs.Common.{◌≡◌, ℕ, suc, ◌+◌, ◌≤◌, ◌<◌, Bool, true, false, cond, List, [], ◌∷◌, ◌++◌, map, length, Option, Some, None, option_to_list, refl, sym, ap, subst, ◌∙◌, append_assoc, arith}
use Rattle.std.specs.Prelude.{slice_get, get_or, option_and_then}
use Rattle.std.specs.List.{AllByRecursion}
use Rattle.std.specs.Str.{bytes_eq}
use Rattle.std.proofs.Math.Seq.{get_or-append_seam}
use Rattle.std.proofs.lemmas.List.{append-nil, length-append, get_or_append_left}
use Rattle.std.proofs.lemmas.List.Folds.{list_any-append}
use Rattle.std.proofs.lemmas.Option.{slice_get-get_or}
use Rattle.std.proofs.lemmas.Slice.Eq.{bytes_eq-Decides}
use Rattle.board_rules.specs.declared.design.PairRow.{PairRow}
use Rattle.board_rules.specs.declared.design.Stated.{Stated}
use Rattle.board_rules.specs.Designs.{IsFitPair}
use Rattle.dsn_lists.specs.declared.marks.Mark.{Mark}
use Rattle.dsn_lists.specs.Names.{is_among, place_of}
use Rattle.dsn_lists.specs.Limits.{AreFitStated}
use Rattle.dsn_lists.proofs.Growing.{grows_behind, there, not_there, put_there}
use Rattle.dsn_lists.proofs.Bounds.{all_append, place_bound}
use Rattle.dsn_network.specs.declared.classes.Class.{Class}
use Rattle.dsn_network.specs.declared.pairs.ClassPairs.{ClassPairs}
use Rattle.dsn_reader.specs.declared.pairs.ClassNames.{ClassNames}
use Rattle.dsn_reader.specs.Numbering.{numbers_by}
use Rattle.dsn_reader.specs.PairAssembly.{no_class_names, with_class_name, names_met, number_in, pairs_behind, pairs_among, pairs_of_lists, all_pairs}
use Rattle.dsn_reader.specs.Rows.{first_named, numbers_of_classes, each_two, rows_of_pairs}
use Rattle.dsn_reader.proofs.NumberingLaws.{numbers_all, numbers_are}

-- ---- the number of a class

-- the first, where there is one, else the second
abbrev either : Option ℕ → Option ℕ → Option ℕ
either (Some n) o = Some n
either None o = o

either_none : (o : Option ℕ) → either o None ≡ o
either_none None = refl
either_none (Some n) = refl

-- each name has a number
abbrev AreNumbered : ClassNames → Type 0
AreNumbered known = length known.numbers ≡ length known.names

-- the number of a name with this place
at_place : (known : ClassNames) (name : List ℕ) (i : ℕ) → AreNumbered known → place_of known.names name ≡ Some i → number_in known name ≡ Some (get_or known.numbers i 0)
at_place known name i same e =
    let low = place_bound known.names name i e in
    ap (λ (o : Option ℕ). option_and_then (λ place. slice_get known.numbers place) o) e ∙ slice_get-get_or known.numbers i 0 (omega (arith, low, same))

no_place : (known : ClassNames) (name : List ℕ) → is_among name known.names ≡ false → number_in known name ≡ None
no_place known name none = ap (λ (o : Option ℕ). option_and_then (λ place. slice_get known.numbers place) o) (not_there known.names name none)

-- a number for the name, if this is true
abbrev own : ℕ → Bool → Option ℕ
own k b = cond b (Some k) None

abbrev longer : ClassNames → ℕ → List ℕ → ClassNames
longer known k c = record { names = known.names ++ c ∷ []; numbers = known.numbers ++ k ∷ [] }

longer_numbered : (known : ClassNames) (k : ℕ) (c : List ℕ) → AreNumbered known → AreNumbered (longer known k c)
longer_numbered known k c same =
    let names = length-append known.names (c ∷ []) in
    let numbers = length-append known.numbers (k ∷ []) in
    omega (arith, names, numbers, same)

-- a class whose name was met gets no number
old_number : (known : ClassNames) (k : ℕ) (c name : List ℕ) (t : Bool) → AreNumbered known → is_among c known.names ≡ true → bytes_eq name c ≡ t → number_in known name ≡ either (number_in known name) (own k t)
old_number known k c name false same is e = sym (either_none (number_in known name))
old_number known k c name true same is e =
    let one : c ≡ name = sym ((bytes_eq-Decides name c).0 e) in
    let i = there known.names name (subst (λ (n : List ℕ). is_among n known.names ≡ true) one is) in
    let n = at_place known name i.0 same i.1 in
    n ∙ sym (ap (λ (o : Option ℕ). either o (Some k)) n)

-- the name of the class that is put behind others, or another
new_name : (known : ClassNames) (k : ℕ) (c name : List ℕ) (t : Bool) → AreNumbered known → is_among c known.names ≡ false → is_among name known.names ≡ false → bytes_eq name c ≡ t → number_in (longer known k c) name ≡ own k t
new_name known k c name true same fresh none e =
    let one : c ≡ name = sym ((bytes_eq-Decides name c).0 e) in
    let place : place_of (known.names ++ c ∷ []) name ≡ Some (length known.names) = subst (λ (n : List ℕ). place_of (known.names ++ c ∷ []) n ≡ Some (length known.names)) one (put_there known.names c fresh) in
    at_place (longer known k c) name (length known.names) (longer_numbered known k c same) place
    ∙ ap (λ (n : ℕ). Some (get_or (known.numbers ++ k ∷ []) n 0)) (sym same)
    ∙ ap (λ (n : ℕ). Some n) (get_or-append_seam known.numbers k [] 0)
new_name known k c name false same fresh none e =
    let all = list_any-append (bytes_eq name) known.names (c ∷ []) in
    no_place (longer known k c) name (all ∙ rw (none, e) refl)

-- a class whose name is new gets its number
new_number : (known : ClassNames) (k : ℕ) (c name : List ℕ) (a : Bool) → AreNumbered known → is_among c known.names ≡ false → is_among name known.names ≡ a
    → number_in (longer known k c) name ≡ either (number_in known name) (own k (bytes_eq name c))
new_number known k c name true same fresh is =
    let i = there known.names name is in
    let low = place_bound known.names name i.0 i.1 in
    let n = at_place known name i.0 same i.1 in
    at_place (longer known k c) name i.0 (longer_numbered known k c same) (grows_behind known.names (c ∷ []) name i.0 i.1)
    ∙ ap (λ (n : ℕ). Some n) (get_or_append_left known.numbers (k ∷ []) 0 i.0 (omega (arith, low, same)))
    ∙ sym (ap (λ (o : Option ℕ). either o (own k (bytes_eq name c))) n)
new_number known k c name false same fresh none =
    new_name known k c name (bytes_eq name c) same fresh none refl ∙ sym (ap (λ (o : Option ℕ). either o (own k (bytes_eq name c))) (no_place known name none))

one_more : (known : ClassNames) (k : ℕ) (c name : List ℕ) → AreNumbered known → number_in (with_class_name known k c) name ≡ either (number_in known name) (own k (bytes_eq name c))
one_more known k c name same = by (is_among c known.names) refl
  where
    by : (b : Bool) → is_among c known.names ≡ b → number_in (cond b known (longer known k c)) name ≡ either (number_in known name) (own k (bytes_eq name c))
    by true is = old_number known k c name (bytes_eq name c) same is refl
    by false fresh = new_number known k c name (is_among name known.names) same fresh refl

still_numbered : (known : ClassNames) (k : ℕ) (c : List ℕ) (b : Bool) → AreNumbered known → AreNumbered (cond b known (longer known k c))
still_numbered known k c true same = same
still_numbered known k c false same = longer_numbered known k c same

either_own : (o p : Option ℕ) (k : ℕ) (b : Bool) → either (either o (own k b)) p ≡ either o (cond b (Some k) p)
either_own None p k true = refl
either_own None p k false = refl
either_own (Some n) p k b = refl

met_number : (known : ClassNames) (k : ℕ) (cs : List Class) (name : List ℕ) → AreNumbered known → number_in (names_met known k cs) name ≡ either (number_in known name) (first_named k cs name)
unfolding names_met
met_number known k [] name same = sym (either_none (number_in known name))
met_number known k (c ∷ cs) name same =
    met_number (with_class_name known k c.name) (suc k) cs name (still_numbered known k c.name (is_among c.name known.names) same)
    ∙ ap (λ (o : Option ℕ). either o (first_named (suc k) cs name)) (one_more known k c.name name same)
    ∙ either_own (number_in known name) (first_named (suc k) cs name) k (bytes_eq name c.name)

-- the number of a name is that of the first class that has it
number_is : (cs : List Class) (name : List ℕ) → number_in (names_met no_class_names 1 cs) name ≡ first_named 1 cs name
number_is cs name = met_number no_class_names 1 cs name refl

-- ---- rows

numbers_same : (number : List ℕ → Option ℕ) (cs : List Class) → ((name : List ℕ) → number name ≡ first_named 1 cs name) → (ms : List Mark) → numbers_all number ms ≡ numbers_of_classes cs ms
numbers_same number cs same [] = refl
numbers_same number cs same (m ∷ ms) = λ i. option_to_list (same m.name i) ++ numbers_same number cs same ms i

-- the row of two classes
abbrev pair_of : ℕ → List Stated → ℕ → PairRow
pair_of a stated b = record { a = a; b = b; clearances = stated }

behind_are : (rows : List PairRow) (a : ℕ) (stated : List Stated) (bs : List ℕ) → pairs_behind rows a stated bs ≡ rows ++ map (pair_of a stated) bs
unfolding pairs_behind
behind_are rows a stated [] = sym (append-nil rows)
behind_are rows a stated (b ∷ bs) = behind_are (rows ++ pair_of a stated b ∷ []) a stated bs ∙ append_assoc rows (pair_of a stated b ∷ []) (map (pair_of a stated) bs)

among_are : (rows : List PairRow) (stated : List Stated) (ids : List ℕ) → pairs_among rows stated ids ≡ rows ++ each_two stated ids
unfolding pairs_among
among_are rows stated [] = sym (append-nil rows)
among_are rows stated (a ∷ ids) =
    among_are (pairs_behind rows a stated ids) stated ids
    ∙ ap (λ (rs : List PairRow). rs ++ each_two stated ids) (behind_are rows a stated ids)
    ∙ append_assoc rows (map (pair_of a stated) ids) (each_two stated ids)

lists_are : (known : ClassNames) (cs : List Class) → ((name : List ℕ) → number_in known name ≡ first_named 1 cs name) → (rows : List PairRow) (lists : List ClassPairs) → pairs_of_lists known rows lists ≡ rows ++ rows_of_pairs cs lists
unfolding pairs_of_lists
lists_are known cs same rows [] = sym (append-nil rows)
lists_are known cs same rows (p ∷ lists) =
    let ids = numbers_by (number_in known) [] p.names in
    let ids_are : ids ≡ numbers_of_classes cs p.names = numbers_are (number_in known) [] p.names ∙ numbers_same (number_in known) cs same p.names in
    lists_are known cs same (pairs_among rows p.stated ids) lists
    ∙ ap (λ (rs : List PairRow). rs ++ rows_of_pairs cs lists) (among_are rows p.stated ids ∙ ap (λ (xs : List ℕ). rows ++ each_two p.stated xs) ids_are)
    ∙ append_assoc rows (each_two p.stated (numbers_of_classes cs p.names)) (rows_of_pairs cs lists)

-- the rows that are made are those of the lists between classes
pub pairs_are : (cs : List Class) (lists : List ClassPairs) → all_pairs cs lists ≡ rows_of_pairs cs lists
pairs_are cs lists = lists_are (names_met no_class_names 1 cs) cs (number_is cs) [] lists

-- ---- within the limits

named_low : (k : ℕ) (cs : List Class) (name : List ℕ) (n : ℕ) → first_named k cs name ≡ Some n → n < k + length cs
named_low k [] name n e = absurd cc
named_low k (c ∷ cs) name n e = by (bytes_eq name c.name) (λ h. named_low (suc k) cs name n h) e
  where
    by : (b : Bool) → (first_named (suc k) cs name ≡ Some n → n < suc k + length cs) → cond b (Some k) (first_named (suc k) cs name) ≡ Some n → n < k + length (c ∷ cs)
    by true more e = let same : k ≡ n = cc in omega (arith, same)
    by false more e = let low = more e in omega (arith, low)

low_list : (n : ℕ) (o : Option ℕ) → ((k : ℕ) → o ≡ Some k → k < n) → AllByRecursion (λ (i : ℕ). i < n) (option_to_list o)
low_list n None low = tt
low_list n (Some k) low = (low k refl, tt)

numbers_low : (n : ℕ) (cs : List Class) (ms : List Mark) → 1 + length cs ≤ n → AllByRecursion (λ (i : ℕ). i < n) (numbers_of_classes cs ms)
numbers_low n cs [] many = tt
numbers_low n cs (m ∷ ms) many =
    all_append (λ (i : ℕ). i < n) (option_to_list (first_named 1 cs m.name)) (numbers_of_classes cs ms)
    (low_list n (first_named 1 cs m.name) (λ k e. let low = named_low 1 cs m.name k e in omega (arith, low, many)))
    (numbers_low n cs ms many)

with_one : (n a : ℕ) (stated : List Stated) (ids : List ℕ) → a < n → AreFitStated stated → AllByRecursion (λ (i : ℕ). i < n) ids → AllByRecursion (IsFitPair n) (map (pair_of a stated) ids)
with_one n a stated [] low fit all = tt
with_one n a stated (b ∷ ids) low fit all = (record { one = low; other = all.0; clearances = fit }, with_one n a stated ids low fit all.1)

two_fit : (n : ℕ) (stated : List Stated) (ids : List ℕ) → AreFitStated stated → AllByRecursion (λ (i : ℕ). i < n) ids → AllByRecursion (IsFitPair n) (each_two stated ids)
two_fit n stated [] fit all = tt
two_fit n stated (a ∷ ids) fit all = all_append (IsFitPair n) (map (pair_of a stated) ids) (each_two stated ids) (with_one n a stated ids all.0 fit all.1) (two_fit n stated ids fit all.1)

rows_fit : (n : ℕ) (cs : List Class) (lists : List ClassPairs) → 1 + length cs ≤ n → AllByRecursion (λ (p : ClassPairs). AreFitStated p.stated) lists → AllByRecursion (IsFitPair n) (rows_of_pairs cs lists)
rows_fit n cs [] many fit = tt
rows_fit n cs (p ∷ lists) many fit =
    all_append (IsFitPair n) (each_two p.stated (numbers_of_classes cs p.names)) (rows_of_pairs cs lists)
    (two_fit n p.stated (numbers_of_classes cs p.names) fit.0 (numbers_low n cs p.names many)) (rows_fit n cs lists many fit.1)

-- the rows name classes that are there, where there are at least as many as classes and the structure's rule
pub pairs_fit : (n : ℕ) (cs : List Class) (lists : List ClassPairs) → 1 + length cs ≤ n → AllByRecursion (λ (p : ClassPairs). AreFitStated p.stated) lists → AllByRecursion (IsFitPair n) (all_pairs cs lists)
pairs_fit n cs lists many fit = subst (λ (rs : List PairRow). AllByRecursion (IsFitPair n) rs) (sym (pairs_are cs lists)) (rows_fit n cs lists many fit)
