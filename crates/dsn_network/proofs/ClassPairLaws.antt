-- What a list between classes stands for is what is read, and its first fault is the one that is told.
use Rattle.std.proofs.Common.{◌≡◌, ℕ, ◌+◌, ◌≤◌, ◌<◌, suc, Bool, true, false, cond, List, [], ◌∷◌, ◌++◌, map, length, Ok, Err, refl, sym, ap, subst, ◌∙◌, append_assoc, arith, inl, inr}
use Rattle.std.specs.Prelude.{◌==◌, not}
use Rattle.std.proofs.lemmas.Bool.{eqb-true, false_from_ne_true}
use Rattle.std.proofs.lemmas.List.{append-nil, length-append, map-append}
use Rattle.sexp_text.specs.Forest.{Forest, End, Word, Branch}
use Rattle.sexp_text.specs.declared.units.Unit.{Unit as LengthUnit}
use Rattle.board_rules.specs.declared.design.Stated.{Stated}
use Rattle.dsn_lists.specs.declared.faults.DesignFault.{DesignFault}
use Rattle.dsn_lists.specs.declared.faults.DesignKind.TheVariants as kind
use Rattle.dsn_lists.specs.declared.marks.Mark.{Mark}
use Rattle.dsn_lists.specs.Results.{Read, ◌>>=◌, wrong, each}
use Rattle.dsn_lists.specs.Words.{Heading, head_of, word_of}
use Rattle.dsn_lists.specs.Rules.{clearances_of}
use Rattle.dsn_lists.specs.Lists.{collect, Every, last_of, told, IsFirst}
use Rattle.dsn_lists.specs.ShortLists.{first_words}
use Rattle.dsn_lists.specs.Statements.{Claim, AreStated, clearances_in}
use Rattle.dsn_lists.proofs.Firsts.{made, failed, ok_is, bind_ok, bind_err, guard_ok, guard_err, first_found, first_again}
use Rattle.dsn_lists.proofs.ShortLaws.{names_found, names_again, names_fault, names_fault_again}
use Rattle.dsn_lists.proofs.UnitLaws.{last-append}
use Rattle.dsn_lists.proofs.StatementLaws.{claimed}
use Rattle.dsn_lists.proofs.RuleLaws.{AllClaims, claims_join, all_stated, stated_are}
use Rattle.dsn_lists.proofs.ClearancesLaws.{clearances_found, clearances_again, clearances_fault, clearances_fault_again, clearances_state}
use Rattle.dsn_network.specs.declared.pairs.ClassPairs.{ClassPairs}
use Rattle.dsn_network.specs.declared.pairs.PairWord.{PairWord}
use Rattle.dsn_network.specs.declared.pairs.PairWord.TheVariants as words
use Rattle.dsn_network.specs.ClassPairings.{two_names, names_once, pair_word, pair_list, pair_item, no_pairs, unless_nameless, pairs_of}
use Rattle.dsn_network.specs.ClassPairLists.{AreTwoNames, TwoNamesFault, IsOfPairs, IsPairsList, names_of_list, pair_names, claims_of_list, pair_claims, IsPairs, MayStand, OfPairsFault, PairsListFault, PairsFault}

-- ---- the names

two_found : (at : ℕ) (f : Forest) (ms : List Mark) → two_names at f ≡ Ok ms → AreTwoNames f × (ms ≡ first_words f)
unfolding two_names word_of
two_found at End ms e = absurd cc
two_found at (Branch a inside rest) ms e = absurd cc
two_found at (Word a text End) ms e = absurd cc
two_found at (Word a text (Branch b inside rest)) ms e = absurd cc
two_found at (Word a text (Word b more rest)) ms e = names_found at (Word a text (Word b more rest)) ms e

two_again : (at : ℕ) (f : Forest) → AreTwoNames f → two_names at f ≡ Ok (first_words f)
unfolding two_names word_of
two_again at End h = absurd h
two_again at (Branch a inside rest) h = absurd h
two_again at (Word a text End) h = absurd h
two_again at (Word a text (Branch b inside rest)) h = absurd h
two_again at (Word a text (Word b more rest)) h = names_again at (Word a text (Word b more rest)) h

two_fault : (at : ℕ) (f : Forest) (e : DesignFault) → two_names at f ≡ Err e → TwoNamesFault at f e
unfolding two_names word_of
two_fault at End e h = cc
two_fault at (Branch a inside rest) e h = cc
two_fault at (Word a text End) e h = cc
two_fault at (Word a text (Branch b inside rest)) e h = cc
two_fault at (Word a text (Word b more rest)) e h = names_fault at (Word a text (Word b more rest)) e h

two_fault_again : (at : ℕ) (f : Forest) (e : DesignFault) → TwoNamesFault at f e → two_names at f ≡ Err e
unfolding two_names word_of
two_fault_again at End e h = ap failed (sym h)
two_fault_again at (Branch a inside rest) e h = ap failed (sym h)
two_fault_again at (Word a text End) e h = ap failed (sym h)
two_fault_again at (Word a text (Branch b inside rest)) e h = ap failed (sym h)
two_fault_again at (Word a text (Word b more rest)) e h = names_fault_again at (Word a text (Word b more rest)) e h

-- ---- what lists add

-- how often names are given: once or never
abbrev named : List Mark → ℕ
named [] = 0
named (m ∷ ms) = 1

-- the same with the last of these names, and these clearances behind those that are there
abbrev adding : LengthUnit → ClassPairs → List (List Mark) → List Claim → ClassPairs
adding u p ns cs = record { names = last_of p.names ns; stated = p.stated ++ map (claimed u) cs }

adding_none : (u : LengthUnit) (p : ClassPairs) → p ≡ adding u p [] []
adding_none u p = λ i. record { names = p.names; stated = sym (append-nil p.stated) i }

adding_more : (u : LengthUnit) (p : ClassPairs) (ns ms : List (List Mark)) (cs ds : List Claim) → adding u (adding u p ns cs) ms ds ≡ adding u p (ns ++ ms) (cs ++ ds)
adding_more u p ns ms cs ds = λ i. record {
  names = sym (last-append p.names ns ms) i;
  stated = (append_assoc p.stated (map (claimed u) cs) (map (claimed u) ds) ∙ ap (λ (xs : List Stated). p.stated ++ xs) (sym (map-append (claimed u) cs ds))) i;
}

adding_names : (u : LengthUnit) (p : ClassPairs) (ms ns : List Mark) → ns ≡ ms → record p { names = ns } ≡ adding u p (ms ∷ []) []
adding_names u p ms ns e = λ i. record { names = e i; stated = sym (append-nil p.stated) i }

adding_stated : (u : LengthUnit) (p : ClassPairs) (ss : List Stated) (cs : List Claim) → ss ≡ p.stated ++ map (claimed u) cs → record p { stated = ss } ≡ adding u p [] cs
adding_stated u p ss cs e = λ i. record { names = p.names; stated = e i }

-- ---- one list

abbrev next : LengthUnit → ClassPairs → PairWord → Forest → ClassPairs
next u p k f = adding u p (names_of_list k f) (claims_of_list k f)

-- a list as it has to be, and no second names
abbrev IsGood : LengthUnit → ClassPairs → PairWord → Forest → Type 0
IsGood u p k f = IsOfPairs u k f × (named p.names + length (names_of_list k f) ≤ 1)

at_most_one : (ms : List Mark) → named ms ≤ 1
at_most_one [] = omega arith
at_most_one (m ∷ ms) = omega arith

one_is : (f : Forest) → AreTwoNames f → named (first_words f) ≡ 1
one_is End h = absurd h
one_is (Word a text rest) h = refl
one_is (Branch a inside rest) h = absurd h

named_next : (u : LengthUnit) (p : ClassPairs) (k : PairWord) (f : Forest) → IsGood u p k f → named (next u p k f).names ≡ named p.names + length (names_of_list k f)
named_next u p words.Names f g = let one = one_is f g.0 in let few = g.1 in omega (arith, one, few)
named_next u p words.Rules f g = omega arith
named_next u p words.Other f g = omega arith

-- the names of a list behind its keyword, in place of those that are there
abbrev read_names : ClassPairs → ℕ → Forest → Read ClassPairs
read_names p at f = two_names at f >>= λ ms. made (record p { names = ms })

not_zero : (n : ℕ) → (suc n == 0) ≡ false
not_zero n = false_from_ne_true (suc n == 0) (λ e. let zero = eqb-true (suc n) 0 e in absurd (omega arith))

none_named : (ms : List Mark) → not (length ms == 0) ≡ false → named ms ≡ 0
none_named [] e = refl
none_named (m ∷ ms) e = absurd (let other : true ≡ false = sym (ap not (not_zero (length ms))) ∙ e in cc)

some_named : (ms : List Mark) → not (length ms == 0) ≡ true → named ms ≡ 1
some_named [] e = absurd cc
some_named (m ∷ ms) e = refl

named_none : (ms : List Mark) → named ms ≡ 0 → (length ms == 0) ≡ true
named_none [] e = refl
named_none (m ∷ ms) e = absurd cc

named_some : (ms : List Mark) → 0 < named ms → (length ms == 0) ≡ false
named_some [] h = absurd (omega arith)
named_some (m ∷ ms) h = not_zero (length ms)

one_found : (u : LengthUnit) (p : ClassPairs) (at : ℕ) (h : Heading) (k : PairWord) (q : ClassPairs) → pair_list u p at h k ≡ Ok q → IsGood u p k h.args × (q ≡ next u p k h.args)
unfolding names_once
one_found u p at h words.Names q e =
    let g = guard_ok (not (length p.names == 0)) (told kind.Form at) (read_names p at h.args) q e in
    let ms = bind_ok (two_names at h.args) (λ ms. made (record p { names = ms })) q g.1 in
    let v = two_found at h.args ms.0 ms.1 in
    let none = none_named p.names g.0 in
    ((v.0, omega (arith, none)), sym (ok_is (record p { names = ms.0 }) q ms.2) ∙ adding_names u p (first_words h.args) ms.0 v.1)
one_found u p at h words.Rules q e =
    let ss = bind_ok (clearances_of u p.stated h.args) (λ ss. made (record p { stated = ss })) q e in
    let v = clearances_found u h.args p.stated ss.0 ss.1 in
    let few = at_most_one p.names in
    ((v.0, omega (arith, few)), sym (ok_is (record p { stated = ss.0 }) q ss.2) ∙ adding_stated u p ss.0 (collect clearances_in h.args) v.1)
one_found u p at h words.Other q e = let few = at_most_one p.names in ((tt, omega (arith, few)), sym (ok_is p q e) ∙ adding_none u p)

one_again : (u : LengthUnit) (p : ClassPairs) (at : ℕ) (h : Heading) (k : PairWord) → IsGood u p k h.args → pair_list u p at h k ≡ Ok (next u p k h.args)
unfolding names_once
one_again u p at h words.Names g =
    let few = g.1 in
    let none : named p.names ≡ 0 = omega (arith, few) in
    ap (λ (b : Bool). cond (not b) (wrong kind.Form at) (read_names p at h.args)) (named_none p.names none) ∙ rw (two_again at h.args g.0) (ap made (adding_names u p (first_words h.args) (first_words h.args) refl))
one_again u p at h words.Rules g = rw (clearances_again u h.args p.stated g.0) (ap made (adding_stated u p _ (collect clearances_in h.args) refl))
one_again u p at h words.Other g = ap made (adding_none u p)

one_fault : (u : LengthUnit) (p : ClassPairs) (n at : ℕ) (h : Heading) (k : PairWord) (e : DesignFault) → named p.names ≡ n → pair_list u p at h k ≡ Err e → OfPairsFault u n at k h.args e
unfolding names_once
one_fault u p n at h words.Names e same k =
    elim (guard_err (not (length p.names == 0)) (told kind.Form at) (read_names p at h.args) e k) [
      | inl second ↦ let some = some_named p.names second.0 in inl (omega (arith, some, same), second.1)
      | inr first ↦ elim (bind_err (two_names at h.args) (λ ms. made (record p { names = ms })) e first.1) [
        | inl here ↦ inr (sym same ∙ none_named p.names first.0, two_fault at h.args e here)
        | inr later ↦ absurd cc
      ]
    ]
one_fault u p n at h words.Rules e same k =
    elim (bind_err (clearances_of u p.stated h.args) (λ ss. made (record p { stated = ss })) e k) [
      | inl here ↦ clearances_fault u p.stated h.args e here
      | inr later ↦ absurd cc
    ]
one_fault u p n at h words.Other e same k = absurd cc

one_fault_again : (u : LengthUnit) (p : ClassPairs) (n at : ℕ) (h : Heading) (k : PairWord) (e : DesignFault) → named p.names ≡ n → OfPairsFault u n at k h.args e → pair_list u p at h k ≡ Err e
unfolding names_once
one_fault_again u p n at h words.Names e same (inl second) =
    let some = second.0 in
    rw (named_some p.names (omega (arith, some, same)), second.1) refl
one_fault_again u p n at h words.Names e same (inr first) =
    ap (λ (b : Bool). cond (not b) (wrong kind.Form at) (read_names p at h.args)) (named_none p.names (same ∙ first.0)) ∙ rw (two_fault_again at h.args e first.1) refl
one_fault_again u p n at h words.Rules e same k = rw (clearances_fault_again u p.stated h.args e k) refl
one_fault_again u p n at h words.Other e same k = absurd k

-- ---- all lists

-- what is stated behind all lists
abbrev all : LengthUnit → ClassPairs → Forest → ClassPairs
all u p f = adding u p (collect pair_names f) (collect pair_claims f)

-- lists as they have to be, and no second names
record AreGood (u : LengthUnit) (p : ClassPairs) (f : Forest) : Type 0 where
  formed : Every (IsPairsList u) f
  once : named p.names + length (collect pair_names f) ≤ 1

more : (u : LengthUnit) (p : ClassPairs) (at : ℕ) (inside rest : Forest) → all u (next u p (pair_word (head_of inside).text) (head_of inside).args) rest ≡ all u p (Branch at inside rest)
more u p at inside rest = adding_more u p (pair_names at inside) (collect pair_names rest) (pair_claims at inside) (collect pair_claims rest)

all_found : (u : LengthUnit) (f : Forest) (p q : ClassPairs) → each (pair_item u) p f ≡ Ok q → AreGood u p f × (q ≡ all u p f)
unfolding each pair_item
all_found u End p q e = let few = at_most_one p.names in (record { formed = tt; once = omega (arith, few) }, sym (ok_is p q e) ∙ adding_none u p)
all_found u (Word at text rest) p q e = absurd cc
all_found u (Branch at inside rest) p q e =
    let y = bind_ok (pair_item u p at inside) (λ y. each (pair_item u) y rest) q e in
    let one = one_found u p at (head_of inside) (pair_word (head_of inside).text) y.0 y.1 in
    let others = all_found u rest y.0 q y.2 in
    let step = ap (λ (x : ClassPairs). named x.names) one.1 ∙ named_next u p (pair_word (head_of inside).text) (head_of inside).args one.0 in
    let sum = length-append (pair_names at inside) (collect pair_names rest) in
    let few = others.0.once in
    (record { formed = (one.0.0, others.0.formed); once = omega (arith, step, sum, few) }, others.1 ∙ ap (λ (x : ClassPairs). all u x rest) one.1 ∙ more u p at inside rest)

-- the first list is good, and so are those behind it
split : (u : LengthUnit) (p : ClassPairs) (at : ℕ) (inside rest : Forest) → AreGood u p (Branch at inside rest)
    → IsGood u p (pair_word (head_of inside).text) (head_of inside).args × AreGood u (next u p (pair_word (head_of inside).text) (head_of inside).args) rest
split u p at inside rest g =
    let sum = length-append (pair_names at inside) (collect pair_names rest) in
    let few = g.once in
    let here : IsGood u p (pair_word (head_of inside).text) (head_of inside).args = (g.formed.0, omega (arith, sum, few)) in
    let step = named_next u p (pair_word (head_of inside).text) (head_of inside).args here in
    (here, record { formed = g.formed.1; once = omega (arith, sum, few, step) })

all_again : (u : LengthUnit) (f : Forest) (p : ClassPairs) → AreGood u p f → each (pair_item u) p f ≡ Ok (all u p f)
unfolding each pair_item
all_again u End p g = ap made (adding_none u p)
all_again u (Word at text rest) p g = absurd g.formed
all_again u (Branch at inside rest) p g =
    let both = split u p at inside rest g in
    rw (one_again u p at (head_of inside) (pair_word (head_of inside).text) both.0) (all_again u rest (next u p (pair_word (head_of inside).text) (head_of inside).args) both.1 ∙ ap made (more u p at inside rest))

-- as many names are given as there are lists of classes
named_all : (u : LengthUnit) (f : Forest) (p : ClassPairs) → AreGood u p f → named (all u p f).names ≡ named p.names + length (collect pair_names f)
named_all u End p g = omega arith
named_all u (Word at text rest) p g = absurd g.formed
named_all u (Branch at inside rest) p g =
    let both = split u p at inside rest g in
    let first = named_next u p (pair_word (head_of inside).text) (head_of inside).args both.0 in
    let others = named_all u rest (next u p (pair_word (head_of inside).text) (head_of inside).args) both.1 in
    let sum = length-append (pair_names at inside) (collect pair_names rest) in
    let same = ap (λ (x : ClassPairs). named x.names) (more u p at inside rest) in
    omega (arith, first, others, sum, same)

good_of : (u : LengthUnit) (f : Forest) → MayStand u f → AreGood u no_pairs f
good_of u f s = let few = s.once in record { formed = s.formed; once = omega (arith, few) }

-- no names are given where no list has any, and else once
count_all : (u : LengthUnit) (f : Forest) → MayStand u f → named (all u no_pairs f).names ≡ length (collect pair_names f)
count_all u f s = let count = named_all u f no_pairs (good_of u f s) in omega (arith, count)

stand_found : (u : LengthUnit) (f : Forest) (q : ClassPairs) → each (pair_item u) no_pairs f ≡ Ok q → MayStand u f × (q ≡ all u no_pairs f)
stand_found u f q e = let h = all_found u f no_pairs q e in let few = h.0.once in (record { formed = h.0.formed; once = omega (arith, few) }, h.1)

list_fault : (u : LengthUnit) (before inside : Forest) (at : ℕ) (e : DesignFault) → MayStand u before → pair_item u (all u no_pairs before) at inside ≡ Err e → PairsListFault u before at inside e
unfolding pair_item
list_fault u before inside at e s k =
    one_fault u (all u no_pairs before) (length (collect pair_names before)) at (head_of inside) (pair_word (head_of inside).text) e (count_all u before s) k

list_fault_again : (u : LengthUnit) (before inside : Forest) (at : ℕ) (e : DesignFault) → MayStand u before → PairsListFault u before at inside e → pair_item u (all u no_pairs before) at inside ≡ Err e
unfolding pair_item
list_fault_again u before inside at e s k =
    one_fault_again u (all u no_pairs before) (length (collect pair_names before)) at (head_of inside) (pair_word (head_of inside).text) e (count_all u before s) k

lists_fault : (u : LengthUnit) (f : Forest) (e : DesignFault) → each (pair_item u) no_pairs f ≡ Err e → IsFirst (MayStand u) (PairsListFault u) f e
lists_fault u f e h = first_found (pair_item u) no_pairs (all u no_pairs) (MayStand u) (PairsListFault u) (λ f q k. stand_found u f q k) (λ before inside at e s k. list_fault u before inside at e s k) f e h

lists_fault_again : (u : LengthUnit) (f : Forest) (e : DesignFault) → IsFirst (MayStand u) (PairsListFault u) f e → each (pair_item u) no_pairs f ≡ Err e
lists_fault_again u f e h = first_again (pair_item u) no_pairs (all u no_pairs) (MayStand u) (PairsListFault u) (λ f s. all_again u f no_pairs (good_of u f s)) (λ before inside at e s k. list_fault_again u before inside at e s k) f e h

-- ---- the clearances

one_states : (u : LengthUnit) (f : Forest) (k : PairWord) → IsOfPairs u k f → AllClaims u (claims_of_list k f)
one_states u f words.Names h = tt
one_states u f words.Rules h = clearances_state u f h
one_states u f words.Other h = tt

all_state : (u : LengthUnit) (f : Forest) → Every (IsPairsList u) f → AllClaims u (collect pair_claims f)
all_state u End h = tt
all_state u (Word at text rest) h = absurd h
all_state u (Branch at inside rest) h =
    claims_join u (pair_claims at inside) (collect pair_claims rest) (one_states u (head_of inside).args (pair_word (head_of inside).text) h.0) (all_state u rest h.1)

-- ---- a list between classes

-- what is read of a list
abbrev pub pairs_value : LengthUnit → Forest → ClassPairs
pairs_value u f = all u no_pairs f

-- some names are given, so one list gives them
one_list : (u : LengthUnit) (f : Forest) (ns : List (List Mark)) → length ns ≤ 1 → named (last_of [] ns) ≡ 1 → ns ≡ last_of [] ns ∷ []
one_list u f [] few e = absurd (omega (arith, e))
one_list u f (ms ∷ []) few e = refl
one_list u f (ms ∷ ns ∷ more) few e = absurd (omega (arith, few))

pub pairs_found : (u : LengthUnit) (at : ℕ) (f : Forest) (p : ClassPairs) → pairs_of u at f ≡ Ok p → IsPairs u f p × (p ≡ pairs_value u f)
unfolding pairs_of
pairs_found u at f p e =
    let q = bind_ok (each (pair_item u) no_pairs f) (λ p. unless_nameless at p) p e in
    let g = guard_ok (length q.0.names == 0) (told kind.Missing at) (made q.0) p q.2 in
    let s = stand_found u f q.0 q.1 in
    let is : p ≡ all u no_pairs f = sym (ok_is q.0 p g.1) ∙ s.1 in
    let some = some_named q.0.names (ap not g.0) in
    let one = one_list u f (collect pair_names f) s.0.once (ap (λ (x : ClassPairs). named x.names) (sym s.1) ∙ some) in (
      record {
        formed = s.0.formed;
        names = one ∙ ap (λ (ms : List Mark). ms ∷ []) (sym (ap (λ (x : ClassPairs). x.names) is));
        stated = subst (λ (ss : List Stated). AreStated u (collect pair_claims f) ss) (sym (ap (λ (x : ClassPairs). x.stated) is)) (all_stated u (collect pair_claims f) (all_state u f s.0.formed));
      },
      is,
    )

-- a list between classes is what is read
pub pairs_is : (u : LengthUnit) (f : Forest) (p : ClassPairs) → IsPairs u f p → pairs_value u f ≡ p
pairs_is u f p h =
    let names : last_of [] (collect pair_names f) ≡ p.names = ap (λ (ns : List (List Mark)). last_of [] ns) h.names in
    let stated = stated_are u (collect pair_claims f) p.stated h.stated in
    λ i. record { names = names i; stated = sym stated i }

stands : (u : LengthUnit) (f : Forest) (p : ClassPairs) → IsPairs u f p → MayStand u f
stands u f p h = let one = ap length h.names in record { formed = h.formed; once = omega (arith, one) }

pub pairs_again : (u : LengthUnit) (at : ℕ) (f : Forest) (p : ClassPairs) → IsPairs u f p → pairs_of u at f ≡ Ok p
unfolding pairs_of
pairs_again u at f p h =
    let good = good_of u f (stands u f p h) in
    let count = count_all u f (stands u f p h) in
    let one = ap length h.names in
    let some : 0 < named (pairs_value u f).names = omega (arith, count, one) in
    rw (all_again u f no_pairs good) (ap (λ (b : Bool). cond b (wrong kind.Missing at) (made (pairs_value u f))) (named_some (pairs_value u f).names some) ∙ ap made (pairs_is u f p h))

no_names : (ns : List (List Mark)) → length ns ≡ 0 → ns ≡ []
no_names [] e = refl
no_names (ms ∷ ns) e = absurd cc

pub pairs_fault : (u : LengthUnit) (at : ℕ) (f : Forest) (e : DesignFault) → pairs_of u at f ≡ Err e → PairsFault u at f e
unfolding pairs_of
pairs_fault u at f e h =
    elim (bind_err (each (pair_item u) no_pairs f) (λ p. unless_nameless at p) e h) [
      | inl here ↦ inl (lists_fault u f e here)
      | inr later ↦
          let s = stand_found u f later.0 later.1 in
          elim (guard_err (length later.0.names == 0) (told kind.Missing at) (made later.0) e later.2) [
            | inl none ↦
                let zero = none_named later.0.names (ap not none.0) in
                let count = count_all u f s.0 in
                let same = ap (λ (x : ClassPairs). named x.names) s.1 in
                inr (s.0.formed, no_names (collect pair_names f) (omega (arith, zero, count, same)), none.1)
            | inr some ↦ absurd (let never = some.1 in cc)
          ]
    ]

pub pairs_fault_again : (u : LengthUnit) (at : ℕ) (f : Forest) (e : DesignFault) → PairsFault u at f e → pairs_of u at f ≡ Err e
unfolding pairs_of
pairs_fault_again u at f e (inl here) = rw (lists_fault_again u f e here) refl
pairs_fault_again u at f e (inr none) =
    let zero = ap length none.1 in
    let stand : MayStand u f = record { formed = none.0; once = omega (arith, zero) } in
    let count = count_all u f stand in
    let is : (length (pairs_value u f).names == 0) ≡ true = named_none (pairs_value u f).names (omega (arith, zero, count)) in
    rw (all_again u f no_pairs (good_of u f stand)) (ap (λ (b : Bool). cond b (wrong kind.Missing at) (made (pairs_value u f))) is ∙ ap failed (sym none.2))
