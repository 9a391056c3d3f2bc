-- What the lists of a network stand for together is what is read.
use Rattle.std.proofs.Common.{◌≡◌, ℕ, ◌+◌, ◌≤◌, List, [], ◌∷◌, ◌++◌, length, Ok, refl, sym, ap, subst, ◌∙◌, append_assoc, arith}
use Rattle.std.proofs.lemmas.List.{length-append}
use Rattle.sexp_text.specs.Forest.{Forest, End, Word, Branch}
use Rattle.sexp_text.specs.declared.units.Unit.{Unit as LengthUnit}
use Rattle.dsn_lists.specs.Results.{each}
use Rattle.dsn_lists.specs.Words.{head_of}
use Rattle.dsn_lists.specs.Lists.{collect, Every}
use Rattle.dsn_lists.proofs.Firsts.{made, ok_is, bind_ok}
use Rattle.dsn_lists.proofs.Fresh.{AreFreshBehind, fresh_none, fresh_join, fresh_front, fresh_back}
use Rattle.dsn_network.specs.declared.classes.Class.{Class}
use Rattle.dsn_network.specs.declared.pairs.ClassPairs.{ClassPairs}
use Rattle.dsn_library.specs.declared.library.Library.{Library}
use Rattle.dsn_network.specs.declared.network.Network.{Network}
use Rattle.dsn_network.specs.declared.network.NetworkWord.{NetworkWord}
use Rattle.dsn_network.specs.declared.network.NetworkWord.TheVariants as words
use Rattle.dsn_placement.specs.declared.placement.Placement.{Placement}
use Rattle.dsn_network.specs.Networks.{network_word, network_item}
use Rattle.dsn_network.specs.NamedPins.{with_nets}
use Rattle.dsn_network.specs.NetworkParts.{IsOfNetwork, IsNetworkList, nets_in, net_references_in, class_of_list, classes_in, pairs_of_list, pairs_in, AreEach}
use Rattle.dsn_network.specs.ClassLists.{IsClass}
use Rattle.dsn_network.specs.ClassPairLists.{IsPairs}
use Rattle.dsn_network.proofs.PinPuts.{put, AreFree, free_join, free_front, free_back}
use Rattle.dsn_network.proofs.ClassReadings.{class_value, class_is}
use Rattle.dsn_network.proofs.ClassPairLaws.{pairs_value, pairs_is}
use Rattle.dsn_network.proofs.NetworkListLaws.{nets_join, one_each, adding, adding_more, adding_none, value_of_list, pairs_of_word, next, IsGood, still_few, one_found, one_again}

-- ---- all lists

-- the class that is read of a list of the section, where it is one
abbrev pub values_in : LengthUnit → ℕ → Forest → List Class
values_in u at inside = value_of_list u (network_word (head_of inside).text) (head_of inside).args

-- what is read of a list between classes
abbrev pub between_in : LengthUnit → ℕ → Forest → List ClassPairs
between_in u at inside = pairs_of_word u (network_word (head_of inside).text) (head_of inside).args

-- the network behind all lists
abbrev pub all : LengthUnit → Placement → Library → Network → Forest → Network
all u p l n f = adding p l n (collect nets_in f) (collect net_references_in f) (collect (values_in u) f) (collect (between_in u) f)

more : (u : LengthUnit) (p : Placement) (l : Library) (n : Network) (at : ℕ) (inside rest : Forest) → all u p l (next u p l n (network_word (head_of inside).text) (head_of inside).args) rest ≡ all u p l n (Branch at inside rest)
more u p l n at inside rest =
    adding_more p l n (nets_in at inside) (collect nets_in rest) (net_references_in at inside) (collect net_references_in rest) (values_in u at inside) (collect (values_in u) rest)
    (between_in u at inside) (collect (between_in u) rest)
    (one_each (head_of inside).args (network_word (head_of inside).text))

-- as many nets as lists of references
pub all_each : (f : Forest) → length (collect nets_in f) ≡ length (collect net_references_in f)
all_each End = refl
all_each (Word at text rest) = all_each rest
all_each (Branch at inside rest) =
    let a = length-append (nets_in at inside) (collect nets_in rest) in
    let b = length-append (net_references_in at inside) (collect net_references_in rest) in
    let here = one_each (head_of inside).args (network_word (head_of inside).text) in
    let later = all_each rest in
    omega (arith, a, b, here, later)

-- the references of these nets name pins of no other net
abbrev pub AreFreeBehind : Placement → Library → Network → List (List (List ℕ)) → Type 0
AreFreeBehind p l n refs = AreFree p l n.pins (with_nets (length n.nets) refs)

-- lists as they have to be, and nets whose names are new, and whose references name pins of no other net
pub record AreGood (u : LengthUnit) (p : Placement) (l : Library) (n : Network) (f : Forest) : Type 0 where
  pub formed : Every (IsNetworkList u) f
  pub fresh : AreFreshBehind n.nets (collect nets_in f)
  pub few : length (n.nets ++ collect nets_in f) ≤ 100000
  pub free : AreFreeBehind p l n (collect net_references_in f)

-- ---- the references behind those of one list

-- the nets of pins behind one list
abbrev pins_of : Placement → Library → Network → ℕ → Forest → List ((ℕ × ℕ) × ℕ)
pins_of p l n at inside = put p l n.pins (with_nets (length n.nets) (net_references_in at inside))

count_is : (n : Network) (at : ℕ) (inside : Forest) → length (n.nets ++ nets_in at inside) ≡ length n.nets + length (net_references_in at inside)
count_is n at inside = length-append n.nets (nets_in at inside) ∙ ap (λ (k : ℕ). length n.nets + k) (one_each (head_of inside).args (network_word (head_of inside).text))

free_both : (p : Placement) (l : Library) (n : Network) (at : ℕ) (inside rest : Forest) → AreFreeBehind p l n (net_references_in at inside)
    → AreFree p l (pins_of p l n at inside) (with_nets (length (n.nets ++ nets_in at inside)) (collect net_references_in rest)) → AreFreeBehind p l n (collect net_references_in (Branch at inside rest))
free_both p l n at inside rest here later =
    let refs = net_references_in at inside in
    let others = collect net_references_in rest in
    let next = subst (λ (k : ℕ). AreFree p l (pins_of p l n at inside) (with_nets k others)) (count_is n at inside) later in
    subst (λ (rs : List (List ℕ × ℕ)). AreFree p l n.pins rs) (nets_join refs others (length n.nets)) (free_join p l (with_nets (length n.nets) refs) (with_nets (length n.nets + length refs) others) n.pins here next)

free_here : (p : Placement) (l : Library) (n : Network) (at : ℕ) (inside rest : Forest) → AreFreeBehind p l n (collect net_references_in (Branch at inside rest)) → AreFreeBehind p l n (net_references_in at inside)
free_here p l n at inside rest h =
    let refs = net_references_in at inside in
    let others = collect net_references_in rest in
    let both = subst (λ (rs : List (List ℕ × ℕ)). AreFree p l n.pins rs) (sym (nets_join refs others (length n.nets))) h in
    free_front p l (with_nets (length n.nets) refs) (with_nets (length n.nets + length refs) others) n.pins both

free_later : (p : Placement) (l : Library) (n : Network) (at : ℕ) (inside rest : Forest) → AreFreeBehind p l n (collect net_references_in (Branch at inside rest))
    → AreFree p l (pins_of p l n at inside) (with_nets (length (n.nets ++ nets_in at inside)) (collect net_references_in rest))
free_later p l n at inside rest h =
    let refs = net_references_in at inside in
    let others = collect net_references_in rest in
    let both = subst (λ (rs : List (List ℕ × ℕ)). AreFree p l n.pins rs) (sym (nets_join refs others (length n.nets))) h in
    let back = free_back p l (with_nets (length n.nets) refs) (with_nets (length n.nets + length refs) others) n.pins both in
    subst (λ (k : ℕ). AreFree p l (pins_of p l n at inside) (with_nets k others)) (sym (count_is n at inside)) back

-- ---- found, and back

pub all_found : (u : LengthUnit) (p : Placement) (l : Library) (f : Forest) (n m : Network) → length n.nets ≤ 100000 → each (network_item u p l) n f ≡ Ok m → AreGood u p l n f × (m ≡ all u p l n f)
unfolding each network_item
all_found u p l End n m few e = (record { formed = tt; fresh = fresh_none n.nets; few = still_few n.nets few; free = tt }, sym (ok_is n m e) ∙ adding_none p l n)
all_found u p l (Word at text rest) n m few e = absurd cc
all_found u p l (Branch at inside rest) n m few e =
    let y = bind_ok (network_item u p l n at inside) (λ y. each (network_item u p l) y rest) m e in
    let one = one_found u p l n at (head_of inside) (network_word (head_of inside).text) y.0 few y.1 in
    let now = next u p l n (network_word (head_of inside).text) (head_of inside).args in
    let others = all_found u p l rest now m one.0.few (ap (λ (x : Network). each (network_item u p l) x rest) (sym one.1) ∙ y.2) in (
      record {
        formed = (one.0.formed, others.0.formed);
        fresh = fresh_join (nets_in at inside) (collect nets_in rest) n.nets one.0.fresh others.0.fresh;
        few = subst (λ (xs : List (List ℕ)). length xs ≤ 100000) (append_assoc n.nets (nets_in at inside) (collect nets_in rest)) others.0.few;
        free = free_both p l n at inside rest one.0.free others.0.free;
      },
      others.1 ∙ more u p l n at inside rest,
    )

front_few : (xs ys zs : List (List ℕ)) → length (xs ++ (ys ++ zs)) ≤ 100000 → length (xs ++ ys) ≤ 100000
front_few xs ys zs h =
    let sum = length-append (xs ++ ys) zs in
    let same = ap length (append_assoc xs ys zs) in
    omega arith

pub all_again : (u : LengthUnit) (p : Placement) (l : Library) (f : Forest) (n : Network) → AreGood u p l n f → each (network_item u p l) n f ≡ Ok (all u p l n f)
unfolding each network_item
all_again u p l End n g = ap made (adding_none p l n)
all_again u p l (Word at text rest) n g = absurd g.formed
all_again u p l (Branch at inside rest) n g =
    let here : IsGood u p l n (network_word (head_of inside).text) (head_of inside).args = record {
      formed = g.formed.0;
      fresh = fresh_front (nets_in at inside) (collect nets_in rest) n.nets g.fresh;
      few = front_few n.nets (nets_in at inside) (collect nets_in rest) g.few;
      free = free_here p l n at inside rest g.free;
    } in
    let first = one_again u p l n at (head_of inside) (network_word (head_of inside).text) here in
    let others : AreGood u p l (next u p l n (network_word (head_of inside).text) (head_of inside).args) rest = record {
      formed = g.formed.1;
      fresh = fresh_back (nets_in at inside) (collect nets_in rest) n.nets g.fresh;
      few = subst (λ (xs : List (List ℕ)). length xs ≤ 100000) (sym (append_assoc n.nets (nets_in at inside) (collect nets_in rest))) g.few;
      free = free_later p l n at inside rest g.free;
    } in
    rw first (all_again u p l rest (next u p l n (network_word (head_of inside).text) (head_of inside).args) others ∙ ap made (more u p l n at inside rest))

-- ---- the classes, and the lists between them

each_join : {A : Type 0} (Is : Forest → A → Type 0) (fs gs : List Forest) (xs ys : List A) → AreEach Is fs xs → AreEach Is gs ys → AreEach Is (fs ++ gs) (xs ++ ys)
each_join Is [] gs [] ys p q = q
each_join Is [] gs (x ∷ xs) ys p q = absurd cc
each_join Is (f ∷ fs) gs [] ys p q = absurd p
each_join Is (f ∷ fs) gs (x ∷ xs) ys p q = (p.0, each_join Is fs gs xs ys p.1 q)

-- where a thing is what is read of its list, two lists of things of the same lists are one
each_same : {A : Type 0} (Is : Forest → A → Type 0) (read : Forest → List A) → ((f : Forest) (x : A) → Is f x → read f ≡ x ∷ []) → (fs : List Forest) (xs ys : List A) → AreEach Is fs xs → AreEach Is fs ys → xs ≡ ys
each_same Is read is [] xs ys p q = p ∙ sym q
each_same Is read is (f ∷ fs) [] ys p q = absurd p
each_same Is read is (f ∷ fs) (x ∷ xs) [] p q = absurd q
each_same {A} Is read is (f ∷ fs) (x ∷ xs) (y ∷ ys) p q =
    let heads : x ∷ [] ≡ y ∷ [] = sym (is f x p.0) ∙ is f y q.0 in
    let tails = each_same Is read is fs xs ys p.1 q.1 in
    cc

one_class : (u : LengthUnit) (f : Forest) (k : NetworkWord) → IsOfNetwork u k f → AreEach (IsClass u) (class_of_list k f) (value_of_list u k f)
one_class u f words.Class h = subst (λ (cs : List Class). AreEach (IsClass u) (f ∷ []) cs) (sym (class_is u f h.0 h.1)) (h.1, refl)
one_class u f words.Net h = refl
one_class u f words.Pairs h = refl
one_class u f words.Unit h = refl
one_class u f words.Resolution h = refl
one_class u f words.Other h = refl

one_between : (u : LengthUnit) (f : Forest) (k : NetworkWord) → IsOfNetwork u k f → AreEach (IsPairs u) (pairs_of_list k f) (pairs_of_word u k f)
one_between u f words.Pairs h = (subst (IsPairs u f) (sym (pairs_is u f h.0 h.1)) h.1, refl)
one_between u f words.Net h = refl
one_between u f words.Class h = refl
one_between u f words.Unit h = refl
one_between u f words.Resolution h = refl
one_between u f words.Other h = refl

-- what is read are the classes
pub classes_are : (u : LengthUnit) (f : Forest) → Every (IsNetworkList u) f → AreEach (IsClass u) (collect classes_in f) (collect (values_in u) f)
classes_are u End h = refl
classes_are u (Word at text rest) h = absurd h
classes_are u (Branch at inside rest) h =
    each_join (IsClass u) (classes_in at inside) (collect classes_in rest) (values_in u at inside) (collect (values_in u) rest)
    (one_class u (head_of inside).args (network_word (head_of inside).text) h.0) (classes_are u rest h.1)

-- what is read are the lists between classes
pub between_are : (u : LengthUnit) (f : Forest) → Every (IsNetworkList u) f → AreEach (IsPairs u) (collect pairs_in f) (collect (between_in u) f)
between_are u End h = refl
between_are u (Word at text rest) h = absurd h
between_are u (Branch at inside rest) h =
    each_join (IsPairs u) (pairs_in at inside) (collect pairs_in rest) (between_in u at inside) (collect (between_in u) rest)
    (one_between u (head_of inside).args (network_word (head_of inside).text) h.0) (between_are u rest h.1)

pub same_classes : (u : LengthUnit) (fs : List Forest) (cs ds : List Class) → AreEach (IsClass u) fs cs → AreEach (IsClass u) fs ds → cs ≡ ds
same_classes u fs cs ds p q = each_same (IsClass u) (class_value u) (λ f c h. class_is u f c h) fs cs ds p q

pub same_between : (u : LengthUnit) (fs : List Forest) (ps qs : List ClassPairs) → AreEach (IsPairs u) fs ps → AreEach (IsPairs u) fs qs → ps ≡ qs
same_between u fs ps qs p q = each_same (IsPairs u) (λ f. pairs_value u f ∷ []) (λ f x h. ap (λ (y : ClassPairs). y ∷ []) (pairs_is u f x h)) fs ps qs p q
