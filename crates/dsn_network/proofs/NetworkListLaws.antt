-- What one list of a network adds is what is read, and its fault is the one that is told.
use Rattle.std.proofs.Common.{◌≡◌, ℕ, ◌+◌, ◌≤◌, ◌<◌, suc, List, [], ◌∷◌, ◌++◌, map, length, Ok, Err, refl, sym, ap, subst, ◌∙◌, append_assoc, arith, inl, inr}
use Rattle.std.proofs.lemmas.List.{append-nil, length-append}
use Rattle.sexp_text.specs.Forest.{Forest, End, Word, Branch}
use Rattle.sexp_text.specs.declared.units.Unit.{Unit as LengthUnit}
use Rattle.dsn_lists.specs.declared.faults.DesignFault.{DesignFault}
use Rattle.dsn_lists.specs.Words.{Heading}
use Rattle.dsn_lists.specs.Units.{unit_list}
use Rattle.dsn_lists.proofs.Firsts.{made, failed, ok_is, bind_ok, bind_err}
use Rattle.dsn_lists.proofs.Fresh.{AreFreshBehind, fresh_none, fresh_one, fresh_head}
use Rattle.dsn_lists.proofs.UnitLaws.{unit_found, unit_again, unit_fault, unit_fault_again}
use Rattle.dsn_network.specs.declared.classes.Class.{Class}
use Rattle.dsn_network.specs.declared.pairs.ClassPairs.{ClassPairs}
use Rattle.dsn_library.specs.declared.library.Library.{Library}
use Rattle.dsn_network.specs.declared.network.Network.{Network}
use Rattle.dsn_network.specs.declared.network.NetworkWord.{NetworkWord}
use Rattle.dsn_network.specs.declared.network.NetworkWord.TheVariants as words
use Rattle.dsn_placement.specs.declared.placement.Placement.{Placement}
use Rattle.dsn_network.specs.ClassPairings.{pairs_of}
use Rattle.dsn_network.specs.Networks.{class_of, network_list}
use Rattle.dsn_lists.specs.NewNames.{IsNewName}
use Rattle.dsn_network.specs.NamedPins.{references_of, with_nets}
use Rattle.dsn_network.specs.NetworkParts.{IsOfNetwork, net_of_list, references_of_list}
use Rattle.dsn_network.specs.NetworkMeaning.{OfNetworkFault}
use Rattle.dsn_network.proofs.PinPuts.{put, put_join, AreFree}
use Rattle.dsn_network.proofs.NetBefore.{IsBehind}
use Rattle.dsn_network.proofs.NetLaws.{with_references, net_found, net_again, net_fault, net_fault_again}
use Rattle.dsn_network.proofs.ClassReadings.{class_value, class_found, class_again, class_is, class_fault, class_fault_again}
use Rattle.dsn_network.proofs.ClassPairLaws.{pairs_value, pairs_found, pairs_again, pairs_is, pairs_fault, pairs_fault_again}

-- ---- the numbers of nets

pub nets_join : (refs more : List (List (List ℕ))) (net : ℕ) → with_nets net refs ++ with_nets (net + length refs) more ≡ with_nets net (refs ++ more)
nets_join [] more net = ap (λ (n : ℕ). with_nets n more) (omega arith)
nets_join (texts ∷ refs) more net =
    let next : suc net + length refs ≡ net + suc (length refs) = omega arith in
    let here : List (List ℕ × ℕ) = map (λ (text : List ℕ). (text, net)) texts in
    append_assoc here (with_nets (suc net) refs) (with_nets (net + suc (length refs)) more)
    ∙ ap (λ (rs : List (List ℕ × ℕ)). here ++ rs) (ap (λ (n : ℕ). with_nets (suc net) refs ++ with_nets n more) (sym next) ∙ nets_join refs more (suc net))

-- a net has one name and references
pub one_each : (f : Forest) (k : NetworkWord) → length (net_of_list k f) ≡ length (references_of_list k f)
one_each End words.Net = refl
one_each (Word at text rest) words.Net = refl
one_each (Branch at inside rest) words.Net = refl
one_each f words.Class = refl
one_each f words.Pairs = refl
one_each f words.Unit = refl
one_each f words.Resolution = refl
one_each f words.Other = refl

-- ---- what lists add to a network

-- the network with these nets, their references, these classes and these lists between classes behind it
abbrev pub adding : Placement → Library → Network → List (List ℕ) → List (List (List ℕ)) → List Class → List ClassPairs → Network
adding p l n ns refs cs ps = record n { nets = n.nets ++ ns; pins = put p l n.pins (with_nets (length n.nets) refs); classes = n.classes ++ cs; pairs = n.pairs ++ ps }

-- the pins of nets behind others
pub pins_more : (p : Placement) (l : Library) (n : Network) (ns : List (List ℕ)) (refs more : List (List (List ℕ))) → length ns ≡ length refs
    → put p l (put p l n.pins (with_nets (length n.nets) refs)) (with_nets (length (n.nets ++ ns)) more) ≡ put p l n.pins (with_nets (length n.nets) (refs ++ more))
pins_more p l n ns refs more same =
    let count : length (n.nets ++ ns) ≡ length n.nets + length refs = length-append n.nets ns ∙ ap (λ (k : ℕ). length n.nets + k) same in
    ap (λ (k : ℕ). put p l (put p l n.pins (with_nets (length n.nets) refs)) (with_nets k more)) count
    ∙ put_join p l (with_nets (length n.nets) refs) (with_nets (length n.nets + length refs) more) n.pins
    ∙ ap (λ (rs : List (List ℕ × ℕ)). put p l n.pins rs) (nets_join refs more (length n.nets))

pub adding_more : (p : Placement) (l : Library) (n : Network) (ns ms : List (List ℕ)) (refs more : List (List (List ℕ))) (cs ds : List Class) (ps qs : List ClassPairs) → length ns ≡ length refs
    → adding p l (adding p l n ns refs cs ps) ms more ds qs ≡ adding p l n (ns ++ ms) (refs ++ more) (cs ++ ds) (ps ++ qs)
adding_more p l n ns ms refs more cs ds ps qs same = λ i. record n {
  nets = append_assoc n.nets ns ms i;
  pins = pins_more p l n ns refs more same i;
  classes = append_assoc n.classes cs ds i;
  pairs = append_assoc n.pairs ps qs i;
}

-- nothing is added
pub adding_none : (p : Placement) (l : Library) (n : Network) → n ≡ adding p l n [] [] [] []
adding_none p l n = λ i. record n { nets = sym (append-nil n.nets) i; pins = n.pins; classes = sym (append-nil n.classes) i; pairs = sym (append-nil n.pairs) i }

adding_net : (p : Placement) (l : Library) (n : Network) (name : List ℕ) (refs : List (List (List ℕ))) (ns : List (List ℕ)) → ns ≡ name ∷ [] → with_references p l n name refs ≡ adding p l n ns refs [] []
adding_net p l n name refs ns e = λ i. record n { nets = n.nets ++ sym e i; pins = put p l n.pins (with_nets (length n.nets) refs); classes = sym (append-nil n.classes) i; pairs = sym (append-nil n.pairs) i }

adding_class : (p : Placement) (l : Library) (n : Network) (c : Class) (cs : List Class) → cs ≡ c ∷ [] → record n { classes = n.classes ++ c ∷ [] } ≡ adding p l n [] [] cs []
adding_class p l n c cs e = λ i. record n { nets = sym (append-nil n.nets) i; pins = n.pins; classes = n.classes ++ sym e i; pairs = sym (append-nil n.pairs) i }

adding_pairs : (p : Placement) (l : Library) (n : Network) (x y : ClassPairs) → x ≡ y → record n { pairs = n.pairs ++ x ∷ [] } ≡ adding p l n [] [] [] (y ∷ [])
adding_pairs p l n x y e = λ i. record n { nets = sym (append-nil n.nets) i; pins = n.pins; classes = sym (append-nil n.classes) i; pairs = n.pairs ++ e i ∷ [] }

-- ---- one list

-- the class that is read of a list, where it is one
abbrev pub value_of_list : LengthUnit → NetworkWord → Forest → List Class
value_of_list u words.Class f = class_value u f
value_of_list u _ f = []

-- what is read of a list between classes
abbrev pub pairs_of_word : LengthUnit → NetworkWord → Forest → List ClassPairs
pairs_of_word u words.Pairs f = pairs_value u f ∷ []
pairs_of_word u _ f = []

-- the network behind one list
abbrev pub next : LengthUnit → Placement → Library → Network → NetworkWord → Forest → Network
next u p l n k f = adding p l n (net_of_list k f) (references_of_list k f) (value_of_list u k f) (pairs_of_word u k f)

-- a list as it has to be, and a net whose name is new, and whose references name pins of no other net
pub record IsGood (u : LengthUnit) (p : Placement) (l : Library) (n : Network) (k : NetworkWord) (f : Forest) : Type 0 where
  pub formed : IsOfNetwork u k f
  pub fresh : AreFreshBehind n.nets (net_of_list k f)
  pub few : length (n.nets ++ net_of_list k f) ≤ 100000
  pub free : AreFree p l n.pins (with_nets (length n.nets) (references_of_list k f))

pub still_few : (xs : List (List ℕ)) → length xs ≤ 100000 → length (xs ++ []) ≤ 100000
still_few xs h = let same = ap length (append-nil xs) in omega arith

one_more : (xs : List (List ℕ)) (n : List ℕ) → length xs < 100000 → length (xs ++ n ∷ []) ≤ 100000
one_more xs n h = let sum = length-append xs (n ∷ []) in omega arith

quota : (xs : List (List ℕ)) (n : List ℕ) → length (xs ++ n ∷ []) ≤ 100000 → length xs < 100000
quota xs n h = let sum = length-append xs (n ∷ []) in omega arith

pub one_found : (u : LengthUnit) (p : Placement) (l : Library) (n : Network) (at : ℕ) (h : Heading) (k : NetworkWord) (m : Network) → length n.nets ≤ 100000 → network_list u p l n at h k ≡ Ok m → IsGood u p l n k h.args × (m ≡ next u p l n k h.args)
one_found u p l n at h words.Net m few e =
    let net = net_found p l n at h.args m e in (
      record {
        formed = net.1.formed;
        fresh = subst (λ (xs : List (List ℕ)). AreFreshBehind n.nets xs) (sym net.1.named) (fresh_one n.nets net.0 net.1.new.0);
        few = subst (λ (xs : List (List ℕ)). length (n.nets ++ xs) ≤ 100000) (sym net.1.named) (one_more n.nets net.0 net.1.new.1);
        free = net.1.free;
      },
      net.2 ∙ adding_net p l n net.0 (references_of h.args) _ net.1.named,
    )
one_found u p l n at h words.Class m few e =
    let c = bind_ok (class_of u at h.args) (λ c. made (record n { classes = n.classes ++ c ∷ [] })) m e in
    let v = class_found u at h.args c.0 c.1 in
    (record { formed = (c.0, v.0); fresh = fresh_none n.nets; few = still_few n.nets few; free = tt }, sym (ok_is (record n { classes = n.classes ++ c.0 ∷ [] }) m c.2) ∙ adding_class p l n c.0 _ v.1)
one_found u p l n at h words.Pairs m few e =
    let x = bind_ok (pairs_of u at h.args) (λ x. made (record n { pairs = n.pairs ++ x ∷ [] })) m e in
    let v = pairs_found u at h.args x.0 x.1 in
    (record { formed = (x.0, v.0); fresh = fresh_none n.nets; few = still_few n.nets few; free = tt }, sym (ok_is (record n { pairs = n.pairs ++ x.0 ∷ [] }) m x.2) ∙ adding_pairs p l n x.0 (pairs_value u h.args) v.1)
one_found u p l n at h words.Unit m few e =
    let v = bind_ok (unit_list at h.args) (λ _. made n) m e in
    (record { formed = (unit_found at h.args v.0 v.1).0; fresh = fresh_none n.nets; few = still_few n.nets few; free = tt }, sym (ok_is n m v.2) ∙ adding_none p l n)
one_found u p l n at h words.Resolution m few e = absurd cc
one_found u p l n at h words.Other m few e = (record { formed = tt; fresh = fresh_none n.nets; few = still_few n.nets few; free = tt }, sym (ok_is n m e) ∙ adding_none p l n)

pub one_again : (u : LengthUnit) (p : Placement) (l : Library) (n : Network) (at : ℕ) (h : Heading) (k : NetworkWord) → IsGood u p l n k h.args → network_list u p l n at h k ≡ Ok (next u p l n k h.args)
one_again u p l n at h words.Net g =
    let new : (m : List ℕ) → net_of_list words.Net h.args ≡ m ∷ [] → IsNewName 100000 n.nets m = λ m e.
    (fresh_head n.nets m [] (subst (λ (xs : List (List ℕ)). AreFreshBehind n.nets xs) e g.fresh), quota n.nets m (subst (λ (xs : List (List ℕ)). length (n.nets ++ xs) ≤ 100000) e g.few)) in
    let net = net_again p l n at h.args g.formed new g.free in
    net.1 ∙ ap made (adding_net p l n net.0 (references_of h.args) _ net.2)
one_again u p l n at h words.Class g =
    rw (class_again u at h.args g.formed.0 g.formed.1) (ap made (adding_class p l n g.formed.0 _ (class_is u h.args g.formed.0 g.formed.1)))
one_again u p l n at h words.Pairs g =
    rw (pairs_again u at h.args g.formed.0 g.formed.1) (ap made (adding_pairs p l n g.formed.0 (pairs_value u h.args) (sym (pairs_is u h.args g.formed.0 g.formed.1))))
one_again u p l n at h words.Unit g = let v = unit_again at h.args g.formed in rw v.1 (ap made (adding_none p l n))
one_again u p l n at h words.Resolution g = absurd g.formed
one_again u p l n at h words.Other g = ap made (adding_none p l n)

-- ---- the fault of one list

pub one_fault : (u : LengthUnit) (p : Placement) (l : Library) (earlier : List (List ℕ × ℕ)) (n : Network) (at : ℕ) (h : Heading) (k : NetworkWord) (e : DesignFault) → IsBehind p l earlier (length n.nets) n.pins
    → network_list u p l n at h k ≡ Err e → OfNetworkFault u p l n.nets earlier at h k e
one_fault u p l earlier n at h words.Net e b k = net_fault p l earlier n at h.args e b k
one_fault u p l earlier n at h words.Class e b k =
    elim (bind_err (class_of u at h.args) (λ c. made (record n { classes = n.classes ++ c ∷ [] })) e k) [
      | inl here ↦ class_fault u at h.args e here
      | inr later ↦ absurd cc
    ]
one_fault u p l earlier n at h words.Pairs e b k =
    elim (bind_err (pairs_of u at h.args) (λ x. made (record n { pairs = n.pairs ++ x ∷ [] })) e k) [
      | inl here ↦ pairs_fault u at h.args e here
      | inr later ↦ absurd cc
    ]
one_fault u p l earlier n at h words.Unit e b k =
    elim (bind_err (unit_list at h.args) (λ _. made n) e k) [
      | inl here ↦ unit_fault at h.args e here
      | inr later ↦ absurd cc
    ]
one_fault u p l earlier n at h words.Resolution e b k = cc
one_fault u p l earlier n at h words.Other e b k = absurd cc

pub one_fault_again : (u : LengthUnit) (p : Placement) (l : Library) (earlier : List (List ℕ × ℕ)) (n : Network) (at : ℕ) (h : Heading) (k : NetworkWord) (e : DesignFault) → IsBehind p l earlier (length n.nets) n.pins
    → OfNetworkFault u p l n.nets earlier at h k e → network_list u p l n at h k ≡ Err e
one_fault_again u p l earlier n at h words.Net e b k = net_fault_again p l earlier n at h.args e b k
one_fault_again u p l earlier n at h words.Class e b k = rw (class_fault_again u at h.args e k) refl
one_fault_again u p l earlier n at h words.Pairs e b k = rw (pairs_fault_again u at h.args e k) refl
one_fault_again u p l earlier n at h words.Unit e b k = rw (unit_fault_again at h.args e k) refl
one_fault_again u p l earlier n at h words.Resolution e b k = ap failed (sym k)
one_fault_again u p l earlier n at h words.Other e b k = absurd k
