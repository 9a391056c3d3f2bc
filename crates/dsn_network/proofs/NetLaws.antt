-- The nets that are named, with their pins, are those that are read, and the fault of one is the one that is told.
use Rattle.std.proofs.Common.{◌≡◌, ℕ, Bool, true, false, cond, List, [], ◌∷◌, ◌++◌, map, length, codes, Ok, Err, refl, ap, subst, sym, ◌∙◌, inl, inr, ◌⊎◌}
use Rattle.std.proofs.lemmas.List.{append-nil, map-append}
use Rattle.sexp_text.specs.Forest.{Forest, End, Word, Branch}
use Rattle.dsn_lists.specs.declared.faults.DesignFault.{DesignFault}
use Rattle.dsn_lists.specs.declared.marks.Mark.{Mark}
use Rattle.dsn_lists.specs.Results.{Read, ◌>>=◌, each}
use Rattle.dsn_lists.specs.Words.{same, mark, head_of, word_of}
use Rattle.dsn_lists.specs.Lists.{collect, Every, When, IsFirst}
use Rattle.dsn_lists.specs.ShortLists.{only_lists, first_words, behind_words}
use Rattle.dsn_lists.proofs.Firsts.{made, ok_is, bind_ok, bind_err, word_fault, word_fault_again, first_found, first_again}
use Rattle.dsn_lists.proofs.ShortLaws.{spare_value, spare_again, spare_then, spare_then_again}
use Rattle.dsn_library.specs.declared.library.Library.{Library}
use Rattle.dsn_network.specs.declared.network.Network.{Network}
use Rattle.dsn_placement.specs.declared.placement.Placement.{Placement}
use Rattle.dsn_network.specs.Networks.{reference_of, pins_of, net_item, with_net}
use Rattle.dsn_lists.specs.NewNames.{IsNewName, OldNameFault, first_name, new_name}
use Rattle.dsn_network.specs.NamedPins.{references_in, references_of, with_nets}
use Rattle.dsn_network.specs.NetLists.{IsNetList, PinsFault, NetListFault, AreNetLists, IsNet, NetFault}
use Rattle.dsn_lists.proofs.NewNameLaws.{new_found, new_again, new_fault, new_fault_again}
use Rattle.dsn_network.proofs.PinPuts.{put_one, put, put_join, AreFree, free_join, free_front, free_back}
use Rattle.dsn_network.proofs.NetBefore.{IsBehind, all_of, behind_more, reference_found, reference_again, reference_fault, reference_fault_again, free_named, named_free, all_free, free_all}

-- ---- `(pins)`

-- the references at the front
abbrev texts_in : Forest → List (List ℕ)
texts_in f = map (λ (m : Mark). m.name) (first_words f)

pins_found : (p : Placement) (l : Library) (net : ℕ) (f : Forest) (pins y : List ((ℕ × ℕ) × ℕ)) → pins_of p l net pins f ≡ Ok y
    → (only_lists (behind_words f) ≡ true) × AreFree p l pins (all_of net (texts_in f)) × (y ≡ put p l pins (all_of net (texts_in f)))
unfolding pins_of
pins_found p l net End pins y e = (refl, tt, sym (ok_is pins y e))
pins_found p l net (Word at text rest) pins y e =
    let a = bind_ok (reference_of p l net pins (mark at text)) (λ more. pins_of p l net more rest) y e in
    let one = reference_found p l net pins (mark at text) a.0 a.1 in
    let others = pins_found p l net rest (put_one p l pins (text, net)) y (ap (λ (x : List ((ℕ × ℕ) × ℕ)). pins_of p l net x rest) (sym one.1) ∙ a.2) in
    (others.0, (one.0, others.1), others.2)
pins_found p l net (Branch at inside rest) pins y e = let v = spare_value (Branch at inside rest) pins y e in (v.0, tt, sym v.1)

pins_again : (p : Placement) (l : Library) (net : ℕ) (f : Forest) (pins : List ((ℕ × ℕ) × ℕ)) → only_lists (behind_words f) ≡ true → AreFree p l pins (all_of net (texts_in f)) → pins_of p l net pins f ≡ Ok (put p l pins (all_of net (texts_in f)))
unfolding pins_of
pins_again p l net End pins h free = refl
pins_again p l net (Word at text rest) pins h free = rw (reference_again p l net pins (mark at text) free.0) (pins_again p l net rest (put_one p l pins (text, net)) h free.1)
pins_again p l net (Branch at inside rest) pins h free = rw (spare_again (Branch at inside rest) tt h) refl

pins_fault : (p : Placement) (l : Library) (earlier : List (List ℕ × ℕ)) (net : ℕ) (f : Forest) (pins : List ((ℕ × ℕ) × ℕ)) (e : DesignFault) → IsBehind p l earlier net pins → pins_of p l net pins f ≡ Err e → PinsFault p l earlier f e
unfolding pins_of
pins_fault p l earlier net End pins e b h = absurd cc
pins_fault p l earlier net (Word at text rest) pins e b h =
    elim (bind_err (reference_of p l net pins (mark at text)) (λ more. pins_of p l net more rest) e h) [
      | inl here ↦ inl (reference_fault p l earlier net pins (mark at text) e b here)
      | inr later ↦
          let one = reference_found p l net pins (mark at text) later.0 later.1 in
          let rest_is = ap (λ (x : List ((ℕ × ℕ) × ℕ)). pins_of p l net x rest) (sym one.1) ∙ later.2 in
          inr (free_named p l earlier net pins text b one.0, pins_fault p l earlier net rest (put_one p l pins (text, net)) e (behind_more p l earlier net (text ∷ []) pins b) rest_is)
    ]
pins_fault p l earlier net (Branch at inside rest) pins e b h = spare_then (Branch at inside rest) pins e h

pins_fault_again : (p : Placement) (l : Library) (earlier : List (List ℕ × ℕ)) (net : ℕ) (f : Forest) (pins : List ((ℕ × ℕ) × ℕ)) (e : DesignFault) → IsBehind p l earlier net pins → PinsFault p l earlier f e → pins_of p l net pins f ≡ Err e
unfolding pins_of
pins_fault_again p l earlier net End pins e b h = absurd h
pins_fault_again p l earlier net (Word at text rest) pins e b (inl here) = rw (reference_fault_again p l earlier net pins (mark at text) e b here) refl
pins_fault_again p l earlier net (Word at text rest) pins e b (inr later) =
    rw (reference_again p l net pins (mark at text) (named_free p l earlier net pins text b later.0))
    (pins_fault_again p l earlier net rest (put_one p l pins (text, net)) e (behind_more p l earlier net (text ∷ []) pins b) later.1)
pins_fault_again p l earlier net (Branch at inside rest) pins e b h = spare_then_again (Branch at inside rest) pins e h

-- ---- the lists of a net

-- the references of a list, where it is one of `pins` or not
abbrev texts_of : Bool → Forest → List (List ℕ)
texts_of b args = cond b (texts_in args) []

-- what a list gives, where it is one of `pins` or not
abbrev step : Placement → Library → ℕ → List ((ℕ × ℕ) × ℕ) → Forest → Bool → Read (List ((ℕ × ℕ) × ℕ))
step p l net pins args b = cond b (pins_of p l net pins args) (made pins)

list_found : (p : Placement) (l : Library) (net : ℕ) (args : Forest) (b : Bool) (pins y : List ((ℕ × ℕ) × ℕ)) → step p l net pins args b ≡ Ok y
    → When b (only_lists (behind_words args) ≡ true) × AreFree p l pins (all_of net (texts_of b args)) × (y ≡ put p l pins (all_of net (texts_of b args)))
list_found p l net args true pins y e = pins_found p l net args pins y e
list_found p l net args false pins y e = (tt, tt, sym (ok_is pins y e))

list_again : (p : Placement) (l : Library) (net : ℕ) (args : Forest) (b : Bool) (pins : List ((ℕ × ℕ) × ℕ)) → When b (only_lists (behind_words args) ≡ true) → AreFree p l pins (all_of net (texts_of b args)) → step p l net pins args b ≡ Ok (put p l pins (all_of net (texts_of b args)))
list_again p l net args true pins h free = pins_again p l net args pins h free
list_again p l net args false pins h free = refl

list_fault : (p : Placement) (l : Library) (earlier : List (List ℕ × ℕ)) (net : ℕ) (args : Forest) (b : Bool) (pins : List ((ℕ × ℕ) × ℕ)) (e : DesignFault) → IsBehind p l earlier net pins → step p l net pins args b ≡ Err e → (b ≡ true) × PinsFault p l earlier args e
list_fault p l earlier net args true pins e behind h = (refl, pins_fault p l earlier net args pins e behind h)
list_fault p l earlier net args false pins e behind h = absurd cc

-- the nets of pins behind lists of this net
abbrev pub behind : Placement → Library → ℕ → List ((ℕ × ℕ) × ℕ) → Forest → List ((ℕ × ℕ) × ℕ)
behind p l net pins f = put p l pins (all_of net (collect references_in f))

of_both : (net : ℕ) (xs ys : List (List ℕ)) → all_of net xs ++ all_of net ys ≡ all_of net (xs ++ ys)
of_both net xs ys = sym (map-append (λ (text : List ℕ). (text, net)) xs ys)

behind_both : (p : Placement) (l : Library) (net : ℕ) (pins : List ((ℕ × ℕ) × ℕ)) (at : ℕ) (inside rest : Forest) → behind p l net (put p l pins (all_of net (references_in at inside))) rest ≡ behind p l net pins (Branch at inside rest)
behind_both p l net pins at inside rest =
    put_join p l (all_of net (references_in at inside)) (all_of net (collect references_in rest)) pins ∙ ap (λ (rs : List (List ℕ × ℕ)). put p l pins rs) (of_both net (references_in at inside) (collect references_in rest))

-- the lists of a net are formed, and their references name pins of no other net
abbrev pub AreGood : Placement → Library → ℕ → List ((ℕ × ℕ) × ℕ) → Forest → Type 0
AreGood p l net pins f = Every IsNetList f × AreFree p l pins (all_of net (collect references_in f))

pub lists_found : (p : Placement) (l : Library) (net : ℕ) (f : Forest) (pins y : List ((ℕ × ℕ) × ℕ)) → each (net_item p l net) pins f ≡ Ok y → AreGood p l net pins f × (y ≡ behind p l net pins f)
unfolding each net_item
lists_found p l net End pins y e = ((tt, tt), sym (ok_is pins y e))
lists_found p l net (Word at text rest) pins y e = absurd cc
lists_found p l net (Branch at inside rest) pins y e =
    let z = bind_ok (net_item p l net pins at inside) (λ z. each (net_item p l net) z rest) y e in
    let one = list_found p l net (head_of inside).args (same (head_of inside).text (codes "pins")) pins z.0 z.1 in
    let now = put p l pins (all_of net (references_in at inside)) in
    let others = lists_found p l net rest now y (ap (λ (x : List ((ℕ × ℕ) × ℕ)). each (net_item p l net) x rest) (sym one.2) ∙ z.2) in
    let free = free_join p l (all_of net (references_in at inside)) (all_of net (collect references_in rest)) pins one.1 others.0.1 in
    (((one.0, others.0.0), subst (λ (rs : List (List ℕ × ℕ)). AreFree p l pins rs) (of_both net (references_in at inside) (collect references_in rest)) free), others.1 ∙ behind_both p l net pins at inside rest)

pub lists_again : (p : Placement) (l : Library) (net : ℕ) (f : Forest) (pins : List ((ℕ × ℕ) × ℕ)) → AreGood p l net pins f → each (net_item p l net) pins f ≡ Ok (behind p l net pins f)
unfolding each net_item
lists_again p l net End pins h = refl
lists_again p l net (Word at text rest) pins h = absurd h.0
lists_again p l net (Branch at inside rest) pins h =
    let free = subst (λ (rs : List (List ℕ × ℕ)). AreFree p l pins rs) (sym (of_both net (references_in at inside) (collect references_in rest))) h.1 in
    let front = free_front p l (all_of net (references_in at inside)) (all_of net (collect references_in rest)) pins free in
    let back = free_back p l (all_of net (references_in at inside)) (all_of net (collect references_in rest)) pins free in
    rw (list_again p l net (head_of inside).args (same (head_of inside).text (codes "pins")) pins h.0.0 front)
    (lists_again p l net rest (put p l pins (all_of net (references_in at inside))) (h.0.1, back) ∙ ap (λ (x : List ((ℕ × ℕ) × ℕ)). made x) (behind_both p l net pins at inside rest))

-- ---- the first fault of the lists of a net

item_fault : (p : Placement) (l : Library) (earlier : List (List ℕ × ℕ)) (net : ℕ) (pins : List ((ℕ × ℕ) × ℕ)) (before inside : Forest) (at : ℕ) (e : DesignFault) → IsBehind p l earlier net pins → net_item p l net pins at inside ≡ Err e → NetListFault p l earlier before at inside e
unfolding net_item
item_fault p l earlier net pins before inside at e b h = list_fault p l earlier net (head_of inside).args (same (head_of inside).text (codes "pins")) pins e b h

item_fault_again : (p : Placement) (l : Library) (earlier : List (List ℕ × ℕ)) (net : ℕ) (pins : List ((ℕ × ℕ) × ℕ)) (before inside : Forest) (at : ℕ) (e : DesignFault) → IsBehind p l earlier net pins → NetListFault p l earlier before at inside e → net_item p l net pins at inside ≡ Err e
unfolding net_item
item_fault_again p l earlier net pins before inside at e b h = rw (h.0, pins_fault_again p l earlier net (head_of inside).args pins e b h.1) refl

lists_fault : (p : Placement) (l : Library) (earlier : List (List ℕ × ℕ)) (net : ℕ) (pins : List ((ℕ × ℕ) × ℕ)) (f : Forest) (e : DesignFault) → IsBehind p l earlier net pins → each (net_item p l net) pins f ≡ Err e → IsFirst (AreNetLists p l earlier) (NetListFault p l earlier) f e
lists_fault p l earlier net pins f e b h =
    first_found (net_item p l net) pins (behind p l net pins) (AreNetLists p l earlier) (NetListFault p l earlier)
    (λ f y k. let r = lists_found p l net f pins y k in ((r.0.0, all_free p l earlier net (collect references_in f) pins b r.0.1), r.1))
    (λ before inside at e stand k. item_fault p l earlier net (behind p l net pins before) before inside at e (behind_more p l earlier net (collect references_in before) pins b) k) f e h

lists_fault_again : (p : Placement) (l : Library) (earlier : List (List ℕ × ℕ)) (net : ℕ) (pins : List ((ℕ × ℕ) × ℕ)) (f : Forest) (e : DesignFault) → IsBehind p l earlier net pins → IsFirst (AreNetLists p l earlier) (NetListFault p l earlier) f e → each (net_item p l net) pins f ≡ Err e
lists_fault_again p l earlier net pins f e b h =
    first_again (net_item p l net) pins (behind p l net pins) (AreNetLists p l earlier) (NetListFault p l earlier)
    (λ f k. lists_again p l net f pins (k.0, free_all p l earlier net (collect references_in f) pins b k.1))
    (λ before inside at e stand k. item_fault_again p l earlier net (behind p l net pins before) before inside at e (behind_more p l earlier net (collect references_in before) pins b) k) f e h

-- ---- a net

-- the network with one more net of this name, and the nets of these references
abbrev pub with_references : Placement → Library → Network → List ℕ → List (List (List ℕ)) → Network
with_references p l n name refs = record n { nets = n.nets ++ name ∷ []; pins = put p l n.pins (with_nets (length n.nets) refs) }

-- a net whose name is new, and whose references name pins of no other net
pub record IsGoodNet (p : Placement) (l : Library) (n : Network) (f : Forest) (name : List ℕ) : Type 0 where
  pub formed : IsNet f
  pub named : first_name f ≡ name ∷ []
  pub new : IsNewName 100000 n.nets name
  pub free : AreFree p l n.pins (with_nets (length n.nets) (references_of f))

-- what follows the name
abbrev net_lists : Placement → Library → Network → List ℕ → Forest → Read Network
net_lists p l n text rest = each (net_item p l (length n.nets)) n.pins rest >>= λ pins. made (record n { nets = n.nets ++ text ∷ []; pins = pins })

one_net : (net : ℕ) (texts : List (List ℕ)) → all_of net texts ≡ with_nets net (texts ∷ [])
one_net net texts = sym (append-nil (all_of net texts))

pub net_found : (p : Placement) (l : Library) (n : Network) (at : ℕ) (f : Forest) (m : Network) → with_net p l n at f ≡ Ok m → (name : List ℕ) × IsGoodNet p l n f name × (m ≡ with_references p l n name (references_of f))
unfolding with_net word_of
net_found p l n at End m e = absurd cc
net_found p l n at (Branch a inside rest) m e = absurd cc
net_found p l n at (Word a text rest) m e =
    let new = bind_ok (new_name 100000 n.nets (mark a text)) (λ _. net_lists p l n text rest) m e in
    let lists = bind_ok (each (net_item p l (length n.nets)) n.pins rest) (λ pins. made (record n { nets = n.nets ++ text ∷ []; pins = pins })) m new.2 in
    let found = lists_found p l (length n.nets) rest n.pins lists.0 lists.1 in
    let texts = one_net (length n.nets) (collect references_in rest) in (
      text,
      record {
        formed = found.0.0;
        named = refl;
        new = new_found 100000 n.nets a text new.0 new.1;
        free = subst (λ (rs : List (List ℕ × ℕ)). AreFree p l n.pins rs) texts found.0.1;
      },
      sym (ok_is (record n { nets = n.nets ++ text ∷ []; pins = lists.0 }) m lists.2)
          ∙ ap (λ (x : List ((ℕ × ℕ) × ℕ)). record n { nets = n.nets ++ text ∷ []; pins = x }) (found.1 ∙ ap (λ (rs : List (List ℕ × ℕ)). put p l n.pins rs) texts),
    )

pub net_again : (p : Placement) (l : Library) (n : Network) (at : ℕ) (f : Forest) → IsNet f → ((m : List ℕ) → first_name f ≡ m ∷ [] → IsNewName 100000 n.nets m) → AreFree p l n.pins (with_nets (length n.nets) (references_of f))
    → (name : List ℕ) × (with_net p l n at f ≡ Ok (with_references p l n name (references_of f))) × (first_name f ≡ name ∷ [])
unfolding with_net word_of
net_again p l n at End h new free = absurd h
net_again p l n at (Branch a inside rest) h new free = absurd h
net_again p l n at (Word a text rest) h new free =
    let texts = one_net (length n.nets) (collect references_in rest) in
    let good : AreGood p l (length n.nets) n.pins rest = (h, subst (λ (rs : List (List ℕ × ℕ)). AreFree p l n.pins rs) (sym texts) free) in
    let read = lists_again p l (length n.nets) rest n.pins good in
    let whole : made (record n { nets = n.nets ++ text ∷ []; pins = behind p l (length n.nets) n.pins rest }) ≡ made (with_references p l n text (references_of (Word a text rest))) =
    ap (λ (rs : List (List ℕ × ℕ)). made (record n { nets = n.nets ++ text ∷ []; pins = put p l n.pins rs })) texts in
    (text, rw (new_again 100000 n.nets a text (new text refl), read) whole, refl)

-- ---- the fault of a net

abbrev NetWordFault : Placement → Library → List (List ℕ) → List (List ℕ × ℕ) → ℕ → List ℕ → Forest → DesignFault → Type 0
NetWordFault p l names earlier a text rest e = OldNameFault 100000 names text a e ⊎ (IsNewName 100000 names text × IsFirst (AreNetLists p l earlier) (NetListFault p l earlier) rest e)

rest_fault : (p : Placement) (l : Library) (earlier : List (List ℕ × ℕ)) (n : Network) (text : List ℕ) (rest : Forest) (e : DesignFault) → IsBehind p l earlier (length n.nets) n.pins → net_lists p l n text rest ≡ Err e → IsFirst (AreNetLists p l earlier) (NetListFault p l earlier) rest e
rest_fault p l earlier n text rest e b h =
    elim (bind_err (each (net_item p l (length n.nets)) n.pins rest) (λ pins. made (record n { nets = n.nets ++ text ∷ []; pins = pins })) e h) [
      | inl here ↦ lists_fault p l earlier (length n.nets) n.pins rest e b here
      | inr later ↦ absurd cc
    ]

net_word : (p : Placement) (l : Library) (earlier : List (List ℕ × ℕ)) (n : Network) (a : ℕ) (text : List ℕ) (rest : Forest) (e : DesignFault) → IsBehind p l earlier (length n.nets) n.pins
    → (new_name 100000 n.nets (mark a text) >>= λ _. net_lists p l n text rest) ≡ Err e → NetWordFault p l n.nets earlier a text rest e
net_word p l earlier n a text rest e b h =
    elim (bind_err (new_name 100000 n.nets (mark a text)) (λ _. net_lists p l n text rest) e h) [
      | inl here ↦ inl (new_fault 100000 n.nets a text e here)
      | inr later ↦ inr (new_found 100000 n.nets a text later.0 later.1, rest_fault p l earlier n text rest e b later.2)
    ]

net_word_again : (p : Placement) (l : Library) (earlier : List (List ℕ × ℕ)) (n : Network) (a : ℕ) (text : List ℕ) (rest : Forest) (e : DesignFault) → IsBehind p l earlier (length n.nets) n.pins
    → NetWordFault p l n.nets earlier a text rest e → (new_name 100000 n.nets (mark a text) >>= λ _. net_lists p l n text rest) ≡ Err e
net_word_again p l earlier n a text rest e b (inl old) = rw (new_fault_again 100000 n.nets a text e old) refl
net_word_again p l earlier n a text rest e b (inr later) = rw (new_again 100000 n.nets a text later.0, lists_fault_again p l earlier (length n.nets) n.pins rest e b later.1) refl

pub net_fault : (p : Placement) (l : Library) (earlier : List (List ℕ × ℕ)) (n : Network) (at : ℕ) (f : Forest) (e : DesignFault) → IsBehind p l earlier (length n.nets) n.pins → with_net p l n at f ≡ Err e → NetFault p l n.nets earlier at f e
unfolding with_net
net_fault p l earlier n at f e b h = word_fault _ (NetWordFault p l n.nets earlier) at f e (λ a text rest k. net_word p l earlier n a text rest e b k) h

pub net_fault_again : (p : Placement) (l : Library) (earlier : List (List ℕ × ℕ)) (n : Network) (at : ℕ) (f : Forest) (e : DesignFault) → IsBehind p l earlier (length n.nets) n.pins → NetFault p l n.nets earlier at f e → with_net p l n at f ≡ Err e
unfolding with_net
net_fault_again p l earlier n at f e b h = word_fault_again _ (NetWordFault p l n.nets earlier) at f e (λ a text rest k. net_word_again p l earlier n a text rest e b k) h
