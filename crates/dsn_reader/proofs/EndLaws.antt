-- The net and the type that lists of a wire or a via state are those that are read, and their first fault is the one that is told.
use Rattle.std.proofs.Common.{◌≡◌, ℕ, ◌≤◌, true, List, length, None, Ok, Err, refl, sym, ap, subst, ◌∙◌, arith}
use Rattle.sexp_text.specs.Forest.{Forest, End, Word, Branch}
use Rattle.dsn_lists.specs.declared.faults.DesignFault.{DesignFault}
use Rattle.dsn_lists.specs.Results.{Read, each}
use Rattle.dsn_lists.specs.Words.{head_of}
use Rattle.dsn_lists.specs.Lists.{collect, IsFirst}
use Rattle.dsn_lists.specs.ShortLists.{only_lists}
use Rattle.dsn_lists.proofs.Firsts.{made, ok_is, bind_ok, first_found, first_again}
use Rattle.dsn_reader.specs.declared.ends.Ends.{Ends}
use Rattle.dsn_reader.specs.Wirings.{Netted, netted, end_word, end_item, no_ends}
use Rattle.dsn_reader.specs.EndLists.{with_names, nets_in, names_in, IsNet, types_in, IsType, AreEnds, HasEnds, OfEndFault, EndsFault}
use Rattle.dsn_lists.proofs.Growing.{Grows, grows_same, grows_then}
use Rattle.dsn_reader.proofs.NetLaws.{grows_with, with-append, long_with}
use Rattle.dsn_reader.proofs.OnceLaws.{Behind, behind_stay, behind_none, behind_join, behind_split, behind_map, net_grows}
use Rattle.dsn_reader.proofs.EndListLaws.{IsStep, step_found, ends_are, netted_is, step_again, step_fault, step_fault_again}

-- ---- all lists

-- lists that state a net and a type behind others, with the names of the nets at the end
pub record AreSteps (final : List (List ℕ)) (x : Netted Ends) (f : Forest) (y : Netted Ends) : Type 0 where
  pub lists : only_lists f ≡ true
  pub nets : y.nets ≡ with_names x.nets (collect names_in f)
  pub few : length y.nets ≤ 100000
  pub net : Behind (IsNet final) x.it.net (collect nets_in f) y.it.net
  pub fix : Behind IsType x.it.fix (collect types_in f) y.it.fix

no_steps : (x : Netted Ends) → length x.nets ≤ 100000 → AreSteps x.nets x End x
no_steps x few = record { lists = refl; nets = refl; few = few; net = behind_stay (IsNet x.nets) x.it.net; fix = behind_stay IsType x.it.fix }

pub steps_found : (f : Forest) (x y : Netted Ends) → length x.nets ≤ 100000 → each end_item x f ≡ Ok y → AreSteps y.nets x f y
unfolding each end_item
steps_found End x y few e = subst (λ (z : Netted Ends). AreSteps z.nets x End z) (ok_is x y e) (no_steps x few)
steps_found (Word at text rest) x y few e = absurd cc
steps_found (Branch at inside rest) x y few e =
    let m = bind_ok (end_item x at inside) (λ y. each end_item y rest) y e in
    let one = step_found x at (head_of inside) (end_word (head_of inside).text) m.0 few m.1 in
    let more = steps_found rest m.0 y one.few m.2 in
    let grows : Grows m.0.nets y.nets = subst (λ (xs : List (List ℕ)). Grows m.0.nets xs) (sym more.nets) (grows_with (collect names_in rest) m.0.nets) in
    let here = behind_map (IsNet m.0.nets) (IsNet y.nets) x.it.net m.0.it.net (nets_in at inside) (net_grows m.0.nets y.nets grows) one.net in
    record {
      lists = more.lists;
      nets = more.nets ∙ ap (λ (xs : List (List ℕ)). with_names xs (collect names_in rest)) one.nets ∙ sym (with-append (names_in at inside) (collect names_in rest) x.nets);
      few = more.few;
      net = behind_join (IsNet y.nets) x.it.net m.0.it.net y.it.net (nets_in at inside) (collect nets_in rest) here more.net;
      fix = behind_join IsType x.it.fix m.0.it.fix y.it.fix (types_in at inside) (collect types_in rest) one.fix more.fix;
    }

same_end : (final : List (List ℕ)) (x y : Netted Ends) → AreSteps final x End y → x ≡ y
same_end final x y s = netted_is x.nets x.it y s.nets (ends_are x.it x.it.net x.it.fix y.it (behind_none (IsNet final) x.it.net y.it.net s.net) (behind_none IsType x.it.fix y.it.fix s.fix))

pub steps_again : (final : List (List ℕ)) (f : Forest) (x y : Netted Ends) → Grows y.nets final → AreSteps final x f y → each end_item x f ≡ Ok y
unfolding each end_item
steps_again final End x y grows s = ap made (same_end final x y s)
steps_again final (Word at text rest) x y grows s = absurd (let no_word = s.lists in cc)
steps_again final (Branch at inside rest) x y grows s =
    let net = behind_split (IsNet final) x.it.net y.it.net (nets_in at inside) (collect nets_in rest) s.net in
    let fix = behind_split IsType x.it.fix y.it.fix (types_in at inside) (collect types_in rest) s.fix in
    let middle = with_names x.nets (names_in at inside) in
    let all : y.nets ≡ with_names middle (collect names_in rest) = s.nets ∙ with-append (names_in at inside) (collect names_in rest) x.nets in
    let m : Netted Ends = netted middle (record { net = net.0; fix = fix.0 }) in
    let long = long_with (collect names_in rest) middle in
    let few = s.few in
    let same_length = ap length all in
    let first : IsStep final x (end_word (head_of inside).text) (head_of inside).args m = record { nets = refl; few = omega (arith, long, few, same_length); net = net.1; fix = fix.1 } in
    let grows_first : Grows middle final = grows_then middle y.nets final (subst (λ (xs : List (List ℕ)). Grows middle xs) (sym all) (grows_with (collect names_in rest) middle)) grows in
    let others : AreSteps final m rest y = record { lists = s.lists; nets = all; few = s.few; net = net.2; fix = fix.2 } in
    rw (step_again final x at (head_of inside) (end_word (head_of inside).text) m grows_first first) (steps_again final rest m y grows others)

-- ---- the lists of a via

pub ends_found : (nets : List (List ℕ)) (f : Forest) (y : Netted Ends) → length nets ≤ 100000 → each end_item (netted nets no_ends) f ≡ Ok y → HasEnds nets f y
ends_found nets f y few e =
    let s = steps_found f (netted nets no_ends) y few e in
    record { nets_are = s.nets; few = s.few; ends_are = record { lists = s.lists; net = s.net; fix = s.fix } }

-- with the names of the nets at the end
pub ends_later : (nets final : List (List ℕ)) (f : Forest) (y : Netted Ends) → y.nets ≡ with_names nets (collect names_in f) → length y.nets ≤ 100000 → Grows y.nets final → AreEnds final f y.it → each end_item (netted nets no_ends) f ≡ Ok y
ends_later nets final f y all few grows h = steps_again final f (netted nets no_ends) y grows (record { lists = h.lists; nets = all; few = few; net = h.net; fix = h.fix })

pub ends_again : (nets : List (List ℕ)) (f : Forest) (y : Netted Ends) → HasEnds nets f y → each end_item (netted nets no_ends) f ≡ Ok y
ends_again nets f y h = ends_later nets y.nets f y h.nets_are h.few (grows_same y.nets) h.ends_are

pub ends_grow : (a b : List (List ℕ)) (f : Forest) (x : Ends) → Grows a b → AreEnds a f x → AreEnds b f x
ends_grow a b f x g h = record { lists = h.lists; net = behind_map (IsNet a) (IsNet b) None x.net (collect nets_in f) (net_grows a b g) h.net; fix = h.fix }

-- ---- the first fault

abbrev pub or_else : {A : Type 0} → A → Read A → A
or_else x (Ok y) = y
or_else x (Err e) = x

pub else_is : {A : Type 0} (x y : A) (r : Read A) → r ≡ Ok y → y ≡ or_else x r
else_is {A} x y r e = ap (λ (s : Read A). or_else x s) (sym e)

-- where lists that are read are those that state something, the first fault is the one that is told
pub firsts_found : {A : Type 0} (step : A → ℕ → Forest → Read A) (x : A) (Has : Forest → A → Type 0) (Of : A → ℕ → Forest → DesignFault → Type 0)
    → ((f : Forest) (y : A) → each step x f ≡ Ok y → Has f y)
    → ((f : Forest) (y : A) (at : ℕ) (inside : Forest) (e : DesignFault) → Has f y → step y at inside ≡ Err e → Of y at inside e)
    → (f : Forest) (e : DesignFault) → each step x f ≡ Err e → IsFirst (λ f. (y : A) × Has f y) (λ before at inside e. (y : A) × Has before y × Of y at inside e) f e
firsts_found {A} step x Has Of found fault f e h =
    let r : IsFirst (λ f. (y : A) × Has f y × (each step x f ≡ Ok y)) (λ before at inside e. (y : A) × Has before y × Of y at inside e) f e =
    first_found step x (λ f. or_else x (each step x f)) (λ f. (y : A) × Has f y × (each step x f ≡ Ok y)) (λ before at inside e. (y : A) × Has before y × Of y at inside e)
    (λ f y k. ((y, found f y k, k), else_is x y (each step x f) k))
    (λ before inside at e stand k. (stand.0, stand.1, fault before stand.0 at inside e stand.1 (subst (λ (y : A). step y at inside ≡ Err e) (sym (else_is x stand.0 (each step x before) stand.2)) k)))
    f e h
    in
    record { before = r.before; after = r.after; parts = r.parts; stand = (r.stand.0, r.stand.1); breaks = r.breaks }

-- and back
pub firsts_again : {A : Type 0} (step : A → ℕ → Forest → Read A) (x : A) (Has : Forest → A → Type 0) (Of : A → ℕ → Forest → DesignFault → Type 0)
    → ((f : Forest) (y : A) → Has f y → each step x f ≡ Ok y)
    → ((f : Forest) (y : A) (at : ℕ) (inside : Forest) (e : DesignFault) → Has f y → Of y at inside e → step y at inside ≡ Err e)
    → (f : Forest) (e : DesignFault) → IsFirst (λ f. (y : A) × Has f y) (λ before at inside e. (y : A) × Has before y × Of y at inside e) f e → each step x f ≡ Err e
firsts_again {A} step x Has Of again fault f e h =
    first_again step x (λ f. or_else x (each step x f)) (λ f. (y : A) × Has f y) (λ before at inside e. (y : A) × Has before y × Of y at inside e)
    (λ f s. again f s.0 s.1 ∙ ap made (else_is x s.0 (each step x f) (again f s.0 s.1)))
    (λ before inside at e stand k. subst (λ (y : A). step y at inside ≡ Err e) (else_is x k.0 (each step x before) (again before k.0 k.1)) (fault before k.0 at inside e k.1 k.2))
    f e h

abbrev OfEnd : Netted Ends → ℕ → Forest → DesignFault → Type 0
OfEnd x at inside e = OfEndFault x at (head_of inside).args (end_word (head_of inside).text) e

item_fault : (x : Netted Ends) (at : ℕ) (inside : Forest) (e : DesignFault) → end_item x at inside ≡ Err e → OfEnd x at inside e
unfolding end_item
item_fault x at inside e h = step_fault x at (head_of inside) (end_word (head_of inside).text) e h

item_fault_again : (x : Netted Ends) (at : ℕ) (inside : Forest) (e : DesignFault) → OfEnd x at inside e → end_item x at inside ≡ Err e
unfolding end_item
item_fault_again x at inside e h = step_fault_again x at (head_of inside) (end_word (head_of inside).text) e h

pub ends_fault : (nets : List (List ℕ)) (f : Forest) (e : DesignFault) → length nets ≤ 100000 → each end_item (netted nets no_ends) f ≡ Err e → EndsFault nets f e
ends_fault nets f e few h = firsts_found end_item (netted nets no_ends) (HasEnds nets) OfEnd (λ f y k. ends_found nets f y few k) (λ f y at inside e has k. item_fault y at inside e k) f e h

pub ends_fault_again : (nets : List (List ℕ)) (f : Forest) (e : DesignFault) → EndsFault nets f e → each end_item (netted nets no_ends) f ≡ Err e
ends_fault_again nets f e h = firsts_again end_item (netted nets no_ends) (HasEnds nets) OfEnd (ends_again nets) (λ f y at inside e has k. item_fault_again y at inside e k) f e h
