-- One list that states a net or a type is read as it has to be, and its fault is the one that is told.
use Rattle.std.proofs.Common.{◌≡◌, ℕ, ◌≤◌, Bool, cond, List, [], ◌∷◌, length, Option, Some, None, Ok, Err, refl, sym, ap, subst, ◌∙◌, inl, inr}
use Rattle.std.specs.Prelude.{is_some}
use Rattle.sexp_text.specs.Forest.{Forest}
use Rattle.dsn_lists.specs.declared.faults.DesignFault.{DesignFault}
use Rattle.dsn_lists.specs.declared.faults.DesignKind.TheVariants as kind
use Rattle.dsn_lists.specs.Results.{Read, ◌>>=◌, wrong}
use Rattle.dsn_lists.specs.Words.{Heading}
use Rattle.dsn_lists.specs.Lists.{told}
use Rattle.dsn_lists.proofs.Firsts.{made, ok_is, bind_ok, bind_err, guard_ok, guard_err}
use Rattle.dsn_reader.specs.declared.ends.Ends.{Ends}
use Rattle.dsn_reader.specs.declared.ends.EndWord.{EndWord}
use Rattle.dsn_reader.specs.declared.ends.EndWord.TheVariants as ends
use Rattle.dsn_reader.specs.Wirings.{Netted, netted, type_list, net_list, type_once, end_list}
use Rattle.dsn_reader.specs.EndLists.{with_names, net_args, first_name, name_of_list, IsNet, type_args, IsType, OfEndFault}
use Rattle.dsn_lists.proofs.Growing.{Grows}
use Rattle.dsn_reader.proofs.OnceLaws.{Behind, behind_stay, behind_none, behind_new, behind_one, none_of}
use Rattle.dsn_reader.proofs.NetListLaws.{net_read, net_found, net_again, net_fault, net_fault_again}
use Rattle.dsn_reader.proofs.TypeLaws.{type_found, type_again, type_fault, type_fault_again}

-- ---- one list

-- a list that states a net or a type behind others, with the names of the nets at the end
pub record IsStep (final : List (List ℕ)) (x : Netted Ends) (k : EndWord) (f : Forest) (y : Netted Ends) : Type 0 where
  pub nets : y.nets ≡ with_names x.nets (name_of_list k f)
  pub few : length y.nets ≤ 100000
  pub net : Behind (IsNet final) x.it.net (net_args k f) y.it.net
  pub fix : Behind IsType x.it.fix (type_args k f) y.it.fix

net_step : (x : Netted Ends) (f : Forest) (y : Netted Ends) → x.it.net ≡ None
    → ((y.nets ≡ with_names x.nets (first_name f)) × (length y.nets ≤ 100000) × ((n : ℕ) × IsNet y.nets f n × (y.it.net ≡ Some n)) × (y.it.fix ≡ x.it.fix)) → IsStep y.nets x ends.Net f y
net_step x f y none h = record {
  nets = h.0;
  few = h.1;
  net = subst (λ (o : Option ℕ). Behind (IsNet y.nets) x.it.net (f ∷ []) o) (sym h.2.2) (behind_new (IsNet y.nets) x.it.net f h.2.0 none h.2.1);
  fix = subst (λ (o : Option Bool). Behind IsType x.it.fix [] o) (sym h.3) (behind_stay IsType x.it.fix);
}

pub step_found : (x : Netted Ends) (at : ℕ) (h : Heading) (k : EndWord) (y : Netted Ends) → length x.nets ≤ 100000 → end_list x at h k ≡ Ok y → IsStep y.nets x k h.args y
unfolding net_list type_once
step_found x at h ends.Net y few e =
    let g = guard_ok (is_some x.it.net) (told kind.Form at) (net_read x.nets x.it at h.args) y e in
    net_step x h.args y (none_of x.it.net g.0) (net_found x.nets x.it at h.args y few g.1)
step_found x at h ends.Kind y few e =
    let t = bind_ok (type_once x.it at h.args) (λ e. made (netted x.nets e)) y e in
    let g = guard_ok (is_some x.it.fix) (told kind.Form at) (type_list at h.args >>= λ b. made (record x.it { fix = Some b })) t.0 t.1 in
    let b = bind_ok (type_list at h.args) (λ b. made (record x.it { fix = Some b })) t.0 g.1 in
    let one = ok_is (record x.it { fix = Some b.0 }) t.0 b.2 in
    let same = ap (λ (z : Ends). netted x.nets z) one ∙ ok_is (netted x.nets t.0) y t.2 in
    subst (λ (z : Netted Ends). IsStep z.nets x ends.Kind h.args z) same
    (record { nets = refl; few = few; net = behind_stay (IsNet x.nets) x.it.net; fix = behind_new IsType x.it.fix h.args b.0 (none_of x.it.fix g.0) (type_found at h.args b.0 b.1) })
step_found x at h ends.Other y few e =
    subst (λ (z : Netted Ends). IsStep z.nets x ends.Other h.args z) (ok_is x y e)
    (record { nets = refl; few = few; net = behind_stay (IsNet x.nets) x.it.net; fix = behind_stay IsType x.it.fix })

pub ends_are : (x : Ends) (net : Option ℕ) (fix : Option Bool) (y : Ends) → y.net ≡ net → y.fix ≡ fix → record x { net = net; fix = fix } ≡ y
ends_are x net fix y a b = ap (λ (o : Option ℕ). record x { net = o; fix = fix }) (sym a) ∙ ap (λ (o : Option Bool). record x { net = y.net; fix = o }) (sym b)

pub netted_is : (a : List (List ℕ)) (e : Ends) (y : Netted Ends) → y.nets ≡ a → e ≡ y.it → netted a e ≡ y
netted_is a e y p q = ap (λ (xs : List (List ℕ)). netted xs e) (sym p) ∙ ap (λ (z : Ends). netted y.nets z) q

pub step_again : (final : List (List ℕ)) (x : Netted Ends) (at : ℕ) (h : Heading) (k : EndWord) (y : Netted Ends) → Grows y.nets final → IsStep final x k h.args y → end_list x at h k ≡ Ok y
unfolding net_list type_once
step_again final x at h ends.Net y grows s =
    let n = behind_one (IsNet final) x.it.net y.it.net h.args s.net in
    let fix = behind_none IsType x.it.fix y.it.fix s.fix in
    let read = net_again x.nets final x.it at h.args n.1.0 (subst (λ (xs : List (List ℕ)). Grows xs final) s.nets grows) (subst (λ (xs : List (List ℕ)). length xs ≤ 100000) s.nets s.few) n.1.1 in
    let same = netted_is (with_names x.nets (first_name h.args)) (record x.it { net = Some n.1.0 }) y s.nets (ends_are x.it (Some n.1.0) x.it.fix y.it n.1.2 fix) in
    ap (λ (o : Option ℕ). cond (is_some o) (wrong kind.Form at) (net_read x.nets x.it at h.args)) n.0 ∙ read ∙ ap made same
step_again final x at h ends.Kind y grows s =
    let b = behind_one IsType x.it.fix y.it.fix h.args s.fix in
    let net = behind_none (IsNet final) x.it.net y.it.net s.net in
    let same = netted_is x.nets (record x.it { fix = Some b.1.0 }) y s.nets (ends_are x.it x.it.net (Some b.1.0) y.it net b.1.2) in
    ap (λ (o : Option Bool). cond (is_some o) (wrong kind.Form at) (type_list at h.args >>= λ b. made (record x.it { fix = Some b })) >>= λ e. made (netted x.nets e)) b.0
    ∙ ap (λ (r : Read Bool). (r >>= λ b. made (record x.it { fix = Some b })) >>= λ e. made (netted x.nets e)) (type_again at h.args b.1.0 b.1.1)
    ∙ ap made same
step_again final x at h ends.Other y grows s =
    let net = behind_none (IsNet final) x.it.net y.it.net s.net in
    let fix = behind_none IsType x.it.fix y.it.fix s.fix in
    ap made (netted_is x.nets x.it y s.nets (ends_are x.it x.it.net x.it.fix y.it net fix))

pub step_fault : (x : Netted Ends) (at : ℕ) (h : Heading) (k : EndWord) (e : DesignFault) → end_list x at h k ≡ Err e → OfEndFault x at h.args k e
unfolding net_list type_once
step_fault x at h ends.Net e is =
    elim (guard_err (is_some x.it.net) (told kind.Form at) (net_read x.nets x.it at h.args) e is) [
      | inl second ↦ inl second
      | inr first ↦ inr (none_of x.it.net first.0, net_fault x.nets x.it at h.args e first.1)
    ]
step_fault x at h ends.Kind e is =
    elim (bind_err (type_once x.it at h.args) (λ e. made (netted x.nets e)) e is) [
      | inl here ↦ elim (guard_err (is_some x.it.fix) (told kind.Form at) (type_list at h.args >>= λ b. made (record x.it { fix = Some b })) e here) [
        | inl second ↦ inl second
        | inr first ↦ elim (bind_err (type_list at h.args) (λ b. made (record x.it { fix = Some b })) e first.1) [
          | inl own ↦ inr (none_of x.it.fix first.0, type_fault at h.args e own)
          | inr none ↦ absurd cc
        ]
      ]
      | inr later ↦ absurd cc
    ]
step_fault x at h ends.Other e is = absurd cc

pub step_fault_again : (x : Netted Ends) (at : ℕ) (h : Heading) (k : EndWord) (e : DesignFault) → OfEndFault x at h.args k e → end_list x at h k ≡ Err e
unfolding net_list type_once
step_fault_again x at h ends.Net e (inl second) = rw (second.0, second.1) refl
step_fault_again x at h ends.Net e (inr first) = ap (λ (o : Option ℕ). cond (is_some o) (wrong kind.Form at) (net_read x.nets x.it at h.args)) first.0 ∙ net_fault_again x.nets x.it at h.args e first.1
step_fault_again x at h ends.Kind e (inl second) = rw (second.0, second.1) refl
step_fault_again x at h ends.Kind e (inr first) =
    ap (λ (o : Option Bool). cond (is_some o) (wrong kind.Form at) (type_list at h.args >>= λ b. made (record x.it { fix = Some b })) >>= λ e. made (netted x.nets e)) first.0
    ∙ rw (type_fault_again at h.args e first.1) refl
step_fault_again x at h ends.Other e is = absurd is
