-- A reference of a net names a pin that no earlier net names exactly where the pin has no other net.
use Rattle.std.proofs.Common.{◌≡◌, ℕ, ◌==◌, Bool, true, false, cond, List, [], ◌∷◌, ◌++◌, map, Option, None, Some, Ok, Err, refl, sym, ap, subst, ◌∙◌, inl, inr, ◌⊎◌}
use Rattle.std.specs.List.{AllByRecursion}
use Rattle.std.proofs.lemmas.Bool.{eqb-true, eqb-false, eq-eqb, ne_eqb}
use Rattle.dsn_lists.specs.declared.faults.DesignFault.{DesignFault}
use Rattle.dsn_lists.specs.declared.faults.DesignKind.TheVariants as kind
use Rattle.dsn_lists.specs.declared.marks.Mark.{Mark}
use Rattle.dsn_lists.specs.Results.{wrong}
use Rattle.dsn_lists.specs.Lists.{told}
use Rattle.dsn_lists.proofs.Firsts.{made, failed, ok_is}
use Rattle.dsn_library.specs.declared.library.Library.{Library}
use Rattle.dsn_placement.specs.declared.placement.Placement.{Placement}
use Rattle.dsn_network.specs.References.{net_at, pin_of}
use Rattle.dsn_network.specs.Networks.{net_added, pin_added, reference_of}
use Rattle.dsn_network.specs.NamedPins.{IsInNet}
use Rattle.dsn_network.specs.NetLists.{IsTaken, NamesFreePin, ReferenceFault}
use Rattle.dsn_network.proofs.PinSplits.{pin_found, pin_again, none_found, none_again}
use Rattle.dsn_network.proofs.PinPuts.{put_pin, put_named, put_one, put, put_keeps, put_back, in_cases, in_none, IsFreePin, IsFreeNamed, AreFree}

-- ---- one reference

pin_read : (net : ℕ) (pins : List ((ℕ × ℕ) × ℕ)) (q : ℕ × ℕ) (at : ℕ) (o : Option ℕ) (y : List ((ℕ × ℕ) × ℕ)) → net_added net pins q at o ≡ Ok y → IsFreePin net o × (y ≡ put_pin pins q net o)
pin_read net pins q at None y e = (tt, sym (ok_is (pins ++ (q, net) ∷ []) y e))
pin_read net pins q at (Some k) y e = by (k == net) refl e
  where
    by : (b : Bool) → (k == net) ≡ b → cond b (made pins) (wrong kind.Twice at) ≡ Ok y → (k ≡ net) × (y ≡ pins)
    by true same e = (eqb-true k net same, sym (ok_is pins y e))
    by false same e = absurd cc

pin_reads : (net : ℕ) (pins : List ((ℕ × ℕ) × ℕ)) (q : ℕ × ℕ) (at : ℕ) (o : Option ℕ) → IsFreePin net o → net_added net pins q at o ≡ Ok (put_pin pins q net o)
pin_reads net pins q at None h = refl
pin_reads net pins q at (Some k) h = ap (λ (b : Bool). cond b (made pins) (wrong kind.Twice at)) (eq-eqb k net h)

named_read : (net : ℕ) (pins : List ((ℕ × ℕ) × ℕ)) (at : ℕ) (o : Option (ℕ × ℕ)) (y : List ((ℕ × ℕ) × ℕ)) → pin_added net pins at o ≡ Ok y → IsFreeNamed pins net o × (y ≡ put_named pins net o)
named_read net pins at None y e = absurd cc
named_read net pins at (Some q) y e = pin_read net pins q at (net_at pins q) y e

named_reads : (net : ℕ) (pins : List ((ℕ × ℕ) × ℕ)) (at : ℕ) (o : Option (ℕ × ℕ)) → IsFreeNamed pins net o → pin_added net pins at o ≡ Ok (put_named pins net o)
named_reads net pins at None h = absurd h
named_reads net pins at (Some q) h = pin_reads net pins q at (net_at pins q) h

pub reference_found : (p : Placement) (l : Library) (net : ℕ) (pins : List ((ℕ × ℕ) × ℕ)) (w : Mark) (y : List ((ℕ × ℕ) × ℕ)) → reference_of p l net pins w ≡ Ok y → IsFreeNamed pins net (pin_of p l w.name) × (y ≡ put_one p l pins (w.name, net))
unfolding reference_of
reference_found p l net pins w y e = named_read net pins w.at (pin_of p l w.name) y e

pub reference_again : (p : Placement) (l : Library) (net : ℕ) (pins : List ((ℕ × ℕ) × ℕ)) (w : Mark) → IsFreeNamed pins net (pin_of p l w.name) → reference_of p l net pins w ≡ Ok (put_one p l pins (w.name, net))
unfolding reference_of
reference_again p l net pins w h = named_reads net pins w.at (pin_of p l w.name) h

-- ---- the fault of one reference

-- the pin has another net
abbrev PinFault : ℕ → ℕ → Option ℕ → DesignFault → Type 0
PinFault net at None e = ⊥
PinFault net at (Some k) e = (k ≡ net → ⊥) × (e ≡ told kind.Twice at)

-- no pin is named, or one that has another net
abbrev NamedFault : List ((ℕ × ℕ) × ℕ) → ℕ → ℕ → Option (ℕ × ℕ) → DesignFault → Type 0
NamedFault pins net at None e = e ≡ told kind.Name at
NamedFault pins net at (Some q) e = PinFault net at (net_at pins q) e

pin_why : (net : ℕ) (pins : List ((ℕ × ℕ) × ℕ)) (q : ℕ × ℕ) (at : ℕ) (o : Option ℕ) (e : DesignFault) → net_added net pins q at o ≡ Err e → PinFault net at o e
pin_why net pins q at None e h = absurd cc
pin_why net pins q at (Some k) e h = by (k == net) refl h
  where
    by : (b : Bool) → (k == net) ≡ b → cond b (made pins) (wrong kind.Twice at) ≡ Err e → (k ≡ net → ⊥) × (e ≡ told kind.Twice at)
    by true same h = absurd cc
    by false same h = (eqb-false k net same, cc)

why_pin : (net : ℕ) (pins : List ((ℕ × ℕ) × ℕ)) (q : ℕ × ℕ) (at : ℕ) (o : Option ℕ) (e : DesignFault) → PinFault net at o e → net_added net pins q at o ≡ Err e
why_pin net pins q at None e h = absurd h
why_pin net pins q at (Some k) e h = ap (λ (b : Bool). cond b (made pins) (wrong kind.Twice at)) (ne_eqb k net h.0) ∙ ap failed (sym h.1)

named_why : (net : ℕ) (pins : List ((ℕ × ℕ) × ℕ)) (at : ℕ) (o : Option (ℕ × ℕ)) (e : DesignFault) → pin_added net pins at o ≡ Err e → NamedFault pins net at o e
named_why net pins at None e h = cc
named_why net pins at (Some q) e h = pin_why net pins q at (net_at pins q) e h

why_named : (net : ℕ) (pins : List ((ℕ × ℕ) × ℕ)) (at : ℕ) (o : Option (ℕ × ℕ)) (e : DesignFault) → NamedFault pins net at o e → pin_added net pins at o ≡ Err e
why_named net pins at None e h = ap failed (sym h)
why_named net pins at (Some q) e h = why_pin net pins q at (net_at pins q) e h

-- ---- behind earlier nets, and references of this one

-- pins that earlier nets name have those nets; each other pin has none, or this one
pub record IsBehind (p : Placement) (l : Library) (earlier : List (List ℕ × ℕ)) (net : ℕ) (pins : List ((ℕ × ℕ) × ℕ)) : Type 0 where
  pub known : (q : ℕ × ℕ) (j : ℕ) → IsInNet p l earlier q j → net_at pins q ≡ Some j
  pub back : (q : ℕ × ℕ) (j : ℕ) → net_at pins q ≡ Some j → IsInNet p l earlier q j ⊎ (j ≡ net)
  pub apart : (q : ℕ × ℕ) (j : ℕ) → IsInNet p l earlier q j → j ≡ net → ⊥

-- references of this net
abbrev pub all_of : ℕ → List (List ℕ) → List (List ℕ × ℕ)
all_of net texts = map (λ (text : List ℕ). (text, net)) texts

of_net : (p : Placement) (l : Library) (net : ℕ) (texts : List (List ℕ)) (q : ℕ × ℕ) (j : ℕ) → IsInNet p l (all_of net texts) q j → j ≡ net
of_net p l net [] q j i = absurd (in_none p l q j i)
of_net p l net (text ∷ texts) q j i =
    elim (in_cases p l (text, net) (all_of net texts) q j i) [
      | inl here ↦ sym here.1
      | inr later ↦ of_net p l net texts q j later
    ]

pub behind_more : (p : Placement) (l : Library) (earlier : List (List ℕ × ℕ)) (net : ℕ) (texts : List (List ℕ)) (pins : List ((ℕ × ℕ) × ℕ)) → IsBehind p l earlier net pins → IsBehind p l earlier net (put p l pins (all_of net texts))
behind_more p l earlier net texts pins h = record {
  known = λ q j i. put_keeps p l (all_of net texts) pins q j (h.known q j i);
  back = λ q j e. elim (put_back p l (all_of net texts) pins q j e) [
    | inl old ↦ h.back q j old
    | inr new ↦ inr (of_net p l net texts q j new)
  ];
  apart = h.apart;
}

free_here : (p : Placement) (l : Library) (earlier : List (List ℕ × ℕ)) (net : ℕ) (pins : List ((ℕ × ℕ) × ℕ)) (text : List ℕ) (o : Option (ℕ × ℕ)) → IsBehind p l earlier net pins → pin_of p l text ≡ o → IsFreeNamed pins net o → NamesFreePin p l earlier text
free_here p l earlier net pins text None b e h = absurd h
free_here p l earlier net pins text (Some q) b e h = (q, pin_found p l text q e, λ t. b.apart q t.0 t.1 (subst (λ (o : Option ℕ). IsFreePin net o) (b.known q t.0 t.1) h))

free_there : (p : Placement) (l : Library) (earlier : List (List ℕ × ℕ)) (net : ℕ) (pins : List ((ℕ × ℕ) × ℕ)) (q : ℕ × ℕ) (o : Option ℕ) → IsBehind p l earlier net pins → net_at pins q ≡ o → (IsTaken p l earlier q → ⊥) → IsFreePin net o
free_there p l earlier net pins q None b e h = tt
free_there p l earlier net pins q (Some j) b e h =
    elim (b.back q j e) [
      | inl i ↦ absurd (h (j, i))
      | inr same ↦ same
    ]

pub free_named : (p : Placement) (l : Library) (earlier : List (List ℕ × ℕ)) (net : ℕ) (pins : List ((ℕ × ℕ) × ℕ)) (text : List ℕ) → IsBehind p l earlier net pins → IsFreeNamed pins net (pin_of p l text) → NamesFreePin p l earlier text
free_named p l earlier net pins text b h = free_here p l earlier net pins text (pin_of p l text) b refl h

pub named_free : (p : Placement) (l : Library) (earlier : List (List ℕ × ℕ)) (net : ℕ) (pins : List ((ℕ × ℕ) × ℕ)) (text : List ℕ) → IsBehind p l earlier net pins → NamesFreePin p l earlier text → IsFreeNamed pins net (pin_of p l text)
named_free p l earlier net pins text b h = subst (λ (o : Option (ℕ × ℕ)). IsFreeNamed pins net o) (sym (pin_again p l text h.0 h.1)) (free_there p l earlier net pins h.0 (net_at pins h.0) b refl h.2)

pub all_free : (p : Placement) (l : Library) (earlier : List (List ℕ × ℕ)) (net : ℕ) (texts : List (List ℕ)) (pins : List ((ℕ × ℕ) × ℕ)) → IsBehind p l earlier net pins → AreFree p l pins (all_of net texts) → AllByRecursion (NamesFreePin p l earlier) texts
all_free p l earlier net [] pins b h = tt
all_free p l earlier net (text ∷ texts) pins b h = (free_named p l earlier net pins text b h.0, all_free p l earlier net texts (put_one p l pins (text, net)) (behind_more p l earlier net (text ∷ []) pins b) h.1)

pub free_all : (p : Placement) (l : Library) (earlier : List (List ℕ × ℕ)) (net : ℕ) (texts : List (List ℕ)) (pins : List ((ℕ × ℕ) × ℕ)) → IsBehind p l earlier net pins → AllByRecursion (NamesFreePin p l earlier) texts → AreFree p l pins (all_of net texts)
free_all p l earlier net [] pins b h = tt
free_all p l earlier net (text ∷ texts) pins b h = (named_free p l earlier net pins text b h.0, free_all p l earlier net texts (put_one p l pins (text, net)) (behind_more p l earlier net (text ∷ []) pins b) h.1)

-- ---- the fault of a reference behind earlier nets

taken_pin : (p : Placement) (l : Library) (earlier : List (List ℕ × ℕ)) (net at : ℕ) (pins : List ((ℕ × ℕ) × ℕ)) (q : ℕ × ℕ) (o : Option ℕ) (e : DesignFault) → IsBehind p l earlier net pins → net_at pins q ≡ o → PinFault net at o e → IsTaken p l earlier q × (e ≡ told kind.Twice at)
taken_pin p l earlier net at pins q None e b same h = absurd h
taken_pin p l earlier net at pins q (Some j) e b same h =
    elim (b.back q j same) [
      | inl i ↦ ((j, i), h.1)
      | inr own ↦ absurd (h.0 own)
    ]

taken_named : (p : Placement) (l : Library) (earlier : List (List ℕ × ℕ)) (net at : ℕ) (pins : List ((ℕ × ℕ) × ℕ)) (text : List ℕ) (o : Option (ℕ × ℕ)) (e : DesignFault) → IsBehind p l earlier net pins → pin_of p l text ≡ o → NamedFault pins net at o e → ReferenceFault p l earlier text at e
taken_named p l earlier net at pins text None e b same h = inl (none_found p l text same, h)
taken_named p l earlier net at pins text (Some q) e b same h =
    let t = taken_pin p l earlier net at pins q (net_at pins q) e b refl h in
    inr (q, pin_found p l text q same, t.0, t.1)

pub reference_fault : (p : Placement) (l : Library) (earlier : List (List ℕ × ℕ)) (net : ℕ) (pins : List ((ℕ × ℕ) × ℕ)) (w : Mark) (e : DesignFault) → IsBehind p l earlier net pins → reference_of p l net pins w ≡ Err e → ReferenceFault p l earlier w.name w.at e
unfolding reference_of
reference_fault p l earlier net pins w e b h = taken_named p l earlier net w.at pins w.name (pin_of p l w.name) e b refl (named_why net pins w.at (pin_of p l w.name) e h)

fault_named : (p : Placement) (l : Library) (earlier : List (List ℕ × ℕ)) (net at : ℕ) (pins : List ((ℕ × ℕ) × ℕ)) (text : List ℕ) (e : DesignFault) → IsBehind p l earlier net pins → ReferenceFault p l earlier text at e → NamedFault pins net at (pin_of p l text) e
fault_named p l earlier net at pins text e b (inl none) = subst (λ (o : Option (ℕ × ℕ)). NamedFault pins net at o e) (sym (none_again p l text none.0)) none.1
fault_named p l earlier net at pins text e b (inr taken) =
    let pin = subst (λ (o : Option ℕ). PinFault net at o e) (sym (b.known taken.0 taken.2.0 taken.2.1)) (b.apart taken.0 taken.2.0 taken.2.1, taken.3) in
    subst (λ (o : Option (ℕ × ℕ)). NamedFault pins net at o e) (sym (pin_again p l text taken.0 taken.1)) pin

pub reference_fault_again : (p : Placement) (l : Library) (earlier : List (List ℕ × ℕ)) (net : ℕ) (pins : List ((ℕ × ℕ) × ℕ)) (w : Mark) (e : DesignFault) → IsBehind p l earlier net pins → ReferenceFault p l earlier w.name w.at e → reference_of p l net pins w ≡ Err e
unfolding reference_of
reference_fault_again p l earlier net pins w e b h = why_named net pins w.at (pin_of p l w.name) e (fault_named p l earlier net w.at pins w.name e b h)
