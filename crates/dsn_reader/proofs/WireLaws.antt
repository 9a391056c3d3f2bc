-- The wires that lists state are those that are read, and the fault of one is the one that is told.
use Rattle.std.proofs.Common.{◌≡◌, ℕ, ◌≤◌, Bool, true, List, length, Option, Some, None, Ok, Err, refl, sym, ap, subst, ◌∙◌, inl, inr, ◌⊎◌}
use Rattle.std.specs.Prelude.{is_some}
use Rattle.sexp_text.specs.Forest.{Forest}
use Rattle.sexp_text.specs.declared.units.Unit.{Unit as LengthUnit}
use Rattle.board_items.specs.declared.items.Item.{Item}
use Rattle.board_items.specs.declared.items.Item.TheVariants as items
use Rattle.dsn_lists.specs.declared.faults.DesignFault.{DesignFault}
use Rattle.dsn_lists.specs.declared.faults.DesignKind.TheVariants as kind
use Rattle.dsn_lists.specs.Results.{◌>>=◌, each}
use Rattle.dsn_lists.specs.Lists.{collect, told}
use Rattle.dsn_lists.proofs.Firsts.{made, failed, ok_is, bind_ok, bind_err}
use Rattle.dsn_reader.specs.declared.wires.Track.{Track}
use Rattle.dsn_reader.specs.declared.wires.Draft.{Draft}
use Rattle.dsn_reader.specs.declared.wiring.Wiring.{Wiring}
use Rattle.dsn_reader.specs.Wirings.{Netted, netted, wire_item, no_draft, wire_with, as_wire, wire_of, is_fixed}
use Rattle.dsn_reader.specs.EndLists.{with_names, names_in}
use Rattle.dsn_reader.specs.WireLists.{IsDraft, IsWire, NoQuotaFor, WholeWireFault, WireFault}
use Rattle.dsn_lists.proofs.Growing.{Grows}
use Rattle.dsn_reader.proofs.DraftLaws.{lists_found, lists_later, lists_again, lists_fault, lists_fault_again}
use Rattle.dsn_reader.proofs.QuotaLaws.{IsPut, put_found, put_again, put_fault, put_fault_again}

-- ---- a wire

abbrev wire_made : Track → ℕ → Option Bool → Item
wire_made t net fix = items.Wire net t.layer t.width t.points (is_fixed fix)

-- what is read of a wire: its item, behind wiring
pub record IsOneWire (u : LengthUnit) (layers final : List (List ℕ)) (x : Netted Wiring) (f : Forest) (i : Item) (n : ℕ) (y : Netted Wiring) : Type 0 where
  pub nets : y.nets ≡ with_names x.nets (collect names_in f)
  pub few : length y.nets ≤ 100000
  pub wire : IsWire u layers final f i
  pub put : IsPut x.it i n y.it

-- the wire of a draft
record IsWhole (at : ℕ) (w : Wiring) (d : Draft) (v : Wiring) : Type 0 where
  track : Track
  net : ℕ
  has_track : d.track ≡ Some track
  has_net : d.ends.net ≡ Some net
  put : IsPut w (wire_made track net d.ends.fix) (length track.points) v

whole_found : (at : ℕ) (w : Wiring) (d : Draft) (v : Wiring) → as_wire at w d ≡ Ok v → IsWhole at w d v
unfolding as_wire
whole_found at w d v e = by d.track d.ends.net refl refl e
  where
    by : (o : Option Track) (p : Option ℕ) → d.track ≡ o → d.ends.net ≡ p → wire_with at w o p d.ends.fix ≡ Ok v → IsWhole at w d v
    by None p a b e = absurd cc
    by (Some t) None a b e = absurd cc
    by (Some t) (Some n) a b e = record { track = t; net = n; has_track = a; has_net = b; put = put_found at w (wire_made t n d.ends.fix) (length t.points) v e }

whole_again : (at : ℕ) (w : Wiring) (t : Track) (net : ℕ) (fix : Option Bool) (v : Wiring) → IsPut w (wire_made t net fix) (length t.points) v
    → as_wire at w (record { ends = record { net = Some net; fix = fix }; track = Some t }) ≡ Ok v
unfolding as_wire
whole_again at w t net fix v h = put_again at w (wire_made t net fix) (length t.points) v h

some_on : {A : Type 0} (o : Option A) (x : A) → o ≡ Some x → is_some o ≡ true
some_on o x e = ap is_some e

whole_fault : (at : ℕ) (w : Wiring) (d : Draft) (e : DesignFault) → as_wire at w d ≡ Err e → WholeWireFault w at d e
unfolding as_wire
whole_fault at w d e h = by d.track d.ends.net refl refl h
  where
    by : (o : Option Track) (p : Option ℕ) → d.track ≡ o → d.ends.net ≡ p → wire_with at w o p d.ends.fix ≡ Err e → WholeWireFault w at d e
    by None p a b h = inl (inl a, cc)
    by (Some t) None a b h = inl (inr b, cc)
    by (Some t) (Some n) a b h =
        let full = put_fault at w (wire_made t n d.ends.fix) (length t.points) e h in
        inr (some_on d.ends.net n b, subst (NoQuotaFor w) (sym a) full.0, full.1)

whole_fault_again : (at : ℕ) (w : Wiring) (d : Draft) (e : DesignFault) → WholeWireFault w at d e → as_wire at w d ≡ Err e
unfolding as_wire
whole_fault_again at w d e h = by d.track d.ends.net h
  where
    by : (o : Option Track) (p : Option ℕ) → ((((o ≡ None) ⊎ (p ≡ None)) × (e ≡ told kind.Missing at)) ⊎ ((is_some p ≡ true) × NoQuotaFor w o × (e ≡ told kind.Large at))) → wire_with at w o p d.ends.fix ≡ Err e
    by None p (inl h) = ap failed (sym h.1)
    by None p (inr h) = absurd h.1
    by (Some t) None (inl h) = ap failed (sym h.1)
    by (Some t) None (inr h) = absurd (let none = h.0 in cc)
    by (Some t) (Some n) (inl h) = lacking h.0
      where
        lacking : (Some t ≡ None) ⊎ (Some n ≡ None) → wire_with at w (Some t) (Some n) d.ends.fix ≡ Err e
        lacking (inl a) = absurd cc
        lacking (inr a) = absurd cc
    by (Some t) (Some n) (inr h) = put_fault_again at w (wire_made t n d.ends.fix) (length t.points) e h.1 h.2

abbrev wired : List (List ℕ) → Wiring → Netted Wiring
wired nets w = netted nets w

draft_is : (d : Draft) (t : Track) (net : ℕ) → d.track ≡ Some t → d.ends.net ≡ Some net → d ≡ record { ends = record { net = Some net; fix = d.ends.fix }; track = Some t }
draft_is d t net a b =
    ap (λ (o : Option Track). record { ends = d.ends; track = o }) a
    ∙ ap (λ (o : Option ℕ). record { ends = record { net = o; fix = d.ends.fix }; track = Some t }) b

pub wire_found : (u : LengthUnit) (layers : List (List ℕ)) (x : Netted Wiring) (at : ℕ) (f : Forest) (y : Netted Wiring) → length x.nets ≤ 100000 → wire_of u layers x at f ≡ Ok y
    → (t : Track) × (net : ℕ) × (fix : Option Bool) × IsOneWire u layers y.nets x f (wire_made t net fix) (length t.points) y
unfolding wire_of
wire_found u layers x at f y few e =
    let d = bind_ok (each (wire_item u layers) (netted x.nets no_draft) f) (λ d. as_wire at x.it d.it >>= λ w. made (wired d.nets w)) y e in
    let w = bind_ok (as_wire at x.it d.0.it) (λ w. made (wired d.0.nets w)) y d.2 in
    let lists = lists_found u layers x.nets f d.0 few d.1 in
    let h = whole_found at x.it d.0.it w.0 w.1 in
    let draft = subst (IsDraft u layers d.0.nets f) (draft_is d.0.it h.track h.net h.has_track h.has_net) lists.draft in (
      h.track,
      h.net,
      d.0.it.ends.fix,
      subst (λ (z : Netted Wiring). IsOneWire u layers z.nets x f (wire_made h.track h.net d.0.it.ends.fix) (length h.track.points) z) (ok_is (wired d.0.nets w.0) y w.2)
          (record { nets = lists.nets_are; few = lists.few; wire = record { track = h.track; net = h.net; fix = d.0.it.ends.fix; draft = draft; is = refl }; put = h.put }),
    )

pub wire_again : (u : LengthUnit) (layers final : List (List ℕ)) (x : Netted Wiring) (at : ℕ) (f : Forest) (t : Track) (net : ℕ) (fix : Option Bool) (y : Netted Wiring) → Grows y.nets final
    → y.nets ≡ with_names x.nets (collect names_in f) → length y.nets ≤ 100000 → IsDraft u layers final f (record { ends = record { net = Some net; fix = fix }; track = Some t })
    → IsPut x.it (wire_made t net fix) (length t.points) y.it → wire_of u layers x at f ≡ Ok y
unfolding wire_of
wire_again u layers final x at f t net fix y grows all few draft put =
    let d : Draft = record { ends = record { net = Some net; fix = fix }; track = Some t } in
    rw (lists_later u layers x.nets final f (netted y.nets d) all few grows draft, whole_again at x.it t net fix y.it put) refl

pub wire_fault : (u : LengthUnit) (layers : List (List ℕ)) (x : Netted Wiring) (at : ℕ) (f : Forest) (e : DesignFault) → length x.nets ≤ 100000 → wire_of u layers x at f ≡ Err e → WireFault u layers x at f e
unfolding wire_of
wire_fault u layers x at f e few h =
    elim (bind_err (each (wire_item u layers) (netted x.nets no_draft) f) (λ d. as_wire at x.it d.it >>= λ w. made (wired d.nets w)) e h) [
      | inl here ↦ inl (lists_fault u layers x.nets f e few here)
      | inr later ↦ elim (bind_err (as_wire at x.it later.0.it) (λ w. made (wired later.0.nets w)) e later.2) [
        | inl whole ↦ inr (later.0, lists_found u layers x.nets f later.0 few later.1, whole_fault at x.it later.0.it e whole)
        | inr none ↦ absurd cc
      ]
    ]

pub wire_fault_again : (u : LengthUnit) (layers : List (List ℕ)) (x : Netted Wiring) (at : ℕ) (f : Forest) (e : DesignFault) → WireFault u layers x at f e → wire_of u layers x at f ≡ Err e
unfolding wire_of
wire_fault_again u layers x at f e (inl here) = rw (lists_fault_again u layers x.nets f e here) refl
wire_fault_again u layers x at f e (inr whole) = rw (lists_again u layers x.nets f whole.0 whole.1, whole_fault_again at x.it whole.0.it e whole.2) refl
