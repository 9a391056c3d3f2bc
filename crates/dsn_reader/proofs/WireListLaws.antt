-- One list of a wire is read as it has to be, and its fault is the one that is told.
use Rattle.std.proofs.Common.{◌≡◌, ℕ, ◌≤◌, Bool, true, false, cond, List, codes, length, Option, Some, None, Ok, Err, refl, sym, ap, subst, ◌∙◌, inl, inr}
use Rattle.std.specs.Prelude.{is_some}
use Rattle.std.specs.Str.{bytes_eq}
use Rattle.sexp_text.specs.Forest.{Forest}
use Rattle.sexp_text.specs.declared.units.Unit.{Unit as LengthUnit}
use Rattle.dsn_lists.specs.declared.faults.DesignFault.{DesignFault}
use Rattle.dsn_lists.specs.declared.faults.DesignKind.TheVariants as kind
use Rattle.dsn_lists.specs.Results.{Read, ◌>>=◌, wrong}
use Rattle.dsn_lists.specs.Words.{same, head_of}
use Rattle.dsn_lists.specs.Lists.{told}
use Rattle.dsn_lists.proofs.Firsts.{made, failed, ok_is, bind_ok, bind_err, guard_ok, guard_err}
use Rattle.dsn_lists.proofs.TypeWords.{lower, lower_same}
use Rattle.dsn_reader.specs.declared.ends.Ends.{Ends}
use Rattle.dsn_reader.specs.declared.ends.EndWord.{EndWord}
use Rattle.dsn_reader.specs.declared.ends.EndWord.TheVariants as ends
use Rattle.dsn_reader.specs.declared.wires.Track.{Track}
use Rattle.dsn_reader.specs.declared.wires.Draft.{Draft}
use Rattle.dsn_reader.specs.declared.wires.WireWord.{WireWord}
use Rattle.dsn_reader.specs.declared.wires.WireWord.TheVariants as wires
use Rattle.dsn_reader.specs.Wirings.{Netted, netted, track_of, path_once, wire_word, with_ends, wire_list, end_word, end_item}
use Rattle.dsn_reader.specs.TrackLists.{IsTrack}
use Rattle.dsn_reader.specs.EndLists.{IsNet, IsType}
use Rattle.dsn_reader.specs.WireLists.{MayStand, path_args, OfWireFault}
use Rattle.dsn_lists.proofs.Growing.{Grows}
use Rattle.dsn_reader.proofs.TrackLaws.{track_found, track_again, track_fault, track_fault_again}
use Rattle.dsn_reader.proofs.OnceLaws.{Behind, behind_stay, behind_none, behind_new, behind_one}
use Rattle.dsn_reader.proofs.EndListLaws.{IsStep, step_found, step_again, step_fault, step_fault_again}

-- ---- a path is no net and no type

only_path : (a b c d e f : Bool) → cond a wires.Path (cond b wires.Shape (cond c wires.Shape (cond d wires.Shape (cond e wires.Arc (cond f wires.Polyline wires.End))))) ≡ wires.Path → a ≡ true
only_path true b c d e f h = refl
only_path false true c d e f h = absurd cc
only_path false false true d e f h = absurd cc
only_path false false false true e f h = absurd cc
only_path false false false false true f h = absurd cc
only_path false false false false false true h = absurd cc
only_path false false false false false false h = absurd cc

is_path : (text : List ℕ) → wire_word text ≡ wires.Path → same text (codes "path") ≡ true
unfolding wire_word
is_path text h =
    only_path (same text (codes "path")) (same text (codes "rect")) (same text (codes "circle")) (same text (codes "polygon")) (same text (codes "qarc")) (same text (codes "polyline_path")) h

no_net : (text : List ℕ) → lower text ≡ lower (codes "path") → same text (codes "net") ≡ false
unfolding same
no_net text h = ap (λ (xs : List ℕ). bytes_eq xs (lower (codes "net"))) h

no_type : (text : List ℕ) → lower text ≡ lower (codes "path") → same text (codes "type") ≡ false
unfolding same
no_type text h = ap (λ (xs : List ℕ). bytes_eq xs (lower (codes "type"))) h

path_ends : (text : List ℕ) → wire_word text ≡ wires.Path → end_word text ≡ ends.Other
unfolding end_word
path_ends text h = let low = lower_same text (codes "path") (is_path text h) in rw (no_net text low, no_type text low) refl

-- ---- one list

-- a list of a wire behind others, with the names of the nets at the end
pub record IsDraftStep (u : LengthUnit) (layers final : List (List ℕ)) (x : Netted Draft) (inside : Forest) (k : WireWord) (y : Netted Draft) : Type 0 where
  pub formed : MayStand k
  pub track : Behind (IsTrack u layers) x.it.track (path_args k (head_of inside).args) y.it.track
  pub ends : IsStep final (netted x.nets x.it.ends) (end_word (head_of inside).text) (head_of inside).args (netted y.nets y.it.ends)

track_none : (o : Option Track) → is_some o ≡ false → o ≡ None
track_none None e = refl
track_none (Some x) e = absurd cc

no_step : (final : List (List ℕ)) (x : Netted Ends) (k : EndWord) (f : Forest) → k ≡ ends.Other → length x.nets ≤ 100000 → IsStep final x k f x
no_step final x k f e few =
    subst (λ (k : EndWord). IsStep final x k f x) (sym e) (record { nets = refl; few = few; net = behind_stay (IsNet final) x.it.net; fix = behind_stay IsType x.it.fix })

pub draft_found : (u : LengthUnit) (layers : List (List ℕ)) (x : Netted Draft) (at : ℕ) (inside : Forest) (k : WireWord) (y : Netted Draft) → wire_word (head_of inside).text ≡ k → length x.nets ≤ 100000
    → wire_list u layers x at inside k ≡ Ok y → IsDraftStep u layers y.nets x inside k y
unfolding path_once end_item
draft_found u layers x at inside wires.Path y is few e =
    let d = bind_ok (path_once u layers x.it at (head_of inside).args) (λ d. made (netted x.nets d)) y e in
    let g = guard_ok (is_some x.it.track) (told kind.Form at) (track_of u layers at (head_of inside).args >>= λ t. made (record x.it { track = Some t })) d.0 d.1 in
    let t = bind_ok (track_of u layers at (head_of inside).args) (λ t. made (record x.it { track = Some t })) d.0 g.1 in
    let same = ap (λ (z : Draft). netted x.nets z) (ok_is (record x.it { track = Some t.0 }) d.0 t.2) ∙ ok_is (netted x.nets d.0) y d.2 in
    subst (λ (z : Netted Draft). IsDraftStep u layers z.nets x inside wires.Path z) same (record {
      formed = tt;
      track = behind_new (IsTrack u layers) x.it.track (head_of inside).args t.0 (track_none x.it.track g.0) (track_found u layers at (head_of inside).args t.0 t.1);
      ends = no_step x.nets (netted x.nets x.it.ends) (end_word (head_of inside).text) (head_of inside).args (path_ends (head_of inside).text is) few;
    })
draft_found u layers x at inside wires.Shape y is few e = absurd cc
draft_found u layers x at inside wires.Arc y is few e = absurd cc
draft_found u layers x at inside wires.Polyline y is few e = absurd cc
draft_found u layers x at inside wires.End y is few e =
    let n = bind_ok (end_item (netted x.nets x.it.ends) at inside) (λ z. made (with_ends x.it z)) y e in
    subst (λ (z : Netted Draft). IsDraftStep u layers z.nets x inside wires.End z) (ok_is (with_ends x.it n.0) y n.2) (record {
      formed = tt;
      track = behind_stay (IsTrack u layers) x.it.track;
      ends = step_found (netted x.nets x.it.ends) at (head_of inside) (end_word (head_of inside).text) n.0 few n.1;
    })

pub drafts_are : (a : List (List ℕ)) (e : Ends) (t : Option Track) (y : Netted Draft) → y.nets ≡ a → y.it.ends ≡ e → y.it.track ≡ t → netted a (record { ends = e; track = t }) ≡ y
drafts_are a e t y p q r =
    ap (λ (xs : List (List ℕ)). netted xs (record { ends = e; track = t })) (sym p)
    ∙ ap (λ (z : Ends). netted y.nets (record { ends = z; track = t })) (sym q)
    ∙ ap (λ (o : Option Track). netted y.nets (record { ends = y.it.ends; track = o })) (sym r)

ends_same : (final : List (List ℕ)) (x y : Netted Ends) (k : EndWord) (f : Forest) → k ≡ ends.Other → IsStep final x k f y → (y.nets ≡ x.nets) × (y.it ≡ x.it)
ends_same final x y k f e s =
    let o = subst (λ (k : EndWord). IsStep final x k f y) e s in
    let net = behind_none (IsNet final) x.it.net y.it.net o.net in
    let fix = behind_none IsType x.it.fix y.it.fix o.fix in
    (o.nets, ap (λ (n : Option ℕ). record { net = n; fix = y.it.fix }) net ∙ ap (λ (b : Option Bool). record { net = x.it.net; fix = b }) fix)

pub draft_again : (u : LengthUnit) (layers final : List (List ℕ)) (x : Netted Draft) (at : ℕ) (inside : Forest) (k : WireWord) (y : Netted Draft) → wire_word (head_of inside).text ≡ k → Grows y.nets final
    → IsDraftStep u layers final x inside k y → wire_list u layers x at inside k ≡ Ok y
unfolding path_once end_item
draft_again u layers final x at inside wires.Path y is grows s =
    let t = behind_one (IsTrack u layers) x.it.track y.it.track (head_of inside).args s.track in
    let e = ends_same final (netted x.nets x.it.ends) (netted y.nets y.it.ends) (end_word (head_of inside).text) (head_of inside).args (path_ends (head_of inside).text is) s.ends in
    ap (λ (o : Option Track). cond (is_some o) (wrong kind.Form at) (track_of u layers at (head_of inside).args >>= λ t. made (record x.it { track = Some t })) >>= λ d. made (netted x.nets d)) t.0
    ∙ ap (λ (r : Read Track). (r >>= λ t. made (record x.it { track = Some t })) >>= λ d. made (netted x.nets d)) (track_again u layers at (head_of inside).args t.1.0 t.1.1)
    ∙ ap made (drafts_are x.nets x.it.ends (Some t.1.0) y e.0 e.1 t.1.2)
draft_again u layers final x at inside wires.Shape y is grows s = absurd s.formed
draft_again u layers final x at inside wires.Arc y is grows s = absurd s.formed
draft_again u layers final x at inside wires.Polyline y is grows s = absurd s.formed
draft_again u layers final x at inside wires.End y is grows s =
    let track = behind_none (IsTrack u layers) x.it.track y.it.track s.track in
    ap (λ (r : Read (Netted Ends)). r >>= λ z. made (with_ends x.it z)) (step_again final (netted x.nets x.it.ends) at (head_of inside) (end_word (head_of inside).text) (netted y.nets y.it.ends) grows s.ends)
    ∙ ap made (drafts_are y.nets y.it.ends x.it.track y refl refl track)

pub draft_fault : (u : LengthUnit) (layers : List (List ℕ)) (x : Netted Draft) (at : ℕ) (inside : Forest) (k : WireWord) (e : DesignFault) → wire_list u layers x at inside k ≡ Err e → OfWireFault u layers x at (head_of inside) k e
unfolding path_once end_item
draft_fault u layers x at inside wires.Path e is =
    elim (bind_err (path_once u layers x.it at (head_of inside).args) (λ d. made (netted x.nets d)) e is) [
      | inl here ↦ elim (guard_err (is_some x.it.track) (told kind.Form at) (track_of u layers at (head_of inside).args >>= λ t. made (record x.it { track = Some t })) e here) [
        | inl second ↦ inl second
        | inr first ↦ elim (bind_err (track_of u layers at (head_of inside).args) (λ t. made (record x.it { track = Some t })) e first.1) [
          | inl own ↦ inr (track_none x.it.track first.0, track_fault u layers at (head_of inside).args e own)
          | inr none ↦ absurd cc
        ]
      ]
      | inr later ↦ absurd cc
    ]
draft_fault u layers x at inside wires.Shape e is = cc
draft_fault u layers x at inside wires.Arc e is = cc
draft_fault u layers x at inside wires.Polyline e is = cc
draft_fault u layers x at inside wires.End e is =
    elim (bind_err (end_item (netted x.nets x.it.ends) at inside) (λ z. made (with_ends x.it z)) e is) [
      | inl here ↦ step_fault (netted x.nets x.it.ends) at (head_of inside) (end_word (head_of inside).text) e here
      | inr later ↦ absurd cc
    ]

pub draft_fault_again : (u : LengthUnit) (layers : List (List ℕ)) (x : Netted Draft) (at : ℕ) (inside : Forest) (k : WireWord) (e : DesignFault) → OfWireFault u layers x at (head_of inside) k e → wire_list u layers x at inside k ≡ Err e
unfolding path_once end_item
draft_fault_again u layers x at inside wires.Path e (inl second) = rw (second.0, second.1) refl
draft_fault_again u layers x at inside wires.Path e (inr first) =
    ap (λ (o : Option Track). cond (is_some o) (wrong kind.Form at) (track_of u layers at (head_of inside).args >>= λ t. made (record x.it { track = Some t })) >>= λ d. made (netted x.nets d)) first.0
    ∙ rw (track_fault_again u layers at (head_of inside).args e first.1) refl
draft_fault_again u layers x at inside wires.Shape e is = ap failed (sym is)
draft_fault_again u layers x at inside wires.Arc e is = ap failed (sym is)
draft_fault_again u layers x at inside wires.Polyline e is = ap failed (sym is)
draft_fault_again u layers x at inside wires.End e is = rw (step_fault_again (netted x.nets x.it.ends) at (head_of inside) (end_word (head_of inside).text) e is) refl
