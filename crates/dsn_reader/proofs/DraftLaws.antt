-- The lists of a wire are read exactly where they can stand together, and their first fault is the one that is told.
use Rattle.std.proofs.Common.{◌≡◌, ℕ, ◌≤◌, Bool, true, List, length, Option, Ok, Err, refl, sym, ap, subst, ◌∙◌, arith}
use Rattle.sexp_text.specs.Forest.{Forest, End, Word, Branch}
use Rattle.sexp_text.specs.declared.units.Unit.{Unit as LengthUnit}
use Rattle.dsn_lists.specs.declared.faults.DesignFault.{DesignFault}
use Rattle.dsn_lists.specs.Results.{each}
use Rattle.dsn_lists.specs.Words.{head_of}
use Rattle.dsn_lists.specs.Lists.{collect, Every, IsFirst}
use Rattle.dsn_lists.specs.ShortLists.{only_lists}
use Rattle.dsn_lists.proofs.Firsts.{made, ok_is, bind_ok}
use Rattle.dsn_reader.specs.declared.wires.Draft.{Draft}
use Rattle.dsn_reader.specs.Wirings.{Netted, netted, wire_word, wire_item, no_draft}
use Rattle.dsn_reader.specs.TrackLists.{IsTrack}
use Rattle.dsn_reader.specs.EndLists.{with_names, nets_in, names_in, types_in, IsNet, IsType}
use Rattle.dsn_reader.specs.WireLists.{IsWireList, paths_in, IsDraft, HasDraft, OfWireFault, WireListFault}
use Rattle.dsn_lists.proofs.Growing.{Grows, grows_same, grows_then}
use Rattle.dsn_reader.proofs.NetLaws.{grows_with, with-append, long_with}
use Rattle.dsn_reader.proofs.OnceLaws.{Behind, behind_stay, behind_none, behind_join, behind_split, behind_map, net_grows}
use Rattle.dsn_reader.proofs.EndLaws.{firsts_found, firsts_again}
use Rattle.dsn_reader.proofs.WireListLaws.{IsDraftStep, draft_found, drafts_are, draft_again, draft_fault, draft_fault_again}

-- ---- all lists

-- lists of a wire behind others, with the names of the nets at the end
pub record AreDraftSteps (u : LengthUnit) (layers final : List (List ℕ)) (x : Netted Draft) (f : Forest) (y : Netted Draft) : Type 0 where
  pub formed : Every IsWireList f
  pub lists : only_lists f ≡ true
  pub nets : y.nets ≡ with_names x.nets (collect names_in f)
  pub few : length y.nets ≤ 100000
  pub track : Behind (IsTrack u layers) x.it.track (collect paths_in f) y.it.track
  pub net : Behind (IsNet final) x.it.ends.net (collect nets_in f) y.it.ends.net
  pub fix : Behind IsType x.it.ends.fix (collect types_in f) y.it.ends.fix

no_drafts : (u : LengthUnit) (layers : List (List ℕ)) (x : Netted Draft) → length x.nets ≤ 100000 → AreDraftSteps u layers x.nets x End x
no_drafts u layers x few = record {
  formed = tt;
  lists = refl;
  nets = refl;
  few = few;
  track = behind_stay (IsTrack u layers) x.it.track;
  net = behind_stay (IsNet x.nets) x.it.ends.net;
  fix = behind_stay IsType x.it.ends.fix;
}

drafts_found : (u : LengthUnit) (layers : List (List ℕ)) (f : Forest) (x y : Netted Draft) → length x.nets ≤ 100000 → each (wire_item u layers) x f ≡ Ok y → AreDraftSteps u layers y.nets x f y
unfolding each wire_item
drafts_found u layers End x y few e = subst (λ (z : Netted Draft). AreDraftSteps u layers z.nets x End z) (ok_is x y e) (no_drafts u layers x few)
drafts_found u layers (Word at text rest) x y few e = absurd cc
drafts_found u layers (Branch at inside rest) x y few e =
    let m = bind_ok (wire_item u layers x at inside) (λ y. each (wire_item u layers) y rest) y e in
    let one = draft_found u layers x at inside (wire_word (head_of inside).text) m.0 refl few m.1 in
    let more = drafts_found u layers rest m.0 y one.ends.few m.2 in
    let grows : Grows m.0.nets y.nets = subst (λ (xs : List (List ℕ)). Grows m.0.nets xs) (sym more.nets) (grows_with (collect names_in rest) m.0.nets) in
    let here = behind_map (IsNet m.0.nets) (IsNet y.nets) x.it.ends.net m.0.it.ends.net (nets_in at inside) (net_grows m.0.nets y.nets grows) one.ends.net in
    record {
      formed = (one.formed, more.formed);
      lists = more.lists;
      nets = more.nets ∙ ap (λ (xs : List (List ℕ)). with_names xs (collect names_in rest)) one.ends.nets ∙ sym (with-append (names_in at inside) (collect names_in rest) x.nets);
      few = more.few;
      track = behind_join (IsTrack u layers) x.it.track m.0.it.track y.it.track (paths_in at inside) (collect paths_in rest) one.track more.track;
      net = behind_join (IsNet y.nets) x.it.ends.net m.0.it.ends.net y.it.ends.net (nets_in at inside) (collect nets_in rest) here more.net;
      fix = behind_join IsType x.it.ends.fix m.0.it.ends.fix y.it.ends.fix (types_in at inside) (collect types_in rest) one.ends.fix more.fix;
    }

same_draft : (u : LengthUnit) (layers final : List (List ℕ)) (x y : Netted Draft) → AreDraftSteps u layers final x End y → x ≡ y
same_draft u layers final x y s =
    let net = behind_none (IsNet final) x.it.ends.net y.it.ends.net s.net in
    let fix = behind_none IsType x.it.ends.fix y.it.ends.fix s.fix in
    let e : y.it.ends ≡ x.it.ends = ap (λ (n : Option ℕ). record { net = n; fix = y.it.ends.fix }) net ∙ ap (λ (b : Option Bool). record { net = x.it.ends.net; fix = b }) fix in
    drafts_are x.nets x.it.ends x.it.track y s.nets e (behind_none (IsTrack u layers) x.it.track y.it.track s.track)

drafts_again : (u : LengthUnit) (layers final : List (List ℕ)) (f : Forest) (x y : Netted Draft) → Grows y.nets final → AreDraftSteps u layers final x f y → each (wire_item u layers) x f ≡ Ok y
unfolding each wire_item
drafts_again u layers final End x y grows s = ap made (same_draft u layers final x y s)
drafts_again u layers final (Word at text rest) x y grows s = absurd s.formed
drafts_again u layers final (Branch at inside rest) x y grows s =
    let track = behind_split (IsTrack u layers) x.it.track y.it.track (paths_in at inside) (collect paths_in rest) s.track in
    let net = behind_split (IsNet final) x.it.ends.net y.it.ends.net (nets_in at inside) (collect nets_in rest) s.net in
    let fix = behind_split IsType x.it.ends.fix y.it.ends.fix (types_in at inside) (collect types_in rest) s.fix in
    let middle = with_names x.nets (names_in at inside) in
    let all : y.nets ≡ with_names middle (collect names_in rest) = s.nets ∙ with-append (names_in at inside) (collect names_in rest) x.nets in
    let m : Netted Draft = netted middle (record { ends = record { net = net.0; fix = fix.0 }; track = track.0 }) in
    let long = long_with (collect names_in rest) middle in
    let few = s.few in
    let same_length = ap length all in
    let first : IsDraftStep u layers final x inside (wire_word (head_of inside).text) m = record {
      formed = s.formed.0;
      track = track.1;
      ends = record { nets = refl; few = omega (arith, long, few, same_length); net = net.1; fix = fix.1 };
    } in
    let grows_first : Grows middle final = grows_then middle y.nets final (subst (λ (xs : List (List ℕ)). Grows middle xs) (sym all) (grows_with (collect names_in rest) middle)) grows in
    let others : AreDraftSteps u layers final m rest y = record { formed = s.formed.1; lists = s.lists; nets = all; few = s.few; track = track.2; net = net.2; fix = fix.2 } in
    rw (draft_again u layers final x at inside (wire_word (head_of inside).text) m refl grows_first first) (drafts_again u layers final rest m y grows others)

pub lists_found : (u : LengthUnit) (layers nets : List (List ℕ)) (f : Forest) (y : Netted Draft) → length nets ≤ 100000 → each (wire_item u layers) (netted nets no_draft) f ≡ Ok y → HasDraft u layers nets f y
lists_found u layers nets f y few e =
    let s = drafts_found u layers f (netted nets no_draft) y few e in
    record { nets_are = s.nets; few = s.few; draft = record { formed = s.formed; track = s.track; ends = record { lists = s.lists; net = s.net; fix = s.fix } } }

-- with the names of the nets at the end
pub lists_later : (u : LengthUnit) (layers nets final : List (List ℕ)) (f : Forest) (y : Netted Draft) → y.nets ≡ with_names nets (collect names_in f) → length y.nets ≤ 100000 → Grows y.nets final → IsDraft u layers final f y.it
    → each (wire_item u layers) (netted nets no_draft) f ≡ Ok y
lists_later u layers nets final f y all few grows h =
    drafts_again u layers final f (netted nets no_draft) y grows (record { formed = h.formed; lists = h.ends.lists; nets = all; few = few; track = h.track; net = h.ends.net; fix = h.ends.fix })

pub lists_again : (u : LengthUnit) (layers nets : List (List ℕ)) (f : Forest) (y : Netted Draft) → HasDraft u layers nets f y → each (wire_item u layers) (netted nets no_draft) f ≡ Ok y
lists_again u layers nets f y h = lists_later u layers nets y.nets f y h.nets_are h.few (grows_same y.nets) h.draft

abbrev OfWire : LengthUnit → List (List ℕ) → Netted Draft → ℕ → Forest → DesignFault → Type 0
OfWire u layers x at inside e = OfWireFault u layers x at (head_of inside) (wire_word (head_of inside).text) e

abbrev FirstOfWire : LengthUnit → List (List ℕ) → List (List ℕ) → Forest → DesignFault → Type 0
FirstOfWire u layers nets f e = IsFirst (λ f. (d : Netted Draft) × HasDraft u layers nets f d) (WireListFault u layers nets) f e

item_fault : (u : LengthUnit) (layers : List (List ℕ)) (x : Netted Draft) (at : ℕ) (inside : Forest) (e : DesignFault) → wire_item u layers x at inside ≡ Err e → OfWire u layers x at inside e
unfolding wire_item
item_fault u layers x at inside e h = draft_fault u layers x at inside (wire_word (head_of inside).text) e h

item_fault_again : (u : LengthUnit) (layers : List (List ℕ)) (x : Netted Draft) (at : ℕ) (inside : Forest) (e : DesignFault) → OfWire u layers x at inside e → wire_item u layers x at inside ≡ Err e
unfolding wire_item
item_fault_again u layers x at inside e h = draft_fault_again u layers x at inside (wire_word (head_of inside).text) e h

pub lists_fault : (u : LengthUnit) (layers nets : List (List ℕ)) (f : Forest) (e : DesignFault) → length nets ≤ 100000 → each (wire_item u layers) (netted nets no_draft) f ≡ Err e → FirstOfWire u layers nets f e
lists_fault u layers nets f e few h =
    firsts_found (wire_item u layers) (netted nets no_draft) (HasDraft u layers nets) (OfWire u layers) (λ f y k. lists_found u layers nets f y few k) (λ f y at inside e has k. item_fault u layers y at inside e k) f e h

pub lists_fault_again : (u : LengthUnit) (layers nets : List (List ℕ)) (f : Forest) (e : DesignFault) → FirstOfWire u layers nets f e → each (wire_item u layers) (netted nets no_draft) f ≡ Err e
lists_fault_again u layers nets f e h =
    firsts_again (wire_item u layers) (netted nets no_draft) (HasDraft u layers nets) (OfWire u layers) (lists_again u layers nets) (λ f y at inside e has k. item_fault_again u layers y at inside e k) f e h
