-- What the lists of a design state is what is read, and their first fault is the one that is told.
use Rattle.std.proofs.Common.{◌≡◌, ℕ, List, [], ◌∷◌, ◌++◌, map, Option, Some, Ok, Err, refl, sym, ap, subst, ◌∙◌, inl, inr}
use Rattle.std.proofs.lemmas.List.{map-append}
use Rattle.sexp_text.specs.Forest.{Forest, End, Word, Branch}
use Rattle.sexp_text.specs.declared.units.Unit.{Unit as LengthUnit}
use Rattle.dsn_lists.specs.declared.faults.DesignFault.{DesignFault}
use Rattle.dsn_lists.specs.declared.faults.DesignKind.TheVariants as kind
use Rattle.dsn_lists.specs.declared.pcb.Section.{Section}
use Rattle.dsn_lists.specs.declared.pcb.Seen.{Seen}
use Rattle.dsn_lists.specs.declared.pcb.Frame.{Frame}
use Rattle.dsn_lists.specs.declared.pcb.PcbWord.{PcbWord}
use Rattle.dsn_lists.specs.declared.pcb.PcbWord.TheVariants as words
use Rattle.dsn_lists.specs.Results.{Read, ◌>>=◌, each}
use Rattle.dsn_lists.specs.Words.{Heading, head_of}
use Rattle.dsn_lists.specs.Units.{unit_list}
use Rattle.dsn_lists.specs.Pcbs.{resolution_list, has, with, pcb_word, pcb_list, pcb_item, no_frame}
use Rattle.dsn_lists.specs.Lists.{collect, Every, last_of, told, IsFirst}
use Rattle.dsn_lists.specs.Titles.{IsOfPcb, IsPcbList, unit_of_list, pcb_units, resolution_of_list, resolutions_in, section_of_list, sections_in, stands, ArePcbLists, OfPcbFault, PcbListFault}
use Rattle.dsn_lists.proofs.Firsts.{made, ok_is, bind_ok, bind_err, guard_ok, guard_err, first_found, first_again}
use Rattle.dsn_lists.proofs.UnitLaws.{last-append, unit_found, unit_again, unit_fault, unit_fault_again}
use Rattle.dsn_lists.proofs.SeenLaws.{seen_with, seen_more, seen_is, AreNew, new_join, new_cut, once_of_new, new_of_once}
use Rattle.dsn_lists.proofs.ResolutionLaws.{resolution_found, resolution_again, resolution_fault, resolution_fault_again}

-- ---- one list

-- the frame with these units, resolutions and sections behind it
abbrev adding : Frame → List LengthUnit → List LengthUnit → List Section → Frame
adding fr us rs ss = record { unit = last_of fr.unit (map Some us); resolution = last_of fr.resolution (map Some rs); seen = seen_with fr.seen ss }

last_more : (o : Option LengthUnit) (us vs : List LengthUnit) → last_of (last_of o (map Some us)) (map Some vs) ≡ last_of o (map Some (us ++ vs))
last_more o us vs = sym (last-append o (map Some us) (map Some vs)) ∙ ap (λ (os : List (Option LengthUnit)). last_of o os) (sym (map-append Some us vs))

adding_more : (fr : Frame) (us vs rs qs : List LengthUnit) (ss ts : List Section) → adding (adding fr us rs ss) vs qs ts ≡ adding fr (us ++ vs) (rs ++ qs) (ss ++ ts)
adding_more fr us vs rs qs ss ts = λ i. record { unit = last_more fr.unit us vs i; resolution = last_more fr.resolution rs qs i; seen = seen_more fr.seen ss ts i }

adding_unit : (fr : Frame) (u : LengthUnit) (us : List LengthUnit) → us ≡ u ∷ [] → record fr { unit = Some u } ≡ adding fr us [] []
adding_unit fr u us e = λ i. record fr { unit = last_of fr.unit (map Some (sym e i)) }

adding_resolution : (fr : Frame) (u : LengthUnit) (rs : List LengthUnit) → rs ≡ u ∷ [] → record fr { resolution = Some u } ≡ adding fr [] rs []
adding_resolution fr u rs e = λ i. record fr { resolution = last_of fr.resolution (map Some (sym e i)) }

-- the frame behind one list
abbrev next : Frame → PcbWord → Forest → Frame
next fr k f = adding fr (unit_of_list k f) (resolution_of_list k f) (section_of_list k)

one_found : (fr : Frame) (at : ℕ) (h : Heading) (k : PcbWord) (gr : Frame) → pcb_list fr at h k ≡ Ok gr → IsOfPcb k h.args × (gr ≡ next fr k h.args) × AreNew fr.seen (section_of_list k)
one_found fr at h words.Unit gr e =
    let u = bind_ok (unit_list at h.args) (λ u. made (record fr { unit = Some u })) gr e in
    let v = unit_found at h.args u.0 u.1 in
    (v.0, sym (ok_is (record fr { unit = Some u.0 }) gr u.2) ∙ adding_unit fr u.0 _ v.1, tt)
one_found fr at h words.Resolution gr e =
    let u = bind_ok (resolution_list at h.args) (λ u. made (record fr { resolution = Some u })) gr e in
    let v = resolution_found at h.args u.0 u.1 in
    (v.0, sym (ok_is (record fr { resolution = Some u.0 }) gr u.2) ∙ adding_resolution fr u.0 _ v.1, tt)
one_found fr at h (words.Part s) gr e =
    let g = guard_ok (has fr.seen s) (told kind.Twice h.at) (made (record fr { seen = with fr.seen s })) gr e in
    (tt, sym (ok_is (record fr { seen = with fr.seen s }) gr g.1), (g.0, tt))
one_found fr at h words.Other gr e = (tt, sym (ok_is fr gr e), tt)

one_again : (fr : Frame) (at : ℕ) (h : Heading) (k : PcbWord) → IsOfPcb k h.args → AreNew fr.seen (section_of_list k) → pcb_list fr at h k ≡ Ok (next fr k h.args)
one_again fr at h words.Unit formed new =
    let u = unit_again at h.args formed in
    let v = unit_found at h.args u.0 u.1 in
    ap (λ (x : Read LengthUnit). x >>= λ u. made (record fr { unit = Some u })) u.1 ∙ ap made (adding_unit fr u.0 _ v.1)
one_again fr at h words.Resolution formed new =
    let u = resolution_again at h.args formed in
    ap (λ (x : Read LengthUnit). x >>= λ u. made (record fr { resolution = Some u })) u.1 ∙ ap made (adding_resolution fr u.0 _ u.2)
one_again fr at h (words.Part s) formed new = rw new.0 refl
one_again fr at h words.Other formed new = refl

one_fault : (fr : Frame) (ss : List Section) (at : ℕ) (h : Heading) (k : PcbWord) (e : DesignFault) → ((s : Section) → has fr.seen s ≡ stands s ss) → pcb_list fr at h k ≡ Err e → OfPcbFault ss at h k e
one_fault fr ss at h words.Unit e seen k =
    elim (bind_err (unit_list at h.args) (λ u. made (record fr { unit = Some u })) e k) [
      | inl here ↦ unit_fault at h.args e here
      | inr later ↦ absurd cc
    ]
one_fault fr ss at h words.Resolution e seen k =
    elim (bind_err (resolution_list at h.args) (λ u. made (record fr { resolution = Some u })) e k) [
      | inl here ↦ resolution_fault at h.args e here
      | inr later ↦ absurd cc
    ]
one_fault fr ss at h (words.Part s) e seen k =
    elim (guard_err (has fr.seen s) (told kind.Twice h.at) (made (record fr { seen = with fr.seen s })) e k) [
      | inl again ↦ (sym (seen s) ∙ again.0, again.1)
      | inr new ↦ absurd cc
    ]
one_fault fr ss at h words.Other e seen k = absurd cc

one_fault_again : (fr : Frame) (ss : List Section) (at : ℕ) (h : Heading) (k : PcbWord) (e : DesignFault) → ((s : Section) → has fr.seen s ≡ stands s ss) → OfPcbFault ss at h k e → pcb_list fr at h k ≡ Err e
one_fault_again fr ss at h words.Unit e seen k = rw (unit_fault_again at h.args e k) refl
one_fault_again fr ss at h words.Resolution e seen k = rw (resolution_fault_again at h.args e k) refl
one_fault_again fr ss at h (words.Part s) e seen k = rw (seen s ∙ k.0, k.1) refl
one_fault_again fr ss at h words.Other e seen k = absurd k

-- ---- all lists

abbrev pub all : Frame → Forest → Frame
all fr f = adding fr (collect pcb_units f) (collect resolutions_in f) (collect sections_in f)

more : (fr : Frame) (at : ℕ) (inside rest : Forest) → all (next fr (pcb_word (head_of inside).text) (head_of inside).args) rest ≡ all fr (Branch at inside rest)
more fr at inside rest = adding_more fr (pcb_units at inside) (collect pcb_units rest) (resolutions_in at inside) (collect resolutions_in rest) (sections_in at inside) (collect sections_in rest)

all_found : (f : Forest) (fr gr : Frame) → each pcb_item fr f ≡ Ok gr → Every IsPcbList f × (gr ≡ all fr f) × AreNew fr.seen (collect sections_in f)
unfolding each pcb_item
all_found End fr gr e = (tt, sym (ok_is fr gr e), tt)
all_found (Word at text rest) fr gr e = absurd cc
all_found (Branch at inside rest) fr gr e =
    let y = bind_ok (pcb_item fr at inside) (λ y. each pcb_item y rest) gr e in
    let one = one_found fr at (head_of inside) (pcb_word (head_of inside).text) y.0 y.1 in
    let others = all_found rest y.0 gr y.2 in
    let seen : y.0.seen ≡ seen_with fr.seen (sections_in at inside) = ap (λ (x : Frame). x.seen) one.1 in (
      (one.0, others.0),
      others.1 ∙ ap (λ (x : Frame). all x rest) one.1 ∙ more fr at inside rest,
      new_join fr.seen (sections_in at inside) (collect sections_in rest) one.2 (subst (λ (x : Seen). AreNew x (collect sections_in rest)) seen others.2),
    )

all_again : (f : Forest) (fr : Frame) → Every IsPcbList f → AreNew fr.seen (collect sections_in f) → each pcb_item fr f ≡ Ok (all fr f)
unfolding each pcb_item
all_again End fr h new = refl
all_again (Word at text rest) fr h new = absurd h
all_again (Branch at inside rest) fr h new =
    let cut = new_cut fr.seen (sections_in at inside) (collect sections_in rest) new in
    let first = one_again fr at (head_of inside) (pcb_word (head_of inside).text) h.0 cut.0 in
    rw first (all_again rest (next fr (pcb_word (head_of inside).text) (head_of inside).args) h.1 cut.1 ∙ ap made (more fr at inside rest))

pub lists_found : (f : Forest) (gr : Frame) → each pcb_item no_frame f ≡ Ok gr → ArePcbLists f × (gr ≡ all no_frame f)
lists_found f gr e = let h = all_found f no_frame gr e in (record { formed = h.0; once = once_of_new (collect sections_in f) h.2 }, h.1)

pub lists_again : (f : Forest) → ArePcbLists f → each pcb_item no_frame f ≡ Ok (all no_frame f)
lists_again f h = all_again f no_frame h.formed (new_of_once (collect sections_in f) h.once)

item_fault : (before inside : Forest) (at : ℕ) (e : DesignFault) → ArePcbLists before → pcb_item (all no_frame before) at inside ≡ Err e → PcbListFault before at inside e
unfolding pcb_item
item_fault before inside at e stand h =
    one_fault (all no_frame before) (collect sections_in before) at (head_of inside) (pcb_word (head_of inside).text) e (λ s. seen_is (collect sections_in before) s) h

item_fault_again : (before inside : Forest) (at : ℕ) (e : DesignFault) → ArePcbLists before → PcbListFault before at inside e → pcb_item (all no_frame before) at inside ≡ Err e
unfolding pcb_item
item_fault_again before inside at e stand h =
    one_fault_again (all no_frame before) (collect sections_in before) at (head_of inside) (pcb_word (head_of inside).text) e (λ s. seen_is (collect sections_in before) s) h

pub lists_fault : (f : Forest) (e : DesignFault) → each pcb_item no_frame f ≡ Err e → IsFirst ArePcbLists PcbListFault f e
lists_fault f e h = first_found pcb_item no_frame (all no_frame) ArePcbLists PcbListFault lists_found item_fault f e h

pub lists_fault_again : (f : Forest) (e : DesignFault) → IsFirst ArePcbLists PcbListFault f e → each pcb_item no_frame f ≡ Err e
lists_fault_again f e h = first_again pcb_item no_frame (all no_frame) ArePcbLists PcbListFault lists_again item_fault_again f e h
