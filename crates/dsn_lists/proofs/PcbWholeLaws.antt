-- What stands behind the name of a design is what is read, and its first fault, also of what is missing, is the one told.
use Rattle.std.proofs.Common.{◌≡◌, ℕ, Bool, true, false, cond, List, map, Option, Some, None, Ok, Err, refl, sym, ap, ◌∙◌, inl, inr, ◌⊎◌}
use Rattle.sexp_text.specs.Forest.{Forest}
use Rattle.sexp_text.specs.declared.units.Unit.{Unit as LengthUnit}
use Rattle.dsn_lists.specs.declared.faults.DesignFault.{DesignFault}
use Rattle.dsn_lists.specs.declared.faults.DesignKind.TheVariants as kind
use Rattle.dsn_lists.specs.declared.pcb.Section.TheVariants as sections
use Rattle.dsn_lists.specs.declared.pcb.Frame.{Frame}
use Rattle.dsn_lists.specs.declared.pcb.Title.{Title}
use Rattle.dsn_lists.specs.Results.{Read, ◌>>=◌, wrong, each}
use Rattle.dsn_lists.specs.Pcbs.{pcb_item, no_frame, frame_unit, unit_or_missing, complete}
use Rattle.dsn_lists.specs.Lists.{collect, last_of, told}
use Rattle.dsn_lists.specs.Titles.{pcb_units, resolutions_in, sections_in, stands, design_unit, IsTitleOf, PcbListsFault}
use Rattle.dsn_lists.proofs.Firsts.{made, ok_is, bind_ok, bind_err}
use Rattle.dsn_lists.proofs.SeenLaws.{seen_is, frame_is}
use Rattle.dsn_lists.proofs.PcbListLaws.{all, lists_found, lists_again, lists_fault, lists_fault_again}

-- ---- what is missing

-- the unit where there is a structure
abbrev unit_if : ℕ → Bool → Option LengthUnit → Read LengthUnit
unit_if at b o = cond b (unit_or_missing at o) (wrong kind.Missing at)

complete_is : (at : ℕ) (f : Forest) → complete at (all no_frame f) ≡ unit_if at (stands sections.Structure (collect sections_in f)) (design_unit f)
unfolding complete
complete_is at f =
    ap (λ (b : Bool). unit_if at b (frame_unit (last_of None (map Some (collect pcb_units f))) (last_of None (map Some (collect resolutions_in f))))) (seen_is (collect sections_in f) sections.Structure)
    ∙ ap (λ (o : Option LengthUnit). unit_if at (stands sections.Structure (collect sections_in f)) o) (frame_is (collect pcb_units f) (collect resolutions_in f))

unit_ok : (at : ℕ) (b : Bool) (o : Option LengthUnit) (u : LengthUnit) → unit_if at b o ≡ Ok u → (b ≡ true) × (o ≡ Some u)
unit_ok at true (Some v) u e = (refl, ap (λ (x : LengthUnit). Some x) (ok_is v u e))
unit_ok at true None u e = absurd cc
unit_ok at false o u e = absurd cc

unit_err : (at : ℕ) (b : Bool) (o : Option LengthUnit) (e : DesignFault) → unit_if at b o ≡ Err e → ((b ≡ false) ⊎ (o ≡ None)) × (e ≡ told kind.Missing at)
unit_err at true (Some v) e h = absurd cc
unit_err at true None e h = (inr refl, cc)
unit_err at false o e h = (inl refl, cc)

missing : (at : ℕ) (b : Bool) (o : Option LengthUnit) → (b ≡ false) ⊎ (o ≡ None) → unit_if at b o ≡ wrong kind.Missing at
missing at true (Some v) (inl h) = absurd cc
missing at true (Some v) (inr h) = absurd cc
missing at true None h = refl
missing at false o h = refl

-- ---- what stands behind the name

-- the title of a design whose lists gave this unit
abbrev titled : List ℕ → LengthUnit → Title
titled name u = record { name = name; unit = u }

-- what follows the name
abbrev pub lists_then : ℕ → List ℕ → Forest → Read Title
lists_then at name f = each pcb_item no_frame f >>= λ fr. (complete at fr >>= λ u. made (titled name u))

pub lists_ok : (at : ℕ) (name : List ℕ) (f : Forest) (t : Title) → lists_then at name f ≡ Ok t → IsTitleOf name f t
lists_ok at name f t e =
    let fr = bind_ok (each pcb_item no_frame f) (λ fr. complete at fr >>= λ u. made (titled name u)) t e in
    let u = bind_ok (complete at fr.0) (λ u. made (titled name u)) t fr.2 in
    let lists = lists_found f fr.0 fr.1 in
    let unit = unit_ok at (stands sections.Structure (collect sections_in f)) (design_unit f) u.0 (sym (complete_is at f) ∙ ap (λ (x : Frame). complete at x) (sym lists.1) ∙ u.1) in
    let same = ok_is (titled name u.0) t u.2 in
    record { lists = lists.0; structure = unit.0; name_is = ap (λ (x : Title). x.name) (sym same); unit = unit.1 ∙ ap (λ (x : Title). Some x.unit) same }

pub lists_ok_again : (at : ℕ) (name : List ℕ) (f : Forest) (t : Title) → IsTitleOf name f t → lists_then at name f ≡ Ok t
lists_ok_again at name f t h =
    let unit : complete at (all no_frame f) ≡ Ok t.unit = complete_is at f ∙ rw (h.structure, h.unit) refl in
    let same : titled name t.unit ≡ t = λ i. record { name = sym h.name_is i; unit = t.unit } in
    rw (lists_again f h.lists, unit) (ap made same)

pub lists_err : (at : ℕ) (name : List ℕ) (f : Forest) (e : DesignFault) → lists_then at name f ≡ Err e → PcbListsFault at f e
lists_err at name f e h =
    elim (bind_err (each pcb_item no_frame f) (λ fr. complete at fr >>= λ u. made (titled name u)) e h) [
      | inl here ↦ inl (lists_fault f e here)
      | inr later ↦
          let lists = lists_found f later.0 later.1 in
          elim (bind_err (complete at later.0) (λ u. made (titled name u)) e later.2) [
            | inl none ↦
                let why = unit_err at (stands sections.Structure (collect sections_in f)) (design_unit f) e (sym (complete_is at f) ∙ ap (λ (x : Frame). complete at x) (sym lists.1) ∙ none) in
                inr (lists.0, why.0, why.1)
            | inr some ↦ absurd cc
          ]
    ]

pub lists_err_again : (at : ℕ) (name : List ℕ) (f : Forest) (e : DesignFault) → PcbListsFault at f e → lists_then at name f ≡ Err e
lists_err_again at name f e (inl here) = rw (lists_fault_again f e here) refl
lists_err_again at name f e (inr none) =
    let why : complete at (all no_frame f) ≡ Err (told kind.Missing at) = complete_is at f ∙ missing at (stands sections.Structure (collect sections_in f)) (design_unit f) none.1 in
    rw (lists_again f none.0, why, none.2) refl
