-- A library section is read exactly where it stands for a library, and the first fault is told exactly where it is the
-- first, by the section's own words.
use Rattle.std.proofs.Common.{◌≡◌, ℕ, ◌≤◌, List, [], codes, length, Ok, Err, sym, ap, subst, ◌∙◌, arith}
use Rattle.sexp_text.specs.Forest.{Forest}
use Rattle.sexp_text.specs.declared.units.Unit.{Unit as LengthUnit}
use Rattle.dsn_lists.specs.declared.faults.DesignFault.{DesignFault}
use Rattle.dsn_lists.specs.Results.{each}
use Rattle.dsn_lists.specs.Words.{head_of}
use Rattle.dsn_lists.specs.Units.{governing}
use Rattle.dsn_lists.specs.Pcbs.{Spot}
use Rattle.dsn_lists.specs.Lists.{collect, IsFirst}
use Rattle.dsn_lists.specs.Measures.{governing_unit}
use Rattle.dsn_lists.proofs.Firsts.{made, first_found, first_again}
use Rattle.dsn_lists.proofs.Fresh.{AreFreshBehind}
use Rattle.dsn_lists.proofs.UnitLaws.{governs}
use Rattle.dsn_shapes.proofs.NameLaws.{ahead_is}
use Rattle.board_items.specs.declared.items.Padstack.{Padstack}
use Rattle.dsn_library.specs.declared.images.Image.{Image}
use Rattle.dsn_library.specs.declared.library.Library.{Library}
use Rattle.dsn_library.specs.Libraries.{library_word, library_item, no_library, all_stacks, library_at}
use Rattle.dsn_library.specs.LibraryParts.{padstacks, names_in, stacks_in, AreStacks, image_names_in, images_in, AreImages}
use Rattle.dsn_library.specs.LibraryMeaning.{IsSection, IsLibrary, Stand, LibraryListFault, IsFirstFault}
use Rattle.dsn_library.proofs.LibraryListLaws.{one_fault, one_fault_again}
use Rattle.dsn_library.proofs.LibraryLaws.{values_in, image_values_in, all, AreGood, all_found, all_again, stacks_are, same_stacks, images_are, same_images}

-- ---- the section

section_found : (u : LengthUnit) (layers stacks : List (List ℕ)) (f : Forest) (l : Library) → each (library_item u layers stacks) no_library f ≡ Ok l → IsSection u layers stacks f l × (l ≡ all u layers stacks no_library f)
section_found u layers stacks f l e =
    let g = all_found u layers stacks f no_library l (omega arith) e in
    let names : l.names ≡ collect names_in f = ap (λ (x : Library). x.names) g.1 in
    let shapes : l.stacks ≡ collect (values_in u layers) f = ap (λ (x : Library). x.stacks) g.1 in
    let image_names : l.image_names ≡ collect image_names_in f = ap (λ (x : Library). x.image_names) g.1 in
    let images : l.images ≡ collect (image_values_in u layers stacks) f = ap (λ (x : Library). x.images) g.1 in (
      record {
        formed = g.0.formed;
        names = names;
        fresh = subst (λ (xs : List (List ℕ)). AreFreshBehind [] xs) (sym names) g.0.fresh;
        few = subst (λ (xs : List (List ℕ)). length xs ≤ 65535) (sym names) g.0.few;
        stacks_are = subst (λ (cs : List Padstack). AreStacks u layers (collect stacks_in f) cs) (sym shapes) (stacks_are u layers stacks f g.0.formed);
        image_names = image_names;
        image_fresh = subst (λ (xs : List (List ℕ)). AreFreshBehind [] xs) (sym image_names) g.0.image_fresh;
        images = subst (λ (cs : List Image). AreImages u layers stacks (collect images_in f) cs) (sym images) (images_are u layers stacks f g.0.formed);
      },
      g.1,
    )

good_of_section : (u : LengthUnit) (layers stacks : List (List ℕ)) (f : Forest) (l : Library) → IsSection u layers stacks f l → AreGood u layers stacks no_library f
good_of_section u layers stacks f l h = record {
  formed = h.formed;
  fresh = subst (λ (xs : List (List ℕ)). AreFreshBehind [] xs) h.names h.fresh;
  few = subst (λ (xs : List (List ℕ)). length xs ≤ 65535) h.names h.few;
  image_fresh = subst (λ (xs : List (List ℕ)). AreFreshBehind [] xs) h.image_names h.image_fresh;
}

section_is : (u : LengthUnit) (layers stacks : List (List ℕ)) (f : Forest) (l : Library) → IsSection u layers stacks f l → all u layers stacks no_library f ≡ l
section_is u layers stacks f l h =
    let shapes = same_stacks u layers (collect stacks_in f) (collect (values_in u layers) f) l.stacks (stacks_are u layers stacks f h.formed) h.stacks_are in
    let images = same_images u layers stacks (collect images_in f) (collect (image_values_in u layers stacks) f) l.images (images_are u layers stacks f h.formed) h.images in
    λ i. record { names = sym h.names i; stacks = shapes i; image_names = sym h.image_names i; images = images i }

section_all : (u : LengthUnit) (layers stacks : List (List ℕ)) (f : Forest) (l : Library) → IsSection u layers stacks f l → each (library_item u layers stacks) no_library f ≡ Ok (all u layers stacks no_library f)
section_all u layers stacks f l h = all_again u layers stacks f no_library (good_of_section u layers stacks f l h)

-- the padstacks whose names are collected ahead
ahead : (f : Forest) → all_stacks f ≡ padstacks f
ahead f = ahead_is (codes "padstack") f

pub library_found : (u : LengthUnit) (layers : List (List ℕ)) (p : Spot) (l : Library) → library_at u layers p ≡ Ok l → IsLibrary u layers p.args l
unfolding library_at
library_found u layers p l e =
    let own = (section_found (governing u p.args) layers (all_stacks p.args) p.args l e).0 in
    let named = subst (λ (xs : List (List ℕ)). IsSection (governing u p.args) layers xs p.args l) (ahead p.args) own in
    subst (λ (w : LengthUnit). IsSection w layers (padstacks p.args) p.args l) (governs u p.args) named

pub library_again : (u : LengthUnit) (layers : List (List ℕ)) (p : Spot) (l : Library) → IsLibrary u layers p.args l → library_at u layers p ≡ Ok l
unfolding library_at
library_again u layers p l h =
    rw (governs u p.args, ahead p.args) (section_all (governing_unit u p.args) layers (padstacks p.args) p.args l h ∙ ap made (section_is (governing_unit u p.args) layers (padstacks p.args) p.args l h))

-- ---- the first fault

stand_found : (u : LengthUnit) (layers stacks : List (List ℕ)) (f : Forest) (l : Library) → each (library_item u layers stacks) no_library f ≡ Ok l → Stand u layers stacks f × (l ≡ all u layers stacks no_library f)
stand_found u layers stacks f l e = let h = section_found u layers stacks f l e in ((l, h.0), h.1)

list_fault : (u : LengthUnit) (layers stacks : List (List ℕ)) (before inside : Forest) (at : ℕ) (e : DesignFault) → library_item u layers stacks (all u layers stacks no_library before) at inside ≡ Err e → LibraryListFault u layers stacks before at inside e
unfolding library_item
list_fault u layers stacks before inside at e h = one_fault u layers stacks (all u layers stacks no_library before) at (head_of inside) (library_word (head_of inside).text) e h

list_fault_again : (u : LengthUnit) (layers stacks : List (List ℕ)) (before inside : Forest) (at : ℕ) (e : DesignFault) → LibraryListFault u layers stacks before at inside e → library_item u layers stacks (all u layers stacks no_library before) at inside ≡ Err e
unfolding library_item
list_fault_again u layers stacks before inside at e h = one_fault_again u layers stacks (all u layers stacks no_library before) at (head_of inside) (library_word (head_of inside).text) e h

-- the first fault of lists for layers and padstacks of these names
abbrev FirstFault : LengthUnit → List (List ℕ) → List (List ℕ) → Forest → DesignFault → Type 0
FirstFault u layers stacks f e = IsFirst (Stand u layers stacks) (LibraryListFault u layers stacks) f e

lists_fault : (u : LengthUnit) (layers stacks : List (List ℕ)) (f : Forest) (e : DesignFault) → each (library_item u layers stacks) no_library f ≡ Err e → FirstFault u layers stacks f e
lists_fault u layers stacks f e h =
    first_found (library_item u layers stacks) no_library (all u layers stacks no_library) (Stand u layers stacks) (LibraryListFault u layers stacks) (stand_found u layers stacks)
    (λ before inside at e stand k. list_fault u layers stacks before inside at e k) f e h

lists_fault_again : (u : LengthUnit) (layers stacks : List (List ℕ)) (f : Forest) (e : DesignFault) → FirstFault u layers stacks f e → each (library_item u layers stacks) no_library f ≡ Err e
lists_fault_again u layers stacks f e h =
    first_again (library_item u layers stacks) no_library (all u layers stacks no_library) (Stand u layers stacks) (LibraryListFault u layers stacks) (λ f s. section_all u layers stacks f s.0 s.1)
    (λ before inside at e stand k. list_fault_again u layers stacks before inside at e k) f e h

pub fault_found : (u : LengthUnit) (layers : List (List ℕ)) (p : Spot) (e : DesignFault) → library_at u layers p ≡ Err e → IsFirstFault u layers p.args e
unfolding library_at
fault_found u layers p e h =
    let named = subst (λ (xs : List (List ℕ)). FirstFault (governing u p.args) layers xs p.args e) (ahead p.args) (lists_fault (governing u p.args) layers (all_stacks p.args) p.args e h) in
    subst (λ (w : LengthUnit). FirstFault w layers (padstacks p.args) p.args e) (governs u p.args) named

pub fault_again : (u : LengthUnit) (layers : List (List ℕ)) (p : Spot) (e : DesignFault) → IsFirstFault u layers p.args e → library_at u layers p ≡ Err e
unfolding library_at
fault_again u layers p e h = rw (governs u p.args, ahead p.args) (lists_fault_again (governing_unit u p.args) layers (padstacks p.args) p.args e h)
