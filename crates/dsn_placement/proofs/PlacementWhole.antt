-- The placement of a design is read exactly where the design has it, and its first fault is the one that is told.
use Rattle.std.proofs.Common.{◌≡◌, length, Ok, Err, sym, ◌∙◌}
use Rattle.sexp_text.specs.Forest.{Forest}
use Rattle.sexp_text.specs.declared.units.Unit.{Unit as LengthUnit}
use Rattle.dsn_lists.specs.declared.faults.DesignFault.{DesignFault}
use Rattle.dsn_lists.specs.Results.{each}
use Rattle.dsn_lists.specs.Pcbs.{Spot}
use Rattle.dsn_lists.proofs.Whole.{whole_found, whole_again, whole_fault, whole_fault_again}
use Rattle.dsn_lists.proofs.UnitLaws.{governs}
use Rattle.dsn_structure.specs.declared.structure.Structure.{Structure}
use Rattle.dsn_library.specs.declared.library.Library.{Library}
use Rattle.dsn_placement.specs.declared.placement.Placement.{Placement}
use Rattle.dsn_placement.specs.Components.{placement_item, no_placement, placement_at, placement_of}
use Rattle.dsn_placement.specs.PlacementMeaning.{given, section, IsPlacement, IsFirstFault, HasPlacement, PlacementFault}
use Rattle.dsn_placement.proofs.PlaceFlipLaws.{flip_governs}
use Rattle.dsn_placement.proofs.PlacementLaws.{reading, section_found, section_again, lists_fault, lists_fault_again}

-- ---- the section at its place

section_is : (u : LengthUnit) (s : Structure) (l : Library) (p : Spot) → placement_at u s l p ≡ reading (given u s l p.args) (no_placement s.quota) p.args
unfolding placement_at
section_is u s l p =
    let unit = governs u p.args in
    let flip = flip_governs s.flip p.args in
    λ i. each (placement_item (unit i) (record { flip = flip i; layers = length s.layers; stacks = l.stacks }) l) (no_placement s.quota) p.args

placement_found : (u : LengthUnit) (s : Structure) (l : Library) (p : Spot) (m : Placement) → placement_at u s l p ≡ Ok m → IsPlacement u s l p.args m
placement_found u s l p m e = section_found (given u s l p.args) s.quota p.args m (sym (section_is u s l p) ∙ e)

placement_again : (u : LengthUnit) (s : Structure) (l : Library) (p : Spot) (m : Placement) → IsPlacement u s l p.args m → placement_at u s l p ≡ Ok m
placement_again u s l p m h = section_is u s l p ∙ section_again (given u s l p.args) s.quota p.args m h

fault_found : (u : LengthUnit) (s : Structure) (l : Library) (p : Spot) (e : DesignFault) → placement_at u s l p ≡ Err e → IsFirstFault u s l p.args e
fault_found u s l p e h = lists_fault (given u s l p.args) s.quota p.args e (sym (section_is u s l p) ∙ h)

fault_again : (u : LengthUnit) (s : Structure) (l : Library) (p : Spot) (e : DesignFault) → IsFirstFault u s l p.args e → placement_at u s l p ≡ Err e
fault_again u s l p e h = section_is u s l p ∙ lists_fault_again (given u s l p.args) s.quota p.args e h

-- ---- the placement of a design

pub has_found : (f : Forest) (s : Structure) (l : Library) (x : Placement) → placement_of f s l ≡ Ok x → HasPlacement f s l x
unfolding placement_of
has_found f s l x e = whole_found (λ t. placement_at t.unit s l (section f)) (λ t. IsPlacement t.unit s l (section f).args x) f x (λ t k. placement_found t.unit s l (section f) x k) e

pub has_again : (f : Forest) (s : Structure) (l : Library) (x : Placement) → HasPlacement f s l x → placement_of f s l ≡ Ok x
unfolding placement_of
has_again f s l x h = whole_again (λ t. placement_at t.unit s l (section f)) (λ t. IsPlacement t.unit s l (section f).args x) f x (λ t k. placement_again t.unit s l (section f) x k) h

pub why_found : (f : Forest) (s : Structure) (l : Library) (e : DesignFault) → placement_of f s l ≡ Err e → PlacementFault f s l e
unfolding placement_of
why_found f s l e h = whole_fault (λ t. placement_at t.unit s l (section f)) (λ t. IsFirstFault t.unit s l (section f).args e) f e (λ t k. fault_found t.unit s l (section f) e k) h

pub why_again : (f : Forest) (s : Structure) (l : Library) (e : DesignFault) → PlacementFault f s l e → placement_of f s l ≡ Err e
unfolding placement_of
why_again f s l e h = whole_fault_again (λ t. placement_at t.unit s l (section f)) (λ t. IsFirstFault t.unit s l (section f).args e) f e (λ t k. fault_again t.unit s l (section f) e k) h
