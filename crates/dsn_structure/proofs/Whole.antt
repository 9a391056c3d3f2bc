-- The structure of a design is read exactly where the design has it, and its first fault is the one that is told.
use Rattle.std.proofs.Common.{◌≡◌, Ok, Err}
use Rattle.sexp_text.specs.Forest.{Forest}
use Rattle.dsn_lists.specs.declared.faults.DesignFault.{DesignFault}
use Rattle.dsn_lists.proofs.Whole.{whole_found, whole_again, whole_fault, whole_fault_again}
use Rattle.dsn_structure.specs.declared.structure.Structure.{Structure}
use Rattle.dsn_structure.specs.Structures.{structure_at, structure_of}
use Rattle.dsn_structure.specs.Meaning.{section, HasStructure, StructureFault, IsStructure, IsFirstFault}
use Rattle.dsn_structure.proofs.SectionReadings.{structure_found, structure_again, fault_found, fault_again}

-- ---- the structure of a design

pub has_found : (f : Forest) (x : Structure) → structure_of f ≡ Ok x → HasStructure f x
unfolding structure_of
has_found f x e = whole_found (λ t. structure_at t.unit (section f)) (λ t. IsStructure t.unit (section f).args x) f x (λ t k. structure_found t.unit (section f) x k) e

pub has_again : (f : Forest) (x : Structure) → HasStructure f x → structure_of f ≡ Ok x
unfolding structure_of
has_again f x h = whole_again (λ t. structure_at t.unit (section f)) (λ t. IsStructure t.unit (section f).args x) f x (λ t k. structure_again t.unit (section f) x k) h

pub why_found : (f : Forest) (e : DesignFault) → structure_of f ≡ Err e → StructureFault f e
unfolding structure_of
why_found f e h = whole_fault (λ t. structure_at t.unit (section f)) (λ t. IsFirstFault t.unit (section f) e) f e (λ t k. fault_found t.unit (section f) e k) h

pub why_again : (f : Forest) (e : DesignFault) → StructureFault f e → structure_of f ≡ Err e
unfolding structure_of
why_again f e h = whole_fault_again (λ t. structure_at t.unit (section f)) (λ t. IsFirstFault t.unit (section f) e) f e (λ t k. fault_again t.unit (section f) e k) h
