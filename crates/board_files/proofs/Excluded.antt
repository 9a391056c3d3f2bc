-- Readings of a design's file that exclude one another.
use Rattle.std.proofs.Common.{◌≡◌, ℕ, List, Option, Some, None, sym, subst, ◌∙◌}
use Rattle.std.specs.Prelude.{IfSome}
use Rattle.layout_io.specs.Told.{Disk, bytes_of}
use Rattle.board_rules.specs.declared.design.Design.{Design}
use Rattle.dsn_lists.specs.declared.faults.DesignFault.{DesignFault}
use Rattle.dsn_reader.specs.Design.{IsDesign}
use Rattle.dsn_reader.proofs.Laws.{one_design, no_fault}
use Rattle.board_files.specs.Inputs.{HasDesign, HasClean, HasUnclean, IsClean, AreLeast, HasFault, HasToldClean}

pub same_found : (o : Option (List ℕ)) (a b : List ℕ) → o ≡ Some a → o ≡ Some b → a ≡ b
same_found o a b p q = let both : Some a ≡ Some b = sym p ∙ q in cc

no_fault_in : (name : List ℕ) (d : Design) (e : DesignFault) (disk : Disk) → HasDesign name d disk → HasFault name e disk → ⊥
no_fault_in name d e disk has fault =
    let is : IsDesign fault.0 d = subst (λ (b : List ℕ). IsDesign b d) (same_found (bytes_of disk.files name) has.0 fault.0 has.1 fault.1) has.2 in
    no_fault fault.0 d e is fault.2

least_of_clean : (d : Design) (a b : ℕ) → IsClean d → AreLeast d a b → ⊥
least_of_clean d a b clean least = least.near (clean a b least.first least.second least.order least.first_is least.second_is)

no_unclean : (name : List ℕ) (d : Design) (a b : ℕ) (disk : Disk) → HasClean name d disk → HasUnclean name a b disk → ⊥
no_unclean name d a b disk has cause =
    let bytes = cause.1.0 in
    let is : IsDesign bytes d = subst (λ (x : List ℕ). IsDesign x d) (same_found (bytes_of disk.files name) has.0.0 bytes has.0.1 cause.1.1) has.0.2 in
    let same : d ≡ cause.0 = one_design bytes d cause.0 is cause.1.2 in
    least_of_clean cause.0 a b (subst IsClean same has.1) cause.2

pub told_fault : (name : List ℕ) (d : Design) (e : DesignFault) (a : Option Disk) → HasToldClean name d a → IfSome a (HasFault name e) → ⊥
told_fault name d e None has fault = absurd has
told_fault name d e (Some disk) has fault = no_fault_in name d e disk has.0 fault

pub told_unclean : (name : List ℕ) (d : Design) (x y : ℕ) (a : Option Disk) → HasToldClean name d a → IfSome a (HasUnclean name x y) → ⊥
told_unclean name d x y None has fault = absurd has
told_unclean name d x y (Some disk) has fault = no_unclean name d x y disk has fault
