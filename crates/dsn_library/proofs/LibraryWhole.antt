-- The library of a design is read exactly where the design has it, and its first fault is the one that is told.
use Rattle.std.proofs.Common.{◌≡◌, ℕ, List, Ok, Err}
use Rattle.sexp_text.specs.Forest.{Forest}
use Rattle.dsn_lists.specs.declared.faults.DesignFault.{DesignFault}
use Rattle.dsn_lists.proofs.Whole.{whole_found, whole_again, whole_fault, whole_fault_again}
use Rattle.dsn_library.specs.declared.library.Library.{Library}
use Rattle.dsn_library.specs.Libraries.{library_at, library_of}
use Rattle.dsn_library.specs.LibraryMeaning.{section, HasLibrary, LibraryFault, IsLibrary, IsFirstFault}
use Rattle.dsn_library.proofs.LibraryReadings.{library_found, library_again, fault_found, fault_again}

-- ---- the library of a design

pub has_found : (f : Forest) (layers : List (List ℕ)) (x : Library) → library_of f layers ≡ Ok x → HasLibrary f layers x
unfolding library_of
has_found f layers x e = whole_found (λ t. library_at t.unit layers (section f)) (λ t. IsLibrary t.unit layers (section f).args x) f x (λ t k. library_found t.unit layers (section f) x k) e

pub has_again : (f : Forest) (layers : List (List ℕ)) (x : Library) → HasLibrary f layers x → library_of f layers ≡ Ok x
unfolding library_of
has_again f layers x h = whole_again (λ t. library_at t.unit layers (section f)) (λ t. IsLibrary t.unit layers (section f).args x) f x (λ t k. library_again t.unit layers (section f) x k) h

pub why_found : (f : Forest) (layers : List (List ℕ)) (e : DesignFault) → library_of f layers ≡ Err e → LibraryFault f layers e
unfolding library_of
why_found f layers e h = whole_fault (λ t. library_at t.unit layers (section f)) (λ t. IsFirstFault t.unit layers (section f).args e) f e (λ t k. fault_found t.unit layers (section f) e k) h

pub why_again : (f : Forest) (layers : List (List ℕ)) (e : DesignFault) → LibraryFault f layers e → library_of f layers ≡ Err e
unfolding library_of
why_again f layers e h = whole_fault_again (λ t. library_at t.unit layers (section f)) (λ t. IsFirstFault t.unit layers (section f).args e) f e (λ t k. fault_again t.unit layers (section f) e k) h
