-- The network of a design is read exactly where the design has it, and its first fault is the one that is told.
use Rattle.std.proofs.Common.{◌≡◌, Ok, Err}
use Rattle.sexp_text.specs.Forest.{Forest}
use Rattle.dsn_lists.specs.declared.faults.DesignFault.{DesignFault}
use Rattle.dsn_lists.proofs.Whole.{whole_found, whole_again, whole_fault, whole_fault_again}
use Rattle.dsn_library.specs.declared.library.Library.{Library}
use Rattle.dsn_network.specs.declared.network.Network.{Network}
use Rattle.dsn_placement.specs.declared.placement.Placement.{Placement}
use Rattle.dsn_network.specs.Networks.{network_at, network_of}
use Rattle.dsn_network.specs.NetworkMeaning.{section, HasNetwork, NetworkFault, IsNetwork, IsFirstFault}
use Rattle.dsn_network.proofs.NetworkReadings.{network_found, network_again, fault_found, fault_again}

-- ---- the network of a design

pub has_found : (f : Forest) (p : Placement) (l : Library) (x : Network) → network_of f p l ≡ Ok x → HasNetwork f p l x
unfolding network_of
has_found f p l x e = whole_found (λ t. network_at t.unit p l (section f)) (λ t. IsNetwork t.unit p l (section f).args x) f x (λ t k. network_found t.unit p l (section f) x k) e

pub has_again : (f : Forest) (p : Placement) (l : Library) (x : Network) → HasNetwork f p l x → network_of f p l ≡ Ok x
unfolding network_of
has_again f p l x h = whole_again (λ t. network_at t.unit p l (section f)) (λ t. IsNetwork t.unit p l (section f).args x) f x (λ t k. network_again t.unit p l (section f) x k) h

pub why_found : (f : Forest) (p : Placement) (l : Library) (e : DesignFault) → network_of f p l ≡ Err e → NetworkFault f p l e
unfolding network_of
why_found f p l e h = whole_fault (λ t. network_at t.unit p l (section f)) (λ t. IsFirstFault t.unit p l (section f).args e) f e (λ t k. fault_found t.unit p l (section f) e k) h

pub why_again : (f : Forest) (p : Placement) (l : Library) (e : DesignFault) → NetworkFault f p l e → network_of f p l ≡ Err e
unfolding network_of
why_again f p l e h = whole_fault_again (λ t. network_at t.unit p l (section f)) (λ t. IsFirstFault t.unit p l (section f).args e) f e (λ t k. fault_again t.unit p l (section f) e k) h
