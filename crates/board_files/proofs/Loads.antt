-- What is known of a design from the bytes that were read of its file.
use Rattle.std.proofs.Common.{◌≡◌, ℕ, ◌<◌, List, [], ◌∷◌, ◌++◌, length, Option, Some, None, length-append, arith, inl, inr}
use Rattle.std.specs.Prelude.{IfSome}
use Rattle.layout_io.specs.Told.{Disk, Told, FilesTold}
use Rattle.board_rules.specs.declared.design.Design.{Design}
use Rattle.dsn_lists.specs.declared.faults.DesignFault.{DesignFault}
use Rattle.dsn_reader.specs.Design.{IsDesign, IsFirstFault}
use Rattle.whole_files.specs.Outside.{IsFound, OnlyRead, ReadStop}
use Rattle.board_files.specs.Inputs.{HasDesign, HasClean, HasFault, HasUnclean, IsClean, AreLeast}
use Rattle.board_files.specs.Loads.{DesignCause, CleanCause, DesignStop}
use Rattle.whole_files.specs.declared.stop.Stop.{Stop}
use Rattle.whole_files.specs.declared.stop.Stop.TheVariants as stops
use Rattle.whole_files.proofs.Founds.{short_of, found_long, found_whole}

pub found_design : (name bytes : List ℕ) (design : Design) (a b : Option Disk) → Told a b (IsFound name 67108864 bytes) → IsDesign bytes design → IfSome a (HasDesign name design)
found_design name bytes design a b told is = found_whole name bytes (λ all. IsDesign all design) a b told is.short is

longer : (bytes more : List ℕ) → 67108864 < length bytes → 67108864 < length (bytes ++ more)
longer bytes more long = omega (arith, long, length-append bytes more)

found_fault : (name bytes : List ℕ) (e : DesignFault) (a b : Option Disk) → Told a b (IsFound name 67108864 bytes) → IsFirstFault bytes e → IfSome a (HasFault name e)
found_fault name bytes e a b told (inl h) = found_long name bytes (λ all. IsFirstFault all e) a b told (λ more. inl (record { long = longer bytes more h.long; fault = h.fault }))
found_fault name bytes e a b told (inr (inl h)) = found_whole name bytes (λ all. IsFirstFault all e) a b told h.short (inr (inl h))
found_fault name bytes e a b told (inr (inr h)) = found_whole name bytes (λ all. IsFirstFault all e) a b told h.short (inr (inr h))

-- the bytes of a design were read, and give none
pub design_stop : (stop : Stop) (name bytes : List ℕ) (f g : FilesTold) → Told f.disk g.disk (IsFound name 67108864 bytes) → OnlyRead (name ∷ []) f g → DesignCause bytes stop → DesignStop name f g stop
design_stop (stops.Design e) name bytes f g told only cause = (found_fault name bytes e f.disk g.disk told cause, only)
design_stop stops.Memory name bytes f g told only cause = short_of (name ∷ []) f g only
design_stop stops.Read name bytes f g told only cause = absurd cause
design_stop stops.Write name bytes f g told only cause = absurd cause
design_stop (stops.Script k) name bytes f g told only cause = absurd cause
design_stop (stops.Unclean x y) name bytes f g told only cause = absurd cause

pub design_unread : (stop : Stop) (name : List ℕ) (f g : FilesTold) → ReadStop (name ∷ []) f g stop → DesignStop name f g stop
design_unread stops.Read name f g cause = cause
design_unread stops.Memory name f g cause = cause
design_unread (stops.Design e) name f g cause = absurd cause
design_unread stops.Write name f g cause = absurd cause
design_unread (stops.Script k) name f g cause = absurd cause
design_unread (stops.Unclean x y) name f g cause = absurd cause

-- ---- the design's test

pub clean_found : (name : List ℕ) (design : Design) (a : Option Disk) → IfSome a (HasDesign name design) → IsClean design → IfSome a (HasClean name design)
clean_found name design None has clean = tt
clean_found name design (Some d) has clean = (has, clean)

unclean_found : (name : List ℕ) (design : Design) (x y : ℕ) (a : Option Disk) → IfSome a (HasDesign name design) → AreLeast design x y → IfSome a (HasUnclean name x y)
unclean_found name design x y None has least = tt
unclean_found name design x y (Some d) has least = (design, has, least)

pub unclean_stop : (stop : Stop) (name : List ℕ) (design : Design) (f g : FilesTold) → IfSome f.disk (HasDesign name design) → OnlyRead (name ∷ []) f g → CleanCause design stop → DesignStop name f g stop
unclean_stop (stops.Unclean x y) name design f g has only cause = (unclean_found name design x.0 y.0 f.disk has cause, only)
unclean_stop (stops.Design e) name design f g has only cause = absurd cause
unclean_stop stops.Read name design f g has only cause = absurd cause
unclean_stop stops.Write name design f g has only cause = absurd cause
unclean_stop (stops.Script k) name design f g has only cause = absurd cause
unclean_stop stops.Memory name design f g has only cause = short_of (name ∷ []) f g only
