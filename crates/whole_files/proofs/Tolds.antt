-- What is told of the disk over several calls.
use Rattle.std.proofs.Common.{Option, Some, None}
use Rattle.layout_io.specs.Told.{Disk, Told}

pub told_same : (o : Option Disk) (R : Disk → Disk → Type 0) → ((d : Disk) → R d d) → Told o o R
told_same None R h = tt
told_same (Some d) R h = h d

pub told_then : (a b c : Option Disk) (R S T : Disk → Disk → Type 0) → Told a b R → Told b c S → ((d e f : Disk) → R d e → S e f → T d f) → Told a c T
told_then None b c R S T p q h = tt
told_then (Some d) None c R S T p q h = absurd p
told_then (Some d) (Some e) None R S T p q h = absurd q
told_then (Some d) (Some e) (Some f) R S T p q h = h d e f p q

pub told_weaker : (a b : Option Disk) (R S : Disk → Disk → Type 0) → Told a b R → ((d e : Disk) → R d e → S d e) → Told a b S
told_weaker None b R S p h = tt
told_weaker (Some d) None R S p h = absurd p
told_weaker (Some d) (Some e) R S p h = h d e p

pub told_both : (a b : Option Disk) (R S T : Disk → Disk → Type 0) → Told a b R → Told a b S → ((d e : Disk) → R d e → S d e → T d e) → Told a b T
told_both None b R S T p q h = tt
told_both (Some d) None R S T p q h = absurd p
told_both (Some d) (Some e) R S T p q h = h d e p q
