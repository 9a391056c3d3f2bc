-- A talk with a new replica, and one that doesn't begin.
use Rattle.std.proofs.Common.{◌≡◌, ℕ, List, Option, Result, Err, inl, refl, subst}
use Rattle.layout_io.specs.Links.{Wire, Across}
use Rattle.board_rules.specs.declared.design.Parts.{Parts}
use Rattle.client_replica.specs.Replicas.{Following, first_of}
use Rattle.client_talk.specs.declared.stop.Stop.{Stop}
use Rattle.client_talk.specs.declared.stop.Stop.TheVariants as stops
use Rattle.client_talk.specs.Talks.{HasConversed}
use Rattle.client_talk.specs.Meets.{HasSpoken}
use Rattle.client_talk.proofs.Wires.{across_same}
use Rattle.client_talk.proofs.Hearing.{begins_none}

-- memory ran out before the first line
pub unspoken : (lines : List (List ℕ)) (p : Parts) (o : Option (List ℕ)) (w : Option Wire) → HasSpoken {T = Unit {0}} lines p o o w w (Err stops.Memory)
unspoken lines p o w = (first_of p, across_same w (HasConversed {T = Unit {0}} lines (first_of p) (first_of p) o o (Err stops.Memory)) (λ u. inl (record { written = refl; printed = begins_none u.left o; why = tt })))

-- the replica began with the design
pub spoken_from : (lines : List (List ℕ)) (p : Parts) (r s : Following) (o q : Option (List ℕ)) (w v : Option Wire) (end : Result (Unit {0}) Stop) → r ≡ first_of p → Across w v (HasConversed {T = Unit {0}} lines r s o q end) → HasSpoken {T = Unit {0}} lines p o q w v end
spoken_from lines p r s o q w v end is h = (s, subst (λ (x : Following). Across w v (HasConversed {T = Unit {0}} lines x s o q end)) is h)
