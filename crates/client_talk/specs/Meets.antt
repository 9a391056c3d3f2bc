-- A talk with a new replica of a design.
-- Cited by `meet`
use Rattle.std.specs.Prelude.{ℕ, List, Option, Result}
use Rattle.layout_io.specs.Links.{Wire, Across}
use Rattle.board_rules.specs.declared.design.Parts.{Parts}
use Rattle.client_replica.specs.Replicas.{Following, first_of}
use Rattle.client_talk.specs.declared.stop.Stop.{Stop}
use Rattle.client_talk.specs.Talks.{HasConversed}

-- the talk with a replica of the design
abbrev pub HasSpoken : {T : Type 0} → List (List ℕ) → Parts → Option (List ℕ) → Option (List ℕ) → Option Wire → Option Wire → Result T Stop → Type 0
HasSpoken lines p o q w v end = (last : Following) × Across w v (HasConversed lines (first_of p) last o q end)
