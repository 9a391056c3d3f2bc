-- Two items that keep their need do so both ways round.
use Rattle.std.proofs.Common.{ℕ, List, subst}
use Rattle.std.specs.Prelude.{Option, Some, None}
use Rattle.area_geometry.proofs.BothWays.{shapes-turned}
use Rattle.board_items.specs.declared.items.Item.{Item}
use Rattle.board_items.specs.declared.items.Padstack.{Padstack}
use Rattle.board_rules.specs.declared.design.Parts.{Parts}
use Rattle.board_rules.specs.Needs.{Keeps, KeepsNeed, need_in}
use Rattle.board_rules.proofs.BothWays.{need_turned}

gap_turned : (stacks : List Padstack) (a b : Item) (gap : Option ℕ) → Keeps stacks a b gap → Keeps stacks b a gap
gap_turned stacks a b None h = tt
gap_turned stacks a b (Some c) h = record { apart = λ j t hj. λ i s hi. shapes-turned _ _ c (h.apart i s hi j t hj) }

-- two items keep their need both ways round
pub keeps_turned : (p : Parts) (rules : List (Option ℕ)) (a b : Item) → KeepsNeed p rules a b → KeepsNeed p rules b a
keeps_turned p rules a b h = record { keeps = gap_turned p.stacks a b (need_in p rules b a) (subst (λ gap. Keeps p.stacks a b gap) (need_turned p rules a b) h.keeps) }
