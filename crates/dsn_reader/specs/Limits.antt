-- Loaded wiring within the limits.
use Rattle.std.specs.Prelude.{ℕ, ◌<◌, List, length}
use Rattle.std.specs.List.{AllByRecursion}
use Rattle.area_geometry.specs.Copper.{IsWithinLimits}
use Rattle.board_items.specs.declared.items.Item.{Item}
use Rattle.board_items.specs.declared.items.Item.TheVariants as items
use Rattle.board_items.specs.declared.items.Padstack.{Padstack}
use Rattle.board_items.specs.Shapes.{copper_of_item}
use Rattle.board_rules.specs.Designs.{HasEnough}

-- a wire or a via names one of so many nets, layers and padstacks
abbrev pub NamesOneOf : ℕ → ℕ → ℕ → Item → Type 0
NamesOneOf nets layers stacks (items.Wire net layer width points fix) = (net < nets) × (layer < layers)
NamesOneOf nets layers stacks (items.Via net padstack place fix) = (net < nets) × (padstack < stacks)
NamesOneOf nets layers stacks (items.Pad net shapes) = ⊥
NamesOneOf nets layers stacks (items.Keep kind shapes) = ⊥

-- a wire or a via within the limits, whose shapes have their points, where there are so many nets and layers, and these padstacks
pub record IsFitLoaded (nets layers : ℕ) (stacks : List Padstack) (i : Item) : Type 0 where
  pub there : NamesOneOf nets layers (length stacks) i
  pub copper : AllByRecursion IsWithinLimits (copper_of_item stacks i)
  pub cores : AllByRecursion HasEnough (copper_of_item stacks i)
