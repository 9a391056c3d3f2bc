-- The clearance that two items must keep, and when they keep it; all lengths in nanometres
-- Models: rules and classes of the SPECCTRA reference. Cited by `need` and `pair_keeps`
use Rattle.std.specs.Prelude.{ℕ, ◌==◌, ◌&&◌, ◌||◌, max, Option, Some, None, Bool, true, false, if◌then◌else◌, List, [], ◌∷◌, All, ⊤}
use Rattle.std.specs.List.{list_all}
use Rattle.area_geometry.specs.Apart.{AreShapesApart}
use Rattle.area_geometry.specs.declared.shapes.Shape.{Shape}
use Rattle.board_items.specs.declared.items.Item.{Item}
use Rattle.board_items.specs.declared.items.Item.TheVariants as items
use Rattle.board_items.specs.declared.items.KeepKind.{KeepKind}
use Rattle.board_items.specs.declared.items.KeepKind.TheVariants as keeps
use Rattle.board_items.specs.declared.items.Padstack.{Padstack}
use Rattle.board_items.specs.Adds.{is_fixed}
use Rattle.board_items.specs.Shapes.{copper_of_item}
use Rattle.board_rules.specs.declared.design.Kind.{Kind}
use Rattle.board_rules.specs.declared.design.Kind.TheVariants as kinds
use Rattle.board_rules.specs.declared.design.Parts.{Parts}
use Rattle.board_rules.specs.declared.needs.Role.{Role}
use Rattle.board_rules.specs.declared.needs.Role.TheVariants.{Copper, Keepout}
use Rattle.board_rules.specs.Classes.{untyped_of, class_of, value_in, largest_typed, largest_rule}
use Rattle.board_rules.specs.Pairs.{pair_value, largest_paired}

-- the shapes lie on exactly one layer
abbrev pub is_on_one_layer : List Shape → Bool
is_on_one_layer [] = false
is_on_one_layer (s ∷ rest) = list_all (λ t. t.layer == s.layer) rest

-- what an item is to a clearance
abbrev pub role_of : Item → Role
role_of (items.Wire net layer width points fix) = Copper kinds.Wire
role_of (items.Via net padstack place fix) = Copper kinds.Via
role_of (items.Pad net shapes) = Copper (if is_on_one_layer shapes then kinds.Smd else kinds.Pin)
role_of (items.Keep kind shapes) = Keepout kind

-- the net of an item; a pad may have none, and a keepout has none
abbrev pub net_of : Item → Option ℕ
net_of (items.Wire net layer width points fix) = Some net
net_of (items.Via net padstack place fix) = Some net
net_of (items.Pad net shapes) = net
net_of (items.Keep kind shapes) = None

-- both have a net, and it is the same
abbrev pub is_same_net : Option ℕ → Option ℕ → Bool
is_same_net (Some n) (Some m) = n == m
is_same_net _ _ = false

-- what a keepout bars
abbrev pub bars : KeepKind → Kind → Bool
bars keeps.All kinds.Wire = true
bars keeps.All kinds.Via = true
bars keeps.Vias kinds.Via = true
bars keeps.Wires kinds.Wire = true
bars _ _ = false

-- 1 nm from what a keepout bars, else nothing
abbrev pub barred : KeepKind → Kind → Option ℕ
barred keep kind = if bars keep kind then Some 1 else None

-- the number that is there, else the other one
abbrev pub or_number : Option ℕ → ℕ → ℕ
or_number (Some n) other = n
or_number None other = other

-- what copper of these kinds and classes must keep under these rules: what the pair of the classes states, else the
-- larger of both classes' values; at least 1 nm
abbrev pub copper_gap : Parts → List (Option ℕ) → Kind → ℕ → Kind → ℕ → ℕ
copper_gap p rules k c l d = max 1 (or_number (pair_value p c d k l) (max (value_in p rules c k l) (value_in p rules d k l)))

-- what two roles must keep under these rules, of items of these nets
abbrev pub gap_of : Parts → List (Option ℕ) → Role → Option ℕ → Role → Option ℕ → Option ℕ
gap_of p rules (Copper k) net (Copper l) other = Some (copper_gap p rules k (class_of p net) l (class_of p other))
gap_of p rules (Copper k) net (Keepout keep) other = barred keep k
gap_of p rules (Keepout keep) net (Copper l) other = barred keep l
gap_of p rules (Keepout keep) net (Keepout other_keep) other = None

-- the clearance that two items must keep under these rules, or none: none within a net, and none between two fixed ones
abbrev pub need_in : Parts → List (Option ℕ) → Item → Item → Option ℕ
need_in p rules a b =
    if is_same_net (net_of a) (net_of b) || (is_fixed a && is_fixed b) then None else gap_of p rules (role_of a) (net_of a) (role_of b) (net_of b)

-- the clearance that two items must keep under the rules that a design starts with
abbrev pub need_of : Parts → Item → Item → Option ℕ
need_of p a b = need_in p (untyped_of p) a b

-- each shape of the one is apart by c from each shape of the other
pub record AreApart (stacks : List Padstack) (a b : Item) (c : ℕ) : Type 0 where
  pub apart : All (λ s. All (λ t. AreShapesApart s t c) (copper_of_item stacks b)) (copper_of_item stacks a)

-- two items have this need, or none, and keep it
abbrev pub Keeps : List Padstack → Item → Item → Option ℕ → Type 0
Keeps stacks a b None = ⊤
Keeps stacks a b (Some c) = AreApart stacks a b c

-- two items have no need under these rules, or keep it
pub record KeepsNeed (p : Parts) (rules : List (Option ℕ)) (a b : Item) : Type 0 where
  pub keeps : Keeps p.stacks a b (need_in p rules a b)

-- the largest clearance that a class states for more than all, and that a pair of classes states; at least 1
abbrev pub largest_stated : Parts → ℕ
largest_stated p = max 1 (max (largest_typed p.classes) (largest_paired p p.pairs))

-- the largest clearance under these rules, at least 1
abbrev pub largest_of : Parts → List (Option ℕ) → ℕ
largest_of p rules = max (largest_stated p) (largest_rule rules)
