-- A network within the limits.
use Rattle.std.specs.Prelude.{ℕ, ◌≤◌, ◌<◌, length}
use Rattle.std.specs.List.{AllByRecursion}
use Rattle.row_lists.specs.Limits.{net_limit}
use Rattle.dsn_lists.specs.Limits.{AreFitStated, IsFitRule}
use Rattle.dsn_network.specs.declared.classes.Class.{Class}
use Rattle.dsn_network.specs.declared.pairs.ClassPairs.{ClassPairs}
use Rattle.dsn_network.specs.declared.network.Network.{Network}

-- at most 100,000 nets; those of pins are among them; what is stated of classes, and between them, is within the limits
pub record IsFitNetwork (n : Network) : Type 0 where
  pub few : length n.nets ≤ net_limit
  pub pins : AllByRecursion (λ (p : (ℕ × ℕ) × ℕ). p.1 < length n.nets) n.pins
  pub rules : AllByRecursion (λ (c : Class). IsFitRule c.rule) n.classes
  pub between : AllByRecursion (λ (p : ClassPairs). AreFitStated p.stated) n.pairs
