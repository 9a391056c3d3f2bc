-- The network that was read is within the limits.
use Rattle.std.proofs.Common.{◌≤◌, ◌*◌, length, Ok, Err}
use Rattle.std.specs.Prelude.{IfOk, Result}
use Rattle.sexp_text.specs.Nodes.{size}
use Rattle.sexp_text.specs.Forest.{Forest}
use Rattle.dsn_lists.specs.declared.faults.ReadWhy.{ReadWhy}
use Rattle.dsn_lists.specs.Results.{Gives}
use Rattle.dsn_library.specs.declared.library.Library.{Library}
use Rattle.dsn_network.specs.declared.network.Network.{Network}
use Rattle.dsn_placement.specs.declared.placement.Placement.{Placement}
use Rattle.dsn_network.specs.Networks.{network_of}
use Rattle.dsn_network.specs.Limits.{IsFitNetwork}
use Rattle.dsn_network.proofs.NetworkSound.{network_of_fit, network_of_few}

pub network_if_given : (f : Forest) (p : Placement) (l : Library) (r : Result Network ReadWhy) → Gives (λ (x : Network). x) r (network_of f p l) → IfOk r IsFitNetwork
network_if_given f p l (Ok x) e = network_of_fit f p l x e
network_if_given f p l (Err why) e = tt

pub few_if_given : (f : Forest) (p : Placement) (l : Library) (r : Result Network ReadWhy) → Gives (λ (x : Network). x) r (network_of f p l) → IfOk r (λ (n : Network). length n.classes ≤ 32 * size f)
few_if_given f p l (Ok x) e = network_of_few f p l x e
few_if_given f p l (Err why) e = tt
