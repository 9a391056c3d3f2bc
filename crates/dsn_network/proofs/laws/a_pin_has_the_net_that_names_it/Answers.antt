use Rattle.dsn_network.specs.NetworkParts.{references}
use Rattle.dsn_network.specs.NetworkMeaning.{section}
use Rattle.dsn_network.proofs.PinLists.{net_is}
use Rattle.dsn_network.proofs.laws.a_pin_has_the_net_that_names_it.Goals as goal

pub returns : goal.returns
returns c = λ f p l n pin net h. net_is p l (references (section f).args) n.pins pin net h.2.pins
