use Rattle.boundaries.proofs.RisingClients.{clients_rise, clients_same}
use Rattle.boundaries.proofs.laws.entitled_clients_rise_and_stand_once.Goals as goal

pub returns-clause-rising : goal.returns-clause-rising
returns-clause-rising c = clients_rise

pub returns-clause-same : goal.returns-clause-same
returns-clause-same c = clients_same
