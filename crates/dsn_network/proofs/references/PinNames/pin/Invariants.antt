use Rattle.std.proofs.Common.{◌≡◌, ◌≤◌, ◌-◌, length, take, drop}
use Rattle.dsn_network.specs.References.{pin_from, pin_of}
use Rattle.dsn_network.proofs.references.PinNames.pin.Given as goal

abbrev pub invariant-bytes : goal.invariant-bytes
invariant-bytes l = (l.at ≤ length l.text) × (pin_from l.self.placement.now l.self.library.now (take l.at l.text) (drop l.at l.text) ≡ pin_of l.self.placement.now l.self.library.now l.text)

abbrev pub decreases-bytes : goal.decreases-bytes
decreases-bytes l = length l.text - l.at
