use Rattle.std.proofs.Common.{rules, ◌≡◌, [], ◌∷◌, Some}
use Rattle.turn_lock.proofs.Turning.{opens}
use Rattle.turn_lock.proofs.lock.TurnLock.new.Goals as goal

pub new-requires-2 : goal.new-requires-2
new-requires-2 g c = let items : c.push.new.self.items ≡ Some c.args.value ∷ [] = search rules in
    rw (items, c.of-first.ensures) (opens g.T.Kept.calls g.T.Kept.fixed c.args.value g.T.Kept.caller c.requires.empty)
