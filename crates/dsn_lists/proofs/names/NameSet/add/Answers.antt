use Rattle.std.proofs.Common.{ap, ◌∙◌, List, ℕ, map}
use Rattle.std.proofs.Common.{Vec, Global}
use Rattle.dsn_lists.proofs.NameKeys.{added}
use Rattle.dsn_lists.proofs.names.NameSet.add.Goals as goal

pub returns : goal.returns
returns c = ap (λ (ks : List (Vec ℕ Global)). map (λ v. v.items) ks) c.in_ok-insert.ensures.keys
    ∙ added (λ v. v.items) c.self.inside.names.keys c.in_ok-owned.owned c.args.name.now c.args.self.now c.self.view_is c.in_ok-owned.ensures.items c.requires
