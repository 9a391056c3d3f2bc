use Rattle.std.proofs.Common.{sym, ap, ◌∙◌, List, ℕ}
use Rattle.dsn_lists.specs.Names.{is_among}
use Rattle.dsn_lists.proofs.NameKeys.{list_any-map}
use Rattle.dsn_lists.proofs.names.NameSet.contains.Goals as goal

pub returns : goal.returns
returns c = c.contains.ensures ∙ sym (list_any-map _ _ c.self.inside.names.keys) ∙ ap (λ (xs : List (List ℕ)). is_among c.args.name.now xs) c.self.view_is
