use Rattle.std.proofs.Common.{sym, ap, ◌∙◌, List, ℕ, position}
use Rattle.std.specs.Str.{bytes_eq}
use Rattle.dsn_lists.specs.Names.{is_among}
use Rattle.dsn_lists.proofs.NameKeys.{list_any-map, position-map}
use Rattle.dsn_lists.proofs.names.NameSet.place.Goals as goal

pub returns-clause-place : goal.returns-clause-place
returns-clause-place c = c.get_index_of.ensures.index ∙ sym (position-map _ _ c.self.inside.names.keys) ∙ ap (λ (xs : List (List ℕ)). position (bytes_eq c.args.name.now) xs) c.self.view_is

pub returns-clause-found : goal.returns-clause-found
returns-clause-found c = c.get_index_of.ensures.found ∙ sym (list_any-map _ _ c.self.inside.names.keys) ∙ ap (λ (xs : List (List ℕ)). is_among c.args.name.now xs) c.self.view_is
