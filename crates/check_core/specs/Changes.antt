-- What an act deletes and adds, and what an index holds while its boxes are changed. No public contract cites this module.
use Rattle.std.specs.Prelude.{ℕ, ◌≡◌, ◌≤◌, ◌<◌, ◌&&◌, not, nat_le, nat_lt, List, [], ◌++◌}
use Rattle.std.specs.List.{AllByRecursion, filter}
use Rattle.seg_geometry.specs.declared.near.Filed.{Filed}
use Rattle.board_items.specs.declared.requests.Add.{Add}
use Rattle.board_items.specs.declared.requests.Request.TheVariants as requests
use Rattle.board_items.specs.declared.history.Act.{Act}
use Rattle.board_items.specs.declared.history.Act.TheVariants as acts
use Rattle.number_slots.specs.Slots.{is_among}

-- what an act deletes
abbrev pub deletes_in : Act → List ℕ
deletes_in (acts.Ask (requests.Edit deletes adds)) = deletes
deletes_in _ = []

-- what an act adds
abbrev pub adds_in : Act → List Add
adds_in (acts.Ask (requests.Edit deletes adds)) = adds
adds_in _ = []

-- the list has become longer, by numbers from the first on and below the last
abbrev pub LengthensWithin : ℕ → ℕ → List Filed → List Filed → Type 0
LengthensWithin first last old new = (more : List Filed) × (new ≡ old ++ more) × AllByRecursion (λ (f : Filed). (first ≤ f.id) × (f.id < last)) more

-- what isn't filed under numbers from the first on and below the last
abbrev pub outside : ℕ → ℕ → List Filed → List Filed
outside first last filed = filter (λ f. not (nat_le first f.id && nat_lt f.id last)) filed

-- what isn't filed under one of these numbers below a bound
abbrev pub left_below : List ℕ → ℕ → List Filed → List Filed
left_below ids bound filed = filter (λ f. not (is_among f.id ids && nat_lt f.id bound)) filed
