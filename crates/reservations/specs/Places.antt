-- How the pairs stand in places: one place for each reservation since the list was last made anew, empty where the
-- reservation has ended, and beside them an index from each item that is held to its place.
-- Left out: how the index finds an item. No contract of `Held` cites this module.
use Rattle.std.specs.Prelude.{ℕ, ◌≡◌, ◌<◌, ◌^◌, nat_eq, Bool, false, not, ◌==◌, Option, Some, None, List, [], ◌∷◌, length, slice_index_or}
use Rattle.indexmap.specs.IndexMap.{IndexMap, get, index_map_len}

-- the pairs that stand in places, in their order
abbrev pub pairs_of : List (Option (ℕ × ℕ)) → List (ℕ × ℕ)
pairs_of [] = []
pairs_of (None ∷ rest) = pairs_of rest
pairs_of (Some p ∷ rest) = p ∷ pairs_of rest

-- the pair at a place, and none past the last place
abbrev pub pair_of : List (Option (ℕ × ℕ)) → ℕ → Option (ℕ × ℕ)
pair_of places i = slice_index_or places i None

-- a pair stands here, and not the client's
abbrev pub is_others : ℕ → Option (ℕ × ℕ) → Bool
is_others client None = false
is_others client (Some p) = not (p.1 == client)

-- the item's pair stands at the place
abbrev pub StandsAt : List (Option (ℕ × ℕ)) → ℕ → ℕ → Type 0
StandsAt places id i = (client : ℕ) × (pair_of places i ≡ Some (id, client))

-- the look-up tells the place of each item that has one, and of no other
pub record IsIndex (find : ℕ → Option ℕ) (places : List (Option (ℕ × ℕ))) : Type 0 where
  pub right : (id i : ℕ) → find id ≡ Some i → StandsAt places id i
  pub whole : (id client i : ℕ) → pair_of places i ≡ Some (id, client) → find id ≡ Some i

-- what is always true of the index and the places
pub record IsKept {S : Type 0} (m : IndexMap ℕ ℕ S) (places : List (Option (ℕ × ℕ))) : Type 0 where
  pub index : IsIndex (get nat_eq m) places
  pub count : index_map_len m ≡ length (pairs_of places)
  pub few : length (pairs_of places) < 2 ^ 32
