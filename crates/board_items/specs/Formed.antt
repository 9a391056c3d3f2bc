-- The counts and numbers that a request may have.
use Rattle.std.specs.Prelude.{ℕ, ◌≤◌, ◌<◌, ◌^◌, List, length}
use Rattle.std.specs.List.{AllByRecursion}
use Rattle.row_lists.specs.Limits.{width_limit_nm, wire_point_limit, delete_limit, add_limit, layer_limit, client_limit}
use Rattle.seg_geometry.specs.Points.{IsInRange}
use Rattle.seg_geometry.specs.declared.points.Pt.{Pt}
use Rattle.board_items.specs.declared.requests.Add.{Add}
use Rattle.board_items.specs.declared.requests.Add.TheVariants as adds
use Rattle.board_items.specs.declared.requests.Request.{Request}
use Rattle.board_items.specs.declared.requests.Request.TheVariants as requests
use Rattle.board_items.specs.declared.history.Act.{Act}
use Rattle.board_items.specs.declared.history.Act.TheVariants as acts

-- the numbers of a wire: its width in nm, and 2 to 256 points in range
pub record IsFormedWire (net layer width : ℕ) (points : List Pt) : Type 0 where
  pub net_fits : net < 2 ^ 32
  pub layer_fits : layer < 2 ^ 32
  pub some_width : 1 ≤ width
  pub width_fits : width ≤ width_limit_nm
  pub two_points : 2 ≤ length points
  pub points_fit : length points ≤ wire_point_limit
  pub in_range : AllByRecursion IsInRange points

-- the numbers of a via: its place is in range
pub record IsFormedVia (net padstack : ℕ) (place : Pt) : Type 0 where
  pub net_fits : net < 2 ^ 32
  pub padstack_fits : padstack < 2 ^ 32
  pub in_range : IsInRange place

abbrev pub IsFormedAdd : Add → Type 0
IsFormedAdd (adds.Wire net layer width points) = IsFormedWire net layer width points
IsFormedAdd (adds.Via net padstack place) = IsFormedVia net padstack place

-- the numbers of an edit: up to 256 deletes and up to 64 adds
pub record IsFormedEdit (deletes : List ℕ) (adds : List Add) : Type 0 where
  pub deletes_fit : length deletes ≤ delete_limit
  pub numbers_fit : AllByRecursion (λ d. d < 2 ^ 32) deletes
  pub adds_fit : length adds ≤ add_limit
  pub formed : AllByRecursion IsFormedAdd adds

-- the numbers of a boundary: 1 to 32 layers, as many points as a wire may have at most, in range, and up to 8 clients
pub record IsFormedFence (layers : List ℕ) (area : List Pt) (clients : List ℕ) : Type 0 where
  pub some_layer : 1 ≤ length layers
  pub layers_fit : length layers ≤ layer_limit
  pub layers_in : AllByRecursion (λ l. l < 256) layers
  pub points_fit : length area ≤ wire_point_limit
  pub in_range : AllByRecursion IsInRange area
  pub clients_fit : length clients ≤ client_limit
  pub clients_in : AllByRecursion (λ c. c < 256) clients

abbrev pub IsFormed : Request → Type 0
IsFormed (requests.Edit deletes adds) = IsFormedEdit deletes adds
IsFormed (requests.Reserve id) = id.0 < 2 ^ 32
IsFormed (requests.Release id) = id.0 < 2 ^ 32
IsFormed (requests.Fence layers area clients) = IsFormedFence layers area clients
IsFormed (requests.Unfence fence) = fence < 2 ^ 32
IsFormed (requests.Entitle fence client) = (fence < 2 ^ 32) × (client < 256)
IsFormed (requests.Rule class clearance) = (class < 2 ^ 32) × (clearance ≤ width_limit_nm)

abbrev pub IsFormedAct : Act → Type 0
IsFormedAct (acts.Ask request) = IsFormed request
IsFormedAct acts.Leave = Unit {0}

-- the request is an edit
abbrev pub IsEdit : Request → Type 0
IsEdit (requests.Edit deletes adds) = Unit {0}
IsEdit (requests.Reserve id) = ⊥
IsEdit (requests.Release id) = ⊥
IsEdit (requests.Fence layers area clients) = ⊥
IsEdit (requests.Unfence fence) = ⊥
IsEdit (requests.Entitle fence client) = ⊥
IsEdit (requests.Rule class clearance) = ⊥
