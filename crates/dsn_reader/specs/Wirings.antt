-- What the lists of the wiring section state.
-- Models: the wiring, wire and via descriptors of the SPECCTRA reference, with paths alone. Left out: wiring without a
-- net, and shapes that aren't paths, which are refused.
use Rattle.std.specs.Prelude.{ℕ, nat_le, ◌&&◌, ℤ, ◌+ℤ◌, unsigned_abs, Bool, true, false, is_some, List, [], ◌∷◌, ◌++◌, slice_get, codes, length, Option, Some, None, Ok, if◌then◌else◌}
use Rattle.std.specs.List.{list_all}
use Rattle.row_lists.specs.Limits.{net_limit, coordinate_limit_nm}
use Rattle.sexp_text.specs.Forest.{Forest}
use Rattle.sexp_text.specs.declared.units.Unit.{Unit as LengthUnit}
use Rattle.seg_geometry.specs.declared.points.Pt.{Pt}
use Rattle.area_geometry.specs.declared.shapes.Shape.{Shape}
use Rattle.area_geometry.specs.Copper.{core_points}
use Rattle.board_items.specs.declared.items.Item.{Item}
use Rattle.board_items.specs.declared.items.Item.TheVariants as items
use Rattle.board_items.specs.Shapes.{shapes_of}
use Rattle.dsn_lists.specs.declared.faults.DesignKind.TheVariants as kind
use Rattle.dsn_lists.specs.declared.marks.Mark.{Mark}
use Rattle.dsn_lists.specs.declared.places.Coordinates.{Coordinates}
use Rattle.dsn_lists.specs.declared.pcb.Section.TheVariants as sections
use Rattle.dsn_lists.specs.Results.{Read, ◌>>=◌, wrong, each}
use Rattle.dsn_lists.specs.Names.{place_of}
use Rattle.dsn_lists.specs.Words.{Heading, same, head_of, word_of, spare, one_word}
use Rattle.dsn_lists.specs.Units.{unit_list, governing}
use Rattle.dsn_lists.specs.Places.{no_coordinates, coordinates}
use Rattle.dsn_lists.specs.Layers.{one_layer}
use Rattle.dsn_lists.specs.Shapes.{path_of}
use Rattle.dsn_lists.specs.Pcbs.{Spot, design_of, section_in}
use Rattle.dsn_shapes.specs.declared.quotas.Quota.{Quota}
use Rattle.dsn_shapes.specs.Quotas.{quota_for, quota_behind}
use Rattle.dsn_library.specs.declared.library.Library.{Library}
use Rattle.dsn_reader.specs.declared.ends.Ends.{Ends}
use Rattle.dsn_reader.specs.declared.ends.EndWord.{EndWord}
use Rattle.dsn_reader.specs.declared.ends.EndWord.TheVariants as ends
use Rattle.dsn_reader.specs.declared.vias.Sort.{Sort}
use Rattle.dsn_reader.specs.declared.wires.Track.{Track}
use Rattle.dsn_reader.specs.declared.wires.Draft.{Draft}
use Rattle.dsn_reader.specs.declared.wires.WireWord.{WireWord}
use Rattle.dsn_reader.specs.declared.wires.WireWord.TheVariants as wires
use Rattle.dsn_reader.specs.declared.wiring.Wiring.{Wiring}
use Rattle.dsn_reader.specs.declared.wiring.WiringWord.{WiringWord}
use Rattle.dsn_reader.specs.declared.wiring.WiringWord.TheVariants as words

-- the names of the nets so far, and what was read with them
pub record Netted (A : Type 0) : Type 0 where
  pub nets : List (List ℕ)
  pub it : A

abbrev pub netted : {A : Type 0} → List (List ℕ) → A → Netted A
netted nets it = record { nets = nets; it = it }

-- ---- `(net <id>)` and `(type t)`

abbrev pub numbered : List (List ℕ) → Mark → Option ℕ → Read (Netted ℕ)
numbered nets w (Some n) = Ok (netted nets n)
numbered nets w None = if nat_le net_limit (length nets) then wrong kind.Large w.at else Ok (netted (nets ++ w.name ∷ []) (length nets))

-- the number of a net, which is put behind the others where it isn't there, of at most 100,000
unfoldable pub net_number : List (List ℕ) → Mark → Read (Netted ℕ)
net_number nets w = numbered nets w (place_of nets w.name)

-- the type is `fix`; none for a word that is no type
unfoldable pub type_named : List ℕ → Option Bool
type_named text =
    if same text (codes "fix") then Some true else
    if same text (codes "route") then Some false else
    if same text (codes "normal") then Some false else
    if same text (codes "protect") then Some false else None

abbrev pub known_type : ℕ → Option Bool → Read Bool
known_type at None = wrong kind.Style at
known_type at (Some b) = Ok b

unfoldable pub type_list : ℕ → Forest → Read Bool
type_list at f = do
  w ← word_of at f
  fix ← known_type w.0.at (type_named w.0.name)
  _ ← spare w.1
  Ok fix

-- the net of `(net <id>)`, which stands once
unfoldable pub net_list : List (List ℕ) → Ends → ℕ → Forest → Read (Netted Ends)
net_list nets e at f = if is_some e.net then wrong kind.Form at else (do
  w ← one_word at f
  n ← net_number nets w
  Ok (netted n.nets (record e { net = Some n.it })))

-- the type of `(type t)`, which stands once
unfoldable pub type_once : Ends → ℕ → Forest → Read Ends
type_once e at f = if is_some e.fix then wrong kind.Form at else (type_list at f >>= λ b. Ok (record e { fix = Some b }))

unfoldable pub end_word : List ℕ → EndWord
end_word text =
    if same text (codes "net") then ends.Net else
    if same text (codes "type") then ends.Kind else ends.Other

abbrev pub end_list : Netted Ends → ℕ → Heading → EndWord → Read (Netted Ends)
end_list x at h ends.Net = net_list x.nets x.it at h.args
end_list x at h ends.Kind = type_once x.it at h.args >>= λ e. Ok (netted x.nets e)
end_list x at h ends.Other = Ok x

unfoldable pub end_item : Netted Ends → ℕ → Forest → Read (Netted Ends)
end_item x at inside = end_list x at (head_of inside) (end_word (head_of inside).text)

abbrev pub no_ends : Ends
no_ends = record { net = None; fix = None }

-- the item is fixed where its type is `fix`
abbrev pub is_fixed : Option Bool → Bool
is_fixed None = false
is_fixed (Some fix) = fix

-- ---- quota

-- one more item behind those that are there, and this quota behind it
abbrev pub with_item : ℕ → Wiring → Item → Option Quota → Read Wiring
with_item at w item None = wrong kind.Large at
with_item at w item (Some quota) = Ok (record { items = w.items ++ item ∷ []; quota = quota })

-- ---- wires

-- the layer, width and points of a wire
unfoldable pub track_of : LengthUnit → List (List ℕ) → ℕ → Forest → Read Track
track_of u layers at f = do
  w ← word_of at f
  n ← one_layer layers w.0
  p ← path_of u at w.1
  Ok (record { layer = n; width = p.width; points = p.points })

-- the path of a wire, which stands once
unfoldable pub path_once : LengthUnit → List (List ℕ) → Draft → ℕ → Forest → Read Draft
path_once u layers d at f = if is_some d.track then wrong kind.Form at else (track_of u layers at f >>= λ t. Ok (record d { track = Some t }))

-- what a list of a wire is
unfoldable pub wire_word : List ℕ → WireWord
wire_word text =
    if same text (codes "path") then wires.Path else
    if same text (codes "rect") then wires.Shape else
    if same text (codes "circle") then wires.Shape else
    if same text (codes "polygon") then wires.Shape else
    if same text (codes "qarc") then wires.Arc else
    if same text (codes "polyline_path") then wires.Polyline else wires.End

abbrev pub with_ends : Draft → Netted Ends → Netted Draft
with_ends d x = netted x.nets (record d { ends = x.it })

-- the draft behind a list that may state its net or type
abbrev pub ended_draft : List (List ℕ) → Draft → ℕ → Forest → Read (Netted Draft)
ended_draft nets d at inside = end_item (netted nets d.ends) at inside >>= λ y. Ok (with_ends d y)

abbrev pub wire_list : LengthUnit → List (List ℕ) → Netted Draft → ℕ → Forest → WireWord → Read (Netted Draft)
wire_list u layers x at inside wires.Path = path_once u layers x.it at (head_of inside).args >>= λ d. Ok (netted x.nets d)
wire_list u layers x at inside wires.Shape = wrong kind.Shape (head_of inside).at
wire_list u layers x at inside wires.Arc = wrong kind.Arc (head_of inside).at
wire_list u layers x at inside wires.Polyline = wrong kind.Polyline (head_of inside).at
wire_list u layers x at inside wires.End = ended_draft x.nets x.it at inside

unfoldable pub wire_item : LengthUnit → List (List ℕ) → Netted Draft → ℕ → Forest → Read (Netted Draft)
wire_item u layers x at inside = wire_list u layers x at inside (wire_word (head_of inside).text)

abbrev pub no_draft : Draft
no_draft = record { ends = no_ends; track = None }

-- a wire has a path and a net
abbrev pub wire_with : ℕ → Wiring → Option Track → Option ℕ → Option Bool → Read Wiring
wire_with at w (Some t) (Some net) fix = with_item at w (items.Wire net t.layer t.width t.points (is_fixed fix)) (quota_for w.quota (length t.points))
wire_with at w (Some t) None fix = wrong kind.Missing at
wire_with at w None net fix = wrong kind.Missing at

unfoldable pub as_wire : ℕ → Wiring → Draft → Read Wiring
as_wire at w d = wire_with at w d.track d.ends.net d.ends.fix

-- `(wire ..)` behind earlier wiring
unfoldable pub wire_of : LengthUnit → List (List ℕ) → Netted Wiring → ℕ → Forest → Read (Netted Wiring)
wire_of u layers x at f = do
  d ← each (wire_item u layers) (netted x.nets no_draft) f
  w ← as_wire at x.it d.it
  Ok (netted d.nets w)

-- ---- vias

abbrev pub known_stack : ℕ → Option ℕ → Read ℕ
known_stack at (Some n) = Ok n
known_stack at None = wrong kind.Name at

-- the place is at most 1,000,000,000 nm from 0
unfoldable pub is_near : ℤ → ℤ → Bool
is_near a b = nat_le (unsigned_abs (a +ℤ b)) coordinate_limit_nm

abbrev pub is_point_near : Pt → Pt → Bool
is_point_near p q = is_near q.x p.x && is_near q.y p.y

-- all points of the shape, moved by p, are in range
abbrev pub is_shape_near : Pt → Shape → Bool
is_shape_near p s = list_all (is_point_near p) (core_points s.core)

unfoldable pub are_near : Pt → List Shape → Bool
are_near p ss = list_all (is_shape_near p) ss

-- what all vias of one list have in common
pub record Kindred : Type 0 where
  pub net : ℕ
  pub stack : ℕ
  pub shapes : List Shape
  pub fix : Bool

abbrev pub sorted : Sort → Kindred
sorted s = record { net = s.net; stack = s.stack; shapes = s.shapes.now; fix = s.fix }

-- one more via at a point
unfoldable pub via_at : ℕ → Kindred → Wiring → Pt → Read Wiring
via_at at v w p = if are_near p v.shapes then with_item at w (items.Via v.net v.stack p v.fix) (quota_behind w.quota v.shapes) else wrong kind.Range at

-- a via at each point
unfoldable pub vias_at : ℕ → Kindred → Wiring → List Pt → Read Wiring
vias_at at v w [] = Ok w
vias_at at v w (p ∷ ps) = via_at at v w p >>= λ x. vias_at at v x ps

abbrev pub some_points : ℕ → Option ℤ → List Pt → Read (List Pt)
some_points at (Some x) ps = wrong kind.Points at
some_points at None [] = wrong kind.Points at
some_points at None (p ∷ ps) = Ok (p ∷ ps)

-- whole points, one or more
abbrev pub as_points : ℕ → Coordinates → Read (List Pt)
as_points at c = some_points at c.half c.points

abbrev pub some_net : ℕ → Option ℕ → Read ℕ
some_net at (Some n) = Ok n
some_net at None = wrong kind.Missing at

-- `(via <padstack> x y ..)` behind earlier wiring
unfoldable pub via_of : LengthUnit → Library → Netted Wiring → ℕ → Forest → Read (Netted Wiring)
via_of u l x at f = do
  w ← word_of at f
  stack ← known_stack w.0.at (place_of l.names w.0.name)
  c ← coordinates u no_coordinates w.1
  e ← each end_item (netted x.nets no_ends) c.1
  ps ← as_points at c.0
  net ← some_net at e.it.net
  all ← vias_at at (record { net = net; stack = stack; shapes = shapes_of (slice_get l.stacks stack); fix = is_fixed e.it.fix }) x.it ps
  Ok (netted e.nets all)

-- ---- the section

-- what a list of the section is
unfoldable pub wiring_word : List ℕ → WiringWord
wiring_word text =
    if same text (codes "wire") then words.Wire else
    if same text (codes "via") then words.Via else
    if same text (codes "unit") then words.Unit else
    if same text (codes "resolution") then words.Resolution else words.Other

abbrev pub wiring_list : LengthUnit → List (List ℕ) → Library → Netted Wiring → ℕ → Heading → WiringWord → Read (Netted Wiring)
wiring_list u layers l x at h words.Wire = wire_of u layers x at h.args
wiring_list u layers l x at h words.Via = via_of u l x at h.args
wiring_list u layers l x at h words.Unit = unit_list at h.args >>= λ _. Ok x
wiring_list u layers l x at h words.Resolution = wrong kind.Unit h.at
wiring_list u layers l x at h words.Other = Ok x

unfoldable pub wiring_item : LengthUnit → List (List ℕ) → Library → Netted Wiring → ℕ → Forest → Read (Netted Wiring)
wiring_item u layers l x at inside = wiring_list u layers l x at (head_of inside) (wiring_word (head_of inside).text)

-- no item, and this quota
abbrev pub no_wiring : Quota → Wiring
no_wiring quota = record { items = []; quota = quota }

-- the section at its place, where this unit governs the design, behind nets of these names and with this quota
unfoldable pub wiring_at : LengthUnit → List (List ℕ) → Library → List (List ℕ) → Quota → Spot → Read (Netted Wiring)
wiring_at u layers l nets quota p = each (wiring_item (governing u p.args) layers l) (netted nets (no_wiring quota)) p.args

-- the wiring of a design, and its nets
unfoldable pub wiring_of : Forest → List (List ℕ) → Library → List (List ℕ) → Quota → Read (Netted Wiring)
wiring_of f layers l nets quota = design_of f >>= λ t. wiring_at t.unit layers l nets quota (section_in sections.Wiring f)
