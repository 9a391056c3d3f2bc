-- What a wire is, and what is wrong with a list that is none.
-- Models: the wire descriptor in the wiring of the SPECCTRA reference, with paths alone.
use Rattle.std.specs.Prelude.{◌≡◌, ◌≤◌, ℕ, Bool, ◌⊎◌, true, List, [], ◌∷◌, length, Option, Some, None, is_some}
use Rattle.row_lists.specs.Limits.{net_limit}
use Rattle.sexp_text.specs.Forest.{Forest}
use Rattle.sexp_text.specs.declared.units.Unit.{Unit as LengthUnit}
use Rattle.board_items.specs.declared.items.Item.{Item}
use Rattle.board_items.specs.declared.items.Item.TheVariants as items
use Rattle.dsn_lists.specs.declared.faults.DesignFault.{DesignFault}
use Rattle.dsn_lists.specs.declared.faults.DesignKind.TheVariants as kind
use Rattle.dsn_lists.specs.Words.{Heading, head_of}
use Rattle.dsn_lists.specs.Lists.{collect, Every, told, IsFirst}
use Rattle.dsn_shapes.specs.QuotaLists.{NoQuota}
use Rattle.dsn_reader.specs.declared.wires.Track.{Track}
use Rattle.dsn_reader.specs.declared.wires.Draft.{Draft}
use Rattle.dsn_reader.specs.declared.wires.WireWord.{WireWord}
use Rattle.dsn_reader.specs.declared.wires.WireWord.TheVariants as wires
use Rattle.dsn_reader.specs.declared.wiring.Wiring.{Wiring}
use Rattle.dsn_reader.specs.Wirings.{Netted, netted, wire_word, end_word, is_fixed}
use Rattle.dsn_reader.specs.TrackLists.{IsTrack, TrackFault}
use Rattle.dsn_reader.specs.EndLists.{StateAtMostOne, with_names, names_in, AreEnds, OfEndFault}

-- ---- wires

-- a list of a wire is a path, or it is no shape at all
abbrev pub MayStand : WireWord → Type 0
MayStand wires.Path = Unit {0}
MayStand wires.Shape = ⊥
MayStand wires.Arc = ⊥
MayStand wires.Polyline = ⊥
MayStand wires.End = Unit {0}

-- a list that can stand in a wire
abbrev pub IsWireList : ℕ → Forest → Type 0
IsWireList at inside = MayStand (wire_word (head_of inside).text)

-- what stands behind the keyword of a path
abbrev pub path_args : WireWord → Forest → List Forest
path_args wires.Path f = f ∷ []
path_args _ f = []

-- the list, where it is a path
abbrev pub paths_in : ℕ → Forest → List Forest
paths_in at inside = path_args (wire_word (head_of inside).text) (head_of inside).args

-- lists of which at most one is a path on a layer, at most one names a net, one of these, and at most one a type
pub record IsDraft (u : LengthUnit) (layers nets : List (List ℕ)) (f : Forest) (d : Draft) : Type 0 where
  pub formed : Every IsWireList f
  pub track : StateAtMostOne (IsTrack u layers) (collect paths_in f) d.track
  pub ends : AreEnds nets f d.ends

-- the same, where the net is put behind these nets if it isn't there; there are at most 100,000
pub record HasDraft (u : LengthUnit) (layers nets : List (List ℕ)) (f : Forest) (x : Netted Draft) : Type 0 where
  pub nets_are : x.nets ≡ with_names nets (collect names_in f)
  pub few : length x.nets ≤ net_limit
  pub draft : IsDraft u layers x.nets f x.it

-- a wire: one path and one net, at most one type, and fixed where the type is `fix`
pub record IsWire (u : LengthUnit) (layers nets : List (List ℕ)) (f : Forest) (i : Item) : Type 0 where
  pub track : Track
  pub net : ℕ
  pub fix : Option Bool
  pub draft : IsDraft u layers nets f (record { ends = record { net = Some net; fix = fix }; track = Some track })
  pub is : i ≡ items.Wire net track.layer track.width track.points (is_fixed fix)

-- what is wrong with a list that begins at this byte, behind lists that state this, by its keyword
abbrev pub OfWireFault : LengthUnit → List (List ℕ) → Netted Draft → ℕ → Heading → WireWord → DesignFault → Type 0
OfWireFault u layers x at h wires.Path e = ((is_some x.it.track ≡ true) × (e ≡ told kind.Form at)) ⊎ ((x.it.track ≡ None) × TrackFault u layers at h.args e)
OfWireFault u layers x at h wires.Shape e = e ≡ told kind.Shape h.at
OfWireFault u layers x at h wires.Arc e = e ≡ told kind.Arc h.at
OfWireFault u layers x at h wires.Polyline e = e ≡ told kind.Polyline h.at
OfWireFault u layers x at h wires.End e = OfEndFault (netted x.nets x.it.ends) at h.args (end_word h.text) e

-- the fault of a list of a wire, behind others
abbrev pub WireListFault : LengthUnit → List (List ℕ) → List (List ℕ) → Forest → ℕ → Forest → DesignFault → Type 0
WireListFault u layers nets before at inside e = (x : Netted Draft) × HasDraft u layers nets before x × OfWireFault u layers x at (head_of inside) (wire_word (head_of inside).text) e

-- there is no path, or no net
abbrev pub IsLacking : Draft → Type 0
IsLacking d = (d.track ≡ None) ⊎ (d.ends.net ≡ None)

-- there is no room for a wire of this path
abbrev pub NoQuotaFor : Wiring → Option Track → Type 0
NoQuotaFor w None = ⊥
NoQuotaFor w (Some t) = NoQuota w.quota (length t.points)

-- what is wrong with the lists of a wire, all of which can stand: what is missing, or that there is no room; told at its byte
abbrev pub WholeWireFault : Wiring → ℕ → Draft → DesignFault → Type 0
WholeWireFault w at d e = (IsLacking d × (e ≡ told kind.Missing at)) ⊎ ((is_some d.ends.net ≡ true) × NoQuotaFor w d.track × (e ≡ told kind.Large at))

-- the fault of a wire that begins at this byte, behind wiring: of its first list that has one, else of its lists together
abbrev pub WireFault : LengthUnit → List (List ℕ) → Netted Wiring → ℕ → Forest → DesignFault → Type 0
WireFault u layers x at f e =
    IsFirst (λ f. (d : Netted Draft) × HasDraft u layers x.nets f d) (WireListFault u layers x.nets) f e
    ⊎ ((d : Netted Draft) × HasDraft u layers x.nets f d × WholeWireFault x.it at d.it e)
