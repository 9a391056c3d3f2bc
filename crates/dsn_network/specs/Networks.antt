-- What the lists of the network section state.
-- Models: the network, net, pins, class, circuit and use_via descriptors of the SPECCTRA reference.
-- Left out: all other lists, but for those of ClassPairings.
use Rattle.std.specs.Prelude.{ℕ, suc, nat_lt, ◌==◌, List, [], ◌∷◌, ◌++◌, set, get_or, codes, length, Option, Some, None, Ok, if◌then◌else◌}
use Rattle.row_lists.specs.Limits.{net_limit}
use Rattle.sexp_text.specs.Forest.{Forest, End, Word, Branch}
use Rattle.sexp_text.specs.declared.units.Unit.{Unit as LengthUnit}
use Rattle.dsn_lists.specs.declared.faults.DesignKind.TheVariants as kind
use Rattle.dsn_lists.specs.declared.marks.Mark.{Mark}
use Rattle.dsn_lists.specs.declared.pcb.Section.TheVariants as sections
use Rattle.dsn_lists.specs.Results.{Read, ◌>>=◌, wrong, each}
use Rattle.dsn_lists.specs.Names.{place_of}
use Rattle.dsn_lists.specs.Words.{Heading, same, mark, head_of, word_of, spare, names, name_list}
use Rattle.dsn_lists.specs.Keyed.{keyed}
use Rattle.dsn_lists.specs.Units.{unit_list, governing}
use Rattle.dsn_lists.specs.Rules.{no_rule, rule_of}
use Rattle.dsn_lists.specs.Pcbs.{Spot, design_of, section_in}
use Rattle.dsn_lists.specs.NewNames.{new_name}
use Rattle.dsn_shapes.specs.declared.quotas.Quota.{Quota}
use Rattle.dsn_network.specs.declared.classes.Class.{Class}
use Rattle.dsn_network.specs.declared.classes.ClassWord.{ClassWord}
use Rattle.dsn_network.specs.declared.classes.ClassWord.TheVariants as class
use Rattle.dsn_library.specs.declared.library.Library.{Library}
use Rattle.dsn_network.specs.declared.network.Network.{Network}
use Rattle.dsn_network.specs.declared.network.NetworkWord.{NetworkWord}
use Rattle.dsn_network.specs.declared.network.NetworkWord.TheVariants as words
use Rattle.dsn_placement.specs.declared.placement.Placement.{Placement}
use Rattle.dsn_network.specs.References.{net_at, pin_of}
use Rattle.dsn_network.specs.ClassPairings.{pairs_of}

-- ---- nets

-- the nets of pins, and this net of one more pin, unless the pin has it; another net that the pin has is a fault
abbrev pub net_added : ℕ → List ((ℕ × ℕ) × ℕ) → ℕ × ℕ → ℕ → Option ℕ → Read (List ((ℕ × ℕ) × ℕ))
net_added net pins p at None = Ok (pins ++ (p, net) ∷ [])
net_added net pins p at (Some k) = if k == net then Ok pins else wrong kind.Twice at

-- the nets of pins behind a reference at this byte, by the pin that it names
abbrev pub pin_added : ℕ → List ((ℕ × ℕ) × ℕ) → ℕ → Option (ℕ × ℕ) → Read (List ((ℕ × ℕ) × ℕ))
pin_added net pins at None = wrong kind.Name at
pin_added net pins at (Some p) = net_added net pins p at (net_at pins p)

-- the nets of pins behind a reference of this net
unfoldable pub reference_of : Placement → Library → ℕ → List ((ℕ × ℕ) × ℕ) → Mark → Read (List ((ℕ × ℕ) × ℕ))
reference_of p l net pins w = pin_added net pins w.at (pin_of p l w.name)

-- the nets of pins behind `(pins <reference> ..)` of this net
unfoldable pub pins_of : Placement → Library → ℕ → List ((ℕ × ℕ) × ℕ) → Forest → Read (List ((ℕ × ℕ) × ℕ))
pins_of p l net pins End = Ok pins
pins_of p l net pins (Word at text rest) = reference_of p l net pins (mark at text) >>= λ more. pins_of p l net more rest
pins_of p l net pins (Branch at inside rest) = spare (Branch at inside rest) >>= λ _. Ok pins

unfoldable pub net_item : Placement → Library → ℕ → List ((ℕ × ℕ) × ℕ) → ℕ → Forest → Read (List ((ℕ × ℕ) × ℕ))
net_item p l net pins at inside = if same (head_of inside).text (codes "pins") then pins_of p l net pins (head_of inside).args else Ok pins

-- the network with one more net, whose number is that of the nets before it
unfoldable pub with_net : Placement → Library → Network → ℕ → Forest → Read Network
with_net p l n at f = do
  w ← word_of at f
  _ ← new_name net_limit n.nets w.0
  pins ← each (net_item p l (length n.nets)) n.pins w.1
  Ok (record n { nets = n.nets ++ w.0.name ∷ []; pins = pins })

-- ---- classes

-- the lists of vias and one more
abbrev pub one_more_use : List (List Mark) → ℕ → Forest → Read (List (List Mark))
one_more_use vs at f = name_list at f >>= λ ms. Ok (vs ++ ms ∷ [])

unfoldable pub use_item : List (List Mark) → ℕ → Forest → Read (List (List Mark))
use_item vs at inside = keyed (codes "use_via") one_more_use vs at inside

-- a circuit has a list of vias, so there are more than before
unfoldable pub more_vias : ℕ → ℕ → List (List Mark) → Read (List (List Mark))
more_vias at before vs = if nat_lt before (length vs) then Ok vs else wrong kind.Form at

-- `(circuit (use_via <padstack> ..))`, behind earlier lists of vias
unfoldable pub circuit_of : List (List Mark) → ℕ → Forest → Read (List (List Mark))
circuit_of vs at f = each use_item vs f >>= λ all. more_vias at (length vs) all

unfoldable pub class_word : List ℕ → ClassWord
class_word text =
    if same text (codes "circuit") then class.Circuit else
    if same text (codes "rule") then class.Rules else class.Other

-- the class with the vias of one more circuit
abbrev pub with_circuit : Class → ℕ → Forest → Read Class
with_circuit c at f = circuit_of c.vias at f >>= λ vs. Ok (record c { vias = vs })

-- the class with what one more rule states
abbrev pub with_rule : LengthUnit → Class → Forest → Read Class
with_rule u c f = rule_of u c.rule f >>= λ r. Ok (record c { rule = r })

abbrev pub class_list : LengthUnit → Class → ℕ → Heading → ClassWord → Read Class
class_list u c at h class.Circuit = with_circuit c at h.args
class_list u c at h class.Rules = with_rule u c h.args
class_list u c at h class.Other = Ok c

unfoldable pub class_item : LengthUnit → Class → ℕ → Forest → Read Class
class_item u c at inside = class_list u c at (head_of inside) (class_word (head_of inside).text)

-- a class of this name and these nets
abbrev pub new_class : List ℕ → List Mark → Class
new_class name nets = record { name = name; nets = nets; vias = []; rule = no_rule }

-- `(class <id> <net> .. ..)`
unfoldable pub class_of : LengthUnit → ℕ → Forest → Read Class
class_of u at f = do
  w ← word_of at f
  each (class_item u) (new_class w.0.name (names [] w.1).0) (names [] w.1).1

-- ---- the classes of nets

-- the class of the net of this number, unless it has one
abbrev pub in_class : List ℕ → ℕ → Option ℕ → List ℕ
in_class cs k None = cs
in_class cs k (Some n) = if get_or cs n 0 == 0 then set cs n k else cs

-- the classes of the nets behind those nets that the k-th class names
unfoldable pub named_in : List (List ℕ) → ℕ → List ℕ → List Mark → List ℕ
named_in nets k cs [] = cs
named_in nets k cs (m ∷ ms) = named_in nets k (in_class cs k (place_of nets m.name)) ms

-- the classes of the nets behind all classes from the k-th on; 0 for a net that none names
unfoldable pub classed : List (List ℕ) → ℕ → List ℕ → List Class → List ℕ
classed nets k cs [] = cs
classed nets k cs (c ∷ classes) = classed nets (suc k) (named_in nets k cs c.nets) classes

-- ---- the section

unfoldable pub network_word : List ℕ → NetworkWord
network_word text =
    if same text (codes "net") then words.Net else
    if same text (codes "class") then words.Class else
    if same text (codes "class_class") then words.Pairs else
    if same text (codes "unit") then words.Unit else
    if same text (codes "resolution") then words.Resolution else words.Other

-- the network with one more class
abbrev pub with_class : LengthUnit → Network → ℕ → Forest → Read Network
with_class u n at f = class_of u at f >>= λ c. Ok (record n { classes = n.classes ++ c ∷ [] })

-- the network with what one more list states between classes
abbrev pub with_pairs : LengthUnit → Network → ℕ → Forest → Read Network
with_pairs u n at f = pairs_of u at f >>= λ p. Ok (record n { pairs = n.pairs ++ p ∷ [] })

abbrev pub network_list : LengthUnit → Placement → Library → Network → ℕ → Heading → NetworkWord → Read Network
network_list u p l n at h words.Net = with_net p l n at h.args
network_list u p l n at h words.Class = with_class u n at h.args
network_list u p l n at h words.Pairs = with_pairs u n at h.args
network_list u p l n at h words.Unit = unit_list at h.args >>= λ _. Ok n
network_list u p l n at h words.Resolution = wrong kind.Unit h.at
network_list u p l n at h words.Other = Ok n

unfoldable pub network_item : LengthUnit → Placement → Library → Network → ℕ → Forest → Read Network
network_item u p l n at inside = network_list u p l n at (head_of inside) (network_word (head_of inside).text)

-- no net, and this quota for items and points
abbrev pub no_network : Quota → Network
no_network quota = record { nets = []; pins = []; classes = []; pairs = []; quota = quota }

-- the section at its place, where this unit governs the design
unfoldable pub network_at : LengthUnit → Placement → Library → Spot → Read Network
network_at u p l s = each (network_item (governing u s.args) p l) (no_network p.quota) s.args

-- the network of a design with this placement and library
unfoldable pub network_of : Forest → Placement → Library → Read Network
network_of f p l = design_of f >>= λ t. network_at t.unit p l (section_in sections.Network f)
