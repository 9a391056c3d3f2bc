-- The one list of a design: its name, its unit, and its sections.
-- Models: the design descriptor `(pcb ..)` of the SPECCTRA reference, each section at most once.
use Rattle.std.specs.Prelude.{ℕ, ◌==◌, nat_le, Bool, true, false, not, ◌&&◌, List, codes, Option, Some, None, Ok, if◌then◌else◌}
use Rattle.std.specs.List.{list_any, list_all}
use Rattle.sexp_text.specs.Forest.{Forest, End, Word, Branch}
use Rattle.sexp_text.specs.Shows.{forest}
use Rattle.sexp_text.specs.declared.units.Unit.{Unit as LengthUnit}
use Rattle.dsn_lists.specs.declared.faults.DesignKind.TheVariants as kind
use Rattle.dsn_lists.specs.declared.marks.Mark.{Mark}
use Rattle.dsn_lists.specs.declared.pcb.Section.{Section}
use Rattle.dsn_lists.specs.declared.pcb.Section.TheVariants as sections
use Rattle.dsn_lists.specs.declared.pcb.Place.{Place}
use Rattle.dsn_lists.specs.declared.pcb.Seen.{Seen}
use Rattle.dsn_lists.specs.declared.pcb.Title.{Title}
use Rattle.dsn_lists.specs.declared.pcb.Frame.{Frame}
use Rattle.dsn_lists.specs.declared.pcb.PcbWord.{PcbWord}
use Rattle.dsn_lists.specs.declared.pcb.PcbWord.TheVariants as words
use Rattle.dsn_lists.specs.Results.{Read, ◌>>=◌, wrong, each}
use Rattle.dsn_lists.specs.Words.{Heading, same, head_of, word_of, spare}
use Rattle.dsn_lists.specs.Units.{unit_word, unit_list}

-- the bytes are digits
unfoldable pub are_digits : List ℕ → Bool
are_digits text = list_all (λ c. nat_le 48 c && nat_le c 57) text

-- a whole number from 1: digits, of which one isn't 0
unfoldable pub is_whole : List ℕ → Bool
is_whole text = are_digits text && list_any (λ c. not (c == 48)) text

-- the unit that `(resolution <unit> <whole number from 1>)` states
unfoldable pub resolution_list : ℕ → Forest → Read LengthUnit
resolution_list at f = do
  w ← word_of at f
  u ← unit_word w.0
  n ← word_of at w.1
  if is_whole n.0.name then (spare n.1 >>= λ _. Ok u) else wrong kind.Number n.0.at

-- the keyword of a section
abbrev pub section_name : Section → List ℕ
section_name sections.Structure = codes "structure"
section_name sections.Library = codes "library"
section_name sections.Placement = codes "placement"
section_name sections.Network = codes "network"
section_name sections.Wiring = codes "wiring"

-- the section stands among those that were seen
abbrev pub has : Seen → Section → Bool
has s sections.Structure = s.structure
has s sections.Library = s.library
has s sections.Placement = s.placement
has s sections.Network = s.network
has s sections.Wiring = s.wiring

-- the sections that were seen, and this one
abbrev pub with : Seen → Section → Seen
with s sections.Structure = record s { structure = true }
with s sections.Library = record s { library = true }
with s sections.Placement = record s { placement = true }
with s sections.Network = record s { network = true }
with s sections.Wiring = record s { wiring = true }

unfoldable pub section_word : List ℕ → PcbWord
section_word text =
    if same text (codes "structure") then words.Part sections.Structure else
    if same text (codes "library") then words.Part sections.Library else
    if same text (codes "placement") then words.Part sections.Placement else
    if same text (codes "network") then words.Part sections.Network else
    if same text (codes "wiring") then words.Part sections.Wiring else words.Other

-- what a list of the design is
unfoldable pub pcb_word : List ℕ → PcbWord
pcb_word text =
    if same text (codes "unit") then words.Unit else
    if same text (codes "resolution") then words.Resolution else section_word text

abbrev pub pcb_list : Frame → ℕ → Heading → PcbWord → Read Frame
pcb_list fr at h words.Unit = unit_list at h.args >>= λ u. Ok (record fr { unit = Some u })
pcb_list fr at h words.Resolution = resolution_list at h.args >>= λ u. Ok (record fr { resolution = Some u })
pcb_list fr at h (words.Part s) = if has fr.seen s then wrong kind.Twice h.at else Ok (record fr { seen = with fr.seen s })
pcb_list fr at h words.Other = Ok fr

unfoldable pub pcb_item : Frame → ℕ → Forest → Read Frame
pcb_item fr at inside = pcb_list fr at (head_of inside) (pcb_word (head_of inside).text)

abbrev pub no_section : Seen
no_section = record { structure = false; library = false; placement = false; network = false; wiring = false }

abbrev pub no_frame : Frame
no_frame = record { unit = None; resolution = None; seen = no_section }

-- the unit of a frame: that of `unit`, else that of `resolution`
abbrev pub frame_unit : Option LengthUnit → Option LengthUnit → Option LengthUnit
frame_unit (Some u) r = Some u
frame_unit None r = r

abbrev pub unit_or_missing : ℕ → Option LengthUnit → Read LengthUnit
unit_or_missing at (Some u) = Ok u
unit_or_missing at None = wrong kind.Missing at

-- there is a unit and a structure
unfoldable pub complete : ℕ → Frame → Read LengthUnit
complete at fr = if fr.seen.structure then unit_or_missing at (frame_unit fr.unit fr.resolution) else wrong kind.Missing at

-- nothing stands behind the design
unfoldable pub nothing : Forest → Read (Unit {0})
nothing End = Ok tt
nothing (Word at text rest) = wrong kind.Form at
nothing (Branch at inside rest) = wrong kind.Form at

abbrev pub pcb_keyword : Mark → Read (Unit {0})
pcb_keyword w = if same w.name (codes "pcb") then Ok tt else wrong kind.Form w.at

-- what stands in the one list, which begins at this byte
unfoldable pub inside_of : ℕ → Forest → Read Title
inside_of at f = do
  w ← word_of at f
  _ ← pcb_keyword w.0
  n ← word_of at w.1
  fr ← each pcb_item no_frame n.1
  u ← complete at fr
  Ok (record { name = n.0.name; unit = u })

-- the design itself, but for its sections
unfoldable pub design_of : Forest → Read Title
design_of End = wrong kind.Form 0
design_of (Word at text rest) = wrong kind.Form at
design_of (Branch at inside rest) = inside_of at inside >>= λ t. (nothing rest >>= λ _. Ok t)

-- a list: its byte, and what stands behind its keyword
pub record Spot : Type 0 where
  pub at : ℕ
  pub args : Forest

abbrev pub spotted : Place → Spot
spotted p = record { at = p.at; args = forest p.args }

-- the first list of this keyword among the lists; an empty one where there is none
unfoldable pub list_named : List ℕ → Forest → Spot
list_named name End = record { at = 0; args = End }
list_named name (Word at text rest) = list_named name rest
list_named name (Branch at inside rest) = if same (head_of inside).text name then record { at = at; args = (head_of inside).args } else list_named name rest

-- the section of a design
unfoldable pub section_in : Section → Forest → Spot
section_in s End = record { at = 0; args = End }
section_in s (Word at text rest) = record { at = 0; args = End }
section_in s (Branch at inside rest) = list_named (section_name s) inside
