-- The pins that the references of a network name, each with its net.
use Rattle.std.specs.Prelude.{◌≡◌, ℕ, suc, not, List, [], ◌∷◌, ◌++◌, map, filter, codes, Contains, if◌then◌else◌}
use Rattle.sexp_text.specs.Forest.{Forest, End, Word, Branch}
use Rattle.dsn_lists.specs.declared.marks.Mark.{Mark}
use Rattle.dsn_lists.specs.Words.{same, head_of}
use Rattle.dsn_lists.specs.Lists.{collect}
use Rattle.dsn_lists.specs.ShortLists.{first_words}
use Rattle.dsn_library.specs.declared.library.Library.{Library}
use Rattle.dsn_placement.specs.declared.placement.Placement.{Placement}
use Rattle.dsn_network.specs.References.{same_pin}
use Rattle.dsn_network.specs.PinOf.{IsPinOf}

-- ---- references

-- the references in a list of a net, where it is one of pins
abbrev pub references_in : ℕ → Forest → List (List ℕ)
references_in at inside = if same (head_of inside).text (codes "pins") then map (λ (m : Mark). m.name) (first_words (head_of inside).args) else []

-- the references of a net: those in the lists behind its name
abbrev pub references_of : Forest → List (List (List ℕ))
references_of End = []
references_of (Word at text rest) = collect references_in rest ∷ []
references_of (Branch at inside rest) = []

-- the references of nets, each with the number of its net; the nets are numbered from this number on
abbrev pub with_nets : ℕ → List (List (List ℕ)) → List (List ℕ × ℕ)
with_nets net [] = []
with_nets net (texts ∷ more) = map (λ (text : List ℕ). (text, net)) texts ++ with_nets (suc net) more

-- ---- pins

-- one of the references, of the net of this number, names the pin
abbrev pub IsInNet : Placement → Library → List (List ℕ × ℕ) → ℕ × ℕ → ℕ → Type 0
IsInNet p l references pin net = (text : List ℕ) × Contains references (text, net) × IsPinOf p l text pin

-- the references name these pins, one by one, and each pin has the net of its reference
abbrev pub NamePins : Placement → Library → List (List ℕ × ℕ) → List ((ℕ × ℕ) × ℕ) → Type 0
NamePins p l [] pins = pins ≡ []
NamePins p l (r ∷ references) [] = ⊥
NamePins p l (r ∷ references) (x ∷ pins) = IsPinOf p l r.0 x.0 × (x.1 ≡ r.1) × NamePins p l references pins

-- of the pins that are the same the first alone
abbrev pub each_first : List ((ℕ × ℕ) × ℕ) → List ((ℕ × ℕ) × ℕ)
each_first [] = []
each_first (x ∷ pins) = x ∷ filter (λ (y : (ℕ × ℕ) × ℕ). not (same_pin x.0 y.0)) (each_first pins)

-- Each reference names a pin, and no pin is named in two nets. The pins that are named have the nets in which they are,
-- each once, in the order in which they are named first.
pub record ArePins (p : Placement) (l : Library) (references : List (List ℕ × ℕ)) (pins : List ((ℕ × ℕ) × ℕ)) : Type 0 where
  pub named : List ((ℕ × ℕ) × ℕ)
  pub name : NamePins p l references named
  pub agree : (pin : ℕ × ℕ) (net other : ℕ) → IsInNet p l references pin net → IsInNet p l references pin other → net ≡ other
  pub once : pins ≡ each_first named
