-- The pin that a reference names, and the nets of pins.
-- Models: the pin_reference descriptor of the SPECCTRA reference.
use Rattle.std.specs.Prelude.{◌≡◌, ℕ, ◌+◌, ◌==◌, nat_eq, Bool, true, ◌&&◌, List, [], ◌∷◌, ◌++◌, length, take, drop, get_or, slice_get, Option, Some, None, option_map, option_and_then, if◌then◌else◌}
use Rattle.std.specs.Map.{lookup}
use Rattle.std.specs.List.{list_any}
use Rattle.dsn_lists.specs.Names.{place_of}
use Rattle.dsn_library.specs.declared.images.Image.{Image}
use Rattle.dsn_library.specs.declared.library.Library.{Library}
use Rattle.dsn_placement.specs.declared.placement.Placement.{Placement}

-- ---- the nets of pins

-- the pins are one, by the numbers of their components and of their ids
abbrev pub same_pin : ℕ × ℕ → ℕ × ℕ → Bool
same_pin p q = (p.0 == q.0) && (p.1 == q.1)

-- the net of a pin, by pins with their nets
abbrev pub net_at : List ((ℕ × ℕ) × ℕ) → ℕ × ℕ → Option ℕ
net_at nets p = lookup (same_pin p) nets

-- ---- the pin of a reference

-- the pin of this id, of a component of this number and this image
abbrev pub pin_of_image : ℕ → List ℕ → Image → Option (ℕ × ℕ)
pin_of_image c id image = option_map (λ pin. (c, pin)) (place_of image.ids id)

-- the pin of this id, of the image of the component of this name; the images of the components are given by number
unfoldable pub pin_at : List (List ℕ) → List ℕ → List Image → List ℕ → List ℕ → Option (ℕ × ℕ)
pin_at components images_of images component id =
    option_and_then (λ c. option_and_then (λ i. option_and_then (pin_of_image c id) (slice_get images i)) (slice_get images_of c)) (place_of components component)

-- the first pin, if there is one, and else the second
abbrev pub or_pin : Option (ℕ × ℕ) → Option (ℕ × ℕ) → Option (ℕ × ℕ)
or_pin (Some p) q = Some p
or_pin None q = q

-- the pin of a reference of which this byte stands between these texts, if the byte is `-`
abbrev pub split_by : Placement → Library → List ℕ → ℕ → List ℕ → Option (ℕ × ℕ)
split_by p l front byte back = if byte == 45 then pin_at p.components p.images l.images front back else None

-- the pin of a reference of which this front names none: at the next `-` that splits it into a component and its pin
unfoldable pub pin_from : Placement → Library → List ℕ → List ℕ → Option (ℕ × ℕ)
pin_from p l front [] = None
pin_from p l front (byte ∷ back) = or_pin (split_by p l front byte back) (pin_from p l (front ++ byte ∷ []) back)

-- the pin that a reference names
abbrev pub pin_of : Placement → Library → List ℕ → Option (ℕ × ℕ)
pin_of p l text = pin_from p l [] text

-- the pin of a reference that is split at this byte
abbrev pub split_at : Placement → Library → List ℕ → ℕ → Option (ℕ × ℕ)
split_at p l text at = split_by p l (take at text) (get_or text at 0) (drop (at + 1) text)

-- each name has one of these lengths
abbrev pub HaveLengths : List (List ℕ) → List ℕ → Type 0
HaveLengths names lengths = (place : ℕ) (name : List ℕ) → slice_get names place ≡ Some name → list_any (nat_eq (length name)) lengths ≡ true
