-- Which pin a reference names, said of its text.
-- Models: the pin_reference descriptor of the SPECCTRA reference; of several `-` the first that does holds.
use Rattle.std.specs.Prelude.{◌≡◌, ℕ, ◌<◌, List, ◌∷◌, ◌++◌, length, slice_get, Some}
use Rattle.dsn_lists.specs.Names.{place_of}
use Rattle.dsn_library.specs.declared.images.Image.{Image}
use Rattle.dsn_library.specs.declared.library.Library.{Library}
use Rattle.dsn_placement.specs.declared.placement.Placement.{Placement}

-- the first text is the name of the pin's component, and the second the id of the pin in its image; components, and the
-- ids of an image, are numbered in the order in which they stand
pub record IsPinAt (p : Placement) (l : Library) (name id : List ℕ) (pin : ℕ × ℕ) : Type 0 where
  pub number : ℕ
  pub image : Image
  pub component : place_of p.components name ≡ Some pin.0
  pub has : slice_get p.images pin.0 ≡ Some number
  pub there : slice_get l.images number ≡ Some image
  pub id_of : place_of image.ids id ≡ Some pin.1

-- a `-` splits the reference into the name of the pin's component and the id of the pin, and none further left splits it
-- into those of a pin
pub record IsPinOf (p : Placement) (l : Library) (text : List ℕ) (pin : ℕ × ℕ) : Type 0 where
  pub name : List ℕ
  pub id : List ℕ
  pub parts : text ≡ name ++ 45 ∷ id
  pub at : IsPinAt p l name id pin
  pub first : (front back : List ℕ) (other : ℕ × ℕ) → text ≡ front ++ 45 ∷ back → length front < length name → IsPinAt p l front back other → ⊥

-- no `-` splits the reference into those of a pin
abbrev pub NamesNone : Placement → Library → List ℕ → Type 0
NamesNone p l text = (front back : List ℕ) (pin : ℕ × ℕ) → text ≡ front ++ 45 ∷ back → IsPinAt p l front back pin → ⊥
