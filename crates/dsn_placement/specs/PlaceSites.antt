-- The components at their places: their names, images, pads and keepouts; and what is wrong with a place.
-- Models: the component and place descriptors of the SPECCTRA reference. Own to this profile: the limit on items and points.
use Rattle.std.specs.Prelude.{◌≡◌, ℕ, suc, ◌⊎◌, false, List, [], ◌∷◌, ◌++◌, map, length, slice_get, Option, Some, None}
use Rattle.sexp_text.specs.Forest.{Forest, End, Word, Branch}
use Rattle.sexp_text.specs.declared.units.Unit.{Unit as LengthUnit}
use Rattle.dsn_turns.specs.Moves.{OneByOne}
use Rattle.dsn_lists.specs.declared.faults.DesignFault.{DesignFault}
use Rattle.dsn_lists.specs.Names.{is_among, place_of}
use Rattle.dsn_lists.specs.Lists.{AreFresh}
use Rattle.dsn_shapes.specs.declared.quotas.Quota.{Quota}
use Rattle.dsn_library.specs.declared.images.ImagePart.{ImagePart}
use Rattle.dsn_library.specs.declared.library.Library.{Library}
use Rattle.dsn_placement.specs.declared.placement.PlacedPart.{PlacedPart}
use Rattle.dsn_placement.specs.declared.placement.Placement.{Placement}
use Rattle.dsn_placement.specs.declared.poses.Pose.{Pose}
use Rattle.dsn_placement.specs.Placements.{Ground, parts_of}
use Rattle.dsn_placement.specs.PoseLists.{IsPlaceList, PlaceListFault}
use Rattle.dsn_placement.specs.PlaceParts.{ArePlaced, AreTaken, PartsFault}

-- a place of a component: the name of its image, and what stands behind the keyword `place`
pub record Site : Type 0 where
  pub image : List ℕ
  pub args : Forest

abbrev pub site : List ℕ → Forest → Site
site image args = record { image = image; args = args }

-- the name of a component, which is the first word
abbrev pub name_in : Forest → List ℕ
name_in End = []
name_in (Word at text rest) = text
name_in (Branch at inside rest) = []

-- the names of the components at these places
abbrev pub names_at : List Site → List (List ℕ)
names_at sites = map (λ (s : Site). name_in s.args) sites

-- the parts of the image of this number
abbrev pub parts_numbered : Library → Option ℕ → List ImagePart
parts_numbered l None = []
parts_numbered l (Some n) = parts_of (slice_get l.images n)

-- the parts of the image of this name
abbrev pub parts_named : Library → List ℕ → List ImagePart
parts_named l name = parts_numbered l (place_of l.image_names name)

-- what is given to the components of a section: the unit of lengths, how they lie, and the library
pub record Given : Type 0 where
  pub unit : LengthUnit
  pub setting : Ground
  pub library : Library

-- the component of this number at its place has these pads and keepouts
abbrev pub AreOfSite : Given → ℕ → Site → List PlacedPart → Type 0
AreOfSite g n s ps = (name : List ℕ) × (pose : Option Pose) × IsPlaceList g.unit s.args name pose × ArePlaced g.setting pose n (parts_named g.library s.image) ps

-- the pads and keepouts of the components at these places, one component after another, of which the first has this number
abbrev pub AreOfSites : Given → ℕ → List Site → List PlacedPart → Type 0
AreOfSites g n [] ps = ps ≡ []
AreOfSites g n (s ∷ ss) ps = (front : List PlacedPart) × (back : List PlacedPart) × AreOfSite g n s front × AreOfSites g (suc n) ss back × (ps ≡ front ++ back)

-- The components at these places. They are numbered in order, and no two have one name. Each has the image that its list
-- names. Pads and keepouts take their part of this quota.
pub record HasSites (g : Given) (quota : Quota) (sites : List Site) (p : Placement) : Type 0 where
  pub names : p.components ≡ names_at sites
  pub fresh : AreFresh p.components
  pub images : OneByOne (λ (s : Site) (n : ℕ). place_of g.library.image_names s.image ≡ Some n) sites p.images
  pub parts : AreOfSites g 0 sites p.parts
  pub taken : AreTaken quota p.parts p.quota

-- the parts of a component that is placed behind those of p do not all have their place
abbrev pub SitePartsFault : Given → Placement → ℕ → Site → DesignFault → Type 0
SitePartsFault g p at s e =
    (name : List ℕ) × (pose : Pose) × IsPlaceList g.unit s.args name (Some pose) × (is_among name p.components ≡ false)
    × PartsFault g.setting pose (length p.components) p.quota at (parts_named g.library s.image) e

-- the fault of a place that begins at this byte, behind components at these places: that of its list, or of a part
abbrev pub SiteFault : Given → Quota → List Site → ℕ → Site → DesignFault → Type 0
SiteFault g quota sites at s e = PlaceListFault g.unit (names_at sites) at s.args e ⊎ ((p : Placement) × HasSites g quota sites p × SitePartsFault g p at s e)
