-- What a component of the placement is, and what is wrong with a list that is none.
-- Models: the component descriptor of the SPECCTRA reference.
use Rattle.std.specs.Prelude.{◌≡◌, ℕ, ◌<◌, ◌⊎◌, true, List, [], ◌∷◌, ◌++◌, codes, length, Option, Some, None, if◌then◌else◌}
use Rattle.sexp_text.specs.Forest.{Forest}
use Rattle.sexp_text.specs.declared.units.Unit.{Unit as LengthUnit}
use Rattle.dsn_lists.specs.declared.faults.DesignFault.{DesignFault}
use Rattle.dsn_lists.specs.declared.faults.DesignKind.TheVariants as kind
use Rattle.dsn_lists.specs.Names.{place_of}
use Rattle.dsn_lists.specs.Words.{same, head_of}
use Rattle.dsn_lists.specs.Lists.{collect, Every, When, told, IsFirst}
use Rattle.dsn_lists.specs.ShortLists.{only_lists, HasWord, NoWordOr}
use Rattle.dsn_shapes.specs.declared.quotas.Quota.{Quota}
use Rattle.dsn_placement.specs.declared.placement.Placement.{Placement}
use Rattle.dsn_placement.specs.declared.poses.Pose.{Pose}
use Rattle.dsn_placement.specs.PoseLists.{IsPlaceList}
use Rattle.dsn_placement.specs.PlaceSites.{Site, site, Given, HasSites, SiteFault}

-- ---- `(component <image> (place ..) ..)`

-- the place that a list of a component of this image states
abbrev pub sites_of : List ℕ → ℕ → Forest → List Site
sites_of image at inside = if same (head_of inside).text (codes "place") then site image (head_of inside).args ∷ [] else []

-- a `place` list gives a component its place; other lists are read over
abbrev pub IsOfComponent : LengthUnit → ℕ → Forest → Type 0
IsOfComponent u at inside = When (same (head_of inside).text (codes "place")) ((name : List ℕ) × (pose : Option Pose) × IsPlaceList u (head_of inside).args name pose)

-- the list, behind its keyword, names an image of the library, and has one place or more
abbrev pub IsComponent : Given → Forest → Type 0
IsComponent g f = HasWord (λ image rest. ((n : ℕ) × (place_of g.library.image_names image ≡ Some n)) × Every (IsOfComponent g.unit) rest × (0 < length (collect (sites_of image) rest))) f

-- lists of a component of this image that can stand behind components at these places
abbrev pub PlacesStand : Given → Quota → List Site → List ℕ → Forest → Type 0
PlacesStand g quota sites image f = Every (IsOfComponent g.unit) f × ((p : Placement) × HasSites g quota (sites ++ collect (sites_of image) f) p)

-- the fault of a `place` list behind others
abbrev pub PlaceFault : Given → Quota → List Site → List ℕ → Forest → ℕ → Forest → DesignFault → Type 0
PlaceFault g quota sites image before at inside e =
    (same (head_of inside).text (codes "place") ≡ true) × SiteFault g quota (sites ++ collect (sites_of image) before) at (site image (head_of inside).args) e

-- the fault of a component that begins at this byte, behind components at these places: there is no image of its name; or its
-- first list at fault; or it has no place
abbrev pub ComponentFault : Given → Quota → List Site → ℕ → Forest → DesignFault → Type 0
ComponentFault g quota sites at f e =
    NoWordOr (λ a image rest e. ((place_of g.library.image_names image ≡ None) × (e ≡ told kind.Name a))
    ⊎ (((n : ℕ) × (place_of g.library.image_names image ≡ Some n))
    × (IsFirst (PlacesStand g quota sites image) (PlaceFault g quota sites image) rest e
    ⊎ ((only_lists rest ≡ true) × (collect (sites_of image) rest ≡ []) × (e ≡ told kind.Form at))))) at f e
