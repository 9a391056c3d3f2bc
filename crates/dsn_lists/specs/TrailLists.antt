-- What the lists behind the words of a shape are, and what is wrong with one.
-- Models: the aperture_type and window descriptors of the SPECCTRA reference, with round apertures alone.
use Rattle.std.specs.Prelude.{◌≡◌, ℕ, ◌⊎◌, true, false, codes}
use Rattle.sexp_text.specs.Forest.{Forest}
use Rattle.dsn_lists.specs.declared.faults.DesignFault.{DesignFault}
use Rattle.dsn_lists.specs.declared.faults.DesignKind.TheVariants as kind
use Rattle.dsn_lists.specs.declared.shapes.TrailWord.{TrailWord}
use Rattle.dsn_lists.specs.declared.shapes.TrailWord.TheVariants as trails
use Rattle.dsn_lists.specs.Words.{Heading, same, head_of}
use Rattle.dsn_lists.specs.Shapes.{trail_word}
use Rattle.dsn_lists.specs.Lists.{Every, told, IsFirst}
use Rattle.dsn_lists.specs.ShortLists.{only_lists, HasStray, HasWord, NoWordOr}

-- ---- the lists behind the words of a shape

-- `(aperture_type <word>)`, behind its keyword: the word isn't `square`
abbrev pub IsAperture : Forest → Type 0
IsAperture f = HasWord (λ text rest. (same text (codes "square") ≡ false) × (only_lists rest ≡ true)) f

-- the fault of an `aperture_type` list
abbrev pub ApertureFault : ℕ → Forest → DesignFault → Type 0
ApertureFault at f e =
    NoWordOr (λ a text rest e. ((same text (codes "square") ≡ true) × (e ≡ told kind.Square a))
    ⊎ ((same text (codes "square") ≡ false) × HasStray rest e)) at f e

-- what a list behind the words of a shape has to be, by its keyword
abbrev pub IsOfTrail : TrailWord → Forest → Type 0
IsOfTrail trails.Window f = ⊥
IsOfTrail trails.ApertureType f = IsAperture f
IsOfTrail trails.Other f = Unit {0}

-- a list that can stand behind the words of a shape
abbrev pub IsTrailList : ℕ → Forest → Type 0
IsTrailList at inside = IsOfTrail (trail_word (head_of inside).text) (head_of inside).args

-- what is wrong with a list behind the words of a shape, by its keyword
abbrev pub OfTrailFault : ℕ → Heading → TrailWord → DesignFault → Type 0
OfTrailFault at h trails.Window e = e ≡ told kind.Window h.at
OfTrailFault at h trails.ApertureType e = ApertureFault at h.args e
OfTrailFault at h trails.Other e = ⊥

-- the fault of a list behind the words of a shape
abbrev pub TrailListFault : Forest → ℕ → Forest → DesignFault → Type 0
TrailListFault before at inside e = OfTrailFault at (head_of inside) (trail_word (head_of inside).text) e

-- lists that can stand behind the words of a shape
abbrev pub IsTrail : Forest → Type 0
IsTrail f = Every IsTrailList f

-- the first fault of what stands behind the words of a shape
abbrev pub TrailFault : Forest → DesignFault → Type 0
TrailFault f e = IsFirst IsTrail TrailListFault f e
