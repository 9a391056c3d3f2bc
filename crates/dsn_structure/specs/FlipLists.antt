-- What a `place_control` list is, and what is wrong with one that is none.
-- Models: the place_control descriptor of the SPECCTRA reference. Left out: its other lists.
use Rattle.std.specs.Prelude.{◌≡◌, ℕ, ◌≤◌, ◌⊎◌, true, List, [], codes, length, Some, None, option_to_list, if◌then◌else◌}
use Rattle.sexp_text.specs.Forest.{Forest, End, Word, Branch}
use Rattle.dsn_lists.specs.declared.faults.DesignFault.{DesignFault}
use Rattle.dsn_lists.specs.declared.faults.DesignKind.TheVariants as kind
use Rattle.dsn_lists.specs.Words.{same, head_of}
use Rattle.dsn_lists.specs.Lists.{collect, Every, When, told, IsFirst}
use Rattle.dsn_lists.specs.ShortLists.{only_lists, HasStray, HasWord, NoWordOr}
use Rattle.dsn_structure.specs.declared.flips.FlipStyle.{FlipStyle}
use Rattle.dsn_structure.specs.Structures.{flip_named}

-- ---- `(place_control (flip_style mirror_first|rotate_first))`

-- the word names a flip style
abbrev pub NamesFlip : List ℕ → Type 0
NamesFlip text = (s : FlipStyle) × (flip_named text ≡ Some s)

-- `(flip_style <word>)`, behind its keyword
abbrev pub IsFlipStyle : Forest → Type 0
IsFlipStyle f = HasWord (λ text rest. NamesFlip text × (only_lists rest ≡ true)) f

-- the fault of a `flip_style` list
abbrev pub FlipStyleFault : ℕ → Forest → DesignFault → Type 0
FlipStyleFault at f e = NoWordOr (λ a text rest e. ((flip_named text ≡ None) × (e ≡ told kind.Style a)) ⊎ (NamesFlip text × HasStray rest e)) at f e

-- the flip style that the first word names
abbrev pub style_named : Forest → List FlipStyle
style_named End = []
style_named (Word at text rest) = option_to_list (flip_named text)
style_named (Branch at inside rest) = []

-- a `flip_style` list names a style; other lists are read over
abbrev pub IsControl : ℕ → Forest → Type 0
IsControl at inside = When (same (head_of inside).text (codes "flip_style")) (IsFlipStyle (head_of inside).args)

-- the flip style of a list
abbrev pub styles_in : ℕ → Forest → List FlipStyle
styles_in at inside = if same (head_of inside).text (codes "flip_style") then style_named (head_of inside).args else []

-- lists of which at most one states a flip style
abbrev pub AreControls : Forest → Type 0
AreControls f = Every IsControl f × (length (collect styles_in f) ≤ 1)

-- the fault of a `flip_style` list behind others: it is the second, or it names no style
abbrev pub ControlFault : Forest → ℕ → Forest → DesignFault → Type 0
ControlFault before at inside e =
    (same (head_of inside).text (codes "flip_style") ≡ true)
    × (((length (collect styles_in before) ≡ 1) × (e ≡ told kind.Form at)) ⊎ ((collect styles_in before ≡ []) × FlipStyleFault at (head_of inside).args e))

-- lists of which one states a flip style
abbrev pub IsPlaceControl : Forest → Type 0
IsPlaceControl f = Every IsControl f × (length (collect styles_in f) ≡ 1)

-- the first fault of a `place_control` that begins at this byte; where there is no flip style it is told there
abbrev pub PlaceControlFault : ℕ → Forest → DesignFault → Type 0
PlaceControlFault at f e = IsFirst AreControls ControlFault f e ⊎ (Every IsControl f × (collect styles_in f ≡ []) × (e ≡ told kind.Form at))
