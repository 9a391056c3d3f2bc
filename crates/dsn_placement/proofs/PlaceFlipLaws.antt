-- The flip style that governs a placement is the one that is read ahead.
use Rattle.std.proofs.Common.{◌≡◌, ℕ, Bool, true, false, cond, List, [], ◌∷◌, ◌++◌, codes, Option, Some, None, option_to_list, Ok, Err, refl, sym, ap, ◌∙◌}
use Rattle.sexp_text.specs.Forest.{Forest, End, Word, Branch}
use Rattle.dsn_lists.specs.declared.faults.DesignFault.{DesignFault}
use Rattle.dsn_lists.specs.declared.faults.DesignKind.TheVariants as kind
use Rattle.dsn_lists.specs.Results.{Read, ◌>>=◌, wrong, each}
use Rattle.dsn_lists.specs.Words.{same, head_of, word_of, spare_list}
use Rattle.dsn_lists.specs.Lists.{collect, args_of, last_of, told}
use Rattle.dsn_lists.specs.ShortLists.{only_lists}
use Rattle.dsn_lists.proofs.Firsts.{made}
use Rattle.dsn_lists.proofs.ShortLaws.{spare_again}
use Rattle.dsn_lists.proofs.UnitLaws.{last-append}
use Rattle.dsn_structure.specs.declared.flips.FlipStyle.{FlipStyle}
use Rattle.dsn_structure.specs.declared.flips.FlipStyle.TheVariants.{MirrorFirst, RotateFirst}
use Rattle.dsn_structure.specs.Structures.{flip_named, known_flip, flip_list, flip_item, stated_flip, flip_of}
use Rattle.dsn_placement.specs.Components.{stated_style, style_behind, governing_style, flip_by}
use Rattle.dsn_placement.specs.PlaceFlips.{style_told, style_of_one, control_told, controls_in, or_mirror, governing_flip, flip_for}

-- the value that was read, where there is one
abbrev told_of : Read FlipStyle → List FlipStyle
told_of (Ok s) = s ∷ []
told_of (Err e) = []

stray_some : (f : Forest) (u : Unit {0}) → only_lists f ≡ false → (e : DesignFault) × (each spare_list u f ≡ Err e)
unfolding each
stray_some End u h = absurd cc
stray_some (Word at text rest) u h = (told kind.Form at, refl)
stray_some (Branch at inside rest) u h = stray_some rest u h

-- ---- a `flip_style` list

word_told : (a : ℕ) (rest : Forest) (o : Option FlipStyle) (b : Bool) → only_lists rest ≡ b → told_of (known_flip a o >>= λ s. each spare_list tt rest >>= λ _. made s) ≡ cond b (option_to_list o) []
word_told a rest None true is = refl
word_told a rest None false is = refl
word_told a rest (Some s) true is = rw (spare_again rest tt is) refl
word_told a rest (Some s) false is = let e = stray_some rest tt is in rw e.1 refl

style_is : (at : ℕ) (f : Forest) → told_of (flip_list at f) ≡ style_told f
unfolding flip_list word_of
style_is at End = refl
style_is at (Branch a inside rest) = refl
style_is at (Word a text rest) = word_told a rest (flip_named text) (only_lists rest) refl

-- ---- a `place_control` list

-- these, where no list stands beside
abbrev alone : List Forest → List FlipStyle → List FlipStyle
alone [] ss = ss
alone (f ∷ fs) ss = []

abbrev flips_in : Forest → List Forest
flips_in f = collect (args_of (codes "flip_style")) f

one_alone : (f : Forest) (fs : List Forest) → alone fs (style_told f) ≡ style_of_one (f ∷ fs)
one_alone f [] = refl
one_alone f (g ∷ fs) = refl

alone_nothing : (fs : List Forest) → alone fs [] ≡ []
alone_nothing [] = refl
alone_nothing (f ∷ fs) = refl

abbrev no_style : List FlipStyle
no_style = []

nothing : (b : Bool) → no_style ≡ cond b no_style no_style
nothing true = refl
nothing false = refl

-- behind a list with this style
behind_some : (at : ℕ) (s : FlipStyle) (f : Forest) → told_of (each flip_item (Some s) f >>= λ o. stated_flip at o) ≡ cond (only_lists f) (alone (flips_in f) (s ∷ [])) []
unfolding each flip_item
behind_some at s End = refl
behind_some at s (Word a text rest) = refl
behind_some at s (Branch a inside rest) = by (same (head_of inside).text (codes "flip_style")) (behind_some at s rest)
  where
    by : (b : Bool) → told_of (each flip_item (Some s) rest >>= λ o. stated_flip at o) ≡ cond (only_lists rest) (alone (flips_in rest) (s ∷ [])) []
        → told_of (cond b (wrong kind.Form a) (made (Some s)) >>= (λ y. each flip_item y rest) >>= λ o. stated_flip at o)
        ≡ cond (only_lists rest) (alone (cond b ((head_of inside).args ∷ []) [] ++ flips_in rest) (s ∷ [])) []
    by true h = nothing (only_lists rest)
    by false h = h

-- behind none
behind_none : (at : ℕ) (f : Forest) → told_of (each flip_item None f >>= λ o. stated_flip at o) ≡ control_told f
unfolding each flip_item
behind_none at End = refl
behind_none at (Word a text rest) = refl
behind_none at (Branch a inside rest) = by (same (head_of inside).text (codes "flip_style")) (behind_none at rest)
  where
    first : (r : Read FlipStyle) (ss : List FlipStyle) → told_of r ≡ ss
        → told_of (r >>= (λ s. made (Some s)) >>= (λ y. each flip_item y rest) >>= λ o. stated_flip at o) ≡ cond (only_lists rest) (alone (flips_in rest) ss) []
    first (Ok s) ss is = behind_some at s rest ∙ ap (λ (x : List FlipStyle). cond (only_lists rest) (alone (flips_in rest) x) []) is
    first (Err e) ss is = nothing (only_lists rest) ∙ ap (λ (x : List FlipStyle). cond (only_lists rest) x []) (sym (alone_nothing (flips_in rest)) ∙ ap (λ (x : List FlipStyle). alone (flips_in rest) x) is)

    by : (b : Bool) → told_of (each flip_item None rest >>= λ o. stated_flip at o) ≡ control_told rest
        → told_of (cond b (flip_list a (head_of inside).args >>= λ s. made (Some s)) (made None) >>= (λ y. each flip_item y rest) >>= λ o. stated_flip at o)
        ≡ cond (only_lists rest) (style_of_one (cond b ((head_of inside).args ∷ []) [] ++ flips_in rest)) []
    by true h = first (flip_list a (head_of inside).args) (style_told (head_of inside).args) (style_is a (head_of inside).args) ∙ ap (λ (x : List FlipStyle). cond (only_lists rest) x []) (one_alone (head_of inside).args (flips_in rest))
    by false h = h

control_is : (at : ℕ) (f : Forest) → told_of (flip_of at f) ≡ control_told f
unfolding flip_of
control_is at f = behind_none at f

-- ---- the style that governs

stated_is : (o : Option FlipStyle) (r : Read FlipStyle) → or_mirror (stated_style o r) ≡ last_of (or_mirror o) (told_of r)
stated_is o (Ok s) = refl
stated_is o (Err e) = refl

behind_is : (o : Option FlipStyle) (at : ℕ) (f : Forest) (b : Bool) → or_mirror (cond b (stated_style o (flip_of at f)) o) ≡ last_of (or_mirror o) (cond b (control_told f) [])
behind_is o at f true = stated_is o (flip_of at f) ∙ ap (λ (ss : List FlipStyle). last_of (or_mirror o) ss) (control_is at f)
behind_is o at f false = refl

style_governs : (o : Option FlipStyle) (f : Forest) → or_mirror (governing_style o f) ≡ governing_flip o f
unfolding governing_style style_behind
style_governs o End = refl
style_governs o (Word at text rest) = style_governs o rest
style_governs o (Branch at inside rest) =
    style_governs (style_behind o at inside) rest
    ∙ ap (λ (s : FlipStyle). last_of s (collect controls_in rest)) (behind_is o at (head_of inside).args (same (head_of inside).text (codes "place_control")))
    ∙ sym (last-append (or_mirror o) (controls_in at inside) (collect controls_in rest))

flip_is : (o : Option FlipStyle) → flip_by o ≡ flip_for (or_mirror o)
flip_is None = refl
flip_is (Some MirrorFirst) = refl
flip_is (Some RotateFirst) = refl

-- the flip that governs is the one that is read
pub flip_governs : (o : Option FlipStyle) (f : Forest) → flip_by (governing_style o f) ≡ flip_for (governing_flip o f)
flip_governs o f = flip_is (governing_style o f) ∙ ap flip_for (style_governs o f)
