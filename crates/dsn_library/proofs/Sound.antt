-- What the library section states is within the limits.
use Rattle.std.proofs.Common.{◌≡◌, ℕ, ℤ, ◌+◌, ◌*◌, ◌≤◌, ◌<◌, unsigned_abs, Bool, true, false, cond, List, [], ◌∷◌, ◌++◌, codes, length, Ok, refl, sym, ap, ◌∙◌, subst, arith}
use Rattle.std.specs.List.{AllByRecursion}
use Rattle.std.proofs.lemmas.List.{length-append}
use Rattle.sexp_text.specs.Forest.{Forest, End, Word, Branch}
use Rattle.sexp_text.specs.Nodes.{size}
use Rattle.sexp_text.specs.declared.units.Unit.{Unit as LengthUnit}
use Rattle.seg_geometry.specs.Points.{IsInRange}
use Rattle.area_geometry.specs.declared.shapes.Shape.{Shape}
use Rattle.board_items.specs.declared.items.Padstack.{Padstack}
use Rattle.dsn_lists.specs.declared.marks.Mark.{Mark}
use Rattle.dsn_lists.specs.declared.faults.DesignKind.TheVariants as kind
use Rattle.dsn_lists.specs.declared.pcb.Section.TheVariants as sections
use Rattle.dsn_lists.specs.Results.{each}
use Rattle.dsn_lists.specs.Words.{Heading, same, mark, head_of, word_of}
use Rattle.dsn_lists.specs.Lists.{collect, Every}
use Rattle.dsn_lists.specs.ShortLists.{HasWord}
use Rattle.dsn_lists.specs.Measures.{Measures, governing_unit}
use Rattle.dsn_lists.specs.Units.{unit_list, governing}
use Rattle.dsn_lists.specs.Pcbs.{Spot, design_of, section_in}
use Rattle.dsn_lists.proofs.Bounds.{ok_is, err_gives, bind_ok, then_ok, each_keeps, all_push, place_bound, length_word_bound}
use Rattle.dsn_lists.proofs.Sizes.{each_keeps_within, each_grows, word_of_size, head_of_size, section_size}
use Rattle.dsn_lists.proofs.LengthWordLaws.{length_again}
use Rattle.dsn_shapes.specs.Limits.{AreFitDrawn}
use Rattle.dsn_shapes.specs.Drawn.{shapes_of}
use Rattle.dsn_shapes.specs.NameLists.{first_word, first_of}
use Rattle.dsn_shapes.proofs.DrawnFits.{shapes_of_fit, shapes_of_few}
use Rattle.dsn_shapes.proofs.KeepFits.{keep_shapes_fit}
use Rattle.dsn_shapes.proofs.KeepLaws.{keep_again}
use Rattle.dsn_shapes.proofs.NameLaws.{each_once_fresh}
use Rattle.dsn_library.specs.declared.images.Image.{Image}
use Rattle.dsn_library.specs.declared.images.ImagePart.{ImagePart}
use Rattle.dsn_library.specs.declared.images.ImagePart.TheVariants as parts
use Rattle.dsn_library.specs.declared.image_lists.ImageWord.{ImageWord}
use Rattle.dsn_library.specs.declared.image_lists.ImageWord.TheVariants as of_image
use Rattle.dsn_library.specs.declared.stacks.Drawn.{Drawn}
use Rattle.dsn_library.specs.declared.stacks.StackWord.{StackWord}
use Rattle.dsn_library.specs.declared.stacks.StackWord.TheVariants as stacks
use Rattle.dsn_library.specs.declared.library.Library.{Library}
use Rattle.dsn_library.specs.declared.library.LibraryWord.{LibraryWord}
use Rattle.dsn_library.specs.declared.library.LibraryWord.TheVariants as words
use Rattle.dsn_library.specs.Images.{PinWords, image_of}
use Rattle.dsn_library.specs.Libraries.{not_first, stack_word, stack_list, stack_item, nothing_drawn, as_stack, stack_of, library_word, library_list, library_item, no_library, all_stacks, library_at, library_of}
use Rattle.dsn_lists.specs.NewNames.{first_name, new_name}
use Rattle.dsn_library.specs.AngleWords.{HasAngle}
use Rattle.dsn_library.specs.ImageLists.{first_lists, behind_lists, rotates_in, StateTurn, IsRotate, IsPin}
use Rattle.dsn_library.specs.ImageMeaning.{IsPart, AreParts, parts_in, IsImage}
use Rattle.dsn_library.specs.StackLists.{IsStack}
use Rattle.dsn_library.specs.LibraryParts.{padstacks, IsOfLibrary, IsLibraryList, name_of_list, names_in, stacks_in, AreStacks, image_name_of_list, image_names_in, images_in, AreImages}
use Rattle.dsn_library.specs.LibraryMeaning.{IsSection}
use Rattle.dsn_library.specs.Limits.{IsFitStack, IsFitImagePart, IsFitImage, IsFitLibrary}
use Rattle.dsn_library.proofs.StackReadings.{stack_again, stack_name, stack_is}
use Rattle.dsn_library.proofs.ImageReadings.{image_name, image_is}
use Rattle.dsn_library.proofs.LibraryListLaws.{value_of_list, image_of_value}
use Rattle.dsn_library.proofs.LibraryLaws.{values_in, image_values_in, stacks_are, same_stacks, images_are, same_images}
use Rattle.dsn_library.proofs.LibraryWhole.{has_found}

-- ---- padstacks

abbrev IsFitSoFar : ℕ → Drawn → Type 0
IsFitSoFar count d = AreFitDrawn count d.shapes

fit_stack_list : (u : LengthUnit) (layers : List (List ℕ)) (d : Drawn) (at : ℕ) (h : Heading) (w : StackWord) (y : Drawn) → IsFitSoFar (length layers) d → stack_list u layers d at h w ≡ Ok y → IsFitSoFar (length layers) y
fit_stack_list u layers d at h stacks.Shapes y p e =
    let a = bind_ok (shapes_of u layers d.shapes at h.args) _ y e in
    subst (IsFitSoFar (length layers)) (ok_is a.2) (shapes_of_fit u layers d.shapes at h.args a.0 p a.1)
fit_stack_list u layers d at h stacks.Window y p e = absurd (err_gives e)
fit_stack_list u layers d at h stacks.Rotate y p e = let a = bind_ok (not_first (codes "off") h.args) _ y e in subst (IsFitSoFar (length layers)) (ok_is a.2) p
fit_stack_list u layers d at h stacks.Absolute y p e = let a = bind_ok (not_first (codes "on") h.args) _ y e in subst (IsFitSoFar (length layers)) (ok_is a.2) p
fit_stack_list u layers d at h stacks.Other y p e = subst (IsFitSoFar (length layers)) (ok_is e) p

fit_stack_item : (u : LengthUnit) (layers : List (List ℕ)) (d : Drawn) (at : ℕ) (inside : Forest) (y : Drawn) → IsFitSoFar (length layers) d → stack_item u layers d at inside ≡ Ok y → IsFitSoFar (length layers) y
unfolding stack_item
fit_stack_item u layers d at inside y p e = fit_stack_list u layers d at (head_of inside) (stack_word (head_of inside).text) y p e

as_stack_shapes : (at : ℕ) (name : List ℕ) (d : Drawn) (y : Padstack) → as_stack at name d ≡ Ok y → d.shapes ≡ y.shapes
unfolding as_stack
as_stack_shapes at name d y e = ap (λ (p : Padstack). p.shapes) (ok_is (then_ok d.drawn _ kind.Form at y e).1)

-- what the list of a padstack gives: its shapes are those of its lists
stack_parts : (u : LengthUnit) (layers names : List (List ℕ)) (at : ℕ) (f : Forest) (y : Padstack) → stack_of u layers names at f ≡ Ok y
    → (w : Mark × Forest) × (d : Drawn) × (word_of at f ≡ Ok w) × (each (stack_item u layers) nothing_drawn w.1 ≡ Ok d) × (d.shapes ≡ y.shapes)
unfolding stack_of
stack_parts u layers names at f y e =
    let a = bind_ok (word_of at f) _ y e in
    let b = bind_ok (new_name 65535 names a.0.0) _ y a.2 in
    let c = bind_ok (each (stack_item u layers) nothing_drawn a.0.1) _ y b.2 in
    (a.0, c.0, a.1, c.1, as_stack_shapes at a.0.0.name c.0 y c.2)

fit_stack : (u : LengthUnit) (layers : List (List ℕ)) (f : Forest) (p : Padstack) → IsStack u layers f p → IsFitStack (length layers) p
fit_stack u layers f p h =
    let s = stack_parts u layers [] 0 f p (stack_again u layers [] 0 f p h (refl, omega arith)) in
    subst (AreFitDrawn (length layers)) s.4 (each_keeps (IsFitSoFar (length layers)) (stack_item u layers) (fit_stack_item u layers) nothing_drawn s.0.1 s.1 tt s.3)

fit_stacks : (u : LengthUnit) (layers : List (List ℕ)) (fs : List Forest) (ps : List Padstack) → AreStacks u layers fs ps → AllByRecursion (IsFitStack (length layers)) ps
fit_stacks u layers [] ps h = subst (AllByRecursion (IsFitStack (length layers))) (sym h) tt
fit_stacks u layers (f ∷ fs) [] h = absurd h
fit_stacks u layers (f ∷ fs) (p ∷ ps) h = (fit_stack u layers f p h.0, fit_stacks u layers fs ps h.1)

-- ---- images

measured_bound : (u : LengthUnit) (text : List ℕ) (z : ℤ) → Measures u text (Ok z) → unsigned_abs z ≤ 1000000000
measured_bound u text z h = length_word_bound u (mark 0 text) z (length_again u 0 text z h)

angle_bound : (text : List ℕ) (e : ℕ) → HasAngle text (Ok e) → e < 8
angle_bound text e h = h.3.4

rotate_bound : (f : Forest) (e : ℕ) → IsRotate f e → e < 8
rotate_bound End e h = absurd h
rotate_bound (Word a text rest) e h = angle_bound text e h.0
rotate_bound (Branch a inside rest) e h = absurd h

turn_bound : (fs : List Forest) (e : ℕ) → StateTurn fs e → e < 8
turn_bound [] e h = omega (arith, h)
turn_bound (f ∷ []) e h = rotate_bound f e h
turn_bound (f ∷ g ∷ fs) e h = absurd h

-- a first word with what follows
first_of_two : (P : List ℕ → Forest → Type 0) (f : Forest) → HasWord P f → (text : List ℕ) × (rest : Forest) × P text rest
first_of_two P End h = absurd h
first_of_two P (Word a text rest) h = (text, rest, h)
first_of_two P (Branch a inside rest) h = absurd h

-- what a pin states is within the limits
fit_pin : (u : LengthUnit) (stacks : List (List ℕ)) (f : Forest) (p : PinWords) → IsPin u stacks f p → (p.stack < length stacks) × (p.eighths < 8) × IsInRange p.at
fit_pin u stacks f p h =
    let stack = first_of_two _ f h in
    let id = first_of_two _ (behind_lists stack.1) stack.2.2 in
    let x = first_of_two _ id.1 id.2.1 in
    let y = first_of_two _ x.1 x.2.1 in (
      place_bound stacks stack.0 p.stack stack.2.0,
      turn_bound (rotates_in (first_lists stack.1)) p.eighths stack.2.1,
      record { x = measured_bound u x.0 p.at.x x.2.0; y = measured_bound u y.0 p.at.y y.2.0 },
    )

fit_part : (u : LengthUnit) (layers stacks ids : List (List ℕ)) (k : ImageWord) (f : Forest) (part : ImagePart) → IsPart u layers stacks ids k f part → IsFitImagePart (length layers) (length stacks) (length ids) part
fit_part u layers stacks ids of_image.Pin f part h =
    let pin = fit_pin u stacks f h.0 h.1 in
    subst (IsFitImagePart (length layers) (length stacks) (length ids)) (sym h.4) (pin.0, place_bound ids h.0.id h.2 h.3, pin.1, pin.2)
fit_part u layers stacks ids (of_image.Keep k) f part h =
    subst (IsFitImagePart (length layers) (length stacks) (length ids)) (sym h.2) (keep_shapes_fit u layers 0 f h.0 (keep_again u layers 0 f h.0 h.1))
fit_part u layers stacks ids of_image.Unit f part h = absurd h
fit_part u layers stacks ids of_image.Other f part h = absurd h

fit_parts : (u : LengthUnit) (layers stacks ids : List (List ℕ)) (ls : List (ImageWord × Forest)) (ps : List ImagePart) → AreParts u layers stacks ids ls ps → AllByRecursion (IsFitImagePart (length layers) (length stacks) (length ids)) ps
fit_parts u layers stacks ids [] ps h = subst (AllByRecursion (IsFitImagePart (length layers) (length stacks) (length ids))) (sym h) tt
fit_parts u layers stacks ids (l ∷ ls) [] h = absurd h
fit_parts u layers stacks ids (l ∷ ls) (p ∷ ps) h = (fit_part u layers stacks ids l.0 l.1 p h.0, fit_parts u layers stacks ids ls ps h.1)

fit_image : (u : LengthUnit) (layers stacks : List (List ℕ)) (f : Forest) (m : Image) → IsImage u layers stacks f m → IsFitImage (length layers) (length stacks) m
fit_image u layers stacks End m h = absurd h
fit_image u layers stacks (Branch a inside rest) m h = absurd h
fit_image u layers stacks (Word a text rest) m h = fit_parts (governing_unit u rest) layers stacks m.ids (collect parts_in rest) m.parts h.parts

fit_images : (u : LengthUnit) (layers stacks : List (List ℕ)) (fs : List Forest) (ms : List Image) → AreImages u layers stacks fs ms → AllByRecursion (IsFitImage (length layers) (length stacks)) ms
fit_images u layers stacks [] ms h = subst (AllByRecursion (IsFitImage (length layers) (length stacks))) (sym h) tt
fit_images u layers stacks (f ∷ fs) [] h = absurd h
fit_images u layers stacks (f ∷ fs) (m ∷ ms) h = (fit_image u layers stacks f m h.0, fit_images u layers stacks fs ms h.1)

-- ---- names

-- the padstack that a list states, where it has this keyword
named_word : (text : List ℕ) (f : Forest) → cond (same text (codes "padstack")) (first_word f) [] ≡ name_of_list (library_word text) f
unfolding library_word
named_word text f = by (same text (codes "padstack"))
  where
    first : (g : Forest) → first_word g ≡ first_name g
    first End = refl
    first (Word a word rest) = refl
    first (Branch a inside rest) = refl

    no_name : (a b c : Bool) → [] ≡ name_of_list (cond a words.Image (cond b words.Unit (cond c words.Resolution words.Other))) f
    no_name true b c = refl
    no_name false true c = refl
    no_name false false true = refl
    no_name false false false = refl

    by : (b : Bool) → cond b (first_word f) [] ≡ name_of_list (cond b words.Stack (cond (same text (codes "image")) words.Image (cond (same text (codes "unit")) words.Unit (cond (same text (codes "resolution")) words.Resolution words.Other)))) f
    by true = first f
    by false = no_name (same text (codes "image")) (same text (codes "unit")) (same text (codes "resolution"))

named_all : (f : Forest) → collect (first_of (codes "padstack")) f ≡ collect names_in f
named_all End = refl
named_all (Word at text rest) = named_all rest
named_all (Branch at inside rest) = λ i. named_word (head_of inside).text (head_of inside).args i ++ named_all rest i

-- the padstacks whose names are collected ahead are those of the section
pub padstacks_are : (u : LengthUnit) (layers : List (List ℕ)) (f : Forest) (l : Library) → IsSection u layers (padstacks f) f l → padstacks f ≡ l.names
padstacks_are u layers f l h =
    let names = named_all f ∙ sym h.names in
    each_once_fresh (collect (first_of (codes "padstack")) f) (λ before after name e. h.fresh before after name (sym names ∙ e)) ∙ names

one_name : {A : Type 0} (xs : List (List ℕ)) (ys : List A) (x : List ℕ) (y : A) → xs ≡ x ∷ [] → ys ≡ y ∷ [] → length xs ≡ length ys
one_name {A = A} xs ys x y e f = ap (λ (zs : List (List ℕ)). length zs) e ∙ sym (ap (λ (zs : List A). length zs) f)

each_named : (u : LengthUnit) (layers stacks : List (List ℕ)) (f : Forest) (k : LibraryWord) → IsOfLibrary u layers stacks k f → length (name_of_list k f) ≡ length (value_of_list u layers k f)
each_named u layers stacks f words.Stack h = one_name (first_name f) (value_of_list u layers words.Stack f) h.0.name h.0 (stack_name u layers f h.0 h.1) (stack_is u layers f h.0 h.1)
each_named u layers stacks f words.Image h = refl
each_named u layers stacks f words.Unit h = refl
each_named u layers stacks f words.Resolution h = refl
each_named u layers stacks f words.Other h = refl

each_image_named : (u : LengthUnit) (layers stacks : List (List ℕ)) (f : Forest) (k : LibraryWord) → IsOfLibrary u layers stacks k f → length (image_name_of_list k f) ≡ length (image_of_value u layers stacks k f)
each_image_named u layers stacks f words.Image h =
    let name = image_name u layers stacks f h.0 h.1 in
    one_name (first_name f) (image_of_value u layers stacks words.Image f) name.0 h.0 name.1 (image_is u layers stacks f h.0 h.1)
each_image_named u layers stacks f words.Stack h = refl
each_image_named u layers stacks f words.Unit h = refl
each_image_named u layers stacks f words.Resolution h = refl
each_image_named u layers stacks f words.Other h = refl

all_named : (u : LengthUnit) (layers stacks : List (List ℕ)) (f : Forest) → Every (IsLibraryList u layers stacks) f → length (collect names_in f) ≡ length (collect (values_in u layers) f)
all_named u layers stacks End h = refl
all_named u layers stacks (Word at text rest) h = absurd h
all_named u layers stacks (Branch at inside rest) h =
    let here = each_named u layers stacks (head_of inside).args (library_word (head_of inside).text) h.0 in
    let later = all_named u layers stacks rest h.1 in
    let a = length-append (names_in at inside) (collect names_in rest) in
    let b = length-append (values_in u layers at inside) (collect (values_in u layers) rest) in
    omega (arith, here, later, a, b)

all_images_named : (u : LengthUnit) (layers stacks : List (List ℕ)) (f : Forest) → Every (IsLibraryList u layers stacks) f → length (collect image_names_in f) ≡ length (collect (image_values_in u layers stacks) f)
all_images_named u layers stacks End h = refl
all_images_named u layers stacks (Word at text rest) h = absurd h
all_images_named u layers stacks (Branch at inside rest) h =
    let here = each_image_named u layers stacks (head_of inside).args (library_word (head_of inside).text) h.0 in
    let later = all_images_named u layers stacks rest h.1 in
    let a = length-append (image_names_in at inside) (collect image_names_in rest) in
    let b = length-append (image_values_in u layers stacks at inside) (collect (image_values_in u layers stacks) rest) in
    omega (arith, here, later, a, b)

-- ---- the library

section_fit : (u : LengthUnit) (layers : List (List ℕ)) (f : Forest) (l : Library) → IsSection u layers (padstacks f) f l → IsFitLibrary (length layers) l
section_fit u layers f l h =
    let stacks = same_stacks u layers (collect stacks_in f) (collect (values_in u layers) f) l.stacks (stacks_are u layers (padstacks f) f h.formed) h.stacks_are in
    let images = same_images u layers (padstacks f) (collect images_in f) (collect (image_values_in u layers (padstacks f)) f) l.images (images_are u layers (padstacks f) f h.formed) h.images in
    let names : length l.names ≡ length l.stacks =
    ap (λ (xs : List (List ℕ)). length xs) h.names ∙ all_named u layers (padstacks f) f h.formed ∙ ap (λ (xs : List Padstack). length xs) stacks in
    let ahead : length (padstacks f) ≡ length l.stacks = ap (λ (xs : List (List ℕ)). length xs) (padstacks_are u layers f l h) ∙ names in
    record {
      few = subst (λ (n : ℕ). n ≤ 65535) names h.few;
      names = names;
      shapes = fit_stacks u layers (collect stacks_in f) l.stacks h.stacks_are;
      image_names = ap (λ (xs : List (List ℕ)). length xs) h.image_names ∙ all_images_named u layers (padstacks f) f h.formed ∙ ap (λ (xs : List Image). length xs) images;
      images = subst (λ (n : ℕ). AllByRecursion (IsFitImage (length layers) n) l.images) ahead (fit_images u layers (padstacks f) (collect images_in f) l.images h.images);
    }

pub library_of_fit : (f : Forest) (layers : List (List ℕ)) (y : Library) → library_of f layers ≡ Ok y → IsFitLibrary (length layers) y
library_of_fit f layers y e = let h = has_found f layers y e in section_fit (governing_unit h.0.unit (section_in sections.Library f).args) layers (section_in sections.Library f).args y h.2

-- ---- how many shapes a padstack has

grown_stack_list : (u : LengthUnit) (layers : List (List ℕ)) (d : Drawn) (at : ℕ) (h : Heading) (w : StackWord) (y : Drawn) → stack_list u layers d at h w ≡ Ok y → length y.shapes ≤ length d.shapes + 32 * size h.args
grown_stack_list u layers d at h stacks.Shapes y e =
    let a = bind_ok (shapes_of u layers d.shapes at h.args) _ y e in
    subst (λ (x : Drawn). length x.shapes ≤ length d.shapes + 32 * size h.args) (ok_is a.2) (shapes_of_few u layers d.shapes at h.args a.0 a.1)
grown_stack_list u layers d at h stacks.Window y e = absurd (err_gives e)
grown_stack_list u layers d at h stacks.Rotate y e =
    let a = bind_ok (not_first (codes "off") h.args) _ y e in
    let same = ap (λ (x : Drawn). length x.shapes) (ok_is a.2) in
    omega (arith, same)
grown_stack_list u layers d at h stacks.Absolute y e =
    let a = bind_ok (not_first (codes "on") h.args) _ y e in
    let same = ap (λ (x : Drawn). length x.shapes) (ok_is a.2) in
    omega (arith, same)
grown_stack_list u layers d at h stacks.Other y e = let same = ap (λ (x : Drawn). length x.shapes) (ok_is e) in omega (arith, same)

grown_stack_item : (u : LengthUnit) (layers : List (List ℕ)) (d : Drawn) (at : ℕ) (inside : Forest) (y : Drawn) → stack_item u layers d at inside ≡ Ok y → length y.shapes ≤ length d.shapes + 32 * (1 + size inside)
unfolding stack_item
grown_stack_item u layers d at inside y e =
    let own = grown_stack_list u layers d at (head_of inside) (stack_word (head_of inside).text) y e in
    let less = head_of_size inside in
    omega (arith, own, less)

few_stack_of : (u : LengthUnit) (layers names : List (List ℕ)) (at : ℕ) (f : Forest) (y : Padstack) → stack_of u layers names at f ≡ Ok y → length y.shapes ≤ 32 * size f
few_stack_of u layers names at f y e =
    let s = stack_parts u layers names at f y e in
    let own = each_grows (λ (d : Drawn). length d.shapes) (stack_item u layers) (grown_stack_item u layers) nothing_drawn s.0.1 s.1 s.3 in
    let less = word_of_size at f s.0 s.2 in
    let same = ap (λ (ss : List Shape). length ss) s.4 in
    omega (arith, own, less, same)

-- no padstack has more shapes
abbrev pub HaveAtMost : ℕ → List Padstack → Type 0
HaveAtMost most stacks = AllByRecursion (λ (p : Padstack). length p.shapes ≤ most) stacks

abbrev HasAtMost : ℕ → Padstack → Type 0
HasAtMost most p = length p.shapes ≤ most

abbrev AreSmall : ℕ → Library → Type 0
AreSmall most l = HaveAtMost most l.stacks

few_library_list : (u : LengthUnit) (layers stacks : List (List ℕ)) (most : ℕ) (l : Library) (at : ℕ) (h : Heading) (w : LibraryWord) (y : Library) → 32 * size h.args ≤ most → AreSmall most l → library_list u layers stacks l at h w ≡ Ok y → AreSmall most y
few_library_list u layers stacks most l at h words.Stack y less s e =
    let a = bind_ok (stack_of u layers l.names at h.args) _ y e in
    let own = few_stack_of u layers l.names at h.args a.0 a.1 in
    subst (AreSmall most) (ok_is a.2) (all_push (HasAtMost most) l.stacks a.0 s (omega (arith, own, less)))
few_library_list u layers stacks most l at h words.Image y less s e = let a = bind_ok (image_of u layers stacks l.image_names at h.args) _ y e in subst (AreSmall most) (ok_is a.2) s
few_library_list u layers stacks most l at h words.Unit y less s e = let a = bind_ok (unit_list at h.args) _ y e in subst (AreSmall most) (ok_is a.2) s
few_library_list u layers stacks most l at h words.Resolution y less s e = absurd (err_gives e)
few_library_list u layers stacks most l at h words.Other y less s e = subst (AreSmall most) (ok_is e) s

few_library_item : (u : LengthUnit) (layers stacks : List (List ℕ)) (n : ℕ) (l : Library) (at : ℕ) (inside : Forest) (y : Library) → AreSmall (32 * n) l → size inside ≤ n → library_item u layers stacks l at inside ≡ Ok y → AreSmall (32 * n) y
unfolding library_item
few_library_item u layers stacks n l at inside y s less e =
    let args = head_of_size inside in
    few_library_list u layers stacks (32 * n) l at (head_of inside) (library_word (head_of inside).text) y (omega (arith, less, args)) s e

few_library_at : (u : LengthUnit) (layers : List (List ℕ)) (p : Spot) (n : ℕ) (y : Library) → size p.args ≤ n → library_at u layers p ≡ Ok y → AreSmall (32 * n) y
unfolding library_at
few_library_at u layers p n y less e =
    each_keeps_within (AreSmall (32 * n)) n (library_item (governing u p.args) layers (all_stacks p.args)) (few_library_item (governing u p.args) layers (all_stacks p.args) n) no_library p.args y tt less e

-- a padstack has at most 32 shapes for each word and list of the design
pub library_of_few : (f : Forest) (layers : List (List ℕ)) (y : Library) → library_of f layers ≡ Ok y → HaveAtMost (32 * size f) y.stacks
unfolding library_of
library_of_few f layers y e =
    let a = bind_ok (design_of f) _ y e in
    few_library_at a.0.unit layers (section_in sections.Library f) (size f) y (section_size sections.Library f) a.2
