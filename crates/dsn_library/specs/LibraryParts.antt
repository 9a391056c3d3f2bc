-- The lists of a library section, and what each states.
-- Models: the library descriptor of the SPECCTRA reference.
use Rattle.std.specs.Prelude.{◌≡◌, ℕ, List, [], ◌∷◌, codes}
use Rattle.sexp_text.specs.Forest.{Forest}
use Rattle.sexp_text.specs.declared.units.Unit.{Unit as LengthUnit}
use Rattle.board_items.specs.declared.items.Padstack.{Padstack}
use Rattle.dsn_lists.specs.Words.{head_of}
use Rattle.dsn_lists.specs.Lists.{collect}
use Rattle.dsn_lists.specs.Measures.{IsUnitList}
use Rattle.dsn_shapes.specs.NameLists.{each_once, first_of}
use Rattle.dsn_library.specs.declared.images.Image.{Image}
use Rattle.dsn_library.specs.declared.library.LibraryWord.{LibraryWord}
use Rattle.dsn_library.specs.declared.library.LibraryWord.TheVariants as words
use Rattle.dsn_library.specs.Libraries.{library_word}
use Rattle.dsn_lists.specs.NewNames.{first_name}
use Rattle.dsn_library.specs.StackLists.{IsStack}
use Rattle.dsn_library.specs.ImageMeaning.{IsImage}

-- the names of the padstacks of a section, each once, also of those that stand behind an image
abbrev pub padstacks : Forest → List (List ℕ)
padstacks f = each_once (collect (first_of (codes "padstack")) f)

-- what a list of the section has to be, by its keyword, for layers and padstacks of these names
abbrev pub IsOfLibrary : LengthUnit → List (List ℕ) → List (List ℕ) → LibraryWord → Forest → Type 0
IsOfLibrary u layers stacks words.Stack f = (p : Padstack) × IsStack u layers f p
IsOfLibrary u layers stacks words.Image f = (m : Image) × IsImage u layers stacks f m
IsOfLibrary u layers stacks words.Unit f = IsUnitList f
IsOfLibrary u layers stacks words.Resolution f = ⊥
IsOfLibrary u layers stacks words.Other f = Unit {0}

-- a list that can stand in the section
abbrev pub IsLibraryList : LengthUnit → List (List ℕ) → List (List ℕ) → ℕ → Forest → Type 0
IsLibraryList u layers stacks at inside = IsOfLibrary u layers stacks (library_word (head_of inside).text) (head_of inside).args

-- the name of a padstack, of a list that is one
abbrev pub name_of_list : LibraryWord → Forest → List (List ℕ)
name_of_list words.Stack f = first_name f
name_of_list _ f = []

-- the name of the padstack that a list states
abbrev pub names_in : ℕ → Forest → List (List ℕ)
names_in at inside = name_of_list (library_word (head_of inside).text) (head_of inside).args

-- what stands behind the keyword, of a padstack
abbrev pub stack_of_list : LibraryWord → Forest → List Forest
stack_of_list words.Stack f = f ∷ []
stack_of_list _ f = []

-- what stands behind the keyword of a list that is a padstack
abbrev pub stacks_in : ℕ → Forest → List Forest
stacks_in at inside = stack_of_list (library_word (head_of inside).text) (head_of inside).args

-- the padstacks are those of these lists, one by one
abbrev pub AreStacks : LengthUnit → List (List ℕ) → List Forest → List Padstack → Type 0
AreStacks u layers [] ps = ps ≡ []
AreStacks u layers (f ∷ fs) [] = ⊥
AreStacks u layers (f ∷ fs) (p ∷ ps) = IsStack u layers f p × AreStacks u layers fs ps

-- the name of an image, of a list that is one
abbrev pub image_name_of_list : LibraryWord → Forest → List (List ℕ)
image_name_of_list words.Image f = first_name f
image_name_of_list _ f = []

-- the name of the image that a list states
abbrev pub image_names_in : ℕ → Forest → List (List ℕ)
image_names_in at inside = image_name_of_list (library_word (head_of inside).text) (head_of inside).args

-- what stands behind the keyword, of an image
abbrev pub image_of_list : LibraryWord → Forest → List Forest
image_of_list words.Image f = f ∷ []
image_of_list _ f = []

-- what stands behind the keyword of a list that is an image
abbrev pub images_in : ℕ → Forest → List Forest
images_in at inside = image_of_list (library_word (head_of inside).text) (head_of inside).args

-- the images are those of these lists, one by one
abbrev pub AreImages : LengthUnit → List (List ℕ) → List (List ℕ) → List Forest → List Image → Type 0
AreImages u layers stacks [] ms = ms ≡ []
AreImages u layers stacks (f ∷ fs) [] = ⊥
AreImages u layers stacks (f ∷ fs) (m ∷ ms) = IsImage u layers stacks f m × AreImages u layers stacks fs ms
