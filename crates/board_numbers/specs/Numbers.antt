-- Models: the numbers of a board as one text, a function of what the sections of its design state.
-- Left out: the test of pairs, so a board whose copper is too near has its numbers too.
-- Cited by: `numbers_text`, `numbers_of` and the laws.
use Rattle.std.specs.Prelude.{◌≡◌, ℕ, suc, List, [], ◌∷◌, ◌++◌, length}
use Rattle.sexp_text.specs.Forest.{Forest}
use Rattle.sexp_text.specs.Tree.{IsTree}
use Rattle.board_rules.specs.declared.design.Design.{Design}
use Rattle.board_rules.specs.declared.design.Parts.{Parts}
use Rattle.dsn_structure.specs.declared.structure.Structure.{Structure}
use Rattle.dsn_structure.specs.Meaning.{HasStructure}
use Rattle.dsn_library.specs.LibraryMeaning.{HasLibrary}
use Rattle.dsn_placement.specs.PlacementMeaning.{HasPlacement}
use Rattle.dsn_reader.specs.Design.{IsDesign}
use Rattle.board_numbers.specs.declared.origins.Origins.{Origins}
use Rattle.board_numbers.specs.Lines.{layer_line, stack_line, class_line, net_line, item_line}

-- a line for each, numbered from this number on
abbrev pub numbered : {A : Type 0} → (ℕ → A → List ℕ) → ℕ → List A → List ℕ
numbered line n [] = []
numbered line n (x ∷ xs) = line n x ++ numbered line (suc n) xs

-- all lines: layers, padstacks, classes and nets from 0, and loaded items from 1
unfoldable pub numbers_text : Parts → Origins → List ℕ
numbers_text p o =
    numbered layer_line 0 p.layers ++ (numbered stack_line 0 p.stacks ++ (numbered class_line 0 p.classes ++ (numbered net_line 0 p.nets ++ numbered (item_line o) 1 p.items)))

-- the structure of the design has so many keepouts, and these are its library and its placement
pub record HasOrigins (f : Forest) (o : Origins) : Type 0 where
  pub structure : Structure
  pub structured : HasStructure f structure
  pub stocked : HasLibrary f structure.layers o.library
  pub placed : HasPlacement f structure o.library o.placement
  pub keeps : o.keeps ≡ length structure.keeps

-- the bytes state a design, and these are its numbers
pub record IsNumbered (bytes text : List ℕ) : Type 0 where
  pub design : Design
  pub is_design : IsDesign bytes design
  pub tree : Forest
  pub is_tree : IsTree bytes tree
  pub origins : Origins
  pub has : HasOrigins tree origins
  pub is : text ≡ numbers_text design.parts origins
