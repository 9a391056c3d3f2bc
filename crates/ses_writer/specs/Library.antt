-- Models: the padstacks of the SPECCTRA session descriptor, each with its shapes. Numbers are nanometres.
use Rattle.std.specs.Prelude.{ℕ, ◌+◌, Bool, List, [], ◌∷◌, ◌++◌, codes, decimal, if◌then◌else◌}
use Rattle.std.specs.List.{flat_map, list_any}
use Rattle.seg_geometry.specs.declared.points.Pt.{Pt}
use Rattle.area_geometry.specs.Copper.{core_points}
use Rattle.area_geometry.specs.declared.shapes.Core.{Core}
use Rattle.area_geometry.specs.declared.shapes.Core.TheVariants.{Chain, Area}
use Rattle.area_geometry.specs.declared.shapes.Shape.{Shape}
use Rattle.board_items.specs.declared.items.Padstack.{Padstack}
use Rattle.board_items.specs.declared.items.Item.{Item}
use Rattle.board_rules.specs.declared.design.Parts.{Parts}
use Rattle.quoted_names.specs.Names.{name_text}
use Rattle.ses_writer.specs.Routes.{layer_name, point_text, uses}

-- a chain is a circle where it has one point
abbrev pub chain_word : List Pt → List ℕ
chain_word (p ∷ []) = codes "circle "
chain_word _ = codes "path "

-- the word for a shape of this core
abbrev pub shape_word : Core → List ℕ
shape_word (Chain points) = chain_word points
shape_word (Area points) = codes "polygon "

-- a shape begins
unfoldable pub shape_open : List ℕ
shape_open = codes "        (shape ("

-- a shape ends
unfoldable pub shape_close : List ℕ
shape_close = codes "))\n"

-- a shape on one line: its word, its layer's name, its width and its points
unfoldable pub shape_text : Parts → Shape → List ℕ
shape_text p s =
    shape_open ++ (shape_word s.core ++ (name_text (layer_name p s.layer) ++ (codes " " ++ (decimal s.width ++ (flat_map point_text (core_points s.core) ++ shape_close)))))

-- a padstack begins
unfoldable pub stack_open : List ℕ
stack_open = codes "      (padstack "

-- a padstack ends
unfoldable pub stack_close : List ℕ
stack_close = codes "        (attach off)\n      )\n"

-- a padstack under its name, with its shapes in order
unfoldable pub stack_text : Parts → Padstack → List ℕ
stack_text p s = stack_open ++ (name_text s.name ++ (codes "\n" ++ (flat_map (shape_text p) s.shapes ++ stack_close)))

-- a live via is of this padstack
abbrev pub is_used : List (ℕ × Item) → ℕ → Bool
is_used live k = list_any (λ (l : ℕ × Item). uses k l.1) live

-- the padstacks that live vias use, in the design's order, from this number on
abbrev pub stacks_text : Parts → List (ℕ × Item) → ℕ → List Padstack → List ℕ
stacks_text p live k [] = []
stacks_text p live k (s ∷ rest) = (if is_used live k then stack_text p s else []) ++ stacks_text p live (k + 1) rest
