-- The one spelling of adds: words with one space between them.
use Rattle.std.specs.Prelude.{ℕ, List, ◌∷◌, ◌++◌, codes}
use Rattle.board_items.specs.declared.requests.Add.{Add}
use Rattle.board_items.specs.declared.requests.Add.TheVariants as adds
use Rattle.session_wire.specs.Numbers.{number_text}
use Rattle.session_wire.specs.Points.{point_text}
use Rattle.session_wire.specs.Parts.{counted_text}

-- an add: a wire's net, layer, width in nm, how many points, and these; a via's net, padstack and place
abbrev pub add_text : Add → List ℕ
add_text (adds.Wire net layer width points) = codes "wire" ++ (number_text net ++ (number_text layer ++ (number_text width ++ counted_text point_text points)))
add_text (adds.Via net padstack place) = codes "via" ++ (number_text net ++ (number_text padstack ++ point_text place))

-- an add behind a space
abbrev pub next_add_text : Add → List ℕ
next_add_text add = 32 ∷ add_text add
