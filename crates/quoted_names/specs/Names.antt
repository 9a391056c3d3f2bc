-- Models: identifiers of the SPECCTRA reference. A bare one has letters, digits and ten other characters alone.
use Rattle.std.specs.Prelude.{ℕ, Bool, List, [], ◌∷◌, ◌++◌, length, codes, not, ◌&&◌, ◌||◌, ◌==◌, nat_le, if◌then◌else◌}
use Rattle.std.specs.List.{list_any, list_all}

-- a byte that may stand in a bare name: an ASCII letter or digit, or one of ten others
unfoldable pub is_plain : ℕ → Bool
is_plain b =
    ((nat_le 97 b && nat_le b 122) || (nat_le 65 b && nat_le b 90) || (nat_le 48 b && nat_le b 57)) || list_any (λ c. c == b) (codes "_./:+*@[]~")

-- a name that stands bare
unfoldable pub is_bare : List ℕ → Bool
is_bare name = not (length name == 0) && list_all is_plain name

-- a name as it is written
unfoldable pub name_text : List ℕ → List ℕ
name_text name = if is_bare name then name else (34 ∷ (name ++ (34 ∷ [])))
