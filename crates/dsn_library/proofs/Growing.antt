-- The ids of pins that are put one behind another keep their places.
use Rattle.std.proofs.Common.{◌≡◌, ℕ, Bool, true, false, cond, List, [], ◌∷◌, ◌++◌, length, Option, Some, refl, sym, ap, ◌∙◌}
use Rattle.dsn_lists.specs.Names.{is_among, place_of}
use Rattle.dsn_lists.proofs.Growing.{Grows, grows_same, grows_then, grows_one, there, not_there, put_there}
use Rattle.dsn_shapes.proofs.NameLaws.{with_one, with_all}
use Rattle.dsn_library.specs.Images.{or_next, number_with}

-- names that are put behind others where they aren't there leave those in their places
pub grows_all : (ns names : List (List ℕ)) → Grows names (with_all names ns)
grows_all [] names = grows_same names
grows_all (n ∷ ns) names = grows_then names (with_one names n) (with_all (with_one names n) ns) (grows_one names n (is_among n names)) (grows_all ns (with_one names n))

-- a name has its place among these and itself
pub place_with : (names : List (List ℕ)) (name : List ℕ) → place_of (with_one names name) name ≡ Some (number_with names name)
place_with names name = by (is_among name names) refl
  where
    by : (b : Bool) → is_among name names ≡ b → place_of (cond b names (names ++ name ∷ [])) name ≡ Some (or_next (length names) (place_of names name))
    by true some = let p = there names name some in p.1 ∙ ap (λ (o : Option ℕ). Some (or_next (length names) o)) (sym p.1)
    by false none = put_there names name none ∙ ap (λ (o : Option ℕ). Some (or_next (length names) o)) (sym (not_there names name none))
