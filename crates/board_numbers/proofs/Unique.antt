-- A text has the numbers of one text at most.
use Rattle.std.proofs.Common.{◌≡◌, ℕ, List, length, Ok, sym, ap, subst, ◌∙◌}
use Rattle.sexp_text.specs.Forest.{Forest}
use Rattle.sexp_text.specs.Tree.{IsTree}
use Rattle.sexp_text.proofs.FirstFaults.{tree_again}
use Rattle.board_rules.specs.declared.design.Design.{Design}
use Rattle.dsn_lists.proofs.Bounds.{ok_is}
use Rattle.dsn_structure.specs.declared.structure.Structure.{Structure}
use Rattle.dsn_structure.proofs.Whole.{has_again as structure_again}
use Rattle.dsn_library.specs.declared.library.Library.{Library}
use Rattle.dsn_library.specs.LibraryMeaning.{HasLibrary}
use Rattle.dsn_library.proofs.LibraryWhole.{has_again as library_again}
use Rattle.dsn_placement.specs.PlacementMeaning.{HasPlacement}
use Rattle.dsn_placement.proofs.PlacementWhole.{has_again as placement_again}
use Rattle.dsn_reader.proofs.Laws.{one_design}
use Rattle.dsn_reader.proofs.Readings.{ok_same}
use Rattle.board_numbers.specs.declared.origins.Origins.{Origins}
use Rattle.board_numbers.specs.Numbers.{numbers_text, HasOrigins, IsNumbered}

one_tree : (text : List ℕ) (f g : Forest) → IsTree text f → IsTree text g → f ≡ g
one_tree text f g a b = ok_same f (Ok g) (sym (tree_again text f a) ∙ tree_again text g b)

one_origins : (f : Forest) (o q : Origins) → HasOrigins f o → HasOrigins f q → o ≡ q
one_origins f o q a b =
    let s : a.structure ≡ b.structure = ok_is (sym (structure_again f a.structure a.structured) ∙ structure_again f b.structure b.structured) in
    let stocked : HasLibrary f b.structure.layers o.library = subst (λ (x : Structure). HasLibrary f x.layers o.library) s a.stocked in
    let l : o.library ≡ q.library = ok_is (sym (library_again f b.structure.layers o.library stocked) ∙ library_again f b.structure.layers q.library b.stocked) in
    let moved : HasPlacement f b.structure o.library o.placement = subst (λ (x : Structure). HasPlacement f x o.library o.placement) s a.placed in
    let placed : HasPlacement f b.structure q.library o.placement = subst (λ (x : Library). HasPlacement f b.structure x o.placement) l moved in
    let p : o.placement ≡ q.placement = ok_is (sym (placement_again f b.structure q.library o.placement placed) ∙ placement_again f b.structure q.library q.placement b.placed) in
    let k : o.keeps ≡ q.keeps = a.keeps ∙ ap (λ (x : Structure). length x.keeps) s ∙ sym b.keeps in
    λ i. record { keeps = k i; library = l i; placement = p i }

pub one_numbering : (bytes a b : List ℕ) → IsNumbered bytes a → IsNumbered bytes b → a ≡ b
one_numbering bytes a b m n =
    let d : m.design ≡ n.design = one_design bytes m.design n.design m.is_design n.is_design in
    let f : m.tree ≡ n.tree = one_tree bytes m.tree n.tree m.is_tree n.is_tree in
    let has : HasOrigins n.tree m.origins = subst (λ (x : Forest). HasOrigins x m.origins) f m.has in
    let o : m.origins ≡ n.origins = one_origins n.tree m.origins n.origins has n.has in
    m.is ∙ ap (λ (x : Design). numbers_text x.parts m.origins) d ∙ ap (λ (x : Origins). numbers_text n.design.parts x) o ∙ sym n.is
