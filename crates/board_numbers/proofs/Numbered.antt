-- The numbers of a text by its design and the origins of its items.
use Rattle.std.proofs.Common.{◌≡◌, ℕ, List, ap, ◌∙◌}
use Rattle.sexp_text.specs.Forest.{Forest}
use Rattle.sexp_text.specs.Tree.{IsTree}
use Rattle.board_rules.specs.declared.design.Design.{Design}
use Rattle.board_rules.specs.declared.design.Parts.{Parts}
use Rattle.dsn_reader.specs.Design.{IsDesign}
use Rattle.board_numbers.specs.declared.origins.Origins.{Origins}
use Rattle.board_numbers.specs.Numbers.{numbers_text, HasOrigins, IsNumbered}

pub numbered_of : (bytes : List ℕ) (d : Design) (p : Parts) (o : Origins) (text : List ℕ) → IsDesign bytes d → p ≡ d.parts → ((f : Forest) × IsTree bytes f × HasOrigins f o) → text ≡ numbers_text p o → IsNumbered bytes text
numbered_of bytes d p o text states same from is = record {
  design = d;
  is_design = states;
  tree = from.0;
  is_tree = from.1;
  origins = o;
  has = from.2;
  is = is ∙ ap (λ (q : Parts). numbers_text q o) same;
}
