-- What tokens build is laid for the forest that it is read as.
use Rattle.std.proofs.Common.{◌≡◌, ℕ, List, [], ◌∷◌, Result, Ok, Err, refl, sym, subst, ◌∙◌, arith}
use Rattle.sexp_text.specs.Forest.{Forest, End}
use Rattle.sexp_text.specs.declared.fault.TextFault.{TextFault}
use Rattle.sexp_text.specs.declared.token.Token.{Token}
use Rattle.sexp_text.specs.declared.builder.Builder.{Builder}
use Rattle.sexp_text.specs.Tree.{HasOpened}
use Rattle.sexp_text.specs.Build.{levels, build, nothing_read, built_forest}
use Rattle.sexp_text.specs.Nodes.{Lays, IsLaid}
use Rattle.sexp_text.proofs.Walks.{Walked, walk}
use Rattle.sexp_text.proofs.Trees.{plants, plants_forest, open_built}

abbrev built : Builder → Result Builder TextFault
built b = Ok b

same_built : (a b : Builder) → built a ≡ built b → a ≡ b
same_built a b e = cc

laid_opened : (text : List ℕ) (ts : List Token) (opens : List ℕ) (b : Builder) → HasOpened text ts opens → build text ts nothing_read ≡ Ok b → Lays b.pool (built_forest b) b.entries
laid_opened text ts [] b h e =
    let p = plants text h.0 ts h.1 in
    let s : p.after ≡ b = same_built p.after b (sym p.built ∙ e) in
    subst (λ (c : Builder). Lays c.pool (built_forest c) c.entries) s
    (subst (λ (f : Forest). Lays p.after.pool f p.after.entries) (sym (plants_forest text h.0 ts p)) p.laid)
laid_opened text ts (at ∷ opens) b h e = let x = sym (open_built text ts at opens h) ∙ e in absurd cc

laid_walked : (text : List ℕ) (ts : List Token) (level : ℕ) (r : Result ℕ TextFault) (b : Builder) → r ≡ Ok level → Walked text [] ts r → build text ts nothing_read ≡ Ok b → Lays b.pool (built_forest b) b.entries
laid_walked text ts level (Ok n) b e w h = laid_opened text ts w.0 b w.1 h
laid_walked text ts level (Err f) b e w h = absurd cc

pub laid_built : (text : List ℕ) (ts : List Token) (level : ℕ) (b : Builder) → levels 0 ts ≡ Ok level → build text ts nothing_read ≡ Ok b → IsLaid b.pool b.entries
laid_built text ts level b e h = laid_walked text ts level (levels 0 ts) b e (walk text ts [] [] (End, refl, omega arith) (omega arith)) h
