use Rattle.std.proofs.Common.{◌≡◌, sym, ap, ◌∙◌, ◌∷◌, List, take, drop, length, min, ℕ}
use Rattle.std.proofs.lemmas.List.{nil_from_length}
use Rattle.sexp_text.specs.Forest.{Word}
use Rattle.sexp_text.specs.Shows.{forest}
use Rattle.sexp_text.proofs.Growth.{at_end, at_word, at_list}
use Rattle.sexp_text.specs.declared.cursor.TreeEntry.{TreeEntry}
use Rattle.sexp_text.proofs.cursor.front.Goals as goal

pub returns-in-None-clause-is : goal.returns-in-None-clause-is
unfolding forest
returns-in-None-clause-is c = at_end _ c.args.list.entries.now (nil_from_length _ c.in-None.ensures.cases)

pub returns-in-Word-clause-is : goal.returns-in-Word-clause-is
unfolding forest
returns-in-Word-clause-is c =
    at_word c.args.list.text.now c.args.list.entries.now c.in-Some.found.1.now _ c.in-Word.at c.in-Word.start c.in-Word.end (c.in-Some.ensures.cases.0 ∙ ap (λ (e : TreeEntry). e ∷ c.in-Some.found.1.now) c.in-Word.is)
    ∙ ap (λ (t : List ℕ). Word c.in-Word.at t (forest (record { text = c.args.list.text; entries = c.in-Some.found.1 }))) (sym c.piece.ensures)

pub returns-in-List-clause-is : goal.returns-in-List-clause-is
unfolding forest
returns-in-List-clause-is c =
    let front : c.split_at.result.0.now ≡ take (min c.in-List.inside (length c.in-Some.found.1.now)) c.in-Some.found.1.now = c.split_at.ensures.front ∙ ap (λ (k : ℕ). take k c.in-Some.found.1.now) c.min.ensures in
    let back : c.split_at.result.1.now ≡ drop (min c.in-List.inside (length c.in-Some.found.1.now)) c.in-Some.found.1.now = c.split_at.ensures.back ∙ ap (λ (k : ℕ). drop k c.in-Some.found.1.now) c.min.ensures in
    at_list c.args.list.text.now c.args.list.entries.now c.in-Some.found.1.now c.split_at.result.0.now c.split_at.result.1.now _ c.in-List.at c.in-List.inside (c.in-Some.ensures.cases.0 ∙ ap (λ (e : TreeEntry). e ∷ c.in-Some.found.1.now) c.in-List.is) front back
