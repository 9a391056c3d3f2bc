use Rattle.std.proofs.Common.{◌∙◌}
use Rattle.sexp_text.specs.NumberParts.{is_either}
use Rattle.sexp_text.proofs.Cuts.{cut_found, never_whole, never_cut, cut_parts}
use Rattle.sexp_text.proofs.number.cut.Goals as goal

pub returns-in_err-at-clause-found : goal.returns-in_err-at-clause-found
returns-in_err-at-clause-found c = λ front rest m free marked same. absurd (never_whole (is_either c.args.mark c.args.other) c.args.text.now front rest m c.in_err-at.ensures free marked same)

pub returns-clause-found : goal.returns-clause-found
returns-clause-found c = λ front rest m free marked same.
    let h = cut_found (is_either c.args.mark c.args.other) c.args.text.now front rest m c.in_ok-at.at c.in_ok-at.ensures free marked same in
    (c.split_at.ensures.front ∙ h.0, c.split_at-2.ensures.back ∙ h.1)

pub returns-clause-none : goal.returns-clause-none
returns-clause-none c = λ free. absurd (never_cut (is_either c.args.mark c.args.other) c.args.text.now c.in_ok-at.at c.in_ok-at.ensures free)

pub returns-clause-parts : goal.returns-clause-parts
returns-clause-parts c = rw (c.split_at.ensures.front, c.split_at-2.ensures.back) (cut_parts (is_either c.args.mark c.args.other) c.args.text.now c.in_ok-at.at c.in_ok-at.ensures)
