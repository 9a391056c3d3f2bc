use Rattle.std.proofs.Common.{◌≡◌, ◌++◌, ◌∷◌, [], ◌∙◌, subst, List, ℕ}
use Rattle.std.specs.Prelude.{decimal}
use Rattle.whole_files.specs.Stops.{Tells}
use Rattle.whole_files.proofs.Tells.{tells_first, tells_rest}
use Rattle.whole_files.proofs.lines.tell_digits.Goals as goal

pub returns-in-Ok : goal.returns-in-Ok
returns-in-Ok g c =
    let text : c.as_bytes.result.now ≡ decimal c.args.number = c.as_bytes.ensures.value ∙ c.format.ensures.text in
    subst (λ (w : List ℕ). Tells (w ++ 10 ∷ []) (g.O.Sink.told c.args.out.now) (g.O.Sink.told c.tell.new.out)) text
    (tells_rest c.as_bytes.result.now (10 ∷ []) (g.O.Sink.told c.args.out.now) (g.O.Sink.told c.put_out.new.out) (g.O.Sink.told c.tell.new.out) c.in-Ok.ensures.ok c.tell.ensures)

pub returns-in-Err : goal.returns-in-Err
returns-in-Err g c =
    let text : c.as_bytes.result.now ≡ decimal c.args.number = c.as_bytes.ensures.value ∙ c.format.ensures.text in
    subst (λ (w : List ℕ). Tells (w ++ 10 ∷ []) (g.O.Sink.told c.args.out.now) (g.O.Sink.told c.put_out.new.out)) text
    (tells_first c.in-Err.field-0 c.as_bytes.result.now (10 ∷ []) (g.O.Sink.told c.args.out.now) (g.O.Sink.told c.put_out.new.out) c.in-Err.ensures.err)
