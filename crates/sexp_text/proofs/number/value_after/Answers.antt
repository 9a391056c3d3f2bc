use Rattle.std.proofs.Common.{length, arith, ◌∙◌}
use Rattle.std.proofs.lemmas.Str.Parse.{digit_at}
use Rattle.sexp_text.proofs.DigitLists.{after_step}
use Rattle.sexp_text.proofs.Roundings.{room_here, room_left}
use Rattle.sexp_text.proofs.number.value_after.Goals as goal

pub overflow_mul-value : goal.overflow_mul-value
overflow_mul-value c =
    let fits = room_here c.loop-c.value 0 c.loop-c.c-index (length c.args.digits.now) c.args.start c.loop-c-test.true (omega arith) c.loop-c.invariant.bound c.requires.fits in
    omega arith

pub overflow_sub-c : goal.overflow_sub-c
overflow_sub-c c = omega (arith, digit_at c.args.digits.now c.loop-c.c-index c.requires.digits c.loop-c-test.true)

pub overflow_add-value : goal.overflow_add-value
overflow_add-value c =
    let digit = digit_at c.args.digits.now c.loop-c.c-index c.requires.digits c.loop-c-test.true in
    let fits = room_here c.loop-c.value c.from.result c.loop-c.c-index (length c.args.digits.now) c.args.start c.loop-c-test.true (omega (arith, digit)) c.loop-c.invariant.bound c.requires.fits in
    omega arith

pub loop-c-preserved : goal.loop-c-preserved
loop-c-preserved c =
    let digit = digit_at c.args.digits.now c.loop-c.c-index c.requires.digits c.loop-c-test.true in
    record {
      value = rw c.from.ensures (after_step c.args.digits.now c.loop-c.c-index c.loop-c.value c.loop-c-test.true c.requires.digits) ∙ c.loop-c.invariant.value;
      bound = room_left c.loop-c.value c.from.result c.loop-c.c-index (length c.args.digits.now) _ c.loop-c-test.true (omega (arith, digit)) c.loop-c.invariant.bound;
    }
