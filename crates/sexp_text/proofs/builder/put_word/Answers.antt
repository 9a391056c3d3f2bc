use Rattle.std.proofs.Common.{rules, ◌<◌, ◌^◌, ap, length, arith, length-append}
use Rattle.sexp_text.specs.Tree.{word_text}
use Rattle.sexp_text.proofs.Bulk.{word_short}
use Rattle.sexp_text.proofs.builder.put_word.Goals as goal

pub overflow_cast-end : goal.overflow_cast-end
overflow_cast-end c =
    let h : c.len-end.result < 2 ^ 32 =
    omega (arith, c.len-end.ensures, ap length c.in_ok-put_text.ensures, length-append c.args.b.now.pool (word_text c.args.bytes.now), word_short c.args.bytes.now, c.requires) in
    search (rules, h)
