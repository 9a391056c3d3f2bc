use Rattle.std.proofs.Common.{◌≡◌, ◌∙◌, ℕ, List, Bool, false, ◌||◌, ap, sym}
use Rattle.std.specs.Prelude.{◌==◌, None, if◌then◌else◌}
use Rattle.std.proofs.lemmas.Bool.{ne_eqb}
use Rattle.board_rules.specs.declared.pair_tables.PairTable.{PairTable}
use Rattle.board_rules.specs.Pairs.{pair_rows, between}
use Rattle.board_rules.specs.PairTables.{value_by, key_of, table_at}
use Rattle.board_rules.proofs.Keyed.{paired_is, value_is}
use Rattle.board_rules.proofs.design.Design.pair_value.Goals as goal

pub returns : goal.returns
returns c =
    let p = c.args.self.now.parts in
    let table : c.table.result ≡ table_at c.args.self.now.pairs.1 (key_of c.args.self.now.pairs.0 c.args.c c.args.d) = c.table.ensures in
    let same = table ∙ ap (λ (ts : List ℕ × List ((ℕ × ℕ) × PairTable)). table_at ts.1 (key_of ts.0 c.args.c c.args.d)) c.args.self.now.paired ∙ paired_is p c.args.c c.args.d in
    let neither : ((c.args.c == 0) || (c.args.d == 0)) ≡ false = λ i. ne_eqb c.args.c 0 c.if-c-eq0.false i || ne_eqb c.args.d 0 c.if-d-eq0.false i in
    c.value.ensures ∙ ap (λ (t : PairTable). value_by t c.args.k c.args.l) same ∙ value_is (pair_rows p c.args.c c.args.d) c.args.k c.args.l
    ∙ sym (ap (λ (b : Bool). if b then None else between p c.args.c c.args.d c.args.k c.args.l) neither)
