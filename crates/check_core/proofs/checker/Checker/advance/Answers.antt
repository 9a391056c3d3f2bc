use Rattle.std.proofs.Common.{◌≡◌, ◌+◌, ◌∙◌, drop, ap, sym, arith}
use Rattle.std.specs.Prelude.{slice_get, Some}
use Rattle.board_items.specs.Formed.{IsFormedAct}
use Rattle.board_items.specs.declared.history.Entry.{Entry}
use Rattle.board_core.specs.Boards.{HasFitAct, taken_by, board_at}
use Rattle.board_core.proofs.Leasts.{get_there}
use Rattle.board_rules.proofs.Walked.{left_is, all_left, at_next}
use Rattle.check_core.specs.Checking.{taken_in}
use Rattle.check_core.proofs.Follow.{follows_on, after_next, after_count, same_chain}
use Rattle.check_core.proofs.checker.Checker.advance.Goals as goal

pub take-requires : goal.take-requires
take-requires g c =
    let p = c.args.design.now.parts in
    let entries = c.args.entries.now in
    let i = c.loop-entry.entry-index in
    let entry = c.entry-item.result in
    let lt = c.loop-entry-test.true in
    let cut : taken_in (drop i entries) ≡ taken_by entry.act + taken_in (drop (i + 1) entries) = ap taken_in (left_is entries i entry lt c.entry-item.is) in
    let fit = at_next (λ (e : Entry). IsFormedAct e.act × HasFitAct p e.act) entries i entry lt c.entry-item.is c.loop-entry.invariant.fit in record {
      checking = c.loop-entry.invariant.checking;
      next = omega (arith, c.loop-entry.invariant.next, cut);
      count = omega (arith, c.loop-entry.invariant.counted, c.requires.count, lt);
      formed = fit.0;
      fit = fit.1;
    }

pub returns-in_err-take-clause-taken : goal.returns-in_err-take-clause-taken
returns-in_err-take-clause-taken g c =
    let p = c.args.design.now.parts in
    let lt = c.loop-entry-test.true in
    let same = c.in_err-take.ensures.err in record {
      part = c.loop-entry.entry-index;
      within = omega (arith, lt);
      counted = omega (arith, c.loop-entry.invariant.counted, same.count);
      follows = λ journal k at old. same_chain c.take.new.self.board c.loop-entry.self.board (board_at p journal (k + c.loop-entry.entry-index)) same (c.loop-entry.invariant.follows journal k at old);
    }

pub loop-entry-preserved : goal.loop-entry-preserved
loop-entry-preserved g c =
    let p = c.args.design.now.parts in
    let entries = c.args.entries.now in
    let i = c.loop-entry.entry-index in
    let entry = c.entry-item.result in
    let lt = c.loop-entry-test.true in
    let same = c.in_ok-take.ensures.ok in
    let there : slice_get entries i ≡ Some entry = get_there entries i entry lt ∙ ap Some (sym c.entry-item.is) in
    let cut : taken_in (drop i entries) ≡ taken_by entry.act + taken_in (drop (i + 1) entries) = ap taken_in (left_is entries i entry lt c.entry-item.is) in
    let id = same.next_id ∙ after_next c.loop-entry.self.board entry.client entry.act in
    let count = same.count ∙ after_count c.loop-entry.self.board entry.client entry.act in record {
      checking = c.in_ok-take.ensures.checking;
      next = omega (arith, c.loop-entry.invariant.next, cut, id);
      counted = omega (arith, c.loop-entry.invariant.counted, count);
      fit = all_left (λ (e : Entry). IsFormedAct e.act × HasFitAct p e.act) entries i entry lt c.entry-item.is c.loop-entry.invariant.fit;
      follows = λ journal k at same_old. follows_on p entries journal k i entry c.loop-entry.self.board c.take.new.self.board there at same (c.loop-entry.invariant.follows journal k at same_old);
    }

pub returns-clause-taken : goal.returns-clause-taken
returns-clause-taken g c = record {
  part = c.loop-entry.entry-index;
  within = omega arith;
  counted = c.loop-entry.invariant.counted;
  follows = c.loop-entry.invariant.follows;
}
