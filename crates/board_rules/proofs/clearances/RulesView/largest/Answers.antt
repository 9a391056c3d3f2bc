use Rattle.std.proofs.Common.{◌≡◌, ◌≤◌, List, ℕ, length, max, drop, ap, arith}
use Rattle.std.specs.Prelude.{Option}
use Rattle.std.proofs.lemmas.List.{drop_all}
use Rattle.board_rules.specs.Classes.{largest_rule}
use Rattle.board_rules.specs.Rules.{under}
use Rattle.board_rules.proofs.Ruled.{change_length}
use Rattle.board_rules.proofs.clearances.RulesView.largest.Goals as goal

pub returns : goal.returns
returns c =
    let rules = under c.args.self in
    let all : length rules ≡ length c.args.self.rules.now = change_length c.args.self.change c.args.self.rules.now in
    let past : length rules ≤ c.loop-class.class = omega (arith, all) in
    let none : max c.loop-class.most (largest_rule (drop c.loop-class.class rules)) ≡ max c.loop-class.most 0 = ap (λ (rs : List (Option ℕ)). max c.loop-class.most (largest_rule rs)) (drop_all _ _ past) in
    let kept = c.loop-class.invariant in
    omega (arith, none, kept)
