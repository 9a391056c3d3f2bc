-- What a change of a class's clearance is answered on a board: that there is no such class, else the least two live items
-- that the rules with the change make too near.
-- Cited by `slow_answer`, by way of `IsAnswer`
use Rattle.std.specs.Prelude.{ℕ, ◌≡◌, Option, Some, None, List}
use Rattle.board_items.specs.declared.items.Item.{Item}
use Rattle.board_items.specs.declared.requests.Request.TheVariants as requests
use Rattle.board_items.specs.declared.history.Why.{Why}
use Rattle.board_items.specs.declared.history.Why.TheVariants as whys
use Rattle.board_rules.specs.declared.design.Parts.{Parts}
use Rattle.board_rules.specs.Reasons.{Then, IsStaticReason}
use Rattle.board_rules.specs.Rules.{with_rule}
use Rattle.board_core.specs.Boards.{Board}
use Rattle.board_core.specs.Clean.{IsCleanBoard, IsLeastPair}

-- two live items that are too near
abbrev pub unclean : ℕ → ℕ → Why
unclean a b = whys.Unclean (record { 0 = a }) (record { 0 = b })

-- the reason that names the least two live items that don't keep their need under these rules; none where each two do
abbrev pub IsUncleanReason : Parts → List (Option ℕ) → List (ℕ × Item) → Option Why → Type 0
IsUncleanReason p rules live None = IsCleanBoard p rules live
IsUncleanReason p rules live (Some why) = (a b : ℕ) × IsLeastPair p rules live a b × (why ≡ unclean a b)

-- what a change of a class's clearance is answered: the reason by itself, and then that of the live items under the rules
-- with the change
abbrev pub IsRuleReason : Parts → ℕ → Board → ℕ → ℕ → Option Why → Type 0
IsRuleReason p clients b class clearance =
    Then (IsStaticReason p b.rules clients (requests.Rule class clearance)) (IsUncleanReason p (with_rule class clearance b.rules) b.live)
