-- A clean board stays clean.
use Rattle.std.proofs.Common.{ℕ, ◌+◌, ◌<◌, List, ◌++◌, length, arith, inl, inr}
use Rattle.std.specs.Prelude.{◌⊎◌, None}
use Rattle.board_items.specs.declared.items.Item.{Item}
use Rattle.board_items.specs.declared.requests.Add.{Add}
use Rattle.board_items.specs.declared.requests.Request.TheVariants as requests
use Rattle.board_items.specs.declared.history.Act.{Act}
use Rattle.board_items.specs.declared.history.Act.TheVariants as acts
use Rattle.board_items.specs.declared.history.Call.{Call}
use Rattle.board_rules.specs.declared.design.Parts.{Parts}
use Rattle.board_rules.specs.Needs.{KeepsNeed}
use Rattle.number_slots.specs.Slots.{without, IsAt}
use Rattle.number_slots.proofs.ByNumber.{at_either, at_within}
use Rattle.board_core.specs.Boards.{Board, made_from, after, first_board, board_at}
use Rattle.board_core.specs.Clean.{IsCleanBoard}
use Rattle.board_core.specs.Edits.{IsEditReason}
use Rattle.board_core.specs.Histories.{IsLegal, journal_of}
use Rattle.board_laws.proofs.Numbers.{not_among, numbered_below}
use Rattle.board_laws.proofs.Needs.{keeps_turned}
use Rattle.board_laws.proofs.Made.{made_at_least, made_below, own_none, clash_none}
use Rattle.board_laws.proofs.Refusals.{edit_none, rule_none}
use Rattle.board_laws.proofs.Steps.{IsStep, kept_to, legal_steps}

-- no two live items are too near under the board's rules, and the next number is above theirs
pub record IsCleanly (p : Parts) (b : Board) : Type 0 where
  pub clean : IsCleanBoard p b.rules b.live
  pub below : (id : ℕ) (x : Item) → IsAt b.live id x → id < b.next_id

edited_pair : (p : Parts) (clients : ℕ) (b : Board) (client : ℕ) (deletes : List ℕ) (adds : List Add) (c d : ℕ) (x y : Item) → IsCleanly p b → IsEditReason p clients b client deletes adds None → c < d
    → IsAt (without deletes b.live) c x ⊎ IsAt (made_from b.next_id adds) c x → IsAt (without deletes b.live) d y ⊎ IsAt (made_from b.next_id adds) d y → KeepsNeed p b.rules x y
edited_pair p clients b client deletes adds c d x y is none lt (inl f) (inl g) = is.clean c d x y lt (at_within deletes b.live c x f) (at_within deletes b.live d y g)
edited_pair p clients b client deletes adds c d x y is none lt (inl f) (inr g) =
    keeps_turned p b.rules y x (clash_none p b.rules b.live deletes 1 b.next_id adds c d x y (edit_none p clients b client deletes adds none).2 (at_within deletes b.live c x f) (not_among deletes b.live c x f) g)
edited_pair p clients b client deletes adds c d x y is none lt (inr f) (inl g) =
    let low = is.below d y (at_within deletes b.live d y g) in
    let high = made_at_least b.next_id adds c x f in
    absurd (omega arith)
edited_pair p clients b client deletes adds c d x y is none lt (inr f) (inr g) = own_none p b.rules 1 b.next_id adds (edit_none p clients b client deletes adds none).0 c d x y lt f g

-- live items after an edit lie below the next number
pub edited_below : (b : Board) (deletes : List ℕ) (adds : List Add) → ((id : ℕ) (x : Item) → IsAt b.live id x → id < b.next_id) → (id : ℕ) (x : Item) → IsAt (without deletes b.live ++ made_from b.next_id adds) id x → id < b.next_id + length adds
edited_below b deletes adds below id x h = elim (at_either (without deletes b.live) (made_from b.next_id adds) id x h) [
  | inl f ↦ omega (arith, below id x (at_within deletes b.live id x f))
  | inr f ↦ made_below b.next_id adds id x f
]

step_clean : (p : Parts) (clients : ℕ) (b : Board) (client : ℕ) (act : Act) → IsCleanly p b → IsStep p clients b client act → IsCleanly p (after b client act)
step_clean p clients b client (acts.Ask (requests.Edit deletes adds)) is step = record {
  clean = λ c d x y lt f g. edited_pair p clients b client deletes adds c d x y is step lt (at_either (without deletes b.live) (made_from b.next_id adds) c x f) (at_either (without deletes b.live) (made_from b.next_id adds) d y g);
  below = edited_below b deletes adds is.below;
}
step_clean p clients b client (acts.Ask (requests.Reserve id)) is step = record { clean = is.clean; below = is.below }
step_clean p clients b client (acts.Ask (requests.Release id)) is step = record { clean = is.clean; below = is.below }
step_clean p clients b client (acts.Ask (requests.Fence layers area entitled)) is step = record { clean = is.clean; below = is.below }
step_clean p clients b client (acts.Ask (requests.Unfence fence)) is step = record { clean = is.clean; below = is.below }
step_clean p clients b client (acts.Ask (requests.Entitle fence other)) is step = record { clean = is.clean; below = is.below }
step_clean p clients b client (acts.Ask (requests.Rule class clearance)) is step = record { clean = rule_none p clients b class clearance step; below = is.below }
step_clean p clients b client acts.Leave is step = record { clean = is.clean; below = is.below }

-- the loaded items lie below the first number that is given
pub first_below : (p : Parts) (id : ℕ) (x : Item) → IsAt (first_board p).live id x → id < (first_board p).next_id
first_below p id x h = let lt = numbered_below 1 p.items id x h in omega (arith, lt)

-- each board of a legal history from a clean one is clean under its own rules
pub boards_clean : (p : Parts) (clients limit : ℕ) (calls : List Call) (k : ℕ) → IsCleanBoard p (first_board p).rules (first_board p).live → IsLegal p clients limit calls → IsCleanBoard p (board_at p (journal_of calls) k).rules (board_at p (journal_of calls) k).live
boards_clean p clients limit calls k clean legal =
    let first : IsCleanly p (first_board p) = record { clean = clean; below = first_below p } in
    let at_k : IsCleanly p (board_at p (journal_of calls) k) = kept_to p clients (IsCleanly p) (step_clean p clients) (first_board p) (journal_of calls) k first (legal_steps p clients limit calls legal) in
    at_k.clean
