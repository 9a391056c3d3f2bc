-- Each entry of a legal history leaves what lies in each boundary that is foreign to its client.
use Rattle.std.proofs.Common.{◌≡◌, ℕ, ◌+◌, List, [], ◌∷◌, sym, ap, ◌∙◌, subst, add-one}
use Rattle.board_items.specs.declared.requests.Request.TheVariants as requests
use Rattle.board_items.specs.declared.history.Act.{Act}
use Rattle.board_items.specs.declared.history.Act.TheVariants as acts
use Rattle.board_items.specs.declared.history.Call.{Call}
use Rattle.board_rules.specs.declared.design.Parts.{Parts}
use Rattle.board_rules.specs.Rules.{with_rule}
use Rattle.number_slots.specs.Slots.{without, IsAt}
use Rattle.number_slots.proofs.ByNumber.{at_front}
use Rattle.boundaries.specs.Boundaries.{Boundary, entitled_at, IsEntitled}
use Rattle.board_core.specs.Boards.{Board, after, first_board, board_at}
use Rattle.board_core.specs.Histories.{IsLegal, journal_of}
use Rattle.board_core.specs.Shields.{IsSameWithin, IsShielded}
use Rattle.board_laws.proofs.Boundaries.{other_stays}
use Rattle.board_laws.proofs.Refusals.{edit_none, reserve_none, unfence_none, entitle_none}
use Rattle.board_laws.proofs.Order.{IsOrdered, step_ordered, first_ordered}
use Rattle.board_laws.proofs.Guards.{IsGuardedBoard, step_guarded}
use Rattle.board_laws.proofs.Steps.{IsStep, kept_to, step_at, legal_steps}
use Rattle.board_laws.proofs.Foreign.{edit_same, reserve_same, release_same, leave_same, fence_same, rule_same, not_owned, unfence_at}

step_same : (p : Parts) (clients : ℕ) (b : Board) (client : ℕ) (act : Act) (n : ℕ) (f : Boundary) → IsOrdered b → IsGuardedBoard p b → IsStep p clients b client act → IsAt b.fences n f → (IsEntitled f client → ⊥) → IsSameWithin p n f b (after b client act)
step_same p clients b client (acts.Ask (requests.Edit deletes adds)) n f order is step at_n foreign = edit_same p b client deletes adds n f (edit_none p clients b client deletes adds step).1 at_n foreign
step_same p clients b client (acts.Ask (requests.Reserve id)) n f order is step at_n foreign = reserve_same p b client id.0 n f (reserve_none p b client id.0 step).1 at_n foreign
step_same p clients b client (acts.Ask (requests.Release id)) n f order is step at_n foreign = release_same p b client id.0 n f is at_n foreign
step_same p clients b client (acts.Ask (requests.Fence layers area entitled)) n f order is step at_n foreign = fence_same p b n f _ (b.last + 1) (at_front b.fences _ n f at_n)
step_same p clients b client (acts.Ask (requests.Unfence fence)) n f order is step at_n foreign =
    fence_same p b n f (without (fence ∷ []) b.fences) b.last (unfence_at b fence n f (not_owned b client fence n f order (unfence_none b client fence step) at_n foreign) at_n)
step_same p clients b client (acts.Ask (requests.Entitle fence other)) n f order is step at_n foreign =
    fence_same p b n f (entitled_at fence other b.fences) b.last (other_stays fence other b.fences n f (not_owned b client fence n f order (entitle_none clients b client fence other step) at_n foreign) at_n)
step_same p clients b client (acts.Ask (requests.Rule class clearance)) n f order is step at_n foreign = rule_same p b n f (with_rule class clearance b.rules) at_n
step_same p clients b client acts.Leave n f order is step at_n foreign = leave_same p b client n f is at_n foreign

-- ---- journals

-- what holds of each board of a legal history
record IsHeldTo (p : Parts) (b : Board) : Type 0 where
  pub order : IsOrdered b
  pub guards : IsGuardedBoard p b

step_held_to : (p : Parts) (clients : ℕ) (b : Board) (client : ℕ) (act : Act) → IsHeldTo p b → IsStep p clients b client act → IsHeldTo p (after b client act)
step_held_to p clients b client act is step = record { order = step_ordered p clients b client act is.order step; guards = step_guarded p clients b client act is.order is.guards step }

first_held_to : (p : Parts) → IsHeldTo p (first_board p)
first_held_to p = record { order = first_ordered p; guards = record { guarded = λ id holder n f h. absurd h } }

-- each entry of a legal history leaves what lies in each boundary that is foreign to its client
pub journal_shielded : (p : Parts) (clients limit : ℕ) (calls : List Call) → IsLegal p clients limit calls → IsShielded p (journal_of calls)
journal_shielded p clients limit calls legal k n e f is at_n foreign =
    let steps = legal_steps p clients limit calls legal in
    let before = board_at p (journal_of calls) k in
    let holds : IsHeldTo p before = kept_to p clients (IsHeldTo p) (step_held_to p clients) (first_board p) (journal_of calls) k (first_held_to p) steps in
    let at_k = step_at p clients (first_board p) (journal_of calls) k e steps is in
    let next : after before e.client e.act ≡ board_at p (journal_of calls) (k + 1) = sym at_k.1 ∙ ap (λ (m : ℕ). board_at p (journal_of calls) m) (sym (add-one k)) in
    subst (λ (c : Board). IsSameWithin p n f before c) next (step_same p clients before e.client e.act n f holds.order holds.guards at_k.0 at_n foreign)
