-- Answers to events, one step more, and what holds of the history behind them.
use Rattle.std.proofs.Common.{◌≡◌, ℕ, suc, ◌+◌, ◌<◌, List, [], ◌∷◌, ◌++◌, length, get_or, drop, drop-cons, add-one, refl, sym, ap, subst, ◌∙◌, append_assoc, inl, inr}
use Rattle.std.specs.Prelude.{Bool, false, ◌||◌, ◌==◌}
use Rattle.std.proofs.Math.Bool.{or-false, and-true}
use Rattle.std.proofs.lemmas.List.{append-nil}
use Rattle.row_lists.specs.Limits.{client_limit, weight_limit}
use Rattle.board_items.specs.declared.requests.Request.{Request}
use Rattle.board_items.specs.declared.history.Act.TheVariants.{Ask, Leave}
use Rattle.board_items.specs.declared.history.Call.{Call}
use Rattle.board_items.specs.declared.history.Reply.{Reply}
use Rattle.board_rules.specs.declared.design.Design.{Design}
use Rattle.board_rules.specs.declared.design.Parts.{Parts}
use Rattle.board_core.specs.Histories.{has_left, IsNextCall, AreNextCalls, IsLegal}
use Rattle.session_wire.specs.declared.steps.ScriptStep.{ScriptStep}
use Rattle.session_wire.specs.declared.steps.ScriptStep.TheVariants as steps
use Rattle.session_wire.specs.Steps.{IsStep}
use Rattle.script_replay.specs.Scripts.{Event, events_of, events_of_steps, client_of, has_gone, AreDue}
use Rattle.script_replay.specs.Replays.{call_of, IsReplied, Serves}
use Rattle.script_replay.specs.declared.master.Answered.{Answered}
use Rattle.script_replay.proofs.Dues.{gone_more}
use Rattle.script_replay.proofs.Lefts.{left_more, left_same}

legal_more : (p : Parts) (clients limit : ℕ) (before rest : List Call) (c : Call) → AreNextCalls p clients limit before rest → IsNextCall p clients limit (before ++ rest) c → AreNextCalls p clients limit before (rest ++ c ∷ [])
legal_more p clients limit before [] c all next = (subst (λ (x : List Call). IsNextCall p clients limit x c) (append-nil before) next, tt)
legal_more p clients limit before (x ∷ xs) c all next =
    (all.0, legal_more p clients limit (before ++ x ∷ []) xs c all.1 (subst (λ (y : List Call). IsNextCall p clients limit y c) (sym (append_assoc before (x ∷ []) xs)) next))

legal_next : (p : Parts) (calls next : List Call) (event : Event) (reply : Reply) → IsLegal p client_limit weight_limit calls → IsReplied p calls event reply next → IsLegal p client_limit weight_limit next
legal_next p calls next event reply is (inl full) = subst (IsLegal p client_limit weight_limit) (sym full.2) is
legal_next p calls next event reply is (inr call) =
    subst (IsLegal p client_limit weight_limit) (sym call.1) (legal_more p client_limit weight_limit [] calls (call_of calls event reply) is call.0)

-- events lead from a legal history to a legal one
pub serves_legal : (d : Design) (old : List Call) (events : List Event) (answers : List Answered) (new : List Call) → IsLegal d.parts client_limit weight_limit old → Serves d old events answers new → IsLegal d.parts client_limit weight_limit new
serves_legal d old [] [] new is s = subst (IsLegal d.parts client_limit weight_limit) (sym s) is
serves_legal d old [] (a ∷ others) new is s = absurd s
serves_legal d old (e ∷ es) [] new is s = absurd s
serves_legal d old (e ∷ es) (a ∷ others) new is s = serves_legal d s.1 es others new (legal_next d.parts old s.1 e a.reply is s.2) s.3

-- a step's answer goes before those of the steps behind it
pub serves_first : (d : Design) (old mid last : List Call) (step : ScriptStep) (rest : List ScriptStep) (a : Answered) (more : List Answered) → Serves d old (events_of step) (a ∷ []) mid → Serves d mid (events_of_steps rest) more last
    → Serves d old (events_of_steps (step ∷ rest)) (a ∷ more) last
serves_first d old mid last (steps.Do client request) rest a more one others =
    (one.0, one.1, one.2, subst (λ (j : List Call). Serves d j (events_of_steps rest) more last) one.3 others)
serves_first d old mid last (steps.Leave client) rest a more one others =
    (one.0, one.1, one.2, subst (λ (j : List Call). Serves d j (events_of_steps rest) more last) one.3 others)

-- who has left by calls has left by the steps that they answer
abbrev pub AreSameLeft : List Call → List ScriptStep → Type 0
AreSameLeft calls before = (client : ℕ) → has_left client calls ≡ has_gone client before

left_asked : (p : Parts) (old mid new : List Call) (client : ℕ) (request : Request) (reply : Reply) (n : ℕ) → IsReplied p old (record { client = client; act = Ask request }) reply mid → new ≡ mid → has_left n new ≡ has_left n old
left_asked p old mid new client request reply n (inl full) e = ap (has_left n) (e ∙ full.2)
left_asked p old mid new client request reply n (inr call) e = ap (has_left n) (e ∙ call.1) ∙ left_same n old (call_of old (record { client = client; act = Ask request }) reply) refl

left_leaving : (p : Parts) (old mid new : List Call) (client : ℕ) (reply : Reply) (n : ℕ) → IsReplied p old (record { client = client; act = Leave }) reply mid → new ≡ mid → has_left n new ≡ (has_left n old || (client == n))
left_leaving p old mid new client reply n (inl full) e = absurd full.1
left_leaving p old mid new client reply n (inr call) e =
    ap (has_left n) (e ∙ call.1) ∙ left_more n old (call_of old (record { client = client; act = Leave }) reply) ∙ ap (λ (b : Bool). has_left n old || b) (and-true (client == n))

pub left_step : (d : Design) (old new : List Call) (s : ScriptStep) (a : Answered) (before : List ScriptStep) → Serves d old (events_of s) (a ∷ []) new → AreSameLeft old before → AreSameLeft new (before ++ s ∷ [])
left_step d old new (steps.Do client request) a before one same n =
    left_asked d.parts old one.1 new client request a.reply n one.2 one.3 ∙ same n ∙ sym (or-false (has_gone n before)) ∙ sym (gone_more n before (steps.Do client request))
left_step d old new (steps.Leave client) a before one same n =
    left_leaving d.parts old one.1 new client a.reply n one.2 one.3 ∙ ap (λ (b : Bool). b || (client == n)) (same n) ∙ sym (gone_more n before (steps.Leave client))

-- the step at a place goes before those behind it
pub drop_at : (xs : List ScriptStep) (i : ℕ) (x : ScriptStep) → i < length xs → x ≡ get_or xs i x → drop i xs ≡ x ∷ drop (i + 1) xs
drop_at xs i x less is = rw (add-one, drop-cons xs i x) (ap (λ (y : ScriptStep). y ∷ drop (suc i) xs) (sym is))

-- the steps that are still to be answered, behind those that are
pub record IsBehind (calls : List Call) (rest : List ScriptStep) : Type 0 where
  pub before : List ScriptStep
  pub due : AreDue before rest
  pub same : AreSameLeft calls before

pub behind_none : (calls : List Call) (steps : List ScriptStep) → calls ≡ [] → AreDue [] steps → IsBehind calls steps
behind_none calls steps none due = record { before = []; due = due; same = λ client. ap (has_left client) none }

pub behind_one : (d : Design) (old new : List Call) (s : ScriptStep) (rest : List ScriptStep) (a : Answered) → IsBehind old (s ∷ rest) → Serves d old (events_of s) (a ∷ []) new → IsBehind new rest
behind_one d old new s rest a is one = record { before = is.before ++ s ∷ []; due = is.due.1; same = left_step d old new s a is.before one is.same }

pub step_formed : (calls : List Call) (s : ScriptStep) (rest : List ScriptStep) → IsBehind calls (s ∷ rest) → IsStep s
step_formed calls s rest is = is.due.0.0

pub step_present : (calls : List Call) (s : ScriptStep) (rest : List ScriptStep) → IsBehind calls (s ∷ rest) → has_left (client_of s) calls ≡ false
step_present calls s rest is = is.same (client_of s) ∙ is.due.0.1
