-- Steps that may come where they stand, and one step more.
use Rattle.std.proofs.Common.{◌≡◌, ℕ, List, [], ◌∷◌, ◌++◌, sym, ap, subst, ◌∙◌, append_assoc}
use Rattle.std.specs.Prelude.{Bool, ◌||◌}
use Rattle.std.proofs.Math.Bool.{or-false}
use Rattle.std.proofs.lemmas.List.{append-nil}
use Rattle.std.proofs.lemmas.List.Folds.{list_any-append}
use Rattle.std.specs.List.{AllByRecursion}
use Rattle.session_wire.specs.declared.steps.ScriptStep.{ScriptStep}
use Rattle.session_wire.specs.Steps.{IsStep}
use Rattle.script_replay.specs.Scripts.{IsDue, AreDue, has_gone, is_leave_by}

pub due_more : (before steps : List ScriptStep) (s : ScriptStep) → AreDue before steps → IsDue (before ++ steps) s → AreDue before (steps ++ s ∷ [])
due_more before [] s all due = (subst (λ (x : List ScriptStep). IsDue x s) (append-nil before) due, tt)
due_more before (x ∷ xs) s all due =
    (all.0, due_more (before ++ x ∷ []) xs s all.1 (subst (λ (y : List ScriptStep). IsDue y s) (sym (append_assoc before (x ∷ []) xs)) due))

pub due_behind : (start before : List ScriptStep) (s : ScriptStep) (rest : List ScriptStep) → AreDue start (before ++ s ∷ rest) → IsDue (start ++ before) s
due_behind start [] s rest all = subst (λ (x : List ScriptStep). IsDue x s) (sym (append-nil start)) all.0
due_behind start (x ∷ xs) s rest all = subst (λ (y : List ScriptStep). IsDue y s) (append_assoc start (x ∷ []) xs) (due_behind (start ++ x ∷ []) xs s rest all.1)

pub due_formed : (before rest : List ScriptStep) → AreDue before rest → AllByRecursion IsStep rest
due_formed before [] all = tt
due_formed before (s ∷ rest) all = (all.0.0, due_formed (before ++ s ∷ []) rest all.1)

-- who has left behind one step more
pub gone_more : (client : ℕ) (steps : List ScriptStep) (s : ScriptStep) → has_gone client (steps ++ s ∷ []) ≡ (has_gone client steps || is_leave_by client s)
gone_more client steps s = list_any-append (is_leave_by client) steps (s ∷ []) ∙ ap (λ (b : Bool). has_gone client steps || b) (or-false (is_leave_by client s))
