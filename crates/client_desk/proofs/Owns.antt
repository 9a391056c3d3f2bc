-- A client without a call, and who has left behind one call more.
use Rattle.std.proofs.Common.{◌≡◌, ℕ, List, [], ◌∷◌, ◌++◌, refl, ◌∙◌}
use Rattle.std.specs.Prelude.{Bool, true, false, ◌==◌, ◌&&◌, ◌||◌}
use Rattle.std.proofs.lemmas.Bool.{eq-eqb}
use Rattle.std.proofs.lemmas.List.Folds.{list_any-append}
use Rattle.board_items.specs.declared.requests.Request.{Request}
use Rattle.board_items.specs.declared.history.Call.{Call}
use Rattle.board_items.specs.declared.history.Reply.{Reply}
use Rattle.board_core.specs.Histories.{has_left, is_leave}
use Rattle.client_desk.specs.Standings.{asked_call, leave_call}
use Rattle.client_desk.specs.Given.{calls_of}

still_or : (a b : Bool) → (a || ((b && false) || false)) ≡ a
still_or true b = refl
still_or false true = refl
still_or false false = refl

now_or : (a b : Bool) → b ≡ true → (a || ((b && true) || false)) ≡ true
now_or true b e = refl
now_or false b e = rw e refl

-- the call is this client's leave
abbrev leaves : ℕ → Call → Bool
leaves client c = (c.client == client) && is_leave c.act

-- a request more leaves everybody where it was
pub still_here : (n client base : ℕ) (h : List Call) (request : Request) (reply : Reply) → has_left n (h ++ asked_call client base request reply ∷ []) ≡ has_left n h
still_here n client base h request reply =
    list_any-append (leaves n) h (asked_call client base request reply ∷ []) ∙ still_or (has_left n h) (client == n)

pub now_left : (n count : ℕ) (h : List Call) → has_left n (h ++ leave_call n count ∷ []) ≡ true
now_left n count h = list_any-append (leaves n) h (leave_call n count ∷ []) ∙ now_or (has_left n h) (n == n) (eq-eqb n n refl)

none_left_case : (n : ℕ) (c : Call) (h : List Call) (b : Bool) → (c.client == n) ≡ b → calls_of n (c ∷ h) ≡ [] → (calls_of n h ≡ [] → has_left n h ≡ false) → has_left n (c ∷ h) ≡ false
none_left_case n c h true e none below = absurd (cc (rw e at none))
none_left_case n c h false e none below =
    let less : calls_of n h ≡ [] = rw e at none in
    rw e (below less)

-- a client without a call hasn't left
pub none_left : (n : ℕ) (h : List Call) → calls_of n h ≡ [] → has_left n h ≡ false
none_left n [] none = refl
none_left n (c ∷ h) none = none_left_case n c h (c.client == n) refl none (none_left n h)
