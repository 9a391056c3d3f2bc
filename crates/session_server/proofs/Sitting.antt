-- A session, from the desk's end to what is left of it.
use Rattle.std.proofs.Common.{◌≡◌, ℕ, Bool, true, false, List, [], ◌∷◌, ◌++◌, Option, Some, None, sym, ap, subst, refl, ◌∙◌, arith}
use Rattle.std.specs.Prelude.{◌==◌, ◌&&◌, ◌||◌}
use Rattle.std.proofs.lemmas.List.{append-nil, append_assoc}
use Rattle.std.proofs.lemmas.List.Folds.{list_any-append}
use Rattle.row_lists.specs.Limits.{weight_limit}
use Rattle.board_items.specs.declared.history.Call.{Call}
use Rattle.board_items.specs.declared.history.Entry.{Entry}
use Rattle.layout_io.specs.Links.{LinkTold}
use Rattle.layout_io.specs.Doors.{IsUntouched, IsNew, TakesNext}
use Rattle.board_rules.specs.declared.design.Parts.{Parts}
use Rattle.board_core.specs.Boards.{first_board}
use Rattle.board_core.specs.Clean.{IsCleanBoard}
use Rattle.board_core.specs.Histories.{journal_of, has_left, is_leave, IsNextCall, AreNextCalls, IsLegal}
use Rattle.board_core.specs.Shields.{IsShielded}
use Rattle.session_loop.specs.Sessions.{HasSession}
use Rattle.session_server.specs.Lefts.{Left, LeavesLast, AreClean, HasLeft, OfFirst, HasServed}

-- ---- the last call is the leave

-- the leave is the last of the calls behind these
pub record Last (before calls : List Call) : Type 0 where
  pub requests : List Call
  pub leave : Call
  pub parts : calls ≡ requests ++ leave ∷ []
  pub mine : leave.client ≡ 1
  pub leaves : is_leave leave.act ≡ true
  pub none_before : has_left 1 (before ++ requests) ≡ false

only_one : (p : Parts) (before : List Call) (c : Call) → IsNextCall p 1 weight_limit before c → c.client ≡ 1
only_one p before c next = let first = next.present.0 in let last = next.present.1 in omega (arith, first, last)

not_left : (p : Parts) (before : List Call) (c : Call) → IsNextCall p 1 weight_limit before c → has_left 1 before ≡ false
not_left p before c next = ap (λ (n : ℕ). has_left n before) (sym (only_one p before c next)) ∙ next.present.2

now_leaves : (a b c : Bool) → a ≡ false → (a || ((b && c) || false)) ≡ true → c ≡ true
now_leaves true b c e left = absurd (cc e)
now_leaves false true true e left = refl
now_leaves false true false e left = absurd (cc left)
now_leaves false false c e left = absurd (cc left)

one_leaves : (before : List Call) (c : Call) → has_left 1 before ≡ false → has_left 1 (before ++ c ∷ []) ≡ true → is_leave c.act ≡ true
one_leaves before c none left =
    now_leaves (has_left 1 before) (c.client == 1) (is_leave c.act) none (sym (list_any-append (λ (d : Call). (d.client == 1) && is_leave d.act) before (c ∷ [])) ∙ left)

-- behind the leave there is no call
none_behind : (p : Parts) (before : List Call) (c : Call) (rest : List Call) → has_left 1 before ≡ false → IsNextCall p 1 weight_limit before c → has_left 1 (before ++ c ∷ []) ≡ true → AreNextCalls p 1 weight_limit (before ++ c ∷ []) rest → Last before (c ∷ rest)
none_behind p before c [] none next left all = record {
  requests = [];
  leave = c;
  parts = refl;
  mine = only_one p before c next;
  leaves = one_leaves before c none left;
  none_before = ap (has_left 1) (append-nil before) ∙ none;
}
none_behind p before c (d ∷ rest) none next left all = let here = not_left p (before ++ c ∷ []) d all.0 in absurd (cc (sym left ∙ here))

last_further : (before rest : List Call) (c : Call) → Last (before ++ c ∷ []) rest → Last before (c ∷ rest)
last_further before rest c l = record {
  requests = c ∷ l.requests;
  leave = l.leave;
  parts = ap (λ (w : List Call). c ∷ w) l.parts;
  mine = l.mine;
  leaves = l.leaves;
  none_before = ap (has_left 1) (sym (append_assoc before (c ∷ []) l.requests)) ∙ l.none_before;
}

last_case : (p : Parts) (before : List Call) (c : Call) (rest : List Call) (b : Bool) → has_left 1 (before ++ c ∷ []) ≡ b → has_left 1 before ≡ false → IsNextCall p 1 weight_limit before c → AreNextCalls p 1 weight_limit (before ++ c ∷ []) rest
    → (has_left 1 (before ++ c ∷ []) ≡ false → Last (before ++ c ∷ []) rest) → Last before (c ∷ rest)
last_case p before c rest true is none next all below = none_behind p before c rest none next is all
last_case p before c rest false is none next all below = last_further before rest c (below is)

last_leave : (p : Parts) (before calls : List Call) → has_left 1 before ≡ false → has_left 1 (before ++ calls) ≡ true → AreNextCalls p 1 weight_limit before calls → Last before calls
last_leave p before [] none left all = let here = ap (has_left 1) (append-nil before) ∙ none in absurd (cc (sym left ∙ here))
last_leave p before (c ∷ rest) none left all =
    last_case p before c rest (has_left 1 (before ++ c ∷ [])) refl none all.0 all.1
    (λ here. last_leave p (before ++ c ∷ []) rest here (ap (has_left 1) (append_assoc before (c ∷ []) rest) ∙ left) all.1)

-- a legal history of one client who has left ends with the leave
pub leaves_last : (p : Parts) (history : List Call) → IsLegal p 1 weight_limit history → has_left 1 history ≡ true → LeavesLast 1 history
leaves_last p history legal left =
    let l = last_leave p [] history refl left legal in
    record { requests = l.requests; leave = l.leave; parts = l.parts; mine = l.mine; leaves = l.leaves; none_before = l.none_before }

-- ---- what is served

untouched_of : (coming now : Option (List (List ℕ))) (link : LinkTold) → TakesNext coming now link → IsUntouched link
untouched_of None now link new = new
untouched_of (Some []) now link new = absurd new
untouched_of (Some (bytes ∷ rest)) now link new = new.0.untouched

of_first : (coming now : Option (List (List ℕ))) (link : LinkTold) (P : List ℕ → Type 0) → TakesNext coming now link → ((input : List ℕ) → IsNew input link → P input) → OfFirst coming P
of_first None now link P new h = tt
of_first (Some []) now link P new h = absurd new
of_first (Some (bytes ∷ rest)) now link P new h = h bytes new.0

pub served_of : (p : Parts) (coming now : Option (List (List ℕ))) (before : LinkTold) (l : Left) → HasLeft p before l → TakesNext coming now before
    → IsCleanBoard p (first_board p).rules (first_board p).live
    → (IsLegal p 1 weight_limit l.history → IsShielded p (journal_of l.history))
    → (IsLegal p 1 weight_limit l.history → AreClean p (journal_of l.history))
    → HasServed p coming l
served_of p coming now before l left new clean shields cleans = record {
  end = left.end;
  link = left.link;
  answers = left.sat.answers;
  ends = left.ends;
  links = left.links;
  legal = left.sat.legal;
  fresh = left.sat.fresh;
  leaves = left.sat.leaves;
  journal = left.journal;
  shielded = subst (IsShielded p) (sym left.journal) (shields left.sat.legal);
  clean = subst (AreClean p) (sym left.journal) (cleans left.sat.legal);
  answered = left.sat.answered;
  session = of_first coming now before (λ (input : List ℕ). HasSession 1 1 input left.link left.end left.sat.answers l.journal) new
      (λ input is. subst (λ (journal : List Entry). HasSession 1 1 input left.link left.end left.sat.answers journal) (sym left.journal) (left.sat.session input is));
  causes = record { before = before; untouched = untouched_of coming now before new; cause = left.sat.cause; timely = left.sat.timely };
}
