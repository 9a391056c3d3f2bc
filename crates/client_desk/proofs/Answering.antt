-- A client's answers, as the history grows.
use Rattle.std.proofs.Common.{◌≡◌, ℕ, ◌+◌, ◌≤◌, List, [], ◌∷◌, ◌++◌, length, refl, ap, sym, ◌∙◌, arith}
use Rattle.std.specs.Prelude.{Bool, true, false, ◌==◌}
use Rattle.std.proofs.lemmas.Bool.{eq-eqb}
use Rattle.std.proofs.lemmas.List.{append_assoc, append-nil, length-append}
use Rattle.std.proofs.lemmas.List.Elements.{filter-append}
use Rattle.board_items.specs.declared.requests.Request.{Request}
use Rattle.board_items.specs.declared.history.Act.{Act}
use Rattle.board_items.specs.declared.history.Act.TheVariants.{Ask, Leave}
use Rattle.board_items.specs.declared.history.Call.{Call}
use Rattle.board_items.specs.declared.history.Reply.{Reply}
use Rattle.board_items.specs.declared.history.Reply.TheVariants.{Done, No, Full, Left}
use Rattle.board_core.specs.Histories.{journal_of, entries_by, has_left, IsFull}
use Rattle.desk_core.specs.declared.desk.Answer.{Answer}
use Rattle.client_desk.specs.Standings.{Standing, journal, with_call, asked_call, leave_call}
use Rattle.client_desk.specs.Given.{AreWithin, calls_of, answer_by, answers_from, answers_of, is_call, called, HasPoint, HavePoints, HasAnswers}
use Rattle.client_desk.proofs.Fronts.{starts_same, starts_then, all_snoc}
use Rattle.client_desk.proofs.Journals.{journal_of-append, journal_longer}

pub answers_from-append : (n k : ℕ) (h r : List Call) → answers_from n k (h ++ r) ≡ answers_from n k h ++ answers_from n (k + length (journal_of h)) r
answers_from-append n k [] r = ap (λ j. answers_from n j r) (omega arith)
answers_from-append n k (c ∷ h) r =
    let first = answer_by (c.client == n) c.act (k + length (entries_by c.client c.act c.reply)) c.reply in
    let next = k + length (entries_by c.client c.act c.reply) in
    let below = answers_from-append n next h r in
    let sum : next + length (journal_of h) ≡ k + length (entries_by c.client c.act c.reply ++ journal_of h) = omega (arith, length-append (entries_by c.client c.act c.reply) (journal_of h)) in
    ap (λ w. first ++ w) (below ∙ ap (λ j. answers_from n next h ++ answers_from n j r) sum)
    ∙ sym (append_assoc first (answers_from n next h) (answers_from n (k + length (entries_by c.client c.act c.reply ++ journal_of h)) r))

no_answer : (act : Act) (place : ℕ) (reply : Reply) → answer_by false act place reply ≡ []
no_answer (Ask r) place reply = refl
no_answer Leave place reply = refl

none_case : (n k : ℕ) (c : Call) (r : List Call) (b : Bool) → (c.client == n) ≡ b → calls_of n (c ∷ r) ≡ []
    → (calls_of n r ≡ [] → answers_from n (k + length (entries_by c.client c.act c.reply)) r ≡ []) → answers_from n k (c ∷ r) ≡ []
none_case n k c r true e none below = absurd (cc (rw e at none))
none_case n k c r false e none below =
    let less : calls_of n r ≡ [] = rw e at none in
    let next = k + length (entries_by c.client c.act c.reply) in
    rw e (ap (λ w. w ++ answers_from n next r) (no_answer c.act next c.reply) ∙ below less)

-- a client without a call has no answers
pub answers_none : (n k : ℕ) (r : List Call) → calls_of n r ≡ [] → answers_from n k r ≡ []
answers_none n k [] none = refl
answers_none n k (c ∷ r) none = none_case n k c r (c.client == n) refl none (answers_none n (k + length (entries_by c.client c.act c.reply)) r)

pub answers_asked : (n base : ℕ) (h : List Call) (request : Request) (reply : Reply)
    → answers_of n (h ++ asked_call n base request reply ∷ []) ≡ answers_of n h ++ record { request = request; place = length (journal_of (h ++ asked_call n base request reply ∷ [])); reply = reply } ∷ []
answers_asked n base h request reply =
    let test : (n == n) ≡ true = eq-eqb n n refl in
    let d = asked_call n base request reply in
    let es = entries_by n (Ask request) reply in
    let place : (0 + length (journal_of h)) + length es ≡ length (journal_of (h ++ d ∷ [])) =
    omega (arith, ap length (journal_of-append h (d ∷ [])), length-append (journal_of h) (journal_of (d ∷ [])), length-append es []) in
    answers_from-append n 0 h (d ∷ [])
    ∙ ap (λ w. answers_of n h ++ w) (ap (λ b. answer_by b (Ask request) ((0 + length (journal_of h)) + length es) reply ++ []) test
    ∙ ap (λ (p : ℕ). record { request = request; place = p; reply = reply } ∷ []) place)

pub answers_left : (n count : ℕ) (h : List Call) → answers_of n (h ++ leave_call n count ∷ []) ≡ answers_of n h
answers_left n count h = answers_from-append n 0 h (leave_call n count ∷ []) ∙ append-nil (answers_of n h)

point_more : (s : Standing) (c : Call) (n : ℕ) (request : Request) (place : ℕ) (reply : Reply) → HasPoint s n request place reply → HasPoint (with_call s c) n request place reply
point_more s c n request place Full x = (x.0, starts_then (s.history ++ c ∷ []) s.history x.0 (c ∷ [], refl) x.1, x.2, x.3, x.4)
point_more s c n request place (Done m) x = tt
point_more s c n request place (No why) x = tt
point_more s c n request place (Left m) x = tt

points_more : (s : Standing) (c : Call) (n : ℕ) (given : List Answer) → HavePoints s n given → HavePoints (with_call s c) n given
points_more s c n [] all = tt
points_more s c n (a ∷ given) all = (point_more s c n a.request a.place a.reply all.0, points_more s c n given all.1)

pub within_more : (m n : ℕ) (given : List Answer) → m ≤ n → AreWithin m given → AreWithin n given
within_more m n [] le all = tt
within_more m n (a ∷ given) le all = ((let x = all.0 in omega arith), within_more m n given le all.1)

within_call : (s : Standing) (c : Call) (given : List Answer) → AreWithin (length (journal s)) given → AreWithin (length (journal (with_call s c))) given
within_call s c given all = within_more (length (journal s)) (length (journal (with_call s c))) given (journal_longer (s.history ++ c ∷ []) s.history (c ∷ [], refl)) all

-- nothing was answered yet
pub answered_none : (s : Standing) (n : ℕ) → calls_of n s.history ≡ [] → HasAnswers s n []
answered_none s n none = record { calls = sym (answers_none n 0 s.history none); points = tt; within = tt }

-- a request more, which is a call of the history
pub answered_called : (s : Standing) (n base place : ℕ) (request : Request) (reply : Reply) (given : List Answer) → is_call reply ≡ true → HasPoint (with_call s (asked_call n base request reply)) n request place reply
    → place ≡ length (journal (with_call s (asked_call n base request reply))) → HasAnswers s n given
    → HasAnswers (with_call s (asked_call n base request reply)) n (given ++ record { request = request; place = place; reply = reply } ∷ [])
answered_called s n base place request reply given is point at x =
    let c = asked_call n base request reply in
    let a : Answer = record { request = request; place = place; reply = reply } in
    let grown : answers_of n (s.history ++ c ∷ []) ≡ answers_of n s.history ++ a ∷ [] =
    answers_asked n base s.history request reply ∙ ap (λ (p : ℕ). answers_of n s.history ++ record { request = request; place = p; reply = reply } ∷ []) (sym at) in
    record {
      calls = filter-append (λ (a : Answer). is_call a.reply) given (a ∷ []) ∙ (rw is (ap (λ w. w ++ a ∷ []) x.calls) ∙ sym grown);
      points = all_snoc (λ (a : Answer). HasPoint (with_call s c) n a.request a.place a.reply) given a (points_more s c n given x.points) point;
      within = all_snoc (λ (a : Answer). a.place ≤ length (journal (with_call s c))) given a (within_call s c given x.within) (omega (arith, at));
    }

-- a request more, which was full
pub answered_full : (s : Standing) (n place : ℕ) (request : Request) (given : List Answer) → IsFull s.limit s.clients s.history request → has_left n s.history ≡ false
    → place ≡ length (journal s) → HasAnswers s n given → HasAnswers s n (given ++ record { request = request; place = place; reply = Full } ∷ [])
answered_full s n place request given full here at x =
    let a : Answer = record { request = request; place = place; reply = Full } in
    record {
      calls = filter-append (λ (a : Answer). is_call a.reply) given (a ∷ []) ∙ (append-nil (called given) ∙ x.calls);
      points = all_snoc (λ (a : Answer). HasPoint s n a.request a.place a.reply) given a x.points (s.history, starts_same s.history, sym at, full, here);
      within = all_snoc (λ (a : Answer). a.place ≤ length (journal s)) given a x.within (omega (arith, at));
    }

-- a leave more
pub answered_left : (s : Standing) (n count : ℕ) (given : List Answer) → HasAnswers s n given → HasAnswers (with_call s (leave_call n count)) n given
answered_left s n count given x =
    let c = leave_call n count in
    record {
      calls = x.calls ∙ sym (answers_left n count s.history);
      points = points_more s c n given x.points;
      within = within_call s c given x.within;
    }
