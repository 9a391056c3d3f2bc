-- The entries of a legal history, each of which may come next on the board before it.
use Rattle.std.proofs.Common.{◌≡◌, ℕ, zero, suc, List, [], ◌∷◌, ◌++◌, refl, sym, ap, subst, ◌∙◌, append_assoc, take}
use Rattle.std.specs.Prelude.{Some, None, slice_get}
use Rattle.board_items.specs.declared.history.Act.{Act}
use Rattle.board_items.specs.declared.history.Act.TheVariants as acts
use Rattle.board_items.specs.declared.history.Entry.{Entry}
use Rattle.board_items.specs.declared.history.Call.{Call}
use Rattle.board_items.specs.declared.history.Reply.{Reply}
use Rattle.board_items.specs.declared.history.Reply.TheVariants as replies
use Rattle.board_rules.specs.declared.design.Parts.{Parts}
use Rattle.board_core.specs.Boards.{Board, after, folded, first_board, last_board}
use Rattle.board_core.specs.Answers.{IsAnswer}
use Rattle.board_core.specs.Histories.{entries_by, journal_of, IsActReply, AreNextCalls, IsLegal}

-- an act that a board lets through: a request with no reason against it, or a leave
abbrev pub IsStep : Parts → ℕ → Board → ℕ → Act → Type 0
IsStep p clients b client (acts.Ask request) = IsAnswer p clients b client request None
IsStep p clients b client acts.Leave = Unit {0}

-- each entry's act is let through by the board before it
abbrev pub AreSteps : Parts → ℕ → Board → List Entry → Type 0
AreSteps p clients b [] = Unit {0}
AreSteps p clients b (e ∷ es) = IsStep p clients b e.client e.act × AreSteps p clients (after b e.client e.act) es

-- an act is let through where its reply makes an entry
abbrev IsEntered : Parts → ℕ → Board → ℕ → Act → Reply → Type 0
IsEntered p clients b client act (replies.Done number) = IsStep p clients b client act
IsEntered p clients b client act (replies.No why) = Unit {0}
IsEntered p clients b client act replies.Full = Unit {0}
IsEntered p clients b client act (replies.Left number) = IsStep p clients b client act

entered : (p : Parts) (clients limit : ℕ) (calls : List Call) (client base : ℕ) (act : Act) (reply : Reply) → IsActReply p clients limit calls client base act reply → IsEntered p clients (last_board p (journal_of calls)) client act reply
entered p clients limit calls client base (acts.Ask request) (replies.Done number) h = h.3.0
entered p clients limit calls client base (acts.Ask request) (replies.No why) h = tt
entered p clients limit calls client base (acts.Ask request) replies.Full h = tt
entered p clients limit calls client base (acts.Ask request) (replies.Left number) h = absurd h.3
entered p clients limit calls client base acts.Leave (replies.Done number) h = tt
entered p clients limit calls client base acts.Leave (replies.No why) h = tt
entered p clients limit calls client base acts.Leave replies.Full h = tt
entered p clients limit calls client base acts.Leave (replies.Left number) h = tt

one_call : (p : Parts) (clients : ℕ) (b : Board) (client : ℕ) (act : Act) (reply : Reply) (rest : List Entry) → IsEntered p clients b client act reply → AreSteps p clients (folded b (entries_by client act reply ++ [])) rest → AreSteps p clients b (entries_by client act reply ++ rest)
one_call p clients b client act (replies.Done number) rest h more = (h, more)
one_call p clients b client act (replies.No why) rest h more = more
one_call p clients b client act replies.Full rest h more = more
one_call p clients b client act (replies.Left number) rest h more = (h, more)

journal_join : (xs ys : List Call) → journal_of (xs ++ ys) ≡ journal_of xs ++ journal_of ys
journal_join [] ys = refl
journal_join (c ∷ xs) ys = ap (λ (es : List Entry). entries_by c.client c.act c.reply ++ es) (journal_join xs ys) ∙ sym (append_assoc (entries_by c.client c.act c.reply) (journal_of xs) (journal_of ys))

folded_join : (b : Board) (xs ys : List Entry) → folded b (xs ++ ys) ≡ folded (folded b xs) ys
folded_join b [] ys = refl
folded_join b (e ∷ xs) ys = folded_join (after b e.client e.act) xs ys

next_board : (p : Parts) (before : List Call) (c : Call) → last_board p (journal_of (before ++ c ∷ [])) ≡ folded (last_board p (journal_of before)) (entries_by c.client c.act c.reply ++ [])
next_board p before c = ap (λ (es : List Entry). last_board p es) (journal_join before (c ∷ [])) ∙ folded_join (first_board p) (journal_of before) (entries_by c.client c.act c.reply ++ [])

next_calls : (p : Parts) (clients limit : ℕ) (before rest : List Call) → AreNextCalls p clients limit before rest → AreSteps p clients (last_board p (journal_of before)) (journal_of rest)
next_calls p clients limit before [] h = tt
next_calls p clients limit before (c ∷ rest) h =
    one_call p clients (last_board p (journal_of before)) c.client c.act c.reply (journal_of rest)
    (entered p clients limit before c.client c.base c.act c.reply h.0.reply)
    (subst (λ (b : Board). AreSteps p clients b (journal_of rest)) (next_board p before c) (next_calls p clients limit (before ++ c ∷ []) rest h.1))

-- the entries of a legal history
pub legal_steps : (p : Parts) (clients limit : ℕ) (calls : List Call) → IsLegal p clients limit calls → AreSteps p clients (first_board p) (journal_of calls)
legal_steps p clients limit calls h = next_calls p clients limit [] calls h

-- what each step keeps holds of each board
pub kept_to : (p : Parts) (clients : ℕ) (P : Board → Type 0) → ((b : Board) (client : ℕ) (act : Act) → P b → IsStep p clients b client act → P (after b client act)) → (b : Board) (es : List Entry) (k : ℕ) → P b → AreSteps p clients b es → P (folded b (take k es))
kept_to p clients P keeps b es zero here steps = here
kept_to p clients P keeps b [] (suc k) here steps = here
kept_to p clients P keeps b (e ∷ es) (suc k) here steps = kept_to p clients P keeps (after b e.client e.act) es k (keeps b e.client e.act here steps.0) steps.1

-- the step of the entry at a place
pub step_at : (p : Parts) (clients : ℕ) (b : Board) (es : List Entry) (k : ℕ) (e : Entry) → AreSteps p clients b es → slice_get es k ≡ Some e
    → IsStep p clients (folded b (take k es)) e.client e.act × (folded b (take (suc k) es) ≡ after (folded b (take k es)) e.client e.act)
step_at p clients b [] k e steps is = absurd cc
step_at p clients b (x ∷ es) zero e steps is =
    let same : x ≡ e = cc in
    (subst (λ (y : Entry). IsStep p clients b y.client y.act) same steps.0, ap (λ (y : Entry). after b y.client y.act) same)
step_at p clients b (x ∷ es) (suc k) e steps is = step_at p clients (after b x.client x.act) es k e steps.1 is
