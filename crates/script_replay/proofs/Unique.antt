-- Steps have one run.
use Rattle.std.proofs.Common.{◌≡◌, ℕ, List, [], ◌∷◌, ◌++◌, length, sym, ap, subst, refl, ◌∙◌, inl, inr}
use Rattle.std.specs.Prelude.{Some, None}
use Rattle.row_lists.specs.Limits.{client_limit, weight_limit}
use Rattle.board_items.specs.declared.requests.Request.{Request}
use Rattle.board_items.specs.declared.history.Act.{Act}
use Rattle.board_items.specs.declared.history.Act.TheVariants.{Ask, Leave}
use Rattle.board_items.specs.declared.history.Call.{Call}
use Rattle.board_items.specs.declared.history.Entry.{Entry}
use Rattle.board_items.specs.declared.history.Reply.{Reply}
use Rattle.board_items.specs.declared.history.Reply.TheVariants.{Done, No, Full, Left}
use Rattle.board_rules.specs.declared.design.Design.{Design}
use Rattle.board_rules.specs.declared.design.Parts.{Parts}
use Rattle.board_core.specs.Boards.{last_board}
use Rattle.board_core.specs.Histories.{journal_of, IsRequestReply, IsActReply}
use Rattle.script_replay.specs.Scripts.{Event}
use Rattle.script_replay.specs.Replays.{call_of, HasNoRoom, IsReplied, Serves}
use Rattle.script_replay.specs.declared.master.Answered.{Answered}
use Rattle.script_replay.proofs.Once.{once_held}
use Rattle.script_replay.proofs.OneAnswer.{answer_same}

request_same : (p : Parts) (clients : ℕ) (j : List Entry) (client : ℕ) (r : Request) (a b : Reply) → IsRequestReply p clients j client r a → IsRequestReply p clients j client r b → a ≡ b
request_same p clients j client r (Done k) (Done l) f g = ap Done (f.1 ∙ sym g.1)
request_same p clients j client r (No w) (No v) f g =
    let both : Some w ≡ Some v = answer_same p clients (last_board p j) client r (once_held p j) (Some w) (Some v) f g in
    let why : w ≡ v = cc in
    ap No why
request_same p clients j client r (Done k) (No v) f g = let no_ : None ≡ Some v = answer_same p clients (last_board p j) client r (once_held p j) None (Some v) f.0 g in absurd cc
request_same p clients j client r (No w) (Done l) f g = let no_ : Some w ≡ None = answer_same p clients (last_board p j) client r (once_held p j) (Some w) None f g.0 in absurd cc
request_same p clients j client r Full b f g = absurd f
request_same p clients j client r (Left k) b f g = absurd f
request_same p clients j client r (Done k) Full f g = absurd g
request_same p clients j client r (Done k) (Left l) f g = absurd g
request_same p clients j client r (No w) Full f g = absurd g
request_same p clients j client r (No w) (Left l) f g = absurd g

act_same : (p : Parts) (calls : List Call) (client base : ℕ) (act : Act) (a b : Reply) → IsActReply p client_limit weight_limit calls client base act a → IsActReply p client_limit weight_limit calls client base act b → a ≡ b
act_same p calls client base (Ask r) a b f g = request_same p client_limit (journal_of calls) client r a b f.3 g.3
act_same p calls client base Leave a b f g = f.1 ∙ sym g.1

-- what has no room is no call
no_call : (p : Parts) (calls : List Call) (client base : ℕ) (act : Act) (reply : Reply) → HasNoRoom calls act → IsActReply p client_limit weight_limit calls client base act reply → ⊥
no_call p calls client base (Ask r) reply full is = is.2 full
no_call p calls client base Leave reply full is = full

replied_same : (p : Parts) (calls : List Call) (event : Event) (a b : Reply) (m n : List Call) → IsReplied p calls event a m → IsReplied p calls event b n → (a ≡ b) × (m ≡ n)
replied_same p calls event a b m n (inl f) (inl g) = (f.0 ∙ sym g.0, f.2 ∙ sym g.2)
replied_same p calls event a b m n (inl f) (inr g) = absurd (no_call p calls event.client (length (journal_of calls)) event.act b f.1 g.0.reply)
replied_same p calls event a b m n (inr f) (inl g) = absurd (no_call p calls event.client (length (journal_of calls)) event.act a g.1 f.0.reply)
replied_same p calls event a b m n (inr f) (inr g) =
    let reply : a ≡ b = act_same p calls event.client (length (journal_of calls)) event.act a b f.0.reply g.0.reply in
    (reply, f.1 ∙ ap (λ (r : Reply). calls ++ call_of calls event r ∷ []) reply ∙ sym g.1)

abbrev answered : ℕ → Reply → Answered
answered c r = record { client = c; reply = r }

same_answered : (a b : Answered) → a.client ≡ b.client → a.reply ≡ b.reply → a ≡ b
same_answered a b e f = ap (λ (c : ℕ). answered c a.reply) e ∙ ap (λ (r : Reply). answered b.client r) f

pub one_run : (d : Design) (old : List Call) (events : List Event) (a b : List Answered) (m n : List Call) → Serves d old events a m → Serves d old events b n → (a ≡ b) × (m ≡ n)
one_run d old [] [] [] m n f g = (refl, f ∙ sym g)
one_run d old [] [] (b ∷ bs) m n f g = absurd g
one_run d old [] (a ∷ others) b m n f g = absurd f
one_run d old (s ∷ ss) [] b m n f g = absurd f
one_run d old (s ∷ ss) (a ∷ others) [] m n f g = absurd g
one_run d old (s ∷ ss) (a ∷ others) (b ∷ bs) m n f g =
    let first = replied_same d.parts old s a.reply b.reply f.1 g.1 f.2 g.2 in
    let head : a ≡ b = same_answered a b (f.0 ∙ sym g.0) first.0 in
    let later : Serves d f.1 ss bs n = subst (λ (x : List Call). Serves d x ss bs n) (sym first.1) g.3 in
    let rest = one_run d f.1 ss others bs m n f.3 later in
    (cc, rest.1)
