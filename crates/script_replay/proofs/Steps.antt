-- The first line of a script, and the lines so far.
use Rattle.std.proofs.Common.{◌≡◌, ◌≢◌, ◌⊎◌, ℕ, zero, suc, ◌+◌, ◌<◌, ◌≤◌, List, [], ◌∷◌, ◌++◌, length, refl, sym, ap, subst, ◌∙◌, append_assoc, arith, length-append, inl, inr}
use Rattle.std.specs.Prelude.{Bool, true, false, ◌||◌}
use Rattle.std.proofs.lemmas.Bool.{cases_lt}
use Rattle.std.proofs.lemmas.List.{append-nil}
use Rattle.std.specs.List.{AllByRecursion, flat_map}
use Rattle.session_wire.specs.declared.steps.ScriptStep.{ScriptStep}
use Rattle.session_wire.specs.Lines.{step_text, step_line}
use Rattle.session_wire.specs.Steps.{IsLine, IsStep}
use Rattle.session_wire.proofs.LineFeeds.{step_is_one_line}
use Rattle.session_wire.proofs.StepTexts.{one_step}
use Rattle.row_lists.specs.Limits.{text_limit_bytes}
use Rattle.number_slots.specs.Slots.{is_among}
use Rattle.script_replay.specs.Scripts.{IsScript, IsBad, IsBadRest, IsFirstBad, AreDue, client_of, is_leave_by}
use Rattle.script_replay.specs.Lines.{HasNoStep, HasNoPresent, AreGone}
use Rattle.script_replay.proofs.Dues.{due_more, due_behind, due_formed, gone_more}
use Rattle.script_replay.proofs.Breaks.{one_line}

true_false : true ≡ false → ⊥
true_false e = absurd cc

split_text : (s : ScriptStep) (text more : List ℕ) → text ≡ step_line s ++ more → text ≡ step_text s ++ 10 ∷ more
split_text s text more e = e ∙ append_assoc (step_text s) (10 ∷ []) more

-- a text without a line feed begins with no step's line
pub no_line : (text : List ℕ) → ((line more : List ℕ) → text ≢ line ++ 10 ∷ more) → HasNoStep text
no_line text none s more served e = none (step_text s) more (split_text s text more e)

-- a first line that spells no step
pub no_step : (text line after : List ℕ) → IsLine line → text ≡ line ++ 10 ∷ after → ((s : ScriptStep) → IsStep s → line ≡ step_text s → ⊥) → HasNoStep text
no_step text line after is parts none s more served e =
    let same = one_line line (step_text s) after more is (step_is_one_line s served) (sym parts ∙ split_text s text more e) in
    none s served same.0

-- a first line that spells a step
pub step_first : (s : ScriptStep) (text line after : List ℕ) → text ≡ line ++ 10 ∷ after → line ≡ step_text s → text ≡ step_line s ++ after
step_first s text line after parts is = parts ∙ ap (λ (x : List ℕ). x ++ 10 ∷ after) is ∙ sym (append_assoc (step_text s) (10 ∷ []) after)

flat_more : (steps : List ScriptStep) (s : ScriptStep) (rest : List ℕ) → flat_map step_line (steps ++ s ∷ []) ++ rest ≡ flat_map step_line steps ++ (step_line s ++ rest)
flat_more [] s rest = append_assoc (step_line s) [] rest
flat_more (x ∷ xs) s rest =
    append_assoc (step_line x) (flat_map step_line (xs ++ s ∷ [])) rest ∙ ap (λ (y : List ℕ). step_line x ++ y) (flat_more xs s rest) ∙ sym (append_assoc (step_line x) (flat_map step_line xs) (step_line s ++ rest))

-- one line more
pub text_more : (steps : List ScriptStep) (s : ScriptStep) (text rest after : List ℕ) → text ≡ flat_map step_line steps ++ rest → rest ≡ step_line s ++ after → text ≡ flat_map step_line (steps ++ s ∷ []) ++ after
text_more steps s text rest after e f = e ∙ ap (λ (y : List ℕ). flat_map step_line steps ++ y) f ∙ sym (flat_more steps s after)

length_line : (s : ScriptStep) (rest : List ℕ) → 0 < length (step_line s ++ rest)
length_line s rest = omega (arith, length-append (step_line s) rest, length-append (step_text s) (10 ∷ []))

pub one_list : (a b : List ScriptStep) → AllByRecursion IsStep a → AllByRecursion IsStep b → flat_map step_line a ≡ flat_map step_line b → a ≡ b
one_list [] [] p q e = refl
one_list [] (t ∷ ts) p q e = absurd (omega (arith, length_line t (flat_map step_line ts), ap length e))
one_list (s ∷ ss) [] p q e = absurd (omega (arith, length_line s (flat_map step_line ss), ap length e))
one_list (s ∷ ss) (t ∷ ts) p q e =
    let lines = one_line (step_text s) (step_text t) (flat_map step_line ss) (flat_map step_line ts) (step_is_one_line s p.0) (step_is_one_line t q.0)
    (sym (append_assoc (step_text s) (10 ∷ []) (flat_map step_line ss)) ∙ e ∙ append_assoc (step_text t) (10 ∷ []) (flat_map step_line ts)) in
    let head : s ≡ t = one_step s t p.0 q.0 lines.0 in
    let tail : ss ≡ ts = one_list ss ts p.1 q.1 lines.1 in
    cc

pub one_script : (text : List ℕ) (a b : List ScriptStep) → IsScript text a → IsScript text b → a ≡ b
one_script text a b p q = one_list a b (due_formed [] a p.due) (due_formed [] b q.due) (sym p.spelled ∙ q.spelled)

-- what a longer list of lines has behind a front of them
behind_front : (a b : List ScriptStep) (rest : List ℕ) → AllByRecursion IsStep a → AllByRecursion IsStep b → flat_map step_line a ++ rest ≡ flat_map step_line b → 0 < length rest
    → (others : List ScriptStep) × (b ≡ a ++ others) × (rest ≡ flat_map step_line others) × AllByRecursion IsStep others
behind_front [] b rest p q e some = (b, refl, e, q)
behind_front (s ∷ ss) [] rest p q e some = absurd (omega (arith, ap length e, length-append (flat_map step_line (s ∷ ss)) rest, length-append (step_line s) (flat_map step_line ss), length_line s (flat_map step_line ss)))
behind_front (s ∷ ss) (t ∷ ts) rest p q e some =
    let left : flat_map step_line (s ∷ ss) ++ rest ≡ step_text s ++ 10 ∷ (flat_map step_line ss ++ rest) =
    append_assoc (step_line s) (flat_map step_line ss) rest ∙ append_assoc (step_text s) (10 ∷ []) (flat_map step_line ss ++ rest) in
    let right : flat_map step_line (t ∷ ts) ≡ step_text t ++ 10 ∷ flat_map step_line ts = append_assoc (step_text t) (10 ∷ []) (flat_map step_line ts) in
    let lines = one_line (step_text s) (step_text t) (flat_map step_line ss ++ rest) (flat_map step_line ts) (step_is_one_line s p.0) (step_is_one_line t q.0) (sym left ∙ e ∙ right) in
    let head : s ≡ t = one_step s t p.0 q.0 lines.0 in
    let (others, parts, text, served) = behind_front ss ts rest p.1 q.1 lines.1 some in
    (others, cc, text, served)

bad_rest : (before others : List ScriptStep) (rest : List ℕ) → IsBadRest before rest → rest ≡ flat_map step_line others → AreDue [] (before ++ others) → 0 < length rest → ⊥
bad_rest before [] rest bad text due some = absurd (omega (arith, ap length text, some))
bad_rest before (s ∷ ss) rest bad text due some = bad s (flat_map step_line ss) (due_behind [] before s ss due) text

-- a script has no bad line
pub not_bad : (text : List ℕ) (steps : List ScriptStep) (k : ℕ) → IsScript text steps → IsBad text k → ⊥
not_bad text steps k is (inl long) = absurd (omega (arith, long.0, is.short))
not_bad text steps k is (inr (short, bad)) =
    let (others, parts, rest, served) = behind_front bad.before steps bad.rest (due_formed [] bad.before bad.due) (due_formed [] steps is.due) (sym bad.parts ∙ is.spelled) bad.some in
    bad_rest bad.before others bad.rest bad.bad rest (subst (AreDue []) parts is.due) bad.some

-- behind a shorter list of lines, a longer one goes on with a line of its own
front_less : (a b : List ScriptStep) (r s : List ℕ) → AllByRecursion IsStep a → AllByRecursion IsStep b → flat_map step_line a ++ r ≡ flat_map step_line b ++ s → length a < length b
    → (t : ScriptStep) × (more : List ℕ) × (others : List ScriptStep) × (b ≡ a ++ t ∷ others) × (r ≡ step_line t ++ more)
front_less [] [] r s p q e less = absurd (omega (arith, less))
front_less [] (t ∷ ts) r s p q e less = (t, flat_map step_line ts ++ s, ts, refl, e ∙ append_assoc (step_line t) (flat_map step_line ts) s)
front_less (x ∷ xs) [] r s p q e less = absurd (omega (arith, less))
front_less (x ∷ xs) (t ∷ ts) r s p q e less =
    let left : flat_map step_line (x ∷ xs) ++ r ≡ step_text x ++ 10 ∷ (flat_map step_line xs ++ r) =
    append_assoc (step_line x) (flat_map step_line xs) r ∙ append_assoc (step_text x) (10 ∷ []) (flat_map step_line xs ++ r) in
    let right : flat_map step_line (t ∷ ts) ++ s ≡ step_text t ++ 10 ∷ (flat_map step_line ts ++ s) =
    append_assoc (step_line t) (flat_map step_line ts) s ∙ append_assoc (step_text t) (10 ∷ []) (flat_map step_line ts ++ s) in
    let lines = one_line (step_text x) (step_text t) (flat_map step_line xs ++ r) (flat_map step_line ts ++ s) (step_is_one_line x p.0) (step_is_one_line t q.0) (sym left ∙ e ∙ right) in
    let head : x ≡ t = one_step x t p.0 q.0 lines.0 in
    let (u, more, others, parts, spelled) = front_less xs ts r s p.1 q.1 lines.1 (omega (arith, less)) in
    (u, more, others, cc, spelled)

not_less : (a b : List ScriptStep) (r s : List ℕ) → AreDue [] a → AreDue [] b → flat_map step_line a ++ r ≡ flat_map step_line b ++ s → IsBadRest a r → length a < length b → ⊥
not_less a b r s p q e bad less =
    let (t, more, others, parts, spelled) = front_less a b r s (due_formed [] a p) (due_formed [] b q) e less in
    bad t more (due_behind [] a t others (subst (AreDue []) parts q)) spelled

same_of : (m n : ℕ) → (m < n → ⊥) → (n < m → ⊥) → (m < n) ⊎ (n ≤ m) → (n < m) ⊎ (m ≤ n) → m + 1 ≡ n + 1
same_of m n p q (inl less) k = absurd (p less)
same_of m n p q (inr most) (inl less) = absurd (q less)
same_of m n p q (inr most) (inr least) = omega (arith, most, least)

same_length : (m n : ℕ) → (m < n → ⊥) → (n < m → ⊥) → m + 1 ≡ n + 1
same_length m n p q = same_of m n p q (cases_lt m n) (cases_lt n m)

two_bad : (text : List ℕ) (j k : ℕ) (a : IsFirstBad text j) (b : IsFirstBad text k) → (length a.before < length b.before → ⊥) → (length b.before < length a.before → ⊥) → j ≡ k
two_bad text j k a b p q = a.number ∙ same_length (length a.before) (length b.before) p q ∙ sym b.number

-- a text has one bad line at most
pub one_bad : (text : List ℕ) (j k : ℕ) → IsBad text j → IsBad text k → j ≡ k
one_bad text j k (inl a) (inl b) = a.1 ∙ sym b.1
one_bad text j k (inl a) (inr b) = absurd (omega (arith, a.0, b.0))
one_bad text j k (inr a) (inl b) = absurd (omega (arith, a.0, b.0))
one_bad text j k (inr (short, a)) (inr (short', b)) =
    two_bad text j k a b (not_less a.before b.before a.rest b.rest a.due b.due (sym a.parts ∙ b.parts) a.bad) (not_less b.before a.before b.rest a.rest b.due a.due (sym b.parts ∙ a.parts) b.bad)

-- lines in front, and a rest of at most n bytes
neither_behind : (n : ℕ) (text : List ℕ) (before : List ScriptStep) (rest : List ℕ) → length rest ≤ n → length text ≤ text_limit_bytes → AreDue [] before → text ≡ flat_map step_line before ++ rest
    → ((steps : List ScriptStep) → IsScript text steps → ⊥) → ((k : ℕ) → IsBad text k → ⊥) → ⊥
neither_behind n text before [] fits short due parts no_script no_bad = no_script before (record { short = short; due = due; spelled = parts ∙ append-nil (flat_map step_line before) })
neither_behind zero text before (x ∷ xs) fits short due parts no_script no_bad = absurd (omega (arith, fits))
neither_behind (suc n) text before (x ∷ xs) fits short due parts no_script no_bad = no_bad (length before + 1) (inr (
  short,
  record {
    before = before;
    rest = x ∷ xs;
    due = due;
    parts = parts;
    some = omega arith;
    bad = λ s more is e.
        neither_behind n text (before ++ s ∷ []) more (omega (arith, fits, ap length e, length-append (step_line s) more, length-append (step_text s) (10 ∷ []))) short
        (due_more [] before s due is) (text_more before s text (x ∷ xs) more parts e) no_script no_bad;
    number = refl;
  },
))

neither_of : (text : List ℕ) → ((steps : List ScriptStep) → IsScript text steps → ⊥) → ((k : ℕ) → IsBad text k → ⊥) → (text_limit_bytes < length text) ⊎ (length text ≤ text_limit_bytes) → ⊥
neither_of text no_script no_bad (inl long) = no_bad 0 (inl (long, refl))
neither_of text no_script no_bad (inr short) = neither_behind (length text) text [] text (omega arith) short tt refl no_script no_bad

-- no text is neither a script nor one with a bad line
pub not_neither : (text : List ℕ) → ((steps : List ScriptStep) → IsScript text steps → ⊥) → ((k : ℕ) → IsBad text k → ⊥) → ⊥
not_neither text no_script no_bad = neither_of text no_script no_bad (cases_lt text_limit_bytes (length text))

-- ---- a line of a client who has left

-- a step whose client is one of these: no other client's line begins the text
pub not_present : (gone text after : List ℕ) (s : ScriptStep) → IsStep s → text ≡ step_line s ++ after → is_among (client_of s) gone ≡ true → HasNoPresent gone text
not_present gone text after s is e among t more it present f =
    let lines = one_line (step_text s) (step_text t) after more (step_is_one_line s is) (step_is_one_line t it) (sym (split_text s text after e) ∙ split_text t text more f) in
    let same : s ≡ t = one_step s t is it lines.0 in
    let gone_too : is_among (client_of t) gone ≡ true = subst (λ (x : ScriptStep). is_among (client_of x) gone ≡ true) same among in
    true_false (sym gone_too ∙ present)

-- where no step begins the text, none of a present client does
pub none_present : (gone text : List ℕ) → HasNoStep text → HasNoPresent gone text
none_present gone text none s more is present e = none s more is e

-- such a rest is bad behind the steps by which these clients have left
pub bad_behind : (gone : List ℕ) (steps : List ScriptStep) (rest : List ℕ) → AreGone gone steps → HasNoPresent gone rest → IsBadRest steps rest
bad_behind gone steps rest are none s more due e = none s more due.0 (are (client_of s) ∙ due.1) e

-- one step more, of a client who hasn't left
pub due_next : (gone : List ℕ) (steps : List ScriptStep) (s : ScriptStep) → AreGone gone steps → AreDue [] steps → IsStep s → is_among (client_of s) gone ≡ false → AreDue [] (steps ++ s ∷ [])
due_next gone steps s are all is present = due_more [] steps s all (is, sym (are (client_of s)) ∙ present)

-- who has left behind it
pub gone_next : (gone left : List ℕ) (steps : List ScriptStep) (s : ScriptStep) → AreGone gone steps → ((c : ℕ) → is_among c left ≡ (is_among c gone || is_leave_by c s)) → AreGone left (steps ++ s ∷ [])
gone_next gone left steps s are more c = more c ∙ ap (λ (b : Bool). b || is_leave_by c s) (are c) ∙ sym (gone_more c steps s)
