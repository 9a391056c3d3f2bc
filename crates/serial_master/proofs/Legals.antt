-- Histories with one call more, and what each entry of a legal one is.
use Rattle.std.proofs.Common.{◌≡◌, ℕ, zero, suc, ◌+◌, ◌≤◌, List, [], ◌∷◌, ◌++◌, length, take, drop, sym, ap, subst, ◌∙◌, append_assoc, arith}
use Rattle.std.specs.Prelude.{Result, Ok, Err, IfOk}
use Rattle.std.specs.List.{AllByRecursion}
use Rattle.std.proofs.lemmas.List.{append-nil, length-append}
use Rattle.row_lists.specs.Limits.{client_limit}
use Rattle.board_items.specs.declared.history.Act.{Act}
use Rattle.board_items.specs.declared.history.Act.TheVariants.{Ask, Leave}
use Rattle.board_items.specs.declared.history.Call.{Call}
use Rattle.board_items.specs.declared.history.Entry.{Entry}
use Rattle.board_items.specs.declared.history.Reply.{Reply}
use Rattle.board_items.specs.declared.history.Reply.TheVariants.{Done, No, Full, Left}
use Rattle.board_items.specs.Formed.{IsFormedAct}
use Rattle.board_rules.specs.declared.design.Parts.{Parts}
use Rattle.board_core.specs.Histories.{journal_of, entries_by, IsActReply, IsNextCall, AreNextCalls, IsLegal}
use Rattle.desk_core.specs.Desks.{IsFormedEntry}
use Rattle.client_desk.proofs.Journals.{journal_of-append}
use Rattle.serial_master.specs.Bases.{AreAtEnd, IsFresh}

-- ---- one call more

pub journal_more : (calls : List Call) (c : Call) → journal_of (calls ++ c ∷ []) ≡ journal_of calls ++ entries_by c.client c.act c.reply
journal_more calls c = journal_of-append calls (c ∷ []) ∙ ap (λ (y : List Entry). journal_of calls ++ y) (append-nil (entries_by c.client c.act c.reply))

pub legal_more : (p : Parts) (clients limit : ℕ) (before rest : List Call) (c : Call) → AreNextCalls p clients limit before rest → IsNextCall p clients limit (before ++ rest) c → AreNextCalls p clients limit before (rest ++ c ∷ [])
legal_more p clients limit before [] c all next = (subst (λ (x : List Call). IsNextCall p clients limit x c) (append-nil before) next, tt)
legal_more p clients limit before (x ∷ xs) c all next =
    (all.0, legal_more p clients limit (before ++ x ∷ []) xs c all.1 (subst (λ (y : List Call). IsNextCall p clients limit y c) (sym (append_assoc before (x ∷ []) xs)) next))

pub bases_more : (before rest : List Call) (c : Call) → AreAtEnd before rest → c.base ≡ length (journal_of (before ++ rest)) → AreAtEnd before (rest ++ c ∷ [])
bases_more before [] c all at = (subst (λ (x : List Call). c.base ≡ length (journal_of x)) (append-nil before) at, tt)
bases_more before (x ∷ xs) c all at =
    (all.0, bases_more (before ++ x ∷ []) xs c all.1 (subst (λ (y : List Call). c.base ≡ length (journal_of y)) (sym (append_assoc before (x ∷ []) xs)) at))

-- ---- bases at the journal's end are fresh

base_at : (start before : List Call) (c : Call) (after : List Call) → AreAtEnd start (before ++ c ∷ after) → c.base ≡ length (journal_of (start ++ before))
base_at start [] c after all = all.0 ∙ ap (λ (x : List Call). length (journal_of x)) (sym (append-nil start))
base_at start (x ∷ xs) c after all = base_at (start ++ x ∷ []) xs c after all.1 ∙ ap (λ (y : List Call). length (journal_of y)) (append_assoc start (x ∷ []) xs)

journal_longer : (front back : List Call) → length (journal_of front) ≤ length (journal_of (front ++ back))
journal_longer front back = omega (arith, ap length (journal_of-append front back), length-append (journal_of front) (journal_of back))

front_up_to : (before front : List Call) (c : Call) (back : List Call) (place : ℕ) → before ≡ front ++ c ∷ back → length (journal_of before) ≡ place → length (journal_of (front ++ c ∷ [])) ≤ place
front_up_to before front c back place cut at =
    let whole : before ≡ (front ++ c ∷ []) ++ back = cut ∙ sym (append_assoc front (c ∷ []) back) in
    let longer = journal_longer (front ++ c ∷ []) back in
    omega (arith, longer, ap (λ (x : List Call). length (journal_of x)) whole, at)

pub fresh_at_end : (client : ℕ) (calls : List Call) → AreAtEnd [] calls → IsFresh client calls
fresh_at_end client calls all before c after cut mine asks front d back parts its =
    let at : c.base ≡ length (journal_of before) = base_at [] before c after (subst (AreAtEnd []) cut all) in
    front_up_to before front d back c.base parts (sym at)

-- ---- entries

act_formed : (p : Parts) (clients limit : ℕ) (calls : List Call) (client base : ℕ) (act : Act) (reply : Reply) → IsActReply p clients limit calls client base act reply → IsFormedAct act
act_formed p clients limit calls client base (Ask request) reply x = x.0
act_formed p clients limit calls client base Leave reply x = tt

entry_formed : (number client : ℕ) (act : Act) → 1 ≤ number → 1 ≤ client → client ≤ client_limit → IsFormedAct act → IsFormedEntry (record { number = number; client = client; act = act })
entry_formed number client act some first last formed = record { numbered = some; some_client = first; client_fits = last; act = formed }

entries_formed : (p : Parts) (clients limit : ℕ) (calls : List Call) (client base : ℕ) (act : Act) (reply : Reply) → 1 ≤ client → client ≤ client_limit → IsActReply p clients limit calls client base act reply
    → AllByRecursion IsFormedEntry (entries_by client act reply)
entries_formed p clients limit calls client base (Ask request) (Done number) first last x = (entry_formed number client (Ask request) (omega (arith, x.3.1)) first last x.0, tt)
entries_formed p clients limit calls client base (Ask request) (No why) first last x = tt
entries_formed p clients limit calls client base (Ask request) Full first last x = tt
entries_formed p clients limit calls client base (Ask request) (Left number) first last x = absurd x.3
entries_formed p clients limit calls client base Leave (Done number) first last x = absurd (cc x.1)
entries_formed p clients limit calls client base Leave (No why) first last x = tt
entries_formed p clients limit calls client base Leave Full first last x = tt
entries_formed p clients limit calls client base Leave (Left number) first last x =
    let same : number ≡ length (journal_of calls) + 1 = cc x.1 in
    (entry_formed number client Leave (omega (arith, same)) first last tt, tt)

all_append : {T : Type 0} (P : T → Type 0) (xs ys : List T) → AllByRecursion P xs → AllByRecursion P ys → AllByRecursion P (xs ++ ys)
all_append P [] ys a b = b
all_append P (x ∷ xs) ys a b = (a.0, all_append P xs ys a.1 b)

pub journal_formed : (p : Parts) (clients limit : ℕ) (before rest : List Call) → clients ≤ client_limit → AreNextCalls p clients limit before rest → AllByRecursion IsFormedEntry (journal_of rest)
journal_formed p clients limit before [] few all = tt
journal_formed p clients limit before (c ∷ rest) few all =
    all_append IsFormedEntry (entries_by c.client c.act c.reply) (journal_of rest)
    (entries_formed p clients limit before c.client c.base c.act c.reply all.0.present.0 (let most = all.0.present.1 in omega (arith, most, few)) all.0.reply)
    (journal_formed p clients limit (before ++ c ∷ []) rest few all.1)

all_drop : {T : Type 0} (P : T → Type 0) (n : ℕ) (xs : List T) → AllByRecursion P xs → AllByRecursion P (drop n xs)
all_drop P zero xs all = all
all_drop P (suc n) [] all = tt
all_drop P (suc n) (x ∷ xs) all = all_drop P n xs all.1

all_take : {T : Type 0} (P : T → Type 0) (n : ℕ) (xs : List T) → AllByRecursion P xs → AllByRecursion P (take n xs)
all_take P zero xs all = tt
all_take P (suc n) [] all = tt
all_take P (suc n) (x ∷ xs) all = (all.0, all_take P n xs all.1)

-- entries that were looked up
pub looked_formed : {E : Type 0} (p : Parts) (clients limit : ℕ) (calls : List Call) (es : List Entry) (n count : ℕ) (r : Result (List Entry) E) → clients ≤ client_limit → IsLegal p clients limit calls → es ≡ journal_of calls
    → IfOk r (λ (found : List Entry). found ≡ take count (drop n es)) → IfOk r (AllByRecursion IsFormedEntry)
looked_formed p clients limit calls es n count (Ok found) few legal is x =
    let all : AllByRecursion IsFormedEntry es = subst (AllByRecursion IsFormedEntry) (sym is) (journal_formed p clients limit [] calls few legal) in
    subst (AllByRecursion IsFormedEntry) (sym x) (all_take IsFormedEntry count (drop n es) (all_drop IsFormedEntry n es all))
looked_formed p clients limit calls es n count (Err e) few legal is x = tt
