-- What a desk in memory keeps, as its journal and its answers grow.
use Rattle.std.proofs.Common.{◌≡◌, ℕ, zero, suc, ◌<◌, ◌≤◌, List, [], ◌∷◌, ◌++◌, length, take, drop, sym, ap, ◌∙◌, arith, subst, Result, Ok, Err, inl, inr}
use Rattle.std.specs.Prelude.{OnOk, OnErr}
use Rattle.std.specs.List.{AllByRecursion}
use Rattle.std.proofs.lemmas.List.{length-append, take_all, take-append-drop}
use Rattle.board_items.specs.declared.history.Entry.{Entry}
use Rattle.board_items.specs.declared.requests.Request.{Request}
use Rattle.board_items.specs.Formed.{IsFormed, IsFormedAct}
use Rattle.desk_core.specs.declared.desk.Answer.{Answer}
use Rattle.desk_core.specs.declared.desk.Placed.{Placed}
use Rattle.desk_core.specs.Desks.{IsFormedEntry, IsShown}
use Rattle.session_tests.specs.MemoryDesks.{IsKept, IsAccepted, HasGrown}

pub all_append : {T : Type 0} (P : T → Type 0) (xs ys : List T) → AllByRecursion P xs → AllByRecursion P ys → AllByRecursion P (xs ++ ys)
all_append P [] ys p q = q
all_append P (x ∷ xs) ys p q = (p.0, all_append P xs ys p.1 q)

pub all_drop : {T : Type 0} (P : T → Type 0) (n : ℕ) (xs : List T) → AllByRecursion P xs → AllByRecursion P (drop n xs)
all_drop P zero xs p = p
all_drop P (suc n) [] p = tt
all_drop P (suc n) (x ∷ xs) p = all_drop P n xs p.1

pub all_weaker : {T : Type 0} (P Q : T → Type 0) (xs : List T) → ((x : T) → P x → Q x) → AllByRecursion P xs → AllByRecursion Q xs
all_weaker P Q [] h p = tt
all_weaker P Q (x ∷ xs) h p = (h x p.0, all_weaker P Q xs h p.1)

accepted_formed : (client : ℕ) (request : Request) (n : ℕ) (entry : Entry) → 1 ≤ client → client ≤ 8 → IsFormed request → IsAccepted client request n entry → IsFormedEntry entry
accepted_formed client request n entry some fits formed is = record {
  numbered = omega (arith, is.numbered);
  some_client = omega (arith, is.client_is);
  client_fits = omega (arith, is.client_is);
  act = subst (λ a. IsFormedAct a) (sym is.act_is) formed;
}

-- answers that lie in the journal, and one more that ends it
answers_shown : (old new : List Entry) (answers : List Answer) (request : Request) (r : Placed) → length old ≤ length new → r.place ≡ length new → AllByRecursion (IsShown old) answers → AllByRecursion (IsShown new) (answers ++ record { request = request; place = r.place; reply = r.reply } ∷ [])
answers_shown old new answers request r more at p = all_append (IsShown new) answers _ (all_weaker (IsShown old) (IsShown new) answers (λ a h. omega arith) p) (omega arith, tt)

grown_length : (client most : ℕ) (request : Request) (old new : List Entry) → HasGrown client most request old new → length old ≤ length new
grown_length client most request old new h = elim h [
  | inl e ↦ omega (arith, ap length e)
  | inr g ↦ omega (arith, ap length g.1, length-append old (g.0 ∷ []))
]

grown_formed : (client most : ℕ) (request : Request) (old new : List Entry) → 1 ≤ client → client ≤ 8 → IsFormed request → AllByRecursion IsFormedEntry old → HasGrown client most request old new → AllByRecursion IsFormedEntry new
grown_formed client most request old new some fits formed p h = elim h [
  | inl e ↦ subst (λ es. AllByRecursion IsFormedEntry es) (sym e) p
  | inr g ↦ subst (λ es. AllByRecursion IsFormedEntry es) (sym g.1) (all_append IsFormedEntry old (g.0 ∷ []) p (accepted_formed client request (length old) g.0 some fits formed g.2, tt))
]

grown_few : (client most : ℕ) (request : Request) (old new : List Entry) → length old ≤ most → HasGrown client most request old new → length new ≤ most
grown_few client most request old new few h = elim h [ inl e ↦ omega (arith, ap length e) | inr g ↦ g.3 ]

-- after an ask that was answered
pub kept_asked : (client most shown : ℕ) (old new : List Entry) (answers : List Answer) (request : Request) (r : Placed) → IsKept client most old shown answers → IsFormed request → HasGrown client most request old new → r.place ≡ length new
    → IsKept client most new shown (answers ++ record { request = request; place = r.place; reply = r.reply } ∷ [])
kept_asked client most shown old new answers request r k formed grown at = record {
  some_client = k.some_client;
  client_fits = k.client_fits;
  formed = grown_formed client most request old new k.some_client k.client_fits formed k.formed grown;
  shown_in = let more = grown_length client most request old new grown in omega (arith, k.shown_in);
  placed = answers_shown old new answers request r (grown_length client most request old new grown) at k.placed;
  few = grown_few client most request old new k.few grown;
}

-- after one that wasn't, for want of memory
pub kept_unasked : (client most shown : ℕ) (old new : List Entry) (answers : List Answer) (request : Request) → IsKept client most old shown answers → IsFormed request → HasGrown client most request old new → IsKept client most new shown answers
kept_unasked client most shown old new answers request k formed grown =
    let more = grown_length client most request old new grown in
    record {
      some_client = k.some_client;
      client_fits = k.client_fits;
      formed = grown_formed client most request old new k.some_client k.client_fits formed k.formed grown;
      shown_in = omega (arith, k.shown_in);
      placed = all_weaker (IsShown old) (IsShown new) answers (λ a h. omega arith) k.placed;
      few = grown_few client most request old new k.few grown;
    }

-- after a look
pub kept_shown : (client most shown : ℕ) (journal : List Entry) (answers : List Answer) → IsKept client most journal shown answers → IsKept client most journal (length journal) answers
kept_shown client most shown journal answers k = record { some_client = k.some_client; client_fits = k.client_fits; formed = k.formed; shown_in = omega arith; placed = k.placed; few = k.few }

pub shown_all : (n : ℕ) (journal : List Entry) → take (length journal) journal ≡ take n journal ++ drop n journal
shown_all n journal = take_all (length journal) journal (omega arith) ∙ sym (take-append-drop n journal)

-- after an entry of any client
pub kept_noted : (client other most shown : ℕ) (old new : List Entry) (answers : List Answer) (request : Request) → IsKept client most old shown answers → 1 ≤ other → other ≤ 8 → IsFormed request → HasGrown other most request old new → IsKept client most new shown answers
kept_noted client other most shown old new answers request k some fits formed grown =
    let more = grown_length other most request old new grown in
    record {
      some_client = k.some_client;
      client_fits = k.client_fits;
      formed = grown_formed other most request old new some fits formed k.formed grown;
      shown_in = omega (arith, k.shown_in);
      placed = all_weaker (IsShown old) (IsShown new) answers (λ a h. omega arith) k.placed;
      few = grown_few other most request old new k.few grown;
    }

grown_by_one : (client most : ℕ) (request : Request) (old new : List Entry) (a : Entry) → length old < most → new ≡ old ++ a ∷ [] → IsAccepted client request (length old) a → HasGrown client most request old new
grown_by_one client most request old new a room e is = inr (a, e, is, omega (arith, ap length e, length-append old (a ∷ [])))

pub noted : {T E : Type 0} (r : Result T E) (client most : ℕ) (request : Request) (old new : List Entry) → length old < most → OnOk r ((a : Entry) × (new ≡ old ++ a ∷ []) × IsAccepted client request (length old) a) → OnErr r (new ≡ old) → HasGrown client most request old new
noted (Ok x) client most request old new room ok err = grown_by_one client most request old new ok.0 room ok.1 ok.2
noted (Err e) client most request old new room ok err = inl err
