-- What the books keep over an answer.
use Rattle.std.proofs.Common.{◌≡◌, ◌⊎◌, inl, inr, ℕ, zero, suc, ◌+◌, ◌*◌, ◌-◌, ◌<◌, ◌≤◌, List, [], ◌∷◌, ◌++◌, length, refl, sym, ap, subst, ◌∙◌, arith, length-append}
use Rattle.std.specs.Prelude.{Bool, true, false, IsTrue, Result, Ok, Err, is_ok, OnOk}
use Rattle.std.proofs.lemmas.Bool.{cases_lt}
use Rattle.row_lists.specs.Limits.{client_limit, weight_limit}
use Rattle.board_items.specs.declared.requests.Request.{Request}
use Rattle.board_items.specs.declared.history.Act.{Act}
use Rattle.board_items.specs.declared.history.Act.TheVariants.{Ask, Leave}
use Rattle.board_items.specs.declared.history.Call.{Call}
use Rattle.board_items.specs.declared.history.Entry.{Entry}
use Rattle.board_items.specs.declared.history.Reply.{Reply}
use Rattle.board_items.specs.declared.history.Reply.TheVariants.{Done, No, Full, Left}
use Rattle.board_items.specs.Formed.{IsFormed}
use Rattle.board_items.specs.Weights.{weight_of}
use Rattle.board_core.specs.Boards.{Board, first_board, last_board, IsBoardOf, IsSameBoard}
use Rattle.board_core.specs.Histories.{journal_of, entries_by, entry_of, weight_of_calls, present_of, IsFull, IsPresent, IsRequestReply, IsNextCall, IsLegal}
use Rattle.client_desk.specs.Standings.{asked_call, leave_call, with_call}
use Rattle.serial_master.specs.declared.books.Terms.{Terms}
use Rattle.serial_master.specs.declared.books.Books.{Books}
use Rattle.serial_master.specs.Bases.{AreAtEnd}
use Rattle.serial_master.specs.Books.{IsAtJournal, IsKept, HasStayed, HasTaken, HasDecided, HasAnswered, HasLeft, standing_of}
use Rattle.serial_master.proofs.Legals.{journal_more, legal_more, bases_more}
use Rattle.serial_master.proofs.Lefts.{present_same, present_less}
use Rattle.serial_master.proofs.Weighing.{weight_more, weighs}

-- nothing but room was made
pub kept_stayed : (t : Terms) (old new : Books) → IsKept t old → HasStayed t old new → IsKept t new
kept_stayed t old new was has = record {
  terms = was.terms;
  at = has.at;
  legal = subst (IsLegal t.design.parts t.clients t.limit) (sym has.history) was.legal;
  bases = subst (AreAtEnd []) (sym has.history) was.bases;
  journal = has.journal ∙ (was.journal ∙ ap journal_of (sym has.history));
  weight = has.weight ∙ (was.weight ∙ ap weight_of_calls (sym has.history));
  present = has.present ∙ (was.present ∙ ap (present_of t.clients) (sym has.history));
  light = omega (arith, has.weight, has.present, was.light);
  next = omega (arith, has.next, has.weight, was.next);
  weighty = omega (arith, ap length has.journal, has.weight, was.weighty);
  journal_room = omega (arith, has.present, has.journal_room, was.journal_room);
  history_room = omega (arith, has.present, has.history_room, was.history_room);
}

pub stayed_then : (t : Terms) (old mid new : Books) → HasStayed t old mid → HasStayed t mid new → HasStayed t old new
stayed_then t old mid new one two = record {
  at = two.at;
  next = two.next ∙ one.next;
  journal = two.journal ∙ one.journal;
  journal_room = omega (arith, one.journal_room, two.journal_room);
  history = two.history ∙ one.history;
  history_room = omega (arith, one.history_room, two.history_room);
  weight = two.weight ∙ one.weight;
  present = two.present ∙ one.present;
}

one_entry : (client : ℕ) (act : Act) (reply : Reply) → length (entries_by client act reply) ≤ 1
one_entry client act (Done number) = omega arith
one_entry client act (No why) = omega arith
one_entry client act Full = omega arith
one_entry client act (Left number) = omega arith

pub standing_more : (t : Terms) (old new : Books) (c : Call) → new.history.items ≡ old.history.items ++ c ∷ [] → standing_of t new ≡ with_call (standing_of t old) c
standing_more t old new c grown = ap (λ (h : List Call). record { parts = t.design.parts; clients = t.clients; limit = t.limit; history = h }) grown

-- one call more
pub kept_more : (t : Terms) (old new : Books) (c : Call) → IsKept t old → IsAtJournal t new → IsNextCall t.design.parts t.clients t.limit old.history.items c → c.base ≡ length old.journal.items
    → new.history.items ≡ old.history.items ++ c ∷ [] → new.journal.items ≡ old.journal.items ++ entries_by c.client c.act c.reply → new.weight ≡ old.weight + weight_of c.act → new.present ≡ present_of t.clients new.history.items
    → new.weight + 2 * new.present ≤ t.limit → 4 * new.board.next_id ≤ 4 * old.board.next_id + weight_of c.act → new.present ≤ new.journal.room → new.present ≤ new.history.room → IsKept t new
kept_more t old new c was at next base grown journal heavy present light numbers one other =
    let all : journal_of new.history.items ≡ old.journal.items ++ entries_by c.client c.act c.reply =
    ap journal_of grown ∙ journal_more old.history.items c ∙ ap (λ (j : List Entry). j ++ entries_by c.client c.act c.reply) (sym was.journal) in
    let count : length new.journal.items ≡ length old.journal.items + length (entries_by c.client c.act c.reply) = ap length journal ∙ length-append old.journal.items (entries_by c.client c.act c.reply) in
    let weights : weight_of_calls new.history.items ≡ weight_of_calls old.history.items + weight_of c.act = ap weight_of_calls grown ∙ weight_more old.history.items c in
    record {
      terms = was.terms;
      at = at;
      legal = subst (IsLegal t.design.parts t.clients t.limit) (sym grown) (legal_more t.design.parts t.clients t.limit [] old.history.items c was.legal next);
      bases = subst (AreAtEnd []) (sym grown) (bases_more [] old.history.items c was.bases (base ∙ ap length was.journal));
      journal = journal ∙ sym all;
      weight = omega (arith, heavy, was.weight, weights);
      present = present;
      light = light;
      next = omega (arith, numbers, was.next, heavy);
      weighty = omega (arith, count, one_entry c.client c.act c.reply, was.weighty, heavy, weighs c.act);
      journal_room = one;
      history_room = other;
    }

room_if : (limit n : ℕ) → (limit < n → ⊥) → (limit < n) ⊎ (n ≤ limit) → n ≤ limit
room_if limit n room (inl over) = absurd (room over)
room_if limit n room (inr under) = under

-- a request that has room is light
pub room_left : (t : Terms) (b : Books) (weight : ℕ) → (t.limit < b.weight + weight + 2 * b.present → ⊥) → b.weight + weight + 2 * b.present ≤ t.limit
room_left t b weight room = room_if t.limit (b.weight + weight + 2 * b.present) room (cases_lt t.limit (b.weight + weight + 2 * b.present))

at_same : (t : Terms) (b new : Books) → IsAtJournal t b → new.board ≡ b.board → new.journal.items ≡ b.journal.items → IsAtJournal t new
at_same t b new is board journal = record {
  board = subst (λ (x : Board). IsSameBoard x (last_board t.design.parts new.journal.items)) (sym board) (subst (λ (j : List Entry). IsSameBoard b.board (last_board t.design.parts j)) (sym journal) is.board);
  of = subst (IsBoardOf t.design.parts) (sym board) is.of;
  count = ap (λ (x : Board). x.count) board ∙ (is.count ∙ sym (ap length journal));
}

-- a request that has room: room was made, it was decided on, and is a call more
pub asked : (t : Terms) (old mid fin new : Books) (client base weight place : ℕ) (r : Request) (reply : Reply) → IsKept t old → IsFormed r → IsPresent t.clients old.history.items client → weight ≡ weight_of (Ask r)
    → (t.limit < old.weight + weight + 2 * old.present → ⊥) → base ≡ length old.journal.items → HasStayed t old mid → old.present + 1 ≤ mid.journal.room → old.present + 1 ≤ mid.history.room → HasDecided t mid client r fin reply
    → new.board ≡ fin.board → new.journal ≡ fin.journal → new.history.items ≡ fin.history.items ++ asked_call client base r reply ∷ [] → new.history.room ≡ fin.history.room - 1 → new.weight ≡ fin.weight + weight → new.present ≡ fin.present
    → place ≡ length new.journal.items → HasAnswered t old client r new (record { place = place; reply = reply })
asked t old mid fin new client base weight place r reply was formed present w room b stayed one other has board journal history put heavy stay at =
    let c = asked_call client base r reply in
    let light = room_left t old weight room in
    let before : fin.history.items ≡ old.history.items = ap (λ s. s.items) has.history ∙ stayed.history in
    let grown : new.history.items ≡ old.history.items ++ c ∷ [] = history ∙ ap (λ (h : List Call). h ++ c ∷ []) before in
    let lists : new.journal.items ≡ fin.journal.items = ap (λ s. s.items) journal in
    let more : new.journal.items ≡ old.journal.items ++ entries_by client (Ask r) reply = lists ∙ (has.journal ∙ ap (λ (j : List Entry). j ++ entries_by client (Ask r) reply) stayed.journal) in
    let full : IsFull t.limit t.clients old.history.items r → ⊥ = λ over. room (omega (arith, over, w, was.weight, was.present)) in
    let reply_is : IsRequestReply t.design.parts t.clients (journal_of old.history.items) client r reply =
    subst (λ (j : List Entry). IsRequestReply t.design.parts t.clients j client r reply) (stayed.journal ∙ was.journal) has.reply_is in
    let based : base ≤ length (journal_of old.history.items) = omega (arith, b, ap length was.journal) in
    let next : IsNextCall t.design.parts t.clients t.limit old.history.items c = record { present = present; reply = (formed, based, full, reply_is) } in
    let presents : present_of t.clients new.history.items ≡ present_of t.clients old.history.items = ap (present_of t.clients) grown ∙ present_same t.clients old.history.items c refl in
    let weighs_now : new.weight ≡ old.weight + weight_of (Ask r) = omega (arith, heavy, has.weight, stayed.weight, w) in
    let stays : new.present ≡ old.present = stay ∙ (has.present ∙ stayed.present) in
    let numbers : new.board.next_id ≡ fin.board.next_id = ap (λ (x : Board). x.next_id) board in
    let kept = kept_more t old new c was (at_same t fin new has.at board lists) next b grown more weighs_now (stays ∙ (was.present ∙ sym presents))
    (omega (arith, light, weighs_now, stays, w)) (omega (arith, numbers, has.next, stayed.next))
    (omega (arith, stays, ap (λ s. s.room) journal, has.journal_room, one)) (omega (arith, stays, put, ap (λ s. s.room) has.history, other)) in
    record {
      kept = kept;
      placed_is = record {
        way = inr (record { base = base; next = next; more = standing_more t old new c grown });
        place = at ∙ ap length kept.journal;
      };
    }

-- a request that has none
pub full : (t : Terms) (b : Books) (client weight place : ℕ) (r : Request) → IsKept t b → weight ≡ weight_of (Ask r) → t.limit < b.weight + weight + 2 * b.present → place ≡ length b.journal.items
    → HasAnswered t b client r b (record { place = place; reply = Full })
full t b client weight place r was w over at = record {
  kept = was;
  placed_is = record {
    way = inl (record { reply_is = refl; full = omega (arith, over, w, was.weight, was.present); stays = refl });
    place = at ∙ ap length was.journal;
  };
}

-- a test that fails
pub not_full : (b : Bool) → b ≡ false → IsTrue b → ⊥
not_full b fails holds = absurd cc

-- what holds of a call that can't fail
pub on_ok_if : {T E : Type 0} (r : Result T E) (P : Type 0) → is_ok r ≡ true → OnOk r P → P
on_ok_if (Ok x) P is p = p
on_ok_if (Err e) P is p = absurd (cc is)

-- a client that is present is counted
pub one_present : (t : Terms) (b : Books) (client : ℕ) → IsKept t b → IsPresent t.clients b.history.items client → 1 ≤ b.present
one_present t b client is present = omega (arith, is.present, present_less t.clients b.history.items (leave_call client 0) refl present.0 present.1 present.2)

-- a leave, as a call more
pub left : (t : Terms) (old mid new : Books) (client base : ℕ) → IsKept t old → IsPresent t.clients old.history.items client → base ≡ length old.journal.items → HasTaken t old client Leave mid
    → new.board ≡ mid.board → new.journal ≡ mid.journal → new.history.items ≡ mid.history.items ++ leave_call client base ∷ [] → new.history.room ≡ mid.history.room - 1 → new.weight ≡ mid.weight + 2 → new.present + 1 ≡ mid.present
    → HasLeft t old client new
left t old mid new client base was present b has board journal history put heavy stay =
    let c = leave_call client base in
    let grown : new.history.items ≡ old.history.items ++ c ∷ [] = history ∙ ap (λ s. s.items ++ c ∷ []) has.history in
    let lists : new.journal.items ≡ mid.journal.items = ap (λ s. s.items) journal in
    let more : new.journal.items ≡ old.journal.items ++ entry_of (base + 1) client Leave ∷ [] = lists ∙ (has.journal ∙ ap (λ (k : ℕ). old.journal.items ++ entry_of (k + 1) client Leave ∷ []) (sym b)) in
    let based : base ≡ length (journal_of old.history.items) = b ∙ ap length was.journal in
    let next : IsNextCall t.design.parts t.clients t.limit old.history.items c = record { present = present; reply = (based, ap (λ (k : ℕ). Left (k + 1)) based) } in
    let presents : present_of t.clients new.history.items + 1 ≡ present_of t.clients old.history.items =
    ap (λ (h : List Call). present_of t.clients h + 1) grown ∙ present_less t.clients old.history.items c refl present.0 present.1 present.2 in
    let weighs_now : new.weight ≡ old.weight + 2 = omega (arith, heavy, has.weight) in
    let stays : new.present + 1 ≡ old.present = stay ∙ has.present in
    let numbers : new.board.next_id ≡ mid.board.next_id = ap (λ (x : Board). x.next_id) board in
    let kept = kept_more t old new c was (at_same t mid new has.at board lists) next b grown more weighs_now (omega (arith, stays, was.present, presents))
    (omega (arith, weighs_now, stays, was.light)) (omega (arith, numbers, has.next))
    (omega (arith, stays, ap (λ s. s.room) journal, has.journal_room, was.journal_room)) (omega (arith, stays, put, ap (λ s. s.room) has.history, was.history_room)) in
    record {
      kept = kept;
      left = standing_more t old new c grown ∙ ap (λ (n : ℕ). with_call (standing_of t old) (leave_call client n)) based;
    }

-- ---- books before the first call

all_present : (n : ℕ) → present_of n [] ≡ n
all_present zero = refl
all_present (suc n) = omega (arith, all_present n)

pub begun : (t : Terms) (b : Books) → 1 ≤ t.clients → t.clients ≤ client_limit → 16 ≤ t.limit → t.limit ≤ weight_limit → IsSameBoard b.board (first_board t.design.parts) → IsBoardOf t.design.parts b.board
    → b.journal.items ≡ [] → b.history.items ≡ [] → b.weight ≡ 0 → b.present ≡ t.clients → t.clients ≤ b.journal.room → t.clients ≤ b.history.room → IsKept t b
begun t b some few least most first of journal history weight present one other =
    let empty : length b.journal.items ≡ 0 = ap length journal in
    record {
      terms = record { some = some; few = few; most = most };
      at = record {
        board = subst (λ (j : List Entry). IsSameBoard b.board (last_board t.design.parts j)) (sym journal) first;
        of = of;
        count = first.count ∙ sym empty;
      };
      legal = subst (IsLegal t.design.parts t.clients t.limit) (sym history) tt;
      bases = subst (AreAtEnd []) (sym history) tt;
      journal = journal ∙ ap journal_of (sym history);
      weight = weight ∙ ap weight_of_calls (sym history);
      present = present ∙ (sym (all_present t.clients) ∙ ap (present_of t.clients) (sym history));
      light = omega (arith, weight, present, few, least);
      next = omega (arith, first.next_id);
      weighty = omega (arith, empty);
      journal_room = omega (arith, present, one);
      history_room = omega (arith, present, other);
    }
