-- The board and the journal behind one entry more.
use Rattle.std.proofs.Common.{◌≡◌, ℕ, ◌+◌, ◌-◌, List, [], ◌∷◌, ◌++◌, length, Some, None, refl, sym, ap, subst, ◌∙◌, arith, length-append}
use Rattle.std.specs.Prelude.{Option}
use Rattle.std.proofs.lemmas.List.{append-nil}
use Rattle.board_items.specs.declared.items.Item.{Item}
use Rattle.board_items.specs.declared.requests.Request.{Request}
use Rattle.board_items.specs.declared.history.Act.{Act}
use Rattle.board_items.specs.declared.history.Act.TheVariants.{Ask}
use Rattle.board_items.specs.declared.history.Entry.{Entry}
use Rattle.board_items.specs.declared.history.Reply.TheVariants.{Done, No}
use Rattle.board_items.specs.declared.history.Why.{Why}
use Rattle.boundaries.specs.Boundaries.{Boundary}
use Rattle.board_core.specs.Boards.{Board, after, folded, first_board, last_board, IsBoardOf, IsSameBoard}
use Rattle.board_core.specs.Answers.{IsAnswer}
use Rattle.board_core.specs.Histories.{entry_of}
use Rattle.serial_master.specs.declared.books.Terms.{Terms}
use Rattle.serial_master.specs.declared.books.Books.{Books}
use Rattle.serial_master.specs.Books.{IsAtJournal, HasStayed, HasTaken, HasDecided}
use Rattle.serial_master.proofs.Weighing.{heavier}

folded-append : (b : Board) (xs ys : List Entry) → folded b (xs ++ ys) ≡ folded (folded b xs) ys
folded-append b [] ys = refl
folded-append b (x ∷ xs) ys = folded-append (after b x.client x.act) xs ys

abbrev board_of : List (ℕ × Item) → ℕ → List (ℕ × ℕ) → List (ℕ × Boundary) → ℕ → List (Option ℕ) → ℕ → Board
board_of live next held fences last rules count = record { live = live; next_id = next; held = held; fences = fences; last = last; rules = rules; count = count }

-- boards that agree in all are one
pub same_board : (b c : Board) → IsSameBoard b c → b ≡ c
same_board b c same =
    ap (λ (x : List (ℕ × Item)). board_of x b.next_id b.held b.fences b.last b.rules b.count) same.live
    ∙ ap (λ (x : ℕ). board_of c.live x b.held b.fences b.last b.rules b.count) same.next_id
    ∙ ap (λ (x : List (ℕ × ℕ)). board_of c.live c.next_id x b.fences b.last b.rules b.count) same.held
    ∙ ap (λ (x : List (ℕ × Boundary)). board_of c.live c.next_id c.held x b.last b.rules b.count) same.fences
    ∙ ap (λ (x : ℕ). board_of c.live c.next_id c.held c.fences x b.rules b.count) same.last
    ∙ ap (λ (x : List (Option ℕ)). board_of c.live c.next_id c.held c.fences c.last x b.count) same.rules
    ∙ ap (λ (x : ℕ). board_of c.live c.next_id c.held c.fences c.last c.rules x) same.count

-- an act at the journal's end
pub taken : (t : Terms) (b new : Books) (client number : ℕ) (act : Act) → IsAtJournal t b → number ≡ length b.journal.items + 1 → IsSameBoard new.board (after b.board client act) → IsBoardOf t.design.parts new.board
    → new.journal.items ≡ b.journal.items ++ entry_of number client act ∷ [] → new.journal.room ≡ b.journal.room - 1 → new.history ≡ b.history → new.weight ≡ b.weight → new.present ≡ b.present → HasTaken t b client act new
taken t b new client number act is n board of j room h w pr =
    let p = t.design.parts in
    let old = b.journal.items in
    let g = heavier b.board client act in
    let journal : new.journal.items ≡ old ++ entry_of (length old + 1) client act ∷ [] = j ∙ ap (λ (k : ℕ). old ++ entry_of k client act ∷ []) n in
    let longer : length new.journal.items ≡ length old + 1 = ap length journal ∙ length-append old (entry_of (length old + 1) client act ∷ []) in
    let before : b.board ≡ last_board p old = same_board b.board (last_board p old) is.board in
    let last : after b.board client act ≡ last_board p new.journal.items =
    ap (λ (x : Board). after x client act) before ∙ sym (folded-append (first_board p) old (entry_of (length old + 1) client act ∷ [])) ∙ ap (last_board p) (sym journal) in
    record {
      at = record { board = subst (IsSameBoard new.board) last board; of = of; count = omega (arith, board.count, g.count, is.count, longer) };
      journal = journal;
      journal_room = room;
      next = omega (arith, board.next_id, g.next);
      history = h;
      weight = w;
      present = pr;
    }

-- want of memory at the board
pub untaken : (t : Terms) (b new : Books) → IsAtJournal t b → IsSameBoard new.board b.board → new.journal ≡ b.journal → new.history ≡ b.history → new.weight ≡ b.weight → new.present ≡ b.present → HasStayed t b new
untaken t b new is board j h w pr =
    let same : new.board ≡ b.board = same_board new.board b.board board in
    record {
      at = record {
        board = subst (λ (x : Board). IsSameBoard x (last_board t.design.parts new.journal.items)) (sym same) (subst (λ (y : List Entry). IsSameBoard b.board (last_board t.design.parts y)) (sym (ap (λ s. s.items) j)) is.board);
        of = subst (IsBoardOf t.design.parts) (sym same) is.of;
        count = board.count ∙ (is.count ∙ sym (ap (λ s. length s.items) j));
      };
      next = board.next_id;
      journal = ap (λ s. s.items) j;
      journal_room = omega (arith, ap (λ s. s.room) j);
      history = ap (λ s. s.items) h;
      history_room = omega (arith, ap (λ s. s.room) h);
      weight = w;
      present = pr;
    }

-- ---- answers

pub done_decided : (t : Terms) (old new : Books) (client number : ℕ) (r : Request) → IsAtJournal t old → IsAnswer t.design.parts t.clients old.board client r None → number ≡ length old.journal.items + 1 → HasTaken t old client (Ask r) new
    → HasDecided t old client r new (Done number)
done_decided t old new client number r is answer n has = record {
  reply_is = (subst (λ (b : Board). IsAnswer t.design.parts t.clients b client r None) (same_board old.board (last_board t.design.parts old.journal.items) is.board) answer, n);
  at = has.at;
  journal = has.journal ∙ ap (λ (k : ℕ). old.journal.items ++ entry_of k client (Ask r) ∷ []) (sym n);
  journal_room = omega (arith, has.journal_room);
  next = has.next;
  history = has.history;
  weight = has.weight;
  present = has.present;
}

pub no_decided : (t : Terms) (old : Books) (client : ℕ) (r : Request) (why : Why) → IsAtJournal t old → IsAnswer t.design.parts t.clients old.board client r (Some why) → HasDecided t old client r old (No why)
no_decided t old client r why is answer = record {
  reply_is = subst (λ (b : Board). IsAnswer t.design.parts t.clients b client r (Some why)) (same_board old.board (last_board t.design.parts old.journal.items) is.board) answer;
  at = is;
  journal = sym (append-nil old.journal.items);
  journal_room = omega arith;
  next = omega arith;
  history = refl;
  weight = refl;
  present = refl;
}
