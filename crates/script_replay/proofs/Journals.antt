-- The journal, the weight and the board behind one act more.
use Rattle.std.proofs.Common.{◌≡◌, ◌⊎◌, ℕ, ◌+◌, ◌*◌, ◌<◌, ◌≤◌, ◌^◌, List, [], ◌∷◌, ◌++◌, length, map, Some, None, refl, sym, ap, subst, ◌∙◌, append_assoc, arith, length-append, inl, inr}
use Rattle.std.specs.Prelude.{Option, Bool, false, IsTrue}
use Rattle.std.specs.List.{sum, sum_by}
use Rattle.std.proofs.lemmas.Bool.{cases_lt}
use Rattle.std.proofs.lemmas.List.{append-nil}
use Rattle.std.proofs.lemmas.List.Sums.{sum-map, sum_by-cons}
use Rattle.row_lists.specs.Limits.{weight_limit, client_limit}
use Rattle.board_items.specs.declared.items.Item.{Item}
use Rattle.board_items.specs.declared.requests.Add.{Add}
use Rattle.board_items.specs.declared.requests.Add.TheVariants as adds
use Rattle.board_items.specs.declared.requests.Request.{Request}
use Rattle.board_items.specs.declared.requests.Request.TheVariants.{Edit, Reserve, Release, Fence, Unfence, Entitle, Rule}
use Rattle.board_items.specs.declared.history.Act.{Act}
use Rattle.board_items.specs.declared.history.Act.TheVariants.{Ask, Leave}
use Rattle.board_items.specs.declared.history.Call.{Call}
use Rattle.board_items.specs.declared.history.Entry.{Entry}
use Rattle.board_items.specs.declared.history.Reply.{Reply}
use Rattle.board_items.specs.declared.history.Reply.TheVariants.{Done, No, Full, Left}
use Rattle.board_items.specs.declared.history.Why.{Why}
use Rattle.board_items.specs.Formed.{IsFormed}
use Rattle.board_items.specs.Weights.{weight_of, weight_of_add}
use Rattle.board_rules.specs.declared.design.Design.{Design}
use Rattle.boundaries.specs.Boundaries.{Boundary}
use Rattle.board_core.specs.Boards.{Board, after, folded, first_board, last_board, IsBoardOf, IsSameBoard, taken_by}
use Rattle.board_core.specs.Answers.{IsAnswer}
use Rattle.board_core.specs.Histories.{entry_of, entries_by, journal_of, weight_of_calls, present_of, IsFull, IsPresent, IsRequestReply}
use Rattle.script_replay.specs.declared.master.SerialMaster.{SerialMaster}
use Rattle.script_replay.specs.Scripts.{Event}
use Rattle.script_replay.specs.Replays.{call_of}
use Rattle.script_replay.specs.Masters.{IsAtJournal, IsSerialMaster, HasTaken, HasDecided, HasReplied}
use Rattle.script_replay.proofs.Lefts.{present_same, present_less}

-- ---- lists with one more

folded-append : (b : Board) (xs ys : List Entry) → folded b (xs ++ ys) ≡ folded (folded b xs) ys
folded-append b [] ys = refl
folded-append b (x ∷ xs) ys = folded-append (after b x.client x.act) xs ys

pub journal_more : (calls : List Call) (c : Call) → journal_of (calls ++ c ∷ []) ≡ journal_of calls ++ entries_by c.client c.act c.reply
journal_more [] c = append-nil (entries_by c.client c.act c.reply)
journal_more (x ∷ xs) c =
    ap (λ (y : List Entry). entries_by x.client x.act x.reply ++ y) (journal_more xs c) ∙ sym (append_assoc (entries_by x.client x.act x.reply) (journal_of xs) (entries_by c.client c.act c.reply))

abbrev weight_by : Call → ℕ
weight_by c = weight_of c.act

by_more : (calls : List Call) (c : Call) → sum_by weight_by (calls ++ c ∷ []) ≡ sum_by weight_by calls + weight_by c
by_more [] c = omega (arith, sum_by-cons weight_by c [])
by_more (x ∷ xs) c = omega (arith, by_more xs c, sum_by-cons weight_by x (xs ++ c ∷ []), sum_by-cons weight_by x xs)

pub weight_more : (calls : List Call) (c : Call) → weight_of_calls (calls ++ c ∷ []) ≡ weight_of_calls calls + weight_of c.act
weight_more calls c = sum-map weight_by (calls ++ c ∷ []) ∙ by_more calls c ∙ ap (λ (n : ℕ). n + weight_of c.act) (sym (sum-map weight_by calls))

-- ---- what an act weighs

add_weighs : (a : Add) → 4 ≤ weight_of_add a
add_weighs (adds.Wire net layer width points) = omega arith
add_weighs (adds.Via net padstack place) = omega arith

adds_weigh_by : (all : List Add) → 4 * length all ≤ sum_by weight_of_add all
adds_weigh_by [] = omega arith
adds_weigh_by (a ∷ rest) = omega (arith, add_weighs a, adds_weigh_by rest, sum_by-cons weight_of_add a rest)

-- each add weighs 4 or more
adds_weigh : (all : List Add) → 4 * length all ≤ sum (map weight_of_add all)
adds_weigh all = omega (arith, adds_weigh_by all, sum-map weight_of_add all)

-- what one act leaves: each number that it takes weighs 4 or more
record IsHeavier (b c : Board) (act : Act) : Type 0 where
  next : 4 * c.next_id ≤ 4 * b.next_id + weight_of act
  count : c.count ≡ b.count + 1
  weighty : 2 ≤ weight_of act

heavier : (b : Board) (client : ℕ) (act : Act) → IsHeavier b (after b client act) act
heavier b client (Ask (Edit deletes adds)) = record { next = omega (arith, adds_weigh adds); count = refl; weighty = omega arith }
heavier b client (Ask (Reserve id)) = record { next = omega arith; count = refl; weighty = omega arith }
heavier b client (Ask (Release id)) = record { next = omega arith; count = refl; weighty = omega arith }
heavier b client (Ask (Fence layers area clients)) = record { next = omega arith; count = refl; weighty = omega arith }
heavier b client (Ask (Unfence fence)) = record { next = omega arith; count = refl; weighty = omega arith }
heavier b client (Ask (Entitle fence other)) = record { next = omega arith; count = refl; weighty = omega arith }
heavier b client (Ask (Rule class clearance)) = record { next = omega arith; count = refl; weighty = omega arith }
heavier b client Leave = record { next = omega arith; count = refl; weighty = omega arith }

weighs : (act : Act) → 2 ≤ weight_of act
weighs act = (heavier (record { live = []; next_id = 0; held = []; fences = []; last = 0; rules = []; count = 0 }) 0 act).weighty

taken_weighs : (act : Act) → 4 * taken_by act ≤ weight_of act
taken_weighs (Ask (Edit deletes adds)) = omega (arith, adds_weigh adds)
taken_weighs (Ask (Reserve id)) = omega arith
taken_weighs (Ask (Release id)) = omega arith
taken_weighs (Ask (Fence layers area clients)) = omega arith
taken_weighs (Ask (Unfence fence)) = omega arith
taken_weighs (Ask (Entitle fence other)) = omega arith
taken_weighs (Ask (Rule class clearance)) = omega arith
taken_weighs Leave = omega arith

-- within the weight of a history there are few numbers and few entries
pub light_numbers : (d : Design) (m : SerialMaster) (act : Act) → IsSerialMaster d m → m.weight + weight_of act ≤ weight_limit → m.board.next_id + taken_by act < 2 ^ 32
light_numbers d m act is light = omega (arith, is.next, d.sound.few_items, light, taken_weighs act)

pub light_journal : (d : Design) (m : SerialMaster) (act : Act) → IsSerialMaster d m → m.weight + weight_of act ≤ weight_limit → length m.journal + 1 < 2 ^ 32
light_journal d m act is light = omega (arith, is.weighty, light)

-- ---- boards

abbrev board_of : List (ℕ × Item) → ℕ → List (ℕ × ℕ) → List (ℕ × Boundary) → ℕ → List (Option ℕ) → ℕ → Board
board_of live next held fences last rules count = record { live = live; next_id = next; held = held; fences = fences; last = last; rules = rules; count = count }

-- boards that agree in all are one
pub same_board : (b c : Board) → IsSameBoard b c → b ≡ c
same_board b c same =
    ap (λ (x : List (ℕ × Item)). board_of x b.next_id b.held b.fences b.last b.rules b.count) same.live
    ∙ ap (λ (x : ℕ). board_of c.live x b.held b.fences b.last b.rules b.count) same.next_id
    ∙ ap (λ (x : List (ℕ × ℕ)). board_of c.live c.next_id x b.fences b.last b.rules b.count) same.held
    ∙ ap (λ (x : List (ℕ × Boundary)). board_of c.live c.next_id c.held x b.last b.rules b.count) same.fences
    ∙ ap (λ (x : ℕ). board_of c.live c.next_id c.held c.fences x b.rules b.count) same.last
    ∙ ap (λ (x : List (Option ℕ)). board_of c.live c.next_id c.held c.fences c.last x b.count) same.rules
    ∙ ap (λ (x : ℕ). board_of c.live c.next_id c.held c.fences c.last c.rules x) same.count

-- an act at the journal's end
pub taken : (d : Design) (m new : SerialMaster) (client number : ℕ) (act : Act) → IsAtJournal d m → number ≡ length m.journal + 1 → IsSameBoard new.board (after m.board client act) → IsBoardOf d.parts new.board
    → new.journal ≡ m.journal ++ entry_of number client act ∷ [] → new.history ≡ m.history → new.weight ≡ m.weight → new.present ≡ m.present → HasTaken d m client act new
taken d m new client number act is n b of j h w pr =
    let p = d.parts in
    let g = heavier m.board client act in
    let entry : entry_of number client act ∷ [] ≡ entry_of (length m.journal + 1) client act ∷ [] = ap (λ (k : ℕ). entry_of k client act ∷ []) n in
    let journal : new.journal ≡ m.journal ++ entry_of (length m.journal + 1) client act ∷ [] = j ∙ ap (λ (es : List Entry). m.journal ++ es) entry in
    let longer : length new.journal ≡ length m.journal + 1 = ap length journal ∙ length-append m.journal (entry_of (length m.journal + 1) client act ∷ []) in
    let before : m.board ≡ last_board p m.journal = same_board m.board (last_board p m.journal) is.board in
    let last : after m.board client act ≡ last_board p new.journal =
    ap (λ (x : Board). after x client act) before ∙ sym (folded-append (first_board p) m.journal (entry_of (length m.journal + 1) client act ∷ [])) ∙ ap (last_board p) (sym journal) in
    record {
      at = record { board = subst (IsSameBoard new.board) last b; of = of; count = omega (arith, b.count, g.count, is.count, longer) };
      journal = journal;
      next = omega (arith, b.next_id, g.next);
      history = h;
      weight = w;
      present = pr;
    }

-- ---- answers

pub done_decided : (d : Design) (old new : SerialMaster) (client number : ℕ) (r : Request) → IsAtJournal d old → IsAnswer d.parts client_limit old.board client r None → number ≡ length old.journal + 1 → HasTaken d old client (Ask r) new
    → HasDecided d old client r new (Done number)
done_decided d old new client number r is answer n has = record {
  reply_is = (subst (λ (b : Board). IsAnswer d.parts client_limit b client r None) (same_board old.board (last_board d.parts old.journal) is.board) answer, n);
  at = has.at;
  journal = has.journal ∙ ap (λ (k : ℕ). old.journal ++ entry_of k client (Ask r) ∷ []) (sym n);
  next = has.next;
  history = has.history;
  weight = has.weight;
  present = has.present;
}

pub no_decided : (d : Design) (old : SerialMaster) (client : ℕ) (r : Request) (why : Why) → IsAtJournal d old → IsAnswer d.parts client_limit old.board client r (Some why) → HasDecided d old client r old (No why)
no_decided d old client r why is answer = record {
  reply_is = subst (λ (b : Board). IsAnswer d.parts client_limit b client r (Some why)) (same_board old.board (last_board d.parts old.journal) is.board) answer;
  at = is;
  journal = sym (append-nil old.journal);
  next = omega arith;
  history = refl;
  weight = refl;
  present = refl;
}

one_entry : (client : ℕ) (act : Act) (reply : Reply) → length (entries_by client act reply) ≤ 1
one_entry client act (Done number) = omega arith
one_entry client act (No why) = omega arith
one_entry client act Full = omega arith
one_entry client act (Left number) = omega arith

room_if : (limit n : ℕ) → (limit < n → ⊥) → (limit < n) ⊎ (n ≤ limit) → n ≤ limit
room_if limit n room (inl over) = absurd (room over)
room_if limit n room (inr under) = under

room_left : (old new : SerialMaster) (weight : ℕ) → (weight_limit < old.weight + weight + 2 * old.present → ⊥) → new.weight ≡ old.weight + weight → new.present ≡ old.present → new.weight + 2 * new.present ≤ weight_limit
room_left old new weight room heavy stay =
    let under = room_if weight_limit (old.weight + weight + 2 * old.present) room (cases_lt weight_limit (old.weight + weight + 2 * old.present)) in
    omega (arith, under, heavy, stay)

-- a request that has room, as a call more
pub asked : (d : Design) (old mid new : SerialMaster) (client base weight : ℕ) (r : Request) (reply : Reply) → IsSerialMaster d old → IsFormed r → IsPresent client_limit old.history client → weight ≡ weight_of (Ask r)
    → (weight_limit < old.weight + weight + 2 * old.present → ⊥) → base ≡ length old.journal → HasDecided d old client r mid reply → new.board ≡ mid.board → new.journal ≡ mid.journal
    → new.history ≡ mid.history ++ record { client = client; base = base; act = Ask r; reply = reply } ∷ [] → new.weight ≡ mid.weight + weight → new.present ≡ mid.present
    → HasReplied d old (record { client = client; act = Ask r }) new reply
asked d old mid new client base weight r reply was formed present w room b has board journal history heavy stay =
    let event : Event = record { client = client; act = Ask r } in
    let base_is : base ≡ length (journal_of old.history) = b ∙ ap length was.journal in
    let call : Call = call_of old.history event reply in
    let grown : new.history ≡ old.history ++ call ∷ [] =
    history ∙ ap (λ (h : List Call). h ++ record { client = client; base = base; act = Ask r; reply = reply } ∷ []) has.history
    ∙ ap (λ (k : ℕ). old.history ++ record { client = client; base = k; act = Ask r; reply = reply } ∷ []) base_is in
    let at : IsAtJournal d new = record {
      board = subst (λ (x : Board). IsSameBoard x (last_board d.parts new.journal)) (sym board) (subst (λ (j : List Entry). IsSameBoard mid.board (last_board d.parts j)) (sym journal) has.at.board);
      of = subst (IsBoardOf d.parts) (sym board) has.at.of;
      count = ap (λ (x : Board). x.count) board ∙ has.at.count ∙ ap length (sym journal);
    } in
    let full : IsFull weight_limit client_limit old.history r → ⊥ = λ over. room (omega (arith, over, w, was.weight, was.present)) in
    let reply_is : IsRequestReply d.parts client_limit (journal_of old.history) client r reply = subst (λ (j : List Entry). IsRequestReply d.parts client_limit j client r reply) was.journal has.reply_is in
    let all : journal_of new.history ≡ old.journal ++ entries_by client (Ask r) reply =
    ap journal_of grown ∙ journal_more old.history call ∙ ap (λ (j : List Entry). j ++ entries_by client (Ask r) reply) (sym was.journal) in
    let count : length new.journal ≡ length old.journal + length (entries_by client (Ask r) reply) = ap length (journal ∙ has.journal) ∙ length-append old.journal (entries_by client (Ask r) reply) in
    let weights : weight_of_calls new.history ≡ weight_of_calls old.history + weight_of (Ask r) = ap weight_of_calls grown ∙ weight_more old.history call in
    let presents : present_of client_limit new.history ≡ present_of client_limit old.history = ap (present_of client_limit) grown ∙ present_same client_limit old.history call refl in
    let next : new.board.next_id ≡ mid.board.next_id = ap (λ (x : Board). x.next_id) board in
    record {
      replied = inr (record { present = present; reply = (formed, omega arith, full, reply_is) }, grown);
      master = record {
        at = at;
        journal = journal ∙ has.journal ∙ sym all;
        weight = omega (arith, heavy, has.weight, w, was.weight, weights);
        present = stay ∙ has.present ∙ was.present ∙ sym presents;
        light = room_left old new weight room (heavy ∙ ap (λ (n : ℕ). n + weight) has.weight) (stay ∙ has.present);
        next = omega (arith, next, has.next, was.next, heavy, has.weight, w);
        weighty = omega (arith, count, one_entry client (Ask r) reply, was.weighty, heavy, has.weight, w, weighs (Ask r));
      };
    }

-- a test that fails
pub not_full : (b : Bool) → b ≡ false → IsTrue b → ⊥
not_full b fails holds = absurd cc

-- a request that has none: nothing changes
pub full : (d : Design) (m : SerialMaster) (client weight : ℕ) (r : Request) → IsSerialMaster d m → weight ≡ weight_of (Ask r) → weight_limit < m.weight + weight + 2 * m.present → HasReplied d m (record { client = client; act = Ask r }) m Full
full d m client weight r was w over = record { replied = inl (refl, omega (arith, over, w, was.weight, was.present), refl); master = was }

-- a leave, as a call more
pub left : (d : Design) (old mid new : SerialMaster) (client base : ℕ) → IsSerialMaster d old → IsPresent client_limit old.history client → base ≡ length old.journal → HasTaken d old client Leave mid → new.board ≡ mid.board → new.journal ≡ mid.journal
    → new.history ≡ mid.history ++ record { client = client; base = base; act = Leave; reply = Left (base + 1) } ∷ [] → new.weight ≡ mid.weight + 2 → new.present + 1 ≡ mid.present
    → HasReplied d old (record { client = client; act = Leave }) new (Left (base + 1))
left d old mid new client base was present b has board journal history heavy stay =
    let event : Event = record { client = client; act = Leave } in
    let base_is : base ≡ length (journal_of old.history) = b ∙ ap length was.journal in
    let reply : Reply = Left (base + 1) in
    let call : Call = call_of old.history event reply in
    let grown : new.history ≡ old.history ++ call ∷ [] =
    history ∙ ap (λ (h : List Call). h ++ record { client = client; base = base; act = Leave; reply = reply } ∷ []) has.history
    ∙ ap (λ (k : ℕ). old.history ++ record { client = client; base = k; act = Leave; reply = reply } ∷ []) base_is in
    let at : IsAtJournal d new = record {
      board = subst (λ (x : Board). IsSameBoard x (last_board d.parts new.journal)) (sym board) (subst (λ (j : List Entry). IsSameBoard mid.board (last_board d.parts j)) (sym journal) has.at.board);
      of = subst (IsBoardOf d.parts) (sym board) has.at.of;
      count = ap (λ (x : Board). x.count) board ∙ has.at.count ∙ ap length (sym journal);
    } in
    let entry : entry_of (length old.journal + 1) client Leave ∷ [] ≡ entries_by client Leave reply = ap (λ (k : ℕ). entry_of (k + 1) client Leave ∷ []) (sym b) in
    let all : journal_of new.history ≡ old.journal ++ entries_by client Leave reply =
    ap journal_of grown ∙ journal_more old.history call ∙ ap (λ (j : List Entry). j ++ entries_by client Leave reply) (sym was.journal) in
    let count : length new.journal ≡ length old.journal + 1 = ap length (journal ∙ has.journal) ∙ length-append old.journal (entry_of (length old.journal + 1) client Leave ∷ []) in
    let weights : weight_of_calls new.history ≡ weight_of_calls old.history + 2 = ap weight_of_calls grown ∙ weight_more old.history call in
    let presents : present_of client_limit new.history + 1 ≡ present_of client_limit old.history =
    ap (λ (h : List Call). present_of client_limit h + 1) grown ∙ present_less client_limit old.history call refl present.0 present.1 present.2 in
    let next : new.board.next_id ≡ mid.board.next_id = ap (λ (x : Board). x.next_id) board in
    record {
      replied = inr (record { present = present; reply = (refl, ap (λ (k : ℕ). Left (k + 1)) base_is) }, grown);
      master = record {
        at = at;
        journal = journal ∙ has.journal ∙ ap (λ (es : List Entry). old.journal ++ es) entry ∙ sym all;
        weight = omega (arith, heavy, has.weight, was.weight, weights);
        present = omega (arith, stay, has.present, was.present, presents);
        light = omega (arith, stay, has.present, heavy, has.weight, was.light);
        next = omega (arith, next, has.next, was.next, heavy, has.weight);
        weighty = omega (arith, count, was.weighty, heavy, has.weight);
      };
    }

-- a client that is present is counted
pub one_present : (d : Design) (m : SerialMaster) (client : ℕ) → IsSerialMaster d m → IsPresent client_limit m.history client → 1 ≤ m.present
one_present d m client is present =
    let call : Call = record { client = client; base = 0; act = Leave; reply = Full } in
    omega (arith, is.present, present_less client_limit m.history call refl present.0 present.1 present.2)

-- ---- a master before the first request

pub begun : (d : Design) (m : SerialMaster) → IsSameBoard m.board (first_board d.parts) → IsBoardOf d.parts m.board → m.journal ≡ [] → m.history ≡ [] → m.weight ≡ 0 → m.present ≡ client_limit → IsSerialMaster d m
begun d m first of journal history weight present =
    let empty : length m.journal ≡ 0 = ap length journal in
    record {
      at = record {
        board = subst (λ (j : List Entry). IsSameBoard m.board (last_board d.parts j)) (sym journal) first;
        of = of;
        count = first.count ∙ sym empty;
      };
      journal = journal ∙ ap journal_of (sym history);
      weight = weight ∙ ap weight_of_calls (sym history);
      present = present ∙ ap (present_of client_limit) (sym history);
      light = omega (arith, weight, present);
      next = omega (arith, first.next_id);
      weighty = omega (arith, empty);
    }
