-- What a desk keeps over its calls.
use Rattle.std.proofs.Common.{◌≡◌, ◌⊎◌, inl, inr, ℕ, ◌+◌, ◌-◌, ◌≤◌, List, [], ◌∷◌, ◌++◌, length, take, drop, refl, ap, sym, ◌∙◌, subst, arith}
use Rattle.std.specs.Prelude.{Bool, true, false}
use Rattle.std.proofs.lemmas.List.{append-nil, length-take, length-drop}
use Rattle.board_items.specs.declared.requests.Request.{Request}
use Rattle.board_items.specs.declared.history.Act.TheVariants.{Ask}
use Rattle.board_items.specs.declared.history.Call.{Call}
use Rattle.board_items.specs.declared.history.Entry.{Entry}
use Rattle.board_items.specs.declared.history.Reply.{Reply}
use Rattle.board_items.specs.declared.history.Reply.TheVariants.{Done, No, Full, Left}
use Rattle.board_rules.specs.declared.design.Parts.{Parts}
use Rattle.board_core.specs.Histories.{has_left, IsActReply}
use Rattle.desk_core.specs.declared.desk.Answer.{Answer}
use Rattle.desk_core.specs.declared.desk.Placed.{Placed}
use Rattle.client_desk.specs.Standings.{Standing, journal, with_call, with_leave, asked_call, leave_call, IsHere, IsRefused, IsCalled, IsPlaced}
use Rattle.client_desk.specs.Given.{StartsWith, calls_of, is_call, HasPoint, HasAnswers}
use Rattle.client_desk.specs.Seats.{IsSeatAt, IsDesk}
use Rattle.client_desk.proofs.Journals.{journal_longer, first_entries}
use Rattle.client_desk.proofs.Owns.{still_here, now_left, none_left}
use Rattle.client_desk.proofs.Answering.{answered_none, answered_called, answered_full, answered_left}

-- ---- whose desk it is

seat_call : (parts : Parts) (clients limit client : ℕ) (s : Standing) (who : ℕ) (c : Call) → IsSeatAt parts clients limit client s who → IsSeatAt parts clients limit client (with_call s c) who
seat_call parts clients limit client s who c x = record { parts_are = x.parts_are; clients_is = x.clients_is; limit_is = x.limit_is; client_is = x.client_is }

seat_way : (parts : Parts) (clients limit client : ℕ) (s t : Standing) (who : ℕ) (request : Request) (reply : Reply) → IsRefused s request t reply ⊎ IsCalled s who request t reply
    → IsSeatAt parts clients limit client s who → IsSeatAt parts clients limit client t who
seat_way parts clients limit client s t who request reply (inl r) x = subst (λ (w : Standing). IsSeatAt parts clients limit client w who) (sym r.stays) x
seat_way parts clients limit client s t who request reply (inr r) x =
    subst (λ (w : Standing). IsSeatAt parts clients limit client w who) (sym r.more) (seat_call parts clients limit client s who (asked_call who r.base request reply) x)

pub seat_asked : (parts : Parts) (clients limit client : ℕ) (s t : Standing) (who : ℕ) (request : Request) (p : Placed) → IsPlaced s who request t p
    → IsSeatAt parts clients limit client s who → IsSeatAt parts clients limit client t who
seat_asked parts clients limit client s t who request p is x = seat_way parts clients limit client s t who request p.reply is.way x

pub seat_left : (parts : Parts) (clients limit client : ℕ) (s t : Standing) (who : ℕ) → t ≡ with_leave s who → IsSeatAt parts clients limit client s who → IsSeatAt parts clients limit client t who
seat_left parts clients limit client s t who e x =
    subst (λ (w : Standing). IsSeatAt parts clients limit client w who) (sym e) (seat_call parts clients limit client s who (leave_call who (length (journal s))) x)

-- ---- what the desk keeps

pub desk_new : (s : Standing) (client : ℕ) → 1 ≤ client → client ≤ s.clients → calls_of client s.history ≡ [] → IsDesk s client 0 [] false
desk_new s client first last none = record {
  first = first;
  last = last;
  handed_in = omega arith;
  answered = answered_none s client none;
  left_is = sym (none_left client s.history none);
}

-- who may ask
pub here : (s : Standing) (client handed : ℕ) (given : List Answer) (left : Bool) → IsDesk s client handed given left → left ≡ false → IsHere s client
here s client handed given left d stays = (d.first, d.last, sym d.left_is ∙ stays)

-- a look hands out what was lacking
pub desk_looked : (s t : Standing) (client handed count : ℕ) (given : List Answer) (left : Bool) (entries : List Entry) → IsDesk s client handed given left → t ≡ s → entries ≡ drop handed (journal s) → count ≡ length entries
    → (handed + count ≡ length (journal s)) × IsDesk t client (handed + count) given left
desk_looked s t client handed count given left entries d same lacked is =
    let rest : length (drop handed (journal s)) ≡ length (journal s) - handed = length-drop handed (journal s) in
    let all : handed + count ≡ length (journal s) = omega (arith, is, ap length lacked, rest, d.handed_in) in
    let made : IsDesk s client (handed + count) given left = record { first = d.first; last = d.last; handed_in = omega (arith, all); answered = d.answered; left_is = d.left_is } in
    (all, subst (λ (w : Standing). IsDesk w client (handed + count) given left) (sym same) made)

pub desk_stays : (s t : Standing) (client handed : ℕ) (given : List Answer) (left : Bool) → IsDesk s client handed given left → t ≡ s → IsDesk t client handed given left
desk_stays s t client handed given left d same = subst (λ (w : Standing). IsDesk w client handed given left) (sym same) d

-- one call more
desk_more : (s : Standing) (client handed : ℕ) (given now : List Answer) (left after : Bool) (c : Call) → IsDesk s client handed given left → HasAnswers (with_call s c) client now → after ≡ has_left client (s.history ++ c ∷ [])
    → IsDesk (with_call s c) client handed now after
desk_more s client handed given now left after c d answered is = record {
  first = d.first;
  last = d.last;
  handed_in = let longer = journal_longer (s.history ++ c ∷ []) s.history (c ∷ [], refl) in let old = d.handed_in in omega arith;
  answered = answered;
  left_is = is;
}

-- a request that is called has a reply of a call
called_is : (s : Standing) (client base : ℕ) (request : Request) (reply : Reply) → IsActReply s.parts s.clients s.limit s.history client base (Ask request) reply → is_call reply ≡ true
called_is s client base request (Done number) x = refl
called_is s client base request (No why) x = refl
called_is s client base request Full x = absurd x.3
called_is s client base request (Left number) x = absurd x.3

no_point : (s : Standing) (client place : ℕ) (request : Request) (reply : Reply) → is_call reply ≡ true → HasPoint s client request place reply
no_point s client place request (Done number) is = tt
no_point s client place request (No why) is = tt
no_point s client place request Full is = absurd (cc is)
no_point s client place request (Left number) is = tt

desk_way : (s t : Standing) (client handed place : ℕ) (request : Request) (reply : Reply) (given : List Answer) (left : Bool) → IsDesk s client handed given left → left ≡ false
    → IsRefused s request t reply ⊎ IsCalled s client request t reply → place ≡ length (journal t) → IsDesk t client handed (given ++ record { request = request; place = place; reply = reply } ∷ []) left
desk_way s t client handed place request reply given left d stays (inl r) at =
    let at_s : place ≡ length (journal s) = at ∙ ap (λ (w : Standing). length (journal w)) r.stays in
    let full = answered_full s client place request given r.full (sym d.left_is ∙ stays) at_s d.answered in
    let more : HasAnswers s client (given ++ record { request = request; place = place; reply = reply } ∷ []) =
    subst (λ (y : Reply). HasAnswers s client (given ++ record { request = request; place = place; reply = y } ∷ [])) (sym r.reply_is) full in
    let made : IsDesk s client handed (given ++ record { request = request; place = place; reply = reply } ∷ []) left =
    record { first = d.first; last = d.last; handed_in = d.handed_in; answered = more; left_is = d.left_is } in
    subst (λ (w : Standing). IsDesk w client handed (given ++ record { request = request; place = place; reply = reply } ∷ []) left) (sym r.stays) made
desk_way s t client handed place request reply given left d stays (inr r) at =
    let c = asked_call client r.base request reply in
    let is = called_is s client r.base request reply r.next.reply in
    let at_c : place ≡ length (journal (with_call s c)) = at ∙ ap (λ (w : Standing). length (journal w)) r.more in
    let answered = answered_called s client r.base place request reply given is (no_point (with_call s c) client place request reply is) at_c d.answered in
    let made = desk_more s client handed given (given ++ record { request = request; place = place; reply = reply } ∷ []) left left c d answered (d.left_is ∙ sym (still_here client client r.base s.history request reply)) in
    subst (λ (w : Standing). IsDesk w client handed (given ++ record { request = request; place = place; reply = reply } ∷ []) left) (sym r.more) made

-- a request more
pub desk_asked : (s t : Standing) (client handed : ℕ) (request : Request) (p : Placed) (given now : List Answer) (left : Bool) → IsDesk s client handed given left → left ≡ false
    → IsPlaced s client request t p → now ≡ given ++ record { request = request; place = p.place; reply = p.reply } ∷ [] → IsDesk t client handed now left
desk_asked s t client handed request p given now left d stays is e =
    subst (λ (l : List Answer). IsDesk t client handed l left) (sym e) (desk_way s t client handed p.place request p.reply given left d stays is.way is.place)

-- the leave
pub desk_left : (s t : Standing) (client handed : ℕ) (given : List Answer) (left : Bool) → IsDesk s client handed given left → t ≡ with_leave s client → IsDesk t client handed given true
desk_left s t client handed given left d e =
    let c = leave_call client (length (journal s)) in
    let made = desk_more s client handed given given left true c d (answered_left s client (length (journal s)) given d.answered) (sym (now_left client (length (journal s)) s.history)) in
    subst (λ (w : Standing). IsDesk w client handed given true) (sym e) made

-- ---- what the desk tells

way_starts : (s t : Standing) (client : ℕ) (request : Request) (reply : Reply) → IsRefused s request t reply ⊎ IsCalled s client request t reply → StartsWith t.history s.history
way_starts s t client request reply (inl r) = ([], ap (λ (w : Standing). w.history) r.stays ∙ sym (append-nil s.history))
way_starts s t client request reply (inr r) = (asked_call client r.base request reply ∷ [], ap (λ (w : Standing). w.history) r.more)

pub asked_starts : (s t : Standing) (client : ℕ) (request : Request) (p : Placed) → IsPlaced s client request t p → StartsWith t.history s.history
asked_starts s t client request p is = way_starts s t client request p.reply is.way

pub left_starts : (s t : Standing) (client : ℕ) → t ≡ with_leave s client → StartsWith t.history s.history
left_starts s t client e = (leave_call client (length (journal s)) ∷ [], ap (λ (w : Standing). w.history) e)

-- the entries handed out stay
pub told_stays : (s t : Standing) (client handed : ℕ) (given : List Answer) (left : Bool) → IsDesk s client handed given left → StartsWith t.history s.history → take handed (journal t) ≡ take handed (journal s)
told_stays s t client handed given left d p = first_entries t.history s.history handed p d.handed_in

-- the place of an answer isn't before what was handed out
pub place_behind : (s t : Standing) (client handed : ℕ) (given : List Answer) (left : Bool) (request : Request) (p : Placed) → IsDesk s client handed given left → IsPlaced s client request t p → length (take handed (journal s)) ≤ p.place
place_behind s t client handed given left request p d is =
    let longer = journal_longer t.history s.history (asked_starts s t client request p is) in
    omega (arith, is.place, longer, length-take handed (journal s), d.handed_in)
