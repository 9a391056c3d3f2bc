-- Entries up to an answer, one more in front at a time.
use Rattle.std.proofs.Common.{◌≡◌, inr, ℕ, List, [], ◌∷◌, ◌++◌, Option, Result, Ok, Err, refl, sym, ap, subst, ◌∙◌, append_assoc}
use Rattle.std.specs.Io.KnownBytes.{Appends}
use Rattle.std.specs.List.{flat_map}
use Rattle.layout_io.specs.Links.{Wire}
use Rattle.board_items.specs.declared.history.Entry.{Entry}
use Rattle.session_wire.specs.Kept.{ended}
use Rattle.session_wire.specs.Lines.{entry_line}
use Rattle.client_talk.specs.Entries.{ReadsEntry}
use Rattle.answer_lines.specs.Answers.{IsAnswer, IsHello}
use Rattle.answer_lines.specs.declared.answers.Goes.{Goes}
use Rattle.client_replica.specs.Replicas.{Following, followed, IsNext, FollowsAll}
use Rattle.client_talk.specs.declared.stop.Stop.{Stop}
use Rattle.client_talk.specs.declared.stop.Stop.TheVariants as stops
use Rattle.client_talk.specs.Hears.{Begins, HasBegun, HasHeard}
use Rattle.client_talk.specs.Talks.{WhyNoAnswer, HasAnswer, HasTaken, HasFollowed, HasGreeted}
use Rattle.client_talk.proofs.Prints.{appends_then, begins_second}
use Rattle.client_talk.proofs.Hearing.{line_then, heard_begun}

-- an entry's line came first
came_entry : (line : List ℕ) (e : Entry) (come rest : List ℕ) → ReadsEntry line e → come ≡ line ++ 10 ∷ rest → come ≡ entry_line e ++ rest
came_entry line e come rest r h = h ∙ line_then line rest ∙ ap (λ (x : List ℕ). ended x ++ rest) r.spelled

printed_entry : (line : List ℕ) (e : Entry) (o p : Option (List ℕ)) → ReadsEntry line e → Appends o p (ended line) → Appends o p (entry_line e)
printed_entry line e o p r a = subst (λ (x : List ℕ). Appends o p (ended x)) r.spelled a

begun_then : (line old mid : List ℕ) (o p q : Option (List ℕ)) (u v w : Wire) → HasHeard old mid o p (Ok line) u v → HasBegun mid p q v w → HasBegun old o q u w
begun_then line old mid o p q u v w h b =
    (b.0 ∙ h.2, subst (λ (x : List ℕ). Begins x o q) (sym (h.1 ∙ line_then line (mid ++ v.left))) (begins_second (ended line) (mid ++ v.left) o p q h.3 b.1))

why_before : (stop : Stop) (line : List ℕ) (e : Entry) (r s : Following) (come rest left : List ℕ) → ReadsEntry line e → IsNext r.board r.weight e → s ≡ followed r e → come ≡ line ++ 10 ∷ rest
    → WhyNoAnswer stop s rest left → WhyNoAnswer stop r come left
why_before stops.Ended line e r s come rest left reads next is h w = record {
  entries = e ∷ w.entries;
  tail = w.tail;
  formed = (reads.formed, w.formed);
  read = came_entry line e come rest reads h ∙ ap (λ (x : List ℕ). entry_line e ++ x) w.read ∙ sym (append_assoc (entry_line e) (flat_map entry_line w.entries) w.tail);
  unended = w.unended;
  all = w.all;
}
why_before stops.Refused line e r s come rest left reads next is h w = record {
  entries = e ∷ w.entries;
  line = w.line;
  rest = w.rest;
  then_ = w.then_;
  formed = (reads.formed, w.formed);
  read = came_entry line e come rest reads h ∙ ap (λ (x : List ℕ). entry_line e ++ x) w.read ∙ sym (append_assoc (entry_line e) (flat_map entry_line w.entries) (w.line ++ 10 ∷ w.rest));
  unended = w.unended;
  follows = (next, subst (λ (x : Following). FollowsAll x w.entries w.then_) is w.follows);
  refused = w.refused;
}
why_before stops.Link line e r s come rest left reads next is h w = tt
why_before stops.Out line e r s come rest left reads next is h w = tt
why_before stops.Memory line e r s come rest left reads next is h w = tt

pub answer_before : (line : List ℕ) (e : Entry) (old mid new : List ℕ) (r s t : Following) (o p q : Option (List ℕ)) (res : Result Goes Stop) (u v w : Wire)
    → HasHeard old mid o p (Ok line) u v → ReadsEntry line e → IsNext r.board r.weight e → s ≡ followed r e → HasAnswer mid new s t p q res v w → HasAnswer old new r t o q res u w
answer_before line e old mid new r s t o p q (Ok g) u v w h reads next is a =
    let text : List ℕ = flat_map entry_line a.entries in
    let whole : flat_map entry_line (e ∷ a.entries) ++ ended a.answer ≡ entry_line e ++ (text ++ ended a.answer) = append_assoc (entry_line e) text (ended a.answer) in
    record {
      entries = e ∷ a.entries;
      answer = a.answer;
      formed = (reads.formed, a.formed);
      unended = a.unended;
      is = a.is;
      read = came_entry line e (old ++ u.left) (mid ++ v.left) reads h.1 ∙ ap (λ (x : List ℕ). entry_line e ++ x) a.read
          ∙ sym (append_assoc (entry_line e) (text ++ ended a.answer) (new ++ w.left)) ∙ ap (λ (x : List ℕ). x ++ (new ++ w.left)) (sym whole);
      written = a.written ∙ h.2;
      printed = subst (λ (x : List ℕ). Appends o q x) (sym whole) (appends_then o p q (entry_line e) (text ++ ended a.answer) (printed_entry line e o p reads h.3) a.printed);
      follows = (next, subst (λ (x : Following). FollowsAll x a.entries t) is a.follows);
    }
answer_before line e old mid new r s t o p q (Err stop) u v w h reads next is a =
    (begun_then line old mid o p q u v w h a.0, why_before stop line e r s (old ++ u.left) (mid ++ v.left) w.left reads next is h.1 a.1)

pub answered_now : (g : Goes) (line old new : List ℕ) (r s : Following) (o p : Option (List ℕ)) (u v : Wire) → HasHeard old new o p (Ok line) u v → IsAnswer g line → s ≡ r → HasAnswer old new r s o p (Ok g) u v
answered_now g line old new r s o p u v h is same = record {
  entries = [];
  answer = line;
  formed = tt;
  unended = h.0;
  is = is;
  read = h.1 ∙ line_then line (new ++ v.left);
  written = h.2;
  printed = h.3;
  follows = same;
}

pub heard_stops : (stop : Stop) (old new : List ℕ) (r s : Following) (o p : Option (List ℕ)) (u v : Wire) → HasHeard old new o p (Err stop) u v → HasAnswer old new r s o p (Err stop) u v
heard_stops stops.Ended old new r s o p u v h = (h.2, record { entries = []; tail = old ++ u.left; formed = tt; read = refl; unended = h.0; all = h.1 })
heard_stops stops.Link old new r s o p u v h = (h, tt)
heard_stops stops.Memory old new r s o p u v h = (h, tt)
heard_stops stops.Out old new r s o p u v h = (h, tt)
heard_stops stops.Refused old new r s o p u v h = absurd h

pub taken_stops : (stop : Stop) (line old new : List ℕ) (r s : Following) (o p : Option (List ℕ)) (u v : Wire) → HasHeard old new o p (Ok line) u v → HasTaken line r s (Err stop) → HasAnswer old new r s o p (Err stop) u v
taken_stops stops.Refused line old new r s o p u v h no_ =
    (heard_begun line old new o p u v h, record { entries = []; line = line; rest = new ++ v.left; then_ = r; formed = tt; read = h.1; unended = h.0; follows = refl; refused = no_ })
taken_stops stops.Memory line old new r s o p u v h no_ = (heard_begun line old new o p u v h, tt)
taken_stops stops.Ended line old new r s o p u v h no_ = absurd no_
taken_stops stops.Link line old new r s o p u v h no_ = absurd no_
taken_stops stops.Out line old new r s o p u v h no_ = absurd no_

-- an entry that the replica can't take
pub entry_refused : (line : List ℕ) (e : Entry) (r s : Following) (stop : Stop) → ReadsEntry line e → HasFollowed {T = Unit {0}} r e s (Err stop) → HasTaken line r s (Err stop)
entry_refused line e r s stops.Refused reads h = inr (e, reads, h)
entry_refused line e r s stops.Memory reads h = tt
entry_refused line e r s stops.Ended reads h = absurd h
entry_refused line e r s stops.Link reads h = absurd h
entry_refused line e r s stops.Out reads h = absurd h

pub not_hello : (line old new : List ℕ) (o p : Option (List ℕ)) (u v : Wire) → HasHeard old new o p (Ok line) u v → (IsHello line → ⊥) → HasGreeted {T = Unit {0}} old new o p (Err stops.Refused) u v
not_hello line old new o p u v h none = ((line, new ++ v.left, h.0, h.1, none), heard_begun line old new o p u v h)
