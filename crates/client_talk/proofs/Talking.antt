-- The lines of a file, one more in front at a time.
use Rattle.std.proofs.Common.{◌≡◌, ◌≢◌, ◌⊎◌, inl, inr, ℕ, Bool, true, false, List, [], ◌∷◌, ◌++◌, map, Option, Result, Ok, Err, refl, sym, ap, subst, ◌∙◌, append_assoc}
use Rattle.std.specs.Str.{bytes_eq}
use Rattle.std.specs.Io.KnownBytes.{Appends}
use Rattle.std.specs.List.{flat_map}
use Rattle.std.proofs.lemmas.List.{append-nil}
use Rattle.std.proofs.lemmas.Slice.Eq.{bytes_eq-Decides}
use Rattle.layout_io.specs.Links.{Wire, IsSent}
use Rattle.board_items.specs.declared.history.Entry.{Entry}
use Rattle.session_wire.specs.Kept.{ended}
use Rattle.answer_lines.specs.declared.answers.Goes.{Goes}
use Rattle.answer_lines.specs.declared.answers.Goes.TheVariants as goes
use Rattle.client_replica.specs.Replicas.{Following, followed, FollowsAll}
use Rattle.client_talk.specs.declared.stop.Stop.{Stop}
use Rattle.client_talk.specs.declared.stop.Stop.TheVariants as stops
use Rattle.client_talk.specs.Hears.{Begins, SentFront, HasSaid}
use Rattle.client_talk.specs.Lines.{bye, IsMost}
use Rattle.client_talk.specs.Talks.{Turn, turn_text, line_of, entries_of, IsOpen, Says, Talked, WhyNoAnswer, Answered, HasAnswer, Exchanged, SaidBye, WhyBroken, HasTurned, WhyStopped, Stopped, HasTalked}
use Rattle.client_talk.proofs.Prints.{appends_none, appends_then, begins_second}
use Rattle.client_talk.proofs.Hearing.{begins_none}

-- ---- one turn

pub said_stops : (stop : Stop) (line old : List ℕ) (r : Following) (o : Option (List ℕ)) (u v : Wire) → HasSaid {T = Unit {0}} (ended line) (Err stop) u v → HasTurned line old old r r o o (Err stop) u v
said_stops stops.Link line old r o u v h = (record { front = h.0; back = h.1; parts = h.2; written = h.3.sent; printed = begins_none (old ++ u.left) o }, tt)
said_stops stops.Memory line old r o u v h = (record { front = h.0; back = h.1; parts = h.2; written = h.3.sent; printed = begins_none (old ++ u.left) o }, tt)
said_stops stops.Out line old r o u v h = absurd h
said_stops stops.Ended line old r o u v h = absurd h
said_stops stops.Refused line old r o u v h = absurd h

pub said_bye : (line old : List ℕ) (r : Following) (o : Option (List ℕ)) (u v : Wire) → HasSaid {T = Unit {0}} (ended line) (Ok tt) u v → line ≡ bye → HasTurned line old old r r o o (Ok goes.Last) u v
said_bye line old r o u v h e = inl (record { line_is = e; read = refl; sent = subst (λ (x : List ℕ). IsSent (ended x) u v) e h; printed = refl; follows = refl })

-- what was to come stays to come
left_same : (old : List ℕ) (x : List ℕ) (u v : Wire) → IsSent x u v → old ++ v.left ≡ old ++ u.left
left_same old x u v s = ap (λ (y : List ℕ). old ++ y) s.left

exchanged : (g : Goes) (line old new : List ℕ) (r s : Following) (o p : Option (List ℕ)) (u v w : Wire) → IsSent (ended line) u v → line ≢ bye → Answered g old new r s o p v w → Exchanged g line old new r s o p u w
exchanged g line old new r s o p u v w sent apart a = record {
  turn = record { line = line; entries = a.entries; answer = a.answer };
  line_is = refl;
  is_turn = record { line_is = apart; formed = a.formed; unended = a.unended };
  is = a.is;
  read = sym (left_same old (ended line) u v sent) ∙ a.read;
  written = a.written ∙ sent.sent;
  printed = a.printed;
  follows = a.follows;
}

why_broken : (stop : Stop) (line : List ℕ) (r : Following) (come left : List ℕ) → line ≢ bye → WhyNoAnswer stop r come left → WhyBroken stop line r come left
why_broken stops.Ended line r come left apart w = (apart, w)
why_broken stops.Refused line r come left apart w = (apart, w)
why_broken stops.Link line r come left apart w = tt
why_broken stops.Out line r come left apart w = tt
why_broken stops.Memory line r come left apart w = tt

pub turned : (line old new : List ℕ) (r s : Following) (o p : Option (List ℕ)) (res : Result Goes Stop) (u v w : Wire) → IsSent (ended line) u v → line ≢ bye → HasAnswer old new r s o p res v w → HasTurned line old new r s o p res u w
turned line old new r s o p (Ok goes.On) u v w sent apart a = exchanged goes.On line old new r s o p u v w sent apart a
turned line old new r s o p (Ok goes.Last) u v w sent apart a = inr (exchanged goes.Last line old new r s o p u v w sent apart a)
turned line old new r s o p (Err stop) u v w sent apart a =
    let same = left_same old (ended line) u v sent in (
      record { front = ended line; back = []; parts = sym (append-nil (ended line)); written = a.0.0 ∙ sent.sent; printed = subst (λ (x : List ℕ). Begins x o p) same a.0.1 },
      why_broken stop line r (old ++ u.left) w.left apart (subst (λ (x : List ℕ). WhyNoAnswer stop r x w.left) same a.1),
    )

-- ---- the most that is sent

by_test : (line : List ℕ) (test : Bool) → bytes_eq line bye ≡ test → (line ≡ bye) ⊎ (line ≢ bye)
by_test line true e = inl ((bytes_eq-Decides line bye).0 e)
by_test line false e = inr (λ same. let t = (bytes_eq-Decides line bye).1 same in absurd cc)

pub is_bye : (line : List ℕ) → (line ≡ bye) ⊎ (line ≢ bye)
is_bye line = by_test line (bytes_eq line bye) refl

pub most_more : (line : List ℕ) (lines most : List (List ℕ)) → line ≢ bye → IsMost lines most → IsMost (line ∷ lines) (line ∷ most)
most_more line lines most apart m = record {
  before = line ∷ m.before;
  rest = m.rest;
  none = (apart, m.none);
  sent_is = ap (λ (x : List (List ℕ)). line ∷ x) m.sent_is;
  parts = elim m.parts [ inl e ↦ inl (ap (λ (x : List (List ℕ)). line ∷ x) e) | inr e ↦ inr (ap (λ (x : List (List ℕ)). line ∷ x) e) ];
}

pub most_none : IsMost [] (bye ∷ [])
most_none = record { before = []; rest = []; none = tt; sent_is = refl; parts = inl refl }

most_bye : (line : List ℕ) (lines : List (List ℕ)) → line ≡ bye → IsMost (line ∷ lines) (line ∷ [])
most_bye line lines e = record { before = []; rest = lines; none = tt; sent_is = ap (λ (x : List ℕ). x ∷ []) e; parts = inr (ap (λ (x : List ℕ). x ∷ lines) e) }

-- any lines have a most
pub most_of : (lines : List (List ℕ)) → (most : List (List ℕ)) × IsMost lines most
most_of [] = (bye ∷ [], most_none)
most_of (line ∷ lines) = elim (is_bye line) [
  | inl e ↦ (line ∷ [], most_bye line lines e)
  | inr apart ↦ let more = most_of lines in (line ∷ more.0, most_more line lines more.0 apart more.1)
]

-- it begins with the first line
most_from : (line : List ℕ) (lines : List (List ℕ)) → (more : List (List ℕ)) × IsMost (line ∷ lines) (line ∷ more)
most_from line lines = elim (is_bye line) [
  | inl e ↦ ([], most_bye line lines e)
  | inr apart ↦ let more = most_of lines in (more.0, most_more line lines more.0 apart more.1)
]

-- ---- one line more

pub follows_append : (xs ys : List Entry) (r s t : Following) → FollowsAll r xs s → FollowsAll s ys t → FollowsAll r (xs ++ ys) t
follows_append [] ys r s t p q = subst (λ (x : Following). FollowsAll x ys t) p q
follows_append (e ∷ xs) ys r s t p q = (p.0, follows_append xs ys (followed r e) s t p.1 q)

-- a turn behind which the talk goes on
open_turn : (line old new : List ℕ) (r s : Following) (o p : Option (List ℕ)) (u v : Wire) (x : Exchanged goes.On line old new r s o p u v) → IsOpen x.turn
open_turn line old new r s o p u v x = (x.is_turn, x.is)

cons_line : (line : List ℕ) (t : Turn) (lines rest : List (List ℕ)) → t.line ≡ line → lines ≡ rest → line ∷ lines ≡ line_of t ∷ rest
cons_line line t lines rest e f = ap (λ (x : List ℕ). x ∷ lines) (sym e) ∙ ap (λ (x : List (List ℕ)). t.line ∷ x) f

says_more : (line : List ℕ) (t : Turn) (lines : List (List ℕ)) (turns : List Turn) (sent : List (List ℕ)) → t.line ≡ line → IsOpen t → Says lines turns sent → Says (line ∷ lines) (t ∷ turns) (line ∷ sent)
says_more line t lines turns sent e open_ says = elim says [
  | inl a ↦ inl (record { open_ = (open_, a.open_); lines_are = cons_line line t lines (map line_of turns) e a.lines_are; sent_is = cons_line line t sent (map line_of turns ++ bye ∷ []) e a.sent_is })
  | inr h ↦ elim h [
    | inl b ↦ inr (inl (record { rest = b.rest; open_ = (open_, b.open_); lines_are = cons_line line t lines (map line_of turns ++ bye ∷ b.rest) e b.lines_are; sent_is = cons_line line t sent (map line_of turns ++ bye ∷ []) e b.sent_is }))
    | inr l ↦ inr (inr (record { before = t ∷ l.before; last = l.last; rest = l.rest; parts = ap (λ (x : List Turn). t ∷ x) l.parts; open_ = (open_, l.open_); closing = l.closing; lines_are = cons_line line t lines (map line_of turns ++ l.rest) e l.lines_are; sent_is = cons_line line t sent (map line_of turns) e l.sent_is }))
  ]
]

why_stopped : (stop : Stop) (line old mid : List ℕ) (lines : List (List ℕ)) (r s : Following) (o p : Option (List ℕ)) (u v : Wire) (left : List ℕ) → Exchanged goes.On line old mid r s o p u v → WhyStopped stop lines s (mid ++ v.left) left → WhyStopped stop (line ∷ lines) r (old ++ u.left) left
why_stopped stops.Ended line old mid lines r s o p u v left x w = record {
  turns = x.turn ∷ w.turns;
  line = w.line;
  rest = w.rest;
  follower = w.follower;
  later = w.later;
  open_ = ((x.is_turn, x.is), w.open_);
  lines_are = cons_line line x.turn lines (map line_of w.turns ++ w.line ∷ w.rest) x.line_is w.lines_are;
  line_is = w.line_is;
  read = x.read ∙ ap (λ (y : List ℕ). turn_text x.turn ++ y) w.read ∙ sym (append_assoc (turn_text x.turn) (flat_map turn_text w.turns) w.later);
  follows = follows_append x.turn.entries (flat_map entries_of w.turns) r s w.follower x.follows w.follows;
  ends = w.ends;
}
why_stopped stops.Refused line old mid lines r s o p u v left x w = record {
  turns = x.turn ∷ w.turns;
  line = w.line;
  rest = w.rest;
  follower = w.follower;
  later = w.later;
  open_ = ((x.is_turn, x.is), w.open_);
  lines_are = cons_line line x.turn lines (map line_of w.turns ++ w.line ∷ w.rest) x.line_is w.lines_are;
  line_is = w.line_is;
  read = x.read ∙ ap (λ (y : List ℕ). turn_text x.turn ++ y) w.read ∙ sym (append_assoc (turn_text x.turn) (flat_map turn_text w.turns) w.later);
  follows = follows_append x.turn.entries (flat_map entries_of w.turns) r s w.follower x.follows w.follows;
  refuses = w.refuses;
}
why_stopped stops.Link line old mid lines r s o p u v left x w = tt
why_stopped stops.Out line old mid lines r s o p u v left x w = tt
why_stopped stops.Memory line old mid lines r s o p u v left x w = tt

pub talked_before : (line old mid new : List ℕ) (lines : List (List ℕ)) (r s t : Following) (o p q : Option (List ℕ)) (res : Result (Unit {0}) Stop) (u v w : Wire)
    → HasTurned line old mid r s o p (Ok goes.On) u v → HasTalked lines mid new s t p q res v w → HasTalked (line ∷ lines) old new r t o q res u w
talked_before line old mid new lines r s t o p q (Ok y) u v w x a = record {
  turns = x.turn ∷ a.turns;
  sent = line ∷ a.sent;
  says = says_more line x.turn lines a.turns a.sent x.line_is (x.is_turn, x.is) a.says;
  written = a.written ∙ ap (λ (z : List ℕ). z ++ flat_map ended a.sent) x.written ∙ append_assoc u.written (ended line) (flat_map ended a.sent);
  read = x.read ∙ ap (λ (z : List ℕ). turn_text x.turn ++ z) a.read ∙ sym (append_assoc (turn_text x.turn) (flat_map turn_text a.turns) (new ++ w.left));
  printed = appends_then o p q (turn_text x.turn) (flat_map turn_text a.turns) x.printed a.printed;
  follows = follows_append x.turn.entries (flat_map entries_of a.turns) r s t x.follows a.follows;
}
talked_before line old mid new lines r s t o p q (Err stop) u v w x a =
    let apart : line ≢ bye = λ e. x.is_turn.line_is (x.line_is ∙ e) in
    record {
      most = line ∷ a.most;
      is_most = most_more line lines a.most apart a.is_most;
      front = ended line ++ a.front;
      back = a.back;
      parts = ap (λ (z : List ℕ). ended line ++ z) a.parts ∙ sym (append_assoc (ended line) a.front a.back);
      written = a.written ∙ ap (λ (z : List ℕ). z ++ a.front) x.written ∙ append_assoc u.written (ended line) a.front;
      printed = subst (λ (z : List ℕ). Begins z o q) (sym x.read) (begins_second (turn_text x.turn) (mid ++ v.left) o p q x.printed a.printed);
      why = why_stopped stop line old mid lines r s o p u v w.left x a.why;
    }

-- the last turn
last_bye : (line old new : List ℕ) (lines : List (List ℕ)) (r s : Following) (o p : Option (List ℕ)) (u v : Wire) → SaidBye line old new r s o p u v → Talked (line ∷ lines) old new r s o p u v
last_bye line old new lines r s o p u v b = record {
  turns = [];
  sent = bye ∷ [];
  says = inr (inl (record { rest = lines; open_ = tt; lines_are = ap (λ (x : List ℕ). x ∷ lines) b.line_is; sent_is = refl }));
  written = b.sent.sent;
  read = ap (λ (x : List ℕ). x ++ u.left) (sym b.read) ∙ ap (λ (x : List ℕ). new ++ x) (sym b.sent.left);
  printed = subst (λ (x : Option (List ℕ)). Appends o x []) (sym b.printed) (appends_none o);
  follows = b.follows;
}

last_answer : (line old new : List ℕ) (lines : List (List ℕ)) (r s : Following) (o p : Option (List ℕ)) (u v : Wire) → Exchanged goes.Last line old new r s o p u v → Talked (line ∷ lines) old new r s o p u v
last_answer line old new lines r s o p u v x =
    let text : flat_map turn_text (x.turn ∷ []) ≡ turn_text x.turn = append-nil (turn_text x.turn) in
    let taken : flat_map entries_of (x.turn ∷ []) ≡ x.turn.entries = append-nil x.turn.entries in
    record {
      turns = x.turn ∷ [];
      sent = line ∷ [];
      says = inr (inr (record { before = []; last = x.turn; rest = lines; parts = refl; open_ = tt; closing = (x.is_turn, x.is); lines_are = ap (λ (z : List ℕ). z ∷ lines) (sym x.line_is); sent_is = ap (λ (z : List ℕ). z ∷ []) (sym x.line_is) }));
      written = x.written ∙ ap (λ (z : List ℕ). u.written ++ z) (sym (append-nil (ended line)));
      read = x.read ∙ ap (λ (z : List ℕ). z ++ (new ++ v.left)) (sym text);
      printed = subst (λ (z : List ℕ). Appends o p z) (sym text) x.printed;
      follows = subst (λ (z : List Entry). FollowsAll r z s) (sym taken) x.follows;
    }

pub talked_last : (y : Unit {0}) (line old new : List ℕ) (lines : List (List ℕ)) (r s : Following) (o p : Option (List ℕ)) (u v : Wire) → HasTurned line old new r s o p (Ok goes.Last) u v → HasTalked (line ∷ lines) old new r s o p (Ok y) u v
talked_last y line old new lines r s o p u v h = elim h [ inl b ↦ last_bye line old new lines r s o p u v b | inr x ↦ last_answer line old new lines r s o p u v x ]

-- a turn that stopped
why_first : (stop : Stop) (line : List ℕ) (lines : List (List ℕ)) (r : Following) (come left : List ℕ) → WhyBroken stop line r come left → WhyStopped stop (line ∷ lines) r come left
why_first stops.Ended line lines r come left w = record { turns = []; line = line; rest = lines; follower = r; later = come; open_ = tt; lines_are = refl; line_is = w.0; read = refl; follows = refl; ends = w.1 }
why_first stops.Refused line lines r come left w = record { turns = []; line = line; rest = lines; follower = r; later = come; open_ = tt; lines_are = refl; line_is = w.0; read = refl; follows = refl; refuses = w.1 }
why_first stops.Link line lines r come left w = tt
why_first stops.Out line lines r come left w = tt
why_first stops.Memory line lines r come left w = tt

pub turn_stops : (stop : Stop) (line old new new' : List ℕ) (lines : List (List ℕ)) (r s s' : Following) (o p : Option (List ℕ)) (u v : Wire) → HasTurned line old new r s o p (Err stop) u v → HasTalked {T = Unit {0}} (line ∷ lines) old new' r s' o p (Err stop) u v
turn_stops stop line old new new' lines r s s' o p u v h =
    let most = most_from line lines in
    let more : List ℕ = flat_map ended most.0 in
    record {
      most = line ∷ most.0;
      is_most = most.1;
      front = h.0.front;
      back = h.0.back ++ more;
      parts = ap (λ (z : List ℕ). z ++ more) h.0.parts ∙ append_assoc h.0.front h.0.back more;
      written = h.0.written;
      printed = h.0.printed;
      why = why_first stop line lines r (old ++ u.left) v.left h.1;
    }

-- behind the last line
bye_text : flat_map ended (bye ∷ []) ≡ ended bye
bye_text = append-nil (ended bye)

pub talked_end : (y : Unit {0}) (old : List ℕ) (r : Following) (o : Option (List ℕ)) (u v : Wire) → HasSaid {T = Unit {0}} (ended bye) (Ok y) u v → HasTalked {T = Unit {0}} [] old old r r o o (Ok y) u v
talked_end y old r o u v h = record {
  turns = [];
  sent = bye ∷ [];
  says = inl (record { open_ = tt; lines_are = refl; sent_is = refl });
  written = h.sent;
  read = ap (λ (x : List ℕ). old ++ x) (sym h.left);
  printed = appends_none o;
  follows = refl;
}

end_front : (stop : Stop) (old : List ℕ) (r : Following) (o : Option (List ℕ)) (u v : Wire) → SentFront (ended bye) u v → WhyStopped stop [] r (old ++ u.left) v.left → Stopped stop [] old r o o u v
end_front stop old r o u v h why = record {
  most = bye ∷ [];
  is_most = most_none;
  front = h.0;
  back = h.1;
  parts = h.2;
  written = h.3.sent;
  printed = begins_none (old ++ u.left) o;
  why = why;
}

pub end_stops : (stop : Stop) (old : List ℕ) (r : Following) (o : Option (List ℕ)) (u v : Wire) → HasSaid {T = Unit {0}} (ended bye) (Err stop) u v → HasTalked {T = Unit {0}} [] old old r r o o (Err stop) u v
end_stops stops.Link old r o u v h = end_front stops.Link old r o u v h tt
end_stops stops.Memory old r o u v h = end_front stops.Memory old r o u v h tt
end_stops stops.Out old r o u v h = absurd h
end_stops stops.Ended old r o u v h = absurd h
end_stops stops.Refused old r o u v h = absurd h

pub said_result : (old : List ℕ) (r : Following) (o : Option (List ℕ)) (res : Result (Unit {0}) Stop) (u v : Wire) → HasSaid {T = Unit {0}} (ended bye) res u v → HasTalked {T = Unit {0}} [] old old r r o o res u v
said_result old r o (Ok y) u v h = talked_end y old r o u v h
said_result old r o (Err stop) u v h = end_stops stop old r o u v h
