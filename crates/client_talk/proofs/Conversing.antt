-- The line that greets, the talk, and the board's line.
use Rattle.std.proofs.Common.{◌≡◌, inl, inr, ℕ, List, [], ◌++◌, length, Option, Result, Ok, Err, refl, sym, ap, subst, ◌∙◌, append_assoc}
use Rattle.std.specs.List.{flat_map}
use Rattle.layout_io.specs.Links.{Wire}
use Rattle.session_wire.specs.Kept.{ended}
use Rattle.client_replica.specs.Replicas.{Following}
use Rattle.client_talk.specs.declared.stop.Stop.{Stop}
use Rattle.client_talk.specs.declared.stop.Stop.TheVariants as stops
use Rattle.client_talk.specs.Hears.{Begins, HasPrinted}
use Rattle.client_talk.specs.Talks.{turn_text, HasGreeted, Talked, HasTalked, board_line, Heard, StopsAtBoard, HasConversed}
use Rattle.client_talk.proofs.Prints.{appends_then, begins_second}
use Rattle.client_talk.proofs.Hearing.{line_then}

pub greeted_stops : (stop : Stop) (lines : List (List ℕ)) (new : List ℕ) (r s : Following) (o p : Option (List ℕ)) (u v : Wire) → HasGreeted {T = Unit {0}} [] new o p (Err stop) u v → HasConversed {T = Unit {0}} lines r s o p (Err stop) u v
greeted_stops stops.Ended lines new r s o p u v h = inl (record { written = h.2.0; printed = h.2.1; why = (h.0, h.1) })
greeted_stops stops.Refused lines new r s o p u v h = inl (record { written = h.1.0; printed = h.1.1; why = h.0 })
greeted_stops stops.Link lines new r s o p u v h = inl (record { written = h.0; printed = h.1; why = tt })
greeted_stops stops.Out lines new r s o p u v h = inl (record { written = h.0; printed = h.1; why = tt })
greeted_stops stops.Memory lines new r s o p u v h = inl (record { written = h.0; printed = h.1; why = tt })

pub talk_stops : (x : Unit {0}) (stop : Stop) (lines : List (List ℕ)) (mid new : List ℕ) (r s s' : Following) (o p q : Option (List ℕ)) (u v w : Wire)
    → HasGreeted {T = Unit {0}} [] mid o p (Ok x) u v → HasTalked {T = Unit {0}} lines mid new r s p q (Err stop) v w → HasConversed {T = Unit {0}} lines r s' o q (Err stop) u w
talk_stops x stop lines mid new r s s' o p q u v w g t =
    let came : u.left ≡ ended g.0 ++ (mid ++ v.left) = g.2 ∙ line_then g.0 (mid ++ v.left) in
    inr (inl (record {
      hello = g.0;
      is_hello = g.1;
      later = mid ++ v.left;
      read = came;
      most = t.most;
      is_most = t.is_most;
      front = t.front;
      back = t.back;
      parts = t.parts;
      written = t.written ∙ ap (λ (z : List ℕ). z ++ t.front) g.3;
      printed = subst (λ (z : List ℕ). Begins z o q) (sym came) (begins_second (ended g.0) (mid ++ v.left) o p q g.4 t.printed);
      why = t.why;
    }))

-- all up to the board's line
heard : (x : Unit {0}) (lines : List (List ℕ)) (mid new : List ℕ) (r s : Following) (o p q : Option (List ℕ)) (u v w : Wire) (g : HasGreeted {T = Unit {0}} [] mid o p (Ok x) u v) (t : Talked lines mid new r s p q v w)
    → Heard lines r s u w (ended g.0 ++ flat_map turn_text t.turns)
heard x lines mid new r s o p q u v w g t = record {
  hello = g.0;
  is_hello = g.1;
  turns = t.turns;
  sent = t.sent;
  rest = new ++ w.left;
  says = t.says;
  written = t.written ∙ ap (λ (z : List ℕ). z ++ flat_map ended t.sent) g.3;
  read = g.2 ∙ line_then g.0 (mid ++ v.left) ∙ ap (λ (z : List ℕ). ended g.0 ++ z) t.read ∙ sym (append_assoc (ended g.0) (flat_map turn_text t.turns) (new ++ w.left));
  shown_is = refl;
  follows = t.follows;
}

board_begun : (x : Unit {0}) (lines : List (List ℕ)) (mid new : List ℕ) (r s : Following) (o p q q' : Option (List ℕ)) (u v w : Wire) (g : HasGreeted {T = Unit {0}} [] mid o p (Ok x) u v) (t : Talked lines mid new r s p q v w)
    → Begins (board_line s.board.count (length s.board.live)) q q' → StopsAtBoard lines r s o q' u w
board_begun x lines mid new r s o p q q' u v w g t b = record {
  shown = ended g.0 ++ flat_map turn_text t.turns;
  heard = heard x lines mid new r s o p q u v w g t;
  printed = begins_second (ended g.0 ++ flat_map turn_text t.turns) (board_line s.board.count (length s.board.live)) o q q' (appends_then o p q (ended g.0) (flat_map turn_text t.turns) g.4 t.printed) b;
}

pub board_stops : (x : Unit {0}) (y : Unit {0}) (stop : Stop) (lines : List (List ℕ)) (mid new : List ℕ) (r s : Following) (o p q q' : Option (List ℕ)) (u v w : Wire)
    → HasGreeted {T = Unit {0}} [] mid o p (Ok x) u v → HasTalked {T = Unit {0}} lines mid new r s p q (Ok y) v w → HasPrinted {T = Unit {0}} (board_line s.board.count (length s.board.live)) q q' (Err stop) → HasConversed {T = Unit {0}} lines r s o q' (Err stop) u w
board_stops x y stops.Out lines mid new r s o p q q' u v w g t b = inr (inr (board_begun x lines mid new r s o p q q' u v w g t b))
board_stops x y stops.Memory lines mid new r s o p q q' u v w g t b = inr (inr (board_begun x lines mid new r s o p q q' u v w g t b))
board_stops x y stops.Link lines mid new r s o p q q' u v w g t b = absurd b
board_stops x y stops.Ended lines mid new r s o p q q' u v w g t b = absurd b
board_stops x y stops.Refused lines mid new r s o p q q' u v w g t b = absurd b

pub conversed : (x : Unit {0}) (y : Unit {0}) (z : Unit {0}) (a : Unit {0}) (lines : List (List ℕ)) (mid new : List ℕ) (r s : Following) (o p q q' : Option (List ℕ)) (u v w : Wire)
    → HasGreeted {T = Unit {0}} [] mid o p (Ok x) u v → HasTalked {T = Unit {0}} lines mid new r s p q (Ok y) v w → HasPrinted {T = Unit {0}} (board_line s.board.count (length s.board.live)) q q' (Ok z) → HasConversed {T = Unit {0}} lines r s o q' (Ok a) u w
conversed x y z a lines mid new r s o p q q' u v w g t b = record {
  shown = ended g.0 ++ flat_map turn_text t.turns;
  heard = heard x lines mid new r s o p q u v w g t;
  printed = appends_then o q q' (ended g.0 ++ flat_map turn_text t.turns) (board_line s.board.count (length s.board.live)) (appends_then o p q (ended g.0) (flat_map turn_text t.turns) g.4 t.printed) b;
}

pub board_result : (x : Unit {0}) (y : Unit {0}) (res : Result (Unit {0}) Stop) (lines : List (List ℕ)) (mid new : List ℕ) (r s : Following) (o p q q' : Option (List ℕ)) (u v w : Wire)
    → HasGreeted {T = Unit {0}} [] mid o p (Ok x) u v → HasTalked {T = Unit {0}} lines mid new r s p q (Ok y) v w → HasPrinted {T = Unit {0}} (board_line s.board.count (length s.board.live)) q q' res → HasConversed {T = Unit {0}} lines r s o q' res u w
board_result x y (Ok z) lines mid new r s o p q q' u v w g t b = conversed x y z z lines mid new r s o p q q' u v w g t b
board_result x y (Err stop) lines mid new r s o p q q' u v w g t b = board_stops x y stop lines mid new r s o p q q' u v w g t b
