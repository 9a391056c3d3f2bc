-- How a session stops where nothing more is said, how it begins, and the line `memory`.
use Rattle.std.proofs.Common.{◌≡◌, ◌≢◌, ℕ, List, [], ◌∷◌, ◌++◌, refl, sym, ap, ◌∙◌, append_assoc, arith, subst, inl, inr, Option, Some, None, Err}
use Rattle.std.specs.List.{AllByRecursion}
use Rattle.std.proofs.lemmas.List.{append-nil, append_cancel_left}
use Rattle.board_items.specs.declared.history.Entry.{Entry}
use Rattle.layout_io.specs.Links.{Wire, LinkTold, Across, IsSent}
use Rattle.desk_core.specs.declared.desk.Answer.{Answer}
use Rattle.session_loop.specs.declared.end.SessionEnd.{SessionEnd}
use Rattle.session_loop.specs.declared.end.SessionEnd.TheVariants as ends
use Rattle.session_loop.specs.declared.turn.Ahead.{Ahead}
use Rattle.session_loop.specs.Transcripts.{Reading, Asks, answered, transcript, asked_of, hello_line, memory_line}
use Rattle.session_loop.specs.Sessions.{IsShort, IsHeard, IsNotFull, LastMayBeFull, Starts, AreLines, Extends, Holds, HasWritten, Session, HasSession, IsTimely}
use Rattle.session_loop.specs.Turns.{Grew, NextAtMost}
use Rattle.session_loop.specs.Stops.{Start, Going, Stopped, WrittenBefore, SentFront, HasSaid, HasRead, HasTold, ToldMemory, IsSilent, HasStopCause, RisesAtFault, GreetTells, hello_turn}
use Rattle.session_loop.proofs.Goings.{rose_some}
use Rattle.session_loop.proofs.Wires.{holds_weaker, across_at, across_none}
use Rattle.session_loop.proofs.Lines.{heard_more, asked_more}
use Rattle.session_loop.proofs.Answering.{hello_lines}

-- what is written is the transcript of the lines so far
all_said : (s : Start) (bytes : List ℕ) (ahead : Ahead) (h : List Entry) (given : List Answer) (w : Wire) (g : Going s bytes ahead h given w) (journal : List Entry) → Extends h journal → transcript s.client s.clients journal (g.said ++ []) given ≡ w.written
all_said s bytes ahead h given w g journal ext =
    ap (λ (z : List Answer). transcript s.client s.clients journal (g.said ++ []) z) (sym (append-nil given)) ∙ sym (g.completes journal ext [] []) ∙ append-nil w.written

none_full : (given : List Answer) → AllByRecursion IsNotFull given → LastMayBeFull given
none_full given p = record { before = given; last = []; parts = sym (append-nil given); one = omega arith; others = p }

starts_all : (x y : List ℕ) → y ≡ x → Starts x y
starts_all x y e = ([], e ∙ sym (append-nil x))

extends_by : (h h' journal : List Entry) → Grew h h' → Extends h' journal → Extends h journal
extends_by h h' journal g ext = (g.0 ++ ext.0, ext.1 ∙ ap (λ (z : List Entry). z ++ ext.0) g.1 ∙ append_assoc h g.0 ext.0)

-- want of memory came where bytes were read or kept
pub stopped_here : (s : Start) (bytes : List ℕ) (ahead : Ahead) (h h' : List Entry) (given : List Answer) (w v : Wire) (writes : ℕ) (lacks : ℕ) (journal : List Entry) → Going s bytes ahead h given w → v.written ≡ w.written → Grew h h' → Extends h' journal → Stopped s writes lacks ends.Memory given journal v
stopped_here s bytes ahead h h' given w v writes lacks journal g same grew ext = record {
  lines = g.lines;
  said = g.said;
  over = [];
  rest = bytes ++ w.left;
  heard = g.heard;
  overlong = tt;
  stops = tt;
  asked = ([], g.asked ∙ sym (append-nil (asked_of given)), omega arith);
  full = none_full given g.not_full;
  written = (starts_all v.written _ (all_said s bytes ahead h given w g journal (extends_by h h' journal grew ext) ∙ sym same), λ e. subst AreLines (sym same) g.whole);
}

-- want of memory came at a line
pub stopped_next : (s : Start) (bytes : List ℕ) (ahead : Ahead) (h h' : List Entry) (old new : List Answer) (w : Wire) (writes : ℕ) (lacks : ℕ) (journal : List Entry) → Going s bytes ahead h old w → Grew h h' → NextAtMost bytes old new → Extends h' journal → Stopped s writes lacks ends.Memory new journal w
stopped_next s bytes ahead h h' old new w writes lacks journal g grew at_most ext =
    elim at_most [
      | inl e ↦ subst (λ (given : List Answer). Stopped s writes lacks ends.Memory given journal w) (sym e) (stopped_here s bytes ahead h h' old w w writes lacks journal g refl grew ext)
      | inr m ↦
          let a = m.0 in
          let r : Reading = Asks a.request in
          let whole : transcript s.client s.clients journal ((g.said ++ r ∷ []) ++ []) new ≡ w.written ++ answered journal g.count (r ∷ []) (a ∷ []) =
          ap (λ (z : List Reading). transcript s.client s.clients journal z new) (append-nil (g.said ++ r ∷ []))
          ∙ ap (λ (z : List Answer). transcript s.client s.clients journal (g.said ++ r ∷ []) z) m.3
          ∙ sym (g.completes journal (extends_by h h' journal grew ext) (r ∷ []) (a ∷ [])) in
          record {
            lines = g.lines ++ m.1 ∷ [];
            said = g.said ++ r ∷ [];
            over = [];
            rest = m.2 ++ w.left;
            heard = heard_more s.input g.lines g.said m.1 r bytes m.2 w.left g.heard m.5 m.4 m.6;
            overlong = tt;
            stops = tt;
            asked = ([], asked_more g.said r old (a ∷ []) new g.asked refl m.3 ∙ sym (append-nil (asked_of new)), omega arith);
            full = record { before = old; last = a ∷ []; parts = m.3; one = omega arith; others = g.not_full };
            written = ((answered journal g.count (r ∷ []) (a ∷ []), whole), λ e. g.whole);
          }
    ]

-- the input ended
pub stopped_ended : (s : Start) (bytes : List ℕ) (ahead : Ahead) (h : List Entry) (given : List Answer) (w v : Wire) (writes : ℕ) (lacks : ℕ) (journal : List Entry) → Going s bytes ahead h given w → IsShort bytes → w.left ≡ [] → v ≡ w → Extends h journal → Stopped s writes lacks ends.EndOfInput given journal v
stopped_ended s bytes ahead h given w v writes lacks journal g short none same ext =
    let rest : bytes ≡ bytes ++ w.left = sym (ap (λ (z : List ℕ). bytes ++ z) none ∙ append-nil bytes) in
    record {
      lines = g.lines;
      said = g.said;
      over = [];
      rest = bytes ++ w.left;
      heard = g.heard;
      overlong = tt;
      stops = (g.open_, refl, subst IsShort rest short, ap (λ (x : Wire). x.left) same ∙ none);
      asked = g.asked;
      full = g.not_full;
      written = ap (λ (x : Wire). x.written) same ∙ sym (all_said s bytes ahead h given w g journal ext);
    }

-- a read failed
pub stopped_read : (s : Start) (bytes : List ℕ) (ahead : Ahead) (h : List Entry) (given : List Answer) (w v : Wire) (writes : ℕ) (lacks : ℕ) (journal : List Entry) → Going s bytes ahead h given w → IsShort bytes → v ≡ w → Extends h journal → Stopped s writes lacks ends.LinkFault given journal v
stopped_read s bytes ahead h given w v writes lacks journal g short same ext =
    let all : v.written ≡ transcript s.client s.clients journal (g.said ++ []) given = ap (λ (x : Wire). x.written) same ∙ sym (all_said s bytes ahead h given w g journal ext) in
    record {
      lines = g.lines;
      said = g.said;
      over = [];
      rest = bytes ++ w.left;
      heard = g.heard;
      overlong = tt;
      stops = λ e. (record { part = bytes; unended = short.0; follows = ap (λ (x : Wire). bytes ++ x.left) (sym same) }, refl);
      asked = g.asked;
      full = none_full given g.not_full;
      written = (starts_all v.written _ (sym all), λ e. all);
    }

-- more bytes were read
pub read_more : (s : Start) (bytes bytes' : List ℕ) (ahead : Ahead) (h : List Entry) (given : List Answer) (w v : Wire) → Going s bytes ahead h given w → bytes ++ w.left ≡ bytes' ++ v.left → v.written ≡ w.written → Going s bytes' ahead h given v
read_more s bytes bytes' ahead h given w v g moved same = record {
  lines = g.lines;
  said = g.said;
  count = g.count;
  heard = subst (λ (rest : List ℕ). IsHeard s.input g.lines g.said rest) moved g.heard;
  open_ = g.open_;
  asked = g.asked;
  not_full = g.not_full;
  ahead_of = g.ahead_of;
  whole = subst AreLines (sym same) g.whole;
  completes = λ journal ext said later. ap (λ (z : List ℕ). z ++ answered journal g.count said later) same ∙ g.completes journal ext said later;
}

-- the greeting went out
pub greeted : (s : Start) (w v : Wire) → w.left ≡ s.input → w.written ≡ [] → IsSent (hello_line s.client s.clients) w v → Going s [] (record { count = 0; lines = [] }) [] [] v
greeted s w v input none sent =
    let written : v.written ≡ hello_line s.client s.clients = sent.sent ∙ ap (λ (z : List ℕ). z ++ hello_line s.client s.clients) none in
    record {
      lines = [];
      said = [];
      count = 0;
      heard = record { cut = sym (sent.left ∙ input); short = tt; says = tt };
      open_ = tt;
      asked = refl;
      not_full = tt;
      ahead_of = record { counted = refl; within = omega arith; kept = refl };
      whole = subst AreLines (sym written) (hello_lines s.client s.clients);
      completes = λ journal ext said later. ap (λ (z : List ℕ). z ++ answered journal 0 said later) written;
    }

-- the greeting didn't go out whole
pub ungreeted : (s : Start) (w v : Wire) (journal : List Entry) → w.written ≡ [] → SentFront (hello_line s.client s.clients) w v → Starts v.written (transcript s.client s.clients journal [] [])
ungreeted s w v journal none f =
    (f.1, append-nil (hello_line s.client s.clients) ∙ f.2 ∙ ap (λ (z : List ℕ). z ++ f.1) (sym (f.3.sent ∙ ap (λ (z : List ℕ). z ++ f.0) none)))

pub greet_fault : (s : Start) (w v : Wire) (writes : ℕ) (lacks : ℕ) (journal : List Entry) → w.left ≡ s.input → w.written ≡ [] → SentFront (hello_line s.client s.clients) w v → writes ≢ 0 → Stopped s writes lacks ends.LinkFault [] journal v
greet_fault s w v writes lacks journal input none f some = record {
  lines = [];
  said = [];
  over = [];
  rest = s.input;
  heard = record { cut = refl; short = tt; says = tt };
  overlong = tt;
  stops = λ e. absurd (some e);
  asked = refl;
  full = none_full [] tt;
  written = (ungreeted s w v journal none f, λ e. absurd (some e));
}

pub greet_out : (s : Start) (w v : Wire) (writes : ℕ) (lacks : ℕ) (journal : List Entry) → w.written ≡ [] → SentFront (hello_line s.client s.clients) w v → (lacks ≡ 0 → AreLines v.written) → Stopped s writes lacks ends.Memory [] journal v
greet_out s w v writes lacks journal none f lines_if = record {
  lines = [];
  said = [];
  over = [];
  rest = s.input;
  heard = record { cut = refl; short = tt; says = tt };
  overlong = tt;
  stops = tt;
  asked = ([], refl, omega arith);
  full = none_full [] tt;
  written = (ungreeted s w v journal none f, lines_if);
}

-- the line `memory`, or a front of it, after a session that stopped for want of memory
told_memory : (s : Start) (l m : LinkTold) (given : List Answer) (journal : List Entry) (w v : Wire) → l.wire ≡ Some w → m.wire ≡ Some v → m.read_faults ≡ 0 → Stopped s l.write_faults l.shortages ends.Memory given journal w → ToldMemory l m
    → Session s.client s.clients s.input v m.read_faults m.write_faults m.shortages ends.Memory given journal
told_memory s l m given journal w v old new none t told =
    let fronts : SentFront memory_line w v = across_at l.wire m.wire w v (SentFront memory_line) old new told.front in
    let whole : m.write_faults ≡ 0 → m.shortages ≡ 0 → IsSent memory_line w v = λ none_failed none_short. across_at l.wire m.wire w v (IsSent memory_line) old new (told.whole none_failed none_short) in
    record {
      lines = t.lines;
      said = t.said;
      over = t.over;
      rest = t.rest;
      heard = t.heard;
      overlong = t.overlong;
      stops = tt;
      asked = t.asked;
      full = t.full;
      written = record {
        front = w.written;
        told = fronts.0;
        starts = t.written.0;
        tells = (fronts.1, fronts.2);
        parts = fronts.3.sent;
        lines = λ quiet. t.written.1 (told.quiet quiet);
        whole = λ quiet faults.
            let writes_none : m.write_faults ≡ 0 = omega (arith, faults) in
            let all = whole writes_none quiet in
            append_cancel_left w.written fronts.0 memory_line (sym fronts.3.sent ∙ all.sent);
      };
    }

-- reading on stopped the session
pub hear_stops : (end : SessionEnd) (s : Start) (bytes bytes' : List ℕ) (ahead : Ahead) (h : List Entry) (given : List Answer) (w v : Wire) (writes : ℕ) (lacks : ℕ) (journal : List Entry)
    → Going s bytes ahead h given w → IsShort bytes → HasRead {T = Unit {0}} bytes bytes' (Err end) w v → Extends h journal → Stopped s writes lacks end given journal v
hear_stops ends.Bye s bytes bytes' ahead h given w v writes lacks journal g short read ext = absurd read
hear_stops ends.EndOfInput s bytes bytes' ahead h given w v writes lacks journal g short read ext = stopped_ended s bytes ahead h given w v writes lacks journal g short read.0 read.1 ext
hear_stops ends.TooLong s bytes bytes' ahead h given w v writes lacks journal g short read ext = absurd read
hear_stops ends.Full s bytes bytes' ahead h given w v writes lacks journal g short read ext = absurd read
hear_stops ends.LinkFault s bytes bytes' ahead h given w v writes lacks journal g short read ext = stopped_read s bytes ahead h given w v writes lacks journal g short read.0 ext
hear_stops ends.Memory s bytes bytes' ahead h given w v writes lacks journal g short read ext = stopped_here s bytes ahead h h given w v writes lacks journal g read ([], sym (append-nil h)) ext

-- what a fresh link has
abbrev pub fresh_wire : List ℕ → Wire
fresh_wire input = record { left = input; written = [] }

-- the greeting stopped the session
greet_stops_at : (end : SessionEnd) (s : Start) (l m : LinkTold) (v : Wire) (journal : List Entry) → (IsSilent l m → v ≡ fresh_wire s.input)
    → HasSaid {T = Unit {0}} (hello_turn s.client s.clients) (Err end) (fresh_wire s.input) v → RisesAtFault {T = Unit {0}} l.write_faults m.write_faults (Err end) → GreetTells {T = Unit {0}} l m (Err end) → Stopped s m.write_faults m.shortages end [] journal v
greet_stops_at ends.Bye s l m v journal silent said rises tells = absurd (let e = said.0 in cc)
greet_stops_at ends.EndOfInput s l m v journal silent said rises tells = absurd said
greet_stops_at ends.TooLong s l m v journal silent said rises tells = absurd (let e = said.0 in cc)
greet_stops_at ends.Full s l m v journal silent said rises tells = absurd (let e = said.0 in cc)
greet_stops_at ends.LinkFault s l m v journal silent said rises tells = greet_fault s (fresh_wire s.input) v m.write_faults m.shortages journal refl refl said (rose_some l.write_faults m.write_faults rises.0)
greet_stops_at ends.Memory s l m v journal silent said rises tells = greet_out s (fresh_wire s.input) v m.write_faults m.shortages journal refl said (λ quiet.
    elim tells [
      | inl t ↦ absurd (rose_some l.shortages m.shortages t.0 quiet)
      | inr q ↦ subst AreLines (sym (ap (λ (x : Wire). x.written) (silent q))) (inl refl)
    ])

greet_stops_told : (end : SessionEnd) (s : Start) (given : List Answer) (l m : LinkTold) (before now : Option Wire) (journal : List Entry) → l.wire ≡ before → m.wire ≡ now → before ≡ Some (fresh_wire s.input) → given ≡ []
    → Across before now (HasSaid {T = Unit {0}} (hello_turn s.client s.clients) (Err end)) → RisesAtFault {T = Unit {0}} l.write_faults m.write_faults (Err end) → GreetTells {T = Unit {0}} l m (Err end) → Holds now (Stopped s m.write_faults m.shortages end given journal)
greet_stops_told end s given l m before None journal old new is empty said rises tells = absurd (subst (λ (b : Option Wire). Across b None (HasSaid {T = Unit {0}} (hello_turn s.client s.clients) (Err end))) is said)
greet_stops_told end s given l m before (Some v) journal old new is empty said rises tells =
    subst (λ (as_given : List Answer). Stopped s m.write_faults m.shortages end as_given journal v) (sym empty)
    (greet_stops_at end s l m v journal (λ q. across_at l.wire m.wire (fresh_wire s.input) v (λ a b. b ≡ a) (old ∙ is) new q.1)
    (subst (λ (b : Option Wire). Across b (Some v) (HasSaid {T = Unit {0}} (hello_turn s.client s.clients) (Err end))) is said) rises tells)

pub greet_stops : (end : SessionEnd) (s : Start) (given : List Answer) (l m : LinkTold) (journal : List Entry) → l.wire ≡ Some (fresh_wire s.input) → given ≡ []
    → Across l.wire m.wire (HasSaid {T = Unit {0}} (hello_turn s.client s.clients) (Err end)) → RisesAtFault {T = Unit {0}} l.write_faults m.write_faults (Err end) → GreetTells {T = Unit {0}} l m (Err end) → Holds m.wire (Stopped s m.write_faults m.shortages end given journal)
greet_stops end s given l m journal is empty said rises tells = greet_stops_told end s given l m l.wire m.wire journal refl refl is empty said rises tells

-- the greeting went out, and the session goes on
pub greet_goes : (s : Start) (handed : List Entry) (given : List Answer) (before now : Option Wire) → before ≡ Some (fresh_wire s.input) → handed ≡ [] → given ≡ [] → Across before now (IsSent (hello_line s.client s.clients)) → Holds now (Going s [] (record { count = 0; lines = [] }) handed given)
greet_goes s handed given before None is none empty sent = absurd (subst (λ (b : Option Wire). Across b None (IsSent (hello_line s.client s.clients))) is sent)
greet_goes s handed given before (Some v) is none empty sent =
    subst (λ (x : List Entry). Going s [] (record { count = 0; lines = [] }) x given v) (sym none)
    (subst (λ (x : List Answer). Going s [] (record { count = 0; lines = [] }) [] x v) (sym empty)
    (greeted s (fresh_wire s.input) v refl refl (subst (λ (b : Option Wire). Across b (Some v) (IsSent (hello_line s.client s.clients))) is sent)))

memory_session : (s : Start) (l m : LinkTold) (given : List Answer) (journal : List Entry) (w v : Option Wire) → l.wire ≡ w → m.wire ≡ v → m.read_faults ≡ 0 → Holds w (Stopped s l.write_faults l.shortages ends.Memory given journal) → ToldMemory l m
    → Holds v (λ now. Session s.client s.clients s.input now m.read_faults m.write_faults m.shortages ends.Memory given journal)
memory_session s l m given journal None v old new none t told = absurd t
memory_session s l m given journal (Some w) None old new none t told = absurd (across_none l.wire m.wire w (SentFront memory_line) old new told.front)
memory_session s l m given journal (Some w) (Some v) old new none t told = told_memory s l m given journal w v old new none t told

-- no line comes after the other ends
stopped_session : (end : SessionEnd) (s : Start) (l : LinkTold) (given : List Answer) (journal : List Entry)
    → ((text written : List ℕ) → WrittenBefore end text written l.write_faults l.shortages → HasWritten end text written l.read_faults l.write_faults l.shortages)
    → Holds l.wire (Stopped s l.write_faults l.shortages end given journal) → HasSession s.client s.clients s.input l end given journal
stopped_session end s l given journal same p =
    holds_weaker l.wire (Stopped s l.write_faults l.shortages end given journal) (λ now. Session s.client s.clients s.input now l.read_faults l.write_faults l.shortages end given journal) p
    (λ now t. record { lines = t.lines; said = t.said; over = t.over; rest = t.rest; heard = t.heard; overlong = t.overlong; stops = t.stops; asked = t.asked; full = t.full; written = same (transcript s.client s.clients journal (t.said ++ t.over) given) now.written t.written })

kept_session : (end : SessionEnd) (s : Start) (given : List Answer) (journal : List Entry) (l m : LinkTold) → m ≡ l → HasSession s.client s.clients s.input l end given journal → HasSession s.client s.clients s.input m end given journal
kept_session end s given journal l m e p = subst (λ (x : LinkTold). HasSession s.client s.clients s.input x end given journal) (sym e) p

-- a session that stopped is over, behind the line `memory` where it stopped for want of memory
pub session_of : (end : SessionEnd) (s : Start) (given : List Answer) (journal : List Entry) (k l m : LinkTold) → k.read_faults ≡ 0 → HasStopCause end k l → m.read_faults ≡ l.read_faults → Holds l.wire (Stopped s l.write_faults l.shortages end given journal) → HasTold end l m
    → HasSession s.client s.clients s.input m end given journal
session_of ends.Bye s given journal k l m none cause same p told = kept_session ends.Bye s given journal l m told (stopped_session ends.Bye s l given journal (λ text written w. w) p)
session_of ends.EndOfInput s given journal k l m none cause same p told = kept_session ends.EndOfInput s given journal l m told (stopped_session ends.EndOfInput s l given journal (λ text written w. w) p)
session_of ends.TooLong s given journal k l m none cause same p told = kept_session ends.TooLong s given journal l m told (stopped_session ends.TooLong s l given journal (λ text written w. w) p)
session_of ends.Full s given journal k l m none cause same p told = kept_session ends.Full s given journal l m told (stopped_session ends.Full s l given journal (λ text written w. w) p)
session_of ends.LinkFault s given journal k l m none cause same p told = kept_session ends.LinkFault s given journal l m told (stopped_session ends.LinkFault s l given journal (λ text written w. w) p)
session_of ends.Memory s given journal k l m none cause same p told = memory_session s l m given journal l.wire m.wire refl refl (same ∙ cause.0 ∙ none) p told

pub timely_then : (a b c : LinkTold) → b.read_faults ≡ a.read_faults → b.write_faults ≡ a.write_faults → IsTimely a b → IsTimely b c → IsTimely a c
timely_then a b c reads writes p q = λ none_read none_written. q (reads ∙ none_read) (writes ∙ none_written) ∙ p none_read none_written

timely_same : (a b c : LinkTold) → c ≡ b → IsTimely a b → IsTimely a c
timely_same a b c e p = λ none_read none_written. ap (λ (l : LinkTold). l.late) e ∙ p none_read none_written

-- what comes after a stop comes in time
pub timely_end : (end : SessionEnd) (a b c : LinkTold) → HasStopCause end a b → IsTimely a b → HasTold end b c → IsTimely b c → IsTimely a c
timely_end ends.Bye a b c cause p told q = timely_same a b c told p
timely_end ends.EndOfInput a b c cause p told q = timely_same a b c told p
timely_end ends.TooLong a b c cause p told q = timely_same a b c told p
timely_end ends.Full a b c cause p told q = timely_same a b c told p
timely_end ends.LinkFault a b c cause p told q = timely_same a b c told p
timely_end ends.Memory a b c cause p told q = timely_then a b c cause.0 cause.1 p q
