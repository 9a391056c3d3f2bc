-- How a session goes on, and how it stops, one line further.
use Rattle.std.proofs.Common.{◌≡◌, ◌≢◌, ℕ, List, [], ◌∷◌, ◌++◌, refl, sym, ap, ◌∙◌, append_assoc, arith, subst, inl, inr, Err}
use Rattle.std.specs.List.{AllByRecursion}
use Rattle.std.proofs.lemmas.List.{append-nil}
use Rattle.board_items.specs.declared.history.Entry.{Entry}
use Rattle.board_items.specs.declared.requests.Request.{Request}
use Rattle.layout_io.specs.Causes.{Rose}
use Rattle.layout_io.specs.Links.{Wire, LinkTold, IsSent}
use Rattle.desk_core.specs.declared.desk.Answer.{Answer}
use Rattle.session_loop.specs.declared.end.SessionEnd.{SessionEnd}
use Rattle.session_loop.specs.declared.end.SessionEnd.TheVariants as ends
use Rattle.session_loop.specs.declared.turn.Ahead.{Ahead}
use Rattle.session_loop.specs.declared.turn.Then.{Then}
use Rattle.session_loop.specs.declared.turn.Then.TheVariants as thens
use Rattle.session_loop.specs.declared.turn.Turn.{Turn}
use Rattle.session_loop.specs.Transcripts.{Reading, Asks, Bye, Long, answered, transcript, requests_of, asked_of}
use Rattle.session_loop.specs.Sessions.{Says, IsHeard, IsOver, IsOpen, IsNotFull, EndsWith, LastMayBeFull, LastIsFull, Starts, AreLines, Extends}
use Rattle.session_loop.specs.Turns.{Grew, IsTurn, GoesThen, IsNext}
use Rattle.session_loop.specs.Stops.{Start, Going, Stopped, SentFront, HasSaid, RisesAtFault, RisesAtShortage, HasStopCause, IsQuietEnd}
use Rattle.session_loop.proofs.Lines.{all_append, heard_more, asked_more, overlong_more, lines_append}

-- what began with more began with less
pub extends_less : (h h' journal : List Entry) → Grew h h' → Extends h' journal → Extends h journal
extends_less h h' journal g ext = (g.0 ++ ext.0, ext.1 ∙ ap (λ (z : List Entry). z ++ ext.0) g.1 ∙ append_assoc h g.0 ext.0)

-- where a line leads
abbrev pub LeadsTo : Then → List Reading → List Reading → List Answer → Type 0
LeadsTo thens.On said over given = AllByRecursion IsNotFull given
LeadsTo thens.Bye said over given = EndsWith said Bye × (over ≡ []) × AllByRecursion IsNotFull given
LeadsTo thens.Full said over given = ((request : Request) × EndsWith said (Asks request)) × (over ≡ []) × LastIsFull given
LeadsTo thens.TooLong said over given = AllByRecursion IsOpen said × (over ≡ Long ∷ []) × AllByRecursion IsNotFull given

-- a turn was made, and its text is still to be written
pub record Turned (s : Start) (handed : List Entry) (given : List Answer) (w : Wire) (text : List ℕ) (goes : Then) : Type 0 where
  pub lines : List (List ℕ)
  pub said : List Reading
  pub over : List Reading
  pub rest : List ℕ
  pub heard : IsHeard s.input lines said rest
  pub overlong : IsOver rest over
  pub asked : requests_of said ≡ asked_of given
  pub leads : LeadsTo goes said over given
  pub whole : AreLines w.written
  pub text_whole : AreLines text
  pub written : (journal : List Entry) → Extends handed journal → transcript s.client s.clients journal (said ++ over) given ≡ w.written ++ text

last_line : (said : List Reading) (r last : Reading) → AllByRecursion IsOpen said → r ≡ last → EndsWith (said ++ r ∷ []) last
last_line said r last open_ e = record { before = said; parts = ap (λ (x : Reading). said ++ x ∷ []) e; others = open_ }

none_more : (old more : List Answer) → AllByRecursion IsNotFull old → more ≡ [] → AllByRecursion IsNotFull (old ++ more)
none_more old more p e = all_append IsNotFull old more p (subst (λ given. AllByRecursion IsNotFull given) (sym e) tt)

leads_line : (goes : Then) (line : List ℕ) (said : List Reading) (r : Reading) (old more : List Answer) → AllByRecursion IsOpen said → AllByRecursion IsNotFull old → Says line r → GoesThen goes r more → LeadsTo goes (said ++ r ∷ []) [] (old ++ more)
leads_line thens.On line said r old more open_ p says t = all_append IsNotFull old more p t.1
leads_line thens.Bye line said r old more open_ p says t = (last_line said r Bye open_ t.0, refl, none_more old more p t.1)
leads_line thens.Full line said r old more open_ p says t = ((t.0.request, last_line said r (Asks t.0.request) open_ t.1), refl, record { before = old; last = t.0; parts = ap (λ (z : List Answer). old ++ z) t.2; full = t.3; others = p })
leads_line thens.TooLong line said r old more open_ p says t = absurd (subst (Says line) t.0 says)

leads_over : (goes : Then) (said : List Reading) (r : Reading) (old more : List Answer) → AllByRecursion IsOpen said → AllByRecursion IsNotFull old → r ≡ Long → GoesThen goes r more → LeadsTo goes said (r ∷ []) (old ++ more) × (more ≡ [])
leads_over thens.On said r old more open_ p long t = absurd (subst IsOpen long t.0)
leads_over thens.Bye said r old more open_ p long t = absurd (let e : Bye ≡ Long = sym t.0 ∙ long in cc)
leads_over thens.Full said r old more open_ p long t = absurd (let e : Asks t.0.request ≡ Long = sym t.1 ∙ long in cc)
leads_over thens.TooLong said r old more open_ p long t = ((open_, ap (λ (x : Reading). x ∷ []) t.0, none_more old more p t.1), t.1)

-- the transcript up to this line
up_to_here : (s : Start) (bytes : List ℕ) (ahead ahead' : Ahead) (h h' : List Entry) (old new : List Answer) (w : Wire) (turn : Turn) (r : Reading) (g : Going s bytes ahead h old w) → Grew h h' → (t : IsTurn r g.count h' old new ahead' turn) → (journal : List Entry) → Extends h' journal
    → transcript s.client s.clients journal (g.said ++ r ∷ []) new ≡ w.written ++ turn.text
up_to_here s bytes ahead ahead' h h' old new w turn r g grew t journal ext =
    ap (λ (given : List Answer). transcript s.client s.clients journal (g.said ++ r ∷ []) given) t.answers
    ∙ sym (g.completes journal (extends_less h h' journal grew ext) (r ∷ []) t.more)
    ∙ ap (λ (z : List ℕ). w.written ++ z) (t.last journal ext)

pub turned : (s : Start) (bytes bytes' : List ℕ) (ahead ahead' : Ahead) (h h' : List Entry) (old new : List Answer) (w : Wire) (turn : Turn)
    → (g : Going s bytes ahead h old w) → Grew h h' → IsNext bytes bytes' g.count h' old new ahead' turn → Turned s h' new w turn.text turn.goes
turned s bytes bytes' ahead ahead' h h' old new w turn g grew n =
    let t = n.turn_of in
    elim n.front [
      | inl f ↦ record {
        lines = g.lines ++ f.0 ∷ [];
        said = g.said ++ n.r ∷ [];
        over = [];
        rest = bytes' ++ w.left;
        heard = heard_more s.input g.lines g.said f.0 n.r bytes bytes' w.left g.heard f.2 f.1 f.3;
        overlong = tt;
        asked = asked_more g.said n.r old t.more new g.asked t.asked t.answers;
        leads = subst (λ given. LeadsTo turn.goes (g.said ++ n.r ∷ []) [] given) (sym t.answers) (leads_line turn.goes f.0 g.said n.r old t.more g.open_ g.not_full f.3 t.then_so);
        whole = g.whole;
        text_whole = t.lines;
        written = λ journal ext. ap (λ (said : List Reading). transcript s.client s.clients journal said new) (append-nil (g.said ++ n.r ∷ [])) ∙ up_to_here s bytes ahead ahead' h h' old new w turn n.r g grew t journal ext;
      }
      | inr f ↦
          let both = leads_over turn.goes g.said n.r old t.more g.open_ g.not_full f.0 t.then_so in
          let same : new ≡ old = t.answers ∙ ap (λ (z : List Answer). old ++ z) both.1 ∙ append-nil old in
          record {
            lines = g.lines;
            said = g.said;
            over = n.r ∷ [];
            rest = bytes ++ w.left;
            heard = g.heard;
            overlong = subst (λ (x : Reading). IsOver (bytes ++ w.left) (x ∷ [])) (sym f.0) (overlong_more bytes w.left f.1);
            asked = g.asked ∙ ap asked_of (sym same);
            leads = subst (λ given. LeadsTo turn.goes g.said (n.r ∷ []) given) (sym t.answers) both.0;
            whole = g.whole;
            text_whole = t.lines;
            written = up_to_here s bytes ahead ahead' h h' old new w turn n.r g grew t;
          }
    ]

-- after a line behind which the session goes on
pub gone_on : (s : Start) (bytes bytes' : List ℕ) (ahead ahead' : Ahead) (h h' : List Entry) (old new : List Answer) (w v : Wire) (turn : Turn)
    → (g : Going s bytes ahead h old w) → Grew h h' → IsNext bytes bytes' g.count h' old new ahead' turn → turn.goes ≡ thens.On → IsSent turn.text w v → Going s bytes' ahead' h' new v
gone_on s bytes bytes' ahead ahead' h h' old new w v turn g grew n on sent =
    let t = n.turn_of in
    let so : GoesThen thens.On n.r t.more = subst (λ (goes : Then). GoesThen goes n.r t.more) on t.then_so in
    elim n.front [
      | inl f ↦ record {
        lines = g.lines ++ f.0 ∷ [];
        said = g.said ++ n.r ∷ [];
        count = t.place;
        heard = subst (λ (left : List ℕ). IsHeard s.input (g.lines ++ f.0 ∷ []) (g.said ++ n.r ∷ []) (bytes' ++ left)) (sym sent.left) (heard_more s.input g.lines g.said f.0 n.r bytes bytes' w.left g.heard f.2 f.1 f.3);
        open_ = all_append IsOpen g.said (n.r ∷ []) g.open_ (so.0, tt);
        asked = asked_more g.said n.r old t.more new g.asked t.asked t.answers;
        not_full = subst (λ given. AllByRecursion IsNotFull given) (sym t.answers) (all_append IsNotFull old t.more g.not_full so.1);
        ahead_of = t.ahead_of;
        whole = subst AreLines (sym sent.sent) (lines_append w.written turn.text g.whole t.lines);
        completes = λ journal ext said later.
            ap (λ (z : List ℕ). z ++ answered journal t.place said later) sent.sent
            ∙ append_assoc w.written turn.text (answered journal t.place said later)
            ∙ ap (λ (z : List ℕ). w.written ++ z) (sym (t.on on journal ext said later))
            ∙ g.completes journal (extends_less h h' journal grew ext) (n.r ∷ said) (t.more ++ later)
            ∙ ap (λ (z : List Reading). transcript s.client s.clients journal z (old ++ (t.more ++ later))) (sym (append_assoc g.said (n.r ∷ []) said))
            ∙ ap (λ (z : List Answer). transcript s.client s.clients journal ((g.said ++ n.r ∷ []) ++ said) z) (sym (append_assoc old t.more later) ∙ ap (λ (z : List Answer). z ++ later) (sym t.answers));
      }
      | inr f ↦ absurd (subst IsOpen f.0 so.0)
    ]

may_be_full : (goes : Then) (said over : List Reading) (given : List Answer) → LeadsTo goes said over given → LastMayBeFull given
may_be_full thens.On said over given t = record { before = given; last = []; parts = sym (append-nil given); one = omega arith; others = t }
may_be_full thens.Bye said over given t = record { before = given; last = []; parts = sym (append-nil given); one = omega arith; others = t.2 }
may_be_full thens.Full said over given t = record { before = t.2.before; last = t.2.last ∷ []; parts = t.2.parts; one = omega arith; others = t.2.others }
may_be_full thens.TooLong said over given t = record { before = given; last = []; parts = sym (append-nil given); one = omega arith; others = t.2 }

-- the text was written, and the session stops behind it
pub stopped_bye : (s : Start) (h : List Entry) (given : List Answer) (w v : Wire) (text : List ℕ) (writes : ℕ) (lacks : ℕ) (journal : List Entry) → Turned s h given w text thens.Bye → IsSent text w v → Extends h journal → Stopped s writes lacks ends.Bye given journal v
stopped_bye s h given w v text writes lacks journal t sent ext = record {
  lines = t.lines;
  said = t.said;
  over = t.over;
  rest = t.rest;
  heard = t.heard;
  overlong = t.overlong;
  stops = (t.leads.0, t.leads.1);
  asked = t.asked;
  full = t.leads.2;
  written = sent.sent ∙ sym (t.written journal ext);
}

pub stopped_full : (s : Start) (h : List Entry) (given : List Answer) (w v : Wire) (text : List ℕ) (writes : ℕ) (lacks : ℕ) (journal : List Entry) → Turned s h given w text thens.Full → IsSent text w v → Extends h journal → Stopped s writes lacks ends.Full given journal v
stopped_full s h given w v text writes lacks journal t sent ext = record {
  lines = t.lines;
  said = t.said;
  over = t.over;
  rest = t.rest;
  heard = t.heard;
  overlong = t.overlong;
  stops = (t.leads.0, t.leads.1);
  asked = t.asked;
  full = t.leads.2;
  written = sent.sent ∙ sym (t.written journal ext);
}

pub stopped_long : (s : Start) (h : List Entry) (given : List Answer) (w v : Wire) (text : List ℕ) (writes : ℕ) (lacks : ℕ) (journal : List Entry) → Turned s h given w text thens.TooLong → IsSent text w v → Extends h journal → Stopped s writes lacks ends.TooLong given journal v
stopped_long s h given w v text writes lacks journal t sent ext = record {
  lines = t.lines;
  said = t.said;
  over = t.over;
  rest = t.rest;
  heard = t.heard;
  overlong = t.overlong;
  stops = (t.leads.0, t.leads.1);
  asked = t.asked;
  full = t.leads.2;
  written = sent.sent ∙ sym (t.written journal ext);
}

-- a front of the text was written
front_starts : (s : Start) (h : List Entry) (given : List Answer) (w v : Wire) (text : List ℕ) (goes : Then) (journal : List Entry) → (t : Turned s h given w text goes) → SentFront text w v → Extends h journal → Starts v.written (transcript s.client s.clients journal (t.said ++ t.over) given)
front_starts s h given w v text goes journal t f ext =
    (f.1, t.written journal ext ∙ ap (λ (z : List ℕ). w.written ++ z) f.2 ∙ sym (append_assoc w.written f.0 f.1) ∙ ap (λ (z : List ℕ). z ++ f.1) (sym f.3.sent))

pub rose_some : (before now : ℕ) → Rose before now → now ≢ 0
rose_some before now r e = absurd (omega (arith, r, e))

pub stopped_fault : (s : Start) (h : List Entry) (given : List Answer) (w v : Wire) (text : List ℕ) (goes : Then) (writes : ℕ) (lacks : ℕ) (journal : List Entry) → Turned s h given w text goes → SentFront text w v → Extends h journal → writes ≢ 0 → Stopped s writes lacks ends.LinkFault given journal v
stopped_fault s h given w v text goes writes lacks journal t f ext some = record {
  lines = t.lines;
  said = t.said;
  over = t.over;
  rest = t.rest;
  heard = t.heard;
  overlong = t.overlong;
  stops = λ e. absurd (some e);
  asked = t.asked;
  full = may_be_full goes t.said t.over given t.leads;
  written = (front_starts s h given w v text goes journal t f ext, λ e. absurd (some e));
}

pub stopped_out : (s : Start) (h : List Entry) (given : List Answer) (w v : Wire) (text : List ℕ) (goes : Then) (writes : ℕ) (lacks : ℕ) (journal : List Entry) → Turned s h given w text goes → SentFront text w v → Extends h journal → lacks ≢ 0 → Stopped s writes lacks ends.Memory given journal v
stopped_out s h given w v text goes writes lacks journal t f ext is = record {
  lines = t.lines;
  said = t.said;
  over = t.over;
  rest = t.rest;
  heard = t.heard;
  overlong = t.overlong;
  stops = tt;
  asked = ([], t.asked ∙ sym (append-nil (asked_of given)), omega arith);
  full = may_be_full goes t.said t.over given t.leads;
  written = (front_starts s h given w v text goes journal t f ext, λ e. absurd (is e));
}

-- telling a turn stopped the session
pub said_stops : (end : SessionEnd) (s : Start) (h : List Entry) (given : List Answer) (w v : Wire) (turn : Turn) (writes writes' : ℕ) (lacks lacks' : ℕ) (journal : List Entry)
    → Turned s h given w turn.text turn.goes → HasSaid {T = Unit {0}} turn (Err end) w v → RisesAtFault {T = Unit {0}} writes writes' (Err end) → RisesAtShortage {T = Unit {0}} lacks lacks' (Err end) → writes ≡ 0 → Extends h journal → Stopped s writes' lacks' end given journal v
said_stops ends.Bye s h given w v turn writes writes' lacks lacks' journal t said rises tells none ext = stopped_bye s h given w v turn.text writes' lacks' journal (subst (λ (goes : Then). Turned s h given w turn.text goes) said.0 t) said.1 ext
said_stops ends.EndOfInput s h given w v turn writes writes' lacks lacks' journal t said rises tells none ext = absurd said
said_stops ends.TooLong s h given w v turn writes writes' lacks lacks' journal t said rises tells none ext = stopped_long s h given w v turn.text writes' lacks' journal (subst (λ (goes : Then). Turned s h given w turn.text goes) said.0 t) said.1 ext
said_stops ends.Full s h given w v turn writes writes' lacks lacks' journal t said rises tells none ext = stopped_full s h given w v turn.text writes' lacks' journal (subst (λ (goes : Then). Turned s h given w turn.text goes) said.0 t) said.1 ext
said_stops ends.LinkFault s h given w v turn writes writes' lacks lacks' journal t said rises tells none ext = stopped_fault s h given w v turn.text turn.goes writes' lacks' journal t said ext (rose_some writes writes' rises.0)
said_stops ends.Memory s h given w v turn writes writes' lacks lacks' journal t said rises tells none ext = stopped_out s h given w v turn.text turn.goes writes' lacks' journal t said ext (rose_some lacks lacks' tells.0)

-- the causes of such a stop
pub said_cause : (end : SessionEnd) (a b : LinkTold) → RisesAtFault {T = Unit {0}} a.write_faults b.write_faults (Err end) → b.read_faults ≡ a.read_faults → HasStopCause end a b
said_cause ends.Bye a b r e = (e, r)
said_cause ends.EndOfInput a b r e = (e, r)
said_cause ends.TooLong a b r e = (e, r)
said_cause ends.Full a b r e = (e, r)
said_cause ends.LinkFault a b r e = inr (e, r.0, r.1)
said_cause ends.Memory a b r e = (e, r)

pub said_quiet : (end : SessionEnd) (lacks lacks' : ℕ) → RisesAtShortage {T = Unit {0}} lacks lacks' (Err end) → IsQuietEnd end lacks lacks'
said_quiet ends.Bye lacks lacks' m = m
said_quiet ends.EndOfInput lacks lacks' m = m
said_quiet ends.TooLong lacks lacks' m = m
said_quiet ends.Full lacks lacks' m = m
said_quiet ends.LinkFault lacks lacks' m = m
said_quiet ends.Memory lacks lacks' m = tt

pub grew_then : (a b c : List Entry) → Grew a b → Grew b c → Grew a c
grew_then a b c p q = (p.0 ++ q.0, q.1 ∙ ap (λ (z : List Entry). z ++ q.0) p.1 ∙ append_assoc a p.0 q.0)
