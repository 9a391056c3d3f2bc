-- How far a session has come, and where it stopped before the line `memory`.
-- Cited by the parts of a session within the crate; the contract of `serve_link` cites none of these.
use Rattle.std.specs.Prelude.{◌≡◌, ◌⊎◌, ℕ, ◌≤◌, List, [], ◌++◌, Result, Ok, Err, ⊤}
use Rattle.std.specs.List.{AllByRecursion}
use Rattle.board_items.specs.declared.history.Entry.{Entry}
use Rattle.layout_io.specs.Causes.{Rose}
use Rattle.layout_io.specs.Links.{Wire, LinkTold, Across, IsSent}
use Rattle.desk_core.specs.Desks.{DeskTold}
use Rattle.desk_core.specs.declared.desk.Answer.{Answer}
use Rattle.session_loop.specs.declared.end.SessionEnd.{SessionEnd}
use Rattle.session_loop.specs.declared.end.SessionEnd.TheVariants as ends
use Rattle.session_loop.specs.declared.turn.Ahead.{Ahead}
use Rattle.session_loop.specs.declared.turn.Turn.{Turn}
use Rattle.session_loop.specs.declared.turn.Then.TheVariants as thens
use Rattle.session_loop.specs.Transcripts.{Reading, answered, transcript, requests_of, asked_of, hello_line, memory_line}
use Rattle.session_loop.specs.Sessions.{IsHeard, IsOver, IsOpen, IsNotFull, StopsAt, AreAsked, FullOnlyLast, Starts, AreLines, Holds, Extends, ReadsFail, WritesFail, NoneFails}
use Rattle.session_loop.specs.Turns.{IsAhead}

-- what a session began with
pub record Start : Type 0 where
  pub client : ℕ
  pub clients : ℕ
  pub input : List ℕ

-- the session goes on: each line so far was answered, and what is written and the answers to any lines to come
-- are the transcript of all
pub record Going (s : Start) (bytes : List ℕ) (ahead : Ahead) (handed : List Entry) (answers : List Answer) (w : Wire) : Type 0 where
  pub lines : List (List ℕ)
  pub said : List Reading
  pub count : ℕ
  pub heard : IsHeard s.input lines said (bytes ++ w.left)
  pub open_ : AllByRecursion IsOpen said
  pub asked : requests_of said ≡ asked_of answers
  pub not_full : AllByRecursion IsNotFull answers
  pub ahead_of : IsAhead ahead handed count
  pub whole : AreLines w.written
  pub completes : (journal : List Entry) → Extends handed journal → (more : List Reading) (later : List Answer) →
      w.written ++ answered journal count more later ≡ transcript s.client s.clients journal (said ++ more) (answers ++ later)

-- the session over this link and desk goes on so
abbrev pub IsGoing : Start → List ℕ → Ahead → DeskTold → LinkTold → Type 0
IsGoing s bytes ahead d l = Holds l.wire (Going s bytes ahead d.handed d.answers)

-- what is written before the line `memory`, beside the transcript
abbrev pub WrittenBefore : SessionEnd → List ℕ → List ℕ → ℕ → ℕ → Type 0
WrittenBefore ends.Bye text written writes shortages = written ≡ text
WrittenBefore ends.EndOfInput text written writes shortages = written ≡ text
WrittenBefore ends.TooLong text written writes shortages = written ≡ text
WrittenBefore ends.Full text written writes shortages = written ≡ text
WrittenBefore ends.LinkFault text written writes shortages = Starts written text × (writes ≡ 0 → written ≡ text)
WrittenBefore ends.Memory text written writes shortages = Starts written text × (shortages ≡ 0 → AreLines written)

-- the session stopped: as a session, but that the line `memory` is still to come
pub record Stopped (s : Start) (writes shortages : ℕ) (end : SessionEnd) (answers : List Answer) (journal : List Entry) (w : Wire) : Type 0 where
  pub lines : List (List ℕ)
  pub said : List Reading
  pub over : List Reading
  pub rest : List ℕ
  pub heard : IsHeard s.input lines said rest
  pub overlong : IsOver rest over
  pub stops : StopsAt end said over rest w.left writes
  pub asked : AreAsked end (requests_of said) (asked_of answers)
  pub full : FullOnlyLast end answers
  pub written : WrittenBefore end (transcript s.client s.clients journal (said ++ over) answers) w.written writes shortages

-- the session over this link and desk stopped so
abbrev pub HasStopped : Start → SessionEnd → DeskTold → LinkTold → List Entry → Type 0
HasStopped s end d l journal = Holds l.wire (Stopped s l.write_faults l.shortages end d.answers journal)

-- the turn that greets
abbrev pub hello_turn : ℕ → ℕ → Turn
hello_turn client clients = record { text = hello_line client clients; goes = thens.On }

-- a front of the text was written
abbrev pub SentFront : List ℕ → Wire → Wire → Type 0
SentFront text w v = (front : List ℕ) × (back : List ℕ) × (text ≡ front ++ back) × IsSent front w v

-- how the telling of a turn went on
abbrev pub HasSaid : {T : Type 0} → Turn → Result T SessionEnd → Wire → Wire → Type 0
HasSaid turn (Ok x) w v = (turn.goes ≡ thens.On) × IsSent turn.text w v
HasSaid turn (Err ends.Bye) w v = (turn.goes ≡ thens.Bye) × IsSent turn.text w v
HasSaid turn (Err ends.EndOfInput) w v = ⊥
HasSaid turn (Err ends.TooLong) w v = (turn.goes ≡ thens.TooLong) × IsSent turn.text w v
HasSaid turn (Err ends.Full) w v = (turn.goes ≡ thens.Full) × IsSent turn.text w v
HasSaid turn (Err ends.LinkFault) w v = SentFront turn.text w v
HasSaid turn (Err ends.Memory) w v = SentFront turn.text w v

-- how a read went on
abbrev pub HasRead : {T : Type 0} → List ℕ → List ℕ → Result T SessionEnd → Wire → Wire → Type 0
HasRead old new (Ok x) w v = (old ++ w.left ≡ new ++ v.left) × (v.written ≡ w.written)
HasRead old new (Err ends.Bye) w v = ⊥
HasRead old new (Err ends.EndOfInput) w v = (w.left ≡ []) × (v ≡ w) × (new ≡ old)
HasRead old new (Err ends.TooLong) w v = ⊥
HasRead old new (Err ends.Full) w v = ⊥
HasRead old new (Err ends.LinkFault) w v = (v ≡ w) × (new ≡ old)
HasRead old new (Err ends.Memory) w v = v.written ≡ w.written

-- a count that rises at a fault of the link alone
abbrev pub RisesAtFault : {T : Type 0} → ℕ → ℕ → Result T SessionEnd → Type 0
RisesAtFault before now (Ok x) = now ≡ before
RisesAtFault before now (Err ends.LinkFault) = Rose before now × (before ≤ now)
RisesAtFault before now (Err _) = now ≡ before

-- a count that rises at want of memory alone
abbrev pub RisesAtShortage : {T : Type 0} → ℕ → ℕ → Result T SessionEnd → Type 0
RisesAtShortage before now (Ok x) = now ≡ before
RisesAtShortage before now (Err ends.Memory) = Rose before now × (before ≤ now)
RisesAtShortage before now (Err _) = now ≡ before

-- the two counts of failed calls: one of them rises where a fault of the link stopped the session
abbrev pub HasStopCause : SessionEnd → LinkTold → LinkTold → Type 0
HasStopCause ends.LinkFault old new = ReadsFail old new ⊎ WritesFail old new
HasStopCause _ old new = NoneFails old new

-- the same of a result, which may be no stop
abbrev pub OneRises : {T : Type 0} → LinkTold → LinkTold → Result T SessionEnd → Type 0
OneRises old new (Ok x) = NoneFails old new
OneRises old new (Err end) = HasStopCause end old new

-- no write answers want of memory but where that stopped the session
abbrev pub IsQuietEnd : SessionEnd → ℕ → ℕ → Type 0
IsQuietEnd ends.Memory before now = ⊤
IsQuietEnd _ before now = now ≡ before

-- the same of a result, which may be no stop
abbrev pub QuietBut : {T : Type 0} → ℕ → ℕ → Result T SessionEnd → Type 0
QuietBut before now (Ok x) = now ≡ before
QuietBut before now (Err end) = IsQuietEnd end before now

-- nothing was said yet
abbrev pub IsSilent : LinkTold → LinkTold → Type 0
IsSilent old new = (new.shortages ≡ old.shortages) × Across old.wire new.wire (λ a b. b ≡ a)

-- the greeting went out, or memory ran out before or while it did
abbrev pub GreetTells : {T : Type 0} → LinkTold → LinkTold → Result T SessionEnd → Type 0
GreetTells old new (Ok x) = new.shortages ≡ old.shortages
GreetTells old new (Err ends.Memory) = (Rose old.shortages new.shortages × (old.shortages ≤ new.shortages)) ⊎ IsSilent old new
GreetTells old new (Err _) = new.shortages ≡ old.shortages

-- the line `memory`, or a front of it, was written
pub record ToldMemory (old new : LinkTold) : Type 0 where
  pub front : Across old.wire new.wire (SentFront memory_line)
  pub whole : new.write_faults ≡ 0 → new.shortages ≡ 0 → Across old.wire new.wire (IsSent memory_line)
  pub count : (new.write_faults ≡ old.write_faults) ⊎ (Rose old.write_faults new.write_faults × (old.write_faults ≤ new.write_faults))
  pub quiet : new.shortages ≡ 0 → old.shortages ≡ 0

-- what comes after the last answer: the line `memory` after want of memory, and else no call on the link
abbrev pub HasTold : SessionEnd → LinkTold → LinkTold → Type 0
HasTold ends.Memory old new = ToldMemory old new
HasTold _ old new = new ≡ old
