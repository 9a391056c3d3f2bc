-- A session: what its lines say, how it ends, and what it has then written.
-- Left out: how the bytes come in pieces, and which requests are answered how. Cited by `serve_link`.
use Rattle.std.specs.Prelude.{◌≡◌, ◌⊎◌, ℕ, ◌+◌, ◌≤◌, List, [], ◌∷◌, ◌++◌, length, Option, Some, None, ⊤}
use Rattle.std.specs.List.{flat_map, AllByRecursion}
use Rattle.row_lists.specs.Limits.{line_limit_bytes}
use Rattle.board_items.specs.declared.history.Entry.{Entry}
use Rattle.board_items.specs.declared.history.Reply.{Reply}
use Rattle.board_items.specs.declared.history.Reply.TheVariants as replies
use Rattle.board_items.specs.declared.requests.Request.{Request}
use Rattle.layout_io.specs.Causes.{Rose}
use Rattle.layout_io.specs.Links.{Wire, LinkTold}
use Rattle.session_wire.specs.Steps.{IsLine}
use Rattle.session_wire.specs.Kept.{ended, IsOverlong}
use Rattle.session_wire.specs.Places.{IsBadAt}
use Rattle.session_wire.specs.Readings.{Reads}
use Rattle.session_wire.specs.Messages.{message_text, IsMessage, HasMessage}
use Rattle.session_wire.specs.declared.messages.Message.TheVariants as messages
use Rattle.desk_core.specs.Desks.{DeskTold}
use Rattle.desk_core.specs.declared.desk.Answer.{Answer}
use Rattle.session_loop.specs.declared.end.SessionEnd.{SessionEnd}
use Rattle.session_loop.specs.declared.end.SessionEnd.TheVariants as ends
use Rattle.session_loop.specs.Transcripts.{Reading, Bad, Asks, Bye, Long, transcript, requests_of, asked_of, memory_line}

-- a line says this
abbrev pub Says : List ℕ → Reading → Type 0
Says line (Bad at) = IsBadAt HasMessage line at
Says line (Asks request) = Reads IsMessage message_text line (messages.Ask request)
Says line Bye = Reads IsMessage message_text line messages.Bye
Says line Long = ⊥

-- each line says its own
abbrev pub SayEach : List (List ℕ) → List Reading → Type 0
SayEach [] [] = ⊤
SayEach [] (r ∷ said) = ⊥
SayEach (line ∷ lines) [] = ⊥
SayEach (line ∷ lines) (r ∷ said) = Says line r × SayEach lines said

-- bytes of a line that isn't too long, without its line end
abbrev pub IsShort : List ℕ → Type 0
IsShort line = IsLine line × (length line ≤ line_limit_bytes)

-- these are the first lines of the input, they say this, and the rest follows
pub record IsHeard (input : List ℕ) (lines : List (List ℕ)) (said : List Reading) (rest : List ℕ) : Type 0 where
  pub cut : input ≡ flat_map ended lines ++ rest
  pub short : AllByRecursion IsShort lines
  pub says : SayEach lines said

-- behind the lines nothing more counts, or a line that is too long
abbrev pub IsOver : List ℕ → List Reading → Type 0
IsOver rest [] = ⊤
IsOver rest (Long ∷ []) = IsOverlong rest
IsOver rest _ = ⊥

-- a session goes on behind such a line
abbrev pub IsOpen : Reading → Type 0
IsOpen (Bad at) = ⊤
IsOpen (Asks request) = ⊤
IsOpen Bye = ⊥
IsOpen Long = ⊥

-- a session goes on behind such a reply
abbrev pub GoesOn : Reply → Type 0
GoesOn (replies.Done number) = ⊤
GoesOn (replies.No why) = ⊤
GoesOn replies.Full = ⊥
GoesOn (replies.Left number) = ⊤

-- the reply isn't that the history is full
abbrev pub IsNotFull : Answer → Type 0
IsNotFull a = GoesOn a.reply

-- the last line is this one, and the session went on behind all others
pub record EndsWith (said : List Reading) (last : Reading) : Type 0 where
  pub before : List Reading
  pub parts : said ≡ before ++ last ∷ []
  pub others : AllByRecursion IsOpen before

-- a read failed behind the last whole line of the bytes taken
pub record IsTaken (rest left : List ℕ) : Type 0 where
  pub part : List ℕ
  pub unended : IsLine part
  pub follows : rest ≡ part ++ left

-- where the lines end: `over` is the line that is too long, `left` what wasn't read, `writes` the count of failed writes
abbrev pub StopsAt : SessionEnd → List Reading → List Reading → List ℕ → List ℕ → ℕ → Type 0
StopsAt ends.Bye said over rest left writes = EndsWith said Bye × (over ≡ [])
StopsAt ends.EndOfInput said over rest left writes = AllByRecursion IsOpen said × (over ≡ []) × IsShort rest × (left ≡ [])
StopsAt ends.TooLong said over rest left writes = AllByRecursion IsOpen said × (over ≡ Long ∷ [])
StopsAt ends.Full said over rest left writes = ((request : Request) × EndsWith said (Asks request)) × (over ≡ [])
StopsAt ends.LinkFault said over rest left writes = writes ≡ 0 → IsTaken rest left × (over ≡ [])
StopsAt ends.Memory said over rest left writes = ⊤

-- the requests are, in order, those of the answers; at want of memory there may be one more
abbrev pub AreAsked : SessionEnd → List Request → List Request → Type 0
AreAsked ends.Bye said asked = said ≡ asked
AreAsked ends.EndOfInput said asked = said ≡ asked
AreAsked ends.TooLong said asked = said ≡ asked
AreAsked ends.Full said asked = said ≡ asked
AreAsked ends.LinkFault said asked = said ≡ asked
AreAsked ends.Memory said asked = (more : List Request) × (said ≡ asked ++ more) × (length more ≤ 1)

-- all answers but the last one have another reply than `full`
pub record LastMayBeFull (answers : List Answer) : Type 0 where
  pub before : List Answer
  pub last : List Answer
  pub parts : answers ≡ before ++ last
  pub one : length last ≤ 1
  pub others : AllByRecursion IsNotFull before

-- the last answer is `full`, and no other
pub record LastIsFull (answers : List Answer) : Type 0 where
  pub before : List Answer
  pub last : Answer
  pub parts : answers ≡ before ++ last ∷ []
  pub full : last.reply ≡ replies.Full
  pub others : AllByRecursion IsNotFull before

-- which answer may be that the history is full
abbrev pub FullOnlyLast : SessionEnd → List Answer → Type 0
FullOnlyLast ends.Bye answers = AllByRecursion IsNotFull answers
FullOnlyLast ends.EndOfInput answers = AllByRecursion IsNotFull answers
FullOnlyLast ends.TooLong answers = AllByRecursion IsNotFull answers
FullOnlyLast ends.Full answers = LastIsFull answers
FullOnlyLast ends.LinkFault answers = LastMayBeFull answers
FullOnlyLast ends.Memory answers = LastMayBeFull answers

-- the text begins so
abbrev pub Starts : List ℕ → List ℕ → Type 0
Starts front text = (back : List ℕ) × (text ≡ front ++ back)

-- whole lines, or nothing
abbrev pub AreLines : List ℕ → Type 0
AreLines text = (text ≡ []) ⊎ ((front : List ℕ) × (text ≡ front ++ 10 ∷ []))

-- a front of the transcript, and then a front of the line `memory`: whole lines where no write answered want of memory, and
-- the whole line where no call failed either
pub record WroteMemory (text written : List ℕ) (faults shortages : ℕ) : Type 0 where
  pub front : List ℕ
  pub told : List ℕ
  pub starts : Starts front text
  pub tells : Starts told memory_line
  pub parts : written ≡ front ++ told
  pub lines : shortages ≡ 0 → AreLines front
  pub whole : shortages ≡ 0 → faults ≡ 0 → told ≡ memory_line

-- what is written, beside the transcript
abbrev pub HasWritten : SessionEnd → List ℕ → List ℕ → ℕ → ℕ → ℕ → Type 0
HasWritten ends.Bye text written reads writes shortages = written ≡ text
HasWritten ends.EndOfInput text written reads writes shortages = written ≡ text
HasWritten ends.TooLong text written reads writes shortages = written ≡ text
HasWritten ends.Full text written reads writes shortages = written ≡ text
HasWritten ends.LinkFault text written reads writes shortages = Starts written text × (writes ≡ 0 → written ≡ text)
HasWritten ends.Memory text written reads writes shortages = WroteMemory text written (reads + writes) shortages

-- a session of a client over a link that had this input: what its lines say, where they end, which requests were
-- answered, that only the last reply may be `full`, and what is written; `reads`, `writes` and `shortages` are how often a
-- read failed, how often a write failed, and how often a write answered want of memory
pub record Session (client clients : ℕ) (input : List ℕ) (now : Wire) (reads writes shortages : ℕ) (end : SessionEnd) (answers : List Answer) (journal : List Entry) : Type 0 where
  pub lines : List (List ℕ)
  pub said : List Reading
  pub over : List Reading
  pub rest : List ℕ
  pub heard : IsHeard input lines said rest
  pub overlong : IsOver rest over
  pub stops : StopsAt end said over rest now.left writes
  pub asked : AreAsked end (requests_of said) (asked_of answers)
  pub full : FullOnlyLast end answers
  pub written : HasWritten end (transcript client clients journal (said ++ over) answers) now.written reads writes shortages

-- a session ends so where it met no fault
abbrev pub IsClean : SessionEnd → Type 0
IsClean ends.Bye = ⊤
IsClean ends.EndOfInput = ⊤
IsClean ends.TooLong = ⊤
IsClean ends.Full = ⊤
IsClean ends.LinkFault = ⊥
IsClean ends.Memory = ⊥

-- the bytes are told, and are so
abbrev pub Holds : Option Wire → (Wire → Type 0) → Type 0
Holds None P = ⊥
Holds (Some w) P = P w

-- the link tells the bytes of a session
abbrev pub HasSession : ℕ → ℕ → List ℕ → LinkTold → SessionEnd → List Answer → List Entry → Type 0
HasSession client clients input l end answers journal = Holds l.wire (λ now. Session client clients input now l.read_faults l.write_faults l.shortages end answers journal)

-- the journal begins with the entries handed out
abbrev pub Extends : List Entry → List Entry → Type 0
Extends handed journal = (more : List Entry) × (journal ≡ handed ++ more)

-- the journal is at least as long as each place
abbrev pub ReachesEach : List Answer → List Entry → Type 0
ReachesEach answers journal = AllByRecursion (λ (a : Answer). a.place ≤ length journal) answers

-- nothing was written, no call failed and no write answered want of memory; nothing was handed out or answered
pub record IsFresh (input : List ℕ) (l : LinkTold) (d : DeskTold) : Type 0 where
  pub wire : l.wire ≡ Some (record { left = input; written = [] })
  pub reads : l.read_faults ≡ 0
  pub writes : l.write_faults ≡ 0
  pub shortages : l.shortages ≡ 0
  pub handed : d.handed ≡ []
  pub answers : d.answers ≡ []

-- the count of failed reads rose, and that of failed writes stands
abbrev pub ReadsFail : LinkTold → LinkTold → Type 0
ReadsFail old new = Rose old.read_faults new.read_faults × (old.read_faults ≤ new.read_faults) × (new.write_faults ≡ old.write_faults)

-- the count of failed writes rose, and that of failed reads stands
abbrev pub WritesFail : LinkTold → LinkTold → Type 0
WritesFail old new = (new.read_faults ≡ old.read_faults) × Rose old.write_faults new.write_faults × (old.write_faults ≤ new.write_faults)

-- both counts stand
abbrev pub NoneFails : LinkTold → LinkTold → Type 0
NoneFails old new = (new.read_faults ≡ old.read_faults) × (new.write_faults ≡ old.write_faults)

-- the link's counts in a session: a failed call is of one kind alone, and comes before two ends only
abbrev pub HasEndCause : SessionEnd → LinkTold → LinkTold → Type 0
HasEndCause ends.LinkFault old new = ReadsFail old new ⊎ WritesFail old new
HasEndCause ends.Memory old new = NoneFails old new ⊎ WritesFail old new
HasEndCause _ old new = NoneFails old new

-- where no call had failed before, none came after one that failed
abbrev pub IsTimely : LinkTold → LinkTold → Type 0
IsTimely old new = old.read_faults ≡ 0 → old.write_faults ≡ 0 → new.late ≡ old.late
