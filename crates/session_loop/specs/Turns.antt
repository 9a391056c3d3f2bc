-- What one line is answered, and what is kept of the journal between two answers.
-- Cited by the parts of a session within the crate; the contract of `serve_link` cites none of these.
use Rattle.std.specs.Prelude.{◌≡◌, ◌⊎◌, ℕ, ◌≤◌, ◌+◌, ◌-◌, min, List, [], ◌∷◌, ◌++◌, length, take, drop}
use Rattle.std.specs.List.{flat_map, AllByRecursion}
use Rattle.board_items.specs.declared.history.Entry.{Entry}
use Rattle.board_items.specs.declared.history.Reply.{Reply}
use Rattle.board_items.specs.declared.history.Reply.TheVariants as replies
use Rattle.board_items.specs.declared.requests.Request.{Request}
use Rattle.session_wire.specs.Lines.{entry_line, reply_line}
use Rattle.session_wire.specs.Kept.{IsOverlong}
use Rattle.desk_core.specs.declared.desk.Answer.{Answer}
use Rattle.desk_core.specs.declared.desk.Placed.{Placed}
use Rattle.session_loop.specs.declared.turn.Ahead.{Ahead}
use Rattle.session_loop.specs.declared.turn.Then.{Then}
use Rattle.session_loop.specs.declared.turn.Then.TheVariants as thens
use Rattle.session_loop.specs.declared.turn.Turn.{Turn}
use Rattle.client_feed.specs.Feeds.{feed}
use Rattle.session_loop.specs.Transcripts.{Reading, Asks, Bye, Long, answered, requests_of, asked_of}
use Rattle.session_loop.specs.Sessions.{Says, IsShort, IsOpen, GoesOn, IsNotFull, Extends, AreLines}

-- so many entries were handed out, and the lines kept are those of the entries behind the first k
pub record IsAhead (ahead : Ahead) (handed : List Entry) (k : ℕ) : Type 0 where
  pub counted : ahead.count ≡ length handed
  pub within : k ≤ length handed
  pub kept : ahead.lines ≡ flat_map entry_line (drop k handed)

-- more entries were handed out
abbrev pub Grew : List Entry → List Entry → Type 0
Grew old new = (more : List Entry) × (new ≡ old ++ more)

-- what stands behind a line of the session
abbrev pub GoesThen : Then → Reading → List Answer → Type 0
GoesThen thens.On r more = IsOpen r × AllByRecursion IsNotFull more
GoesThen thens.Bye r more = (r ≡ Bye) × (more ≡ [])
GoesThen thens.Full r more = (a : Answer) × (r ≡ Asks a.request) × (more ≡ a ∷ []) × (a.reply ≡ replies.Full)
GoesThen thens.TooLong r more = (r ≡ Long) × (more ≡ [])

-- a line that says this was answered: with these answers more, and this text
pub record IsTurn (r : Reading) (k : ℕ) (handed : List Entry) (old new : List Answer) (ahead : Ahead) (turn : Turn) : Type 0 where
  pub more : List Answer
  pub place : ℕ
  pub answers : new ≡ old ++ more
  pub asked : requests_of (r ∷ []) ≡ asked_of more
  pub then_so : GoesThen turn.goes r more
  pub ahead_of : IsAhead ahead handed place
  pub on : turn.goes ≡ thens.On → (journal : List Entry) → Extends handed journal → (said : List Reading) (later : List Answer) → answered journal k (r ∷ said) (more ++ later) ≡ turn.text ++ answered journal place said later
  pub last : (journal : List Entry) → Extends handed journal → answered journal k (r ∷ []) more ≡ turn.text
  pub lines : AreLines turn.text

-- the entries handed out were counted, and their lines kept
abbrev pub IsEarly : List Entry → List Entry → Ahead → Ahead → Placed → Type 0
IsEarly old new before after placed =
    (more : List Entry) × (new ≡ old ++ more) × (after.count ≡ before.count + length more) × (after.lines ≡ before.lines ++ flat_map entry_line more) × (length new ≤ placed.place)

-- the text is the kept lines, those of the entries handed out up to the place, and the reply; the other lines are kept
abbrev pub IsLate : Placed → List Entry → List Entry → Ahead → Ahead → List ℕ → Type 0
IsLate placed old new before after text =
    (more : List Entry) × (new ≡ old ++ more) × (after.count ≡ before.count + length more)
    × (text ≡ before.lines ++ flat_map entry_line (take (min (placed.place - before.count) (length more)) more) ++ reply_line placed.reply)
    × (after.lines ≡ flat_map entry_line (drop (min (placed.place - before.count) (length more)) more))

-- a request was answered at a place with a reply: the text is the entries up to there and the reply
pub record IsAnswered (request : Request) (k : ℕ) (handed : List Entry) (old new : List Answer) (ahead : Ahead) (reply : Reply) (text : List ℕ) : Type 0 where
  pub place : ℕ
  pub answers : new ≡ old ++ record { request = request; place = place; reply = reply } ∷ []
  pub after_k : k ≤ place
  pub ahead_of : IsAhead ahead handed place
  pub text_is : text ≡ feed handed k place ++ reply_line reply

-- want of memory came: nothing was answered, or the request was
abbrev pub AnsweredAtMost : Request → List Answer → List Answer → Type 0
AnsweredAtMost request old new = (new ≡ old) ⊎ ((a : Answer) × (new ≡ old ++ a ∷ []) × (a.request ≡ request))

-- want of memory came at a line: nothing was answered, or the request that the line says
abbrev pub SaidAtMost : List ℕ → List Answer → List Answer → Type 0
SaidAtMost line old new = (new ≡ old) ⊎ ((a : Answer) × (new ≡ old ++ a ∷ []) × Says line (Asks a.request))

-- the turn of the first line of the bytes kept, or of bytes that are too long
pub record IsNext (old_bytes new_bytes : List ℕ) (k : ℕ) (handed : List Entry) (old new : List Answer) (ahead : Ahead) (turn : Turn) : Type 0 where
  pub r : Reading
  pub turn_of : IsTurn r k handed old new ahead turn
  pub front : ((line : List ℕ) × IsShort line × (old_bytes ≡ line ++ 10 ∷ new_bytes) × Says line r) ⊎ ((r ≡ Long) × IsOverlong old_bytes × (new_bytes ≡ old_bytes))

-- want of memory came at the next line
abbrev pub NextAtMost : List ℕ → List Answer → List Answer → Type 0
NextAtMost old_bytes old new = (new ≡ old) ⊎ ((a : Answer) × (line : List ℕ) × (rest : List ℕ) × (new ≡ old ++ a ∷ []) × IsShort line × (old_bytes ≡ line ++ 10 ∷ rest) × Says line (Asks a.request))

-- nothing was handed out, answered, taken or kept
pub record IsQuiet (handed handed' : List Entry) (answers answers' : List Answer) (bytes bytes' : List ℕ) (ahead ahead' : Ahead) : Type 0 where
  pub same_handed : handed' ≡ handed
  pub same_answers : answers' ≡ answers
  pub same_bytes : bytes' ≡ bytes
  pub same_ahead : ahead' ≡ ahead

-- what comes behind a reply
abbrev pub IsThen : Reply → Then → Type 0
IsThen reply thens.On = GoesOn reply
IsThen reply thens.Bye = ⊥
IsThen reply thens.Full = reply ≡ replies.Full
IsThen reply thens.TooLong = ⊥
