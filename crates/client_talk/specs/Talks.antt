-- What is sent to the server, what is read, and what the replica and the output get of it.
-- The main statement is `Talked`; those before it are its parts, by what one function does
use Rattle.std.specs.Prelude.{◌≡◌, ◌≢◌, ◌⊎◌, ℕ, List, [], ◌∷◌, ◌++◌, length, map, codes, Option, Some, None, Result, Ok, Err, ⊤}
use Rattle.std.specs.Io.KnownBytes.{Appends}
use Rattle.std.specs.List.{flat_map, AllByRecursion}
use Rattle.layout_io.specs.Links.{Wire, IsSent}
use Rattle.board_items.specs.declared.history.Entry.{Entry}
use Rattle.session_wire.specs.Steps.{IsLine}
use Rattle.session_wire.specs.Kept.{ended}
use Rattle.session_wire.specs.Lines.{entry_line}
use Rattle.session_wire.specs.Numbers.{number_text}
use Rattle.session_wire.specs.EntryLines.{IsEntry}
use Rattle.client_talk.specs.Entries.{ReadsEntry}
use Rattle.answer_lines.specs.Answers.{IsHello, GoesOn, IsLast, IsAnswer}
use Rattle.answer_lines.specs.declared.answers.Goes.{Goes}
use Rattle.answer_lines.specs.declared.answers.Goes.TheVariants as goes
use Rattle.client_replica.specs.Replicas.{Following, followed, IsNext, FollowsAll}
use Rattle.client_talk.specs.declared.stop.Stop.{Stop}
use Rattle.client_talk.specs.declared.stop.Stop.TheVariants as stops
use Rattle.client_talk.specs.Hears.{Begins, HasBegun}
use Rattle.client_talk.specs.Lines.{bye, IsMost}

-- a line that was sent, the entries that came, and the line of its answer
pub record Turn : Type 0 where
  pub line : List ℕ
  pub entries : List Entry
  pub answer : List ℕ

-- what came
abbrev pub turn_text : Turn → List ℕ
turn_text t = flat_map entry_line t.entries ++ ended t.answer

abbrev pub line_of : Turn → List ℕ
line_of t = t.line

abbrev pub entries_of : Turn → List Entry
entries_of t = t.entries

-- a line other than `bye`, and formed entries
pub record IsTurn (t : Turn) : Type 0 where
  pub line_is : t.line ≢ bye
  pub formed : AllByRecursion IsEntry t.entries
  pub unended : IsLine t.answer

-- a turn behind which the talk goes on
abbrev pub IsOpen : Turn → Type 0
IsOpen t = IsTurn t × GoesOn t.answer

-- a turn with the last answer
abbrev pub IsClosing : Turn → Type 0
IsClosing t = IsTurn t × IsLast t.answer

-- all lines were answered, and then `bye` was sent
pub record SaysAll (lines : List (List ℕ)) (turns : List Turn) (sent : List (List ℕ)) : Type 0 where
  pub open_ : AllByRecursion IsOpen turns
  pub lines_are : lines ≡ map line_of turns
  pub sent_is : sent ≡ map line_of turns ++ bye ∷ []

-- the lines up to the first `bye` were answered, and that was sent
pub record SaysBye (lines : List (List ℕ)) (turns : List Turn) (sent : List (List ℕ)) : Type 0 where
  pub rest : List (List ℕ)
  pub open_ : AllByRecursion IsOpen turns
  pub lines_are : lines ≡ map line_of turns ++ bye ∷ rest
  pub sent_is : sent ≡ map line_of turns ++ bye ∷ []

-- the lines up to one with a last answer were sent and answered
pub record SaysLast (lines : List (List ℕ)) (turns : List Turn) (sent : List (List ℕ)) : Type 0 where
  pub before : List Turn
  pub last : Turn
  pub rest : List (List ℕ)
  pub parts : turns ≡ before ++ last ∷ []
  pub open_ : AllByRecursion IsOpen before
  pub closing : IsClosing last
  pub lines_are : lines ≡ map line_of turns ++ rest
  pub sent_is : sent ≡ map line_of turns

-- which lines of a file are sent
abbrev pub Says : List (List ℕ) → List Turn → List (List ℕ) → Type 0
Says lines turns sent = SaysAll lines turns sent ⊎ SaysBye lines turns sent ⊎ SaysLast lines turns sent

-- the talk came to its end: these are the lines of the file that were sent, what came for them is what was read, it is
-- what was printed, and the replica took its entries
pub record Talked (lines : List (List ℕ)) (old new : List ℕ) (r s : Following) (o p : Option (List ℕ)) (w v : Wire) : Type 0 where
  pub turns : List Turn
  pub sent : List (List ℕ)
  pub says : Says lines turns sent
  pub written : v.written ≡ w.written ++ flat_map ended sent
  pub read : old ++ w.left ≡ flat_map turn_text turns ++ (new ++ v.left)
  pub printed : Appends o p (flat_map turn_text turns)
  pub follows : FollowsAll r (flat_map entries_of turns) s

-- a replica can't take the entry: it isn't the next one, or all would be too heavy
abbrev pub IsUnfit : Following → Entry → Type 0
IsUnfit r e = IsNext r.board r.weight e → ⊥

-- a line that is neither an answer nor an entry
pub record IsStrange (line : List ℕ) : Type 0 where
  pub no_answer : GoesOn line ⊎ IsLast line → ⊥
  pub no_entry : (e : Entry) → ReadsEntry line e → ⊥

-- a line that is neither, or an entry that the replica can't take
abbrev pub IsRefused : Following → List ℕ → Type 0
IsRefused r line = IsStrange line ⊎ ((e : Entry) × ReadsEntry line e × IsUnfit r e)

-- some entries came, and then the input ended in the middle of a line
pub record EndsBehind (come left : List ℕ) : Type 0 where
  pub entries : List Entry
  pub tail : List ℕ
  pub formed : AllByRecursion IsEntry entries
  pub read : come ≡ flat_map entry_line entries ++ tail
  pub unended : IsLine tail
  pub all : left ≡ []

-- some entries came and were taken, and then a line that is refused
pub record RefusesBehind (r : Following) (come : List ℕ) : Type 0 where
  pub entries : List Entry
  pub line : List ℕ
  pub rest : List ℕ
  pub then_ : Following
  pub formed : AllByRecursion IsEntry entries
  pub read : come ≡ flat_map entry_line entries ++ (line ++ 10 ∷ rest)
  pub unended : IsLine line
  pub follows : FollowsAll r entries then_
  pub refused : IsRefused then_ line

-- why reading up to an answer stopped: `come` was to come, `left` is what wasn't read
abbrev pub WhyNoAnswer : Stop → Following → List ℕ → List ℕ → Type 0
WhyNoAnswer stops.Ended r come left = EndsBehind come left
WhyNoAnswer stops.Refused r come left = RefusesBehind r come
WhyNoAnswer stops.Link r come left = ⊤
WhyNoAnswer stops.Out r come left = ⊤
WhyNoAnswer stops.Memory r come left = ⊤

-- a line that isn't an entry
abbrev pub HasAnswered : List ℕ → Result Goes Stop → Type 0
HasAnswered line (Ok g) = IsAnswer g line
HasAnswered line (Err stops.Refused) = GoesOn line ⊎ IsLast line → ⊥
HasAnswered line (Err _) = ⊥

-- an entry went to the replica
abbrev pub HasFollowed : {T : Type 0} → Following → Entry → Following → Result T Stop → Type 0
HasFollowed r e s (Ok x) = IsNext r.board r.weight e × (s ≡ followed r e)
HasFollowed r e s (Err stops.Refused) = IsUnfit r e
HasFollowed r e s (Err stops.Memory) = ⊤
HasFollowed r e s (Err _) = ⊥

-- a line of the server was taken in
abbrev pub HasTaken : List ℕ → Following → Following → Result (Option Goes) Stop → Type 0
HasTaken line r s (Ok None) = (e : Entry) × ReadsEntry line e × IsNext r.board r.weight e × (s ≡ followed r e)
HasTaken line r s (Ok (Some g)) = IsAnswer g line × (s ≡ r)
HasTaken line r s (Err stops.Refused) = IsRefused r line
HasTaken line r s (Err stops.Memory) = ⊤
HasTaken line r s (Err _) = ⊥

-- the line that greets was read and copied
abbrev pub HasGreeted : {T : Type 0} → List ℕ → List ℕ → Option (List ℕ) → Option (List ℕ) → Result T Stop → Wire → Wire → Type 0
HasGreeted old new o p (Ok x) w v = (line : List ℕ) × IsHello line × (old ++ w.left ≡ line ++ 10 ∷ (new ++ v.left)) × (v.written ≡ w.written) × Appends o p (ended line)
HasGreeted old new o p (Err stops.Ended) w v = IsLine (old ++ w.left) × (v.left ≡ []) × HasBegun old o p w v
HasGreeted old new o p (Err stops.Refused) w v = ((line : List ℕ) × (rest : List ℕ) × IsLine line × (old ++ w.left ≡ line ++ 10 ∷ rest) × (IsHello line → ⊥)) × HasBegun old o p w v
HasGreeted old new o p (Err _) w v = HasBegun old o p w v

-- some entries and an answer were read
pub record Answered (g : Goes) (old new : List ℕ) (r s : Following) (o p : Option (List ℕ)) (w v : Wire) : Type 0 where
  pub entries : List Entry
  pub answer : List ℕ
  pub formed : AllByRecursion IsEntry entries
  pub unended : IsLine answer
  pub is : IsAnswer g answer
  pub read : old ++ w.left ≡ (flat_map entry_line entries ++ ended answer) ++ (new ++ v.left)
  pub written : v.written ≡ w.written
  pub printed : Appends o p (flat_map entry_line entries ++ ended answer)
  pub follows : FollowsAll r entries s

abbrev pub HasAnswer : List ℕ → List ℕ → Following → Following → Option (List ℕ) → Option (List ℕ) → Result Goes Stop → Wire → Wire → Type 0
HasAnswer old new r s o p (Ok g) w v = Answered g old new r s o p w v
HasAnswer old new r s o p (Err stop) w v = HasBegun old o p w v × WhyNoAnswer stop r (old ++ w.left) v.left

-- a line was sent, and entries and an answer came for it
pub record Exchanged (g : Goes) (line : List ℕ) (old new : List ℕ) (r s : Following) (o p : Option (List ℕ)) (w v : Wire) : Type 0 where
  pub turn : Turn
  pub line_is : turn.line ≡ line
  pub is_turn : IsTurn turn
  pub is : IsAnswer g turn.answer
  pub read : old ++ w.left ≡ turn_text turn ++ (new ++ v.left)
  pub written : v.written ≡ w.written ++ ended line
  pub printed : Appends o p (turn_text turn)
  pub follows : FollowsAll r turn.entries s

-- `bye` was sent
pub record SaidBye (line : List ℕ) (old new : List ℕ) (r s : Following) (o p : Option (List ℕ)) (w v : Wire) : Type 0 where
  pub line_is : line ≡ bye
  pub read : new ≡ old
  pub sent : IsSent (ended bye) w v
  pub printed : p ≡ o
  pub follows : s ≡ r

-- the line or a front of it was sent, nothing else, and a front of what was to come was printed
pub record Broken (line : List ℕ) (old : List ℕ) (o p : Option (List ℕ)) (w v : Wire) : Type 0 where
  pub front : List ℕ
  pub back : List ℕ
  pub parts : ended line ≡ front ++ back
  pub written : v.written ≡ w.written ++ front
  pub printed : Begins (old ++ w.left) o p

-- why a turn stopped
abbrev pub WhyBroken : Stop → List ℕ → Following → List ℕ → List ℕ → Type 0
WhyBroken stops.Ended line r come left = (line ≢ bye) × EndsBehind come left
WhyBroken stops.Refused line r come left = (line ≢ bye) × RefusesBehind r come
WhyBroken stops.Link line r come left = ⊤
WhyBroken stops.Out line r come left = ⊤
WhyBroken stops.Memory line r come left = ⊤

abbrev pub HasTurned : List ℕ → List ℕ → List ℕ → Following → Following → Option (List ℕ) → Option (List ℕ) → Result Goes Stop → Wire → Wire → Type 0
HasTurned line old new r s o p (Ok goes.On) w v = Exchanged goes.On line old new r s o p w v
HasTurned line old new r s o p (Ok goes.Last) w v = SaidBye line old new r s o p w v ⊎ Exchanged goes.Last line old new r s o p w v
HasTurned line old new r s o p (Err stop) w v = Broken line old o p w v × WhyBroken stop line r (old ++ w.left) v.left

-- some lines were answered, the next one was sent, and entries came; then the input ended
pub record EndsAt (lines : List (List ℕ)) (r : Following) (come left : List ℕ) : Type 0 where
  pub turns : List Turn
  pub line : List ℕ
  pub rest : List (List ℕ)
  pub follower : Following
  pub later : List ℕ
  pub open_ : AllByRecursion IsOpen turns
  pub lines_are : lines ≡ map line_of turns ++ line ∷ rest
  pub line_is : line ≢ bye
  pub read : come ≡ flat_map turn_text turns ++ later
  pub follows : FollowsAll r (flat_map entries_of turns) follower
  pub ends : EndsBehind later left

-- the same, and then a line was refused
pub record RefusesAt (lines : List (List ℕ)) (r : Following) (come : List ℕ) : Type 0 where
  pub turns : List Turn
  pub line : List ℕ
  pub rest : List (List ℕ)
  pub follower : Following
  pub later : List ℕ
  pub open_ : AllByRecursion IsOpen turns
  pub lines_are : lines ≡ map line_of turns ++ line ∷ rest
  pub line_is : line ≢ bye
  pub read : come ≡ flat_map turn_text turns ++ later
  pub follows : FollowsAll r (flat_map entries_of turns) follower
  pub refuses : RefusesBehind follower later

-- why the talk stopped
abbrev pub WhyStopped : Stop → List (List ℕ) → Following → List ℕ → List ℕ → Type 0
WhyStopped stops.Ended lines r come left = EndsAt lines r come left
WhyStopped stops.Refused lines r come left = RefusesAt lines r come
WhyStopped stops.Link lines r come left = ⊤
WhyStopped stops.Out lines r come left = ⊤
WhyStopped stops.Memory lines r come left = ⊤

-- some lines were answered, and then the talk stopped: what was sent is a front of the most that is sent of the lines,
-- what was printed a front of what came
pub record Stopped (stop : Stop) (lines : List (List ℕ)) (old : List ℕ) (r : Following) (o p : Option (List ℕ)) (w v : Wire) : Type 0 where
  pub most : List (List ℕ)
  pub is_most : IsMost lines most
  pub front : List ℕ
  pub back : List ℕ
  pub parts : flat_map ended most ≡ front ++ back
  pub written : v.written ≡ w.written ++ front
  pub printed : Begins (old ++ w.left) o p
  pub why : WhyStopped stop lines r (old ++ w.left) v.left

abbrev pub HasTalked : {T : Type 0} → List (List ℕ) → List ℕ → List ℕ → Following → Following → Option (List ℕ) → Option (List ℕ) → Result T Stop → Wire → Wire → Type 0
HasTalked lines old new r s o p (Ok x) w v = Talked lines old new r s o p w v
HasTalked lines old new r s o p (Err stop) w v = Stopped stop lines old r o p w v

-- the line behind those that were read: how many entries came, and how many items are live behind them
abbrev pub board_line : ℕ → ℕ → List ℕ
board_line count live = codes "board" ++ (number_text count ++ (number_text live ++ (10 ∷ [])))

-- the line that greets came, and then the talk came to its end; `shown` is what was printed of all this
pub record Heard (lines : List (List ℕ)) (r s : Following) (w v : Wire) (shown : List ℕ) : Type 0 where
  pub hello : List ℕ
  pub is_hello : IsHello hello
  pub turns : List Turn
  pub sent : List (List ℕ)
  pub rest : List ℕ
  pub says : Says lines turns sent
  pub written : v.written ≡ w.written ++ flat_map ended sent
  pub read : w.left ≡ shown ++ rest
  pub shown_is : shown ≡ ended hello ++ flat_map turn_text turns
  pub follows : FollowsAll r (flat_map entries_of turns) s

-- the whole talk: a line that greets, turns, and the board's line
pub record Conversed (lines : List (List ℕ)) (r s : Following) (o p : Option (List ℕ)) (w v : Wire) : Type 0 where
  pub shown : List ℕ
  pub heard : Heard lines r s w v shown
  pub printed : Appends o p (shown ++ board_line s.board.count (length s.board.live))

-- the whole talk up to a front of the board's line
pub record StopsAtBoard (lines : List (List ℕ)) (r s : Following) (o p : Option (List ℕ)) (w v : Wire) : Type 0 where
  pub shown : List ℕ
  pub heard : Heard lines r s w v shown
  pub printed : Begins (shown ++ board_line s.board.count (length s.board.live)) o p

-- the first line isn't the one that greets, or there is none
abbrev pub WhyNoHello : Stop → List ℕ → List ℕ → Type 0
WhyNoHello stops.Ended come left = IsLine come × (left ≡ [])
WhyNoHello stops.Refused come left = (line : List ℕ) × (rest : List ℕ) × IsLine line × (come ≡ line ++ 10 ∷ rest) × (IsHello line → ⊥)
WhyNoHello _ come left = ⊤

-- nothing was sent
pub record StopsAtHello (stop : Stop) (o p : Option (List ℕ)) (w v : Wire) : Type 0 where
  pub written : v.written ≡ w.written
  pub printed : Begins w.left o p
  pub why : WhyNoHello stop w.left v.left

-- the line that greets came, and then the talk stopped
pub record StopsBehind (stop : Stop) (lines : List (List ℕ)) (r : Following) (o p : Option (List ℕ)) (w v : Wire) : Type 0 where
  pub hello : List ℕ
  pub is_hello : IsHello hello
  pub later : List ℕ
  pub read : w.left ≡ ended hello ++ later
  pub most : List (List ℕ)
  pub is_most : IsMost lines most
  pub front : List ℕ
  pub back : List ℕ
  pub parts : flat_map ended most ≡ front ++ back
  pub written : v.written ≡ w.written ++ front
  pub printed : Begins w.left o p
  pub why : WhyStopped stop lines r later v.left

abbrev pub HasConversed : {T : Type 0} → List (List ℕ) → Following → Following → Option (List ℕ) → Option (List ℕ) → Result T Stop → Wire → Wire → Type 0
HasConversed lines r s o p (Ok x) w v = Conversed lines r s o p w v
HasConversed lines r s o p (Err stop) w v = StopsAtHello stop o p w v ⊎ StopsBehind stop lines r o p w v ⊎ StopsAtBoard lines r s o p w v
