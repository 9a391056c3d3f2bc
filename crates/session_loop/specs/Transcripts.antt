-- The bytes that a session writes: a line that greets, and for each line that is read its answer.
-- Left out: where the lines end and what is written where a call failed, which `Sessions` has. Cited by `serve_link`.
use Rattle.std.specs.Prelude.{ℕ, List, [], ◌∷◌, ◌++◌, map, codes}
use Rattle.board_items.specs.declared.history.Entry.{Entry}
use Rattle.board_items.specs.declared.history.Reply.{Reply}
use Rattle.board_items.specs.declared.history.Reply.TheVariants as replies
use Rattle.board_items.specs.declared.requests.Request.{Request}
use Rattle.session_wire.specs.Numbers.{number_text}
use Rattle.session_wire.specs.Lines.{reply_line}
use Rattle.client_feed.specs.Feeds.{feed}
use Rattle.desk_core.specs.declared.desk.Answer.{Answer}

-- what a line of a session says; the last one may be longer than a line may be
pub data Reading : Type 0 where
  Bad : (at : ℕ) → Reading
  Asks : (request : Request) → Reading
  Bye : Reading
  Long : Reading

-- the line that greets
abbrev pub hello_line : ℕ → ℕ → List ℕ
hello_line client clients = codes "hello" ++ (number_text client ++ (number_text clients ++ (10 ∷ [])))

-- the answer to a line without a reading
abbrev pub bad_line : ℕ → List ℕ
bad_line at = codes "bad" ++ (number_text at ++ (10 ∷ []))

-- the answer to a line that is too long
abbrev pub long_line : List ℕ
long_line = codes "long\n"

-- the line that tells want of memory
abbrev pub memory_line : List ℕ
memory_line = codes "memory\n"

-- nothing follows the reply that the history is full
abbrev pub unless_full : Reply → List ℕ → List ℕ
unless_full (replies.Done number) rest = rest
unless_full (replies.No why) rest = rest
unless_full replies.Full rest = []
unless_full (replies.Left number) rest = rest

-- what lines are answered, from a count k on: a request has the next answer, whose place is the count from then on
abbrev pub answered : List Entry → ℕ → List Reading → List Answer → List ℕ
answered journal k [] answers = []
answered journal k (Bad at ∷ said) answers = bad_line at ++ answered journal k said answers
answered journal k (Asks request ∷ said) [] = []
answered journal k (Asks request ∷ said) (a ∷ answers) = feed journal k a.place ++ (reply_line a.reply ++ unless_full a.reply (answered journal a.place said answers))
answered journal k (Bye ∷ said) answers = []
answered journal k (Long ∷ said) answers = long_line

-- all that a session writes
abbrev pub transcript : ℕ → ℕ → List Entry → List Reading → List Answer → List ℕ
transcript client clients journal said answers = hello_line client clients ++ answered journal 0 said answers

-- the requests among what was said
abbrev pub requests_of : List Reading → List Request
requests_of [] = []
requests_of (Bad at ∷ said) = requests_of said
requests_of (Asks request ∷ said) = request ∷ requests_of said
requests_of (Bye ∷ said) = requests_of said
requests_of (Long ∷ said) = requests_of said

-- the requests that were answered
abbrev pub asked_of : List Answer → List Request
asked_of answers = map (λ (a : Answer). a.request) answers
