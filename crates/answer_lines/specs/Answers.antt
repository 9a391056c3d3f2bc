-- What a server says to a client, but for entries: the line that greets, and the answers.
-- Left out: which answer a line gets. Cited by `is_hello` and `decode_answer`, and by a client's talk
use Rattle.std.specs.Prelude.{◌≡◌, ◌⊎◌, ℕ, ◌≤◌, ◌<◌, ◌^◌, List, ◌∷◌, ◌++◌, codes, decimal}
use Rattle.row_lists.specs.Limits.{client_limit, line_limit_bytes}
use Rattle.board_items.specs.declared.history.Why.{Why}
use Rattle.board_items.specs.declared.history.Why.TheVariants as whys
use Rattle.session_wire.specs.Replies.{why_text}
use Rattle.answer_lines.specs.declared.answers.Goes.{Goes}
use Rattle.answer_lines.specs.declared.answers.Goes.TheVariants as goes

-- the most that a number of 32 bits may be
abbrev pub number_limit : ℕ
number_limit = 4294967295

-- a word with its space, and a number up to a bound
pub record IsNumbered (word : List ℕ) (most : ℕ) (text : List ℕ) : Type 0 where
  pub number : ℕ
  pub fits : number ≤ most
  pub spelled : text ≡ word ++ decimal number

-- a word with its space, and two numbers, the second one up to a bound
pub record IsTwice (word : List ℕ) (most : ℕ) (text : List ℕ) : Type 0 where
  pub first : ℕ
  pub second : ℕ
  pub first_fits : first ≤ number_limit
  pub second_fits : second ≤ most
  pub spelled : text ≡ word ++ (decimal first ++ (32 ∷ decimal second))

-- the line that greets: the client's number, and how many clients there are
pub record IsHello (line : List ℕ) : Type 0 where
  pub client : ℕ
  pub clients : ℕ
  pub some_client : 1 ≤ client
  pub client_fits : client ≤ client_limit
  pub some_clients : 1 ≤ clients
  pub clients_fit : clients ≤ client_limit
  pub spelled : line ≡ codes "hello " ++ (decimal client ++ (32 ∷ decimal clients))

-- the numbers in a reason are in range
abbrev pub IsWhy : Why → Type 0
IsWhy whys.Empty = Unit {0}
IsWhy (whys.Net add) = add < 2 ^ 32
IsWhy (whys.Layer add) = add < 2 ^ 32
IsWhy (whys.Narrow add) = add < 2 ^ 32
IsWhy (whys.Padstack add) = add < 2 ^ 32
IsWhy (whys.Range add) = add < 2 ^ 32
IsWhy (whys.Outside add) = add < 2 ^ 32
IsWhy (whys.Own a b) = (a < 2 ^ 32) × (b < 2 ^ 32)
IsWhy (whys.Repeated id) = id.0 < 2 ^ 32
IsWhy (whys.Missing id) = id.0 < 2 ^ 32
IsWhy (whys.Fixed id) = id.0 < 2 ^ 32
IsWhy (whys.Reserved id client) = (id.0 < 2 ^ 32) × (client < 256)
IsWhy (whys.Protected fence) = fence < 2 ^ 32
IsWhy (whys.Clash add id) = (add < 2 ^ 32) × (id.0 < 2 ^ 32)
IsWhy (whys.Unheld id) = id.0 < 2 ^ 32
IsWhy whys.Area = Unit {0}
IsWhy (whys.FenceLayer layer) = layer < 256
IsWhy (whys.Client client) = client < 256
IsWhy (whys.Overlap fence) = fence < 2 ^ 32
IsWhy (whys.Covers id) = id.0 < 2 ^ 32
IsWhy (whys.NoFence fence) = fence < 2 ^ 32
IsWhy (whys.NotOwner fence) = fence < 2 ^ 32
IsWhy (whys.NoClass class) = class < 2 ^ 32
IsWhy (whys.Unclean a b) = (a.0 < 2 ^ 32) × (b.0 < 2 ^ 32)

-- the text spells a reason
pub record IsReason (text : List ℕ) : Type 0 where
  pub why : Why
  pub fits : IsWhy why
  pub spelled : text ≡ why_text why

-- a request was refused for a reason
pub record IsNo (line : List ℕ) : Type 0 where
  pub text : List ℕ
  pub reason : IsReason text
  pub spelled : line ≡ codes "no " ++ text

-- an answer behind which the session goes on: accepted, refused, or without a reading
abbrev pub GoesOn : List ℕ → Type 0
GoesOn line = IsNumbered (codes "ok ") number_limit line ⊎ IsNo line ⊎ IsNumbered (codes "bad ") line_limit_bytes line

-- the last answer of a session
abbrev pub IsLast : List ℕ → Type 0
IsLast line = (line ≡ codes "full") ⊎ (line ≡ codes "long") ⊎ (line ≡ codes "memory")

-- an answer, by what comes behind it
abbrev pub IsAnswer : Goes → List ℕ → Type 0
IsAnswer goes.On line = GoesOn line
IsAnswer goes.Last line = IsLast line
