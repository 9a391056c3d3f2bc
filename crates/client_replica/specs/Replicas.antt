-- What a replica holds, and how it follows entries.
-- Models: a client's own board, which takes the entries that it is sent, in their order and within a history's weight.
-- Cited by the calls of `Replica` and by a client's talk
use Rattle.std.specs.Prelude.{◌≡◌, ◌≢◌, ℕ, ◌+◌, ◌*◌, ◌<◌, ◌≤◌, List, [], ◌∷◌, Result, Ok, Err}
use Rattle.row_lists.specs.Limits.{item_limit, weight_limit}
use Rattle.board_items.specs.declared.history.Entry.{Entry}
use Rattle.board_items.specs.Weights.{weight_of}
use Rattle.board_rules.specs.declared.design.Parts.{Parts}
use Rattle.board_core.specs.Boards.{Board, first_board, after}
use Rattle.client_replica.specs.declared.why.ReplicaWhy.{ReplicaWhy}
use Rattle.client_replica.specs.declared.why.ReplicaWhy.TheVariants as whys

-- the design's parts, its board after some entries, and what these weigh together
pub record Following : Type 0 where
  pub parts : Parts
  pub board : Board
  pub weight : ℕ

-- before the first entry
abbrev pub first_of : Parts → Following
first_of p = record { parts = p; board = first_board p; weight = 0 }

-- with one entry more
abbrev pub followed : Following → Entry → Following
followed r e = record { parts = r.parts; board = after r.board e.client e.act; weight = r.weight + weight_of e.act }

-- the entry's number is the next one
abbrev pub IsNumbered : Board → Entry → Type 0
IsNumbered board e = e.number ≡ board.count + 1

-- the entry is the next one, and with it the entries weigh no more than they may
pub record IsNext (board : Board) (weight : ℕ) (e : Entry) : Type 0 where
  pub numbered : IsNumbered board e
  pub light : weight + weight_of e.act ≤ weight_limit

-- the entry isn't the next one
pub record IsGap (board : Board) (e : Entry) (want got : ℕ) : Type 0 where
  pub want_is : want ≡ board.count + 1
  pub got_is : got ≡ e.number
  pub apart : got ≢ want

-- the entry is the next one, and with it the entries would weigh more than they may
pub record IsHeavy (board : Board) (weight : ℕ) (e : Entry) (all : ℕ) : Type 0 where
  pub numbered : IsNumbered board e
  pub all_is : all ≡ weight + weight_of e.act
  pub heavy : weight_limit < all

-- why an entry isn't taken
abbrev pub WhyNot : Board → ℕ → Entry → ReplicaWhy → Type 0
WhyNot board weight e (whys.Gap want got) = IsGap board e want got
WhyNot board weight e (whys.Heavy all) = IsHeavy board weight e all
WhyNot board weight e whys.Memory = Unit {0}

-- what the entries weigh with one more, or why it isn't taken
abbrev pub Weighs : Board → ℕ → Entry → Result ℕ ReplicaWhy → Type 0
Weighs board weight e (Ok all) = IsNext board weight e × (all ≡ weight + weight_of e.act)
Weighs board weight e (Err why) = WhyNot board weight e why

-- an entry was taken, or it wasn't and nothing changed
abbrev pub Follows : {T : Type 0} → Following → Entry → Following → Result T ReplicaWhy → Type 0
Follows old e new (Ok x) = IsNext old.board old.weight e × (new ≡ followed old e)
Follows old e new (Err why) = WhyNot old.board old.weight e why × (new ≡ old)

-- entries were taken one after another
abbrev pub FollowsAll : Following → List Entry → Following → Type 0
FollowsAll old [] new = new ≡ old
FollowsAll old (e ∷ es) new = IsNext old.board old.weight e × FollowsAll (followed old e) es new

-- each entry weighs 2 at least and takes no more numbers than it weighs; so the counts stay small
pub record IsSteady (board : Board) (weight : ℕ) : Type 0 where
  pub counted : 2 * board.count ≤ weight
  pub numbered : board.next_id ≤ item_limit + 1 + weight
  pub light : weight ≤ weight_limit
