-- Which bytes are a feed, and which line of other bytes is the first that isn't an entry.
-- Left out: whether the entries follow one another, and whether a board takes them. Cited by `feed_since` and `read_feed`.
use Rattle.std.specs.Prelude.{◌≡◌, ℕ, ◌+◌, ◌-◌, ◌<◌, List, ◌++◌, length, take, drop, Result, Ok, Err}
use Rattle.std.specs.List.{flat_map, AllByRecursion}
use Rattle.board_items.specs.declared.history.Entry.{Entry}
use Rattle.session_wire.specs.Lines.{entry_line}
use Rattle.session_wire.specs.EntryLines.{IsEntry, HasEntry}
use Rattle.client_feed.specs.declared.fault.FeedFault.{FeedFault}
use Rattle.client_feed.specs.declared.fault.FeedFault.TheVariants.{Line, Memory}

-- the lines of the entries after the first `from`, up to the entry `to`
abbrev pub feed : List Entry → ℕ → ℕ → List ℕ
feed journal from to = flat_map entry_line (take (to - from) (drop from journal))

-- the bytes are the lines of these entries
pub record IsFeed (bytes : List ℕ) (entries : List Entry) : Type 0 where
  pub formed : AllByRecursion IsEntry entries
  pub spelled : bytes ≡ flat_map entry_line entries

-- no entry's line begins the bytes
abbrev pub HasNoEntry : List ℕ → Type 0
HasNoEntry bytes = (entry : Entry) (more : List ℕ) → IsEntry entry → bytes ≡ entry_line entry ++ more → ⊥

-- the lines of entries stand first, and then the line of this number, which is no entry's
pub record IsFirstBad (bytes : List ℕ) (line : ℕ) : Type 0 where
  pub before : List Entry
  pub rest : List ℕ
  pub formed : AllByRecursion IsEntry before
  pub parts : bytes ≡ flat_map entry_line before ++ rest
  pub some : 0 < length rest
  pub bad : HasNoEntry rest
  pub number : line ≡ length before + 1

-- why bytes aren't a feed
abbrev pub WhyNoFeed : List ℕ → FeedFault → Type 0
WhyNoFeed bytes (Line line) = IsFirstBad bytes line
WhyNoFeed bytes Memory = Unit {0}

-- why a line, which has this number, isn't read
abbrev pub WhyNoEntry : List ℕ → ℕ → FeedFault → Type 0
WhyNoEntry line number (Line k) = (k ≡ number) × (HasEntry line → ⊥)
WhyNoEntry line number Memory = Unit {0}

-- the result is the wanted one, want of memory aside
abbrev pub Gives : {T : Type 0} → Result T FeedFault → Result T FeedFault → Type 0
Gives (Ok x) wanted = wanted ≡ Ok x
Gives (Err (Line line)) wanted = wanted ≡ Err (Line line)
Gives (Err Memory) wanted = Unit {0}
