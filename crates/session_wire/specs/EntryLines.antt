-- Which lines tell an entry.
-- Left out: whether the board takes it. Cited by `decode_entry` and its laws.
use Rattle.std.specs.Prelude.{ℕ, ◌≤◌, ◌<◌, ◌^◌, List, ◌∷◌}
use Rattle.row_lists.specs.Limits.{client_limit}
use Rattle.board_items.specs.declared.history.Act.{Act}
use Rattle.board_items.specs.declared.history.Entry.{Entry}
use Rattle.board_items.specs.Formed.{IsFormedAct}
use Rattle.session_wire.specs.Lines.{act_text, entry_text}
use Rattle.session_wire.specs.Readings.{HasReading}

-- an act behind a space
abbrev pub next_act_text : Act → List ℕ
next_act_text act = 32 ∷ act_text act

-- an entry is numbered from 1, its client is one of 1 to 8, and its act's counts and numbers are in range
pub record IsEntry (e : Entry) : Type 0 where
  pub some_number : 1 ≤ e.number
  pub number_fits : e.number < 2 ^ 32
  pub some_client : 1 ≤ e.client
  pub client_fits : e.client ≤ client_limit
  pub act_formed : IsFormedAct e.act

-- the line spells an entry
abbrev pub HasEntry : List ℕ → Type 0
HasEntry = HasReading IsEntry entry_text
