-- What a desk in memory keeps.
use Rattle.std.specs.Prelude.{◌≡◌, ◌⊎◌, ℕ, Bool, ◌+◌, ◌≤◌, List, ◌∷◌, [], ◌++◌, length, take}
use Rattle.std.specs.List.{AllByRecursion}
use Rattle.board_items.specs.declared.history.Act.TheVariants as acts
use Rattle.board_items.specs.declared.history.Entry.{Entry}
use Rattle.board_items.specs.declared.requests.Request.{Request}
use Rattle.desk_core.specs.declared.desk.Answer.{Answer}
use Rattle.desk_core.specs.Desks.{DeskTold, IsFormedEntry, IsShown}

-- so many entries of the journal were shown, and each answer's place lies in it
pub record IsKept (client most : ℕ) (journal : List Entry) (shown : ℕ) (answers : List Answer) : Type 0 where
  pub some_client : 1 ≤ client
  pub client_fits : client ≤ 8
  pub formed : AllByRecursion IsFormedEntry journal
  pub shown_in : shown ≤ length journal
  pub placed : AllByRecursion (IsShown journal) answers
  pub few : length journal ≤ most

-- the entry of a client's request behind so many entries
pub record IsAccepted (client : ℕ) (request : Request) (entries : ℕ) (entry : Entry) : Type 0 where
  pub numbered : entry.number ≡ entries + 1
  pub client_is : entry.client ≡ client
  pub act_is : entry.act ≡ acts.Ask request

-- the journal is as it was, or has the request's entry more
abbrev pub HasGrown : ℕ → ℕ → Request → List Entry → List Entry → Type 0
HasGrown client most request old new = (new ≡ old) ⊎ ((entry : Entry) × (new ≡ old ++ entry ∷ []) × IsAccepted client request (length old) entry × (length new ≤ most))

-- what contracts see of a desk in memory
pub record DeskState : Type 0 where
  pub client : ℕ
  pub most : ℕ
  pub journal : List Entry
  pub shown : ℕ
  pub answers : List Answer
  pub looked : Bool
  pub ran_out : Bool
  pub left : Bool

-- what the desk tells
abbrev pub desk_told : DeskState → DeskTold
desk_told d = record { handed = take d.shown d.journal; answers = d.answers; looked = d.looked; ran_out = d.ran_out; left = d.left }
