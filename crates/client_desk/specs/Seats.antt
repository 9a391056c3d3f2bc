-- What contracts see of a client's desk, and what holds of it between its calls.
-- Cited by the calls of `ClientDesk`
use Rattle.std.specs.Prelude.{◌≡◌, ℕ, ◌≤◌, Bool, List, [], length, take}
use Rattle.board_rules.specs.declared.design.Parts.{Parts}
use Rattle.board_core.specs.Histories.{has_left}
use Rattle.desk_core.specs.Desks.{DeskTold}
use Rattle.desk_core.specs.declared.desk.Answer.{Answer}
use Rattle.client_desk.specs.Standings.{Standing, journal}
use Rattle.client_desk.specs.Given.{HasAnswers}

-- what the one who answers stands for, whose desk it is, how many entries were handed out, the answers given, whether a look
-- answered `Ok` since the last ask, whether a call answered want of memory, and whether the client has left
pub record DeskState : Type 0 where
  pub standing : Standing
  pub client : ℕ
  pub handed : ℕ
  pub answers : List Answer
  pub looked : Bool
  pub ran_out : Bool
  pub left : Bool

-- what the desk tells: the entries handed out are the first ones of the journal
abbrev pub desk_told : DeskState → DeskTold
desk_told d = record { handed = take d.handed (journal d.standing); answers = d.answers; looked = d.looked; ran_out = d.ran_out; left = d.left }

-- a design of nothing
abbrev pub no_parts : Parts
no_parts = record { name = []; layers = []; stacks = []; nets = []; classes = []; pairs = []; outline = []; items = [] }

-- the desk is this client's, over one who answers for a design of these parts, so many clients and this limit
pub record IsSeatAt (parts : Parts) (clients limit client : ℕ) (s : Standing) (who : ℕ) : Type 0 where
  pub parts_are : s.parts ≡ parts
  pub clients_is : s.clients ≡ clients
  pub limit_is : s.limit ≡ limit
  pub client_is : who ≡ client

-- the client is one of those that there are, the entries handed out lie in the journal, and the answers are the client's
pub record IsDesk (s : Standing) (client handed : ℕ) (answers : List Answer) (left : Bool) : Type 0 where
  pub first : 1 ≤ client
  pub last : client ≤ s.clients
  pub handed_in : handed ≤ length (journal s)
  pub answered : HasAnswers s client answers
  pub left_is : left ≡ has_left client s.history
