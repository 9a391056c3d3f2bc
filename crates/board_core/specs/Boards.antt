-- The board as a fold of the entries over plain lists.
-- Models: a board of numbered items, of which a journal's entries take some away and put others, with what clients hold,
-- with their boundaries, and with the rules that its items keep. Left out: room that was made. Cited by the calls of
-- `Board`
use Rattle.std.specs.Prelude.{◌≡◌, ℕ, ◌+◌, Bool, not, ◌==◌, ◌&&◌, nat_le, if◌then◌else◌, Option, List, [], ◌∷◌, ◌++◌, length, take}
use Rattle.std.specs.List.{AllByRecursion, list_any, filter}
use Rattle.board_items.specs.declared.items.Item.{Item}
use Rattle.board_items.specs.declared.requests.Add.{Add}
use Rattle.board_items.specs.declared.requests.Request.{Request}
use Rattle.board_items.specs.declared.requests.Request.TheVariants as requests
use Rattle.board_items.specs.declared.history.Act.{Act}
use Rattle.board_items.specs.declared.history.Act.TheVariants as acts
use Rattle.board_items.specs.declared.history.Entry.{Entry}
use Rattle.board_items.specs.Adds.{item_of_add, layer_of_add}
use Rattle.board_rules.specs.declared.design.Parts.{Parts}
use Rattle.board_rules.specs.Classes.{untyped_of}
use Rattle.board_rules.specs.Designs.{IsFitItem}
use Rattle.board_rules.specs.FitAdds.{HasFitAdds}
use Rattle.board_rules.specs.Rules.{with_rule, IsFitRules}
use Rattle.number_slots.specs.Slots.{without, numbered}
use Rattle.reservations.specs.Held.{not_of}
use Rattle.boundaries.specs.Boundaries.{Boundary, boundary_of, fence_made, entitled_at}

-- the live items with their numbers, in the order of these, and the number that the next item gets; the held items, each
-- with its client, in the order of reserving; the boundaries with their numbers, and the number given last; the untyped
-- clearance of each class, in nm, or none; the count of entries
pub record Board : Type 0 where
  pub live : List (ℕ × Item)
  pub next_id : ℕ
  pub held : List (ℕ × ℕ)
  pub fences : List (ℕ × Boundary)
  pub last : ℕ
  pub rules : List (Option ℕ)
  pub count : ℕ

-- two boards are the same but for room that was made
pub record IsSameBoard (b c : Board) : Type 0 where
  pub live : b.live ≡ c.live
  pub next_id : b.next_id ≡ c.next_id
  pub held : b.held ≡ c.held
  pub fences : b.fences ≡ c.fences
  pub last : b.last ≡ c.last
  pub rules : b.rules ≡ c.rules
  pub count : b.count ≡ c.count

-- the board before the first entry: the loaded items, numbered from 1, none held, no boundary, and the rules that the
-- design's classes state
abbrev pub first_board : Parts → Board
first_board p = record { live = numbered 1 p.items; next_id = length p.items + 1; held = []; fences = []; last = 0; rules = untyped_of p; count = 0 }

-- what an add makes under a number; a wire on a layer above 255 makes nothing
abbrev pub made_of : ℕ → Add → List (ℕ × Item)
made_of n add = if nat_le (layer_of_add add) 255 then (n, item_of_add add) ∷ [] else []

-- what adds make, each under the next number
abbrev pub made_from : ℕ → List Add → List (ℕ × Item)
made_from n [] = []
made_from n (add ∷ rest) = made_of n add ++ made_from (n + 1) rest

-- the board without the items of these numbers and their reservations, and with what adds make at its end, under the next
-- numbers
abbrev pub edited : Board → List ℕ → List Add → Board
edited b deletes adds = record b {
  live = without deletes b.live ++ made_from b.next_id adds;
  next_id = b.next_id + length adds;
  held = without deletes b.held;
  count = b.count + 1;
}

-- something has the number
abbrev pub is_numbered : {T : Type 0} → ℕ → List (ℕ × T) → Bool
is_numbered n xs = list_any (λ x. x.0 == n) xs

-- what is held, with one more item where it is live and free
abbrev pub reserved : List (ℕ × Item) → List (ℕ × ℕ) → ℕ → ℕ → List (ℕ × ℕ)
reserved live held id client = if is_numbered id live && not (is_numbered id held) then held ++ (id, client) ∷ [] else held

-- what is held, without an item where this client holds it
abbrev pub released_by : ℕ → ℕ → List (ℕ × ℕ) → List (ℕ × ℕ)
released_by id client held = filter (λ x. not ((x.0 == id) && (x.1 == client))) held

-- the board after one more request of a client; what isn't there isn't changed
abbrev pub requested : Board → ℕ → Request → Board
requested b client (requests.Edit deletes adds) = edited b deletes adds
requested b client (requests.Reserve id) = record b { held = reserved b.live b.held id.0 client; count = b.count + 1 }
requested b client (requests.Release id) = record b { held = released_by id.0 client b.held; count = b.count + 1 }
requested b client (requests.Fence layers area clients) = record b {
  fences = b.fences ++ fence_made (b.last + 1) (boundary_of client layers area clients);
  last = b.last + 1;
  count = b.count + 1;
}
requested b client (requests.Unfence fence) = record b { fences = without (fence ∷ []) b.fences; count = b.count + 1 }
requested b client (requests.Entitle fence other) = record b { fences = entitled_at fence other b.fences; count = b.count + 1 }
requested b client (requests.Rule class clearance) = record b { rules = with_rule class clearance b.rules; count = b.count + 1 }

-- the board after one more act of a client: a leave ends the client's reservations
abbrev pub after : Board → ℕ → Act → Board
after b client (acts.Ask request) = requested b client request
after b client acts.Leave = record b { held = not_of client b.held; count = b.count + 1 }

-- the board after these entries, one after another
abbrev pub folded : Board → List Entry → Board
folded b [] = b
folded b (e ∷ es) = folded (after b e.client e.act) es

-- the board after the first k entries of a journal
abbrev pub board_at : Parts → List Entry → ℕ → Board
board_at p journal k = folded (first_board p) (take k journal)

-- the board after the whole journal
abbrev pub last_board : Parts → List Entry → Board
last_board p journal = folded (first_board p) journal

-- how many numbers an act takes
abbrev pub taken_by : Act → ℕ
taken_by (acts.Ask (requests.Edit deletes adds)) = length adds
taken_by _ = 0

-- each of these is fit for the design
abbrev pub AreFitItems : Parts → List (ℕ × Item) → Type 0
AreFitItems p live = AllByRecursion (λ (l : ℕ × Item). IsFitItem p l.1) live

-- each live item is fit for the design, and the rules have exactly one place a class
pub record IsBoardOf (p : Parts) (b : Board) : Type 0 where
  pub fit : AreFitItems p b.live
  pub rules : IsFitRules p b.rules

-- the adds of an act are fit for the design
abbrev pub HasFitAct : Parts → Act → Type 0
HasFitAct p (acts.Ask request) = HasFitAdds p request
HasFitAct p acts.Leave = Unit {0}
