-- What acts weigh, and how few numbers and entries there are within the weight of a history.
use Rattle.std.proofs.Common.{◌≡◌, ℕ, ◌+◌, ◌*◌, ◌<◌, ◌≤◌, ◌^◌, List, [], ◌∷◌, ◌++◌, length, map, refl, sym, ap, ◌∙◌, arith}
use Rattle.std.specs.List.{sum, sum_by}
use Rattle.std.proofs.lemmas.List.Sums.{sum-map, sum_by-cons}
use Rattle.row_lists.specs.Limits.{weight_limit}
use Rattle.board_items.specs.declared.requests.Add.{Add}
use Rattle.board_items.specs.declared.requests.Add.TheVariants as adds
use Rattle.board_items.specs.declared.requests.Request.TheVariants.{Edit, Reserve, Release, Fence, Unfence, Entitle, Rule}
use Rattle.board_items.specs.declared.history.Act.{Act}
use Rattle.board_items.specs.declared.history.Act.TheVariants.{Ask, Leave}
use Rattle.board_items.specs.declared.history.Call.{Call}
use Rattle.board_items.specs.Weights.{weight_of, weight_of_add}
use Rattle.board_core.specs.Boards.{Board, after, taken_by}
use Rattle.board_core.specs.Histories.{weight_of_calls}
use Rattle.serial_master.specs.declared.books.Terms.{Terms}
use Rattle.serial_master.specs.declared.books.Books.{Books}
use Rattle.serial_master.specs.Books.{IsKept}

abbrev weight_by : Call → ℕ
weight_by c = weight_of c.act

by_more : (calls : List Call) (c : Call) → sum_by weight_by (calls ++ c ∷ []) ≡ sum_by weight_by calls + weight_by c
by_more [] c = omega (arith, sum_by-cons weight_by c [])
by_more (x ∷ xs) c = omega (arith, by_more xs c, sum_by-cons weight_by x (xs ++ c ∷ []), sum_by-cons weight_by x xs)

pub weight_more : (calls : List Call) (c : Call) → weight_of_calls (calls ++ c ∷ []) ≡ weight_of_calls calls + weight_of c.act
weight_more calls c = sum-map weight_by (calls ++ c ∷ []) ∙ by_more calls c ∙ ap (λ (n : ℕ). n + weight_of c.act) (sym (sum-map weight_by calls))

add_weighs : (a : Add) → 4 ≤ weight_of_add a
add_weighs (adds.Wire net layer width points) = omega arith
add_weighs (adds.Via net padstack place) = omega arith

adds_weigh_by : (all : List Add) → 4 * length all ≤ sum_by weight_of_add all
adds_weigh_by [] = omega arith
adds_weigh_by (a ∷ rest) = omega (arith, add_weighs a, adds_weigh_by rest, sum_by-cons weight_of_add a rest)

-- each add weighs 4 or more
adds_weigh : (all : List Add) → 4 * length all ≤ sum (map weight_of_add all)
adds_weigh all = omega (arith, adds_weigh_by all, sum-map weight_of_add all)

-- what one act leaves: each number that it takes weighs 4 or more
pub record IsHeavier (b c : Board) (act : Act) : Type 0 where
  pub next : 4 * c.next_id ≤ 4 * b.next_id + weight_of act
  pub count : c.count ≡ b.count + 1
  pub weighty : 2 ≤ weight_of act

pub heavier : (b : Board) (client : ℕ) (act : Act) → IsHeavier b (after b client act) act
heavier b client (Ask (Edit deletes adds)) = record { next = omega (arith, adds_weigh adds); count = refl; weighty = omega arith }
heavier b client (Ask (Reserve id)) = record { next = omega arith; count = refl; weighty = omega arith }
heavier b client (Ask (Release id)) = record { next = omega arith; count = refl; weighty = omega arith }
heavier b client (Ask (Fence layers area clients)) = record { next = omega arith; count = refl; weighty = omega arith }
heavier b client (Ask (Unfence fence)) = record { next = omega arith; count = refl; weighty = omega arith }
heavier b client (Ask (Entitle fence other)) = record { next = omega arith; count = refl; weighty = omega arith }
heavier b client (Ask (Rule class clearance)) = record { next = omega arith; count = refl; weighty = omega arith }
heavier b client Leave = record { next = omega arith; count = refl; weighty = omega arith }

pub weighs : (act : Act) → 2 ≤ weight_of act
weighs act = (heavier (record { live = []; next_id = 0; held = []; fences = []; last = 0; rules = []; count = 0 }) 0 act).weighty

taken_weighs : (act : Act) → 4 * taken_by act ≤ weight_of act
taken_weighs (Ask (Edit deletes adds)) = omega (arith, adds_weigh adds)
taken_weighs (Ask (Reserve id)) = omega arith
taken_weighs (Ask (Release id)) = omega arith
taken_weighs (Ask (Fence layers area clients)) = omega arith
taken_weighs (Ask (Unfence fence)) = omega arith
taken_weighs (Ask (Entitle fence other)) = omega arith
taken_weighs (Ask (Rule class clearance)) = omega arith
taken_weighs Leave = omega arith

-- within the weight of a history there are few numbers and few entries
pub light_numbers : (t : Terms) (b : Books) (act : Act) → IsKept t b → b.weight + weight_of act ≤ weight_limit → b.board.next_id + taken_by act < 2 ^ 32
light_numbers t b act is light = omega (arith, is.next, t.design.sound.few_items, light, taken_weighs act)

pub light_journal : (t : Terms) (b : Books) (act : Act) → IsKept t b → b.weight + weight_of act ≤ weight_limit → length b.journal.items + 1 < 2 ^ 32
light_journal t b act is light = omega (arith, is.weighty, light)

-- a journal has fewer entries than a count of 32 bits tells
pub few_entries : (t : Terms) (b : Books) → IsKept t b → length b.journal.items < 2 ^ 32
few_entries t b is = omega (arith, is.weighty, is.light, is.terms.most)
