-- A board's counts after one more entry, and the board after many.
use Rattle.std.proofs.Common.{◌≡◌, ℕ, ◌+◌, ◌≤◌, List, [], ◌∷◌, length, map, refl, ap, ◌∙◌, arith}
use Rattle.std.specs.List.{sum, sum_by}
use Rattle.std.proofs.lemmas.List.Sums.{sum-map, sum_by-cons}
use Rattle.board_items.specs.declared.history.Act.{Act}
use Rattle.board_items.specs.declared.history.Act.TheVariants as acts
use Rattle.board_items.specs.declared.history.Entry.{Entry}
use Rattle.board_items.specs.declared.requests.Add.{Add}
use Rattle.board_items.specs.declared.requests.Add.TheVariants as adds
use Rattle.board_items.specs.declared.requests.Request.TheVariants as requests
use Rattle.board_items.specs.Weights.{weight_of, weight_of_add}
use Rattle.board_rules.specs.declared.design.Design.{Design}
use Rattle.board_core.specs.Boards.{Board, IsSameBoard, first_board, after, folded, taken_by}
use Rattle.client_replica.specs.Replicas.{Following, followed, FollowsAll, IsNext, IsSteady}

one_weighs : (a : Add) → 4 ≤ weight_of_add a
one_weighs (adds.Wire net layer width points) = omega arith
one_weighs (adds.Via net padstack place) = omega arith

-- each add weighs 4 at least
adds_weigh : (added : List Add) → length added ≤ sum (map weight_of_add added)
adds_weigh [] = omega arith
adds_weigh (a ∷ rest) =
    let h = adds_weigh rest in
    let one = one_weighs a in
    let whole : sum (map weight_of_add (a ∷ rest)) ≡ weight_of_add a + sum_by weight_of_add rest = sum-map weight_of_add (a ∷ rest) ∙ sum_by-cons weight_of_add a rest in
    let left : sum (map weight_of_add rest) ≡ sum_by weight_of_add rest = sum-map weight_of_add rest in
    omega (arith, h, one, whole, left)

-- an act weighs 2 at least, and takes no more numbers than it weighs
pub takes_few : (act : Act) → taken_by act ≤ weight_of act
takes_few (acts.Ask (requests.Edit deletes added)) = let h = adds_weigh added in omega (arith, h)
takes_few (acts.Ask (requests.Reserve id)) = omega arith
takes_few (acts.Ask (requests.Release id)) = omega arith
takes_few (acts.Ask (requests.Fence layers area clients)) = omega arith
takes_few (acts.Ask (requests.Unfence fence)) = omega arith
takes_few (acts.Ask (requests.Entitle fence client)) = omega arith
takes_few (acts.Ask (requests.Rule class clearance)) = omega arith
takes_few acts.Leave = omega arith

weighs_two : (act : Act) → 2 ≤ weight_of act
weighs_two (acts.Ask (requests.Edit deletes added)) = omega arith
weighs_two (acts.Ask (requests.Reserve id)) = omega arith
weighs_two (acts.Ask (requests.Release id)) = omega arith
weighs_two (acts.Ask (requests.Fence layers area clients)) = omega arith
weighs_two (acts.Ask (requests.Unfence fence)) = omega arith
weighs_two (acts.Ask (requests.Entitle fence client)) = omega arith
weighs_two (acts.Ask (requests.Rule class clearance)) = omega arith
weighs_two acts.Leave = omega arith

counted_after : (b : Board) (client : ℕ) (act : Act) → (after b client act).count ≡ b.count + 1
counted_after b client (acts.Ask (requests.Edit deletes added)) = refl
counted_after b client (acts.Ask (requests.Reserve id)) = refl
counted_after b client (acts.Ask (requests.Release id)) = refl
counted_after b client (acts.Ask (requests.Fence layers area clients)) = refl
counted_after b client (acts.Ask (requests.Unfence fence)) = refl
counted_after b client (acts.Ask (requests.Entitle fence other)) = refl
counted_after b client (acts.Ask (requests.Rule class clearance)) = refl
counted_after b client acts.Leave = refl

numbered_after : (b : Board) (client : ℕ) (act : Act) → (after b client act).next_id ≡ b.next_id + taken_by act
numbered_after b client (acts.Ask (requests.Edit deletes added)) = refl
numbered_after b client (acts.Ask (requests.Reserve id)) = omega arith
numbered_after b client (acts.Ask (requests.Release id)) = omega arith
numbered_after b client (acts.Ask (requests.Fence layers area clients)) = omega arith
numbered_after b client (acts.Ask (requests.Unfence fence)) = omega arith
numbered_after b client (acts.Ask (requests.Entitle fence other)) = omega arith
numbered_after b client (acts.Ask (requests.Rule class clearance)) = omega arith
numbered_after b client acts.Leave = omega arith

-- the counts stay small with one more entry
pub steady_next : (b c : Board) (weight all : ℕ) (e : Entry) → IsSteady b weight → IsNext b weight e → all ≡ weight + weight_of e.act → IsSameBoard c (after b e.client e.act) → IsSteady c all
steady_next b c weight all e s next all_is made =
    let count = counted_after b e.client e.act in
    let number = numbered_after b e.client e.act in
    let some = weighs_two e.act in
    let few = takes_few e.act in
    record {
      counted = omega (arith, s.counted, made.count, count, some, all_is);
      numbered = omega (arith, s.numbered, made.next_id, number, few, all_is);
      light = omega (arith, next.light, all_is);
    }

pub steady_first : (design : Design) (b : Board) → IsSameBoard b (first_board design.parts) → IsSteady b 0
steady_first design b same = record {
  counted = omega (arith, same.count);
  numbered = omega (arith, same.next_id, design.sound.few_items);
  light = omega arith;
}

pub folds : (r : Following) (es : List Entry) (s : Following) → FollowsAll r es s → s.board ≡ folded r.board es
folds r [] s h = ap (λ (x : Following). x.board) h
folds r (e ∷ es) s h = folds (followed r e) es s h.1

pub counts : (r : Following) (es : List Entry) (s : Following) → FollowsAll r es s → s.board.count ≡ r.board.count + length es
counts r [] s h = let same : s.board.count ≡ r.board.count = ap (λ (x : Following). x.board.count) h in omega (arith, same)
counts r (e ∷ es) s h =
    let more = counts (followed r e) es s h.1 in
    let one = counted_after r.board e.client e.act in
    omega (arith, more, one)
