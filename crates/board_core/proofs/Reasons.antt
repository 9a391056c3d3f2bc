-- Reasons of lists, one element after another.
use Rattle.std.proofs.Common.{◌≡◌, ℕ, zero, suc, ◌+◌, ◌<◌, List, [], ◌∷◌, ◌++◌, length, get_or, take, drop, refl, sym, ap, subst, arith, inl, inr, add-one}
use Rattle.std.specs.Prelude.{Option, Some, None}
use Rattle.board_items.specs.declared.items.Item.{Item}
use Rattle.board_items.specs.declared.requests.Add.{Add}
use Rattle.board_items.specs.declared.requests.Request.{Request}
use Rattle.board_items.specs.declared.requests.Request.TheVariants as requests
use Rattle.board_items.specs.declared.requests.Request.TheVariants.{Edit}
use Rattle.seg_geometry.specs.declared.points.Pt.{Pt}
use Rattle.board_core.specs.Barrings.{IsPlaceReason}
use Rattle.board_items.specs.declared.history.Why.{Why}
use Rattle.board_rules.specs.Reasons.{IsStaticReason}
use Rattle.board_rules.specs.Rules.{with_rule}
use Rattle.board_rules.specs.declared.design.Parts.{Parts}
use Rattle.board_core.specs.Boards.{Board}
use Rattle.number_slots.proofs.ByNumber.{left_at, by_lt}
use Rattle.board_core.specs.Edits.{IsDeleteReason, IsDeletesReason, IsOtherReason, IsHeldReason, IsBoardReason}
use Rattle.board_core.specs.Clearances.{IsUncleanReason}
use Rattle.board_core.specs.Answers.{IsAnswer}

take_more : (xs : List ℕ) (i id : ℕ) → i < length xs → id ≡ get_or xs i 0 → take (suc i) xs ≡ take i xs ++ id ∷ []
take_more [] i id lt is = absurd (omega arith)
take_more (x ∷ xs) zero id lt is = ap (λ (y : ℕ). y ∷ []) (sym is)
take_more (x ∷ xs) (suc i) id lt is = ap (λ (ys : List ℕ). x ∷ ys) (take_more xs i id (omega arith) is)

cut_at : (xs : List ℕ) (i id : ℕ) → i < length xs → id ≡ get_or xs i 0 → drop i xs ≡ id ∷ drop (suc i) xs
cut_at [] i id lt is = absurd (omega arith)
cut_at (x ∷ xs) zero id lt is = ap (λ (y : ℕ). y ∷ xs) (sym is)
cut_at (x ∷ xs) (suc i) id lt is = cut_at xs i id (omega arith) is

-- the delete that comes next gives a reason
pub deletes_here : (live : List (ℕ × Item)) (deletes : List ℕ) (i id : ℕ) (why : Why) → i < length deletes → id ≡ get_or deletes i 0 → IsDeleteReason live (take i deletes) id (Some why) → IsDeletesReason live (take i deletes) (drop i deletes) (Some why)
deletes_here live deletes i id why lt is h = rw (cut_at deletes i id lt is) (inl (refl, h))

deletes_suc : (live : List (ℕ × Item)) (deletes : List ℕ) (i id : ℕ) → i < length deletes → id ≡ get_or deletes i 0 → IsDeleteReason live (take i deletes) id None → (w : Option Why) → IsDeletesReason live (take (suc i) deletes) (drop (suc i) deletes) w → IsDeletesReason live (take i deletes) (drop i deletes) w
deletes_suc live deletes i id lt is h w more = rw (cut_at deletes i id lt is) (inr (h, subst (λ (front : List ℕ). IsDeletesReason live front (drop (suc i) deletes) w) (take_more deletes i id lt is) more))

-- the delete that comes next gives none
pub deletes_on : (live : List (ℕ × Item)) (deletes : List ℕ) (i id : ℕ) → i < length deletes → id ≡ get_or deletes i 0 → IsDeleteReason live (take i deletes) id None → (w : Option Why) → IsDeletesReason live (take (i + 1) deletes) (drop (i + 1) deletes) w → IsDeletesReason live (take i deletes) (drop i deletes) w
deletes_on live deletes i id lt is h w more = deletes_suc live deletes i id lt is h w (subst (λ (n : ℕ). IsDeletesReason live (take n deletes) (drop n deletes) w) (add-one i) more)

-- ---- who holds what is deleted

-- the delete at the place is held by another client
pub held_here : (held : List (ℕ × ℕ)) (client : ℕ) (deletes : List ℕ) (i : ℕ) (why : Why) → i < length deletes → IsOtherReason held client (get_or deletes i 0) (Some why) → IsHeldReason held client (drop i deletes) (Some why)
held_here held client deletes i why lt h = rw (left_at deletes i 0 lt) (inl (refl, h))

-- it isn't
pub held_on : (held : List (ℕ × ℕ)) (client : ℕ) (deletes : List ℕ) (i : ℕ) (w : Option Why) → i < length deletes → IsOtherReason held client (get_or deletes i 0) None → IsHeldReason held client (drop (i + 1) deletes) w → IsHeldReason held client (drop i deletes) w
held_on held client deletes i w lt h more = rw (left_at deletes i 0 lt) (inr (h, more))

-- an edit that is right by itself is answered by the board's reason
pub answered : (p : Parts) (b : Board) (clients client : ℕ) (r : Request) (deletes : List ℕ) (all : List Add) (why : Option Why) → r ≡ Edit deletes all → IsStaticReason p b.rules clients r None → IsBoardReason p b client deletes all why → IsAnswer p clients b client r why
answered p b clients client r deletes all why is static board = subst (λ (x : Request). IsAnswer p clients b client x why) (sym is) (inr (subst (λ (x : Request). IsStaticReason p b.rules clients x None) is static, board))

-- a reason by itself is the answer
pub static_answered : (p : Parts) (b : Board) (clients client : ℕ) (r : Request) (why : Why) → IsStaticReason p b.rules clients r (Some why) → IsAnswer p clients b client r (Some why)
static_answered p b clients client (requests.Edit deletes adds) why h = inl (refl, h)
static_answered p b clients client (requests.Reserve id) why h = absurd cc
static_answered p b clients client (requests.Release id) why h = absurd cc
static_answered p b clients client (requests.Fence layers area entitled) why h = inl (refl, h)
static_answered p b clients client (requests.Unfence fence) why h = absurd cc
static_answered p b clients client (requests.Entitle fence other) why h = absurd cc
static_answered p b clients client (requests.Rule class clearance) why h = inl (refl, h)

-- a boundary that is right by itself is answered by its place
pub fence_answered : (p : Parts) (b : Board) (clients client : ℕ) (r : Request) (layers : List ℕ) (area : List Pt) (entitled : List ℕ) (why : Option Why) → r ≡ requests.Fence layers area entitled → IsStaticReason p b.rules clients r None → IsPlaceReason p b client layers area why
    → IsAnswer p clients b client r why
fence_answered p b clients client r layers area entitled why is static place = subst (λ (x : Request). IsAnswer p clients b client x why) (sym is) (inr (subst (λ (x : Request). IsStaticReason p b.rules clients x None) is static, place))

-- a change of the clearance of a class that is there is answered by the live items
pub rule_answered : (p : Parts) (b : Board) (clients client : ℕ) (r : Request) (class clearance : ℕ) (why : Option Why) → r ≡ requests.Rule class clearance → IsStaticReason p b.rules clients r None → IsUncleanReason p (with_rule class clearance b.rules) b.live why → IsAnswer p clients b client r why
rule_answered p b clients client r class clearance why is static unclean = subst (λ (x : Request). IsAnswer p clients b client x why) (sym is) (inr (subst (λ (x : Request). IsStaticReason p b.rules clients x None) is static, unclean))

rule_there : (p : Parts) (rules : List (Option ℕ)) (clients class clearance : ℕ) → IsStaticReason p rules clients (requests.Rule class clearance) None → class < length p.classes
rule_there p rules clients class clearance (inl h) = absurd cc
rule_there p rules clients class clearance (inr h) = by_lt class (length p.classes) (class < length p.classes) (λ lt. lt) (λ past. absurd (h.0 past))

-- the class of a change that is right by itself is there
pub class_there : (p : Parts) (rules : List (Option ℕ)) (clients : ℕ) (r : Request) (class clearance : ℕ) → r ≡ requests.Rule class clearance → IsStaticReason p rules clients r None → class < length p.classes
class_there p rules clients r class clearance is static = rule_there p rules clients class clearance (subst (λ (x : Request). IsStaticReason p rules clients x None) is static)
