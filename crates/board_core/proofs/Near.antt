-- Which live item is the least that an item is too near to.
use Rattle.std.proofs.Common.{◌≡◌, ℕ, ◌+◌, ◌<◌, ◌≤◌, List, [], ◌∷◌, ◌++◌, length, get_or, drop, refl, sym, ap, subst, ◌∙◌, arith, inl, inr, Bool, true, false}
use Rattle.std.specs.Prelude.{◌⊎◌, ◌↔◌, IsTrue, not, Option, Some, None}
use Rattle.std.specs.List.{AllByRecursion}
use Rattle.std.proofs.lemmas.Bool.{not_from_false, not-true, false_from_ne_true}
use Rattle.board_items.specs.declared.items.Item.{Item}
use Rattle.board_items.specs.declared.requests.Add.{Add}
use Rattle.board_items.specs.declared.requests.Request.{Request}
use Rattle.board_items.specs.declared.requests.Request.TheVariants as requests
use Rattle.board_items.specs.declared.history.Why.{Why}
use Rattle.board_items.specs.declared.history.Why.TheVariants as whys
use Rattle.board_items.specs.Adds.{item_of_add}
use Rattle.board_rules.specs.declared.design.Parts.{Parts}
use Rattle.board_rules.proofs.Walked.{left_is}
use Rattle.board_rules.specs.Costs.{static_most}
use Rattle.board_rules.specs.Designs.{IsFitItem}
use Rattle.board_rules.specs.Needs.{KeepsNeed}
use Rattle.number_slots.specs.Slots.{is_among, without, IsAt, IsRisingFrom}
use Rattle.number_slots.specs.Leasts.{IsLeast}
use Rattle.number_slots.proofs.ByNumber.{at_least, at_holds}
use Rattle.board_core.specs.Edits.{IsNear, IsNearItem, IsClashReason, clash, IsDeleteReason, IsDeletesReason}
use Rattle.board_core.specs.Boards.{Board, AreFitItems}
use Rattle.board_core.specs.Reasons.{Least}
use Rattle.board_core.specs.Barrings.{IsProtectedReason}
use Rattle.board_core.proofs.Leasts.{least_same}
use Rattle.board_core.specs.Costs.{item_most, near_item_most, tests_pairs, tests_fences, clashes_most, deletes_most, adds_touch_most, fences_of_edit, pairs_of_edit, board_most, answer_most}

-- an item that isn't deleted is near where it doesn't keep its need
pub near_told : (p : Parts) (rules : List (Option ℕ)) (deletes : List ℕ) (item other : Item) (id : ℕ) (keeps : Bool) → is_among id deletes ≡ false → IsTrue keeps ↔ KeepsNeed p rules item other → IsTrue (not keeps) ↔ IsNearItem p rules deletes item (id, other)
near_told p rules deletes item other id keeps stays told = (
  λ t. ((λ k. let yes_ : keeps ≡ true = told.1 k in let no_ : keeps ≡ false = not-true keeps t in absurd cc), stays),
  λ n. not_from_false keeps (false_from_ne_true keeps (λ t. n.0 (told.0 t))),
)

-- a deleted one isn't near
pub gone_told : (p : Parts) (rules : List (Option ℕ)) (deletes : List ℕ) (item other : Item) (id : ℕ) → is_among id deletes ≡ true → IsTrue false ↔ IsNearItem p rules deletes item (id, other)
gone_told p rules deletes item other id gone = (λ t. absurd cc, λ n. let stays : is_among id deletes ≡ false = n.1 in absurd cc)

-- ---- a walk over live items

-- the others rise too
pub rises_on : (n : ℕ) (y : ℕ × Item) (rest : List (ℕ × Item)) → IsRisingFrom n (y ∷ rest) → IsRisingFrom n rest
rises_on n y [] r = tt
rises_on n y (z ∷ zs) r = (omega (arith, r.0, r.1.0), r.1.1)

near_later : (p : Parts) (rules : List (Option ℕ)) (deletes : List ℕ) (item : Item) (y : ℕ × Item) (rest : List (ℕ × Item)) (n : ℕ) (x : Item) → IsAt (y ∷ rest) n x → (KeepsNeed p rules item x → ⊥) → is_among n deletes ≡ false
    → IsNearItem p rules deletes item y ⊎ IsNear p rules rest deletes item n
near_later p rules deletes item y rest n x (inl h) near stays = inl ((λ k. near (subst (KeepsNeed p rules item) h.1 k)), subst (λ (m : ℕ). is_among m deletes ≡ false) (sym h.0) stays)
near_later p rules deletes item y rest n x (inr h) near stays = inr (record { other = x; other_is = h; near = near; stays = stays })

-- the items of a walk that are left, behind the first one
pub fit_rest : (p : Parts) (xs : List (ℕ × Item)) (y : ℕ × Item) (rest : List (ℕ × Item)) → xs ≡ y ∷ rest → AreFitItems p xs → AreFitItems p rest
fit_rest p xs y rest cut fit = (subst (AreFitItems p) cut fit).1

pub rises_rest : (xs : List (ℕ × Item)) (y : ℕ × Item) (rest : List (ℕ × Item)) → xs ≡ y ∷ rest → IsRisingFrom 1 xs → IsRisingFrom 1 rest
rises_rest xs y rest cut r = rises_on 1 y rest (subst (λ (zs : List (ℕ × Item)). IsRisingFrom 1 zs) cut r)

-- the first item isn't near
pub near_pass : (p : Parts) (rules : List (Option ℕ)) (deletes : List ℕ) (item : Item) (xs : List (ℕ × Item)) (y : ℕ × Item) (rest : List (ℕ × Item)) (r : Option ℕ) → xs ≡ y ∷ rest → (IsNearItem p rules deletes item y → ⊥) → IsLeast (IsNear p rules rest deletes item) r → IsLeast (IsNear p rules xs deletes item) r
near_pass p rules deletes item xs y rest r cut none h =
    let all : IsLeast (IsNear p rules (y ∷ rest) deletes item) r = least_same (IsNear p rules rest deletes item) (IsNear p rules (y ∷ rest) deletes item) r
    (λ n k. record { other = k.other; other_is = inr k.other_is; near = k.near; stays = k.stays })
    (λ n k. elim (near_later p rules deletes item y rest n k.other k.other_is k.near k.stays) [ inl f ↦ absurd (none f) | inr g ↦ g ]) h in
    subst (λ (zs : List (ℕ × Item)). IsLeast (IsNear p rules zs deletes item) r) (sym cut) all

-- it is
pub near_first : (p : Parts) (rules : List (Option ℕ)) (deletes : List ℕ) (item : Item) (xs : List (ℕ × Item)) (y : ℕ × Item) (rest : List (ℕ × Item)) → xs ≡ y ∷ rest → IsRisingFrom 1 xs → IsNearItem p rules deletes item y → IsLeast (IsNear p rules xs deletes item) (Some y.0)
near_first p rules deletes item xs y rest cut r near =
    let rises : IsRisingFrom 1 (y ∷ rest) = subst (λ (zs : List (ℕ × Item)). IsRisingFrom 1 zs) cut r in
    let all : IsLeast (IsNear p rules (y ∷ rest) deletes item) (Some y.0) =
    (record { other = y.1; other_is = inl (refl, refl); near = near.0; stays = near.1 }, λ m k. at_least y.0 (y ∷ rest) m k.other (omega arith, rises.1) k.other_is) in
    subst (λ (zs : List (ℕ × Item)). IsLeast (IsNear p rules zs deletes item) (Some y.0)) (sym cut) all

-- no item is left
pub near_end : (p : Parts) (rules : List (Option ℕ)) (deletes : List ℕ) (item : Item) (xs : List (ℕ × Item)) → xs ≡ [] → IsLeast (IsNear p rules xs deletes item) None
near_end p rules deletes item xs over = λ n k. subst (λ (zs : List (ℕ × Item)). IsAt zs n k.other) over k.other_is

cost_one : (p : Parts) (deletes : List ℕ) (item : Item) (y : ℕ × Item) (rest : List (ℕ × Item)) (b : Bool) → is_among y.0 deletes ≡ b
    → near_item_most p deletes item y + item_most p item (without deletes rest) ≡ item_most p item (without deletes (y ∷ rest))
cost_one p deletes item y rest true e = rw e (omega arith)
cost_one p deletes item y rest false e = rw e refl

-- the first item's steps and those of the others
pub cost_on : (p : Parts) (deletes : List ℕ) (item : Item) (xs : List (ℕ × Item)) (y : ℕ × Item) (rest : List (ℕ × Item)) → xs ≡ y ∷ rest → near_item_most p deletes item y + item_most p item (without deletes rest) ≡ item_most p item (without deletes xs)
cost_on p deletes item xs y rest cut = cost_one p deletes item y rest (is_among y.0 deletes) refl ∙ ap (λ (zs : List (ℕ × Item)). item_most p item (without deletes zs)) (sym cut)

-- the least near item of a walk over a board under the board's rules
pub near_of_board : (p : Parts) (b : Board) (deletes : List ℕ) (item : Item) (rules : List (Option ℕ)) (live : List (ℕ × Item)) (r : Option ℕ) → rules ≡ b.rules → live ≡ b.live → IsLeast (IsNear p rules live deletes item) r → IsLeast (IsNear p b.rules b.live deletes item) r
near_of_board p b deletes item rules live r same all h = subst (λ (rs : List (Option ℕ)). IsLeast (IsNear p rs b.live deletes item) r) same (subst (λ (xs : List (ℕ × Item)). IsLeast (IsNear p rules xs deletes item) r) all h)

-- ---- what is tested

-- a clash, or none, is what adds are tested for
pub clash_tests : (p : Parts) (rules : List (Option ℕ)) (live : List (ℕ × Item)) (deletes : List ℕ) (a : ℕ) (adds : List Add) (why : Option Why) → IsClashReason p rules live deletes a adds why → tests_pairs why ≡ true
clash_tests p rules live deletes a [] why none = ap tests_pairs none
clash_tests p rules live deletes a (add ∷ rest) None h = refl
clash_tests p rules live deletes a (add ∷ rest) (Some why) (inl h) = ap (λ w. tests_pairs (Some w)) h.1.3
clash_tests p rules live deletes a (add ∷ rest) (Some why) (inr h) = clash_tests p rules live deletes (a + 1) rest (Some why) h.1

delete_tests : (live : List (ℕ × Item)) (before : List ℕ) (id : ℕ) (why : Why) → IsDeleteReason live before id (Some why) → tests_pairs (Some why) ≡ false
delete_tests live before id why (inl h) = ap tests_pairs h.1
delete_tests live before id why (inr (_, inl h)) = ap tests_pairs h.1
delete_tests live before id why (inr (_, inr (_, inl h))) = ap tests_pairs h.1
delete_tests live before id why (inr (_, inr (_, inr h))) = absurd cc

-- a reason of the deletes is found without a test of pairs
pub deletes_tests : (live : List (ℕ × Item)) (before deletes : List ℕ) (why : Why) → IsDeletesReason live before deletes (Some why) → tests_pairs (Some why) ≡ false
deletes_tests live before [] why none = absurd cc
deletes_tests live before (id ∷ rest) why (inl h) = delete_tests live before id why h.1
deletes_tests live before (id ∷ rest) why (inr h) = deletes_tests live (before ++ id ∷ []) rest why h.1

-- a live item is fit where each is
pub fit_at : (p : Parts) (live : List (ℕ × Item)) (id : ℕ) (x : Item) → AllByRecursion (λ (l : ℕ × Item). IsFitItem p l.1) live → IsAt live id x → IsFitItem p x
fit_at p live id x all h = at_holds (λ (l : ℕ × Item). IsFitItem p l.1) live id x all h

-- ---- adds, one after another

-- the add at the place clashes
pub clash_here : (p : Parts) (rules : List (Option ℕ)) (live : List (ℕ × Item)) (deletes : List ℕ) (a i id : ℕ) (adds : List Add) (d : Add) → i < length adds → d ≡ get_or adds i d → IsLeast (IsNear p rules live deletes (item_of_add d)) (Some id) → IsClashReason p rules live deletes a (drop i adds) (Some (clash a id))
clash_here p rules live deletes a i id adds d lt is h = subst (λ (rest : List Add). IsClashReason p rules live deletes a rest (Some (clash a id))) (sym (left_is adds i d lt is)) (inl (refl, (id, h.0, h.1, refl)))

-- it doesn't
pub clash_on : (p : Parts) (rules : List (Option ℕ)) (live : List (ℕ × Item)) (deletes : List ℕ) (a i : ℕ) (adds : List Add) (d : Add) (w : Option Why) → i < length adds → d ≡ get_or adds i d → IsLeast (IsNear p rules live deletes (item_of_add d)) None → IsClashReason p rules live deletes (a + 1) (drop (i + 1) adds) w → IsClashReason p rules live deletes a (drop i adds) w
clash_on p rules live deletes a i adds d w lt is none more = subst (λ (rest : List Add). IsClashReason p rules live deletes a rest w) (sym (left_is adds i d lt is)) (inr (none, more))

-- ---- steps

-- a request by itself takes no more than its answer may
pub static_within : (p : Parts) (b : Board) (r : Request) (why : Option Why) → static_most p r ≤ answer_most p b r why
static_within p b (requests.Edit deletes adds) why = omega arith
static_within p b (requests.Reserve id) why = omega arith
static_within p b (requests.Release id) why = omega arith
static_within p b (requests.Fence layers area clients) why = omega arith
static_within p b (requests.Unfence fence) why = omega arith
static_within p b (requests.Entitle fence client) why = omega arith
static_within p b (requests.Rule class clearance) why = omega arith

-- an edit takes that and what the board's reason takes
pub edit_within : (p : Parts) (b : Board) (r : Request) (deletes : List ℕ) (adds : List Add) (why : Option Why) → r ≡ requests.Edit deletes adds → static_most p r + board_most p b deletes adds why ≡ answer_most p b r why
edit_within p b r deletes adds why is = subst (λ (x : Request). static_most p x + board_most p b deletes adds why ≡ answer_most p b x why) (sym is) refl

-- a boundary that bars is found without a test of pairs
pub protected_within : (p : Parts) (b : Board) (client : ℕ) (deletes : List ℕ) (adds : List Add) (why : Why) → IsProtectedReason p b client deletes adds (Some why) → deletes_most p b deletes + adds_touch_most p b.fences adds ≤ board_most p b deletes adds (Some why)
protected_within p b client deletes adds why h =
    let t : tests_fences (Some why) ≡ true = ap (λ w. tests_fences (Some w)) h.3 in
    let e : fences_of_edit p b deletes adds (Some why) ≡ deletes_most p b deletes + adds_touch_most p b.fences adds = rw t refl in
    omega (arith, e)

fences_too : (why : Option Why) → tests_pairs why ≡ true → tests_fences why ≡ true
fences_too None t = refl
fences_too (Some whys.Empty) t = absurd cc
fences_too (Some (whys.Net add)) t = absurd cc
fences_too (Some (whys.Layer add)) t = absurd cc
fences_too (Some (whys.Narrow add)) t = absurd cc
fences_too (Some (whys.Padstack add)) t = absurd cc
fences_too (Some (whys.Range add)) t = absurd cc
fences_too (Some (whys.Outside add)) t = absurd cc
fences_too (Some (whys.Own a b)) t = absurd cc
fences_too (Some (whys.Repeated id)) t = absurd cc
fences_too (Some (whys.Missing id)) t = absurd cc
fences_too (Some (whys.Fixed id)) t = absurd cc
fences_too (Some (whys.Reserved id client)) t = absurd cc
fences_too (Some (whys.Protected fence)) t = refl
fences_too (Some (whys.Clash add id)) t = refl
fences_too (Some (whys.Unheld id)) t = absurd cc
fences_too (Some whys.Area) t = absurd cc
fences_too (Some (whys.FenceLayer layer)) t = absurd cc
fences_too (Some (whys.Client client)) t = absurd cc
fences_too (Some (whys.Overlap fence)) t = absurd cc
fences_too (Some (whys.Covers id)) t = absurd cc
fences_too (Some (whys.NoFence fence)) t = absurd cc
fences_too (Some (whys.NotOwner fence)) t = absurd cc
fences_too (Some (whys.NoClass class)) t = absurd cc
fences_too (Some (whys.Unclean a b)) t = refl

-- a clash, or none, takes both tests
pub clash_within : (p : Parts) (b : Board) (deletes : List ℕ) (adds : List Add) (why : Option Why) → IsClashReason p b.rules b.live deletes 1 adds why
    → (deletes_most p b deletes + adds_touch_most p b.fences adds) + clashes_most p (without deletes b.live) adds ≤ board_most p b deletes adds why
clash_within p b deletes adds why h =
    let t = clash_tests p b.rules b.live deletes 1 adds why h in
    let u = fences_too why t in
    let e : fences_of_edit p b deletes adds why ≡ deletes_most p b deletes + adds_touch_most p b.fences adds = rw u refl in
    let f : pairs_of_edit p b deletes adds why ≡ clashes_most p (without deletes b.live) adds = rw t refl in
    omega (arith, e, f)

-- one reason names the least number
pub least_once : (S : ℕ → Type 0) (say : ℕ → Why) (v w : Option Why) → Least S say v → Least S say w → v ≡ w
least_once S say None None h k = refl
least_once S say None (Some w) h k = absurd (h k.0 k.1)
least_once S say (Some v) None h k = absurd (k h.0 h.1)
least_once S say (Some v) (Some w) h k =
    let same : h.0 ≡ k.0 = omega (arith, h.2 k.0 k.1, k.2 h.0 h.1) in ap Some (h.3 ∙ ap say same ∙ sym k.3)
