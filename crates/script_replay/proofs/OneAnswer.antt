-- A request has one answer on a board.
use Rattle.std.proofs.Common.{◌≡◌, ◌⊎◌, ℕ, ◌+◌, ◌<◌, ◌≤◌, List, [], ◌∷◌, ◌++◌, refl, sym, ap, ◌∙◌, arith, inl, inr}
use Rattle.std.specs.Prelude.{Option, Some, None, IsSome}
use Rattle.std.proofs.lemmas.Bool.{cases_lt}
use Rattle.board_items.specs.declared.items.Item.{Item}
use Rattle.board_items.specs.declared.requests.Add.{Add}
use Rattle.board_items.specs.declared.requests.Add.TheVariants as adds
use Rattle.board_items.specs.declared.requests.Request.{Request}
use Rattle.board_items.specs.declared.requests.Request.TheVariants as requests
use Rattle.board_items.specs.declared.history.Why.{Why}
use Rattle.board_items.specs.declared.history.Why.TheVariants.{Protected, Reserved, Overlap}
use Rattle.board_items.specs.Adds.{item_of_add}
use Rattle.board_rules.specs.declared.design.Parts.{Parts}
use Rattle.board_rules.specs.Reasons.{First, Then, Nothing, IsAddReason, IsAddsReason, IsNearReason, IsOwnReason, IsLayerReason, IsClientReason, IsStaticReason}
use Rattle.board_rules.specs.Rules.{with_rule}
use Rattle.boundaries.specs.Touching.{IsOverlapped}
use Rattle.board_core.specs.Boards.{Board}
use Rattle.board_core.specs.Reasons.{Least}
use Rattle.board_core.specs.Barrings.{IsBarring, IsProtectedReason, IsCovered, covers}
use Rattle.board_core.specs.Reservings.{IsHolderReason}
use Rattle.board_core.specs.Edits.{IsDeleteReason, IsDeletesReason, IsOtherReason, IsHeldReason, IsNear, clash, IsClashReason}
use Rattle.board_core.specs.Clean.{IsCleanBoard, GoesBefore, IsLeastPair}
use Rattle.board_core.specs.Clearances.{unclean, IsUncleanReason}
use Rattle.board_core.specs.Answers.{IsAnswer}
use Rattle.script_replay.proofs.Once.{IsOnce}

-- at most one reason is given
abbrev pub IsOne : (Option Why → Type 0) → Type 0
IsOne R = (w v : Option Why) → R w → R v → w ≡ v

nothing : IsOne Nothing
nothing w v f g = f ∙ sym g

first : (P : Type 0) (reason : Why) (rest : Option Why → Type 0) → IsOne rest → IsOne (First P reason rest)
first P reason rest h w v (inl f) (inl g) = f.1 ∙ sym g.1
first P reason rest h w v (inl f) (inr g) = absurd (g.0 f.0)
first P reason rest h w v (inr f) (inl g) = absurd (f.0 g.0)
first P reason rest h w v (inr f) (inr g) = h w v f.1 g.1

not_both : (w : Option Why) → IsSome w → w ≡ None → ⊥
not_both w some none = absurd cc

after_that : (one rest : Option Why → Type 0) → IsOne one → IsOne rest → IsOne (Then one rest)
after_that one rest h k w v (inl f) (inl g) = h w v f.1 g.1
after_that one rest h k w v (inl f) (inr g) = absurd (not_both w f.0 (h w None f.1 g.0))
after_that one rest h k w v (inr f) (inl g) = absurd (not_both v g.0 (h v None g.1 f.0))
after_that one rest h k w v (inr f) (inr g) = k w v f.1 g.1

-- ---- reasons that don't depend on the board

add_reason : (p : Parts) (a : ℕ) (add : Add) → IsOne (IsAddReason p a add)
add_reason p a (adds.Wire net layer width points) = first _ _ _ (first _ _ _ (first _ _ _ (first _ _ _ nothing)))
add_reason p a (adds.Via net padstack place) = first _ _ _ (first _ _ _ (first _ _ _ (first _ _ _ nothing)))

adds_reason : (p : Parts) (a : ℕ) (all : List Add) → IsOne (IsAddsReason p a all)
adds_reason p a [] = nothing
adds_reason p a (add ∷ rest) = after_that _ _ (add_reason p a add) (adds_reason p (a + 1) rest)

own_near : (p : Parts) (rules : List (Option ℕ)) (a : ℕ) (item : Item) (b : ℕ) (all : List Add) → IsOne (IsNearReason p rules a item b all)
own_near p rules a item b [] = nothing
own_near p rules a item b (other ∷ rest) = first _ _ _ (own_near p rules a item (b + 1) rest)

own_reason : (p : Parts) (rules : List (Option ℕ)) (a : ℕ) (all : List Add) → IsOne (IsOwnReason p rules a all)
own_reason p rules a [] = nothing
own_reason p rules a (add ∷ rest) = after_that _ _ (own_near p rules a (item_of_add add) (a + 1) rest) (own_reason p rules (a + 1) rest)

layer_reason : (p : Parts) (layers : List ℕ) → IsOne (IsLayerReason p layers)
layer_reason p [] = nothing
layer_reason p (layer ∷ rest) = first _ _ _ (layer_reason p rest)

client_reason : (clients : ℕ) (others : List ℕ) → IsOne (IsClientReason clients others)
client_reason clients [] = nothing
client_reason clients (c ∷ rest) = first _ _ _ (client_reason clients rest)

static_reason : (p : Parts) (rules : List (Option ℕ)) (clients : ℕ) (r : Request) → IsOne (IsStaticReason p rules clients r)
static_reason p rules clients (requests.Edit deletes all) = first _ _ _ (after_that _ _ (adds_reason p 1 all) (own_reason p rules 1 all))
static_reason p rules clients (requests.Fence layers area entitled) = first _ _ _ (after_that _ _ (layer_reason p layers) (client_reason clients entitled))
static_reason p rules clients (requests.Rule class clearance) = first _ _ _ nothing
static_reason p rules clients (requests.Reserve id) = nothing
static_reason p rules clients (requests.Release id) = nothing
static_reason p rules clients (requests.Unfence fence) = nothing
static_reason p rules clients (requests.Entitle fence other) = nothing

-- ---- reasons of a board

delete_reason : (live : List (ℕ × Item)) (before : List ℕ) (id : ℕ) → IsOne (IsDeleteReason live before id)
delete_reason live before id = first _ _ _ (first _ _ _ (first _ _ _ nothing))

deletes_reason : (live : List (ℕ × Item)) (before ids : List ℕ) → IsOne (IsDeletesReason live before ids)
deletes_reason live before [] = nothing
deletes_reason live before (id ∷ rest) = after_that _ _ (delete_reason live before id) (deletes_reason live (before ++ id ∷ []) rest)

least : (S : ℕ → Type 0) (say : ℕ → Why) → IsOne (Least S say)
least S say None None f g = refl
least S say None (Some v) f g = absurd (f g.0 g.1)
least S say (Some w) None f g = absurd (g f.0 f.1)
least S say (Some w) (Some v) f g =
    let same : f.0 ≡ g.0 = omega (arith, f.2 g.0 g.1, g.2 f.0 f.1) in
    ap Some (f.3 ∙ ap say same ∙ sym g.3)

clash_reason : (p : Parts) (rules : List (Option ℕ)) (live : List (ℕ × Item)) (deletes : List ℕ) (a : ℕ) (all : List Add) → IsOne (IsClashReason p rules live deletes a all)
clash_reason p rules live deletes a [] = nothing
clash_reason p rules live deletes a (add ∷ rest) = after_that _ _ (least (IsNear p rules live deletes (item_of_add add)) (clash a)) (clash_reason p rules live deletes (a + 1) rest)

protected_reason : (p : Parts) (b : Board) (client : ℕ) (deletes : List ℕ) (all : List Add) → IsOne (IsProtectedReason p b client deletes all)
protected_reason p b client deletes all = least (IsBarring p b client deletes all) Protected

-- the reason that names another holder is one, where the item is held once
other_reason : (held : List (ℕ × ℕ)) (client id : ℕ) → IsOnce held → IsOne (IsOtherReason held client id)
other_reason held client id once None None f g = refl
other_reason held client id once None (Some v) f g = absurd (g.2 (f g.0 g.1))
other_reason held client id once (Some w) None f g = absurd (f.2 (g f.0 f.1))
other_reason held client id once (Some w) (Some v) f g = ap Some (f.3 ∙ ap (Reserved (record { 0 = id })) (once id f.0 g.0 f.1 g.1) ∙ sym g.3)

held_reason : (held : List (ℕ × ℕ)) (client : ℕ) (ids : List ℕ) → IsOnce held → IsOne (IsHeldReason held client ids)
held_reason held client [] once = nothing
held_reason held client (id ∷ rest) once = after_that _ _ (other_reason held client id once) (held_reason held client rest once)

holder_reason : (held : List (ℕ × ℕ)) (id : ℕ) → IsOnce held → IsOne (IsHolderReason held id)
holder_reason held id once None None f g = refl
holder_reason held id once None (Some v) f g = absurd (f (g.0, g.1))
holder_reason held id once (Some w) None f g = absurd (g (f.0, f.1))
holder_reason held id once (Some w) (Some v) f g = ap Some (f.2 ∙ ap (Reserved (record { 0 = id })) (once id f.0 g.0 f.1 g.1) ∙ sym g.2)

-- two pairs of which neither goes before the other are one
same_low : (a b c d : ℕ) → (GoesBefore a b c d → ⊥) → (GoesBefore c d a b → ⊥) → (a < c) ⊎ (c ≤ a) → (c < a) ⊎ (a ≤ c) → a ≡ c
same_low a b c d p q (inl less) k = absurd (p (inl less))
same_low a b c d p q (inr most) (inl less) = absurd (q (inl less))
same_low a b c d p q (inr most) (inr least) = omega (arith, most, least)

same_high : (a b c d : ℕ) → a ≡ c → (GoesBefore a b c d → ⊥) → (GoesBefore c d a b → ⊥) → (b < d) ⊎ (d ≤ b) → (d < b) ⊎ (b ≤ d) → b ≡ d
same_high a b c d e p q (inl less) k = absurd (p (inr (e, less)))
same_high a b c d e p q (inr most) (inl less) = absurd (q (inr (sym e, less)))
same_high a b c d e p q (inr most) (inr least) = omega (arith, most, least)

not_before : (p : Parts) (rules : List (Option ℕ)) (live : List (ℕ × Item)) (a b c d : ℕ) → IsLeastPair p rules live a b → IsLeastPair p rules live c d → GoesBefore a b c d → ⊥
not_before p rules live a b c d f g before = f.near (g.least a b f.first f.second f.order before f.first_is f.second_is)

-- a clean board has no pair that is too near
not_clean : (p : Parts) (rules : List (Option ℕ)) (live : List (ℕ × Item)) (a b : ℕ) → IsCleanBoard p rules live → IsLeastPair p rules live a b → ⊥
not_clean p rules live a b clean f = f.near (clean a b f.first f.second f.order f.first_is f.second_is)

unclean_reason : (p : Parts) (rules : List (Option ℕ)) (live : List (ℕ × Item)) → IsOne (IsUncleanReason p rules live)
unclean_reason p rules live None None f g = refl
unclean_reason p rules live None (Some v) f g = absurd (not_clean p rules live g.0 g.1 f g.2)
unclean_reason p rules live (Some w) None f g = absurd (not_clean p rules live f.0 f.1 g f.2)
unclean_reason p rules live (Some w) (Some v) f g =
    let one = not_before p rules live f.0 f.1 g.0 g.1 f.2 g.2 in
    let other = not_before p rules live g.0 g.1 f.0 f.1 g.2 f.2 in
    let low : f.0 ≡ g.0 = same_low f.0 f.1 g.0 g.1 one other (cases_lt f.0 g.0) (cases_lt g.0 f.0) in
    let high : f.1 ≡ g.1 = same_high f.0 f.1 g.0 g.1 low one other (cases_lt f.1 g.1) (cases_lt g.1 f.1) in
    ap Some (f.3 ∙ ap (λ (a : ℕ). unclean a f.1) low ∙ ap (unclean g.0) high ∙ sym g.3)

-- a request has one answer, where each item is held once
pub answer_same : (p : Parts) (clients : ℕ) (b : Board) (client : ℕ) (r : Request) → IsOnce b.held → IsOne (IsAnswer p clients b client r)
answer_same p clients b client (requests.Edit deletes all) once w v f g =
    after_that _ _ (static_reason p b.rules clients (requests.Edit deletes all)) (after_that _ _ (deletes_reason b.live [] deletes)
    (after_that _ _ (held_reason b.held client deletes once) (after_that _ _ (protected_reason p b client deletes all) (clash_reason p b.rules b.live deletes 1 all)))) w v f g
answer_same p clients b client (requests.Reserve id) once w v f g =
    first _ _ _ (first _ _ _ (after_that _ _ (holder_reason b.held id.0 once) (protected_reason p b client (id.0 ∷ []) []))) w v f g
answer_same p clients b client (requests.Release id) once w v f g = first _ _ _ (first _ _ _ nothing) w v f g
answer_same p clients b client (requests.Fence layers area entitled) once w v f g =
    after_that _ _ (static_reason p b.rules clients (requests.Fence layers area entitled)) (after_that _ _ (least (IsOverlapped b.fences layers area client) Overlap) (least (IsCovered p b client layers area) covers)) w v f g
answer_same p clients b client (requests.Unfence fence) once w v f g = first _ _ _ (first _ _ _ nothing) w v f g
answer_same p clients b client (requests.Rule class clearance) once w v f g =
    after_that _ _ (static_reason p b.rules clients (requests.Rule class clearance)) (unclean_reason p (with_rule class clearance b.rules) b.live) w v f g
answer_same p clients b client (requests.Entitle fence other) once w v f g = after_that _ _ (first _ _ _ (first _ _ _ nothing)) (first _ _ _ nothing) w v f g
