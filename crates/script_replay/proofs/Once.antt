-- No item is held twice on the board of a journal.
use Rattle.std.proofs.Common.{◌≡◌, ◌⊎◌, ℕ, List, [], ◌∷◌, ◌++◌, refl, sym, subst, ◌∙◌, inl, inr}
use Rattle.std.specs.Prelude.{Bool, true, false, not, ◌&&◌, ◌||◌, ◌==◌, if◌then◌else◌}
use Rattle.std.specs.List.{filter}
use Rattle.std.proofs.lemmas.Bool.{and_parts, eq-eqb}
use Rattle.board_items.specs.declared.items.Item.{Item}
use Rattle.board_items.specs.declared.requests.Request.TheVariants as requests
use Rattle.board_items.specs.declared.history.Act.{Act}
use Rattle.board_items.specs.declared.history.Act.TheVariants as acts
use Rattle.board_items.specs.declared.history.Entry.{Entry}
use Rattle.board_rules.specs.declared.design.Parts.{Parts}
use Rattle.number_slots.specs.Slots.{IsAt}
use Rattle.board_core.specs.Boards.{Board, is_numbered, reserved, after, folded, first_board, last_board}

-- each item is held by one client at most
abbrev pub IsOnce : List (ℕ × ℕ) → Type 0
IsOnce held = (id a b : ℕ) → IsAt held id a → IsAt held id b → a ≡ b

kept_in : (f : ℕ × ℕ → Bool) (y : ℕ × ℕ) (ys : List (ℕ × ℕ)) (id x : ℕ) → (IsAt (filter f ys) id x → IsAt ys id x) → IsAt (y ∷ filter f ys) id x → IsAt (y ∷ ys) id x
kept_in f y ys id x rest (inl here) = inl here
kept_in f y ys id x rest (inr more) = inr (rest more)

at_kept : (f : ℕ × ℕ → Bool) (y : ℕ × ℕ) (ys : List (ℕ × ℕ)) (b : Bool) (id x : ℕ) → f y ≡ b → (IsAt (filter f ys) id x → IsAt ys id x) → IsAt (filter f (y ∷ ys)) id x → IsAt (y ∷ ys) id x
at_kept f y ys true id x e rest at =
    let kept : filter f (y ∷ ys) ≡ y ∷ filter f ys = rw e refl in
    kept_in f y ys id x rest (subst (λ (zs : List (ℕ × ℕ)). IsAt zs id x) kept at)
at_kept f y ys false id x e rest at =
    let left : filter f (y ∷ ys) ≡ filter f ys = rw e refl in
    inr (rest (subst (λ (zs : List (ℕ × ℕ)). IsAt zs id x) left at))

at_filter : (f : ℕ × ℕ → Bool) (xs : List (ℕ × ℕ)) (id x : ℕ) → IsAt (filter f xs) id x → IsAt xs id x
at_filter f [] id x at = at
at_filter f (y ∷ ys) id x at = at_kept f y ys (f y) id x refl (at_filter f ys id x) at

once_filter : (f : ℕ × ℕ → Bool) (held : List (ℕ × ℕ)) → IsOnce held → IsOnce (filter f held)
once_filter f held once id a b p q = once id a b (at_filter f held id a p) (at_filter f held id b q)

at_end_case : {P Q R : Type 0} → P ⊎ Q → (R ⊎ P) ⊎ Q
at_end_case (inl p) = inl (inr p)
at_end_case (inr q) = inr q

at_end : (xs : List (ℕ × ℕ)) (y : ℕ × ℕ) (id x : ℕ) → IsAt (xs ++ y ∷ []) id x → IsAt xs id x ⊎ ((y.0 ≡ id) × (y.1 ≡ x))
at_end [] y id x (inl here) = inr here
at_end [] y id x (inr none) = absurd none
at_end (z ∷ zs) y id x (inl here) = inl (inl here)
at_end (z ∷ zs) y id x (inr more) = at_end_case (at_end zs y id x more)

numbered_here : (a b : Bool) → a ≡ true → (a || b) ≡ false → ⊥
numbered_here true b e f = absurd cc
numbered_here false b e f = absurd cc

numbered_later : (a b : Bool) → (a || b) ≡ false → b ≡ false
numbered_later true b f = absurd cc
numbered_later false b f = f

none_numbered : (held : List (ℕ × ℕ)) (id x : ℕ) → is_numbered id held ≡ false → IsAt held id x → ⊥
none_numbered [] id x none at = at
none_numbered (y ∷ ys) id x none (inl here) = numbered_here (y.0 == id) (is_numbered id ys) (eq-eqb y.0 id here.0) none
none_numbered (y ∷ ys) id x none (inr more) = none_numbered ys id x (numbered_later (y.0 == id) (is_numbered id ys) none) more

once_ends : (held : List (ℕ × ℕ)) (id client n a b : ℕ) → is_numbered id held ≡ false → IsOnce held → IsAt held n a ⊎ ((id ≡ n) × (client ≡ a)) → IsAt held n b ⊎ ((id ≡ n) × (client ≡ b)) → a ≡ b
once_ends held id client n a b none once (inl p) (inl q) = once n a b p q
once_ends held id client n a b none once (inl p) (inr q) = absurd (none_numbered held id a none (subst (λ (m : ℕ). IsAt held m a) (sym q.0) p))
once_ends held id client n a b none once (inr p) (inl q) = absurd (none_numbered held id b none (subst (λ (m : ℕ). IsAt held m b) (sym p.0) q))
once_ends held id client n a b none once (inr p) (inr q) = sym p.1 ∙ q.1

once_more : (held : List (ℕ × ℕ)) (id client : ℕ) → is_numbered id held ≡ false → IsOnce held → IsOnce (held ++ (id, client) ∷ [])
once_more held id client none once n a b p q = once_ends held id client n a b none once (at_end held (id, client) n a p) (at_end held (id, client) n b q)

once_if : (b : Bool) (xs ys : List (ℕ × ℕ)) → (b ≡ true → IsOnce xs) → IsOnce ys → IsOnce (if b then xs else ys)
once_if true xs ys one other = one refl
once_if false xs ys one other = other

not_held : (b : Bool) → not b ≡ true → b ≡ false
not_held true e = absurd cc
not_held false e = refl

once_reserved : (live : List (ℕ × Item)) (held : List (ℕ × ℕ)) (id client : ℕ) → IsOnce held → IsOnce (reserved live held id client)
once_reserved live held id client once =
    once_if (is_numbered id live && not (is_numbered id held)) (held ++ (id, client) ∷ []) held
    (λ both. once_more held id client (not_held (is_numbered id held) (and_parts (is_numbered id live) (not (is_numbered id held)) both).1) once) once

once_after : (b : Board) (client : ℕ) (act : Act) → IsOnce b.held → IsOnce (after b client act).held
once_after b client (acts.Ask (requests.Edit deletes adds)) once = once_filter _ b.held once
once_after b client (acts.Ask (requests.Reserve id)) once = once_reserved b.live b.held id.0 client once
once_after b client (acts.Ask (requests.Release id)) once = once_filter _ b.held once
once_after b client (acts.Ask (requests.Fence layers area clients)) once = once
once_after b client (acts.Ask (requests.Unfence fence)) once = once
once_after b client (acts.Ask (requests.Entitle fence other)) once = once
once_after b client (acts.Ask (requests.Rule class clearance)) once = once
once_after b client acts.Leave once = once_filter _ b.held once

once_folded : (b : Board) (journal : List Entry) → IsOnce b.held → IsOnce (folded b journal).held
once_folded b [] once = once
once_folded b (e ∷ es) once = once_folded (after b e.client e.act) es (once_after b e.client e.act once)

none_held : IsOnce []
none_held id a b p q = absurd p

pub once_held : (p : Parts) (journal : List Entry) → IsOnce (last_board p journal).held
once_held p journal = once_folded (first_board p) journal none_held
