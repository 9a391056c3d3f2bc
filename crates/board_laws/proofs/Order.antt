-- Numbers on the boards of a legal history: what is live, held or drawn lies below the next number, and no two boundaries
-- have one number.
use Rattle.std.proofs.Common.{◌≡◌, ℕ, ◌+◌, ◌<◌, ◌≤◌, List, [], ◌∷◌, ◌++◌, sym, ap, ◌∙◌, subst, arith, inl, inr, Bool, true, false}
use Rattle.std.specs.Prelude.{◌⊎◌, ◌==◌, not, ◌&&◌, if◌then◌else◌}
use Rattle.board_items.specs.declared.items.Item.{Item}
use Rattle.board_items.specs.declared.requests.Request.TheVariants as requests
use Rattle.board_items.specs.declared.history.Act.{Act}
use Rattle.board_items.specs.declared.history.Act.TheVariants as acts
use Rattle.board_rules.specs.declared.design.Parts.{Parts}
use Rattle.number_slots.specs.Slots.{IsAt, IsThere}
use Rattle.number_slots.proofs.ByNumber.{at_either, at_within, by_lt}
use Rattle.boundaries.specs.Boundaries.{Boundary, fence_made, entitled_at}
use Rattle.board_core.specs.Boards.{Board, first_board, is_numbered, reserved, after}
use Rattle.board_laws.proofs.Numbers.{within_filter}
use Rattle.board_laws.proofs.Boundaries.{granted, was_at, fence_is}
use Rattle.board_laws.proofs.Refusals.{reserve_none}
use Rattle.board_laws.proofs.Cleanness.{edited_below, first_below}
use Rattle.board_laws.proofs.Steps.{IsStep}

-- what is live and what is held has a number below the next one
pub record IsNumberedBelow (live : List (ℕ × Item)) (held : List (ℕ × ℕ)) (next : ℕ) : Type 0 where
  pub live_below : (id : ℕ) (x : Item) → IsAt live id x → id < next
  pub held_below : (id holder : ℕ) → IsAt held id holder → id < next

-- boundaries have numbers up to the last one, each its own
pub record IsNumberedOnce (fences : List (ℕ × Boundary)) (last : ℕ) : Type 0 where
  pub within : (n : ℕ) (f : Boundary) → IsAt fences n f → n ≤ last
  pub once : (n : ℕ) (f g : Boundary) → IsAt fences n f → IsAt fences n g → f ≡ g

-- ---- items

one_reserved : (test : Bool) (held : List (ℕ × ℕ)) (id client m holder : ℕ) → IsAt (if test then held ++ (id, client) ∷ [] else held) m holder → IsAt held m holder ⊎ ((id ≡ m) × (client ≡ holder))
one_reserved true held id client m holder h = elim (at_either held ((id, client) ∷ []) m holder h) [ inl f ↦ inl f | inr f ↦ elim f [ inl g ↦ inr g | inr g ↦ absurd g ] ]
one_reserved false held id client m holder h = inl h

-- what is held after a reserve was held before, or is the reserved item
pub reserved_is : (live : List (ℕ × Item)) (held : List (ℕ × ℕ)) (id client m holder : ℕ) → IsAt (reserved live held id client) m holder → IsAt held m holder ⊎ ((id ≡ m) × (client ≡ holder))
reserved_is live held id client m holder h = one_reserved (is_numbered id live && not (is_numbered id held)) held id client m holder h

reserved_below : (p : Parts) (b : Board) (client id : ℕ) → IsNumberedBelow b.live b.held b.next_id → ((IsThere b.live id → ⊥) → ⊥) → id < b.next_id
reserved_below p b client id is there = by_lt id b.next_id (id < b.next_id) (λ lt. lt) (λ past. absurd (there (λ t. let lt = is.live_below id t.0 t.1 in absurd (omega (arith, lt, past)))))

items_below : (p : Parts) (clients : ℕ) (b : Board) (client : ℕ) (act : Act) → IsNumberedBelow b.live b.held b.next_id → IsStep p clients b client act
    → IsNumberedBelow (after b client act).live (after b client act).held (after b client act).next_id
items_below p clients b client (acts.Ask (requests.Edit deletes adds)) is step = record {
  live_below = edited_below b deletes adds is.live_below;
  held_below = λ id holder h. omega (arith, is.held_below id holder (at_within deletes b.held id holder h));
}
items_below p clients b client (acts.Ask (requests.Reserve id)) is step = record {
  live_below = is.live_below;
  held_below = λ m holder h. elim (reserved_is b.live b.held id.0 client m holder h) [
    | inl f ↦ is.held_below m holder f
    | inr f ↦ subst (λ (n : ℕ). n < b.next_id) f.0 (reserved_below p b client id.0 is (reserve_none p b client id.0 step).0)
  ];
}
items_below p clients b client (acts.Ask (requests.Release id)) is step = record {
  live_below = is.live_below;
  held_below = λ m holder h. is.held_below m holder (within_filter _ b.held m holder h).0;
}
items_below p clients b client (acts.Ask (requests.Fence layers area entitled)) is step = record { live_below = is.live_below; held_below = is.held_below }
items_below p clients b client (acts.Ask (requests.Unfence fence)) is step = record { live_below = is.live_below; held_below = is.held_below }
items_below p clients b client (acts.Ask (requests.Entitle fence other)) is step = record { live_below = is.live_below; held_below = is.held_below }
items_below p clients b client (acts.Ask (requests.Rule class clearance)) is step = record { live_below = is.live_below; held_below = is.held_below }
items_below p clients b client acts.Leave is step = record {
  live_below = is.live_below;
  held_below = λ m holder h. is.held_below m holder (within_filter _ b.held m holder h).0;
}

-- ---- boundaries

fence_once : (fences : List (ℕ × Boundary)) (last : ℕ) (made : Boundary) (n : ℕ) (f g : Boundary) → IsNumberedOnce fences last → IsAt fences n f ⊎ IsAt (fence_made (last + 1) made) n f → IsAt fences n g ⊎ IsAt (fence_made (last + 1) made) n g → f ≡ g
fence_once fences last made n f g is (inl h) (inl k) = is.once n f g h k
fence_once fences last made n f g is (inl h) (inr k) = let low = is.within n f h in absurd (omega (arith, low, (fence_is (last + 1) made n g k).0))
fence_once fences last made n f g is (inr h) (inl k) = let low = is.within n g k in absurd (omega (arith, low, (fence_is (last + 1) made n f h).0))
fence_once fences last made n f g is (inr h) (inr k) = sym (fence_is (last + 1) made n f h).1 ∙ (fence_is (last + 1) made n g k).1

fenced : (fences : List (ℕ × Boundary)) (last : ℕ) (made : Boundary) → IsNumberedOnce fences last → IsNumberedOnce (fences ++ fence_made (last + 1) made) (last + 1)
fenced fences last made is = record {
  within = λ n f h. elim (at_either fences (fence_made (last + 1) made) n f h) [ inl k ↦ omega (arith, is.within n f k) | inr k ↦ omega (arith, (fence_is (last + 1) made n f k).0) ];
  once = λ n f g h k. fence_once fences last made n f g is (at_either fences (fence_made (last + 1) made) n f h) (at_either fences (fence_made (last + 1) made) n g k);
}

entitled_once : (fences : List (ℕ × Boundary)) (last fence other : ℕ) → IsNumberedOnce fences last → IsNumberedOnce (entitled_at fence other fences) last
entitled_once fences last fence other is = record {
  within = λ n f h. let w = was_at fence other fences n f h in is.within n w.old w.old_is;
  once = λ n f g h k.
      let v = was_at fence other fences n f h in
      let w = was_at fence other fences n g k in
      v.is ∙ ap (λ (old : Boundary). granted (n == fence) other old) (is.once n v.old w.old v.old_is w.old_is) ∙ sym w.is;
}

fences_once : (b : Board) (client : ℕ) (act : Act) → IsNumberedOnce b.fences b.last → IsNumberedOnce (after b client act).fences (after b client act).last
fences_once b client (acts.Ask (requests.Edit deletes adds)) is = record { within = is.within; once = is.once }
fences_once b client (acts.Ask (requests.Reserve id)) is = record { within = is.within; once = is.once }
fences_once b client (acts.Ask (requests.Release id)) is = record { within = is.within; once = is.once }
fences_once b client (acts.Ask (requests.Fence layers area entitled)) is = fenced b.fences b.last _ is
fences_once b client (acts.Ask (requests.Unfence fence)) is = record {
  within = λ n f h. is.within n f (at_within (fence ∷ []) b.fences n f h);
  once = λ n f g h k. is.once n f g (at_within (fence ∷ []) b.fences n f h) (at_within (fence ∷ []) b.fences n g k);
}
fences_once b client (acts.Ask (requests.Entitle fence other)) is = entitled_once b.fences b.last fence other is
fences_once b client (acts.Ask (requests.Rule class clearance)) is = record { within = is.within; once = is.once }
fences_once b client acts.Leave is = record { within = is.within; once = is.once }

-- ---- boards

-- the numbers of a board are in order
pub record IsOrdered (b : Board) : Type 0 where
  pub items : IsNumberedBelow b.live b.held b.next_id
  pub fences : IsNumberedOnce b.fences b.last

-- each step keeps the order
pub step_ordered : (p : Parts) (clients : ℕ) (b : Board) (client : ℕ) (act : Act) → IsOrdered b → IsStep p clients b client act → IsOrdered (after b client act)
step_ordered p clients b client act is step = record { items = items_below p clients b client act is.items step; fences = fences_once b client act is.fences }

-- the first board has it
pub first_ordered : (p : Parts) → IsOrdered (first_board p)
first_ordered p = record {
  items = record { live_below = first_below p; held_below = λ id holder h. absurd h };
  fences = record { within = λ n f h. absurd h; once = λ n f g h k. absurd h };
}
