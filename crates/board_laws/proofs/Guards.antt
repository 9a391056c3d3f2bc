-- Who holds an item is entitled in each boundary that the item touches.
use Rattle.std.proofs.Common.{ℕ, ◌+◌, ◌<◌, List, [], ◌∷◌, ◌++◌, sym, subst, arith, inl, inr}
use Rattle.std.specs.Prelude.{◌==◌}
use Rattle.seg_geometry.specs.declared.points.Pt.{Pt}
use Rattle.board_items.specs.declared.items.Item.{Item}
use Rattle.board_items.specs.declared.requests.Add.{Add}
use Rattle.board_items.specs.declared.requests.Request.TheVariants as requests
use Rattle.board_items.specs.declared.history.Act.{Act}
use Rattle.board_items.specs.declared.history.Act.TheVariants as acts
use Rattle.board_items.specs.Shapes.{copper_of_item}
use Rattle.board_rules.specs.declared.design.Parts.{Parts}
use Rattle.number_slots.specs.Slots.{without, IsAt}
use Rattle.number_slots.proofs.ByNumber.{at_either, at_within}
use Rattle.boundaries.specs.Boundaries.{Boundary, boundary_of, fence_made, entitled_at, IsEntitled}
use Rattle.boundaries.specs.Touching.{TouchesBoundary}
use Rattle.board_core.specs.Boards.{Board, made_from, reserved, after}
use Rattle.board_core.specs.Barrings.{TouchesAt, IsCovered}
use Rattle.board_laws.proofs.Numbers.{within_filter}
use Rattle.board_laws.proofs.Lists.{any_first}
use Rattle.board_laws.proofs.Made.{made_at_least}
use Rattle.board_laws.proofs.Boundaries.{granted_entitles, granted_touched, was_at, fence_is}
use Rattle.board_laws.proofs.Refusals.{IsUnbarred, reserve_none, fence_none}
use Rattle.board_laws.proofs.Order.{reserved_is, IsOrdered}
use Rattle.board_laws.proofs.Steps.{IsStep}

-- the holder of an item can't be foreign to a boundary that the item touches
abbrev pub IsGuarded : Parts → List (ℕ × Item) → List (ℕ × ℕ) → List (ℕ × Boundary) → Type 0
IsGuarded p live held fences = (id holder n : ℕ) (f : Boundary) → IsAt held id holder → IsAt fences n f → TouchesAt p live f id → (IsEntitled f holder → ⊥) → ⊥

-- of a board
pub record IsGuardedBoard (p : Parts) (b : Board) : Type 0 where
  pub guarded : IsGuarded p b.live b.held b.fences

-- an item that was given before an edit touches what it touched
touched_before : (p : Parts) (b : Board) (deletes : List ℕ) (adds : List Add) (id : ℕ) (f : Boundary) → id < b.next_id → TouchesAt p (without deletes b.live ++ made_from b.next_id adds) f id → TouchesAt p b.live f id
touched_before p b deletes adds id f low t = record {
  item = t.item;
  item_is = elim (at_either (without deletes b.live) (made_from b.next_id adds) id t.item t.item_is) [
    | inl h ↦ at_within deletes b.live id t.item h
    | inr h ↦ let past = made_at_least b.next_id adds id t.item h in absurd (omega arith)
  ];
  touches = t.touches;
}

guarded_edit : (p : Parts) (b : Board) (deletes : List ℕ) (adds : List Add) → IsOrdered b → IsGuarded p b.live b.held b.fences → IsGuarded p (without deletes b.live ++ made_from b.next_id adds) (without deletes b.held) b.fences
guarded_edit p b deletes adds order is id holder n f h at_n touches foreign =
    let held = at_within deletes b.held id holder h in
    is id holder n f held at_n (touched_before p b deletes adds id f (order.items.held_below id holder held) touches) foreign

reserved_guard : (p : Parts) (b : Board) (client id n : ℕ) (f : Boundary) → IsUnbarred p b client (id ∷ []) [] → IsAt b.fences n f → TouchesAt p b.live f id → (IsEntitled f client → ⊥) → ⊥
reserved_guard p b client id n f none at_n touches foreign = none n (record { fence = f; fence_is = at_n; foreign = foreign; touched = inl (any_first (TouchesAt p b.live f) id [] touches) })

guarded_reserve : (p : Parts) (b : Board) (client id : ℕ) → IsUnbarred p b client (id ∷ []) [] → IsGuarded p b.live b.held b.fences → IsGuarded p b.live (reserved b.live b.held id client) b.fences
guarded_reserve p b client id none is m holder n f h at_n touches foreign = elim (reserved_is b.live b.held id client m holder h) [
  | inl k ↦ is m holder n f k at_n touches foreign
  | inr k ↦ reserved_guard p b client id n f none at_n (subst (λ (j : ℕ). TouchesAt p b.live f j) (sym k.0) touches) (λ e. foreign (subst (λ (c : ℕ). IsEntitled f c) k.1 e))
]

fence_guard : (p : Parts) (b : Board) (client : ℕ) (layers : List ℕ) (area : List Pt) (entitled : List ℕ) (id holder : ℕ) → ((m : ℕ) → IsCovered p b client layers area m → ⊥) → IsAt b.held id holder
    → TouchesAt p b.live (boundary_of client layers area entitled) id → (IsEntitled (boundary_of client layers area entitled) holder → ⊥) → ⊥
fence_guard p b client layers area entitled id holder none held touches foreign =
    none id (record { item = touches.item; item_is = touches.item_is; touches = touches.touches; holder = holder; held = held; other = λ same. foreign (inl (sym same)) })

guarded_fence : (p : Parts) (b : Board) (client : ℕ) (layers : List ℕ) (area : List Pt) (entitled : List ℕ) → ((m : ℕ) → IsCovered p b client layers area m → ⊥) → IsGuarded p b.live b.held b.fences
    → IsGuarded p b.live b.held (b.fences ++ fence_made (b.last + 1) (boundary_of client layers area entitled))
guarded_fence p b client layers area entitled none is id holder n f held at_n touches foreign =
    let made = boundary_of client layers area entitled in
    elim (at_either b.fences (fence_made (b.last + 1) made) n f at_n) [
      | inl k ↦ is id holder n f held k touches foreign
      | inr k ↦ subst (λ (g : Boundary). TouchesAt p b.live g id → (IsEntitled g holder → ⊥) → ⊥) (fence_is (b.last + 1) made n f k).1 (fence_guard p b client layers area entitled id holder none held) touches foreign
    ]

guarded_entitle : (p : Parts) (b : Board) (fence other : ℕ) → IsGuarded p b.live b.held b.fences → IsGuarded p b.live b.held (entitled_at fence other b.fences)
guarded_entitle p b fence other is id holder n f held at_n touches foreign =
    let w = was_at fence other b.fences n f at_n in
    let before : TouchesAt p b.live w.old id = record {
      item = touches.item;
      item_is = touches.item_is;
      touches = granted_touched (n == fence) other w.old (copper_of_item p.stacks touches.item) (subst (λ (g : Boundary). TouchesBoundary (copper_of_item p.stacks touches.item) g) w.is touches.touches);
    } in
    is id holder n w.old held w.old_is before (λ e. foreign (subst (λ (g : Boundary). IsEntitled g holder) (sym w.is) (granted_entitles (n == fence) other holder w.old e)))

-- each step keeps this
pub step_guarded : (p : Parts) (clients : ℕ) (b : Board) (client : ℕ) (act : Act) → IsOrdered b → IsGuardedBoard p b → IsStep p clients b client act → IsGuardedBoard p (after b client act)
step_guarded p clients b client (acts.Ask (requests.Edit deletes adds)) order is step = record { guarded = guarded_edit p b deletes adds order is.guarded }
step_guarded p clients b client (acts.Ask (requests.Reserve id)) order is step = record { guarded = guarded_reserve p b client id.0 (reserve_none p b client id.0 step).1 is.guarded }
step_guarded p clients b client (acts.Ask (requests.Release id)) order is step = record { guarded = λ m holder n f h at_n t no. is.guarded m holder n f (within_filter _ b.held m holder h).0 at_n t no }
step_guarded p clients b client (acts.Ask (requests.Fence layers area entitled)) order is step = record { guarded = guarded_fence p b client layers area entitled (fence_none p clients b client layers area entitled step) is.guarded }
step_guarded p clients b client (acts.Ask (requests.Unfence fence)) order is step = record { guarded = λ m holder n f h at_n t no. is.guarded m holder n f h (at_within (fence ∷ []) b.fences n f at_n) t no }
step_guarded p clients b client (acts.Ask (requests.Entitle fence other)) order is step = record { guarded = guarded_entitle p b fence other is.guarded }
step_guarded p clients b client (acts.Ask (requests.Rule class clearance)) order is step = record { guarded = is.guarded }
step_guarded p clients b client acts.Leave order is step = record { guarded = λ m holder n f h at_n t no. is.guarded m holder n f (within_filter _ b.held m holder h).0 at_n t no }
