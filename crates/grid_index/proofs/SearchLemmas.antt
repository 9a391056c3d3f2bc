-- Searches of cells one after another, and what a search of all levels found.
use Rattle.std.proofs.Common.{◌≡◌, ℕ, ◌<◌, ◌≤◌, ◌+◌, List, [], Option, length, refl, ap, ◌∙◌, subst, ⊎_elim, arith, inl, inr, ◌↔◌}
use Rattle.std.specs.List.{Contains, Any}
use Rattle.std.proofs.lemmas.Bool.{cases_lt}
use Rattle.seg_geometry.specs.declared.near.Filed.{Filed}
use Rattle.seg_geometry.specs.declared.rectangles.Rect.{Rect}
use Rattle.seg_geometry.specs.Near.{IsNear}
use Rattle.near_slots.specs.Slots.{filed_in, spot_of}
use Rattle.near_slots.specs.Tables.{Table, IsIn}
use Rattle.grid_index.specs.Cells.{key_of, level_count, shift_of}
use Rattle.grid_index.specs.Levels.{level_at, cell_key, AreInCells, IsInColumn, IsInColumns, IsAsked, IsAskedBelow}
use Rattle.near_slots.specs.Looks.{IsUnder, Looks}
use Rattle.near_slots.proofs.LookLemmas.{Looks-then}
use Rattle.near_slots.proofs.SlotLemmas.{Contains-filed, IsAt-from_filed}
use Rattle.grid_index.proofs.LevelLemmas.{IsAsked-cell}

module _ (slots : List (Option Filed)) (layer : ℕ) (asked : Rect) where
  pub Looks-rows_more : (cells : Table) (column from row : ℕ) (old mid new : List ℕ)
      → Looks slots layer asked (IsInColumn cells layer column from row) old mid
      → Looks slots layer asked (λ s. (s.key ≡ key_of layer column row) × IsIn cells s) mid new
      → Looks slots layer asked (IsInColumn cells layer column from (row + 1)) old new
  Looks-rows_more cells column from row old mid new l m = Looks-then slots layer asked _ _ _ old mid new
      (λ s w. ⊎_elim
      (λ (b : w.row < row). inl (record { row = w.row; low = w.low; high = b; key = w.key; stands = w.stands }))
      (λ (b : row ≤ w.row).
      let top : w.row < row + 1 = w.high in
      let e : w.row ≡ row = omega arith in
      inr (w.key ∙ ap (λ (r : ℕ). key_of layer column r) e, w.stands))
      (cases_lt w.row row))
      l m

  pub Looks-cells_more : (cells : Table) (left column from to : ℕ) (old mid new : List ℕ)
      → Looks slots layer asked (IsInColumns cells layer left column from to) old mid
      → Looks slots layer asked (IsInColumn cells layer column from to) mid new
      → Looks slots layer asked (IsInColumns cells layer left (column + 1) from to) old new
  Looks-cells_more cells left column from to old mid new l m = Looks-then slots layer asked _ _ _ old mid new
      (λ s w. ⊎_elim
      (λ (b : w.column < column). inl (record { column = w.column; low = w.low; high = b; stands = w.stands }))
      (λ (b : column ≤ w.column).
      let top : w.column < column + 1 = w.high in
      let e : w.column ≡ column = omega arith in
      inr (subst (λ (x : ℕ). IsInColumn cells layer x from to s) e w.stands))
      (cases_lt w.column column))
      l m

  pub Looks-levels_more : (levels : List Table) (level : ℕ) (old mid new : List ℕ)
      → Looks slots layer asked (IsAskedBelow levels layer asked level) old mid
      → Looks slots layer asked (IsAsked (level_at levels level) layer (shift_of level) asked) mid new
      → Looks slots layer asked (IsAskedBelow levels layer asked (level + 1)) old new
  Looks-levels_more levels level old mid new l m = Looks-then slots layer asked _ _ _ old mid new
      (λ s w. ⊎_elim
      (λ (b : w.level < level). inl (record { level = w.level; below = b; asked_in = w.asked_in }))
      (λ (b : level ≤ w.level).
      let top : w.level < level + 1 = w.below in
      let e : w.level ≡ level = omega arith in
      inr (subst (λ (x : ℕ). IsAsked (level_at levels x) layer (shift_of x) asked s) e w.asked_in))
      (cases_lt w.level level))
      l m

-- all cells in which something near stands were looked at: exactly the ids of what is near were found
pub found-exactly : (levels : List Table) (slots : List (Option Filed)) (layer : ℕ) (asked : Rect) (found : List ℕ) → AreInCells levels slots
    → Looks slots layer asked (IsAskedBelow levels layer asked level_count) [] found
    → (id : ℕ) → Contains found id ↔ Any (λ p. (p.id ≡ id) × IsNear layer asked p) (filed_in slots)
found-exactly levels slots layer asked found f l id = (
  λ c. ⊎_elim (λ (a : Contains [] id). absurd (omega (arith, a.1)))
      (λ (u : IsUnder slots layer asked id).
      let w = Contains-filed slots u.slot u.filed u.at.at in
      (w.0, u.filed, w.1, w.2, (u.of, u.near)))
      (l.sound id c),
  λ a.
      let p : Filed = a.1 in
      let at = IsAt-from_filed slots p a.0 a.2 a.3 in
      let h = f.each at.0 p at.1 in
      let asked_in = IsAsked-cell (level_at levels h.level) layer (shift_of h.level) asked p at.0 h.fitting a.4.1 h.in_cell in
      let below : h.level < level_count = let b : h.level < length levels = h.there in omega (arith, f.complete) in
      subst (λ (n : ℕ). Contains found n) a.4.0 (l.all (spot_of (cell_key (shift_of h.level) p) at.0 p) p (record { level = h.level; below = below; asked_in = asked_in }) at.1 refl a.4.1),
)
