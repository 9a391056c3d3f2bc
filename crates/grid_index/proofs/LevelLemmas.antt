-- What a write to one level leaves in the cells, and where what is filed is sought.
use Rattle.std.proofs.Common.{◌≡◌, ◌≢◌, ℕ, ◌<◌, List, [], ◌∷◌, ◌++◌, Option, Some, None, length, get_or, set, refl, sym, ap, ◌∙◌, subst, ⊎_elim, arith}
use Rattle.std.proofs.lemmas.List.{get_or-set_same, get_or-set_other, length-set, get_or_default}
use Rattle.std.proofs.lemmas.Bool.{cases_eq}
use Rattle.seg_geometry.specs.declared.near.Filed.{Filed}
use Rattle.seg_geometry.specs.declared.rectangles.Rect.{Rect}
use Rattle.seg_geometry.specs.Rectangles.{Meets}
use Rattle.seg_geometry.specs.Near.{IsNear}
use Rattle.near_slots.specs.Tables.{Table, IsIn, Keeps, KeepsOthers}
use Rattle.near_slots.specs.Slots.{IsAt, spot_of}
use Rattle.grid_index.specs.Cells.{column_of, key_of, shift_of, IsFitting}
use Rattle.grid_index.specs.Levels.{level_at, cell_key, IsInCell, AreInCells, LevelsKeep, LevelsKeepOthers, IsAsked}
use Rattle.near_slots.proofs.TableLemmas.{Keeps-refl}
use Rattle.near_slots.proofs.SlotLemmas.{IsAt-push_cases, IsAt-emptied}
use Rattle.grid_index.proofs.CellLemmas.{column-asked}

abbrev pub none_at : Table
none_at = record { lists = []; mask = 0 }

level_at-written : (levels : List Table) (i : ℕ) (t : Table) → i < length levels → level_at (set levels i t) i ≡ t
level_at-written levels i t h = get_or-set_same levels i t none_at h

level_at-other : (levels : List Table) (i j : ℕ) (t : Table) → j ≢ i → level_at (set levels i t) j ≡ level_at levels j
level_at-other levels i j t n = get_or-set_other levels i j t none_at n

pub LevelsKeep-written : (levels : List Table) (i : ℕ) (old t : Table) → i < length levels → old ≡ get_or levels i old → Keeps old t → LevelsKeep levels (set levels i t)
LevelsKeep-written levels i old t h e k = record {
  same = length-set levels i t;
  each = λ j. ⊎_elim
      (λ (same : j ≡ i). subst (λ (x : ℕ). Keeps (level_at levels x) (level_at (set levels i t) x)) (sym same)
      (subst (λ (u : Table). Keeps (level_at levels i) u) (sym (level_at-written levels i t h))
      (subst (λ (u : Table). Keeps u t) (e ∙ get_or_default levels i old none_at h) k)))
      (λ (n : j ≢ i). subst (λ (u : Table). Keeps (level_at levels j) u) (sym (level_at-other levels i j t n)) (Keeps-refl (level_at levels j)))
      (cases_eq j i);
}

pub LevelsKeepOthers-written : (gone : ℕ) (levels : List Table) (i : ℕ) (old t : Table) → i < length levels → old ≡ get_or levels i old → KeepsOthers gone old t
    → LevelsKeepOthers gone levels (set levels i t)
LevelsKeepOthers-written gone levels i old t h e k = record {
  same = length-set levels i t;
  each = λ j. ⊎_elim
      (λ (same : j ≡ i). subst (λ (x : ℕ). KeepsOthers gone (level_at levels x) (level_at (set levels i t) x)) (sym same)
      (subst (λ (u : Table). KeepsOthers gone (level_at levels i) u) (sym (level_at-written levels i t h))
      (subst (λ (u : Table). KeepsOthers gone u t) (e ∙ get_or_default levels i old none_at h) k)))
      (λ (n : j ≢ i). subst (λ (u : Table). KeepsOthers gone (level_at levels j) u) (sym (level_at-other levels i j t n))
      (record { each = λ s other w. w }))
      (cases_eq j i);
}

pub LevelsKeepOthers-refl : (gone : ℕ) (levels : List Table) → LevelsKeepOthers gone levels levels
LevelsKeepOthers-refl gone levels = record { same = refl; each = λ j. record { each = λ s other w. w } }

pub LevelsKeepOthers-then : (gone : ℕ) (old mid new : List Table) → LevelsKeepOthers gone old mid → LevelsKeepOthers gone mid new → LevelsKeepOthers gone old new
LevelsKeepOthers-then gone old mid new h k = record {
  same = k.same ∙ h.same;
  each = λ j. record { each = λ s other w. (k.each j).each s other ((h.each j).each s other w) };
}

pub IsInCell-kept : (old new : List Table) (p : Filed) (slot : ℕ) → LevelsKeep old new → IsInCell old p slot → IsInCell new p slot
IsInCell-kept old new p slot k w = record {
  level = w.level;
  there = let h : w.level < length old = w.there in omega (arith, k.same);
  fitting = w.fitting;
  in_cell = (k.each w.level).each (spot_of (cell_key (shift_of w.level) p) slot p) w.in_cell;
}

pub AreInCells-kept : (old new : List Table) (slots : List (Option Filed)) → LevelsKeep old new → AreInCells old slots → AreInCells new slots
AreInCells-kept old new slots k f = record {
  complete = k.same ∙ f.complete;
  each = λ n p at. IsInCell-kept old new p n k (f.each n p at);
}

pub AreInCells-push : (levels : List Table) (slots : List (Option Filed)) (p : Filed) → AreInCells levels slots → IsInCell levels p (length slots)
    → AreInCells levels (slots ++ Some p ∷ [])
AreInCells-push levels slots p f w = record {
  complete = f.complete;
  each = λ n q at. ⊎_elim (λ (a : IsAt slots n q). f.each n q a)
      (λ (b : (n ≡ length slots) × (Some p ≡ Some q)). let e : p ≡ q = let s = b.1 in cc in
      subst (λ (j : ℕ). IsInCell levels q j) (sym b.0) (subst (λ (x : Filed). IsInCell levels x (length slots)) e w))
      (IsAt-push_cases slots (Some p) n q at);
}

pub AreInCells-emptied : (old new : List Table) (slots : List (Option Filed)) (i : ℕ) → i < length slots → AreInCells old slots → LevelsKeepOthers i old new
    → AreInCells new (set slots i None)
AreInCells-emptied old new slots i h f k = record {
  complete = k.same ∙ f.complete;
  each = λ n p at. let was = IsAt-emptied slots i n p h at in let w = f.each n p was.0 in record {
    level = w.level;
    there = let b : w.level < length old = w.there in omega (arith, k.same);
    fitting = w.fitting;
    in_cell = (k.each w.level).each (spot_of (cell_key (shift_of w.level) p) n p) was.1 w.in_cell;
  };
}

-- the slot of what meets the asked rectangle stands in a cell in which it is sought
pub IsAsked-cell : (cells : Table) (layer shift : ℕ) (asked : Rect) (p : Filed) (slot : ℕ) → IsFitting shift p.rect → IsNear layer asked p
    → IsIn cells (spot_of (cell_key shift p) slot p) → IsAsked cells layer shift asked (spot_of (cell_key shift p) slot p)
IsAsked-cell cells layer shift asked p slot fit near w =
    let m : Meets p.rect asked = near.meets in
    let x = column-asked shift p.rect.lo.x p.rect.hi.x asked.lo.x asked.hi.x m.at.x fit.columns m.in_first.left m.in_first.right m.in_second.left m.in_second.right in
    let y = column-asked shift p.rect.lo.y p.rect.hi.y asked.lo.y asked.hi.y m.at.y fit.rows m.in_first.low m.in_first.high m.in_second.low m.in_second.high in
    record {
      column = column_of shift p.rect.lo.x;
      low = x.0;
      high = x.1;
      stands = record {
        row = column_of shift p.rect.lo.y;
        low = y.0;
        high = y.1;
        key = ap (λ (l : ℕ). key_of l (column_of shift p.rect.lo.x) (column_of shift p.rect.lo.y)) near.on_layer;
        stands = w;
      };
    }
