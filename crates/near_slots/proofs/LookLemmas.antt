-- Searches one after another.
use Rattle.std.proofs.Common.{◌≡◌, ℕ, ◌<◌, ◌+◌, List, [], Option, length, get_or, take, sym, subst, ⊎_elim, ◌⊎◌, inl, inr}
use Rattle.std.specs.List.{Contains, Any}
use Rattle.std.proofs.lemmas.List.{take_more}
use Rattle.std.proofs.lemmas.List.Elements.{Contains-push_cases}
use Rattle.seg_geometry.specs.declared.near.Filed.{Filed}
use Rattle.seg_geometry.specs.declared.rectangles.Rect.{Rect}
use Rattle.near_slots.specs.declared.buckets.Spot.{Spot}
use Rattle.near_slots.specs.Looks.{IsUnder, Looks}

module _ (slots : List (Option Filed)) (layer : ℕ) (asked : Rect) where
  -- at no spot
  pub Looks-none : (In : Spot → Type 0) (found : List ℕ) → ((s : Spot) → In s → ⊥) → Looks slots layer asked In found found
  Looks-none In found no_spot = record { kept = λ id h. h; sound = λ id h. inl h; all = λ s p i at same near. absurd (no_spot s i) }

  -- at fewer spots
  pub Looks-fewer : (In Fewer : Spot → Type 0) (old new : List ℕ) → ((s : Spot) → Fewer s → In s) → Looks slots layer asked In old new
      → Looks slots layer asked Fewer old new
  Looks-fewer In Fewer old new less l = record { kept = l.kept; sound = l.sound; all = λ s p i at same near. l.all s p (less s i) at same near }

  -- at some spots, and then at others: at all that are among the one or the other
  pub Looks-then : (In Then All : Spot → Type 0) (old mid new : List ℕ) → ((s : Spot) → All s → In s ⊎ Then s) → Looks slots layer asked In old mid
      → Looks slots layer asked Then mid new → Looks slots layer asked All old new
  Looks-then In Then All old mid new split l m = record {
    kept = λ id h. m.kept id (l.kept id h);
    sound = λ id h. ⊎_elim (λ (a : Contains mid id). l.sound id a) (λ (b : IsUnder slots layer asked id). inr b) (m.sound id h);
    all = λ s p i at same near. ⊎_elim (λ (a : In s). m.kept p.id (l.all s p a at same near)) (λ (b : Then s). m.all s p b at same near) (split s i);
  }

-- one list more
pub Any-more : {X : Type 0} (Q : X → Type 0) (xs : List X) (i : ℕ) (d : X) → i < length xs → Any Q (take (i + 1) xs) → Any Q (take i xs) ⊎ Q (get_or xs i d)
Any-more {X} Q xs i d h a = ⊎_elim
    (λ (c : Contains (take i xs) a.1). inl (c.0, a.1, c.1, c.2, a.4))
    (λ (e : get_or xs i d ≡ a.1). inr (subst Q (sym e) a.4))
    (Contains-push_cases (take i xs) (get_or xs i d) a.1
    (subst (λ (ys : List X). Contains ys a.1) (take_more xs i d h) (a.0, a.2, a.3)))

module _ (slots : List (Option Filed)) (layer : ℕ) (asked : Rect) where
  pub Looks-in_more : (spots : List Spot) (i : ℕ) (d : Spot) (old mid new : List ℕ) → i < length spots
      → Looks slots layer asked (Contains (take i spots)) old mid
      → Looks slots layer asked (λ s. s ≡ get_or spots i d) mid new
      → Looks slots layer asked (Contains (take (i + 1) spots)) old new
  Looks-in_more spots i d old mid new h l m = Looks-then slots layer asked _ _ _ old mid new
      (λ s w. ⊎_elim (λ (a : Contains (take i spots) s). inl a) (λ (e : get_or spots i d ≡ s). inr (sym e))
      (Contains-push_cases (take i spots) (get_or spots i d) s (subst (λ (xs : List Spot). Contains xs s) (take_more spots i d h) w)))
      l m

  pub Looks-through_more : (lists : List (List Spot)) (i : ℕ) (old mid new : List ℕ) → i < length lists
      → Looks slots layer asked (λ s. Any (λ spots. Contains spots s) (take i lists)) old mid
      → Looks slots layer asked (Contains (get_or lists i [])) mid new
      → Looks slots layer asked (λ s. Any (λ spots. Contains spots s) (take (i + 1) lists)) old new
  Looks-through_more lists i old mid new h l m = Looks-then slots layer asked _ _ _ old mid new
      (λ s w. Any-more (λ spots. Contains spots s) lists i [] h w) l m
