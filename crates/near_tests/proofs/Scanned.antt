-- What is near in a list, one element after another.
use Rattle.std.proofs.Common.{◌≡◌, ◌↔◌, ◌⊎◌, inl, inr, ℕ, ◌+◌, ◌<◌, List, [], ◌∷◌, ◌++◌, length, get_or, take, sym, subst, ⊎_elim}
use Rattle.std.specs.List.{Contains, Any}
use Rattle.std.proofs.lemmas.List.{take_more}
use Rattle.std.proofs.lemmas.List.Elements.{Contains-append_left, Contains-push}
use Rattle.seg_geometry.specs.declared.near.Filed.{Filed}
use Rattle.seg_geometry.specs.declared.rectangles.Rect.{Rect}
use Rattle.seg_geometry.specs.Near.{IsNear}
use Rattle.near_slots.proofs.LookLemmas.{Any-more}

-- it is filed under the id, on the layer, and meets the asked rectangle
abbrev pub IsOf : ℕ → Rect → ℕ → Filed → Type 0
IsOf layer asked id f = (f.id ≡ id) × IsNear layer asked f

-- the ids are those under which something near is filed
pub record AreThose (layer : ℕ) (asked : Rect) (list : List Filed) (ids : List ℕ) : Type 0 where
  pub exact : (id : ℕ) → Contains ids id ↔ Any (IsOf layer asked id) list

any-before : {X : Type 0} (P : X → Type 0) (xs : List X) (y : X) → Any P xs → Any P (xs ++ y ∷ [])
any-before P xs y a = let c = Contains-append_left xs (y ∷ []) a.1 (a.0, a.2, a.3) in (c.0, a.1, c.1, c.2, a.4)

any-last : {X : Type 0} (P : X → Type 0) (xs : List X) (y : X) → P y → Any P (xs ++ y ∷ [])
any-last P xs y h = let c = Contains-push xs y in (c.0, y, c.1, c.2, h)

-- one element more
pub those_more : (layer : ℕ) (asked : Rect) (list : List Filed) (i : ℕ) (d : Filed) (old new : List ℕ) → i < length list
    → ((id : ℕ) → Contains new id ↔ (Contains old id ⊎ IsOf layer asked id (get_or list i d)))
    → AreThose layer asked (take i list) old → AreThose layer asked (take (i + 1) list) new
those_more layer asked list i d old new lt added h = record {
  exact = λ id. (
    λ c. subst (λ (fs : List Filed). Any (IsOf layer asked id) fs) (sym (take_more list i d lt))
        (⊎_elim (λ (a : Contains old id). any-before (IsOf layer asked id) (take i list) (get_or list i d) ((h.exact id).0 a))
        (λ (b : IsOf layer asked id (get_or list i d)). any-last (IsOf layer asked id) (take i list) (get_or list i d) b)
        ((added id).0 c)),
    λ a. (added id).1 (⊎_elim (λ (b : Any (IsOf layer asked id) (take i list)). inl ((h.exact id).1 b))
        (λ (b : IsOf layer asked id (get_or list i d)). inr b)
        (Any-more (IsOf layer asked id) list i d lt a)),
  );
}
