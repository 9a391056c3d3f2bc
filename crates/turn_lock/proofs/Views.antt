-- The views where one changes, one comes or one is spent.
use Rattle.std.proofs.Common.{◌≡◌, ◌≢◌, ℕ, zero, suc, List, [], ◌∷◌, ◌++◌, length, set, sym, refl, ap, ◌∙◌, subst, ⊎_elim, true}
use Rattle.std.proofs.lemmas.Bool.{false≢true}
use mathlib.Core.Option.{some, some-ne-none, some-injective}
use lib.ListN.{get_elem?}
use Rattle.atomic_table.proofs.Lists.{at_set}
use Rattle.turn_lock.specs.declared.knowledge.Knowledge.{Knowledge}
use Rattle.turn_lock.specs.Remembering.{beginner, IsView}
use Rattle.turn_lock.proofs.Lists.{at_end}

module _ {C : Type 0} where
  pub is_first : (j : ℕ) (v : Knowledge C) → IsView (beginner ∷ []) j v → v ≡ beginner
  is_first zero v is = sym (some-injective _ _ is.0)
  is_first (suc j) v is = absurd (some-ne-none v (sym is.0))

  pub only_place : (j : ℕ) (v : Knowledge C) → IsView (beginner ∷ []) j v → j ≡ 0
  only_place zero v is = refl
  only_place (suc j) v is = absurd (some-ne-none v (sym is.0))

  -- one place has one view
  pub one_view : (vs : List (Knowledge C)) (j : ℕ) (v w : Knowledge C) → IsView vs j v → IsView vs j w → v ≡ w
  one_view vs j v w a b = some-injective _ _ (sym a.0 ∙ b.0)

  -- what holds of the new view and of each other one holds of all
  pub views_stay : (P : ℕ → Knowledge C → Type 0) (vs : List (Knowledge C)) (me : ℕ) (w : Knowledge C) → P me w → ((id : ℕ) (v : Knowledge C) → id ≢ me → IsView vs id v → P id v)
      → (id : ℕ) (v : Knowledge C) → IsView (set vs me w) id v → P id v
  views_stay P vs me w mine others id v is = ⊎_elim
      (λ (t : (id ≡ me) × (w ≡ v)). subst (λ (x : ℕ × Knowledge C). P x.0 x.1) (λ i. (sym t.0 i, t.1 i)) mine)
      (λ (t : (id ≢ me) × (get_elem? vs id ≡ some v)). others id v t.0 (t.1, is.1)) (at_set vs me id w v is.0)

  -- what holds of each view and of one that comes holds of all
  pub views_come : (P : ℕ → Knowledge C → Type 0) (vs : List (Knowledge C)) (w : Knowledge C) → P (length vs) w → ((id : ℕ) (v : Knowledge C) → IsView vs id v → P id v)
      → (id : ℕ) (v : Knowledge C) → IsView (vs ++ w ∷ []) id v → P id v
  views_come P vs w mine others id v is = ⊎_elim (λ (t : get_elem? vs id ≡ some v). others id v (t, is.1))
      (λ (t : (id ≡ length vs) × (w ≡ v)). subst (λ (x : ℕ × Knowledge C). P x.0 x.1) (λ i. (sym t.0 i, t.1 i)) mine) (at_end vs w v id is.0)

  -- what holds of each view but one that is spent holds of all
  views_leave : (P : ℕ → Knowledge C → Type 0) (vs : List (Knowledge C)) (other : ℕ) (w : Knowledge C) → w.spent ≡ true → ((id : ℕ) (v : Knowledge C) → id ≢ other → IsView vs id v → P id v)
      → (id : ℕ) (v : Knowledge C) → IsView (set vs other w) id v → P id v
  views_leave P vs other w spent others id v is = ⊎_elim
      (λ (t : (id ≡ other) × (w ≡ v)). absurd (false≢true (sym is.1 ∙ (ap (λ (u : Knowledge C). u.spent) (sym t.1) ∙ spent))))
      (λ (t : (id ≢ other) × (get_elem? vs id ≡ some v)). others id v t.0 (t.1, is.1)) (at_set vs other id w v is.0)

  -- the same where one view changes and another is spent
  pub views_join : (P : ℕ → Knowledge C → Type 0) (vs : List (Knowledge C)) (me other : ℕ) (w x : Knowledge C) → x.spent ≡ true → P me w
      → ((id : ℕ) (v : Knowledge C) → id ≢ me → id ≢ other → IsView vs id v → P id v) → (id : ℕ) (v : Knowledge C) → IsView (set (set vs me w) other x) id v → P id v
  views_join P vs me other w x spent mine others = views_leave P (set vs me w) other x spent
      (λ id v not_other is. views_stay (λ j u. j ≢ other → P j u) vs me w (λ _. mine) (λ j u not_me is_u not_o. others j u not_me not_o is_u) id v is not_other)

  -- the numbers still differ where one view changes and keeps its number
  pub apart_still : (vs : List (Knowledge C)) (me : ℕ) (v w : Knowledge C) → IsView vs me v → w.number ≡ v.number
      → ((i j : ℕ) (a b : Knowledge C) → IsView vs i a → IsView vs j b → a.number ≡ b.number → i ≡ j)
      → (i j : ℕ) (a b : Knowledge C) → IsView (set vs me w) i a → IsView (set vs me w) j b → a.number ≡ b.number → i ≡ j
  apart_still vs me v w at same apart i j a b is_a is_b = views_stay (λ k x. (l : ℕ) (y : Knowledge C) → IsView (set vs me w) l y → x.number ≡ y.number → k ≡ l) vs me w
      (views_stay (λ l y. w.number ≡ y.number → me ≡ l) vs me w (λ _. refl) (λ l y _ is e. apart me l v y at is (sym same ∙ e)))
      (λ k x _ is_x. views_stay (λ l y. x.number ≡ y.number → k ≡ l) vs me w (λ e. apart k me x v is_x at (e ∙ same)) (λ l y _ is_y e. apart k l x y is_x is_y e))
      i a is_a j b is_b

  -- the numbers differ where a new one comes
  pub apart_come : (vs : List (Knowledge C)) (w : Knowledge C) → ((j : ℕ) (u : Knowledge C) → IsView vs j u → u.number ≢ w.number)
      → ((i j : ℕ) (a b : Knowledge C) → IsView vs i a → IsView vs j b → a.number ≡ b.number → i ≡ j)
      → (i j : ℕ) (a b : Knowledge C) → IsView (vs ++ w ∷ []) i a → IsView (vs ++ w ∷ []) j b → a.number ≡ b.number → i ≡ j
  apart_come vs w new apart i j a b is_a is_b = views_come (λ k x. (l : ℕ) (y : Knowledge C) → IsView (vs ++ w ∷ []) l y → x.number ≡ y.number → k ≡ l) vs w
      (views_come (λ l y. w.number ≡ y.number → length vs ≡ l) vs w (λ _. refl) (λ l y is e. absurd (new l y is (sym e))))
      (λ k x is_x. views_come (λ l y. x.number ≡ y.number → k ≡ l) vs w (λ e. absurd (new k x is_x e)) (λ l y is_y e. apart k l x y is_x is_y e))
      i a is_a j b is_b

  -- the numbers still differ where one view keeps its number and another is spent
  pub apart_join : (vs : List (Knowledge C)) (me other : ℕ) (v w x : Knowledge C) → x.spent ≡ true → IsView vs me v → w.number ≡ v.number
      → ((i j : ℕ) (a b : Knowledge C) → IsView vs i a → IsView vs j b → a.number ≡ b.number → i ≡ j)
      → (i j : ℕ) (a b : Knowledge C) → IsView (set (set vs me w) other x) i a → IsView (set (set vs me w) other x) j b → a.number ≡ b.number → i ≡ j
  apart_join vs me other v w x spent at same apart i j a b is_a is_b = apart_still vs me v w at same apart i j a b
      (views_leave (λ k u. IsView (set vs me w) k u) (set vs me w) other x spent (λ k u _ is. is) i a is_a) (views_leave (λ k u. IsView (set vs me w) k u) (set vs me w) other x spent (λ k u _ is. is) j b is_b)
