-- What lists state at most once, behind what was stated before.
use Rattle.std.proofs.Common.{◌≡◌, ℕ, false, List, [], ◌∷◌, ◌++◌, Option, Some, None, refl, subst}
use Rattle.std.specs.Prelude.{is_some}
use Rattle.sexp_text.specs.Forest.{Forest, End, Word, Branch}
use Rattle.dsn_reader.specs.EndLists.{StateAtMostOne, IsNet}
use Rattle.dsn_lists.proofs.Growing.{Grows}

-- ---- what is stated at most once, behind what was stated before

abbrev pub Behind : {A : Type 0} → (Forest → A → Type 0) → Option A → List Forest → Option A → Type 0
Behind States (Some x) [] o = o ≡ Some x
Behind States (Some x) (f ∷ fs) o = ⊥
Behind States None fs o = StateAtMostOne States fs o

pub behind_stay : {A : Type 0} (States : Forest → A → Type 0) (o : Option A) → Behind States o [] o
behind_stay States None = refl
behind_stay States (Some x) = refl

pub behind_none : {A : Type 0} (States : Forest → A → Type 0) (o p : Option A) → Behind States o [] p → p ≡ o
behind_none States None p h = h
behind_none States (Some x) p h = h

pub behind_new : {A : Type 0} (States : Forest → A → Type 0) (o : Option A) (f : Forest) (x : A) → o ≡ None → States f x → Behind States o (f ∷ []) (Some x)
behind_new States None f x e h = (x, h, refl)
behind_new States (Some y) f x e h = absurd cc

pub behind_one : {A : Type 0} (States : Forest → A → Type 0) (o p : Option A) (f : Forest) → Behind States o (f ∷ []) p → (o ≡ None) × ((x : A) × States f x × (p ≡ Some x))
behind_one States None p f h = (refl, h)
behind_one States (Some y) p f h = absurd h

pub behind_join : {A : Type 0} (States : Forest → A → Type 0) (o p q : Option A) (fs gs : List Forest) → Behind States o fs p → Behind States p gs q → Behind States o (fs ++ gs) q
behind_join States None p q [] gs a b = subst (λ o. Behind States o gs q) a b
behind_join States None p q (f ∷ []) gs a b = one gs (subst (λ o. Behind States o gs q) a.2 b)
  where
    one : (gs : List Forest) → Behind States (Some a.0) gs q → StateAtMostOne States (f ∷ gs) q
    one [] b = (a.0, a.1, b)
    one (g ∷ gs) b = absurd b
behind_join States None p q (f ∷ g ∷ fs) gs a b = absurd a
behind_join States (Some x) p q [] gs a b = subst (λ o. Behind States o gs q) a b
behind_join States (Some x) p q (f ∷ fs) gs a b = absurd a

pub behind_split : {A : Type 0} (States : Forest → A → Type 0) (o q : Option A) (fs gs : List Forest) → Behind States o (fs ++ gs) q → (p : Option A) × Behind States o fs p × Behind States p gs q
behind_split States None q [] gs h = (None, refl, h)
behind_split States None q (f ∷ []) [] h = (Some h.0, (h.0, h.1, refl), h.2)
behind_split States None q (f ∷ []) (g ∷ gs) h = absurd h
behind_split States None q (f ∷ g ∷ fs) gs h = absurd h
behind_split States (Some x) q [] gs h = (Some x, refl, h)
behind_split States (Some x) q (f ∷ fs) gs h = absurd h

pub behind_map : {A : Type 0} (States Shows : Forest → A → Type 0) (o p : Option A) (fs : List Forest) → ((f : Forest) (x : A) → States f x → Shows f x) → Behind States o fs p → Behind Shows o fs p
behind_map States Shows None p [] map h = h
behind_map States Shows None p (f ∷ []) map h = (h.0, map f h.0 h.1, h.2)
behind_map States Shows None p (f ∷ g ∷ fs) map h = absurd h
behind_map States Shows (Some x) p [] map h = h
behind_map States Shows (Some x) p (f ∷ fs) map h = absurd h

pub net_grows : (a b : List (List ℕ)) → Grows a b → (f : Forest) (n : ℕ) → IsNet a f n → IsNet b f n
net_grows a b g End n h = absurd h
net_grows a b g (Word at text rest) n h = (h.0, g text n h.1)
net_grows a b g (Branch at inside rest) n h = absurd h

pub none_of : {A : Type 0} (o : Option A) → is_some o ≡ false → o ≡ None
none_of None e = refl
none_of (Some x) e = absurd cc
