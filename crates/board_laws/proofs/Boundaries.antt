-- What entitling a client changes of boundaries, and what a new boundary is.
use Rattle.std.proofs.Common.{◌≡◌, ℕ, List, [], ◌∷◌, refl, sym, ap, ◌∙◌, inl, inr, Bool, true, false}
use Rattle.std.specs.Prelude.{◌==◌, nat_lt, if◌then◌else◌, length}
use Rattle.std.proofs.lemmas.Bool.{ne_eqb}
use Rattle.area_geometry.specs.Copper.{Copper}
use Rattle.number_slots.specs.Slots.{is_among, IsAt}
use Rattle.number_slots.proofs.ByNumber.{by_bool, among_more, among_first, among_cases}
use Rattle.boundaries.specs.Boundaries.{Boundary, with_client, fence_made, entitling, entitled_at, IsEntitled}
use Rattle.boundaries.specs.Touching.{TouchesBoundary}

-- those who were entitled before are
among_with : (m other : ℕ) (clients : List ℕ) → is_among m clients ≡ true → is_among m (with_client other clients) ≡ true
among_with m other [] e = absurd cc
among_with m other (c ∷ rest) e =
    let more = among_with m other rest in
    by_bool (nat_lt other c) (is_among m (with_client other (c ∷ rest)) ≡ true)
    (λ t. rw t (among_more m other (c ∷ rest) e))
    (λ f. by_bool (other == c) (is_among m (with_client other (c ∷ rest)) ≡ true)
    (λ t. rw (f, t) e)
    (λ g. rw (f, g) (elim (among_cases m c rest e) [ inl same ↦ among_first m c (with_client other rest) same | inr later ↦ among_more m c (with_client other rest) (more later) ])))

-- the boundary, with one more entitled client where this is so
abbrev pub granted : Bool → ℕ → Boundary → Boundary
granted test other f = if test then entitling other f else f

-- who was entitled before is
pub granted_entitles : (test : Bool) (other client : ℕ) (f : Boundary) → IsEntitled f client → IsEntitled (granted test other f) client
granted_entitles true other client f (inl owner) = inl owner
granted_entitles true other client f (inr among) = inr (among_with client other f.clients among)
granted_entitles false other client f h = h

-- what touches it touched it before
pub granted_touched : (test : Bool) (other : ℕ) (f : Boundary) (shapes : List Copper) → TouchesBoundary shapes (granted test other f) → TouchesBoundary shapes f
granted_touched true other f shapes h = h
granted_touched false other f shapes h = h

-- where a boundary stood before it was granted or not
pub record WasAt (fences : List (ℕ × Boundary)) (fence other n : ℕ) (f : Boundary) : Type 0 where
  pub old : Boundary
  pub old_is : IsAt fences n old
  pub is : f ≡ granted (n == fence) other old

one_was : (fence other : ℕ) (y : ℕ × Boundary) (ys : List (ℕ × Boundary)) (n : ℕ) (f : Boundary) (test : Bool) → (y.0 == fence) ≡ test → (IsAt (entitled_at fence other ys) n f → WasAt ys fence other n f) → IsAt (entitled_at fence other (y ∷ ys)) n f → WasAt (y ∷ ys) fence other n f
one_was fence other y ys n f true e more h = elim (rw e at h) [
  | inl k ↦ record { old = y.1; old_is = inl (k.0, refl); is = sym k.1 ∙ ap (λ (b : Bool). granted b other y.1) (sym e ∙ ap (λ (m : ℕ). m == fence) k.0) }
  | inr k ↦ let w = more k in record { old = w.old; old_is = inr w.old_is; is = w.is }
]
one_was fence other y ys n f false e more h = elim (rw e at h) [
  | inl k ↦ record { old = y.1; old_is = inl (k.0, refl); is = sym k.1 ∙ ap (λ (b : Bool). granted b other y.1) (sym e ∙ ap (λ (m : ℕ). m == fence) k.0) }
  | inr k ↦ let w = more k in record { old = w.old; old_is = inr w.old_is; is = w.is }
]

-- each boundary stood there before, granted or not
pub was_at : (fence other : ℕ) (fences : List (ℕ × Boundary)) (n : ℕ) (f : Boundary) → IsAt (entitled_at fence other fences) n f → WasAt fences fence other n f
was_at fence other [] n f h = absurd h
was_at fence other (y ∷ ys) n f h = one_was fence other y ys n f (y.0 == fence) refl (was_at fence other ys n f) h

-- other boundaries stay as they were
pub other_stays : (fence other : ℕ) (fences : List (ℕ × Boundary)) (n : ℕ) (f : Boundary) → (n ≡ fence → ⊥) → IsAt fences n f → IsAt (entitled_at fence other fences) n f
other_stays fence other [] n f differs h = h
other_stays fence other (y ∷ ys) n f differs (inl h) = let e : (y.0 == fence) ≡ false = ne_eqb y.0 fence (λ same. differs (sym h.0 ∙ same)) in rw e (inl h)
other_stays fence other (y ∷ ys) n f differs (inr h) = inr (other_stays fence other ys n f differs h)

one_fence : (n : ℕ) (made : Boundary) (test : Bool) (m : ℕ) (f : Boundary) → nat_lt (length made.area) 3 ≡ test → IsAt (fence_made n made) m f → (n ≡ m) × (made ≡ f)
one_fence n made true m f e h = absurd (rw e at h)
one_fence n made false m f e h = elim (rw e at h) [ inl k ↦ k | inr k ↦ absurd k ]

-- a new boundary under its number
pub fence_is : (n : ℕ) (made : Boundary) (m : ℕ) (f : Boundary) → IsAt (fence_made n made) m f → (n ≡ m) × (made ≡ f)
fence_is n made m f h = one_fence n made (nat_lt (length made.area) 3) m f refl h
