-- The flip style of a `place_control` list is the one that is read, and its first fault is the one that is told.
use Rattle.std.proofs.Common.{◌≡◌, ℕ, ◌≤◌, List, [], ◌∷◌, length, Option, None, Ok, Err, refl, sym, ap, ◌∙◌, arith, inl, inr}
use Rattle.sexp_text.specs.Forest.{Forest}
use Rattle.dsn_lists.specs.declared.faults.DesignFault.{DesignFault}
use Rattle.dsn_lists.specs.declared.faults.DesignKind.TheVariants as kind
use Rattle.dsn_lists.specs.Results.{each}
use Rattle.dsn_lists.specs.Lists.{collect, told}
use Rattle.dsn_lists.proofs.Firsts.{ok_is, bind_ok, bind_err}
use Rattle.dsn_structure.specs.declared.flips.FlipStyle.{FlipStyle}
use Rattle.dsn_structure.specs.Structures.{flip_item, stated_flip, flip_of}
use Rattle.dsn_structure.specs.FlipLists.{styles_in, IsPlaceControl, PlaceControlFault}
use Rattle.dsn_structure.proofs.ControlLaws.{only, are_found, are_again, controls_fault, controls_fault_again}

-- ---- `(place_control (flip_style <word>) ..)`

stated_ok : (at : ℕ) (ss : List FlipStyle) (s : FlipStyle) → length ss ≤ 1 → stated_flip at (only ss) ≡ Ok s → ss ≡ s ∷ []
stated_ok at [] s few e = absurd cc
stated_ok at (t ∷ []) s few e = ap (λ (x : FlipStyle). x ∷ []) (ok_is t s e)
stated_ok at (t ∷ r ∷ ss) s few e = absurd (omega arith)

pub flip_found : (at : ℕ) (f : Forest) (s : FlipStyle) → flip_of at f ≡ Ok s → IsPlaceControl f × (collect styles_in f ≡ s ∷ [])
unfolding flip_of
flip_found at f s e =
    let o = bind_ok (each flip_item None f) (λ o. stated_flip at o) s e in
    let h = are_found f o.0 o.1 in
    let one = stated_ok at (collect styles_in f) s h.0.1 (ap (λ (p : Option FlipStyle). stated_flip at p) (sym h.1) ∙ o.2) in
    ((h.0.0, ap length one), one)

one_style : (ss : List FlipStyle) → length ss ≡ 1 → (s : FlipStyle) × (ss ≡ s ∷ [])
one_style [] h = absurd (omega (arith, h))
one_style (s ∷ []) h = (s, refl)
one_style (s ∷ t ∷ ss) h = absurd (omega (arith, h))

pub flip_again : (at : ℕ) (f : Forest) → IsPlaceControl f → (s : FlipStyle) × (flip_of at f ≡ Ok s) × (collect styles_in f ≡ s ∷ [])
unfolding flip_of
flip_again at f h =
    let s = one_style (collect styles_in f) h.1 in
    let few : length (collect styles_in f) ≤ 1 = let one = h.1 in omega arith in
    (s.0, rw (are_again f (h.0, few)) (ap (λ (x : List FlipStyle). stated_flip at (only x)) s.1), s.1)

stated_none : (at : ℕ) (ss : List FlipStyle) (e : DesignFault) → stated_flip at (only ss) ≡ Err e → (ss ≡ []) × (e ≡ told kind.Form at)
stated_none at [] e h = (refl, cc)
stated_none at (s ∷ ss) e h = absurd cc

pub flip_fault : (at : ℕ) (f : Forest) (e : DesignFault) → flip_of at f ≡ Err e → PlaceControlFault at f e
unfolding flip_of
flip_fault at f e h =
    elim (bind_err (each flip_item None f) (λ o. stated_flip at o) e h) [
      | inl here ↦ inl (controls_fault f e here)
      | inr later ↦
          let c = are_found f later.0 later.1 in
          let none = stated_none at (collect styles_in f) e (ap (λ (p : Option FlipStyle). stated_flip at p) (sym c.1) ∙ later.2) in
          inr (c.0.0, none.0, none.1)
    ]

pub flip_fault_again : (at : ℕ) (f : Forest) (e : DesignFault) → PlaceControlFault at f e → flip_of at f ≡ Err e
unfolding flip_of
flip_fault_again at f e (inl here) = rw (controls_fault_again f e here) refl
flip_fault_again at f e (inr none) =
    let few : length (collect styles_in f) ≤ 1 = let zero = ap length none.1 in omega arith in
    rw (are_again f (none.0, few), none.1, none.2) refl
