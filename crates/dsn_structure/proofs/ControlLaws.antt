-- The flip styles that lists state are those that are read, and their first fault is the one that is told.
use Rattle.std.proofs.Common.{◌≡◌, ℕ, ◌≤◌, Bool, true, false, cond, is_some, List, [], ◌∷◌, ◌++◌, codes, length, Option, Some, None, option_to_list, Ok, Err, refl, sym, ap, subst, ◌∙◌, append_assoc, arith, inl, inr, ◌⊎◌}
use Rattle.std.proofs.lemmas.List.{append-nil, length-append}
use Rattle.sexp_text.specs.Forest.{Forest, End, Word, Branch}
use Rattle.dsn_lists.specs.declared.faults.DesignFault.{DesignFault}
use Rattle.dsn_lists.specs.declared.faults.DesignKind.TheVariants as kind
use Rattle.dsn_lists.specs.Results.{Read, ◌>>=◌, wrong, each}
use Rattle.dsn_lists.specs.Words.{same, head_of}
use Rattle.dsn_lists.specs.Lists.{collect, Every, When, told, IsFirst}
use Rattle.dsn_lists.proofs.Firsts.{made, failed, ok_is, bind_ok, bind_err, first_found, first_again}
use Rattle.dsn_structure.specs.declared.flips.FlipStyle.{FlipStyle}
use Rattle.dsn_structure.specs.Structures.{flip_list, flip_item}
use Rattle.dsn_structure.specs.FlipLists.{IsFlipStyle, FlipStyleFault, style_named, IsControl, styles_in, AreControls, ControlFault}
use Rattle.dsn_structure.proofs.StyleLaws.{style_found, style_again, style_fault, style_fault_again}

-- ---- one list of a `place_control`

-- the one of a list of at most one
abbrev pub only : List FlipStyle → Option FlipStyle
only [] = None
only (s ∷ ss) = Some s

only_option : (o : Option FlipStyle) → only (option_to_list o) ≡ o
only_option None = refl
only_option (Some s) = refl

option_only : (ss : List FlipStyle) → length ss ≤ 1 → option_to_list (only ss) ≡ ss
option_only [] h = refl
option_only (s ∷ []) h = refl
option_only (s ∷ t ∷ ss) h = absurd (omega arith)

option_short : (o : Option FlipStyle) → length (option_to_list o) ≤ 1
option_short None = omega arith
option_short (Some s) = omega arith

-- what a list does to the style that is there, where it is one of `flip_style` or not
abbrev step : Option FlipStyle → ℕ → Forest → Bool → Read (Option FlipStyle)
step o at args b = cond b (cond (is_some o) (wrong kind.Form at) (flip_list at args >>= λ s. made (Some s))) (made o)

one_found : (o : Option FlipStyle) (at : ℕ) (args : Forest) (b : Bool) (p : Option FlipStyle) → step o at args b ≡ Ok p → When b (IsFlipStyle args) × (option_to_list p ≡ option_to_list o ++ cond b (style_named args) [])
one_found None at args true p e =
    let s = bind_ok (flip_list at args) (λ s. made (Some s)) p e in
    let f = style_found at args s.0 s.1 in
    (f.0, ap option_to_list (sym (ok_is (Some s.0) p s.2)) ∙ sym f.1)
one_found (Some t) at args true p e = absurd cc
one_found o at args false p e = (tt, ap option_to_list (sym (ok_is o p e)) ∙ sym (append-nil (option_to_list o)))

one_again : (o : Option FlipStyle) (at : ℕ) (args : Forest) (b : Bool) → When b (IsFlipStyle args) → length (option_to_list o ++ cond b (style_named args) []) ≤ 1
    → step o at args b ≡ Ok (only (option_to_list o ++ cond b (style_named args) []))
one_again None at args true h few = let s = style_again at args h in rw (s.1, s.2) refl
one_again (Some t) at args true h few =
    let s = style_again at args h in
    let more : length (t ∷ (s.0 ∷ [])) ≤ 1 = subst (λ (x : List FlipStyle). length (t ∷ x) ≤ 1) s.2 few in
    absurd (omega arith)
one_again None at args false h few = refl
one_again (Some t) at args false h few = refl

-- ---- all of its lists

controls_found : (f : Forest) (o p : Option FlipStyle) → each flip_item o f ≡ Ok p → Every IsControl f × (option_to_list p ≡ option_to_list o ++ collect styles_in f)
unfolding each flip_item
controls_found End o p e = (tt, ap option_to_list (sym (ok_is o p e)) ∙ sym (append-nil (option_to_list o)))
controls_found (Word at text rest) o p e = absurd cc
controls_found (Branch at inside rest) o p e =
    let y = bind_ok (flip_item o at inside) (λ y. each flip_item y rest) p e in
    let one = one_found o at (head_of inside).args (same (head_of inside).text (codes "flip_style")) y.0 y.1 in
    let more = controls_found rest y.0 p y.2 in
    ((one.0, more.0), more.1 ∙ ap (λ (x : List FlipStyle). x ++ collect styles_in rest) one.1 ∙ append_assoc (option_to_list o) (styles_in at inside) (collect styles_in rest))

front_short : (xs ys zs : List FlipStyle) → length (xs ++ (ys ++ zs)) ≤ 1 → length (xs ++ ys) ≤ 1
front_short xs ys zs h =
    let all = length-append (xs ++ ys) zs in
    let same = ap length (append_assoc xs ys zs) in
    omega arith

controls_again : (f : Forest) (o : Option FlipStyle) → Every IsControl f → length (option_to_list o ++ collect styles_in f) ≤ 1 → each flip_item o f ≡ Ok (only (option_to_list o ++ collect styles_in f))
unfolding each flip_item
controls_again End o h few = ap made (sym (only_option o) ∙ ap only (sym (append-nil (option_to_list o))))
controls_again (Word at text rest) o h few = absurd h
controls_again (Branch at inside rest) o h few =
    let short = front_short (option_to_list o) (styles_in at inside) (collect styles_in rest) few in
    let first = one_again o at (head_of inside).args (same (head_of inside).text (codes "flip_style")) h.0 short in
    let reached = ap (λ (x : List FlipStyle). x ++ collect styles_in rest) (option_only (option_to_list o ++ styles_in at inside) short) ∙ append_assoc (option_to_list o) (styles_in at inside) (collect styles_in rest) in
    let more = controls_again rest (only (option_to_list o ++ styles_in at inside)) h.1 (subst (λ (x : List FlipStyle). length x ≤ 1) (sym reached) few) in
    rw first (more ∙ ap (λ (x : List FlipStyle). made (only x)) reached)

pub are_found : (f : Forest) (p : Option FlipStyle) → each flip_item None f ≡ Ok p → AreControls f × (p ≡ only (collect styles_in f))
are_found f p e =
    let h = controls_found f None p e in
    ((h.0, subst (λ (x : List FlipStyle). length x ≤ 1) h.1 (option_short p)), sym (only_option p) ∙ ap only h.1)

pub are_again : (f : Forest) → AreControls f → each flip_item None f ≡ Ok (only (collect styles_in f))
are_again f h = controls_again f None h.0 h.1

-- ---- the first fault

abbrev OneFault : List FlipStyle → ℕ → Forest → DesignFault → Type 0
OneFault ss at args e = ((length ss ≡ 1) × (e ≡ told kind.Form at)) ⊎ ((ss ≡ []) × FlipStyleFault at args e)

one_fault : (ss : List FlipStyle) (at : ℕ) (args : Forest) (b : Bool) (e : DesignFault) → length ss ≤ 1 → step (only ss) at args b ≡ Err e → (b ≡ true) × OneFault ss at args e
one_fault [] at args true e few h =
    elim (bind_err (flip_list at args) (λ s. made (Some s)) e h) [
      | inl here ↦ (refl, inr (refl, style_fault at args e here))
      | inr later ↦ absurd cc
    ]
one_fault (s ∷ ss) at args true e few h = (refl, inl (omega arith, cc))
one_fault ss at args false e few h = absurd cc

one_fault_again : (ss : List FlipStyle) (at : ℕ) (args : Forest) (e : DesignFault) → OneFault ss at args e → step (only ss) at args true ≡ Err e
one_fault_again [] at args e (inl second) = absurd (omega (arith, second.0))
one_fault_again (s ∷ ss) at args e (inl second) = ap failed (sym second.1)
one_fault_again ss at args e (inr first) = rw (first.0, style_fault_again at args e first.1) refl

item_fault : (before inside : Forest) (at : ℕ) (e : DesignFault) → AreControls before → flip_item (only (collect styles_in before)) at inside ≡ Err e → ControlFault before at inside e
unfolding flip_item
item_fault before inside at e stand h = one_fault (collect styles_in before) at (head_of inside).args (same (head_of inside).text (codes "flip_style")) e stand.1 h

item_fault_again : (before inside : Forest) (at : ℕ) (e : DesignFault) → AreControls before → ControlFault before at inside e → flip_item (only (collect styles_in before)) at inside ≡ Err e
unfolding flip_item
item_fault_again before inside at e stand h = rw h.0 (one_fault_again (collect styles_in before) at (head_of inside).args e h.1)

pub controls_fault : (f : Forest) (e : DesignFault) → each flip_item None f ≡ Err e → IsFirst AreControls ControlFault f e
controls_fault f e h = first_found flip_item None (λ f. only (collect styles_in f)) AreControls ControlFault are_found item_fault f e h

pub controls_fault_again : (f : Forest) (e : DesignFault) → IsFirst AreControls ControlFault f e → each flip_item None f ≡ Err e
controls_fault_again f e h = first_again flip_item None (λ f. only (collect styles_in f)) AreControls ControlFault are_again item_fault_again f e h
