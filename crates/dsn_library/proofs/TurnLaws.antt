-- The turns that lists of a pin state are those that are read, and the fault of one is the one that is told.
use Rattle.std.proofs.Common.{◌≡◌, ℕ, Bool, true, false, cond, is_some, List, [], ◌∷◌, ◌++◌, codes, Option, Some, None, Ok, Err, refl, sym, ap, subst, ◌∙◌, inl, inr, ◌⊎◌}
use Rattle.sexp_text.specs.Forest.{Forest, End, Word, Branch}
use Rattle.dsn_lists.specs.declared.faults.DesignFault.{DesignFault}
use Rattle.dsn_lists.specs.declared.faults.DesignKind.TheVariants as kind
use Rattle.dsn_lists.specs.Results.{Read, ◌>>=◌, wrong, each}
use Rattle.dsn_lists.specs.Words.{same, mark, head_of, word_of, spare}
use Rattle.dsn_lists.specs.Lists.{Every, joined, told, IsFirst}
use Rattle.dsn_lists.specs.ShortLists.{HasStray}
use Rattle.dsn_lists.proofs.Firsts.{made, failed, ok_is, bind_ok, bind_err, word_fault, word_fault_again, first_found, first_again}
use Rattle.dsn_lists.proofs.ShortLaws.{spare_value, spare_again, spare_then, spare_then_again}
use Rattle.dsn_library.specs.Images.{angle_word, rotate_of, rotate_item, rotation, pin_trail_item, or_zero}
use Rattle.dsn_library.specs.AngleWords.{HasAngle, StatesAngle, AngleWordFault}
use Rattle.dsn_library.specs.ImageLists.{IsRotate, RotateFault, first_lists, behind_lists, rotates_in, StateTurn, AreTurns, TurnFault, IsPinTrail, PinTrailFault}
use Rattle.dsn_library.proofs.AngleWordLaws.{angle_found, angle_again, angle_fault, angle_fault_again}

-- ---- `(rotate <angle>)`

-- what follows the keyword and a word
abbrev rotate_rest : ℕ → List ℕ → Forest → Read ℕ
rotate_rest a text rest = angle_word (mark a text) >>= λ e. spare rest >>= λ _. made e

rotate_found : (at : ℕ) (f : Forest) (e : ℕ) → rotate_of at f ≡ Ok e → IsRotate f e
unfolding rotate_of word_of
rotate_found at End e h = absurd cc
rotate_found at (Branch a inside rest) e h = absurd cc
rotate_found at (Word a text rest) e h =
    let x = bind_ok (angle_word (mark a text)) (λ e. spare rest >>= λ _. made e) e h in
    let v = spare_value rest x.0 e x.2 in
    (subst (λ (n : ℕ). HasAngle text (Ok n)) v.1 (angle_found a text x.0 x.1), v.0)

rotate_again : (at : ℕ) (f : Forest) (e : ℕ) → IsRotate f e → rotate_of at f ≡ Ok e
unfolding rotate_of word_of
rotate_again at End e h = absurd h
rotate_again at (Branch a inside rest) e h = absurd h
rotate_again at (Word a text rest) e h = rw (angle_again a text e h.0, spare_again rest tt h.1) refl

abbrev RotateWordFault : ℕ → List ℕ → Forest → DesignFault → Type 0
RotateWordFault a text rest e = AngleWordFault a text e ⊎ (StatesAngle text × HasStray rest e)

rotate_word : (a : ℕ) (text : List ℕ) (rest : Forest) (e : DesignFault) → rotate_rest a text rest ≡ Err e → RotateWordFault a text rest e
rotate_word a text rest e h =
    elim (bind_err (angle_word (mark a text)) (λ e. spare rest >>= λ _. made e) e h) [
      | inl here ↦ inl (angle_fault a text e here)
      | inr later ↦ inr ((later.0, angle_found a text later.0 later.1), spare_then rest later.0 e later.2)
    ]

rotate_word_again : (a : ℕ) (text : List ℕ) (rest : Forest) (e : DesignFault) → RotateWordFault a text rest e → rotate_rest a text rest ≡ Err e
rotate_word_again a text rest e (inl here) = rw (angle_fault_again a text e here) refl
rotate_word_again a text rest e (inr later) = rw (angle_again a text later.0.0 later.0.1) (spare_then_again rest later.0.0 e later.1)

rotate_fault : (at : ℕ) (f : Forest) (e : DesignFault) → rotate_of at f ≡ Err e → RotateFault at f e
unfolding rotate_of
rotate_fault at f e h = word_fault _ RotateWordFault at f e (λ a text rest k. rotate_word a text rest e k) h

rotate_fault_again : (at : ℕ) (f : Forest) (e : DesignFault) → RotateFault at f e → rotate_of at f ≡ Err e
unfolding rotate_of
rotate_fault_again at f e h = word_fault_again _ RotateWordFault at f e (λ a text rest k. rotate_word_again a text rest e k) h

-- ---- the turn of lists

-- these `rotate` lists state this turn, or none where there are none
abbrev AreOneTurn : List Forest → Option ℕ → Type 0
AreOneTurn [] None = Unit {0}
AreOneTurn [] (Some e) = ⊥
AreOneTurn (f ∷ []) None = ⊥
AreOneTurn (f ∷ []) (Some e) = IsRotate f e
AreOneTurn (f ∷ g ∷ fs) o = ⊥

-- the same behind lists that stated this
abbrev AreTurnsBehind : Option ℕ → List Forest → Option ℕ → Type 0
AreTurnsBehind None fs o = AreOneTurn fs o
AreTurnsBehind (Some e) fs o = (fs ≡ []) × (o ≡ Some e)

-- what is read behind a list with these arguments, where it is one of `rotate` or not
abbrev step : ℕ → Option ℕ → Forest → Bool → Read (Option ℕ)
step at o args b = cond b (cond (is_some o) (wrong kind.Form at) (rotate_of at args >>= λ e. made (Some e))) (made o)

-- the arguments, where it is one of `rotate`, and others
abbrev with_args : Bool → Forest → List Forest → List Forest
with_args b args fs = cond b (args ∷ []) [] ++ fs

one_only : (args : Forest) (fs : List Forest) (e : ℕ) (o : Option ℕ) → fs ≡ [] → o ≡ Some e → IsRotate args e → AreOneTurn (args ∷ fs) o
one_only args fs e o none same h =
    subst (λ (p : Option ℕ). AreOneTurn (args ∷ fs) p) (sym same) (subst (λ (xs : List Forest). AreOneTurn (args ∷ xs) (Some e)) (sym none) h)

step_found : (at : ℕ) (o : Option ℕ) (args : Forest) (b : Bool) (z p : Option ℕ) (fs : List Forest) → step at o args b ≡ Ok z → AreTurnsBehind z fs p → AreTurnsBehind o (with_args b args fs) p
step_found at o args false z p fs e h = subst (λ (x : Option ℕ). AreTurnsBehind x fs p) (sym (ok_is o z e)) h
step_found at (Some k) args true z p fs e h = absurd cc
step_found at None args true z p fs e h =
    let r = bind_ok (rotate_of at args) (λ e. made (Some e)) z e in
    let behind = subst (λ (x : Option ℕ). AreTurnsBehind x fs p) (sym (ok_is (Some r.0) z r.2)) h in
    one_only args fs r.0 p behind.0 behind.1 (rotate_found at args r.0 r.1)

step_again : (at : ℕ) (o : Option ℕ) (args : Forest) (b : Bool) (p : Option ℕ) (fs : List Forest) → AreTurnsBehind o (with_args b args fs) p → (z : Option ℕ) × (step at o args b ≡ Ok z) × AreTurnsBehind z fs p
step_again at o args false p fs h = (o, refl, h)
step_again at (Some k) args true p fs h = absurd cc
step_again at None args true None [] h = absurd h
step_again at None args true (Some e) [] h = (Some e, rw (rotate_again at args e h) refl, (refl, refl))
step_again at None args true p (f ∷ fs) h = absurd h

turns_found : (f : Forest) (o p : Option ℕ) → each rotate_item o f ≡ Ok p → AreTurnsBehind o (rotates_in f) p
unfolding each rotate_item
turns_found End None p e = subst (λ (x : Option ℕ). AreOneTurn [] x) (ok_is None p e) tt
turns_found End (Some k) p e = (refl, sym (ok_is (Some k) p e))
turns_found (Word at text rest) o p e = absurd cc
turns_found (Branch at inside rest) o p e =
    let z = bind_ok (rotate_item o at inside) (λ z. each rotate_item z rest) p e in
    step_found at o (head_of inside).args (same (head_of inside).text (codes "rotate")) z.0 p (rotates_in rest) z.1 (turns_found rest z.0 p z.2)

-- there are only lists here
abbrev AreLists : Forest → Type 0
AreLists f = Every (λ at inside. Unit {0}) f

lists_first : (f : Forest) → AreLists (first_lists f)
lists_first End = tt
lists_first (Word at text rest) = tt
lists_first (Branch at inside rest) = (tt, lists_first rest)

none_behind : (o : Option ℕ) (p : Option ℕ) → AreTurnsBehind o [] p → o ≡ p
none_behind None None h = refl
none_behind None (Some e) h = absurd h
none_behind (Some k) p h = sym h.1

turns_again : (f : Forest) (o p : Option ℕ) → AreLists f → AreTurnsBehind o (rotates_in f) p → each rotate_item o f ≡ Ok p
unfolding each rotate_item
turns_again End o p lists h = ap made (none_behind o p h)
turns_again (Word at text rest) o p lists h = absurd lists
turns_again (Branch at inside rest) o p lists h =
    let z = step_again at o (head_of inside).args (same (head_of inside).text (codes "rotate")) p (rotates_in rest) h in
    rw z.1 (turns_again rest z.0 p lists.1 z.2)

-- ---- the turn, 0 where none is stated

turn_found : (fs : List Forest) (o : Option ℕ) → AreOneTurn fs o → StateTurn fs (or_zero o)
turn_found [] None h = refl
turn_found [] (Some e) h = absurd h
turn_found (f ∷ []) None h = absurd h
turn_found (f ∷ []) (Some e) h = h
turn_found (f ∷ g ∷ fs) o h = absurd h

turn_again : (fs : List Forest) (e : ℕ) → StateTurn fs e → (o : Option ℕ) × AreOneTurn fs o × (or_zero o ≡ e)
turn_again [] e h = (None, tt, sym h)
turn_again (f ∷ []) e h = (Some e, h, refl)
turn_again (f ∷ g ∷ fs) e h = absurd h

-- ---- the lists up to a word

pub bind_both : {A B C : Type 0} (r : Read A) (f : A → Read B) (g : B → Read C) → ((r >>= f) >>= g) ≡ (r >>= λ x. f x >>= g)
bind_both (Ok x) f g = refl
bind_both (Err e) f g = refl

-- what is read of the lists, and what follows them
abbrev read_both : Forest → Option ℕ → Read (Option ℕ × Forest)
read_both f o = each rotate_item o (first_lists f) >>= λ x. made (x, behind_lists f)

rotation_is : (f : Forest) (o : Option ℕ) → rotation o f ≡ read_both f o
unfolding rotation each
rotation_is End o = refl
rotation_is (Word at text rest) o = refl
rotation_is (Branch at inside rest) o =
    ap (λ (k : Option ℕ → Read (Option ℕ × Forest)). rotate_item o at inside >>= k) (λ i x. rotation_is rest x i)
    ∙ sym (bind_both (rotate_item o at inside) (λ y. each rotate_item y (first_lists rest)) (λ x. made (x, behind_lists rest)))

-- what is read behind a pin's padstack
abbrev pub IsRotation : Forest → Option ℕ × Forest → Type 0
IsRotation f r = StateTurn (rotates_in (first_lists f)) (or_zero r.0) × (r.1 ≡ behind_lists f)

pub rotation_found : (f : Forest) (r : Option ℕ × Forest) → rotation None f ≡ Ok r → IsRotation f r
rotation_found f r e =
    let x = bind_ok (each rotate_item None (first_lists f)) (λ x. made (x, behind_lists f)) r (sym (rotation_is f None) ∙ e) in
    let same = ok_is (x.0, behind_lists f) r x.2 in
    subst (λ (y : Option ℕ × Forest). IsRotation f y) same (turn_found (rotates_in (first_lists f)) x.0 (turns_found (first_lists f) None x.0 x.1), refl)

pub rotation_again : (f : Forest) (e : ℕ) → StateTurn (rotates_in (first_lists f)) e → (o : Option ℕ) × (rotation None f ≡ Ok (o, behind_lists f)) × (or_zero o ≡ e)
rotation_again f e h =
    let t = turn_again (rotates_in (first_lists f)) e h in
    (t.0, rotation_is f None ∙ rw (turns_again (first_lists f) None t.0 (lists_first f) t.1) refl, t.2)

-- ---- the first fault of the lists up to a word

-- the turn that was read, and none where nothing was
abbrev read_or : Read (Option ℕ) → Option ℕ
read_or (Ok o) = o
read_or (Err e) = None

abbrev all : Forest → Option ℕ
all f = read_or (each rotate_item None f)

step_fault : (at : ℕ) (o : Option ℕ) (args : Forest) (b : Bool) (fs : List Forest) (e : DesignFault) → AreOneTurn fs o → step at o args b ≡ Err e
    → (b ≡ true) × ((((f : Forest) × (fs ≡ f ∷ [])) × (e ≡ told kind.Form at)) ⊎ ((fs ≡ []) × RotateFault at args e))
step_fault at o args false fs e h k = absurd cc
step_fault at None args true [] e h k =
    elim (bind_err (rotate_of at args) (λ e. made (Some e)) e k) [
      | inl here ↦ (refl, inr (refl, rotate_fault at args e here))
      | inr later ↦ absurd cc
    ]
step_fault at (Some n) args true [] e h k = absurd h
step_fault at None args true (f ∷ []) e h k = absurd h
step_fault at (Some n) args true (f ∷ []) e h k = (refl, inl ((f, refl), cc))
step_fault at o args true (f ∷ g ∷ fs) e h k = absurd h

step_fault_again : (at : ℕ) (o : Option ℕ) (args : Forest) (b : Bool) (fs : List Forest) (e : DesignFault) → AreOneTurn fs o
    → b ≡ true → (((f : Forest) × (fs ≡ f ∷ [])) × (e ≡ told kind.Form at)) ⊎ ((fs ≡ []) × RotateFault at args e) → step at o args b ≡ Err e
step_fault_again at o args false fs e h is k = absurd cc
step_fault_again at None args true [] e h is (inl again) = let none = again.0.1 in absurd cc
step_fault_again at None args true [] e h is (inr first) = rw (rotate_fault_again at args e first.1) refl
step_fault_again at (Some n) args true [] e h is k = absurd h
step_fault_again at None args true (f ∷ []) e h is k = absurd h
step_fault_again at (Some n) args true (f ∷ []) e h is (inl again) = ap failed (sym again.1)
step_fault_again at (Some n) args true (f ∷ []) e h is (inr first) = let none = first.0 in absurd cc
step_fault_again at o args true (f ∷ g ∷ fs) e h is k = absurd h

-- lists that were read, and the turn that they state
abbrev Stand : Forest → Type 0
Stand f = AreLists f × AreTurns f

is_all : (f : Forest) → Stand f → AreOneTurn (rotates_in f) (all f)
is_all f h =
    let t = turn_again (rotates_in f) h.1.0 h.1.1 in
    subst (λ (o : Option ℕ). AreOneTurn (rotates_in f) o) (sym (ap read_or (turns_again f None t.0 h.0 t.1))) t.1

item_fault : (before inside : Forest) (at : ℕ) (e : DesignFault) → AreOneTurn (rotates_in before) (all before) → rotate_item (all before) at inside ≡ Err e → TurnFault before at inside e
unfolding rotate_item
item_fault before inside at e h k = step_fault at (all before) (head_of inside).args (same (head_of inside).text (codes "rotate")) (rotates_in before) e h k

item_fault_again : (before inside : Forest) (at : ℕ) (e : DesignFault) → AreOneTurn (rotates_in before) (all before) → TurnFault before at inside e → rotate_item (all before) at inside ≡ Err e
unfolding rotate_item
item_fault_again before inside at e h k = step_fault_again at (all before) (head_of inside).args (same (head_of inside).text (codes "rotate")) (rotates_in before) e h k.0 k.1

turned : (f : Forest) (o : Option ℕ) → each rotate_item None f ≡ Ok o → AreTurns f × (o ≡ all f)
turned f o e = ((or_zero o, turn_found (rotates_in f) o (turns_found f None o e)), sym (ap read_or e))

read_lists : (f : Forest) (o p : Option ℕ) → each rotate_item o f ≡ Ok p → AreLists f
unfolding each
read_lists End o p e = tt
read_lists (Word at text rest) o p e = absurd cc
read_lists (Branch at inside rest) o p e = let z = bind_ok (rotate_item o at inside) (λ z. each rotate_item z rest) p e in (tt, read_lists rest z.0 p z.2)

front_lists : (before after : Forest) → AreLists (joined before after) → AreLists before
front_lists End after h = tt
front_lists (Word at text rest) after h = absurd h
front_lists (Branch at inside rest) after h = (tt, front_lists rest after h.1)

lists_fault : (f : Forest) (e : DesignFault) → each rotate_item None f ≡ Err e → IsFirst Stand TurnFault f e
lists_fault f e h =
    first_found rotate_item None all Stand TurnFault (λ f o k. let t = turned f o k in ((read_lists f None o k, t.0), t.1))
    (λ before inside at e stand k. item_fault before inside at e (is_all before stand) k) f e h

lists_fault_again : (f : Forest) (e : DesignFault) → IsFirst Stand TurnFault f e → each rotate_item None f ≡ Err e
lists_fault_again f e h =
    first_again rotate_item None all Stand TurnFault (λ f s. turns_again f None (all f) s.0 (is_all f s))
    (λ before inside at e stand k. item_fault_again before inside at e (is_all before stand) k) f e h

pub rotation_fault : (f : Forest) (e : DesignFault) → rotation None f ≡ Err e → IsFirst AreTurns TurnFault (first_lists f) e
rotation_fault f e h =
    elim (bind_err (each rotate_item None (first_lists f)) (λ x. made (x, behind_lists f)) e (sym (rotation_is f None) ∙ h)) [
      | inl here ↦
          let r = lists_fault (first_lists f) e here in
          record { before = r.before; after = r.after; parts = r.parts; stand = r.stand.1; breaks = r.breaks }
      | inr later ↦ absurd cc
    ]

pub rotation_fault_again : (f : Forest) (e : DesignFault) → IsFirst AreTurns TurnFault (first_lists f) e → rotation None f ≡ Err e
rotation_fault_again f e r =
    let lists = front_lists r.before r.after (subst AreLists r.parts (lists_first f)) in
    let first : IsFirst Stand TurnFault (first_lists f) e = record { before = r.before; after = r.after; parts = r.parts; stand = (lists, r.stand); breaks = r.breaks } in
    rotation_is f None ∙ rw (lists_fault_again (first_lists f) e first) refl

-- ---- the lists behind the words of a pin

trail_one : (at : ℕ) (b : Bool) (x : Unit {0}) → cond b (wrong {A = Unit {0}} kind.Form at) (made tt) ≡ Ok x → b ≡ false
trail_one at true x e = absurd cc
trail_one at false x e = refl

trail_err : (at : ℕ) (b : Bool) (e : DesignFault) → cond b (wrong {A = Unit {0}} kind.Form at) (made tt) ≡ Err e → (b ≡ true) × (e ≡ told kind.Form at)
trail_err at true e h = (refl, cc)
trail_err at false e h = absurd cc

pub trail_found : (f : Forest) (x y : Unit {0}) → each pin_trail_item x f ≡ Ok y → Every IsPinTrail f
unfolding each pin_trail_item
trail_found End x y e = tt
trail_found (Word at text rest) x y e = absurd cc
trail_found (Branch at inside rest) x y e =
    let z = bind_ok (pin_trail_item x at inside) (λ z. each pin_trail_item z rest) y e in
    (trail_one at (same (head_of inside).text (codes "rotate")) z.0 z.1, trail_found rest z.0 y z.2)

pub trail_again : (f : Forest) → Every IsPinTrail f → each pin_trail_item tt f ≡ Ok tt
unfolding each pin_trail_item
trail_again End h = refl
trail_again (Word at text rest) h = absurd h
trail_again (Branch at inside rest) h = rw h.0 (trail_again rest h.1)

trail_item_fault : (before inside : Forest) (at : ℕ) (e : DesignFault) → pin_trail_item tt at inside ≡ Err e → PinTrailFault before at inside e
unfolding pin_trail_item
trail_item_fault before inside at e h = trail_err at (same (head_of inside).text (codes "rotate")) e h

trail_item_again : (before inside : Forest) (at : ℕ) (e : DesignFault) → PinTrailFault before at inside e → pin_trail_item tt at inside ≡ Err e
unfolding pin_trail_item
trail_item_again before inside at e h = rw (h.0, h.1) refl

pub trail_fault : (f : Forest) (e : DesignFault) → each pin_trail_item tt f ≡ Err e → IsFirst (Every IsPinTrail) PinTrailFault f e
trail_fault f e h =
    first_found pin_trail_item tt (λ f. tt) (Every IsPinTrail) PinTrailFault (λ f y k. (trail_found f tt y k, refl))
    (λ before inside at e stand k. trail_item_fault before inside at e k) f e h

pub trail_fault_again : (f : Forest) (e : DesignFault) → IsFirst (Every IsPinTrail) PinTrailFault f e → each pin_trail_item tt f ≡ Err e
trail_fault_again f e h =
    first_again pin_trail_item tt (λ f. tt) (Every IsPinTrail) PinTrailFault trail_again
    (λ before inside at e stand k. trail_item_again before inside at e k) f e h
