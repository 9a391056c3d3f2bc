-- The pins that lists of an image state are those that are read, and the fault of one is the one that is told.
use Rattle.std.proofs.Common.{◌≡◌, ℕ, ℤ, List, Option, Some, None, Ok, Err, refl, sym, ap, subst, ◌∙◌, inl, inr, ◌⊎◌}
use Rattle.sexp_text.specs.Forest.{Forest, End, Word, Branch}
use Rattle.sexp_text.specs.declared.units.Unit.{Unit as LengthUnit}
use Rattle.seg_geometry.specs.declared.points.Pt.{Pt}
use Rattle.dsn_lists.specs.declared.faults.DesignFault.{DesignFault}
use Rattle.dsn_lists.specs.declared.faults.DesignKind.TheVariants as kind
use Rattle.dsn_lists.specs.declared.marks.Mark.{Mark}
use Rattle.dsn_lists.specs.Results.{Read, ◌>>=◌, each}
use Rattle.dsn_lists.specs.Names.{place_of}
use Rattle.dsn_lists.specs.Words.{mark, word_of}
use Rattle.dsn_lists.specs.Numbers.{length_word}
use Rattle.dsn_lists.specs.Places.{point}
use Rattle.dsn_lists.specs.Shapes.{point_of}
use Rattle.dsn_lists.specs.Lists.{Every, told, IsFirst}
use Rattle.dsn_lists.specs.ShortLists.{HasWord, NoWordOr}
use Rattle.dsn_lists.specs.Measures.{Measures}
use Rattle.dsn_lists.specs.PointWords.{StatesLength, LengthWordFault}
use Rattle.dsn_lists.proofs.Firsts.{made, ok_is, bind_ok, bind_err, word_fault, word_fault_again}
use Rattle.dsn_lists.proofs.LengthWordLaws.{length_found, length_again, length_fault, length_fault_again}
use Rattle.dsn_library.specs.Images.{rotation, pin_trail_item, stack_number, or_zero, PinWords, pin_of}
use Rattle.dsn_library.specs.ImageLists.{first_lists, behind_lists, rotates_in, StateTurn, AreTurns, TurnFault, IsPinTrail, PinTrailFault, IsPin, PinPlaceFault, PinFault}
use Rattle.dsn_library.proofs.TurnLaws.{bind_both, rotation_found, rotation_again, rotation_fault, rotation_fault_again, trail_found, trail_again, trail_fault, trail_fault_again}

-- ---- the place of a pin

abbrev words_of : ℕ → ℕ → List ℕ → Pt → PinWords
words_of s e id p = record { stack = s; eighths = e; id = id; at = p }

-- the lists behind the words
abbrev lists_rest : ℕ → ℕ → List ℕ → Pt × Forest → Read PinWords
lists_rest s e id p = each pin_trail_item tt p.1 >>= λ _. made (words_of s e id p.0)

-- the y, behind this x
abbrev y_rest : LengthUnit → ℕ → ℕ → ℕ → List ℕ → ℤ → Forest → Read PinWords
y_rest u at s e id x f = word_of at f >>= λ v. length_word u v.0 >>= λ y. lists_rest s e id (point x y, v.1)

-- the x and what follows it
abbrev x_rest : LengthUnit → ℕ → ℕ → ℕ → List ℕ → Forest → Read PinWords
x_rest u at s e id f = word_of at f >>= λ w. length_word u w.0 >>= λ x. y_rest u at s e id x w.1

-- the place, as it is read
abbrev place_rest : LengthUnit → ℕ → ℕ → ℕ → List ℕ → Forest → Read PinWords
place_rest u at s e id f = word_of at f >>= λ w. point_of u at w.0 w.1 >>= λ p. lists_rest s e id p

point_flat : (u : LengthUnit) (at : ℕ) (w : Mark) (f : Forest) (k : Pt × Forest → Read PinWords) → (point_of u at w f >>= k) ≡ (length_word u w >>= λ x. word_of at f >>= λ v. length_word u v.0 >>= λ y. k (point x y, v.1))
unfolding point_of
point_flat u at w f k =
    bind_both (length_word u w) (λ x. word_of at f >>= λ v. length_word u v.0 >>= λ y. made (point x y, v.1)) k
    ∙ ap (λ (g : ℤ → Read PinWords). length_word u w >>= g) (λ i x. (bind_both (word_of at f) (λ v. length_word u v.0 >>= λ y. made (point x y, v.1)) k
    ∙ ap (λ (g : Mark × Forest → Read PinWords). word_of at f >>= g) (λ j v. bind_both (length_word u v.0) (λ y. made (point x y, v.1)) k j)) i)

place_flat : (u : LengthUnit) (at s e : ℕ) (id : List ℕ) (f : Forest) → place_rest u at s e id f ≡ x_rest u at s e id f
place_flat u at s e id f = ap (λ (g : Mark × Forest → Read PinWords). word_of at f >>= g) (λ i w. point_flat u at w.0 w.1 (lists_rest s e id) i)

-- the words behind the id state this place
abbrev IsPlace : LengthUnit → Forest → Pt → Type 0
IsPlace u f p = HasWord (λ x more. Measures u x (Ok p.x) × HasWord (λ y lists. Measures u y (Ok p.y) × Every IsPinTrail lists) more) f

-- the same of what is read
abbrev IsPlaced : LengthUnit → ℕ → ℕ → List ℕ → Forest → PinWords → Type 0
IsPlaced u s e id f p = (p.stack ≡ s) × (p.eighths ≡ e) × (id ≡ p.id) × IsPlace u f p.at

-- a y, and lists
abbrev IsHeight : LengthUnit → ℤ → Forest → Type 0
IsHeight u y f = HasWord (λ text lists. Measures u text (Ok y) × Every IsPinTrail lists) f

-- what is read behind an x
abbrev IsRest : LengthUnit → ℕ → ℕ → List ℕ → ℤ → Forest → PinWords → Type 0
IsRest u s e id x f p = (p.stack ≡ s) × (p.eighths ≡ e) × (id ≡ p.id) × (p.at.x ≡ x) × IsHeight u p.at.y f

y_found : (u : LengthUnit) (at s e : ℕ) (id : List ℕ) (x : ℤ) (f : Forest) (p : PinWords) → y_rest u at s e id x f ≡ Ok p → IsRest u s e id x f p
unfolding word_of
y_found u at s e id x End p h = absurd cc
y_found u at s e id x (Branch a inside rest) p h = absurd cc
y_found u at s e id x (Word a text lists) p h =
    let y = bind_ok (length_word u (mark a text)) (λ y. lists_rest s e id (point x y, lists)) p h in
    let t = bind_ok (each pin_trail_item tt lists) (λ _. made (words_of s e id (point x y.0))) p y.2 in
    let same = ok_is (words_of s e id (point x y.0)) p t.2 in
    subst (λ (q : PinWords). IsRest u s e id x (Word a text lists) q) same (refl, refl, refl, refl, (length_found u a text y.0 y.1, trail_found lists tt t.0 t.1))

x_found : (u : LengthUnit) (at s e : ℕ) (id : List ℕ) (f : Forest) (p : PinWords) → x_rest u at s e id f ≡ Ok p → IsPlaced u s e id f p
unfolding word_of
x_found u at s e id End p h = absurd cc
x_found u at s e id (Branch a inside rest) p h = absurd cc
x_found u at s e id (Word a text more) p h =
    let x = bind_ok (length_word u (mark a text)) (λ x. y_rest u at s e id x more) p h in
    let r = y_found u at s e id x.0 more p x.2 in
    (r.0, r.1, r.2, (subst (λ (z : ℤ). Measures u text (Ok z)) (sym r.3) (length_found u a text x.0 x.1), r.4))

y_again : (u : LengthUnit) (at s e : ℕ) (id : List ℕ) (x y : ℤ) (f : Forest) → IsHeight u y f → y_rest u at s e id x f ≡ Ok (words_of s e id (point x y))
unfolding word_of
y_again u at s e id x y End h = absurd h
y_again u at s e id x y (Branch a inside rest) h = absurd h
y_again u at s e id x y (Word a text lists) h = rw (length_again u a text y h.0, trail_again lists h.1) refl

x_again : (u : LengthUnit) (at s e : ℕ) (id : List ℕ) (f : Forest) (q : Pt) → IsPlace u f q → x_rest u at s e id f ≡ Ok (words_of s e id (point q.x q.y))
unfolding word_of
x_again u at s e id End q h = absurd h
x_again u at s e id (Branch a inside rest) q h = absurd h
x_again u at s e id (Word a text more) q h = rw (length_again u a text q.x h.0) (y_again u at s e id q.x q.y more h.1)

-- ---- the fault of the place of a pin

abbrev HeightFault : LengthUnit → ℕ → List ℕ → Forest → DesignFault → Type 0
HeightFault u b y lists e = LengthWordFault u b y e ⊎ (StatesLength u y × IsFirst (Every IsPinTrail) PinTrailFault lists e)

abbrev PlaceFault : LengthUnit → ℕ → ℕ → List ℕ → Forest → DesignFault → Type 0
PlaceFault u at a x more e = LengthWordFault u a x e ⊎ (StatesLength u x × NoWordOr (HeightFault u) at more e)

y_word : (u : LengthUnit) (s t : ℕ) (id : List ℕ) (x : ℤ) (b : ℕ) (y : List ℕ) (lists : Forest) (e : DesignFault) → (length_word u (mark b y) >>= λ y. lists_rest s t id (point x y, lists)) ≡ Err e → HeightFault u b y lists e
y_word u s t id x b y lists e h =
    elim (bind_err (length_word u (mark b y)) (λ y. lists_rest s t id (point x y, lists)) e h) [
      | inl here ↦ inl (length_fault u b y e here)
      | inr later ↦ elim (bind_err (each pin_trail_item tt lists) (λ _. made (words_of s t id (point x later.0))) e later.2) [
        | inl trail ↦ inr ((later.0, length_found u b y later.0 later.1), trail_fault lists e trail)
        | inr none ↦ absurd cc
      ]
    ]

y_word_again : (u : LengthUnit) (s t : ℕ) (id : List ℕ) (x : ℤ) (b : ℕ) (y : List ℕ) (lists : Forest) (e : DesignFault) → HeightFault u b y lists e → (length_word u (mark b y) >>= λ y. lists_rest s t id (point x y, lists)) ≡ Err e
y_word_again u s t id x b y lists e (inl here) = rw (length_fault_again u b y e here) refl
y_word_again u s t id x b y lists e (inr later) = rw (length_again u b y later.0.0 later.0.1, trail_fault_again lists e later.1) refl

x_word : (u : LengthUnit) (at s t : ℕ) (id : List ℕ) (a : ℕ) (x : List ℕ) (more : Forest) (e : DesignFault) → (length_word u (mark a x) >>= λ x. y_rest u at s t id x more) ≡ Err e → PlaceFault u at a x more e
x_word u at s t id a x more e h =
    elim (bind_err (length_word u (mark a x)) (λ x. y_rest u at s t id x more) e h) [
      | inl here ↦ inl (length_fault u a x e here)
      | inr later ↦ inr ((later.0, length_found u a x later.0 later.1), word_fault _ (HeightFault u) at more e (λ b y lists k. y_word u s t id later.0 b y lists e k) later.2)
    ]

x_word_again : (u : LengthUnit) (at s t : ℕ) (id : List ℕ) (a : ℕ) (x : List ℕ) (more : Forest) (e : DesignFault) → PlaceFault u at a x more e → (length_word u (mark a x) >>= λ x. y_rest u at s t id x more) ≡ Err e
x_word_again u at s t id a x more e (inl here) = rw (length_fault_again u a x e here) refl
x_word_again u at s t id a x more e (inr later) = rw (length_again u a x later.0.0 later.0.1) (word_fault_again _ (HeightFault u) at more e (λ b y lists k. y_word_again u s t id later.0.0 b y lists e k) later.1)

place_fault : (u : LengthUnit) (at s t : ℕ) (id : List ℕ) (f : Forest) (e : DesignFault) → place_rest u at s t id f ≡ Err e → PinPlaceFault u at f e
place_fault u at s t id f e h = word_fault _ (PlaceFault u at) at f e (λ a x more k. x_word u at s t id a x more e k) (sym (place_flat u at s t id f) ∙ h)

place_fault_again : (u : LengthUnit) (at s t : ℕ) (id : List ℕ) (f : Forest) (e : DesignFault) → PinPlaceFault u at f e → place_rest u at s t id f ≡ Err e
place_fault_again u at s t id f e h = place_flat u at s t id f ∙ word_fault_again _ (PlaceFault u at) at f e (λ a x more k. x_word_again u at s t id a x more e k) h

-- ---- the id and the padstack

-- the id and what follows it
abbrev id_rest : LengthUnit → ℕ → ℕ → ℕ → Forest → Read PinWords
id_rest u at s e f = word_of at f >>= λ w. place_rest u at s e w.0.name w.1

-- what follows the padstack
abbrev turn_rest : LengthUnit → ℕ → Forest → ℕ → Read PinWords
turn_rest u at f s = rotation None f >>= λ r. id_rest u at s (or_zero r.0) r.1

-- an id and a place
abbrev HasId : LengthUnit → Forest → PinWords → Type 0
HasId u f p = HasWord (λ id after. (id ≡ p.id) × IsPlace u after p.at) f

id_found : (u : LengthUnit) (at s e : ℕ) (f : Forest) (p : PinWords) → id_rest u at s e f ≡ Ok p → (p.stack ≡ s) × (p.eighths ≡ e) × HasId u f p
unfolding word_of
id_found u at s e End p h = absurd cc
id_found u at s e (Branch a inside rest) p h = absurd cc
id_found u at s e (Word a text after) p h =
    let r = x_found u at s e text after p (sym (place_flat u at s e text after) ∙ h) in
    (r.0, r.1, (r.2, r.3))

id_again : (u : LengthUnit) (at : ℕ) (f : Forest) (p : PinWords) → HasId u f p → id_rest u at p.stack p.eighths f ≡ Ok p
unfolding word_of
id_again u at End p h = absurd h
id_again u at (Branch a inside rest) p h = absurd h
id_again u at (Word a text after) p h =
    place_flat u at p.stack p.eighths text after ∙ x_again u at p.stack p.eighths text after p.at h.1 ∙ ap (λ (id : List ℕ). made (words_of p.stack p.eighths id p.at)) h.0

abbrev HasTurn : LengthUnit → Forest → PinWords → Type 0
HasTurn u f p = StateTurn (rotates_in (first_lists f)) p.eighths × HasId u (behind_lists f) p

turn_found : (u : LengthUnit) (at : ℕ) (f : Forest) (s : ℕ) (p : PinWords) → turn_rest u at f s ≡ Ok p → (p.stack ≡ s) × HasTurn u f p
turn_found u at f s p h =
    let r = bind_ok (rotation None f) (λ r. id_rest u at s (or_zero r.0) r.1) p h in
    let turn = rotation_found f r.0 r.1 in
    let i = id_found u at s (or_zero r.0.0) r.0.1 p r.2 in
    (i.0, (subst (λ (e : ℕ). StateTurn (rotates_in (first_lists f)) e) (sym i.1) turn.0, subst (λ (g : Forest). HasId u g p) turn.1 i.2))

turn_again : (u : LengthUnit) (at : ℕ) (f : Forest) (p : PinWords) → HasTurn u f p → turn_rest u at f p.stack ≡ Ok p
turn_again u at f p h =
    let r = rotation_again f p.eighths h.0 in
    rw r.1 (ap (λ (e : ℕ). id_rest u at p.stack e (behind_lists f)) r.2 ∙ id_again u at (behind_lists f) p h.1)

-- ---- a pin

number_ok : (a : ℕ) (o : Option ℕ) (s : ℕ) → stack_number a o ≡ Ok s → o ≡ Some s
number_ok a (Some n) s e = ap (λ (x : ℕ). Some x) (ok_is n s e)
number_ok a None s e = absurd cc

number_err : (a : ℕ) (o : Option ℕ) (e : DesignFault) → stack_number a o ≡ Err e → (o ≡ None) × (e ≡ told kind.Name a)
number_err a (Some n) e h = absurd cc
number_err a None e h = (refl, cc)

-- what follows the keyword and a word
abbrev stack_rest : LengthUnit → List (List ℕ) → ℕ → ℕ → List ℕ → Forest → Read PinWords
stack_rest u stacks at a text f = stack_number a (place_of stacks text) >>= λ s. turn_rest u at f s

pub pin_found : (u : LengthUnit) (stacks : List (List ℕ)) (at : ℕ) (f : Forest) (p : PinWords) → pin_of u stacks at f ≡ Ok p → IsPin u stacks f p
unfolding pin_of word_of
pin_found u stacks at End p h = absurd cc
pin_found u stacks at (Branch a inside rest) p h = absurd cc
pin_found u stacks at (Word a text rest) p h =
    let s = bind_ok (stack_number a (place_of stacks text)) (λ s. turn_rest u at rest s) p h in
    let t = turn_found u at rest s.0 p s.2 in
    (number_ok a (place_of stacks text) s.0 s.1 ∙ ap (λ (n : ℕ). Some n) (sym t.0), t.1.0, t.1.1)

pub pin_again : (u : LengthUnit) (stacks : List (List ℕ)) (at : ℕ) (f : Forest) (p : PinWords) → IsPin u stacks f p → pin_of u stacks at f ≡ Ok p
unfolding pin_of word_of
pin_again u stacks at End p h = absurd h
pin_again u stacks at (Branch a inside rest) p h = absurd h
pin_again u stacks at (Word a text rest) p h = rw h.0 (turn_again u at rest p (h.1, h.2))

-- ---- the fault of a pin

id_fault : (u : LengthUnit) (at s t : ℕ) (f : Forest) (e : DesignFault) → id_rest u at s t f ≡ Err e → NoWordOr (λ b id after e. PinPlaceFault u at after e) at f e
id_fault u at s t f e h = word_fault _ (λ b id after e. PinPlaceFault u at after e) at f e (λ b id after k. place_fault u at s t id after e k) h

id_fault_again : (u : LengthUnit) (at s t : ℕ) (f : Forest) (e : DesignFault) → NoWordOr (λ b id after e. PinPlaceFault u at after e) at f e → id_rest u at s t f ≡ Err e
id_fault_again u at s t f e h = word_fault_again _ (λ b id after e. PinPlaceFault u at after e) at f e (λ b id after k. place_fault_again u at s t id after e k) h

abbrev RestFault : LengthUnit → ℕ → Forest → DesignFault → Type 0
RestFault u at rest e = IsFirst AreTurns TurnFault (first_lists rest) e ⊎ (AreTurns (first_lists rest) × NoWordOr (λ b id after e. PinPlaceFault u at after e) at (behind_lists rest) e)

turn_fault : (u : LengthUnit) (at s : ℕ) (rest : Forest) (e : DesignFault) → turn_rest u at rest s ≡ Err e → RestFault u at rest e
turn_fault u at s rest e h =
    elim (bind_err (rotation None rest) (λ r. id_rest u at s (or_zero r.0) r.1) e h) [
      | inl here ↦ inl (rotation_fault rest e here)
      | inr later ↦
          let turn = rotation_found rest later.0 later.1 in
          inr ((or_zero later.0.0, turn.0), subst (λ (g : Forest). NoWordOr (λ b id after e. PinPlaceFault u at after e) at g e) turn.1 (id_fault u at s (or_zero later.0.0) later.0.1 e later.2))
    ]

turn_fault_again : (u : LengthUnit) (at s : ℕ) (rest : Forest) (e : DesignFault) → RestFault u at rest e → turn_rest u at rest s ≡ Err e
turn_fault_again u at s rest e (inl here) = rw (rotation_fault_again rest e here) refl
turn_fault_again u at s rest e (inr later) =
    let r = rotation_again rest later.0.0 later.0.1 in
    rw r.1 (id_fault_again u at s (or_zero r.0) (behind_lists rest) e later.1)

abbrev StackWordFault : LengthUnit → List (List ℕ) → ℕ → ℕ → List ℕ → Forest → DesignFault → Type 0
StackWordFault u stacks at a stack rest e = ((place_of stacks stack ≡ None) × (e ≡ told kind.Name a)) ⊎ (((s : ℕ) × (place_of stacks stack ≡ Some s)) × RestFault u at rest e)

stack_word : (u : LengthUnit) (stacks : List (List ℕ)) (at a : ℕ) (text : List ℕ) (rest : Forest) (e : DesignFault) → stack_rest u stacks at a text rest ≡ Err e → StackWordFault u stacks at a text rest e
stack_word u stacks at a text rest e h =
    elim (bind_err (stack_number a (place_of stacks text)) (λ s. turn_rest u at rest s) e h) [
      | inl here ↦ inl (number_err a (place_of stacks text) e here)
      | inr later ↦ inr ((later.0, number_ok a (place_of stacks text) later.0 later.1), turn_fault u at later.0 rest e later.2)
    ]

stack_word_again : (u : LengthUnit) (stacks : List (List ℕ)) (at a : ℕ) (text : List ℕ) (rest : Forest) (e : DesignFault) → StackWordFault u stacks at a text rest e → stack_rest u stacks at a text rest ≡ Err e
stack_word_again u stacks at a text rest e (inl none) = rw (none.0, none.1) refl
stack_word_again u stacks at a text rest e (inr some) = rw some.0.1 (turn_fault_again u at some.0.0 rest e some.1)

pub pin_fault : (u : LengthUnit) (stacks : List (List ℕ)) (at : ℕ) (f : Forest) (e : DesignFault) → pin_of u stacks at f ≡ Err e → PinFault u stacks at f e
unfolding pin_of
pin_fault u stacks at f e h = word_fault _ (StackWordFault u stacks at) at f e (λ a text rest k. stack_word u stacks at a text rest e k) h

pub pin_fault_again : (u : LengthUnit) (stacks : List (List ℕ)) (at : ℕ) (f : Forest) (e : DesignFault) → PinFault u stacks at f e → pin_of u stacks at f ≡ Err e
unfolding pin_of
pin_fault_again u stacks at f e h = word_fault_again _ (StackWordFault u stacks at) at f e (λ a text rest k. stack_word_again u stacks at a text rest e k) h
