-- The first fault of lists that are read one after another, over any way to read one.
use Rattle.std.proofs.Common.{◌≡◌, ℕ, Bool, true, false, cond, List, Ok, Err, refl, sym, ap, subst, inl, inr, ◌⊎◌}
use Rattle.sexp_text.specs.Forest.{Forest, End, Word, Branch}
use Rattle.dsn_lists.specs.declared.faults.DesignFault.{DesignFault}
use Rattle.dsn_lists.specs.declared.faults.DesignKind.TheVariants.{Form}
use Rattle.dsn_lists.specs.declared.marks.Mark.{Mark}
use Rattle.dsn_lists.specs.Results.{Read, ◌>>=◌, each}
use Rattle.dsn_lists.specs.Words.{mark, word_of}
use Rattle.dsn_lists.specs.Lists.{joined, told, Breaks, IsFirst}
use Rattle.dsn_lists.specs.ShortLists.{NoWordOr}

abbrev pub made : {A : Type 0} → A → Read A
made x = Ok x

abbrev pub failed : {A : Type 0} → DesignFault → Read A
failed e = Err e

pub ok_is : {A : Type 0} (x y : A) → made x ≡ made y → x ≡ y
ok_is x y e = cc

pub err_is : {A : Type 0} (P : A → Type 0) (a b : DesignFault) → failed {A = A} a ≡ failed b → a ≡ b
err_is P a b e = cc

-- the value of a step that did not fail
pub bind_ok : {A B : Type 0} (r : Read A) (f : A → Read B) (y : B) → (r >>= f) ≡ Ok y → (x : A) × (r ≡ Ok x) × (f x ≡ Ok y)
bind_ok (Ok x) f y e = (x, refl, e)
bind_ok (Err d) f y e = absurd cc

-- which of two steps failed
pub bind_err : {A B : Type 0} (r : Read A) (f : A → Read B) (e : DesignFault) → (r >>= f) ≡ Err e → (r ≡ Err e) ⊎ ((x : A) × (r ≡ Ok x) × (f x ≡ Err e))
bind_err (Ok x) f e h = inr (x, refl, h)
bind_err (Err d) f e h = inl cc

pub guard_ok : {A : Type 0} (b : Bool) (d : DesignFault) (r : Read A) (y : A) → cond b (Err d) r ≡ Ok y → (b ≡ false) × (r ≡ Ok y)
guard_ok true d r y e = absurd cc
guard_ok false d r y e = (refl, e)

pub guard_err : {A : Type 0} (b : Bool) (d : DesignFault) (r : Read A) (e : DesignFault) → cond b (Err d) r ≡ Err e → ((b ≡ true) × (e ≡ d)) ⊎ ((b ≡ false) × (r ≡ Err e))
guard_err true d r e h = inl (refl, cc)
guard_err false d r e h = inr (refl, h)

-- ---- a word that stands first

pub word_fault : {A : Type 0} (read : Mark × Forest → Read A) (HasFault : ℕ → List ℕ → Forest → DesignFault → Type 0) (at : ℕ) (f : Forest) (e : DesignFault)
    → ((a : ℕ) (text : List ℕ) (rest : Forest) → read (mark a text, rest) ≡ Err e → HasFault a text rest e)
    → (word_of at f >>= read) ≡ Err e → NoWordOr HasFault at f e
unfolding word_of
word_fault read HasFault at End e one h = cc
word_fault read HasFault at (Word a text rest) e one h = one a text rest h
word_fault read HasFault at (Branch a inside rest) e one h = cc

pub word_fault_again : {A : Type 0} (read : Mark × Forest → Read A) (HasFault : ℕ → List ℕ → Forest → DesignFault → Type 0) (at : ℕ) (f : Forest) (e : DesignFault)
    → ((a : ℕ) (text : List ℕ) (rest : Forest) → HasFault a text rest e → read (mark a text, rest) ≡ Err e)
    → NoWordOr HasFault at f e → (word_of at f >>= read) ≡ Err e
unfolding word_of
word_fault_again read HasFault at End e one h = ap failed (sym h)
word_fault_again read HasFault at (Word a text rest) e one h = one a text rest h
word_fault_again read HasFault at (Branch a inside rest) e one h = ap failed (sym h)

-- ---- the first fault

-- the step has this fault at a list
abbrev Fails : {A : Type 0} → (A → ℕ → Forest → Read A) → A → ℕ → Forest → DesignFault → Type 0
Fails step x at inside e = step x at inside ≡ Err e

-- a front that is read, and what follows breaks
record IsCut {A : Type 0} (step : A → ℕ → Forest → Read A) (x : A) (f : Forest) (e : DesignFault) : Type 0 where
  before : Forest
  after : Forest
  reached : A
  parts : f ≡ joined before after
  read : each step x before ≡ Ok reached
  breaks : Breaks (Fails step reached) after e

first_split : {A : Type 0} (step : A → ℕ → Forest → Read A) (f : Forest) (x : A) (e : DesignFault) → each step x f ≡ Err e → IsCut step x f e
unfolding each
first_split step End x e h = absurd cc
first_split {A = A} step (Word at text rest) x e h = record { before = End; after = Word at text rest; reached = x; parts = refl; read = refl; breaks = sym (err_is {A = A} (λ _. ℕ) (told Form at) e h) }
first_split step (Branch at inside rest) x e h =
    elim (bind_err (step x at inside) (λ y. each step y rest) e h) [
      | inl here ↦ record { before = End; after = Branch at inside rest; reached = x; parts = refl; read = refl; breaks = here }
      | inr later ↦
          let r = first_split step rest later.0 e later.2 in
          record { before = Branch at inside r.before; after = r.after; reached = r.reached; parts = ap (λ (y : Forest). Branch at inside y) r.parts; read = rw later.1 r.read; breaks = r.breaks }
    ]

first_here : {A : Type 0} (step : A → ℕ → Forest → Read A) (after : Forest) (x : A) (e : DesignFault) → Breaks (Fails step x) after e → each step x after ≡ Err e
unfolding each
first_here step End x e h = absurd h
first_here step (Word at text rest) x e h = ap failed (sym h)
first_here step (Branch at inside rest) x e h = rw h refl

first_join : {A : Type 0} (step : A → ℕ → Forest → Read A) (before after : Forest) (x y : A) (e : DesignFault) → each step x before ≡ Ok y → Breaks (Fails step y) after e → each step x (joined before after) ≡ Err e
unfolding each
first_join step End after x y e read h = let same = ok_is x y read in rw same (first_here step after y e h)
first_join step (Word at text rest) after x y e read h = absurd cc
first_join step (Branch at inside rest) after x y e read h =
    let z = bind_ok (step x at inside) (λ z. each step z rest) y read in
    rw z.1 (first_join step rest after z.0 y e z.2 h)

breaks_too : (P Q : ℕ → Forest → DesignFault → Type 0) (after : Forest) (e : DesignFault) → ((at : ℕ) (inside : Forest) → P at inside e → Q at inside e) → Breaks P after e → Breaks Q after e
breaks_too P Q End e one h = h
breaks_too P Q (Word at text rest) e one h = h
breaks_too P Q (Branch at inside rest) e one h = one at inside h

-- where lists that are read stand, and the fault of one list is told, so is the first fault
pub first_found : {A : Type 0} (step : A → ℕ → Forest → Read A) (x : A) (all : Forest → A) (Stand : Forest → Type 0) (HasFault : Forest → ℕ → Forest → DesignFault → Type 0)
    → ((f : Forest) (y : A) → each step x f ≡ Ok y → Stand f × (y ≡ all f))
    → ((before inside : Forest) (at : ℕ) (e : DesignFault) → Stand before → step (all before) at inside ≡ Err e → HasFault before at inside e)
    → (f : Forest) (e : DesignFault) → each step x f ≡ Err e → IsFirst Stand HasFault f e
first_found {A = A} step x all Stand HasFault found fault f e h =
    let r = first_split step f x e h in
    let s = found r.before r.reached r.read in
    let breaks = breaks_too (Fails step r.reached) (HasFault r.before) r.after e (λ at inside b. fault r.before inside at e s.0 (subst (λ (y : A). step y at inside ≡ Err e) s.1 b)) r.breaks in
    record { before = r.before; after = r.after; parts = r.parts; stand = s.0; breaks = breaks }

-- and back
pub first_again : {A : Type 0} (step : A → ℕ → Forest → Read A) (x : A) (all : Forest → A) (Stand : Forest → Type 0) (HasFault : Forest → ℕ → Forest → DesignFault → Type 0)
    → ((f : Forest) → Stand f → each step x f ≡ Ok (all f))
    → ((before inside : Forest) (at : ℕ) (e : DesignFault) → Stand before → HasFault before at inside e → step (all before) at inside ≡ Err e)
    → (f : Forest) (e : DesignFault) → IsFirst Stand HasFault f e → each step x f ≡ Err e
first_again step x all Stand HasFault again fault f e r =
    let breaks = breaks_too (HasFault r.before) (Fails step (all r.before)) r.after e (λ at inside b. fault r.before inside at e r.stand b) r.breaks in
    rw r.parts (first_join step r.before r.after x (all r.before) e (again r.before r.stand) breaks)
