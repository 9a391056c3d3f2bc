-- Reading from left to right: a value, or the first fault that is met.
use Rattle.std.specs.Prelude.{◌≡◌, ℕ, Result, Ok, Err}
use Rattle.sexp_text.specs.Forest.{Forest, End, Word, Branch}
use Rattle.dsn_lists.specs.declared.faults.DesignFault.{DesignFault}
use Rattle.dsn_lists.specs.declared.faults.DesignKind.{DesignKind}
use Rattle.dsn_lists.specs.declared.faults.DesignKind.TheVariants.{Form}
use Rattle.dsn_lists.specs.declared.faults.ReadWhy.{ReadWhy}
use Rattle.dsn_lists.specs.declared.faults.ReadWhy.TheVariants.{Fault, Memory}

-- what reading gives
abbrev pub Read : Type 0 → Type 0
Read A = Result A DesignFault

-- a fault of this kind at this byte
abbrev pub wrong : {A : Type 0} → DesignKind → ℕ → Read A
wrong kind at = Err (record { kind = kind; at = at })

infixl 10 ◌>>=◌
-- the second reading of what the first gives, or the fault of the first
abbrev pub ◌>>=◌ : {A B : Type 0} → Read A → (A → Read B) → Read B
(Ok x) >>= f = f x
(Err e) >>= f = Err e

-- what a call that takes no memory returned, seen by view, is what reading gives
abbrev pub Tells : {X Y : Type 0} → (X → Y) → Read X → Read Y → Type 0
Tells view (Ok x) read = read ≡ Ok (view x)
Tells view (Err e) read = read ≡ Err e

-- why a call failed is what reading gives, unless memory ran out
abbrev pub Fails : {Y : Type 0} → ReadWhy → Read Y → Type 0
Fails Memory read = Unit {0}
Fails (Fault f) read = read ≡ Err f

-- what a call returned, seen by view, is what reading gives, unless memory ran out
abbrev pub Gives : {X Y : Type 0} → (X → Y) → Result X ReadWhy → Read Y → Type 0
Gives view (Ok x) read = read ≡ Ok (view x)
Gives view (Err why) read = Fails why read

-- lists one after another, each read with what those before it gave; a word stands where only a list can stand
unfoldable pub each : {A : Type 0} → (A → ℕ → Forest → Read A) → A → Forest → Read A
each step x End = Ok x
each step x (Word at text rest) = wrong Form at
each step x (Branch at inside rest) = step x at inside >>= λ y. each step y rest
