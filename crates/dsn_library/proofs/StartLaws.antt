-- A `rotate` and an `absolute` list of a padstack are refused exactly where they begin with the word that is refused.
use Rattle.std.proofs.Common.{◌≡◌, ℕ, Bool, true, false, cond, List, Ok, Err, refl}
use Rattle.sexp_text.specs.Forest.{Forest, End, Word, Branch}
use Rattle.dsn_lists.specs.declared.faults.DesignFault.{DesignFault}
use Rattle.dsn_lists.specs.declared.faults.DesignKind.TheVariants as kind
use Rattle.dsn_lists.specs.Results.{wrong}
use Rattle.dsn_lists.specs.Words.{same}
use Rattle.dsn_lists.specs.Lists.{told}
use Rattle.dsn_lists.proofs.Firsts.{made, guard_ok}
use Rattle.dsn_library.specs.Libraries.{not_first}
use Rattle.dsn_library.specs.StackLists.{starts_with, StartFault}

-- ---- `(rotate off)` and `(absolute on)`

pub start_found : (word : List ℕ) (f : Forest) (x : Unit {0}) → not_first word f ≡ Ok x → starts_with word f ≡ false
unfolding not_first
start_found word End x e = refl
start_found word (Word at text rest) x e = (guard_ok (same text word) (told kind.Form at) (made tt) x e).0
start_found word (Branch at inside rest) x e = refl

pub start_again : (word : List ℕ) (f : Forest) → starts_with word f ≡ false → not_first word f ≡ Ok tt
unfolding not_first
start_again word End h = refl
start_again word (Word at text rest) h = rw h refl
start_again word (Branch at inside rest) h = refl

word_starts : (at : ℕ) (b : Bool) (e : DesignFault) → cond b (wrong {A = Unit {0}} kind.Form at) (made {A = Unit {0}} tt) ≡ Err e → (b ≡ true) × (e ≡ told kind.Form at)
word_starts at true e h = (refl, cc)
word_starts at false e h = absurd cc

pub start_fault : (word : List ℕ) (f : Forest) (e : DesignFault) → not_first word f ≡ Err e → StartFault word f e
unfolding not_first
start_fault word End e h = absurd cc
start_fault word (Word at text rest) e h = word_starts at (same text word) e h
start_fault word (Branch at inside rest) e h = absurd cc

pub start_fault_again : (word : List ℕ) (f : Forest) (e : DesignFault) → StartFault word f e → not_first word f ≡ Err e
unfolding not_first
start_fault_again word End e h = absurd h
start_fault_again word (Word at text rest) e h = rw (h.0, h.1) refl
start_fault_again word (Branch at inside rest) e h = absurd h
