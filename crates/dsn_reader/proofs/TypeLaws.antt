-- The type that a list states is the one that is read, and its fault is the one that is told.
use Rattle.std.proofs.Common.{◌≡◌, ℕ, Bool, true, List, Option, Some, None, Ok, Err, refl, ap, inl, inr, ◌⊎◌}
use Rattle.sexp_text.specs.Forest.{Forest, End, Word, Branch}
use Rattle.dsn_lists.specs.declared.faults.DesignFault.{DesignFault}
use Rattle.dsn_lists.specs.declared.faults.DesignKind.TheVariants as kind
use Rattle.dsn_lists.specs.Results.{Read, ◌>>=◌, each}
use Rattle.dsn_lists.specs.Words.{word_of, spare_list}
use Rattle.dsn_lists.specs.Lists.{told}
use Rattle.dsn_lists.specs.ShortLists.{only_lists, HasStray}
use Rattle.dsn_lists.proofs.Firsts.{made, word_fault, word_fault_again}
use Rattle.dsn_lists.proofs.ShortLaws.{spare_again, spare_then, spare_then_again, spare_value}
use Rattle.dsn_reader.specs.Wirings.{type_named, known_type, type_list}
use Rattle.dsn_reader.specs.EndLists.{IsType, NamesType, TypeFault}

-- ---- `(type t)`

abbrev type_rest : Forest → Bool → Read Bool
type_rest rest b = each spare_list tt rest >>= λ _. made b

type_word_ok : (a : ℕ) (rest : Forest) (o : Option Bool) (b : Bool) → (known_type a o >>= λ b. type_rest rest b) ≡ Ok b → (o ≡ Some b) × (only_lists rest ≡ true)
type_word_ok a rest None b e = absurd cc
type_word_ok a rest (Some c) b e = let s = spare_value rest c b e in (ap (λ (x : Bool). Some x) s.1, s.0)

pub type_found : (at : ℕ) (f : Forest) (b : Bool) → type_list at f ≡ Ok b → IsType f b
unfolding type_list word_of
type_found at End b e = absurd cc
type_found at (Branch a inside rest) b e = absurd cc
type_found at (Word a text rest) b e = type_word_ok a rest (type_named text) b e

pub type_again : (at : ℕ) (f : Forest) (b : Bool) → IsType f b → type_list at f ≡ Ok b
unfolding type_list word_of
type_again at End b h = absurd h
type_again at (Branch a inside rest) b h = absurd h
type_again at (Word a text rest) b h = rw (h.0, spare_again rest tt h.1) refl

abbrev TypeWordFault : ℕ → List ℕ → Forest → DesignFault → Type 0
TypeWordFault a text rest e = ((type_named text ≡ None) × (e ≡ told kind.Style a)) ⊎ (NamesType text × HasStray rest e)

type_word_err : (a : ℕ) (text : List ℕ) (rest : Forest) (o : Option Bool) (e : DesignFault) → type_named text ≡ o → (known_type a o >>= λ b. type_rest rest b) ≡ Err e → TypeWordFault a text rest e
type_word_err a text rest None e is h = inl (is, cc)
type_word_err a text rest (Some b) e is h = inr ((b, is), spare_then rest b e h)

type_word_err_again : (a : ℕ) (text : List ℕ) (rest : Forest) (e : DesignFault) → TypeWordFault a text rest e → (known_type a (type_named text) >>= λ b. type_rest rest b) ≡ Err e
type_word_err_again a text rest e (inl here) = rw (here.0, here.1) refl
type_word_err_again a text rest e (inr later) = rw later.0.1 (spare_then_again rest later.0.0 e later.1)

pub type_fault : (at : ℕ) (f : Forest) (e : DesignFault) → type_list at f ≡ Err e → TypeFault at f e
unfolding type_list
type_fault at f e h = word_fault _ TypeWordFault at f e (λ a text rest k. type_word_err a text rest (type_named text) e refl k) h

pub type_fault_again : (at : ℕ) (f : Forest) (e : DesignFault) → TypeFault at f e → type_list at f ≡ Err e
unfolding type_list
type_fault_again at f e h = word_fault_again _ TypeWordFault at f e (λ a text rest k. type_word_err_again a text rest e k) h
