-- A `resolution` list is read exactly where it is one, and its fault is the one that is told.
use Rattle.std.proofs.Common.{◌≡◌, ℕ, Bool, true, false, cond, List, [], ◌∷◌, Option, Some, None, option_to_list, Ok, Err, refl, ap, inl, inr, ◌⊎◌}
use Rattle.sexp_text.specs.Forest.{Forest, End, Word, Branch}
use Rattle.sexp_text.specs.declared.units.Unit.{Unit as LengthUnit}
use Rattle.dsn_lists.specs.declared.faults.DesignFault.{DesignFault}
use Rattle.dsn_lists.specs.declared.faults.DesignKind.TheVariants as kind
use Rattle.dsn_lists.specs.declared.marks.Mark.{Mark}
use Rattle.dsn_lists.specs.Results.{Read, ◌>>=◌, wrong, each}
use Rattle.dsn_lists.specs.Words.{mark, word_of, spare_list}
use Rattle.dsn_lists.specs.Units.{unit_of, known_unit}
use Rattle.dsn_lists.specs.Pcbs.{is_whole, resolution_list}
use Rattle.dsn_lists.specs.Lists.{told}
use Rattle.dsn_lists.specs.ShortLists.{only_lists, HasStray}
use Rattle.dsn_lists.specs.Measures.{NamesUnit}
use Rattle.dsn_lists.specs.Titles.{IsPrecision, PrecisionFault, IsResolution, ResolutionFault, first_unit}
use Rattle.dsn_lists.proofs.Firsts.{made, word_fault, word_fault_again}
use Rattle.dsn_lists.proofs.ShortLaws.{spare_again, spare_then, spare_then_again, spare_value}
use Rattle.dsn_lists.proofs.SeenLaws.{}

-- ---- `(resolution <unit> <whole number from 1>)`

-- what follows the number
abbrev number_rest : LengthUnit → Mark × Forest → Read LengthUnit
number_rest u n = cond (is_whole n.0.name) (each spare_list tt n.1 >>= λ _. made u) (wrong kind.Number n.0.at)

-- what follows the unit
abbrev unit_then : ℕ → Forest → LengthUnit → Read LengthUnit
unit_then at f u = word_of at f >>= number_rest u

whole_ok : (u v : LengthUnit) (a : ℕ) (text : List ℕ) (rest : Forest) (b : Bool) → cond b (each spare_list tt rest >>= λ _. made u) (wrong kind.Number a) ≡ Ok v → (b ≡ true) × (only_lists rest ≡ true) × (u ≡ v)
whole_ok u v a text rest true e = let s = spare_value rest u v e in (refl, s.0, s.1)
whole_ok u v a text rest false e = absurd cc

number_found : (u v : LengthUnit) (at : ℕ) (f : Forest) → unit_then at f u ≡ Ok v → IsPrecision f × (u ≡ v)
unfolding word_of
number_found u v at End e = absurd cc
number_found u v at (Branch a inside rest) e = absurd cc
number_found u v at (Word a text rest) e = let w = whole_ok u v a text rest (is_whole text) e in ((w.0, w.1), w.2)

number_again : (u : LengthUnit) (at : ℕ) (f : Forest) → IsPrecision f → unit_then at f u ≡ Ok u
unfolding word_of
number_again u at End h = absurd h
number_again u at (Branch a inside rest) h = absurd h
number_again u at (Word a text rest) h = rw (h.0, spare_again rest tt h.1) refl

abbrev NumberFault : ℕ → List ℕ → Forest → DesignFault → Type 0
NumberFault a text rest e = ((is_whole text ≡ false) × (e ≡ told kind.Number a)) ⊎ ((is_whole text ≡ true) × HasStray rest e)

whole_err : (u : LengthUnit) (a : ℕ) (text : List ℕ) (rest : Forest) (e : DesignFault) (b : Bool) → is_whole text ≡ b → cond b (each spare_list tt rest >>= λ _. made u) (wrong kind.Number a) ≡ Err e → NumberFault a text rest e
whole_err u a text rest e true is h = inr (is, spare_then rest u e h)
whole_err u a text rest e false is h = inl (is, cc)

whole_err_again : (u : LengthUnit) (a : ℕ) (text : List ℕ) (rest : Forest) (e : DesignFault) → NumberFault a text rest e → number_rest u (mark a text, rest) ≡ Err e
whole_err_again u a text rest e (inl none) = rw (none.0, none.1) refl
whole_err_again u a text rest e (inr stray) = rw stray.0 (spare_then_again rest u e stray.1)

number_fault : (u : LengthUnit) (at : ℕ) (f : Forest) (e : DesignFault) → unit_then at f u ≡ Err e → PrecisionFault at f e
number_fault u at f e h = word_fault (number_rest u) NumberFault at f e (λ a text rest k. whole_err u a text rest e (is_whole text) refl k) h

number_fault_again : (u : LengthUnit) (at : ℕ) (f : Forest) (e : DesignFault) → PrecisionFault at f e → unit_then at f u ≡ Err e
number_fault_again u at f e h = word_fault_again (number_rest u) NumberFault at f e (λ a text rest k. whole_err_again u a text rest e k) h

unit_ok : (at a : ℕ) (rest : Forest) (o : Option LengthUnit) (v : LengthUnit) → (known_unit a o >>= unit_then at rest) ≡ Ok v → (o ≡ Some v) × IsPrecision rest
unit_ok at a rest None v e = absurd cc
unit_ok at a rest (Some u) v e = let n = number_found u v at rest e in (ap (λ (x : LengthUnit). Some x) n.1, n.0)

pub resolution_found : (at : ℕ) (f : Forest) (v : LengthUnit) → resolution_list at f ≡ Ok v → IsResolution f × (first_unit f ≡ v ∷ [])
unfolding resolution_list word_of
resolution_found at End v e = absurd cc
resolution_found at (Branch a inside rest) v e = absurd cc
resolution_found at (Word a text rest) v e = let u = unit_ok at a rest (unit_of text) v e in (((v, u.0), u.1), ap option_to_list u.0)

pub resolution_again : (at : ℕ) (f : Forest) → IsResolution f → (v : LengthUnit) × (resolution_list at f ≡ Ok v) × (first_unit f ≡ v ∷ [])
unfolding resolution_list word_of
resolution_again at End h = absurd h
resolution_again at (Branch a inside rest) h = absurd h
resolution_again at (Word a text rest) h = (h.0.0, rw h.0.1 (number_again h.0.0 at rest h.1), ap option_to_list h.0.1)

abbrev UnitFault : ℕ → ℕ → List ℕ → Forest → DesignFault → Type 0
UnitFault at a text rest e = ((unit_of text ≡ None) × (e ≡ told kind.Unit a)) ⊎ (NamesUnit text × PrecisionFault at rest e)

unit_err : (at a : ℕ) (text : List ℕ) (rest : Forest) (o : Option LengthUnit) (e : DesignFault) → unit_of text ≡ o → (known_unit a o >>= unit_then at rest) ≡ Err e → UnitFault at a text rest e
unit_err at a text rest None e is h = inl (is, cc)
unit_err at a text rest (Some u) e is h = inr ((u, is), number_fault u at rest e h)

unit_err_again : (at a : ℕ) (text : List ℕ) (rest : Forest) (e : DesignFault) → UnitFault at a text rest e → (known_unit a (unit_of text) >>= unit_then at rest) ≡ Err e
unit_err_again at a text rest e (inl none) = rw (none.0, none.1) refl
unit_err_again at a text rest e (inr later) = rw later.0.1 (number_fault_again later.0.0 at rest e later.1)

pub resolution_fault : (at : ℕ) (f : Forest) (e : DesignFault) → resolution_list at f ≡ Err e → ResolutionFault at f e
unfolding resolution_list
resolution_fault at f e h = word_fault _ (UnitFault at) at f e (λ a text rest k. unit_err at a text rest (unit_of text) e refl k) h

pub resolution_fault_again : (at : ℕ) (f : Forest) (e : DesignFault) → ResolutionFault at f e → resolution_list at f ≡ Err e
unfolding resolution_list
resolution_fault_again at f e h = word_fault_again _ (UnitFault at) at f e (λ a text rest k. unit_err_again at a text rest e k) h
