-- Units that words state are those that are read, the last governs, and their faults are those that are told.
use Rattle.std.proofs.Common.{◌≡◌, ℕ, Bool, true, false, cond, List, [], ◌∷◌, ◌++◌, codes, Option, Some, None, option_to_list, Ok, Err, refl, sym, ap, ◌∙◌, inl, inr, ◌⊎◌}
use Rattle.sexp_text.specs.Forest.{Forest, End, Word, Branch}
use Rattle.sexp_text.specs.declared.units.Unit.{Unit as LengthUnit}
use Rattle.dsn_lists.specs.declared.faults.DesignFault.{DesignFault}
use Rattle.dsn_lists.specs.declared.faults.DesignKind.TheVariants as kind
use Rattle.dsn_lists.specs.Results.{Read, ◌>>=◌, each}
use Rattle.dsn_lists.specs.Words.{same, head_of, word_of, spare_list}
use Rattle.dsn_lists.specs.Units.{unit_of, known_unit, unit_list, stated_or, unit_behind, governing}
use Rattle.dsn_lists.specs.Lists.{told, collect, last_of}
use Rattle.dsn_lists.specs.ShortLists.{only_lists, HasStray}
use Rattle.dsn_lists.specs.Measures.{NamesUnit, IsUnitList, UnitListFault, unit_named, units_in, governing_unit}
use Rattle.dsn_lists.proofs.Firsts.{made, word_fault, word_fault_again}
use Rattle.dsn_lists.proofs.ShortLaws.{spare_again, spare_then, spare_then_again, spare_value}
use Rattle.dsn_lists.proofs.WidthLaws.{}

-- ---- `(unit <unit>)`

abbrev unit_rest : Forest → LengthUnit → Read LengthUnit
unit_rest rest v = each spare_list tt rest >>= λ _. made v

unit_word_ok : (a : ℕ) (rest : Forest) (o : Option LengthUnit) (v : LengthUnit) → (known_unit a o >>= λ v. unit_rest rest v) ≡ Ok v → (o ≡ Some v) × (only_lists rest ≡ true)
unit_word_ok a rest None v e = absurd cc
unit_word_ok a rest (Some w) v e = let s = spare_value rest w v e in (ap (λ (x : LengthUnit). Some x) s.1, s.0)

pub unit_found : (at : ℕ) (f : Forest) (v : LengthUnit) → unit_list at f ≡ Ok v → IsUnitList f × (unit_named f ≡ v ∷ [])
unfolding unit_list word_of
unit_found at End v e = absurd cc
unit_found at (Branch a inside rest) v e = absurd cc
unit_found at (Word a text rest) v e =
    let w = unit_word_ok a rest (unit_of text) v e in
    (((v, w.0), w.1), rw (w.1, w.0) refl)

pub unit_again : (at : ℕ) (f : Forest) → IsUnitList f → (v : LengthUnit) × (unit_list at f ≡ Ok v)
unfolding unit_list word_of
unit_again at End h = absurd h
unit_again at (Branch a inside rest) h = absurd h
unit_again at (Word a text rest) h = (h.0.0, rw (h.0.1, spare_again rest tt h.1) refl)

unit_word_err : (a : ℕ) (text : List ℕ) (rest : Forest) (o : Option LengthUnit) (e : DesignFault) → unit_of text ≡ o → (known_unit a o >>= λ v. unit_rest rest v) ≡ Err e
    → ((unit_of text ≡ None) × (e ≡ told kind.Unit a)) ⊎ (NamesUnit text × HasStray rest e)
unit_word_err a text rest None e is h = inl (is, cc)
unit_word_err a text rest (Some v) e is h = inr ((v, is), spare_then rest v e h)

pub unit_fault : (at : ℕ) (f : Forest) (e : DesignFault) → unit_list at f ≡ Err e → UnitListFault at f e
unfolding unit_list
unit_fault at f e h =
    word_fault _ (λ a text rest e. ((unit_of text ≡ None) × (e ≡ told kind.Unit a)) ⊎ (NamesUnit text × HasStray rest e)) at f e (λ a text rest k. unit_word_err a text rest (unit_of text) e refl k) h

unit_word_err_again : (a : ℕ) (text : List ℕ) (rest : Forest) (e : DesignFault) → ((unit_of text ≡ None) × (e ≡ told kind.Unit a)) ⊎ (NamesUnit text × HasStray rest e)
    → (known_unit a (unit_of text) >>= λ v. unit_rest rest v) ≡ Err e
unit_word_err_again a text rest e (inl here) = rw (here.0, here.1) refl
unit_word_err_again a text rest e (inr later) = rw later.0.1 (spare_then_again rest later.0.0 e later.1)

pub unit_fault_again : (at : ℕ) (f : Forest) (e : DesignFault) → UnitListFault at f e → unit_list at f ≡ Err e
unfolding unit_list
unit_fault_again at f e h =
    word_fault_again _ (λ a text rest e. ((unit_of text ≡ None) × (e ≡ told kind.Unit a)) ⊎ (NamesUnit text × HasStray rest e)) at f e (λ a text rest k. unit_word_err_again a text rest e k) h

-- ---- the unit that governs

stray_some : (f : Forest) (u : Unit {0}) → only_lists f ≡ false → (e : DesignFault) × (each spare_list u f ≡ Err e)
unfolding each
stray_some End u h = absurd cc
stray_some (Word at text rest) u h = (told kind.Form at, refl)
stray_some (Branch at inside rest) u h = stray_some rest u h

word_stated : (u : LengthUnit) (a : ℕ) (rest : Forest) (o : Option LengthUnit) (b : Bool) → only_lists rest ≡ b
    → stated_or u (known_unit a o >>= λ v. unit_rest rest v) ≡ last_of u (cond b (option_to_list o) [])
word_stated u a rest None true is = refl
word_stated u a rest None false is = refl
word_stated u a rest (Some v) true is = rw (spare_again rest tt is) refl
word_stated u a rest (Some v) false is = let s = stray_some rest tt is in rw s.1 refl

stated_is : (u : LengthUnit) (at : ℕ) (f : Forest) → stated_or u (unit_list at f) ≡ last_of u (unit_named f)
unfolding unit_list word_of
stated_is u at End = refl
stated_is u at (Branch a inside rest) = refl
stated_is u at (Word a text rest) = word_stated u a rest (unit_of text) (only_lists rest) refl

behind_is : (u : LengthUnit) (at : ℕ) (f : Forest) (b : Bool) → cond b (stated_or u (unit_list at f)) u ≡ last_of u (cond b (unit_named f) [])
behind_is u at f true = stated_is u at f
behind_is u at f false = refl

pub last-append : {A : Type 0} (x : A) (xs ys : List A) → last_of x (xs ++ ys) ≡ last_of (last_of x xs) ys
last-append x [] ys = refl
last-append x (y ∷ xs) ys = last-append y xs ys

pub governs : (u : LengthUnit) (f : Forest) → governing u f ≡ governing_unit u f
unfolding governing unit_behind
governs u End = refl
governs u (Word at text rest) = governs u rest
governs u (Branch at inside rest) =
    ap (λ (v : LengthUnit). governing v rest) (behind_is u at (head_of inside).args (same (head_of inside).text (codes "unit")))
    ∙ governs (last_of u (units_in at inside)) rest
    ∙ sym (last-append u (units_in at inside) (collect units_in rest))
