-- `width` lists are read exactly where they state a width, and their faults are those that are told.
use Rattle.std.proofs.Common.{◌≡◌, ℕ, List, [], ◌∷◌, map, Option, Some, None, Ok, Err, refl, ap, ◌∙◌, inl, inr, ◌⊎◌}
use Rattle.sexp_text.specs.Forest.{Forest, End, Word, Branch}
use Rattle.sexp_text.specs.declared.units.Unit.{Unit as LengthUnit}
use Rattle.dsn_lists.specs.declared.faults.DesignFault.{DesignFault}
use Rattle.dsn_lists.specs.Results.{◌>>=◌, each}
use Rattle.dsn_lists.specs.Words.{mark, word_of, spare_list}
use Rattle.dsn_lists.specs.Numbers.{width_word}
use Rattle.dsn_lists.specs.Rules.{width_list}
use Rattle.dsn_lists.specs.ShortLists.{HasStray}
use Rattle.dsn_lists.specs.Measures.{StatesWidth, WidthWordFault, IsWidthList, WidthListFault}
use Rattle.dsn_lists.specs.Statements.{width_text}
use Rattle.dsn_lists.proofs.Firsts.{made, bind_ok, bind_err, word_fault, word_fault_again}
use Rattle.dsn_lists.proofs.ShortLaws.{spare_again, spare_then, spare_then_again, spare_value}
use Rattle.dsn_lists.proofs.WidthWordLaws.{width_found, width_again, width_fault, width_fault_again, width_value, value_is}

-- ---- `(width w)`

-- the width that is read of a text, where there is one
abbrev pub valued : LengthUnit → Option (List ℕ) → Option ℕ
valued u None = None
valued u (Some text) = Some (width_value u text)

pub width_list_found : (u : LengthUnit) (at : ℕ) (f : Forest) (n : ℕ) → width_list u at f ≡ Ok n → IsWidthList u f × (map (valued u) (width_text f) ≡ Some n ∷ [])
unfolding width_list word_of
width_list_found u at End n e = absurd cc
width_list_found u at (Branch a inside rest) n e = absurd cc
width_list_found u at (Word a text rest) n e =
    let w = bind_ok (width_word u (mark a text)) (λ width. each spare_list tt rest >>= λ _. made width) n e in
    let s = spare_value rest w.0 n w.2 in
    let width = width_found u a text w.0 w.1 in
    (((w.0, width), s.0), ap (λ (m : ℕ). Some m ∷ []) (value_is u text w.0 width ∙ s.1))

pub width_list_again : (u : LengthUnit) (at : ℕ) (f : Forest) → IsWidthList u f → (n : ℕ) × (width_list u at f ≡ Ok n) × (map (valued u) (width_text f) ≡ Some n ∷ [])
unfolding width_list word_of
width_list_again u at End h = absurd h
width_list_again u at (Branch a inside rest) h = absurd h
width_list_again u at (Word a text rest) h = (h.0.0, rw (width_again u a text h.0.0 h.0.1, spare_again rest tt h.1) refl, ap (λ (m : ℕ). Some m ∷ []) (value_is u text h.0.0 h.0.1))

pub width_list_fault : (u : LengthUnit) (at : ℕ) (f : Forest) (e : DesignFault) → width_list u at f ≡ Err e → WidthListFault u at f e
unfolding width_list
width_list_fault u at f e h =
    word_fault _ (λ a text rest e. WidthWordFault u a text e ⊎ (StatesWidth u text × HasStray rest e)) at f e (λ a text rest k.
    elim (bind_err (width_word u (mark a text)) (λ width. each spare_list tt rest >>= λ _. made width) e k) [
      | inl here ↦ inl (width_fault u a text e here)
      | inr later ↦ inr ((later.0, width_found u a text later.0 later.1), spare_then rest later.0 e later.2)
    ]) h

width_list_word : (u : LengthUnit) (a : ℕ) (text : List ℕ) (rest : Forest) (e : DesignFault) → WidthWordFault u a text e ⊎ (StatesWidth u text × HasStray rest e)
    → (width_word u (mark a text) >>= λ width. each spare_list tt rest >>= λ _. made width) ≡ Err e
width_list_word u a text rest e (inl here) = rw (width_fault_again u a text e here) refl
width_list_word u a text rest e (inr later) = rw (width_again u a text later.0.0 later.0.1) (spare_then_again rest later.0.0 e later.1)

pub width_list_fault_again : (u : LengthUnit) (at : ℕ) (f : Forest) (e : DesignFault) → WidthListFault u at f e → width_list u at f ≡ Err e
unfolding width_list
width_list_fault_again u at f e h =
    word_fault_again _ (λ a text rest e. WidthWordFault u a text e ⊎ (StatesWidth u text × HasStray rest e)) at f e (λ a text rest k. width_list_word u a text rest e k) h
