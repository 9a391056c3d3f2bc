-- The circles that are stated are those that are read, and the fault of one is the one that is told.
use Rattle.std.proofs.Common.{◌≡◌, ℕ, List, Ok, Err, refl, subst, sym, inl, inr, ◌⊎◌}
use Rattle.sexp_text.specs.Forest.{Forest, End, Word, Branch}
use Rattle.sexp_text.specs.declared.units.Unit.{Unit as LengthUnit}
use Rattle.dsn_lists.specs.declared.faults.DesignFault.{DesignFault}
use Rattle.dsn_lists.specs.declared.shapes.Circle.{Circle}
use Rattle.dsn_lists.specs.Results.{◌>>=◌}
use Rattle.dsn_lists.specs.Words.{mark, word_of}
use Rattle.dsn_lists.specs.Numbers.{width_word}
use Rattle.dsn_lists.specs.Shapes.{circle_of}
use Rattle.dsn_lists.specs.Measures.{IsWidth, StatesWidth, WidthWordFault}
use Rattle.dsn_lists.specs.ShapeLists.{IsCircle, CentreFault, CircleFault}
use Rattle.dsn_lists.proofs.Firsts.{bind_ok, bind_err, word_fault, word_fault_again}
use Rattle.dsn_lists.proofs.WidthWordLaws.{width_found, width_again, width_fault, width_fault_again}
use Rattle.dsn_lists.proofs.CentreLaws.{centre_again, centre_fault, centre_fault_again, centre_found, width_rest}

-- ---- a circle

pub circle_found : (u : LengthUnit) (at : ℕ) (f : Forest) (c : Circle) → circle_of u at f ≡ Ok c → IsCircle u f c
unfolding circle_of word_of
circle_found u at End c e = absurd cc
circle_found u at (Branch a inside rest) c e = absurd cc
circle_found u at (Word a text rest) c e =
    let w = bind_ok (width_word u (mark a text)) (λ width. width_rest u at rest width) c e in
    let r = centre_found u at rest w.0 c w.2 in
    (subst (λ (n : ℕ). IsWidth u text n) (sym r.0) (width_found u a text w.0 w.1), r.1)

pub circle_again : (u : LengthUnit) (at : ℕ) (f : Forest) (c : Circle) → IsCircle u f c → circle_of u at f ≡ Ok c
unfolding circle_of word_of
circle_again u at End c h = absurd h
circle_again u at (Branch a inside rest) c h = absurd h
circle_again u at (Word a text rest) c h = rw (width_again u a text c.width h.0) (centre_again u at rest c h.1)

abbrev CircleWordFault : LengthUnit → ℕ → ℕ → List ℕ → Forest → DesignFault → Type 0
CircleWordFault u at a text rest e = WidthWordFault u a text e ⊎ (StatesWidth u text × CentreFault u at rest e)

circle_word : (u : LengthUnit) (at a : ℕ) (text : List ℕ) (rest : Forest) (e : DesignFault) → (width_word u (mark a text) >>= λ width. width_rest u at rest width) ≡ Err e → CircleWordFault u at a text rest e
circle_word u at a text rest e h =
    elim (bind_err (width_word u (mark a text)) (λ width. width_rest u at rest width) e h) [
      | inl here ↦ inl (width_fault u a text e here)
      | inr later ↦ inr ((later.0, width_found u a text later.0 later.1), centre_fault u at rest later.0 e later.2)
    ]

circle_word_again : (u : LengthUnit) (at a : ℕ) (text : List ℕ) (rest : Forest) (e : DesignFault) → CircleWordFault u at a text rest e → (width_word u (mark a text) >>= λ width. width_rest u at rest width) ≡ Err e
circle_word_again u at a text rest e (inl here) = rw (width_fault_again u a text e here) refl
circle_word_again u at a text rest e (inr later) = rw (width_again u a text later.0.0 later.0.1) (centre_fault_again u at rest later.0.0 e later.1)

pub circle_fault : (u : LengthUnit) (at : ℕ) (f : Forest) (e : DesignFault) → circle_of u at f ≡ Err e → CircleFault u at f e
unfolding circle_of
circle_fault u at f e h = word_fault _ (CircleWordFault u at) at f e (λ a text rest k. circle_word u at a text rest e k) h

pub circle_fault_again : (u : LengthUnit) (at : ℕ) (f : Forest) (e : DesignFault) → CircleFault u at f e → circle_of u at f ≡ Err e
unfolding circle_of
circle_fault_again u at f e h = word_fault_again _ (CircleWordFault u at) at f e (λ a text rest k. circle_word_again u at a text rest e k) h
