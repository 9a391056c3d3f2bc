-- The lists of vias are those that are read, and the fault of one is the one that is told.
use Rattle.std.proofs.Common.{◌≡◌, ℕ, ◌≤◌, List, length, Option, Some, None, Ok, Err, refl, ap, inl, inr, ◌⊎◌}
use Rattle.std.specs.Prelude.{slice_get}
use Rattle.sexp_text.specs.Forest.{Forest, End, Word, Branch}
use Rattle.sexp_text.specs.declared.units.Unit.{Unit as LengthUnit}
use Rattle.area_geometry.specs.declared.shapes.Shape.{Shape}
use Rattle.board_items.specs.Shapes.{shapes_of}
use Rattle.dsn_lists.specs.declared.faults.DesignFault.{DesignFault}
use Rattle.dsn_lists.specs.declared.faults.DesignKind.TheVariants as kind
use Rattle.dsn_lists.specs.Results.{◌>>=◌}
use Rattle.dsn_lists.specs.Words.{word_of}
use Rattle.dsn_lists.specs.Names.{place_of}
use Rattle.dsn_lists.specs.Lists.{collect, told}
use Rattle.dsn_lists.specs.ShortLists.{behind_words}
use Rattle.dsn_lists.proofs.Firsts.{ok_is, bind_ok, word_fault, word_fault_again}
use Rattle.dsn_library.specs.declared.library.Library.{Library}
use Rattle.dsn_reader.specs.declared.wiring.Wiring.{Wiring}
use Rattle.dsn_reader.specs.Wirings.{Netted, known_stack, via_of}
use Rattle.dsn_reader.specs.EndLists.{names_in}
use Rattle.dsn_reader.specs.ViaLists.{PlacedFault, ViaFault}
use Rattle.dsn_lists.proofs.Growing.{Grows}
use Rattle.dsn_reader.proofs.PlacedLaws.{behind_stack, ArePlaced, placed_found, placed_again, placed_fault, placed_fault_again}

-- ---- a list of vias

abbrev shapes_at : Library → ℕ → List Shape
shapes_at l stack = shapes_of (slice_get l.stacks stack)

pub names_behind : (f : Forest) → collect names_in f ≡ collect names_in (behind_words f)
names_behind End = refl
names_behind (Word at text rest) = names_behind rest
names_behind (Branch at inside rest) = refl

-- a list of vias behind wiring, with the names of the nets at the end
abbrev pub IsViaStep : LengthUnit → Library → List (List ℕ) → Netted Wiring → Forest → Netted Wiring → Type 0
IsViaStep u l final x End y = ⊥
IsViaStep u l final x (Word a text rest) y = (stack : ℕ) × (place_of l.names text ≡ Some stack) × ArePlaced u final (shapes_at l stack) stack x rest y
IsViaStep u l final x (Branch a inside rest) y = ⊥

stack_ok : (a : ℕ) (o : Option ℕ) (n : ℕ) → known_stack a o ≡ Ok n → o ≡ Some n
stack_ok a None n e = absurd cc
stack_ok a (Some m) n e = ap (λ (k : ℕ). Some k) (ok_is m n e)

pub via_list_found : (u : LengthUnit) (l : Library) (x : Netted Wiring) (at : ℕ) (f : Forest) (y : Netted Wiring) → length x.nets ≤ 100000 → via_of u l x at f ≡ Ok y → IsViaStep u l y.nets x f y
unfolding via_of word_of
via_list_found u l x at End y few e = absurd cc
via_list_found u l x at (Branch a inside rest) y few e = absurd cc
via_list_found u l x at (Word a text rest) y few e =
    let n = bind_ok (known_stack a (place_of l.names text)) (λ stack. behind_stack u at (shapes_at l stack) stack x rest) y e in
    (n.0, stack_ok a (place_of l.names text) n.0 n.1, placed_found u at (shapes_at l n.0) n.0 x rest y few n.2)

pub via_list_again : (u : LengthUnit) (l : Library) (final : List (List ℕ)) (x : Netted Wiring) (at : ℕ) (f : Forest) (y : Netted Wiring) → Grows y.nets final → IsViaStep u l final x f y → via_of u l x at f ≡ Ok y
unfolding via_of word_of
via_list_again u l final x at End y grows h = absurd h
via_list_again u l final x at (Branch a inside rest) y grows h = absurd h
via_list_again u l final x at (Word a text rest) y grows h = rw h.1 (placed_again u final at (shapes_at l h.0) h.0 x rest y grows h.2)

abbrev ViaWordFault : LengthUnit → Library → Netted Wiring → ℕ → ℕ → List ℕ → Forest → DesignFault → Type 0
ViaWordFault u l x at a text rest e =
    ((place_of l.names text ≡ None) × (e ≡ told kind.Name a)) ⊎ ((stack : ℕ) × (place_of l.names text ≡ Some stack) × PlacedFault u (shapes_at l stack) x at rest e)

via_word : (u : LengthUnit) (l : Library) (x : Netted Wiring) (at a : ℕ) (text : List ℕ) (rest : Forest) (o : Option ℕ) (e : DesignFault) → length x.nets ≤ 100000 → place_of l.names text ≡ o
    → (known_stack a o >>= λ stack. behind_stack u at (shapes_at l stack) stack x rest) ≡ Err e → ViaWordFault u l x at a text rest e
via_word u l x at a text rest None e few is h = inl (is, cc)
via_word u l x at a text rest (Some n) e few is h = inr (n, is, placed_fault u at (shapes_at l n) n x rest e few h)

via_word_again : (u : LengthUnit) (l : Library) (x : Netted Wiring) (at a : ℕ) (text : List ℕ) (rest : Forest) (e : DesignFault) → ViaWordFault u l x at a text rest e
    → (known_stack a (place_of l.names text) >>= λ stack. behind_stack u at (shapes_at l stack) stack x rest) ≡ Err e
via_word_again u l x at a text rest e (inl here) = rw (here.0, here.1) refl
via_word_again u l x at a text rest e (inr later) = rw later.1 (placed_fault_again u at (shapes_at l later.0) later.0 x rest e later.2)

pub via_list_fault : (u : LengthUnit) (l : Library) (x : Netted Wiring) (at : ℕ) (f : Forest) (e : DesignFault) → length x.nets ≤ 100000 → via_of u l x at f ≡ Err e → ViaFault u l x at f e
unfolding via_of
via_list_fault u l x at f e few h = word_fault _ (ViaWordFault u l x at) at f e (λ a text rest k. via_word u l x at a text rest (place_of l.names text) e few refl k) h

pub via_list_fault_again : (u : LengthUnit) (l : Library) (x : Netted Wiring) (at : ℕ) (f : Forest) (e : DesignFault) → ViaFault u l x at f e → via_of u l x at f ≡ Err e
unfolding via_of
via_list_fault_again u l x at f e h = word_fault_again _ (ViaWordFault u l x at) at f e (λ a text rest k. via_word_again u l x at a text rest e k) h
