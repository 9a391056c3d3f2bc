-- The paths on a layer that lists state are those that are read, and the fault of one is the one that is told.
use Rattle.std.proofs.Common.{◌≡◌, ℕ, List, Option, Some, None, Ok, Err, refl, ap, subst, inl, inr, ◌⊎◌}
use Rattle.sexp_text.specs.Forest.{Forest, End, Word, Branch}
use Rattle.sexp_text.specs.declared.units.Unit.{Unit as LengthUnit}
use Rattle.dsn_lists.specs.declared.faults.DesignFault.{DesignFault}
use Rattle.dsn_lists.specs.declared.faults.DesignKind.TheVariants as kind
use Rattle.dsn_lists.specs.declared.shapes.Path.{Path}
use Rattle.dsn_lists.specs.Results.{◌>>=◌}
use Rattle.dsn_lists.specs.Words.{word_of}
use Rattle.dsn_lists.specs.Names.{place_of}
use Rattle.dsn_lists.specs.Layers.{one_of, one_layer}
use Rattle.dsn_lists.specs.Shapes.{path_of}
use Rattle.dsn_lists.specs.Lists.{told}
use Rattle.dsn_lists.specs.ShapeLists.{PathFault}
use Rattle.dsn_lists.proofs.Firsts.{made, ok_is, bind_ok, bind_err, word_fault, word_fault_again}
use Rattle.dsn_lists.proofs.PathLaws.{path_found, path_again, path_fault, path_fault_again}
use Rattle.dsn_reader.specs.declared.wires.Track.{Track}
use Rattle.dsn_reader.specs.Wirings.{track_of}
use Rattle.dsn_reader.specs.TrackLists.{IsTrack, NamesLayer, TrackFault}

-- ---- paths on a layer

abbrev on_layer : ℕ → Path → Track
on_layer n p = record { layer = n; width = p.width; points = p.points }

layer_ok : (a : ℕ) (o : Option ℕ) (n : ℕ) → one_of a o ≡ Ok n → o ≡ Some n
layer_ok a None n e = absurd cc
layer_ok a (Some m) n e = ap (λ (x : ℕ). Some x) (ok_is m n e)

pub track_found : (u : LengthUnit) (layers : List (List ℕ)) (at : ℕ) (f : Forest) (t : Track) → track_of u layers at f ≡ Ok t → IsTrack u layers f t
unfolding track_of word_of one_layer
track_found u layers at End t e = absurd cc
track_found u layers at (Branch a inside rest) t e = absurd cc
track_found u layers at (Word a text rest) t e =
    let n = bind_ok (one_of a (place_of layers text)) (λ n. path_of u at rest >>= λ p. made (on_layer n p)) t e in
    let p = bind_ok (path_of u at rest) (λ p. made (on_layer n.0 p)) t n.2 in
    let is = ok_is (on_layer n.0 p.0) t p.2 in
    subst (λ (x : Track). IsTrack u layers (Word a text rest) x) is (layer_ok a (place_of layers text) n.0 n.1, path_found u at rest p.0 p.1)

pub track_again : (u : LengthUnit) (layers : List (List ℕ)) (at : ℕ) (f : Forest) (t : Track) → IsTrack u layers f t → track_of u layers at f ≡ Ok t
unfolding track_of word_of one_layer
track_again u layers at End t h = absurd h
track_again u layers at (Branch a inside rest) t h = absurd h
track_again u layers at (Word a text rest) t h = rw (h.0, path_again u at rest (record { width = t.width; points = t.points }) h.1) refl

abbrev TrackWordFault : LengthUnit → List (List ℕ) → ℕ → ℕ → List ℕ → Forest → DesignFault → Type 0
TrackWordFault u layers at a text rest e = ((place_of layers text ≡ None) × (e ≡ told kind.Layer a)) ⊎ (NamesLayer layers text × PathFault u at rest e)

track_word : (u : LengthUnit) (layers : List (List ℕ)) (at a : ℕ) (text : List ℕ) (rest : Forest) (o : Option ℕ) (e : DesignFault) → place_of layers text ≡ o
    → (one_of a o >>= λ n. path_of u at rest >>= λ p. made (on_layer n p)) ≡ Err e → TrackWordFault u layers at a text rest e
track_word u layers at a text rest None e is h = inl (is, cc)
track_word u layers at a text rest (Some n) e is h =
    elim (bind_err (path_of u at rest) (λ p. made (on_layer n p)) e h) [
      | inl here ↦ inr ((n, is), path_fault u at rest e here)
      | inr later ↦ absurd cc
    ]

track_word_again : (u : LengthUnit) (layers : List (List ℕ)) (at a : ℕ) (text : List ℕ) (rest : Forest) (e : DesignFault) → TrackWordFault u layers at a text rest e
    → (one_of a (place_of layers text) >>= λ n. path_of u at rest >>= λ p. made (on_layer n p)) ≡ Err e
track_word_again u layers at a text rest e (inl here) = rw (here.0, here.1) refl
track_word_again u layers at a text rest e (inr later) = rw (later.0.1, path_fault_again u at rest e later.1) refl

pub track_fault : (u : LengthUnit) (layers : List (List ℕ)) (at : ℕ) (f : Forest) (e : DesignFault) → track_of u layers at f ≡ Err e → TrackFault u layers at f e
unfolding track_of one_layer
track_fault u layers at f e h = word_fault _ (TrackWordFault u layers at) at f e (λ a text rest k. track_word u layers at a text rest (place_of layers text) e refl k) h

pub track_fault_again : (u : LengthUnit) (layers : List (List ℕ)) (at : ℕ) (f : Forest) (e : DesignFault) → TrackFault u layers at f e → track_of u layers at f ≡ Err e
unfolding track_of one_layer
track_fault_again u layers at f e h = word_fault_again _ (TrackWordFault u layers at) at f e (λ a text rest k. track_word_again u layers at a text rest e k) h
