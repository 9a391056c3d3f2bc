-- The lengths and layers that words state are those that are read, and their faults are those that are told.
use Rattle.std.proofs.Common.{◌≡◌, ℕ, ℤ, pos, Bool, true, false, cond, List, Option, Some, None, Result, Ok, Err, refl, sym, ap, subst, ◌∙◌}
use Rattle.sexp_text.specs.declared.units.Unit.{Unit as LengthUnit}
use Rattle.sexp_text.specs.declared.num_fault.NumFault.{NumFault}
use Rattle.sexp_text.specs.declared.num_fault.NumFault.TheVariants as num
use Rattle.sexp_text.specs.LengthReading.{length_in}
use Rattle.sexp_text.proofs.LengthLaws.{ok_iff, range_iff, not_number_iff}
use Rattle.dsn_lists.specs.declared.faults.DesignFault.{DesignFault}
use Rattle.dsn_lists.specs.declared.faults.DesignKind.{DesignKind}
use Rattle.dsn_lists.specs.declared.faults.DesignKind.TheVariants as kind
use Rattle.dsn_lists.specs.Results.{Read, wrong}
use Rattle.dsn_lists.specs.Names.{place_of}
use Rattle.dsn_lists.specs.Words.{mark}
use Rattle.dsn_lists.specs.Numbers.{length_told, length_word}
use Rattle.dsn_lists.specs.Layers.{is_every, some_of, some_layer}
use Rattle.dsn_lists.specs.Lists.{told}
use Rattle.dsn_lists.specs.Measures.{Measures}
use Rattle.dsn_lists.specs.PointWords.{NamesLayer, LayerWordFault, NoLength, LengthWordFault}
use Rattle.dsn_lists.proofs.Firsts.{made, failed, ok_is}

-- ---- lengths

pub length_found : (u : LengthUnit) (at : ℕ) (text : List ℕ) (z : ℤ) → length_word u (mark at text) ≡ Ok z → Measures u text (Ok z)
length_found u at text z e = by (length_in u text) refl e
  where
    by : (r : Result ℤ NumFault) → length_in u text ≡ r → length_told at r ≡ Ok z → Measures u text (Ok z)
    by (Ok y) is e = (ok_iff u text z).0 (is ∙ ap (λ (x : ℤ). Ok x) (ok_is y z e))
    by (Err num.NotNumber) is e = absurd cc
    by (Err num.Range) is e = absurd cc

pub length_again : (u : LengthUnit) (at : ℕ) (text : List ℕ) (z : ℤ) → Measures u text (Ok z) → length_word u (mark at text) ≡ Ok z
length_again u at text z h = let is = (ok_iff u text z).1 h in rw is refl

no_length : (u : LengthUnit) (at : ℕ) (text : List ℕ) (k : DesignKind) (e : DesignFault) → NoLength u text k → e ≡ told k at → LengthWordFault u at text e
no_length u at text k e h is = subst (λ (d : DesignFault). LengthWordFault u at text d) (sym is) (h, refl)

pub length_fault : (u : LengthUnit) (at : ℕ) (text : List ℕ) (e : DesignFault) → length_word u (mark at text) ≡ Err e → LengthWordFault u at text e
length_fault u at text e h = by (length_in u text) refl h
  where
    by : (r : Result ℤ NumFault) → length_in u text ≡ r → length_told at r ≡ Err e → LengthWordFault u at text e
    by (Ok z) is h = absurd cc
    by (Err num.NotNumber) is h = no_length u at text kind.Number e ((not_number_iff u text).0 is) cc
    by (Err num.Range) is h = no_length u at text kind.Range e ((range_iff u text).0 is) cc

pub length_fault_again : (u : LengthUnit) (at : ℕ) (text : List ℕ) (e : DesignFault) → LengthWordFault u at text e → length_word u (mark at text) ≡ Err e
length_fault_again u at text e h = by e.kind h.0 ∙ ap (λ (a : ℕ). failed (told e.kind a)) (sym h.1)
  where
    by : (k : DesignKind) → NoLength u text k → length_word u (mark at text) ≡ wrong k at
    by kind.Number none = rw ((not_number_iff u text).1 none) refl
    by kind.Range far = rw ((range_iff u text).1 far) refl
    by _ none = absurd none

abbrev value_of : Read ℤ → ℤ
value_of (Ok z) = z
value_of (Err e) = pos 0

-- the length that is read of a text
abbrev pub length_value : LengthUnit → List ℕ → ℤ
length_value u text = value_of (length_word u (mark 0 text))

pub length_is : (u : LengthUnit) (text : List ℕ) (z : ℤ) → Measures u text (Ok z) → length_value u text ≡ z
length_is u text z h = rw (length_again u 0 text z h) refl

-- ---- the word of a layer

every_ok : (a : ℕ) (b : Bool) (o : Option ℕ) → cond b (made None) (wrong kind.Layer a) ≡ Ok o → (b ≡ true) × (None ≡ o)
every_ok a true o e = (refl, ok_is None o e)
every_ok a false o e = absurd cc

every_err : (a : ℕ) (b : Bool) (e : DesignFault) → cond b (made {A = Option ℕ} None) (wrong kind.Layer a) ≡ Err e → (b ≡ false) × (e ≡ told kind.Layer a)
every_err a true e h = absurd cc
every_err a false e h = (refl, cc)

pub layer_found : (layers : List (List ℕ)) (at : ℕ) (text : List ℕ) (o : Option ℕ) → some_layer layers (mark at text) ≡ Ok o → NamesLayer layers text o
unfolding some_layer
layer_found layers at text o e = by (place_of layers text) refl e
  where
    by : (p : Option ℕ) → place_of layers text ≡ p → some_of (mark at text) p ≡ Ok o → NamesLayer layers text o
    by (Some n) is e = subst (λ (x : Option ℕ). NamesLayer layers text x) (ok_is (Some n) o e) is
    by None is e = let h = every_ok at (is_every text) o e in subst (λ (x : Option ℕ). NamesLayer layers text x) h.1 (is, h.0)

pub layer_again : (layers : List (List ℕ)) (at : ℕ) (text : List ℕ) (o : Option ℕ) → NamesLayer layers text o → some_layer layers (mark at text) ≡ Ok o
unfolding some_layer
layer_again layers at text (Some n) h = rw h refl
layer_again layers at text None h = rw (h.0, h.1) refl

pub layer_fault : (layers : List (List ℕ)) (at : ℕ) (text : List ℕ) (e : DesignFault) → some_layer layers (mark at text) ≡ Err e → LayerWordFault layers at text e
unfolding some_layer
layer_fault layers at text e h = by (place_of layers text) refl h
  where
    by : (p : Option ℕ) → place_of layers text ≡ p → some_of (mark at text) p ≡ Err e → LayerWordFault layers at text e
    by (Some n) is h = absurd cc
    by None is h = let f = every_err at (is_every text) e h in (is, f.0, f.1)

pub layer_fault_again : (layers : List (List ℕ)) (at : ℕ) (text : List ℕ) (e : DesignFault) → LayerWordFault layers at text e → some_layer layers (mark at text) ≡ Err e
unfolding some_layer
layer_fault_again layers at text e h = rw (h.0, h.1, h.2) refl
