-- A text whose length no name has is no name.
use Rattle.std.proofs.Common.{◌≡◌, ℕ, ◌+◌, ◌<◌, nat_eq, ◌==◌, Bool, true, false, cond, List, [], length, take, drop, get_or, slice_get, Option, None, Some, refl, ap, ◌∙◌, sym, true≢false, arith}
use Rattle.std.specs.List.{list_any}
use Rattle.std.specs.Str.{bytes_eq}
use Rattle.std.proofs.lemmas.List.{length-take-le}
use Rattle.std.proofs.lemmas.List.Quantifiers.{position-Some}
use Rattle.std.proofs.lemmas.Option.{slice_get-get_or}
use Rattle.std.proofs.lemmas.Slice.Eq.{bytes_eq-Decides}
use Rattle.dsn_lists.specs.Names.{place_of}
use Rattle.dsn_library.specs.declared.library.Library.{Library}
use Rattle.dsn_placement.specs.declared.placement.Placement.{Placement}
use Rattle.dsn_network.specs.References.{pin_at, split_at, HaveLengths}

-- ---- the lengths of the first names

abbrev pub HaveLengthsBelow : ℕ → List (List ℕ) → List ℕ → Type 0
HaveLengthsBelow n names lengths = (place : ℕ) (name : List ℕ) → place < n → slice_get names place ≡ Some name → list_any (nat_eq (length name)) lengths ≡ true

-- ---- other lengths

named_at : (names : List (List ℕ)) (name : List ℕ) (k : ℕ) → place_of names name ≡ Some k → slice_get names k ≡ Some name
named_at names name k e =
    let p = position-Some (bytes_eq name) names k [] e in
    slice_get-get_or names k [] p.0 ∙ ap (λ (x : List ℕ). Some x) (sym ((bytes_eq-Decides name (get_or names k [])).0 p.1))

no_name : (names : List (List ℕ)) (lengths name : List ℕ) → HaveLengths names lengths → list_any (nat_eq (length name)) lengths ≡ false → place_of names name ≡ None
no_name names lengths name h none = by (place_of names name) refl
  where
    by : (o : Option ℕ) → place_of names name ≡ o → o ≡ None
    by None e = refl
    by (Some k) e = absurd (true≢false (sym (h k name (named_at names name k e)) ∙ none))

no_pin : (b : Bool) (p : Placement) (l : Library) (front back : List ℕ) → place_of p.components front ≡ None → cond b (pin_at p.components p.images l.images front back) None ≡ None
unfolding pin_at
no_pin true p l front back none = rw none refl
no_pin false p l front back none = refl

-- the text before a byte names no component where none has a name of its length
pub no_split : (p : Placement) (l : Library) (lengths text : List ℕ) (at : ℕ) → HaveLengths p.components lengths → at < length text → list_any (nat_eq at) lengths ≡ false → None ≡ split_at p l text at
no_split p l lengths text at h low none =
    let count : length (take at text) ≡ at = length-take-le at text (omega (arith, low)) in
    sym (no_pin (get_or text at 0 == 45) p l (take at text) (drop (at + 1) text)
    (no_name p.components lengths (take at text) h (ap (λ (n : ℕ). list_any (nat_eq n) lengths) count ∙ none)))
