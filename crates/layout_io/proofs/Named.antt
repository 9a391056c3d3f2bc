-- What a change of one file does to the bytes under each name.
use Rattle.std.proofs.Common.{◌≡◌, ◌≢◌, ℕ, ◌+◌, ◌<◌, ◌≤◌, Bool, true, false, cond, List, [], ◌∷◌, ◌++◌, length, get_or, set, Option, Some, None, refl, sym, ap, ◌∙◌, arith, take, drop, min, Result, Ok, Err}
use Rattle.std.specs.Prelude.{is_ok, OnOk}
use Rattle.std.proofs.lemmas.List.{take-append-drop, drop_min, drop-drop, take_at}
use Rattle.std.specs.Prelude.{not, slice_get}
use Rattle.std.specs.Str.{bytes_eq}
use Rattle.std.specs.List.{position, position_or_len, find}
use Rattle.std.specs.Option.{option_map}
use Rattle.std.proofs.lemmas.Bool.{ltb-true, ltb-false}
use Rattle.std.proofs.lemmas.Slice.Eq.{bytes_eq-Decides}
use Rattle.std.proofs.lemmas.List.Folds.{find_at, find-set, find_past, find-append}
use Rattle.std.proofs.lemmas.List.Sums.{passes_at_first}
use Rattle.std.proofs.lemmas.Option.{slice_get-get_or}
use Rattle.layout_io.specs.declared.stored.Stored.{Stored}
use Rattle.layout_io.specs.Told.{bytes_of, SameBut, IsGrown, IsPut}

abbrev pub named : List ℕ → Stored → Bool
named name f = bytes_eq f.name name

at_some : (b : Bool) (m i : ℕ) → cond b (Some m) None ≡ Some i → (b ≡ true) × (m ≡ i)
at_some true m i e = (refl, cc)
at_some false m i e = absurd cc

at_none : (b : Bool) (m : ℕ) → cond b (Some m) None ≡ None → b ≡ false
at_none true m e = absurd cc
at_none false m e = refl

none_step : (b : Bool) (x : Stored) (n k : ℕ) (rest : Option Stored) → (n ≤ k → rest ≡ None) → n + 1 ≤ cond (not b) (1 + k) 0 → cond b (Some x) rest ≡ None
none_step true x n k rest go h = absurd (omega arith)
none_step false x n k rest go h = go (omega arith)

none_found : (p : Stored → Bool) (xs : List Stored) → length xs ≤ position_or_len p xs → find p xs ≡ None
none_found p [] h = refl
none_found p (x ∷ xs) h = none_step (p x) x (length xs) (position_or_len p xs) (find p xs) (none_found p xs) (omega arith)

pub position_none : (p : Stored → Bool) (xs : List Stored) → position p xs ≡ None → find p xs ≡ None
position_none p xs e = none_found p xs (ltb-false _ _ (at_none _ _ e))

-- the place that `position` gave
pub record IsPlace (name : List ℕ) (xs : List Stored) (i : ℕ) (f : Stored) : Type 0 where
  pub first : i ≡ position_or_len (named name) xs
  pub within : i < length xs
  pub named_so : f.name ≡ name
  pub passes : named name f ≡ true
  pub is : f ≡ get_or xs i f

pub place : (name : List ℕ) (xs : List Stored) (i : ℕ) (f : Stored) → position (named name) xs ≡ Some i → f ≡ get_or xs i f → IsPlace name xs i f
place name xs i f e is =
    let h = at_some _ _ i e in
    let first : i ≡ position_or_len (named name) xs = sym h.1 in
    let within : i < length xs = rw first (ltb-true _ _ h.0) in
    let found : named name (get_or xs (position_or_len (named name) xs) f) ≡ true = passes_at_first (named name) xs f (ltb-true _ _ h.0) in
    let passes : named name f ≡ true = ap (named name) (is ∙ ap (λ (k : ℕ). get_or xs k f) first) ∙ found in
    record { first = first; within = within; named_so = (bytes_eq-Decides f.name name).0 passes; passes = passes; is = is }

other_fails : (name other : List ℕ) (b : Bool) → (b ≡ true → name ≡ other) → other ≢ name → b ≡ false
other_fails name other true h ne = absurd (ne (sym (h refl)))
other_fails name other false h ne = refl

fails_other : (name other : List ℕ) (f : Stored) → f.name ≡ name → other ≢ name → named other f ≡ false
fails_other name other f e ne = other_fails name other (named other f) (λ t. sym e ∙ (bytes_eq-Decides f.name other).0 t) ne

get_step : (xs : List Stored) (i : ℕ) (f : Stored) → i < length xs → f ≡ get_or xs i f → slice_get xs i ≡ Some f
get_step xs i f within is = slice_get-get_or xs i f within ∙ ap Some (sym is)

pub bytes_at : (name : List ℕ) (xs : List Stored) (i : ℕ) (f : Stored) → IsPlace name xs i f → bytes_of xs name ≡ Some f.bytes
bytes_at name xs i f p =
    let e : find (named name) xs ≡ Some f = find_at (named name) xs ∙ ap (slice_get xs) (sym p.first) ∙ get_step xs i f p.within p.is in
    ap (option_map (λ (g : Stored). g.bytes)) e

bytes_set : (name : List ℕ) (xs : List Stored) (i : ℕ) (f y : Stored) → IsPlace name xs i f → y.name ≡ f.name → bytes_of (set xs i y) name ≡ Some y.bytes
bytes_set name xs i f y p same = ap (option_map (λ (g : Stored). g.bytes)) (find-set (named name) xs i y p.first p.within (ap (λ (n : List ℕ). bytes_eq n name) same ∙ p.passes))

others_set : (name : List ℕ) (xs : List Stored) (i : ℕ) (f y : Stored) → IsPlace name xs i f → y.name ≡ f.name → SameBut name xs (set xs i y)
others_set name xs i f y p same other ne =
    let old : named other (get_or xs i f) ≡ false = rw (← p.is) (fails_other name other f p.named_so ne) in
    ap (option_map (λ (g : Stored). g.bytes)) (find_past (named other) xs i y f old (fails_other name other y (same ∙ p.named_so) ne))

some_is : (x y : List ℕ) → Some x ≡ Some y → x ≡ y
some_is x y e = cc

pub grown_at : (name piece : List ℕ) (xs : List Stored) (i : ℕ) (f y : Stored) → IsPlace name xs i f → y.name ≡ f.name → y.bytes ≡ f.bytes ++ piece → IsGrown name piece xs (set xs i y)
grown_at name piece xs i f y p same more = record {
  grown = λ had e. bytes_set name xs i f y p same ∙ ap Some (more ∙ ap (λ (b : List ℕ). b ++ piece) (some_is _ _ (sym (bytes_at name xs i f p) ∙ e)));
  others = others_set name xs i f y p same;
}

pub grown_nowhere : (name piece : List ℕ) (xs : List Stored) → position (named name) xs ≡ None → IsGrown name piece xs xs
grown_nowhere name piece xs e = record {
  grown = λ had h. absurd (let n : bytes_of xs name ≡ None = ap (option_map (λ (g : Stored). g.bytes)) (position_none (named name) xs e) in cc);
  others = λ other ne. refl;
}

pub put_at : (name bytes : List ℕ) (xs : List Stored) (i : ℕ) (f y : Stored) → IsPlace name xs i f → y.name ≡ f.name → y.bytes ≡ bytes → IsPut name bytes xs (set xs i y)
put_at name bytes xs i f y p same so = record { there = bytes_set name xs i f y p same ∙ ap Some so; others = others_set name xs i f y p same }

or_none : (o : Option Stored) (y : Stored) (b : Bool) → b ≡ false → o ≡ Rattle.std.specs.Option.option_or o (cond b (Some y) None)
or_none None y true e = absurd cc
or_none None y false e = refl
or_none (Some x) y b e = refl

pub put_new : (name bytes : List ℕ) (xs : List Stored) (y : Stored) → position (named name) xs ≡ None → y.name ≡ name → y.bytes ≡ bytes → IsPut name bytes xs (xs ++ y ∷ [])
put_new name bytes xs y e same so =
    let none_yet = position_none (named name) xs e in
    let passes = (bytes_eq-Decides y.name name).1 same in
    let found : find (named name) (xs ++ y ∷ []) ≡ Some y = find-append (named name) xs (y ∷ []) ∙ rw (none_yet, passes) refl in
    record {
      there = ap (option_map (λ (g : Stored). g.bytes)) found ∙ ap Some so;
      others = λ other ne. ap (option_map (λ (g : Stored). g.bytes)) (find-append (named other) xs (y ∷ []) ∙ sym (or_none (find (named other) xs) y (named other y) (fails_other name other y same ne)));
    }

pub read_taken : (bytes rest front copied room : List ℕ) (place start count : ℕ) → start ≡ min place (length bytes) → rest ≡ drop start bytes → front ≡ take count rest → length front ≡ count → copied ≡ front
    → drop place bytes ≡ take count (copied ++ drop count room) ++ drop (start + count) bytes
read_taken bytes rest front copied room place start count s r f len c =
    let whole : take count rest ++ drop count rest ≡ rest = take-append-drop count rest in
    let same : rest ≡ drop place bytes = r ∙ ap (λ (k : ℕ). drop k bytes) s ∙ drop_min place bytes in
    let later : drop (start + count) bytes ≡ drop count rest = sym (ap (drop count) r ∙ drop-drop count start bytes) in
    let head : take count (copied ++ drop count room) ≡ front = ap (λ (x : List ℕ). take count (x ++ drop count room)) c ∙ take_at front (drop count room) count len in
    rw (head, later, f) (sym (whole ∙ same))

pub grown_if : {T E : Type 0} (r : Result T E) (name piece : List ℕ) (xs : List Stored) (i : ℕ) (f y : Stored) → IsPlace name xs i f → y.name ≡ f.name → y.bytes ≡ cond (is_ok r) (f.bytes ++ piece) f.bytes → OnOk r (IsGrown name piece xs (set xs i y))
grown_if (Ok x) name piece xs i f y p same more = grown_at name piece xs i f y p same more
grown_if (Err e) name piece xs i f y p same more = tt

pub no_bytes : (name : List ℕ) (xs : List Stored) → position (named name) xs ≡ None → bytes_of xs name ≡ None
no_bytes name xs e = ap (option_map (λ (g : Stored). g.bytes)) (position_none (named name) xs e)
