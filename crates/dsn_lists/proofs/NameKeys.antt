-- The keys of a set of names, as the list of names.
use Rattle.std.proofs.Common.{◌≡◌, ℕ, suc, ◌+◌, Bool, false, cond, List, [], ◌∷◌, ◌++◌, length, map, refl, sym, ap, ◌∙◌, position}
use Rattle.std.specs.Prelude.{◌||◌, not}
use Rattle.std.specs.Str.{bytes_eq}
use Rattle.std.specs.List.{list_any, position_or_len, prefix_len}
use Rattle.std.proofs.lemmas.List.{map-append}
use Rattle.indexmap.specs.IndexSet.{insert_key}
use Rattle.dsn_lists.specs.Names.{is_among}

pub list_any-map : {X Y : Type 0} (f : X → Y) (p : Y → Bool) (xs : List X) → list_any p (map f xs) ≡ list_any (λ x. p (f x)) xs
list_any-map f p [] = refl
list_any-map f p (x ∷ xs) = ap (λ (b : Bool). p (f x) || b) (list_any-map f p xs)

length-map : {X Y : Type 0} (f : X → Y) (xs : List X) → length (map f xs) ≡ length xs
length-map f [] = refl
length-map f (x ∷ xs) = ap suc (length-map f xs)

prefix_len-map : {X Y : Type 0} (f : X → Y) (p : Y → Bool) (xs : List X) → prefix_len p (map f xs) ≡ prefix_len (λ x. p (f x)) xs
prefix_len-map f p [] = refl
prefix_len-map f p (x ∷ xs) = ap (λ (n : ℕ). cond (p (f x)) (1 + n) 0) (prefix_len-map f p xs)

position_or_len-map : {X Y : Type 0} (f : X → Y) (p : Y → Bool) (xs : List X) → position_or_len p (map f xs) ≡ position_or_len (λ x. p (f x)) xs
position_or_len-map f p xs = prefix_len-map f (λ y. not (p y)) xs

pub position-map : {X Y : Type 0} (f : X → Y) (p : Y → Bool) (xs : List X) → position p (map f xs) ≡ position (λ x. p (f x)) xs
position-map f p xs = rw (position_or_len-map f p xs, length-map f xs) refl

pub added : {X : Type 0} (f : X → List ℕ) (ks : List X) (k : X) (name : List ℕ) (xs : List (List ℕ)) → map f ks ≡ xs → f k ≡ name → is_among name xs ≡ false
    → map f (insert_key (λ x y. bytes_eq (f x) (f y)) ks k) ≡ xs ++ name ∷ []
added f ks k name xs v n e =
    let none : list_any (λ y. bytes_eq (f k) (f y)) ks ≡ false = sym (list_any-map f (bytes_eq (f k)) ks) ∙ ap (λ (ys : List (List ℕ)). is_among (f k) ys) v ∙ ap (λ (m : List ℕ). is_among m xs) n ∙ e in
    rw none (map-append f ks (k ∷ []) ∙ ap (λ (ys : List (List ℕ)). ys ++ f k ∷ []) v ∙ ap (λ (m : List ℕ). xs ++ m ∷ []) n)
