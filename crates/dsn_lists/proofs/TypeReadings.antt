-- A word that is read as a clearance type is its name.
use Rattle.std.proofs.Common.{◌≡◌, ℕ, suc, Bool, true, false, cond, List, [], ◌∷◌, ◌++◌, take, drop, get_or, codes, position, Option, Some, None, refl, sym, ap, subst, ◌∙◌, append_assoc}
use Rattle.std.specs.Prelude.{◌==◌}
use Rattle.std.specs.Char.{to_ascii_lowercase}
use Rattle.std.proofs.lemmas.Bool.{eqb-true}
use Rattle.std.proofs.lemmas.List.{map-append, take-append-drop}
use Rattle.std.proofs.lemmas.List.Quantifiers.{position-Some}
use Rattle.std.proofs.Math.Seq.{take-suc}
use Rattle.board_rules.specs.declared.design.Kind.{Kind}
use Rattle.board_rules.specs.declared.design.Kind.TheVariants.{Wire, Via, Pin, Smd}
use Rattle.board_rules.specs.declared.design.What.{What}
use Rattle.board_rules.specs.declared.design.What.TheVariants.{DefaultSmd, Pair}
use Rattle.dsn_lists.specs.Words.{same}
use Rattle.dsn_lists.specs.Rules.{kind_of, pair_of, kinds_at, what_of}
use Rattle.dsn_lists.specs.TypeNames.{kind_name, is_named}
use Rattle.dsn_lists.proofs.TypeWords.{lower, pair_name, lower_same, same_lowers}

-- ---- what is read has its name

pub some_is : {A : Type 0} (x y : A) → Some x ≡ Some y → x ≡ y
some_is x y e = cc

kind_named : (text : List ℕ) (a : Kind) → kind_of text ≡ Some a → same text (kind_name a) ≡ true
unfolding kind_of
kind_named text a e = by (same text (codes "wire")) (same text (codes "via")) (same text (codes "pin")) (same text (codes "smd")) refl refl refl refl e
  where
    named : (k : Kind) → same text (kind_name k) ≡ true → Some k ≡ Some a → same text (kind_name a) ≡ true
    named k is e = subst (λ (x : Kind). same text (kind_name x) ≡ true) (some_is k a e) is

    by : (p q r s : Bool) → same text (codes "wire") ≡ p → same text (codes "via") ≡ q → same text (codes "pin") ≡ r → same text (codes "smd") ≡ s
        → cond p (Some Wire) (cond q (Some Via) (cond r (Some Pin) (cond s (Some Smd) None))) ≡ Some a → same text (kind_name a) ≡ true
    by true q r s h i j k e = named Wire h e
    by false true r s h i j k e = named Via i e
    by false false true s h i j k e = named Pin j e
    by false false false true h i j k e = named Smd k e
    by false false false false h i j k e = absurd cc

at_mark : (text : List ℕ) (n : ℕ) → position (λ c. c == 95) text ≡ Some n → text ≡ take n text ++ 95 ∷ drop (suc n) text
at_mark text n e =
    let p = position-Some (λ c. c == 95) text n 0 e in
    let mark = eqb-true (get_or text n 0) 95 p.1 in
    sym (take-append-drop (suc n) text)
    ∙ ap (λ (xs : List ℕ). xs ++ drop (suc n) text) (take-suc text n 0 p.0)
    ∙ append_assoc (take n text) (get_or text n 0 ∷ []) (drop (suc n) text)
    ∙ ap (λ (c : ℕ). take n text ++ c ∷ drop (suc n) text) mark

pair_lower : (a b : Kind) → lower (kind_name a) ++ 95 ∷ lower (kind_name b) ≡ lower (pair_name a b)
pair_lower Wire b = refl
pair_lower Via b = refl
pair_lower Pin b = refl
pair_lower Smd b = refl

pair_named : (text front back : List ℕ) (a b : Kind) → text ≡ front ++ 95 ∷ back → same front (kind_name a) ≡ true → same back (kind_name b) ≡ true → same text (pair_name a b) ≡ true
pair_named text front back a b parts p q =
    same_lowers text (pair_name a b) (
    ap lower parts
    ∙ map-append to_ascii_lowercase front (95 ∷ back)
    ∙ ap (λ (xs : List ℕ). xs ++ 95 ∷ lower back) (lower_same front (kind_name a) p)
    ∙ ap (λ (xs : List ℕ). lower (kind_name a) ++ 95 ∷ xs) (lower_same back (kind_name b) q)
    ∙ pair_lower a b)

kinds_named : (text front back : List ℕ) (o p : Option Kind) (w : What) → text ≡ front ++ 95 ∷ back → kind_of front ≡ o → kind_of back ≡ p → pair_of o p ≡ Some w → is_named text w ≡ true
kinds_named text front back (Some a) (Some b) w parts h k e =
    subst (λ (x : What). is_named text x ≡ true) (some_is (Pair a b) w e) (pair_named text front back a b parts (kind_named front a h) (kind_named back b k))
kinds_named text front back (Some a) None w parts h k e = absurd cc
kinds_named text front back None p w parts h k e = absurd cc

pub read_named : (text : List ℕ) (w : What) → what_of text ≡ Some w → is_named text w ≡ true
unfolding what_of
read_named text w e = by (same text (codes "default_smd")) (position (λ c. c == 95) text) refl refl e
  where
    by : (b : Bool) (o : Option ℕ) → same text (codes "default_smd") ≡ b → position (λ c. c == 95) text ≡ o → cond b (Some DefaultSmd) (kinds_at text o) ≡ Some w → is_named text w ≡ true
    by true o is at e = subst (λ (x : What). is_named text x ≡ true) (some_is DefaultSmd w e) is
    by false None is at e = absurd cc
    by false (Some n) is at e = kinds_named text (take n text) (drop (suc n) text) (kind_of (take n text)) (kind_of (drop (suc n) text)) w (at_mark text n at) refl refl e
