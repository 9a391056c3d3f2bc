-- Numbers that are taken out of an index one after another.
use Rattle.std.proofs.Common.{◌≡◌, ℕ, ◌+◌, ◌<◌, ◌≤◌, List, [], ◌∷◌, Bool, true, false, ◌&&◌, ◌||◌, arith, refl, sym, ap, ◌∙◌}
use Rattle.std.specs.Prelude.{◌==◌, not, cond, nat_le, nat_lt}
use Rattle.std.specs.List.{filter}
use Rattle.std.proofs.lemmas.Bool.{eqb-true, eqb-false, lt-ltb, le-ltb, le-leb, leb-true, ltb-true, ltb-false}
use Rattle.seg_geometry.specs.declared.near.Filed.{Filed}
use Rattle.seg_geometry.specs.Near as index
use Rattle.number_slots.specs.Slots.{is_among}
use Rattle.number_slots.proofs.ByNumber.{by_bool}
use Rattle.check_core.specs.Changes.{outside, left_below}

join : (p q : Bool) (x : Filed) (rest : List Filed) → cond q (cond p (x ∷ rest) rest) rest ≡ cond (q && p) (x ∷ rest) rest
join true true x rest = refl
join true false x rest = refl
join false true x rest = refl
join false false x rest = refl

one_more : (p q : Filed → Bool) (x : Filed) (rest : List Filed) (b : Bool) → q x ≡ b → filter p (filter q (x ∷ rest)) ≡ cond b (cond (p x) (x ∷ filter p (filter q rest)) (filter p (filter q rest))) (filter p (filter q rest))
one_more p q x rest true e = rw e refl
one_more p q x rest false e = rw e refl

-- two tests one after the other
twice : (p q : Filed → Bool) (xs : List Filed) → filter p (filter q xs) ≡ filter (λ x. q x && p x) xs
twice p q [] = refl
twice p q (x ∷ rest) =
    one_more p q x rest (q x) refl ∙ join (p x) (q x) x (filter p (filter q rest)) ∙ ap (λ (l : List Filed). cond (q x && p x) (x ∷ l) l) (twice p q rest)

pub keeps_all : (p : Filed → Bool) (xs : List Filed) → ((x : Filed) → p x ≡ true) → filter p xs ≡ xs
keeps_all p [] h = refl
keeps_all p (x ∷ rest) h = let e : p x ≡ true = h x in rw e (ap (λ (l : List Filed). x ∷ l) (keeps_all p rest h))

-- ---- numbers below a bound

apart : (a b c : Bool) → (not ((a || false) && c) && not (b && c)) ≡ not ((a || b) && c)
apart true true true = refl
apart true true false = refl
apart true false true = refl
apart true false false = refl
apart false true true = refl
apart false true false = refl
apart false false true = refl
apart false false false = refl

pub left_next : (id : ℕ) (rest : List ℕ) (bound : ℕ) (filed : List Filed) → left_below rest bound (left_below (id ∷ []) bound filed) ≡ left_below (id ∷ rest) bound filed
left_next id rest bound filed =
    twice (λ (f : Filed). not (is_among f.id rest && nat_lt f.id bound)) (λ (f : Filed). not (is_among f.id (id ∷ []) && nat_lt f.id bound)) filed
    ∙ (λ j. filter (λ (f : Filed). apart (id == f.id) (is_among f.id rest) (nat_lt f.id bound) j) filed)

pub left_none : (bound : ℕ) (filed : List Filed) → left_below [] bound filed ≡ filed
left_none bound filed = keeps_all (λ (f : Filed). not (is_among f.id [] && nat_lt f.id bound)) filed (λ f. refl)

turned : (n m : ℕ) → (n == m) ≡ (m == n)
turned n m = grind arith

bound_in : (id bound n : ℕ) → id < bound → (b : Bool) → (id == n) ≡ b → not (n == id) ≡ not ((b || false) && nat_lt n bound)
bound_in id bound n lt true e =
    let same : id ≡ n = eqb-true id n e in
    let here : (n == id) ≡ true = turned n id ∙ e in
    let low : nat_lt n bound ≡ true = lt-ltb n bound (omega (arith, same, lt)) in rw (here, low) refl
bound_in id bound n lt false e = let here : (n == id) ≡ false = turned n id ∙ e in rw here refl

-- a number below the bound goes
pub one_left : (id bound : ℕ) (filed : List Filed) → id < bound → index.without id filed ≡ left_below (id ∷ []) bound filed
one_left id bound filed lt = λ j. filter (λ (f : Filed). bound_in id bound f.id lt (id == f.id) refl j) filed

bound_out : (id bound n : ℕ) → bound ≤ id → (b : Bool) → (id == n) ≡ b → not ((b || false) && nat_lt n bound) ≡ true
bound_out id bound n le true e =
    let same : id ≡ n = eqb-true id n e in
    let high : nat_lt n bound ≡ false = le-ltb n bound (omega (arith, same, le)) in rw high refl
bound_out id bound n le false e = refl

-- any other stays
pub none_left : (id bound : ℕ) (filed : List Filed) → bound ≤ id → filed ≡ left_below (id ∷ []) bound filed
none_left id bound filed le = sym (keeps_all (λ (f : Filed). not (is_among f.id (id ∷ []) && nat_lt f.id bound)) filed (λ f. bound_out id bound f.id le (id == f.id) refl))

-- ---- numbers of a range

range_out : (first last n : ℕ) → last ≤ first → (nat_le first n && nat_lt n last) ≡ false
range_out first last n le =
    by_bool (nat_le first n) ((nat_le first n && nat_lt n last) ≡ false)
    (λ t. let low : first ≤ n = leb-true first n t in let high : nat_lt n last ≡ false = le-ltb n last (omega (arith, low, le)) in rw (t, high) refl)
    (λ f. rw f refl)

pub outside_none : (first last : ℕ) (filed : List Filed) → last ≤ first → filed ≡ outside first last filed
outside_none first last filed le = sym (keeps_all (λ (f : Filed). not (nat_le first f.id && nat_lt f.id last)) filed (λ f. let e = range_out first last f.id le in rw e refl))

range_at : (first last n : ℕ) → first ≤ last → (b c d : Bool) → nat_le first n ≡ b → nat_lt n last ≡ c → (n == last) ≡ d → (not (b && c) && not d) ≡ not (nat_le first n && nat_lt n (last + 1))
range_at first last n le b c true e f g =
    let same : n ≡ last = eqb-true n last g in
    let low : nat_le first n ≡ true = le-leb first n (omega (arith, same, le)) in
    let high : nat_lt n (last + 1) ≡ true = lt-ltb n (last + 1) (omega (arith, same)) in
    rw (low, high) (end (not (b && c)))
  where
    end : (x : Bool) → (x && false) ≡ false
    end true = refl
    end false = refl
range_at first last n le b true false e f g =
    let lt : n < last = ltb-true n last f in
    let high : nat_lt n (last + 1) ≡ true = lt-ltb n (last + 1) (omega (arith, lt)) in rw (e, high) (end b)
  where
    end : (x : Bool) → (not (x && true) && true) ≡ not (x && true)
    end true = refl
    end false = refl
range_at first last n le b false false e f g =
    let past : last ≤ n = ltb-false n last f in
    let other : n ≡ last → ⊥ = eqb-false n last g in
    let high : nat_lt n (last + 1) ≡ false = le-ltb n (last + 1) (grind (arith, past, other)) in rw (e, high) (end b)
  where
    end : (x : Bool) → (not (x && false) && true) ≡ not (x && false)
    end true = refl
    end false = refl

-- one more number goes
pub outside_more : (first last : ℕ) (filed : List Filed) → first ≤ last → index.without last (outside first last filed) ≡ outside first (last + 1) filed
outside_more first last filed le =
    twice (λ (f : Filed). not (f.id == last)) (λ (f : Filed). not (nat_le first f.id && nat_lt f.id last)) filed
    ∙ (λ j. filter (λ (f : Filed). range_at first last f.id le (nat_le first f.id) (nat_lt f.id last) (f.id == last) refl refl refl j) filed)
