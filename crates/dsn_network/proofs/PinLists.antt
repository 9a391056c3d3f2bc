-- References name pins of no other net exactly where they name pins, each in one net, and the nets are those of the pins
-- that they name, each once.
use Rattle.std.proofs.Common.{◌≡◌, ℕ, Bool, true, false, cond, List, [], ◌∷◌, ◌++◌, Option, None, Some, refl, sym, ap, subst, ◌∙◌, inl, inr, append_assoc, ◌↔◌}
use Rattle.std.proofs.lemmas.List.{append-nil}
use Rattle.std.specs.Prelude.{is_some, not, ◌&&◌, ◌||◌, filter}
use Rattle.dsn_library.specs.declared.library.Library.{Library}
use Rattle.dsn_placement.specs.declared.placement.Placement.{Placement}
use Rattle.dsn_network.specs.References.{same_pin, net_at, pin_of}
use Rattle.dsn_network.specs.NamedPins.{IsInNet, NamePins, each_first, ArePins}
use Rattle.dsn_network.proofs.PinSplits.{pin_found, pin_again}
use Rattle.dsn_network.proofs.PinPuts.{same_is, same_self, net_kept, net_behind, put_pin, put_one, put, put_back, named_back, in_head, in_tail, IsFreePin, IsFreeNamed, AreFree, free_has}

-- ---- pins one by one

-- the nets with these pins behind them, each once
abbrev put_all : List ((ℕ × ℕ) × ℕ) → List ((ℕ × ℕ) × ℕ) → List ((ℕ × ℕ) × ℕ)
put_all pins [] = pins
put_all pins (x ∷ named) = put_all (put_pin pins x.0 x.1 (net_at pins x.0)) named

put_is : (p : Placement) (l : Library) (rs : List (List ℕ × ℕ)) (named pins : List ((ℕ × ℕ) × ℕ)) → NamePins p l rs named → put p l pins rs ≡ put_all pins named
put_is p l [] named pins h = ap (λ (xs : List ((ℕ × ℕ) × ℕ)). put_all pins xs) (sym h)
put_is p l (r ∷ rs) [] pins h = absurd h
put_is p l (r ∷ rs) (x ∷ named) pins h =
    rw (pin_again p l r.0 x.0 h.0) (ap (λ (n : ℕ). put p l (put_pin pins x.0 n (net_at pins x.0)) rs) (sym h.1) ∙ put_is p l rs named (put_pin pins x.0 x.1 (net_at pins x.0)) h.2)

-- ---- each once

filter_step : {A : Type 0} (f : A → Bool) (b : Bool) (x : A) (xs ys : List A) → filter f xs ≡ ys → filter f (cond b (x ∷ xs) xs) ≡ cond (b && f x) (x ∷ ys) ys
filter_step {A = A} f true x xs ys e = ap (λ (zs : List A). cond (f x) (x ∷ zs) zs) e
filter_step f false x xs ys e = e

filter_both : {A : Type 0} (f g h : A → Bool) → ((y : A) → h y ≡ (g y && f y)) → (xs : List A) → filter f (filter g xs) ≡ filter h xs
filter_both f g h same [] = refl
filter_both {A = A} f g h same (x ∷ xs) =
    filter_step f (g x) x (filter g xs) (filter h xs) (filter_both f g h same xs) ∙ ap (λ (b : Bool). cond b (x ∷ filter h xs) (filter h xs)) (sym (same x))

-- the pin has a net
abbrev has : List ((ℕ × ℕ) × ℕ) → ℕ × ℕ → Bool
has pins q = is_some (net_at pins q)

-- of these pins those that have no net
abbrev others : List ((ℕ × ℕ) × ℕ) → List ((ℕ × ℕ) × ℕ) → List ((ℕ × ℕ) × ℕ)
others pins xs = filter (λ (y : (ℕ × ℕ) × ℕ). not (has pins y.0)) xs

same_turned : (a b : ℕ × ℕ) → same_pin a b ≡ same_pin b a
same_turned a b = by (same_pin a b) (same_pin b a) refl refl
  where
    by : (x y : Bool) → same_pin a b ≡ x → same_pin b a ≡ y → x ≡ y
    by true true e f = refl
    by false false e f = refl
    by true false e f = let k = ap (λ (c : ℕ × ℕ). same_pin b c) (same_is a b e) ∙ same_self b in absurd cc
    by false true e f = let k = ap (λ (c : ℕ × ℕ). same_pin a c) (same_is b a f) ∙ same_self a in absurd cc

has_pushed : (pins : List ((ℕ × ℕ) × ℕ)) (x : (ℕ × ℕ) × ℕ) (q : ℕ × ℕ) → has (pins ++ x ∷ []) q ≡ (has pins q || same_pin x.0 q)
has_pushed pins x q = by (net_at pins q) refl
  where
    one : (b : Bool) → is_some (cond b (Some x.1) None) ≡ b
    one true = refl
    one false = refl

    by : (o : Option ℕ) → net_at pins q ≡ o → has (pins ++ x ∷ []) q ≡ (is_some o || same_pin x.0 q)
    by (Some k) e = ap (λ (o : Option ℕ). is_some o) (net_kept pins (x ∷ []) q k e)
    by None e = ap (λ (o : Option ℕ). is_some o) (net_behind pins (x ∷ []) q e) ∙ one (same_pin q x.0) ∙ same_turned q x.0

not_or : (a b : Bool) → not (a || b) ≡ (not b && not a)
not_or true true = refl
not_or true false = refl
not_or false true = refl
not_or false false = refl

-- behind a pin that has its net, those that are left are others than it
others_new : (pins : List ((ℕ × ℕ) × ℕ)) (x : (ℕ × ℕ) × ℕ) (xs : List ((ℕ × ℕ) × ℕ)) → others pins (filter (λ (y : (ℕ × ℕ) × ℕ). not (same_pin x.0 y.0)) xs) ≡ others (pins ++ x ∷ []) xs
others_new pins x xs =
    filter_both (λ (y : (ℕ × ℕ) × ℕ). not (has pins y.0)) (λ (y : (ℕ × ℕ) × ℕ). not (same_pin x.0 y.0)) (λ (y : (ℕ × ℕ) × ℕ). not (has (pins ++ x ∷ []) y.0))
    (λ y. ap (λ (b : Bool). not b) (has_pushed pins x y.0) ∙ not_or (has pins y.0) (same_pin x.0 y.0)) xs

old_test : (pins : List ((ℕ × ℕ) × ℕ)) (x y : (ℕ × ℕ) × ℕ) → has pins x.0 ≡ true → not (has pins y.0) ≡ (not (same_pin x.0 y.0) && not (has pins y.0))
old_test pins x y h = by (same_pin x.0 y.0) refl
  where
    by : (b : Bool) → same_pin x.0 y.0 ≡ b → not (has pins y.0) ≡ (not b && not (has pins y.0))
    by true e = ap (λ (q : ℕ × ℕ). not (has pins q)) (sym (same_is x.0 y.0 e)) ∙ ap (λ (b : Bool). not b) h
    by false e = refl

others_old : (pins : List ((ℕ × ℕ) × ℕ)) (x : (ℕ × ℕ) × ℕ) (xs : List ((ℕ × ℕ) × ℕ)) → has pins x.0 ≡ true → others pins (filter (λ (y : (ℕ × ℕ) × ℕ). not (same_pin x.0 y.0)) xs) ≡ others pins xs
others_old pins x xs h =
    filter_both (λ (y : (ℕ × ℕ) × ℕ). not (has pins y.0)) (λ (y : (ℕ × ℕ) × ℕ). not (same_pin x.0 y.0)) (λ (y : (ℕ × ℕ) × ℕ). not (has pins y.0)) (λ y. old_test pins x y h) xs

-- the nets behind pins are those before, and the others
abbrev IsWhole : List ((ℕ × ℕ) × ℕ) → Type 0
IsWhole named = (pins : List ((ℕ × ℕ) × ℕ)) → put_all pins named ≡ pins ++ others pins (each_first named)

all_step : (named : List ((ℕ × ℕ) × ℕ)) → IsWhole named → (pins : List ((ℕ × ℕ) × ℕ)) (x : (ℕ × ℕ) × ℕ) (o : Option ℕ) → net_at pins x.0 ≡ o
    → put_all (put_pin pins x.0 x.1 o) named ≡ pins ++ others pins (each_first (x ∷ named))
all_step named later pins x None e =
    let none : has pins x.0 ≡ false = ap (λ (o : Option ℕ). is_some o) e in
    later (pins ++ x ∷ []) ∙ append_assoc pins (x ∷ []) (others (pins ++ x ∷ []) (each_first named))
    ∙ rw none (ap (λ (xs : List ((ℕ × ℕ) × ℕ)). pins ++ x ∷ xs) (sym (others_new pins x (each_first named))))
all_step named later pins x (Some k) e =
    let some : has pins x.0 ≡ true = ap (λ (o : Option ℕ). is_some o) e in
    later pins ∙ rw some (ap (λ (xs : List ((ℕ × ℕ) × ℕ)). pins ++ xs) (sym (others_old pins x (each_first named) some)))

all_is : (named : List ((ℕ × ℕ) × ℕ)) → IsWhole named
all_is [] = λ pins. sym (append-nil pins)
all_is (x ∷ named) = λ pins. all_step named (all_is named) pins x (net_at pins x.0) refl

others_none : (xs : List ((ℕ × ℕ) × ℕ)) → others [] xs ≡ xs
others_none [] = refl
others_none (x ∷ xs) = ap (λ (ys : List ((ℕ × ℕ) × ℕ)). x ∷ ys) (others_none xs)

first_is : (p : Placement) (l : Library) (rs : List (List ℕ × ℕ)) (named : List ((ℕ × ℕ) × ℕ)) → NamePins p l rs named → put p l [] rs ≡ each_first named
first_is p l rs named h = put_is p l rs named [] h ∙ all_is named [] ∙ others_none (each_first named)

-- ---- references that name pins, each in one net

-- the pin that is named, where one is
abbrev pin_or : ℕ × ℕ → Option (ℕ × ℕ) → ℕ × ℕ
pin_or q None = q
pin_or q (Some r) = r

free_pin : (pins : List ((ℕ × ℕ) × ℕ)) (net : ℕ) (o : Option (ℕ × ℕ)) → IsFreeNamed pins net o → o ≡ Some (pin_or (0, 0) o)
free_pin pins net None h = absurd h
free_pin pins net (Some q) h = refl

free_named : (p : Placement) (l : Library) (rs : List (List ℕ × ℕ)) (pins : List ((ℕ × ℕ) × ℕ)) → AreFree p l pins rs → (named : List ((ℕ × ℕ) × ℕ)) × NamePins p l rs named
free_named p l [] pins h = ([], refl)
free_named p l (r ∷ rs) pins h =
    let others = free_named p l rs (put_one p l pins r) h.1 in
    let pin = free_pin pins r.1 (pin_of p l r.0) h.0 in
    ((pin_or (0, 0) (pin_of p l r.0), r.1) ∷ others.0, (pin_found p l r.0 (pin_or (0, 0) (pin_of p l r.0)) pin, refl, others.1))

some_is : (j k : ℕ) → Some j ≡ Some k → j ≡ k
some_is j k e = cc

pub pins_found : (p : Placement) (l : Library) (rs : List (List ℕ × ℕ)) → AreFree p l [] rs → ArePins p l rs (put p l [] rs)
pins_found p l rs h =
    let named = free_named p l rs [] h in
    record {
      named = named.0;
      name = named.1;
      agree = λ pin net other a b. some_is net other (sym (free_has p l rs [] pin net h a) ∙ free_has p l rs [] pin other h b);
      once = first_is p l rs named.0 named.1;
    }

-- no pin is in two nets
abbrev Agree : Placement → Library → List (List ℕ × ℕ) → Type 0
Agree p l rs = (pin : ℕ × ℕ) (net other : ℕ) → IsInNet p l rs pin net → IsInNet p l rs pin other → net ≡ other

-- the references name no pin that has another net
abbrev Fits : Placement → Library → List ((ℕ × ℕ) × ℕ) → List (List ℕ × ℕ) → Type 0
Fits p l pins rs = (pin : ℕ × ℕ) (k net : ℕ) → net_at pins pin ≡ Some k → IsInNet p l rs pin net → k ≡ net

free_here : (pins : List ((ℕ × ℕ) × ℕ)) (q : ℕ × ℕ) (net : ℕ) (o : Option ℕ) → net_at pins q ≡ o → ((k : ℕ) → net_at pins q ≡ Some k → k ≡ net) → IsFreePin net o
free_here pins q net None e h = tt
free_here pins q net (Some k) e h = h k e

fits_next : (p : Placement) (l : Library) (r : List ℕ × ℕ) (rs : List (List ℕ × ℕ)) (pins : List ((ℕ × ℕ) × ℕ)) → Fits p l pins (r ∷ rs) → Agree p l (r ∷ rs) → Fits p l (put_one p l pins r) rs
fits_next p l r rs pins fits agree pin k net e i =
    elim (named_back pins pin r.1 k (pin_of p l r.0) e) [
      | inl old ↦ fits pin k net old (in_tail p l r rs pin net i)
      | inr new ↦ sym new.1 ∙ agree pin r.1 net (in_head p l r rs pin new.0) (in_tail p l r rs pin net i)
    ]

free_from : (p : Placement) (l : Library) (rs : List (List ℕ × ℕ)) (named pins : List ((ℕ × ℕ) × ℕ)) → NamePins p l rs named → Fits p l pins rs → Agree p l rs → AreFree p l pins rs
free_from p l [] named pins h fits agree = tt
free_from p l (r ∷ rs) [] pins h fits agree = absurd h
free_from p l (r ∷ rs) (x ∷ named) pins h fits agree =
    let pin = pin_again p l r.0 x.0 h.0 in
    let here = free_here pins x.0 r.1 (net_at pins x.0) refl (λ k e. fits x.0 k r.1 e (in_head p l r rs x.0 pin)) in (
      subst (λ (o : Option (ℕ × ℕ)). IsFreeNamed pins r.1 o) (sym pin) here,
      free_from p l rs named (put_one p l pins r) h.2 (fits_next p l r rs pins fits agree) (λ q net other a b. agree q net other (in_tail p l r rs q net a) (in_tail p l r rs q other b)),
    )

pub no_net : (q : ℕ × ℕ) (k : ℕ) → net_at [] q ≡ Some k → ⊥
no_net q k e = absurd cc

pub pins_free : (p : Placement) (l : Library) (rs : List (List ℕ × ℕ)) (pins : List ((ℕ × ℕ) × ℕ)) → ArePins p l rs pins → AreFree p l [] rs
pins_free p l rs pins h = free_from p l rs h.named [] h.name (λ pin k net e i. absurd (no_net pin k e)) h.agree

pub pins_are : (p : Placement) (l : Library) (rs : List (List ℕ × ℕ)) (pins : List ((ℕ × ℕ) × ℕ)) → ArePins p l rs pins → put p l [] rs ≡ pins
pins_are p l rs pins h = first_is p l rs h.named h.name ∙ sym h.once

-- a pin has a net exactly where a reference of that net names it
pub net_is : (p : Placement) (l : Library) (rs : List (List ℕ × ℕ)) (pins : List ((ℕ × ℕ) × ℕ)) (pin : ℕ × ℕ) (net : ℕ) → ArePins p l rs pins → (net_at pins pin ≡ Some net) ↔ IsInNet p l rs pin net
net_is p l rs pins pin net h = (
  λ e. elim (put_back p l rs [] pin net (ap (λ (xs : List ((ℕ × ℕ) × ℕ)). net_at xs pin) (pins_are p l rs pins h) ∙ e)) [
    | inl none ↦ absurd (no_net pin net none)
    | inr some ↦ some
  ],
  λ i. ap (λ (xs : List ((ℕ × ℕ) × ℕ)). net_at xs pin) (sym (pins_are p l rs pins h)) ∙ free_has p l rs [] pin net (pins_free p l rs pins h) i,
)
