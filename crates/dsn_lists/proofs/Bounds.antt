-- What reading gives is within the limits.
use Rattle.std.proofs.Common.{◌≡◌, ℕ, ℤ, pos, negsuc, ◌≤◌, ◌<◌, Bool, true, false, List, [], ◌∷◌, ◌++◌, length, Option, Some, None, Result, Ok, Err, IfOk, refl, ap, subst, arith}
use Rattle.std.specs.Prelude.{MatchResult, MatchOption, IfSome, if◌then◌else◌, ⊤, unsigned_abs, int_lt, nat_lt, is_some, ◌||◌, codes}
use Rattle.std.specs.List.{AllByRecursion}
use Rattle.std.specs.Str.{bytes_eq}
use Rattle.std.proofs.lemmas.List.Quantifiers.{position-Some}
use Rattle.sexp_text.specs.Forest.{Forest, End, Word, Branch}
use Rattle.sexp_text.specs.declared.units.Unit.{Unit as LengthUnit}
use Rattle.sexp_text.specs.declared.num_fault.NumFault.{NumFault}
use Rattle.sexp_text.specs.declared.num_fault.NumFault.TheVariants as num
use Rattle.sexp_text.specs.LengthReading.{length_in}
use Rattle.sexp_text.proofs.LengthLaws.{ok_bound}
use Rattle.seg_geometry.specs.declared.points.Pt.{Pt}
use Rattle.seg_geometry.specs.Points.{IsInRange}
use Rattle.board_rules.specs.declared.design.What.{What}
use Rattle.board_rules.specs.declared.design.Stated.{Stated}
use Rattle.dsn_lists.specs.declared.faults.DesignFault.{DesignFault}
use Rattle.dsn_lists.specs.declared.faults.DesignKind.{DesignKind}
use Rattle.dsn_lists.specs.declared.faults.DesignKind.TheVariants as kind
use Rattle.dsn_lists.specs.declared.marks.Mark.{Mark}
use Rattle.dsn_lists.specs.declared.places.Coordinates.{Coordinates}
use Rattle.dsn_lists.specs.declared.shapes.Path.{Path}
use Rattle.dsn_lists.specs.declared.shapes.Circle.{Circle}
use Rattle.dsn_lists.specs.declared.rules.Rule.{Rule}
use Rattle.dsn_lists.specs.declared.rules.Typed.{Typed}
use Rattle.dsn_lists.specs.declared.rules.RuleWord.{RuleWord}
use Rattle.dsn_lists.specs.declared.rules.RuleWord.TheVariants as rules
use Rattle.dsn_lists.specs.Results.{Read, wrong, ◌>>=◌, each}
use Rattle.dsn_lists.specs.Words.{same, mark, head_of, word_of, spare}
use Rattle.dsn_lists.specs.Names.{place_of}
use Rattle.dsn_lists.specs.Layers.{is_every, one_of, one_layer, some_of, some_layer}
use Rattle.dsn_lists.specs.Numbers.{length_told, length_word, as_width, width_word}
use Rattle.dsn_lists.specs.Places.{point, put, with_one, no_coordinates, coordinates}
use Rattle.dsn_lists.specs.Shapes.{trail, as_path, path_of, point_of, centre_of, circle_of}
use Rattle.dsn_lists.specs.Rules.{what_of, stating, stated_for, type_list, clearance_item, untyped_unless, clearance_list, width_list, rule_word, rule_list, rule_item, rule_of, no_rule}
use Rattle.dsn_lists.specs.Limits.{AreFitStated, IsFitRule}
use Rattle.dsn_lists.proofs.Ranges.{AreInRange, IsFitPath, IsFitCircle}

-- ---- readings that give a value

-- a value
abbrev pub right : {A : Type 0} → A → Read A
right x = Ok x

pub ok_is : {A : Type 0} {x y : A} → right x ≡ Ok y → x ≡ y
ok_is {A} {x} e = subst (λ (r : Read A). IfOk r (λ a. x ≡ a)) e refl

pub err_gives : {A : Type 0} {d : DesignFault} {y : A} → Err d ≡ Ok y → ⊥
err_gives {A} e = subst (λ (r : Read A). MatchResult r (λ _. ⊥) (λ _. ⊤)) e tt

pub bind_ok : {A B : Type 0} (r : Read A) (f : A → Read B) (y : B) → (r >>= f) ≡ Ok y → (a : A) × (r ≡ Ok a) × (f a ≡ Ok y)
bind_ok (Ok x) f y e = (x, refl, e)
bind_ok (Err d) f y e = absurd (err_gives e)

-- of an `if` that is wrong on one side

pub then_ok : {A : Type 0} (b : Bool) (r : Read A) (k : DesignKind) (at : ℕ) (y : A) → (if b then r else wrong k at) ≡ Ok y → (b ≡ true) × (r ≡ Ok y)
then_ok true r k at y e = (refl, e)
then_ok false r k at y e = absurd (err_gives e)

pub else_ok : {A : Type 0} (b : Bool) (r : Read A) (k : DesignKind) (at : ℕ) (y : A) → (if b then wrong k at else r) ≡ Ok y → (b ≡ false) × (r ≡ Ok y)
else_ok true r k at y e = absurd (err_gives e)
else_ok false r k at y e = (refl, e)

-- what each list keeps, all lists keep
pub each_keeps : {A : Type 0} (P : A → Type 0) (step : A → ℕ → Forest → Read A) → ((x : A) (at : ℕ) (inside : Forest) (y : A) → P x → step x at inside ≡ Ok y → P y)
    → (x : A) (f : Forest) (y : A) → P x → each step x f ≡ Ok y → P y
unfolding each
each_keeps P step keeps x End y p e = subst P (ok_is e) p
each_keeps P step keeps x (Word at text rest) y p e = absurd (err_gives e)
each_keeps P step keeps x (Branch at inside rest) y p e =
    let s = bind_ok (step x at inside) _ y e in
    each_keeps P step keeps s.0 rest y (keeps x at inside s.0 p s.1) s.2

pub all_append : {X : Type 0} (P : X → Type 0) (xs ys : List X) → AllByRecursion P xs → AllByRecursion P ys → AllByRecursion P (xs ++ ys)
all_append P [] ys p q = q
all_append P (x ∷ xs) ys p q = (p.0, all_append P xs ys p.1 q)

pub all_push : {X : Type 0} (P : X → Type 0) (xs : List X) (y : X) → AllByRecursion P xs → P y → AllByRecursion P (xs ++ y ∷ [])
all_push P xs y p q = all_append P xs (y ∷ []) p (q, tt)

-- ---- lengths

told_ok : (at : ℕ) (r : Result ℤ NumFault) (z : ℤ) → length_told at r ≡ Ok z → r ≡ Ok z
told_ok at (Ok x) z e = ap (λ (n : ℤ). Ok n) (ok_is e)
told_ok at (Err num.NotNumber) z e = absurd (err_gives e)
told_ok at (Err num.Range) z e = absurd (err_gives e)

pub length_word_bound : (u : LengthUnit) (w : Mark) (z : ℤ) → length_word u w ≡ Ok z → unsigned_abs z ≤ 1000000000
length_word_bound u w z e = ok_bound u w.name z (told_ok w.at (length_in u w.name) z e)

as_width_bound : (at : ℕ) (z : ℤ) (n : ℕ) → as_width at z ≡ Ok n → n ≤ 100000000
unfolding as_width
as_width_bound at (pos m) n e =
    let s = else_ok (int_lt (pos m) (pos 0) || int_lt (pos 100000000) (pos m)) (Ok m) kind.Width at n e in
    let same = ok_is s.1 in
    grind (arith, s.0, same)
as_width_bound at (negsuc m) n e = absurd (err_gives e)

pub width_word_bound : (u : LengthUnit) (w : Mark) (n : ℕ) → width_word u w ≡ Ok n → n ≤ 100000000
unfolding width_word
width_word_bound u w n e = let s = bind_ok (length_word u w) _ n e in as_width_bound w.at s.0 n s.2

-- ---- points

fit_put : (ps : List Pt) (o : Option ℤ) (z : ℤ) → AllByRecursion IsInRange ps → IfSome o (λ x. unsigned_abs x ≤ 1000000000) → unsigned_abs z ≤ 1000000000 → AreInRange (put ps o z)
fit_put ps None z p h k = record { points = p; half = k }
fit_put ps (Some x) z p h k = record { points = all_push IsInRange ps (point x z) p (record { x = h; y = k }); half = tt }

pub coordinates_bound : (u : LengthUnit) (c : Coordinates) (f : Forest) (y : Coordinates × Forest) → AreInRange c → coordinates u c f ≡ Ok y → AreInRange y.0
unfolding coordinates
coordinates_bound u c End y p e = subst (λ (x : Coordinates × Forest). AreInRange x.0) (ok_is e) p
coordinates_bound u c (Word at text rest) y p e =
    let s = bind_ok (length_word u (mark at text)) _ y e in
    coordinates_bound u (with_one c s.0) rest y (fit_put c.points c.half s.0 p.points p.half (length_word_bound u (mark at text) s.0 s.1)) s.2
coordinates_bound u c (Branch at inside rest) y p e = subst (λ (x : Coordinates × Forest). AreInRange x.0) (ok_is e) p

pub no_coordinates_fit : AreInRange no_coordinates
no_coordinates_fit = record { points = tt; half = tt }

as_path_bound : (at width : ℕ) (c : Coordinates) (p : Path) → width ≤ 100000000 → AreInRange c → as_path at width c ≡ Ok p → IsFitPath p
unfolding as_path
as_path_bound at width c p w fit e =
    let s = else_ok (is_some c.half || nat_lt (length c.points) 2) _ _ _ p e in
    let own : IsFitPath (record { width = width; points = c.points }) = record { width = w; points = fit.points; count = grind (arith, s.0) } in
    subst IsFitPath (ok_is s.1) own

pub path_of_bound : (u : LengthUnit) (at : ℕ) (f : Forest) (p : Path) → path_of u at f ≡ Ok p → IsFitPath p
unfolding path_of
path_of_bound u at f p e =
    let a = bind_ok (word_of at f) _ p e in
    let b = bind_ok (width_word u a.0.0) _ p a.2 in
    let c = bind_ok (coordinates u no_coordinates a.0.1) _ p b.2 in
    let d = bind_ok (trail c.0.1) _ p c.2 in
    as_path_bound at b.0 c.0.0 p (width_word_bound u a.0.0 b.0 b.1) (coordinates_bound u no_coordinates a.0.1 c.0 no_coordinates_fit c.1) d.2

point_of_bound : (u : LengthUnit) (at : ℕ) (w : Mark) (f : Forest) (y : Pt × Forest) → point_of u at w f ≡ Ok y → IsInRange y.0
unfolding point_of
point_of_bound u at w f y e =
    let a = bind_ok (length_word u w) _ y e in
    let b = bind_ok (word_of at f) _ y a.2 in
    let c = bind_ok (length_word u b.0.0) _ y b.2 in
    let own : IsInRange (point a.0 c.0) = record { x = length_word_bound u w a.0 a.1; y = length_word_bound u b.0.0 c.0 c.1 } in
    subst (λ (x : Pt × Forest). IsInRange x.0) (ok_is c.2) own

origin_in_range : IsInRange (point (pos 0) (pos 0))
origin_in_range = record { x = omega arith; y = omega arith }

centre_of_bound : (u : LengthUnit) (at : ℕ) (f : Forest) (y : Pt × Forest) → centre_of u at f ≡ Ok y → IsInRange y.0
unfolding centre_of
centre_of_bound u at End y e = subst (λ (x : Pt × Forest). IsInRange x.0) (ok_is e) origin_in_range
centre_of_bound u at (Word a text rest) y e = point_of_bound u at (mark a text) rest y e
centre_of_bound u at (Branch a inside rest) y e = subst (λ (x : Pt × Forest). IsInRange x.0) (ok_is e) origin_in_range

pub circle_of_bound : (u : LengthUnit) (at : ℕ) (f : Forest) (y : Circle) → circle_of u at f ≡ Ok y → IsFitCircle y
unfolding circle_of
circle_of_bound u at f y e =
    let a = bind_ok (word_of at f) _ y e in
    let b = bind_ok (width_word u a.0.0) _ y a.2 in
    let c = bind_ok (centre_of u at a.0.1) _ y b.2 in
    let d = bind_ok (trail c.0.1) _ y c.2 in
    let own : IsFitCircle (record { width = b.0; centre = c.0.0 }) = record { width = width_word_bound u a.0.0 b.0 b.1; centre = centre_of_bound u at a.0.1 c.0 c.1 } in
    subst IsFitCircle (ok_is d.2) own

-- ---- layers and names

pub some_is : {A : Type 0} {x y : A} → Some x ≡ Some y → x ≡ y
some_is {A} {x} e = subst (λ (o : Option A). IfSome o (λ a. x ≡ a)) e refl

pub none_gives : {A : Type 0} {y : A} → None ≡ Some y → ⊥
none_gives {A} e = subst (λ (o : Option A). MatchOption o ⊤ (λ _. ⊥)) e tt

-- a name's number is below the count of names
pub place_bound : (names : List (List ℕ)) (name : List ℕ) (n : ℕ) → place_of names name ≡ Some n → n < length names
place_bound names name n e = (position-Some (bytes_eq name) names n [] e).0

one_is : (at n : ℕ) (o : Option ℕ) → one_of at o ≡ Ok n → o ≡ Some n
one_is at n (Some m) e = ap (λ (k : ℕ). Some k) (ok_is e)
one_is at n None e = absurd (err_gives e)

pub one_layer_bound : (layers : List (List ℕ)) (w : Mark) (n : ℕ) → one_layer layers w ≡ Ok n → n < length layers
unfolding one_layer
one_layer_bound layers w n e = place_bound layers w.name n (one_is w.at n (place_of layers w.name) e)

some_layer_is : (w : Mark) (n : ℕ) (o : Option ℕ) → some_of w o ≡ Ok (Some n) → o ≡ Some n
some_layer_is w n (Some m) e = ok_is e
some_layer_is w n None e = absurd (none_gives (ok_is (then_ok (is_every w.name) (Ok None) _ _ (Some n) e).1))

pub some_layer_bound : (layers : List (List ℕ)) (w : Mark) (n : ℕ) → some_layer layers w ≡ Ok (Some n) → n < length layers
unfolding some_layer
some_layer_bound layers w n e = place_bound layers w.name n (some_layer_is w n (place_of layers w.name) e)

-- ---- rules

abbrev IsFitStated : Stated → Type 0
IsFitStated s = s.value ≤ 100000000

fit_stating : (ss : List Stated) (value : ℕ) (o : Option What) → AreFitStated ss → value ≤ 100000000 → AreFitStated (stating ss value o)
fit_stating ss value None p v = p
fit_stating ss value (Some what) p v = all_push IsFitStated ss (record { what = what; value = value }) p v

fit_stated_for : (ss : List Stated) (value : ℕ) (f : Forest) → AreFitStated ss → value ≤ 100000000 → AreFitStated (stated_for ss value f).0
unfolding stated_for
fit_stated_for ss value End p v = p
fit_stated_for ss value (Word at text rest) p v = fit_stated_for (stating ss value (what_of text)) value rest (fit_stating ss value (what_of text) p v) v
fit_stated_for ss value (Branch at inside rest) p v = p

fit_type_list : (ss : List Stated) (value at : ℕ) (f : Forest) (y : List Stated) → AreFitStated ss → value ≤ 100000000 → type_list ss value at f ≡ Ok y → AreFitStated y
unfolding type_list
fit_type_list ss value at f y p v e =
    let a = bind_ok (word_of at f) _ y e in
    let b = bind_ok (spare (stated_for (stating ss value (what_of a.0.0.name)) value a.0.1).1) _ y a.2 in
    subst AreFitStated (ok_is b.2) (fit_stated_for (stating ss value (what_of a.0.0.name)) value a.0.1 (fit_stating ss value (what_of a.0.0.name) p v) v)

-- what an `if` gives
pub if_ok : {A : Type 0} (P : A → Type 0) (b : Bool) (r s : Read A) (y : A) → (r ≡ Ok y → P y) → (s ≡ Ok y → P y) → (if b then r else s) ≡ Ok y → P y
if_ok P true r s y f g e = f e
if_ok P false r s y f g e = g e

abbrev IsFitTyped : Typed → Type 0
IsFitTyped t = AreFitStated t.stated

fit_type : (value : ℕ) (t : Typed) (at : ℕ) (inside : Forest) (y : Typed) → value ≤ 100000000 → AreFitStated t.stated
    → (type_list t.stated value at inside >>= λ ss. Ok (record { typed = true; stated = ss })) ≡ Ok y → AreFitStated y.stated
fit_type value t at inside y v p e =
    let a = bind_ok (type_list t.stated value at inside) _ y e in
    subst IsFitTyped (ok_is a.2) (fit_type_list t.stated value at inside a.0 p v a.1)

fit_clearance_item : (value : ℕ) → value ≤ 100000000 → (t : Typed) (at : ℕ) (inside : Forest) (y : Typed) → AreFitStated t.stated → clearance_item value t at inside ≡ Ok y → AreFitStated y.stated
unfolding clearance_item
fit_clearance_item value v t at inside y p e =
    if_ok IsFitTyped (same (head_of inside).text (codes "type")) _ _ y (fit_type value t at (head_of inside).args y v p) (λ s. subst IsFitTyped (ok_is s) p) e

fit_untyped : (b : Bool) (ss : List Stated) (value : ℕ) → AreFitStated ss → value ≤ 100000000 → AreFitStated (untyped_unless b ss value)
fit_untyped true ss value p v = p
fit_untyped false ss value p v = all_push IsFitStated ss _ p v

pub clearance_list_bound : (u : LengthUnit) (ss : List Stated) (at : ℕ) (f : Forest) (y : List Stated) → AreFitStated ss → clearance_list u ss at f ≡ Ok y → AreFitStated y
unfolding clearance_list
clearance_list_bound u ss at f y p e =
    let a = bind_ok (word_of at f) _ y e in
    let b = bind_ok (width_word u a.0.0) _ y a.2 in
    let c = bind_ok (each (clearance_item b.0) (record { typed = false; stated = ss }) a.0.1) _ y b.2 in
    let v = width_word_bound u a.0.0 b.0 b.1 in
    let own = each_keeps IsFitTyped (clearance_item b.0) (fit_clearance_item b.0 v) _ a.0.1 c.0 p c.1 in
    subst AreFitStated (ok_is {x = untyped_unless c.0.typed c.0.stated b.0} c.2) (fit_untyped c.0.typed c.0.stated b.0 own v)

pub width_list_bound : (u : LengthUnit) (at : ℕ) (f : Forest) (y : ℕ) → width_list u at f ≡ Ok y → y ≤ 100000000
unfolding width_list
width_list_bound u at f y e =
    let a = bind_ok (word_of at f) _ y e in
    let b = bind_ok (width_word u a.0.0) _ y a.2 in
    let c = bind_ok (spare a.0.1) _ y b.2 in
    subst (λ (n : ℕ). n ≤ 100000000) (ok_is c.2) (width_word_bound u a.0.0 b.0 b.1)

fit_rule_list : (u : LengthUnit) (r : Rule) (at : ℕ) (f : Forest) (w : RuleWord) (s : Rule) → IsFitRule r → rule_list u r at f w ≡ Ok s → IsFitRule s
fit_rule_list u r at f rules.Width s p e =
    let a = bind_ok (width_list u at f) _ s e in
    let own : IsFitRule (record { width = Some a.0; stated = r.stated }) = record { width = width_list_bound u at f a.0 a.1; stated = p.stated } in
    subst IsFitRule (ok_is a.2) own
fit_rule_list u r at f rules.Clearance s p e =
    let a = bind_ok (clearance_list u r.stated at f) _ s e in
    let own : IsFitRule (record { width = r.width; stated = a.0 }) = record { width = p.width; stated = clearance_list_bound u r.stated at f a.0 p.stated a.1 } in
    subst IsFitRule (ok_is a.2) own
fit_rule_list u r at f rules.Other s p e = subst IsFitRule (ok_is e) p

fit_rule_item : (u : LengthUnit) (r : Rule) (at : ℕ) (inside : Forest) (s : Rule) → IsFitRule r → rule_item u r at inside ≡ Ok s → IsFitRule s
unfolding rule_item
fit_rule_item u r at inside s p e = fit_rule_list u r at (head_of inside).args (rule_word (head_of inside).text) s p e

pub rule_of_bound : (u : LengthUnit) (r : Rule) (f : Forest) (s : Rule) → rule_of u r f ≡ Ok s → IsFitRule r → IsFitRule s
rule_of_bound u r f s e p = each_keeps IsFitRule (rule_item u) (fit_rule_item u) r f s p e

pub no_rule_fit : IsFitRule no_rule
no_rule_fit = record { width = tt; stated = tt }
