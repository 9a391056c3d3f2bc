-- What is filed when some numbers go, and when others come.
use Rattle.std.proofs.Common.{◌≡◌, ℕ, ◌+◌, ◌<◌, ◌≤◌, List, [], ◌∷◌, ◌++◌, Bool, true, false, ◌&&◌, arith, refl, sym, ap, subst, ◌∙◌, inl, inr}
use Rattle.std.specs.Prelude.{not, nat_le, nat_lt}
use Rattle.std.specs.List.{filter, AllByRecursion}
use Rattle.std.proofs.lemmas.List.{append_assoc, append-nil}
use Rattle.std.proofs.lemmas.List.Elements.{filter-append}
use Rattle.std.proofs.lemmas.Bool.{lt-ltb, le-ltb, le-leb, lt-leb}
use Rattle.seg_geometry.specs.declared.near.Filed.{Filed}
use Rattle.area_geometry.specs.Copper.{Copper}
use Rattle.board_items.specs.declared.items.Item.{Item}
use Rattle.board_items.specs.declared.items.Padstack.{Padstack}
use Rattle.board_items.specs.Shapes.{copper_of_item}
use Rattle.number_slots.specs.Slots.{is_among, without, IsAt}
use Rattle.check_core.specs.Changes.{LengthensWithin, outside, left_below}
use Rattle.check_core.specs.Filings.{AreFiledUnder, AreFiled, EntersAll, Lengthens}

-- the live items of which the number doesn't pass a test
abbrev others : (ℕ → Bool) → List (ℕ × Item) → List (ℕ × Item)
others t live = filter (λ (l : ℕ × Item). not (t l.0)) live

-- what is filed under numbers that don't pass it
abbrev rest_of : (ℕ → Bool) → List Filed → List Filed
rest_of t filed = filter (λ (f : Filed). not (t f.id)) filed

pub all_append : (P : Filed → Type 0) (xs ys : List Filed) → AllByRecursion P xs → AllByRecursion P ys → AllByRecursion P (xs ++ ys)
all_append P [] ys h k = k
all_append P (x ∷ xs) ys h k = (h.0, all_append P xs ys h.1 k)

pub all_weaker : (P Q : Filed → Type 0) (xs : List Filed) → ((f : Filed) → P f → Q f) → AllByRecursion P xs → AllByRecursion Q xs
all_weaker P Q [] w h = tt
all_weaker P Q (x ∷ xs) w h = (w x h.0, all_weaker P Q xs w h.1)

-- shapes are filed under their number alone
pub own_id : (id : ℕ) (shapes : List Copper) (part : List Filed) → AreFiledUnder id shapes part → AllByRecursion (λ (f : Filed). f.id ≡ id) part
own_id id [] [] h = tt
own_id id [] (f ∷ fs) h = absurd h
own_id id (s ∷ ss) [] h = absurd h
own_id id (s ∷ ss) (f ∷ fs) h = (h.0.of, own_id id ss fs h.1)

-- all that is filed of live items is filed under their numbers
pub filed_ids : (stacks : List Padstack) (P : ℕ → Type 0) (live : List (ℕ × Item)) (filed : List Filed) → ((n : ℕ) (x : Item) → IsAt live n x → P n) → AreFiled stacks live filed → AllByRecursion (λ (f : Filed). P f.id) filed
filed_ids stacks P [] filed each e = subst (λ (fs : List Filed). AllByRecursion (λ (f : Filed). P f.id) fs) (sym e) tt
filed_ids stacks P (l ∷ rest) filed each (front, back, e, r, j) =
    subst (λ (fs : List Filed). AllByRecursion (λ (f : Filed). P f.id) fs) (sym e)
    (all_append (λ (f : Filed). P f.id) front back
    (all_weaker (λ (f : Filed). f.id ≡ l.0) (λ (f : Filed). P f.id) front (λ f same. subst P (sym same) (each l.0 l.1 (inl (refl, refl)))) (own_id l.0 (copper_of_item stacks l.1) front r))
    (filed_ids stacks P rest back (λ n x at. each n x (inr at)) j))

pub all_stay : (t : ℕ → Bool) (fs : List Filed) → AllByRecursion (λ (f : Filed). t f.id ≡ false) fs → rest_of t fs ≡ fs
all_stay t [] h = refl
all_stay t (f ∷ rest) h = let here : t f.id ≡ false = h.0 in rw here (ap (λ (l : List Filed). f ∷ l) (all_stay t rest h.1))

pub all_leave : (t : ℕ → Bool) (fs : List Filed) → AllByRecursion (λ (f : Filed). t f.id ≡ true) fs → rest_of t fs ≡ []
all_leave t [] h = refl
all_leave t (f ∷ rest) h = let here : t f.id ≡ true = h.0 in rw here (all_leave t rest h.1)

step : (stacks : List Padstack) (t : ℕ → Bool) (l : ℕ × Item) (rest : List (ℕ × Item)) (front back : List Filed) (b : Bool) → t l.0 ≡ b → AreFiledUnder l.0 (copper_of_item stacks l.1) front
    → AreFiled stacks (others t rest) (rest_of t back) → AreFiled stacks (others t (l ∷ rest)) (rest_of t front ++ rest_of t back)
step stacks t l rest front back true e r more =
    let gone : rest_of t front ≡ [] = all_leave t front (all_weaker (λ (f : Filed). f.id ≡ l.0) (λ (f : Filed). t f.id ≡ true) front (λ f same. ap t same ∙ e) (own_id l.0 (copper_of_item stacks l.1) front r)) in
    rw e (subst (λ (f : List Filed). AreFiled stacks (others t rest) (f ++ rest_of t back)) (sym gone) more)
step stacks t l rest front back false e r more =
    let kept : rest_of t front ≡ front = all_stay t front (all_weaker (λ (f : Filed). f.id ≡ l.0) (λ (f : Filed). t f.id ≡ false) front (λ f same. ap t same ∙ e) (own_id l.0 (copper_of_item stacks l.1) front r)) in
    rw e (front, rest_of t back, ap (λ (f : List Filed). f ++ rest_of t back) kept, r, more)

-- where all of some numbers goes, what is left is filed by what is left
pub filed_others : (stacks : List Padstack) (t : ℕ → Bool) (live : List (ℕ × Item)) (filed : List Filed) → AreFiled stacks live filed → AreFiled stacks (others t live) (rest_of t filed)
filed_others stacks t [] filed e = ap (rest_of t) e
filed_others stacks t (l ∷ rest) filed (front, back, e, r, j) =
    subst (λ (fs : List Filed). AreFiled stacks (others t (l ∷ rest)) fs) (sym (ap (rest_of t) e ∙ filter-append (λ (f : Filed). not (t f.id)) front back))
    (step stacks t l rest front back (t l.0) refl r (filed_others stacks t rest back j))

-- items behind others
pub filed_append : (stacks : List Padstack) (live made : List (ℕ × Item)) (filed more : List Filed) → AreFiled stacks live filed → AreFiled stacks made more → AreFiled stacks (live ++ made) (filed ++ more)
filed_append stacks [] made filed more e h = subst (λ (fs : List Filed). AreFiled stacks made (fs ++ more)) (sym e) h
filed_append stacks (l ∷ rest) made filed more (front, back, e, r, j) h =
    (front, back ++ more, ap (λ (fs : List Filed). fs ++ more) e ∙ append_assoc front back more, r, filed_append stacks rest made back more j h)

pub enters_join : (stacks : List Padstack) (one two : List (ℕ × Item)) (old now new : List Filed) → EntersAll stacks one old now → EntersAll stacks two now new → EntersAll stacks (one ++ two) old new
enters_join stacks one two old now new (more, e, h) (last, f, k) =
    (more ++ last, f ∙ ap (λ (fs : List Filed). fs ++ last) e ∙ append_assoc old more last, filed_append stacks one two more last h k)

pub enters_nothing : (stacks : List Padstack) (old : List Filed) → EntersAll stacks [] old old
enters_nothing stacks old = ([], sym (append-nil old), refl)

-- ---- lists that have become longer

pub longer_none : (id : ℕ) (old : List Filed) → Lengthens id old old
longer_none id old = ([], sym (append-nil old), tt)

pub longer_join : (id : ℕ) (old now new : List Filed) → Lengthens id old now → Lengthens id now new → Lengthens id old new
longer_join id old now new (more, e, h) (last, f, k) =
    (more ++ last, f ∙ ap (λ (fs : List Filed). fs ++ last) e ∙ append_assoc old more last, all_append (λ (x : Filed). x.id ≡ id) more last h k)

pub within_none : (first last : ℕ) (old : List Filed) → LengthensWithin first last old old
within_none first last old = ([], sym (append-nil old), tt)

pub within_one : (id : ℕ) (old new : List Filed) → Lengthens id old new → LengthensWithin id (id + 1) old new
within_one id old new (more, e, h) = (more, e, all_weaker (λ (f : Filed). f.id ≡ id) (λ (f : Filed). (id ≤ f.id) × (f.id < id + 1)) more (λ f same. (omega (arith, same), omega (arith, same))) h)

-- a wider range
pub within_wider : (first last wide : ℕ) (old new : List Filed) → last ≤ wide → LengthensWithin first last old new → LengthensWithin first wide old new
within_wider first last wide old new le (more, e, h) =
    (more, e, all_weaker (λ (f : Filed). (first ≤ f.id) × (f.id < last)) (λ (f : Filed). (first ≤ f.id) × (f.id < wide)) more (λ f w. (w.0, omega (arith, w.1, le))) h)

pub within_join : (first mid last : ℕ) (old now new : List Filed) → first ≤ mid → mid ≤ last → LengthensWithin first mid old now → LengthensWithin mid last now new → LengthensWithin first last old new
within_join first mid last old now new low high (more, e, h) (end, f, k) = (
  more ++ end,
  f ∙ ap (λ (fs : List Filed). fs ++ end) e ∙ append_assoc old more end,
  all_append (λ (x : Filed). (first ≤ x.id) × (x.id < last)) more end
      (all_weaker (λ (x : Filed). (first ≤ x.id) × (x.id < mid)) (λ (x : Filed). (first ≤ x.id) × (x.id < last)) more (λ x w. (w.0, omega (arith, w.1, high))) h)
      (all_weaker (λ (x : Filed). (mid ≤ x.id) × (x.id < last)) (λ (x : Filed). (first ≤ x.id) × (x.id < last)) end (λ x w. (omega (arith, w.0, low), w.1)) k),
)

low_out : (first last x : ℕ) → x < first → (nat_le first x && nat_lt x last) ≡ false
low_out first last x lt = let e : nat_le first x ≡ false = lt-leb first x lt in rw e refl

in_range : (first last x : ℕ) → first ≤ x → x < last → (nat_le first x && nat_lt x last) ≡ true
in_range first last x le lt = let e : nat_le first x ≡ true = le-leb first x le in let f : nat_lt x last ≡ true = lt-ltb x last lt in rw (e, f) refl

-- what came under the numbers of a range goes with them
pub as_before : (first last : ℕ) (old new : List Filed) → AllByRecursion (λ (f : Filed). f.id < first) old → LengthensWithin first last old new → outside first last new ≡ old
as_before first last old new low (more, e, h) =
    ap (outside first last) e
    ∙ filter-append (λ (f : Filed). not (nat_le first f.id && nat_lt f.id last)) old more
    ∙ (λ j. all_stay (λ (n : ℕ). nat_le first n && nat_lt n last) old (all_weaker (λ (f : Filed). f.id < first) (λ (f : Filed). (nat_le first f.id && nat_lt f.id last) ≡ false) old (λ f lt. low_out first last f.id lt) low) j
    ++ all_leave (λ (n : ℕ). nat_le first n && nat_lt n last) more (all_weaker (λ (f : Filed). (first ≤ f.id) × (f.id < last)) (λ (f : Filed). (nat_le first f.id && nat_lt f.id last) ≡ true) more (λ f w. in_range first last f.id w.0 w.1) h) j)
    ∙ append-nil old

-- ---- deletes below a bound

and_true : (a b : Bool) → b ≡ true → (a && b) ≡ a
and_true true b e = e
and_true false b e = refl

and_false : (a b : Bool) → b ≡ false → (a && b) ≡ false
and_false true b e = e
and_false false b e = refl

same_one : (ids : List ℕ) (bound : ℕ) (l : ℕ × Item) (rest : List (ℕ × Item)) (b : Bool) → is_among l.0 ids ≡ b → (is_among l.0 ids && nat_lt l.0 bound) ≡ is_among l.0 ids
    → filter (λ (m : ℕ × Item). not (is_among m.0 ids && nat_lt m.0 bound)) rest ≡ without ids rest
    → filter (λ (m : ℕ × Item). not (is_among m.0 ids && nat_lt m.0 bound)) (l ∷ rest) ≡ without ids (l ∷ rest)
same_one ids bound l rest true e f more = let g : (is_among l.0 ids && nat_lt l.0 bound) ≡ true = f ∙ e in rw (g, e) more
same_one ids bound l rest false e f more = let g : (is_among l.0 ids && nat_lt l.0 bound) ≡ false = f ∙ e in rw (g, e) (ap (λ (ls : List (ℕ × Item)). l ∷ ls) more)

-- where all numbers lie below the bound, it changes nothing
bound_none : (ids : List ℕ) (bound : ℕ) (live : List (ℕ × Item)) → ((n : ℕ) (x : Item) → IsAt live n x → n < bound) → filter (λ (m : ℕ × Item). not (is_among m.0 ids && nat_lt m.0 bound)) live ≡ without ids live
bound_none ids bound [] each = refl
bound_none ids bound (l ∷ rest) each =
    same_one ids bound l rest (is_among l.0 ids) refl (and_true (is_among l.0 ids) (nat_lt l.0 bound) (lt-ltb l.0 bound (each l.0 l.1 (inl (refl, refl)))))
    (bound_none ids bound rest (λ n x at. each n x (inr at)))

-- the deletes that lie below the next number go, and what is made stays
pub filed_after : (stacks : List Padstack) (ids : List ℕ) (next : ℕ) (live made : List (ℕ × Item)) (old new : List Filed) → AreFiled stacks live old → ((n : ℕ) (x : Item) → IsAt live n x → n < next) → ((n : ℕ) (x : Item) → IsAt made n x → next ≤ n)
    → EntersAll stacks made old new → AreFiled stacks (without ids live ++ made) (left_below ids next new)
filed_after stacks ids next live made old new files low high (more, e, h) =
    let t : ℕ → Bool = λ n. is_among n ids && nat_lt n next in
    let kept : rest_of t more ≡ more = all_stay t more (all_weaker (λ (f : Filed). next ≤ f.id) (λ (f : Filed). t f.id ≡ false) more
    (λ f le. and_false (is_among f.id ids) (nat_lt f.id next) (le-ltb f.id next le)) (filed_ids stacks (λ n. next ≤ n) made more high h)) in
    let cut : left_below ids next new ≡ rest_of t old ++ more =
    ap (left_below ids next) e ∙ filter-append (λ (f : Filed). not (t f.id)) old more ∙ ap (λ (fs : List Filed). rest_of t old ++ fs) kept in
    subst (λ (fs : List Filed). AreFiled stacks (without ids live ++ made) fs) (sym cut)
    (subst (λ (ls : List (ℕ × Item)). AreFiled stacks (ls ++ made) (rest_of t old ++ more)) (bound_none ids next live low)
    (filed_append stacks (others t live) made (rest_of t old) more (filed_others stacks t live old files) h))
