-- Texts and marks with one more item.
use Rattle.std.specs.Prelude.{replicate}
use Rattle.std.proofs.Common.{◌≡◌, ℕ, zero, suc, ◌+◌, ◌<◌, Bool, true, false, ◌||◌, cond, List, [], ◌∷◌, ◌++◌, length, get_or, flat_map, filter, refl, sym, ap, subst, ◌∙◌, arith, append-nil}
use Rattle.std.specs.List.{list_any}
use Rattle.std.proofs.lemmas.List.Elements.{filter-append}
use Rattle.std.proofs.lemmas.List.Concat.{flat_map-append}
use Rattle.std.proofs.lemmas.List.Folds.{list_any-append}
use Rattle.board_items.specs.declared.items.Item.{Item}
use Rattle.number_slots.specs.Slots.{IsAt, IsRisingFrom, under}
use Rattle.number_slots.proofs.Under.{under_at}
use Rattle.board_rules.specs.declared.design.Parts.{Parts}
use Rattle.ses_writer.specs.declared.by_net.NetLists.{NetLists}
use Rattle.ses_writer.specs.Routes.{item_text, is_wire_of, is_via_of, uses}
use Rattle.ses_writer.specs.Library.{is_used}
use Rattle.ses_writer.specs.Session.{has_routes, wires_text, vias_text}
use Rattle.ses_writer.specs.ByNet.{lists_of, with_item, GotItem, GotMark, NoLists, HasLists, HasMarks}

kept_text : {X : Type 0} (f : X → List ℕ) (x : X) (b : Bool) → flat_map f (cond b (x ∷ []) []) ≡ cond b (f x) []
kept_text f x true = append-nil (f x)
kept_text f x false = refl

one_kept : {X : Type 0} (g : X → Bool) (x : X) (b : Bool) → g x ≡ b → filter g (x ∷ []) ≡ cond b (x ∷ []) []
one_kept g x true e = rw e refl
one_kept g x false e = rw e refl

-- the text of what a test keeps, with one more
text_more : {X : Type 0} (f : X → List ℕ) (g : X → Bool) (xs : List X) (x : X) → flat_map f (filter g (xs ++ x ∷ [])) ≡ flat_map f (filter g xs) ++ cond (g x) (f x) []
text_more f g xs x =
    let one : filter g (x ∷ []) ≡ cond (g x) (x ∷ []) [] = one_kept g x (g x) refl in
    ap (flat_map f) (filter-append g xs (x ∷ [])) ∙ flat_map-append f (filter g xs) (filter g (x ∷ [])) ∙ ap (λ ys. flat_map f (filter g xs) ++ flat_map f ys) one ∙ ap (λ (ys : List ℕ). flat_map f (filter g xs) ++ ys) (kept_text f x (g x))

or_none : (b : Bool) → (b || false) ≡ b
or_none true = refl
or_none false = refl

any_more : {X : Type 0} (g : X → Bool) (xs : List X) (x : X) → list_any g (xs ++ x ∷ []) ≡ (list_any g xs || g x)
any_more g xs x = list_any-append g xs (x ∷ []) ∙ ap (λ b. list_any g xs || b) (or_none (g x))

-- a net's texts with one more item
net_more : (p : Parts) (live : List (ℕ × Item)) (x : ℕ × Item) (net : ℕ) → lists_of p (live ++ x ∷ []) net ≡ with_item p net x.1 (lists_of p live net)
net_more p live x net =
    let some : has_routes (live ++ x ∷ []) net ≡ (has_routes live net || (is_wire_of net x.1 || is_via_of net x.1)) = any_more (λ (l : ℕ × Item). is_wire_of net l.1 || is_via_of net l.1) live x in
    let wires : wires_text p (live ++ x ∷ []) net ≡ wires_text p live net ++ cond (is_wire_of net x.1) (item_text p x.1) [] = text_more (λ (l : ℕ × Item). item_text p l.1) (λ (l : ℕ × Item). is_wire_of net l.1) live x in
    let vias : vias_text p (live ++ x ∷ []) net ≡ vias_text p live net ++ cond (is_via_of net x.1) (item_text p x.1) [] = text_more (λ (l : ℕ × Item). item_text p l.1) (λ (l : ℕ × Item). is_via_of net l.1) live x in
    rw some (rw wires (rw vias refl))

lists_on : (p : Parts) (live : List (ℕ × Item)) (x : ℕ × Item) (old new : List NetLists) → HasLists p live old → GotItem p x.1 old new → HasLists p (live ++ x ∷ []) new
lists_on p live x old new has got =
    let each : (net : ℕ) (d : NetLists) → net < length new → get_or new net d ≡ lists_of p (live ++ x ∷ []) net =
    λ net d less.
    let within : net < length old = omega (arith, less, got.count) in
    let was : get_or old net d ≡ lists_of p live net = has.each net d within in
    let now : get_or new net d ≡ with_item p net x.1 (get_or old net d) = got.each net d within in
    rw now (rw was (sym (net_more p live x net))) in
    record { count = omega (arith, has.count, got.count); each = each }

marks_on : (p : Parts) (live : List (ℕ × Item)) (x : ℕ × Item) (old new : List Bool) → HasMarks p live old → GotMark x.1 old new → HasMarks p (live ++ x ∷ []) new
marks_on p live x old new has got =
    let each : (k : ℕ) (d : Bool) → k < length new → get_or new k d ≡ is_used (live ++ x ∷ []) k =
    λ k d less.
    let within : k < length old = omega (arith, less, got.count) in
    let was : get_or old k d ≡ is_used live k = has.each k d within in
    let now : get_or new k d ≡ (get_or old k d || uses k x.1) = got.each k d within in
    rw now (rw was (sym (any_more (λ (l : ℕ × Item). uses k l.1) live x))) in
    record { count = omega (arith, has.count, got.count); each = each }

-- texts and marks with the item of the next number
pub lists_more : (p : Parts) (live : List (ℕ × Item)) (n : ℕ) (x : Item) (old new : List NetLists) → IsRisingFrom 1 live → IsAt live n x → HasLists p (under n live) old → GotItem p x old new → HasLists p (under (n + 1) live) new
lists_more p live n x old new rising here has got = subst (λ (ls : List (ℕ × Item)). HasLists p ls new) (sym (under_at 1 n live x rising here)) (lists_on p (under n live) (n, x) old new has got)

pub marks_more : (p : Parts) (live : List (ℕ × Item)) (n : ℕ) (x : Item) (old new : List Bool) → IsRisingFrom 1 live → IsAt live n x → HasMarks p (under n live) old → GotMark x old new → HasMarks p (under (n + 1) live) new
marks_more p live n x old new rising here has got = subst (λ (ls : List (ℕ × Item)). HasMarks p ls new) (sym (under_at 1 n live x rising here)) (marks_on p (under n live) (n, x) old new has got)

-- ---- a walk begins

many : {X : Type 0} (n : ℕ) (x : X) → length (replicate n x) ≡ n
many zero x = refl
many (suc n) x = ap suc (many n x)

each_same : {X : Type 0} (n i : ℕ) (x d : X) → i < n → get_or (replicate n x) i d ≡ x
each_same zero i x d lt = absurd (omega arith)
each_same (suc n) zero x d lt = refl
each_same (suc n) (suc i) x d lt = each_same n i x d (omega arith)

-- texts of nets without items
pub lists_first : (p : Parts) (n : ℕ) (lists : List NetLists) → n ≡ length p.nets → NoLists n lists → HasLists p [] lists
lists_first p n lists is none =
    let none_of : NetLists = record { listed = false; wires = []; vias = [] } in
    let count : length lists ≡ n = ap length none ∙ many n none_of in
    record {
      count = count ∙ is;
      each = λ net d less. rw none (each_same n net none_of d (omega (arith, less, count)));
    }

-- and marks of padstacks without
pub marks_first : (p : Parts) (n : ℕ) (marks : List Bool) → n ≡ length p.stacks → marks ≡ replicate n false → HasMarks p [] marks
marks_first p n marks is none =
    let count : length marks ≡ n = ap length none ∙ many n false in
    record {
      count = count ∙ is;
      each = λ k d less. rw none (each_same n k false d (omega (arith, less, count)));
    }
