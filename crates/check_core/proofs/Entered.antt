-- Shapes and items that are entered one after another.
use Rattle.std.proofs.Common.{◌≡◌, ℕ, ◌+◌, ◌<◌, ◌≤◌, List, [], ◌∷◌, ◌++◌, Bool, true, false, length, get_or, take, arith, refl, sym, ap, subst, ◌∙◌}
use Rattle.std.specs.Prelude.{Some, slice_get}
use Rattle.std.proofs.lemmas.List.{take_more, take_all, append_assoc, append-nil, length-take}
use Rattle.std.proofs.lemmas.Option.{slice_get_within, get_or_from_slice_get}
use Rattle.seg_geometry.specs.declared.near.Filed.{Filed}
use Rattle.area_geometry.specs.Copper.{Copper}
use Rattle.board_items.specs.declared.items.Item.{Item}
use Rattle.board_items.specs.declared.items.Padstack.{Padstack}
use Rattle.board_items.specs.Shapes.{copper_of_item}
use Rattle.board_rules.specs.Designs.{HasEnough, least_points}
use Rattle.number_slots.specs.Slots.{numbered}
use Rattle.check_core.specs.Filings.{IsFiledBy, AreFiledUnder, AreFiled, EntersShape, Enters, EntersAll}
use Rattle.check_core.proofs.Numbers.{numbered_push}

enough_by : (b : Bool) (n : ℕ) → least_points b ≤ n → 0 < n
enough_by true n h = omega arith
enough_by false n h = omega arith

-- what has enough points has one
pub has_point : (s : Copper) → HasEnough s → 0 < length s.points
has_point s h = enough_by s.area (length s.points) h

-- one more shape at the end
under_push : (id : ℕ) (ss : List Copper) (fs : List Filed) (s : Copper) (f : Filed) → AreFiledUnder id ss fs → IsFiledBy id s f → AreFiledUnder id (ss ++ s ∷ []) (fs ++ f ∷ [])
under_push id [] [] s f h r = (r, tt)
under_push id [] (g ∷ fs) s f h r = absurd h
under_push id (t ∷ ss) [] s f h r = absurd h
under_push id (t ∷ ss) (g ∷ fs) s f h r = (h.0, under_push id ss fs s f h.1 r)

-- one more live item at the end
filed_push : (stacks : List Padstack) (live : List (ℕ × Item)) (filed : List Filed) (l : ℕ × Item) (more : List Filed) → AreFiled stacks live filed → AreFiledUnder l.0 (copper_of_item stacks l.1) more
    → AreFiled stacks (live ++ l ∷ []) (filed ++ more)
filed_push stacks [] filed l more h r = (more, [], ap (λ (fs : List Filed). fs ++ more) h ∙ sym (append-nil more), r, refl)
filed_push stacks (k ∷ rest) filed l more (front, back, e, first, j) r =
    (front, back ++ more, ap (λ (fs : List Filed). fs ++ more) e ∙ append_assoc front back more, first, filed_push stacks rest back l more j r)

pub enters_none : (id : ℕ) (shapes : List Copper) (old : List Filed) → Enters id (take 0 shapes) old old
enters_none id shapes old = ([], sym (append-nil old), tt)

-- one more shape
pub enters_more : (id : ℕ) (shapes : List Copper) (i : ℕ) (s : Copper) (old now next : List Filed) → slice_get shapes i ≡ Some s → EntersShape id s now next → Enters id (take i shapes) old now
    → Enters id (take (i + 1) shapes) old next
enters_more id shapes i s old now next is (f, e, by) (more, grown, under) =
    let taken : take (i + 1) shapes ≡ take i shapes ++ s ∷ [] =
    take_more shapes i s (slice_get_within shapes i s is) ∙ ap (λ (z : Copper). take i shapes ++ z ∷ []) (get_or_from_slice_get shapes i s s is) in (
      more ++ f ∷ [],
      e ∙ ap (λ (l : List Filed). l ++ f ∷ []) grown ∙ append_assoc old more (f ∷ []),
      subst (λ (ss : List Copper). AreFiledUnder id ss (more ++ f ∷ [])) (sym taken) (under_push id (take i shapes) more s f under by),
    )

pub enters_end : (id : ℕ) (shapes : List Copper) (i : ℕ) (old now : List Filed) → length shapes ≤ i → Enters id (take i shapes) old now → Enters id shapes old now
enters_end id shapes i old now past h = subst (λ (ss : List Copper). Enters id ss old now) (take_all i shapes past) h

pub items_none : (stacks : List Padstack) (items : List Item) (old : List Filed) → EntersAll stacks (numbered 1 (take 0 items)) old old
items_none stacks items old = ([], sym (append-nil old), refl)

length_taken : (xs : List Item) (k : ℕ) → k < length xs → 1 + length (take k xs) ≡ k + 1
length_taken xs k l = let n = length-take k xs in omega arith

-- one more item
pub items_more : (stacks : List Padstack) (items : List Item) (i : ℕ) (x : Item) (old now next : List Filed) → i < length items → x ≡ get_or items i x → Enters (i + 1) (copper_of_item stacks x) now next
    → EntersAll stacks (numbered 1 (take i items)) old now → EntersAll stacks (numbered 1 (take (i + 1) items)) old next
items_more stacks items i x old now next lt at (part, e, under) (more, grown, filed) =
    let front = take i items in
    let count : 1 + length front ≡ i + 1 = length_taken items i lt in
    let taken : numbered 1 (take (i + 1) items) ≡ numbered 1 front ++ (i + 1, x) ∷ [] =
    ap (λ (l : List Item). numbered 1 l) (take_more items i x lt ∙ ap (λ (z : Item). front ++ z ∷ []) (sym at))
    ∙ numbered_push 1 front x
    ∙ ap (λ (n : ℕ). numbered 1 front ++ (n, x) ∷ []) count in (
      more ++ part,
      e ∙ ap (λ (l : List Filed). l ++ part) grown ∙ append_assoc old more part,
      subst (λ (ls : List (ℕ × Item)). AreFiled stacks ls (more ++ part)) (sym taken) (filed_push stacks (numbered 1 front) more (i + 1, x) part filed under),
    )

pub items_end : (stacks : List Padstack) (items : List Item) (i : ℕ) (old now : List Filed) → length items ≤ i → EntersAll stacks (numbered 1 (take i items)) old now → EntersAll stacks (numbered 1 items) old now
items_end stacks items i old now past h = subst (λ (l : List Item). EntersAll stacks (numbered 1 l) old now) (take_all i items past) h

-- what an empty list became
pub all_filed : (stacks : List Padstack) (live : List (ℕ × Item)) (old now : List Filed) → old ≡ [] → EntersAll stacks live old now → AreFiled stacks live now
all_filed stacks live old now none (more, e, filed) = subst (λ (l : List Filed). AreFiled stacks live l) (sym (e ∙ ap (λ (l : List Filed). l ++ more) none)) filed
