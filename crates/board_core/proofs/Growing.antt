-- A board with one more entry is a board of its design, and the next one of its journal.
use Rattle.std.proofs.Common.{◌≡◌, ℕ, zero, suc, ◌+◌, ◌<◌, ◌≤◌, List, [], ◌∷◌, ◌++◌, length, refl, sym, ap, subst, ◌∙◌, arith, take}
use Rattle.std.specs.Prelude.{Bool, true, false, not, nat_le, Option, Some, map, slice_get, Result, Ok, Err, OnOk, IfOk, None, IfSome, IfNone}
use Rattle.std.specs.List.{AllByRecursion}
use Rattle.std.proofs.lemmas.Bool.{le-leb, lt-leb}
use Rattle.board_items.specs.declared.items.Item.{Item}
use Rattle.board_items.specs.declared.requests.Add.{Add}
use Rattle.board_items.specs.declared.requests.Request.TheVariants as requests
use Rattle.board_items.specs.declared.history.Act.{Act}
use Rattle.board_items.specs.declared.history.Act.TheVariants as acts
use Rattle.board_items.specs.declared.history.Entry.{Entry}
use Rattle.board_items.specs.Adds.{item_of_add, layer_of_add}
use Rattle.board_rules.specs.declared.design.Parts.{Parts}
use Rattle.board_rules.specs.Designs.{IsFitItem}
use Rattle.board_rules.specs.Classes.{untyped_of}
use Rattle.board_rules.specs.FitAdds.{IsFitAdd}
use Rattle.board_rules.specs.Rules.{with_rule, IsFitRules}
use Rattle.number_slots.specs.Slots.{is_among, without, numbered, there}
use Rattle.reservations.specs.Held.{not_of}
use Rattle.boundaries.specs.Boundaries.{Boundary, boundary_of, fence_made, entitled_at}
use Rattle.board_core.specs.Boards.{Board, IsSameBoard, AreFitItems, IsBoardOf, made_of, made_from, edited, reserved, released_by, after, folded, board_at, first_board, HasFitAct}
use Rattle.board_core.specs.Made.{made_item}
use Rattle.board_core.proofs.Ruled.{as_long, untyped_many}

-- ---- slots and what stands in them

made_one : (n : ℕ) (a : Add) (rest : List (Option Item)) (b : Bool) → nat_le (layer_of_add a) 255 ≡ b → there n (made_item a ∷ rest) ≡ made_of n a ++ there (n + 1) rest
made_one n a rest true e = rw e refl
made_one n a rest false e = rw e refl

-- a slot with what an add makes
slot_told : (a : Add) (o : Option Item) → IfSome o (λ (i : Item). i ≡ item_of_add a) → IfSome o (λ (i : Item). layer_of_add a ≤ 255) → IfNone o (255 < layer_of_add a) → o ≡ made_item a
slot_told a None is le past = let e : nat_le (layer_of_add a) 255 ≡ false = lt-leb (layer_of_add a) 255 past in rw e refl
slot_told a (Some i) is le past = let e : nat_le (layer_of_add a) 255 ≡ true = le-leb (layer_of_add a) 255 le in rw e (ap Some is)

pub slots_told : {E : Type 0} (a : Add) (r : Result (Option Item) E) → IfOk r (λ o. IfSome o (λ (i : Item). i ≡ item_of_add a)) → IfOk r (λ o. IfSome o (λ (i : Item). layer_of_add a ≤ 255)) → IfOk r (λ o. IfNone o (255 < layer_of_add a)) → IfOk r (λ o. o ≡ made_item a)
slots_told a (Ok o) is le past = slot_told a o is le past
slots_told a (Err e) is le past = tt

-- slots with what adds make
pub there_made : (n : ℕ) (adds : List Add) → there n (map made_item adds) ≡ made_from n adds
there_made n [] = refl
there_made n (a ∷ rest) = made_one n a (map made_item rest) (nat_le (layer_of_add a) 255) refl ∙ ap (λ (ys : List (ℕ × Item)). made_of n a ++ ys) (there_made (n + 1) rest)

-- slots with items
pub there_loaded : (n : ℕ) (items : List Item) → there n (map Some items) ≡ numbered n items
there_loaded n [] = refl
there_loaded n (i ∷ rest) = ap (λ (ys : List (ℕ × Item)). (n, i) ∷ ys) (there_loaded (n + 1) rest)

pub as_many : {A B : Type 0} (f : A → B) (xs : List A) → length (map f xs) ≡ length xs
as_many f [] = refl
as_many f (x ∷ xs) = ap suc (as_many f xs)

-- ---- what holds of each item holds of each that is left

kept_one : (p : Parts) (ids : List ℕ) (l : ℕ × Item) (rest : List (ℕ × Item)) (b : Bool) → not (is_among l.0 ids) ≡ b → IsFitItem p l.1 → AreFitItems p (without ids rest) → AreFitItems p (without ids (l ∷ rest))
kept_one p ids l rest true e here more = rw e (here, more)
kept_one p ids l rest false e here more = rw e more

kept_all : (p : Parts) (ids : List ℕ) (live : List (ℕ × Item)) → AreFitItems p live → AreFitItems p (without ids live)
kept_all p ids [] all = tt
kept_all p ids (l ∷ rest) all = kept_one p ids l rest (not (is_among l.0 ids)) refl all.0 (kept_all p ids rest all.1)

is_made : (n : ℕ) (a : Add) (P : List (ℕ × Item) → Type 0) (b : Bool) → nat_le (layer_of_add a) 255 ≡ b → P ((n, item_of_add a) ∷ []) → P [] → P (made_of n a)
is_made n a P true e one none = rw e one
is_made n a P false e one none = rw e none

made_fit : (p : Parts) (n : ℕ) (adds : List Add) → AllByRecursion (IsFitAdd p) adds → AreFitItems p (made_from n adds)
made_fit p n [] fit = tt
made_fit p n (a ∷ rest) fit =
    let more = made_fit p (n + 1) rest fit.1 in
    is_made n a (λ (ls : List (ℕ × Item)). AreFitItems p (ls ++ made_from (n + 1) rest)) (nat_le (layer_of_add a) 255) refl (fit.0.item, more) more

fit_append : (p : Parts) (xs ys : List (ℕ × Item)) → AreFitItems p xs → AreFitItems p ys → AreFitItems p (xs ++ ys)
fit_append p [] ys a b = b
fit_append p (x ∷ xs) ys a b = (a.0, fit_append p xs ys a.1 b)

-- ---- boards that are the same

pub same_of : (p : Parts) (b c : Board) → IsSameBoard b c → IsBoardOf p c → IsBoardOf p b
same_of p b c same is = record { fit = subst (AreFitItems p) (sym same.live) is.fit; rules = subst (λ rs. IsFitRules p rs) (sym same.rules) is.rules }

pub same_then : (a b c : Board) → IsSameBoard a b → IsSameBoard b c → IsSameBoard a c
same_then a b c s t = record {
  live = s.live ∙ t.live;
  next_id = s.next_id ∙ t.next_id;
  held = s.held ∙ t.held;
  fences = s.fences ∙ t.fences;
  last = s.last ∙ t.last;
  rules = s.rules ∙ t.rules;
  count = s.count ∙ t.count;
}

-- the same act leads from the same board to the same
pub same_after : (b c : Board) (client : ℕ) (act : Act) → IsSameBoard b c → IsSameBoard (after b client act) (after c client act)
same_after b c client acts.Leave same = record { live = same.live; next_id = same.next_id; held = ap (not_of client) same.held; fences = same.fences; last = same.last; rules = same.rules; count = ap (λ (n : ℕ). n + 1) same.count }
same_after b c client (acts.Ask (requests.Edit deletes adds)) same = record {
  live = (λ i. without deletes (same.live i) ++ made_from (same.next_id i) adds);
  next_id = ap (λ (n : ℕ). n + length adds) same.next_id;
  held = ap (λ (xs : List (ℕ × ℕ)). without deletes xs) same.held;
  fences = same.fences;
  last = same.last;
  rules = same.rules;
  count = ap (λ (n : ℕ). n + 1) same.count;
}
same_after b c client (acts.Ask (requests.Reserve id)) same = record { live = same.live; next_id = same.next_id; held = (λ i. reserved (same.live i) (same.held i) id.0 client); fences = same.fences; last = same.last; rules = same.rules; count = ap (λ (n : ℕ). n + 1) same.count }
same_after b c client (acts.Ask (requests.Release id)) same = record { live = same.live; next_id = same.next_id; held = ap (λ (xs : List (ℕ × ℕ)). released_by id.0 client xs) same.held; fences = same.fences; last = same.last; rules = same.rules; count = ap (λ (n : ℕ). n + 1) same.count }
same_after b c client (acts.Ask (requests.Fence layers area clients)) same = record {
  live = same.live;
  next_id = same.next_id;
  held = same.held;
  fences = (λ i. same.fences i ++ fence_made (same.last i + 1) (boundary_of client layers area clients));
  last = ap (λ (n : ℕ). n + 1) same.last;
  rules = same.rules;
  count = ap (λ (n : ℕ). n + 1) same.count;
}
same_after b c client (acts.Ask (requests.Unfence fence)) same = record { live = same.live; next_id = same.next_id; held = same.held; fences = ap (λ (xs : List (ℕ × Boundary)). without (fence ∷ []) xs) same.fences; last = same.last; rules = same.rules; count = ap (λ (n : ℕ). n + 1) same.count }
same_after b c client (acts.Ask (requests.Entitle fence other)) same = record { live = same.live; next_id = same.next_id; held = same.held; fences = ap (λ (xs : List (ℕ × Boundary)). entitled_at fence other xs) same.fences; last = same.last; rules = same.rules; count = ap (λ (n : ℕ). n + 1) same.count }
same_after b c client (acts.Ask (requests.Rule class clearance)) same = record { live = same.live; next_id = same.next_id; held = same.held; fences = same.fences; last = same.last; rules = ap (with_rule class clearance) same.rules; count = ap (λ (n : ℕ). n + 1) same.count }

-- ---- one entry more

-- a board of a design, after an act with fit adds
pub grown : (p : Parts) (b : Board) (client : ℕ) (act : Act) → IsBoardOf p b → HasFitAct p act → IsBoardOf p (after b client act)
grown p b client acts.Leave is fit = record { fit = is.fit; rules = is.rules }
grown p b client (acts.Ask (requests.Edit deletes adds)) is fit = record { fit = fit_append p (without deletes b.live) (made_from b.next_id adds) (kept_all p deletes b.live is.fit) (made_fit p b.next_id adds fit); rules = is.rules }
grown p b client (acts.Ask (requests.Reserve id)) is fit = record { fit = is.fit; rules = is.rules }
grown p b client (acts.Ask (requests.Release id)) is fit = record { fit = is.fit; rules = is.rules }
grown p b client (acts.Ask (requests.Fence layers area clients)) is fit = record { fit = is.fit; rules = is.rules }
grown p b client (acts.Ask (requests.Unfence fence)) is fit = record { fit = is.fit; rules = is.rules }
grown p b client (acts.Ask (requests.Entitle fence other)) is fit = record { fit = is.fit; rules = is.rules }
grown p b client (acts.Ask (requests.Rule class clearance)) is fit = record { fit = is.fit; rules = as_long class clearance b.rules ∙ is.rules }

pub grown_same : (p : Parts) (b c : Board) (client : ℕ) (act : Act) → IsSameBoard c (after b client act) → IsBoardOf p b → HasFitAct p act → IsBoardOf p c
grown_same p b c client act same is fit = same_of p c (after b client act) same (grown p b client act is fit)

folded_step : (b : Board) (journal : List Entry) (k : ℕ) (e : Entry) → slice_get journal k ≡ Some e → folded b (take (suc k) journal) ≡ after (folded b (take k journal)) e.client e.act
folded_step b [] k e at_k = absurd (cc)
folded_step b (x ∷ rest) zero e at_k = let same : x ≡ e = cc in ap (λ (y : Entry). after b y.client y.act) same
folded_step b (x ∷ rest) (suc k) e at_k = folded_step (after b x.client x.act) rest k e at_k

-- from the board after k entries to that after k + 1
pub next_board : (p : Parts) (journal : List Entry) (k : ℕ) (e : Entry) (b c : Board) → slice_get journal k ≡ Some e → IsSameBoard c (after b e.client e.act) → IsSameBoard b (board_at p journal k) → IsSameBoard c (board_at p journal (k + 1))
next_board p journal k e b c at_k step same =
    let on = same_after b (board_at p journal k) e.client e.act same in
    let last : suc k ≡ k + 1 = omega arith in
    let more : after (board_at p journal k) e.client e.act ≡ board_at p journal (k + 1) = sym (folded_step (first_board p) journal k e at_k) ∙ ap (λ (n : ℕ). board_at p journal n) last in
    subst (IsSameBoard c) more (same_then c (after b e.client e.act) (after (board_at p journal k) e.client e.act) step on)

-- ---- the first board

pub numbered_fit : (p : Parts) (n : ℕ) (items : List Item) → AllByRecursion (IsFitItem p) items → AreFitItems p (numbered n items)
numbered_fit p n [] fit = tt
numbered_fit p n (i ∷ rest) fit = (fit.0, numbered_fit p (n + 1) rest fit.1)

-- the board before the first entry is one of its design
pub first_fits : (p : Parts) → AllByRecursion (IsFitItem p) p.items → IsBoardOf p (first_board p)
first_fits p fit = record { fit = numbered_fit p 1 p.items fit; rules = untyped_many p }

-- ---- what the slots of a board hold

pub on_ok : {A E : Type 0} (r : Result A E) (P Q : Type 0) → (P → Q) → OnOk r P → OnOk r Q
on_ok (Ok x) P Q f h = f h
on_ok (Err x) P Q f h = tt

pub edit_same : (old new made : List (Option Item)) (h k : List (ℕ × ℕ)) (f : List (ℕ × Boundary)) (last : ℕ) (rules : List (Option ℕ)) (count : ℕ) (deletes : List ℕ) (adds : List Add) → made ≡ map made_item adds → there 1 new ≡ without deletes (there 1 old) ++ there (length old + 1) made → length new ≡ length old + length made → k ≡ without deletes h
    → IsSameBoard (record { live = there 1 new; next_id = length new + 1; held = k; fences = f; last = last; rules = rules; count = count + 1 }) (edited (record { live = there 1 old; next_id = length old + 1; held = h; fences = f; last = last; rules = rules; count = count }) deletes adds)
edit_same old new made h k f last rules count deletes adds is left longer free = record {
  live = left ∙ ap (λ (ys : List (Option Item)). without deletes (there 1 old) ++ there (length old + 1) ys) is ∙ ap (λ (ys : List (ℕ × Item)). without deletes (there 1 old) ++ ys) (there_made (length old + 1) adds);
  next_id = let many : length made ≡ length adds = ap length is ∙ as_many made_item adds in omega (arith, longer, many);
  held = free;
  fences = refl;
  last = refl;
  rules = refl;
  count = refl;
}

pub new_same : (p : Parts) (none new made : List (Option Item)) (h : List (ℕ × ℕ)) (f : List (ℕ × Boundary)) (last : ℕ) (rules : List (Option ℕ)) → none ≡ [] → made ≡ map Some p.items → there 1 new ≡ without [] (there 1 none) ++ there (length none + 1) made → length new ≡ length none + length made → h ≡ [] → f ≡ [] → last ≡ 0 → rules ≡ untyped_of p
    → IsSameBoard (record { live = there 1 new; next_id = length new + 1; held = h; fences = f; last = last; rules = rules; count = 0 }) (first_board p)
new_same p none new made h f last rules empty is left longer free unfenced start stated =
    let first : there 1 new ≡ there 1 made = left ∙ ap (λ (ys : List (Option Item)). without [] (there 1 ys) ++ there (length ys + 1) made) empty in
    let many : length made ≡ length p.items = ap length is ∙ as_many Some p.items in
    let zero_ : length none ≡ 0 = ap length empty in
    record {
      live = first ∙ ap (λ (ys : List (Option Item)). there 1 ys) is ∙ there_loaded 1 p.items;
      next_id = omega (arith, longer, many, zero_);
      held = free;
      fences = unfenced;
      last = start;
      rules = stated;
      count = refl;
    }
