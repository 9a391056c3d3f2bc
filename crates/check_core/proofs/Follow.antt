-- A board, and what is filed of it, after one more entry.
use Rattle.std.proofs.Common.{◌≡◌, ℕ, ◌+◌, ◌<◌, ◌≤◌, List, [], ◌∷◌, ◌++◌, length, arith, refl, sym, ap, subst, ◌∙◌, inl, inr, Bool, true, false}
use Rattle.std.specs.Prelude.{Some, slice_get, nat_le}
use Rattle.std.specs.List.{AllByRecursion}
use Rattle.std.proofs.lemmas.List.{append-nil}
use Rattle.seg_geometry.specs.declared.near.Filed.{Filed}
use Rattle.board_items.specs.declared.items.Item.{Item}
use Rattle.board_items.specs.declared.requests.Add.{Add}
use Rattle.board_items.specs.declared.requests.Request.TheVariants as requests
use Rattle.board_items.specs.declared.history.Act.{Act}
use Rattle.board_items.specs.declared.history.Act.TheVariants as acts
use Rattle.board_items.specs.declared.history.Entry.{Entry}
use Rattle.board_items.specs.Adds.{item_of_add, layer_of_add}
use Rattle.board_rules.specs.declared.design.Parts.{Parts}
use Rattle.board_rules.specs.FitAdds.{IsFitAdd}
use Rattle.board_rules.specs.Rules.{IsFitRules}
use Rattle.number_slots.specs.Slots.{IsAt, without}
use Rattle.number_slots.proofs.ByNumber.{at_either, without_none}
use Rattle.board_core.specs.Boards.{Board, AreFitItems, IsBoardOf, IsSameBoard, HasFitAct, made_of, made_from, taken_by, after, board_at}
use Rattle.board_core.proofs.Growing.{grown_same, next_board}
use Rattle.check_core.specs.Changes.{deletes_in, adds_in, LengthensWithin, outside, left_below}
use Rattle.check_core.specs.Checking.{Checking, IsChecking, StandAt}
use Rattle.check_core.specs.Filings.{AreFiled, EntersAll}
use Rattle.check_core.proofs.Leaving.{filed_ids, filed_after, as_before}

-- ---- boards that are the same

same_fits : (p : Parts) (b c : Board) → IsSameBoard b c → IsBoardOf p c → IsBoardOf p b
same_fits p b c same h = record { fit = subst (AreFitItems p) (sym same.live) h.fit; rules = subst (IsFitRules p) (sym same.rules) h.rules }

pub same_chain : (a b c : Board) → IsSameBoard a b → IsSameBoard b c → IsSameBoard a c
same_chain a b c s t = record {
  live = s.live ∙ t.live;
  next_id = s.next_id ∙ t.next_id;
  held = s.held ∙ t.held;
  fences = s.fences ∙ t.fences;
  last = s.last ∙ t.last;
  rules = s.rules ∙ t.rules;
  count = s.count ∙ t.count;
}

-- ---- one entry more

unchanged : (live : List (ℕ × Item)) → live ≡ without [] live ++ []
unchanged live = sym (append-nil (without [] live) ∙ without_none live)

-- what an act leaves live, and what it makes
pub after_live : (b : Board) (client : ℕ) (act : Act) → (after b client act).live ≡ without (deletes_in act) b.live ++ made_from b.next_id (adds_in act)
after_live b client (acts.Ask (requests.Edit deletes adds)) = refl
after_live b client (acts.Ask (requests.Reserve id)) = unchanged b.live
after_live b client (acts.Ask (requests.Release id)) = unchanged b.live
after_live b client (acts.Ask (requests.Fence layers area clients)) = unchanged b.live
after_live b client (acts.Ask (requests.Unfence fence)) = unchanged b.live
after_live b client (acts.Ask (requests.Entitle fence other)) = unchanged b.live
after_live b client (acts.Ask (requests.Rule class clearance)) = unchanged b.live
after_live b client acts.Leave = unchanged b.live

pub after_next : (b : Board) (client : ℕ) (act : Act) → (after b client act).next_id ≡ b.next_id + taken_by act
after_next b client (acts.Ask (requests.Edit deletes adds)) = refl
after_next b client (acts.Ask (requests.Reserve id)) = omega arith
after_next b client (acts.Ask (requests.Release id)) = omega arith
after_next b client (acts.Ask (requests.Fence layers area clients)) = omega arith
after_next b client (acts.Ask (requests.Unfence fence)) = omega arith
after_next b client (acts.Ask (requests.Entitle fence other)) = omega arith
after_next b client (acts.Ask (requests.Rule class clearance)) = omega arith
after_next b client acts.Leave = omega arith

pub after_count : (b : Board) (client : ℕ) (act : Act) → (after b client act).count ≡ b.count + 1
after_count b client (acts.Ask (requests.Edit deletes adds)) = refl
after_count b client (acts.Ask (requests.Reserve id)) = refl
after_count b client (acts.Ask (requests.Release id)) = refl
after_count b client (acts.Ask (requests.Fence layers area clients)) = refl
after_count b client (acts.Ask (requests.Unfence fence)) = refl
after_count b client (acts.Ask (requests.Entitle fence other)) = refl
after_count b client (acts.Ask (requests.Rule class clearance)) = refl
after_count b client acts.Leave = refl

-- an act takes a number for each add
pub taken_adds : (act : Act) → taken_by act ≡ length (adds_in act)
taken_adds (acts.Ask (requests.Edit deletes adds)) = refl
taken_adds (acts.Ask (requests.Reserve id)) = refl
taken_adds (acts.Ask (requests.Release id)) = refl
taken_adds (acts.Ask (requests.Fence layers area clients)) = refl
taken_adds (acts.Ask (requests.Unfence fence)) = refl
taken_adds (acts.Ask (requests.Entitle fence other)) = refl
taken_adds (acts.Ask (requests.Rule class clearance)) = refl
taken_adds acts.Leave = refl

pub fit_adds : (p : Parts) (act : Act) → HasFitAct p act → AllByRecursion (IsFitAdd p) (adds_in act)
fit_adds p (acts.Ask (requests.Edit deletes adds)) h = h
fit_adds p (acts.Ask (requests.Reserve id)) h = tt
fit_adds p (acts.Ask (requests.Release id)) h = tt
fit_adds p (acts.Ask (requests.Fence layers area clients)) h = tt
fit_adds p (acts.Ask (requests.Unfence fence)) h = tt
fit_adds p (acts.Ask (requests.Entitle fence other)) h = tt
fit_adds p (acts.Ask (requests.Rule class clearance)) h = tt
fit_adds p acts.Leave h = tt

one_made : (n : ℕ) (add : Add) (b : Bool) → nat_le (layer_of_add add) 255 ≡ b → (m : ℕ) (x : Item) → IsAt (made_of n add) m x → n ≤ m
one_made n add true e m x at = let h : IsAt ((n, item_of_add add) ∷ []) m x = rw e at at in elim h [ inl k ↦ (let same : n ≡ m = k.0 in omega (arith, same)) | inr k ↦ absurd k ]
one_made n add false e m x at = let h : IsAt {T = Item} [] m x = rw e at at in absurd h

-- what is made has the first number or a greater one
pub made_past : (n : ℕ) (adds : List Add) (m : ℕ) (x : Item) → IsAt (made_from n adds) m x → n ≤ m
made_past n [] m x at = absurd at
made_past n (add ∷ rest) m x at = elim (at_either (made_of n add) (made_from (n + 1) rest) m x at) [
  | inl h ↦ one_made n add (nat_le (layer_of_add add) 255) refl m x h
  | inr h ↦ (let le = made_past (n + 1) rest m x h in omega (arith, le))
]

-- the entry is taken
pub checks_after : (p : Parts) (c : Checking) (new : Board) (next : ℕ) (deletes : List ℕ) (mid filed : List Filed) (client : ℕ) (act : Act) → IsChecking p c → ((n : ℕ) (x : Item) → IsAt c.board.live n x → (0 < n) × (n < next)) → next ≡ c.board.next_id → deletes ≡ deletes_in act
    → HasFitAct p act → IsSameBoard new (after c.board client act) → EntersAll p.stacks (made_from next (adds_in act)) c.filed mid → filed ≡ left_below deletes next mid → IsChecking p (record { board = new; filed = filed })
checks_after p c new next deletes mid filed client act checking within is_next are fit same enters left =
    let live : new.live ≡ without deletes c.board.live ++ made_from next (adds_in act) =
    same.live ∙ after_live c.board client act ∙ (λ j. without (sym are j) c.board.live ++ made_from (sym is_next j) (adds_in act)) in record {
      fits = grown_same p c.board new client act same checking.fits fit;
      files = subst (λ (fs : List Filed). AreFiled p.stacks new.live fs) (sym left)
          (subst (λ (ls : List (ℕ × Item)). AreFiled p.stacks ls (left_below deletes next mid)) (sym live)
          (filed_after p.stacks deletes next c.board.live (made_from next (adds_in act)) c.filed mid checking.files (λ n x at. (within n x at).1) (made_past next (adds_in act)) enters));
    }

-- it isn't
pub checks_before : (p : Parts) (c : Checking) (new : Board) (next last end : ℕ) (mid filed : List Filed) → IsChecking p c → ((n : ℕ) (x : Item) → IsAt c.board.live n x → (0 < n) × (n < next)) → IsSameBoard new c.board → LengthensWithin next last c.filed mid → end ≡ last → filed ≡ outside next end mid
    → IsChecking p (record { board = new; filed = filed })
checks_before p c new next last end mid filed checking within same more ends left =
    let below : AllByRecursion (λ (f : Filed). f.id < next) c.filed = filed_ids p.stacks (λ n. n < next) c.board.live c.filed (λ n x at. (within n x at).1) checking.files in
    let back : filed ≡ c.filed = left ∙ ap (λ (n : ℕ). outside next n mid) ends ∙ as_before next last c.filed mid below more in record {
      fits = same_fits p new c.board same checking.fits;
      files = subst (λ (fs : List Filed). AreFiled p.stacks new.live fs) (sym back)
          (subst (λ (live : List (ℕ × Item)). AreFiled p.stacks live c.filed) (sym same.live) checking.files);
    }

-- entries that stand in a journal from one place on
pub follows_on : (p : Parts) (entries journal : List Entry) (k i : ℕ) (e : Entry) (b c : Board) → slice_get entries i ≡ Some e → StandAt journal k entries → IsSameBoard c (after b e.client e.act) → IsSameBoard b (board_at p journal (k + i)) → IsSameBoard c (board_at p journal (k + (i + 1)))
follows_on p entries journal k i e b c at stand step so_far =
    let next : k + i + 1 ≡ k + (i + 1) = omega arith in
    subst (λ (n : ℕ). IsSameBoard c (board_at p journal n)) next (next_board p journal (k + i) e b c (stand i e at) step so_far)
