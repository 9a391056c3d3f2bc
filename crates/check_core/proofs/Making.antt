-- What an add makes is entered.
use Rattle.std.proofs.Common.{◌≡◌, ℕ, ◌≤◌, List, [], refl, sym, subst, true}
use Rattle.std.specs.Prelude.{Result, OnOk, nat_le}
use Rattle.std.proofs.lemmas.Bool.{le-leb}
use Rattle.std.proofs.lemmas.List.{append-nil}
use Rattle.seg_geometry.specs.declared.near.Filed.{Filed}
use Rattle.board_items.specs.declared.items.Item.{Item}
use Rattle.board_items.specs.declared.items.Padstack.{Padstack}
use Rattle.board_items.specs.declared.requests.Add.{Add}
use Rattle.board_items.specs.Adds.{item_of_add, layer_of_add}
use Rattle.board_items.specs.Shapes.{copper_of_item}
use Rattle.board_core.specs.Boards.{made_of}
use Rattle.board_core.proofs.Growing.{on_ok}
use Rattle.check_core.specs.Filings.{Enters, EntersAll}

one_entered : (stacks : List Padstack) (id : ℕ) (add : Add) (item : Item) (old new : List Filed) → layer_of_add add ≤ 255 → item ≡ item_of_add add → Enters id (copper_of_item stacks item) old new → EntersAll stacks (made_of id add) old new
one_entered stacks id add item old new fits same h =
    let e : nat_le (layer_of_add add) 255 ≡ true = le-leb (layer_of_add add) 255 fits in
    let k : Enters id (copper_of_item stacks (item_of_add add)) old new = subst (λ (x : Item). Enters id (copper_of_item stacks x) old new) same h in
    rw e (k.0, k.1, (k.0, [], sym (append-nil k.0), k.2, refl))

pub entered_one : {A E : Type 0} (stacks : List Padstack) (id : ℕ) (add : Add) (item : Item) (r : Result A E) (old new : List Filed) → layer_of_add add ≤ 255 → item ≡ item_of_add add → OnOk r (Enters id (copper_of_item stacks item) old new) → OnOk r (EntersAll stacks (made_of id add) old new)
entered_one stacks id add item r old new fits same h = on_ok r (Enters id (copper_of_item stacks item) old new) (EntersAll stacks (made_of id add) old new) (one_entered stacks id add item old new fits same) h
