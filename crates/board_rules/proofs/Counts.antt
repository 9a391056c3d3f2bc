-- Sums over lists that are walked from the front.
use Rattle.std.proofs.Common.{◌≡◌, ℕ, ◌+◌, ◌*◌, ◌<◌, ◌≤◌, List, ◌∷◌, length, get_or, drop, refl, sym, ap, ◌∙◌, arith}
use Rattle.std.specs.Prelude.{slice_get, Some}
use Rattle.std.proofs.lemmas.Option.{slice_get_within, get_or_from_slice_get}
use Rattle.seg_geometry.specs.declared.points.Pt.{Pt}
use Rattle.area_geometry.specs.Copper.{Copper, pieces_of}
use Rattle.board_items.specs.declared.items.Item.{Item}
use Rattle.board_items.specs.declared.requests.Add.{Add}
use Rattle.board_items.specs.Adds.{item_of_add}
use Rattle.board_items.specs.Segments.{segments_in}
use Rattle.board_rules.specs.declared.design.Parts.{Parts}
use Rattle.board_rules.specs.Costs.{edges_of, outline_most, pair_most, adds_most, near_most, own_most}
use Rattle.board_rules.proofs.Walked.{left_is}

-- steps that are kept for what is left are enough for this part and for the rest
pub one_less : (n here left part rest most new : ℕ) → left ≡ part + rest → here + n * left ≤ most → new ≤ here + n * part → new + n * rest ≤ most
one_less n here left part rest most new same before spent =
    let apart : n * left ≡ n * part + n * rest = ap (λ (m : ℕ). n * m) same ∙ omega arith in
    omega (arith, apart, before, spent)

-- the same with the factor behind
pub one_less_by : (n here left part rest most new : ℕ) → left ≡ part + rest → here + left * n ≤ most → new ≤ here + part * n → new + rest * n ≤ most
one_less_by n here left part rest most new same before spent =
    let apart : left * n ≡ part * n + rest * n = ap (λ (m : ℕ). m * n) same ∙ omega arith in
    omega (arith, apart, before, spent)

first_shape : (x : Copper) (rest : List Copper) → segments_in (x ∷ rest) ≡ length (pieces_of x) + segments_in rest
unfolding segments_in
first_shape x rest = refl

-- the shapes that are left begin with this one
pub segments_left : (xs : List Copper) (i : ℕ) (x : Copper) → slice_get xs i ≡ Some x → segments_in (drop i xs) ≡ length (pieces_of x) + segments_in (drop (i + 1) xs)
segments_left xs i x e = ap segments_in (left_is xs i x (slice_get_within xs i x e) (sym (get_or_from_slice_get xs i x x e))) ∙ first_shape x (drop (i + 1) xs)

first_edges : (x : List Pt) (rest : List (List Pt)) → edges_of (x ∷ rest) ≡ length x + edges_of rest
unfolding edges_of
first_edges x rest = refl

-- the areas that are left begin with this one
pub edges_left : (xs : List (List Pt)) (i : ℕ) (x : List Pt) → i < length xs → x ≡ get_or xs i x → edges_of (drop i xs) ≡ length x + edges_of (drop (i + 1) xs)
edges_left xs i x lt is = ap edges_of (left_is xs i x lt is) ∙ first_edges x (drop (i + 1) xs)

first_add : (p : Parts) (x : Add) (rest : List Add) → adds_most p (x ∷ rest) ≡ outline_most p (item_of_add x) + adds_most p rest
unfolding adds_most
first_add p x rest = refl

-- the adds that are left begin with this one
pub adds_left : (p : Parts) (xs : List Add) (i : ℕ) (x : Add) → i < length xs → x ≡ get_or xs i x → adds_most p (drop i xs) ≡ outline_most p (item_of_add x) + adds_most p (drop (i + 1) xs)
adds_left p xs i x lt is = ap (λ (ys : List Add). adds_most p ys) (left_is xs i x lt is) ∙ first_add p x (drop (i + 1) xs)

first_near : (p : Parts) (item : Item) (x : Add) (rest : List Add) → near_most p item (x ∷ rest) ≡ pair_most p item (item_of_add x) + near_most p item rest
unfolding near_most
first_near p item x rest = refl

-- the same for an item that is tested against them
pub near_left : (p : Parts) (item : Item) (xs : List Add) (i : ℕ) (x : Add) → i < length xs → x ≡ get_or xs i x → near_most p item (drop i xs) ≡ pair_most p item (item_of_add x) + near_most p item (drop (i + 1) xs)
near_left p item xs i x lt is = ap (λ (ys : List Add). near_most p item ys) (left_is xs i x lt is) ∙ first_near p item x (drop (i + 1) xs)

first_own : (p : Parts) (x : Add) (rest : List Add) → own_most p (x ∷ rest) ≡ near_most p (item_of_add x) rest + own_most p rest
unfolding own_most
first_own p x rest = refl

-- the same for each two of them
pub own_left : (p : Parts) (xs : List Add) (i : ℕ) (x : Add) → i < length xs → x ≡ get_or xs i x → own_most p (drop i xs) ≡ near_most p (item_of_add x) (drop (i + 1) xs) + own_most p (drop (i + 1) xs)
own_left p xs i x lt is = ap (λ (ys : List Add). own_most p ys) (left_is xs i x lt is) ∙ first_own p x (drop (i + 1) xs)
