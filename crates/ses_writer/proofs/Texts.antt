-- The text of what one walk collected is the text of the items.
use Rattle.std.proofs.Common.{◌≡◌, ℕ, ◌+◌, ◌<◌, suc, Bool, if◌then◌else◌, List, [], ◌∷◌, ◌++◌, length, get_or, drop, slice_get, IfSome, Some, refl, arith, append_assoc, drop-cons}
use Rattle.std.proofs.lemmas.Option.{slice_get-get_or}
use Rattle.board_items.specs.declared.items.Padstack.{Padstack}
use Rattle.board_rules.specs.declared.design.NetRow.{NetRow}
use Rattle.board_items.specs.declared.items.Item.{Item}
use Rattle.board_rules.specs.declared.design.Parts.{Parts}
use Rattle.ses_writer.specs.declared.by_net.NetLists.{NetLists}
use Rattle.ses_writer.specs.Library.{is_used, stacks_text}
use Rattle.ses_writer.specs.Session.{nets_text, net_text}
use Rattle.ses_writer.specs.ByNet.{lists_of, HasLists, HasMarks, marked_text, listed_text}

marked_from : (p : Parts) (live : List (ℕ × Item)) (k : ℕ) (marks : List Bool) (stacks : List Padstack) → length marks ≡ length stacks → ((j : ℕ) (d : Bool) → j < length marks → get_or marks j d ≡ is_used live (k + j)) → marked_text p marks stacks ≡ stacks_text p live k stacks
marked_from p live k [] [] same each = refl
marked_from p live k [] (s ∷ stacks) same each = absurd (omega (arith, same))
marked_from p live k (m ∷ marks) [] same each = absurd (omega (arith, same))
marked_from p live k (m ∷ marks) (s ∷ stacks) same each =
    let none : k + 0 ≡ k = omega arith in
    let head : m ≡ is_used live (k + 0) = each 0 m (omega arith) in
    let first : m ≡ is_used live k = rw none at head in
    let less : length marks ≡ length stacks = omega (arith, same) in
    let later : (j : ℕ) (d : Bool) → j < length marks → get_or marks j d ≡ is_used live (k + 1 + j) =
    λ j d low. let e : k + 1 + j ≡ k + suc j = omega arith in rw e (each (suc j) d (omega (arith, low))) in
    rw first (rw (marked_from p live (k + 1) marks stacks less later) refl)

pub marked_is : (p : Parts) (live : List (ℕ × Item)) (marks : List Bool) → HasMarks p live marks → marked_text p marks p.stacks ≡ stacks_text p live 0 p.stacks
marked_is p live marks has = marked_from p live 0 marks p.stacks has.count (λ j d low. let e : 0 + j ≡ j = omega arith in rw e (has.each j d low))

listed_from : (p : Parts) (live : List (ℕ × Item)) (k : ℕ) (lists : List NetLists) (nets : List NetRow) → length lists ≡ length nets → ((j : ℕ) (d : NetLists) → j < length lists → get_or lists j d ≡ lists_of p live (k + j)) → listed_text lists nets ≡ nets_text p live k nets
listed_from p live k [] [] same each = refl
listed_from p live k [] (s ∷ nets) same each = absurd (omega (arith, same))
listed_from p live k (m ∷ lists) [] same each = absurd (omega (arith, same))
listed_from p live k (m ∷ lists) (s ∷ nets) same each =
    let none : k + 0 ≡ k = omega arith in
    let head : m ≡ lists_of p live (k + 0) = each 0 m (omega arith) in
    let first : m ≡ lists_of p live k = rw none at head in
    let less : length lists ≡ length nets = omega (arith, same) in
    let later : (j : ℕ) (d : NetLists) → j < length lists → get_or lists j d ≡ lists_of p live (k + 1 + j) =
    λ j d low. let e : k + 1 + j ≡ k + suc j = omega arith in rw e (each (suc j) d (omega (arith, low))) in
    rw first (rw (listed_from p live (k + 1) lists nets less later) refl)

pub listed_is : (p : Parts) (live : List (ℕ × Item)) (lists : List NetLists) → HasLists p live lists → listed_text lists p.nets ≡ nets_text p live 0 p.nets
listed_is p live lists has = listed_from p live 0 lists p.nets has.count (λ j d low. let e : 0 + j ≡ j = omega arith in rw e (has.each j d low))

rest_at : {X : Type 0} (xs : List X) (i : ℕ) (x : X) → i < length xs → get_or xs i x ≡ x → drop i xs ≡ x ∷ drop (i + 1) xs
rest_at xs i x low is =
    let step : drop i xs ≡ get_or xs i x ∷ drop (suc i) xs = drop-cons xs i x low in
    let here : drop i xs ≡ x ∷ drop (suc i) xs = rw is at step in
    let next : i + 1 ≡ suc i = omega arith in
    rw next here

named_rest : (nets : List NetRow) (i : ℕ) (name : List ℕ) → i < length nets → IfSome (slice_get nets i) (λ (row : NetRow). row.name ≡ name) → (row : NetRow) × (drop i nets ≡ row ∷ drop (i + 1) nets) × (row.name ≡ name)
named_rest [] i name low named = absurd (omega (arith, low))
named_rest (r ∷ rest) i name low named =
    let found : slice_get (r ∷ rest) i ≡ Some (get_or (r ∷ rest) i r) = slice_get-get_or (r ∷ rest) i r low in
    let same : (get_or (r ∷ rest) i r).name ≡ name = rw found at named in
    let step : drop i (r ∷ rest) ≡ get_or (r ∷ rest) i r ∷ drop (suc i) (r ∷ rest) = drop-cons (r ∷ rest) i r low in
    let next : i + 1 ≡ suc i = omega arith in
    (get_or (r ∷ rest) i r, rw next step, same)

-- one more net behind the text so far
pub listed_step : (lists : List NetLists) (nets : List NetRow) (i : ℕ) (b : NetLists) (name so_far now whole : List ℕ) → i < length lists → get_or lists i b ≡ b → i < length nets → IfSome (slice_get nets i) (λ (row : NetRow). row.name ≡ name) → so_far ++ listed_text (drop i lists) (drop i nets) ≡ whole → now ≡ so_far ++ (if b.listed then net_text name b.wires b.vias else []) → now ++ listed_text (drop (i + 1) lists) (drop (i + 1) nets) ≡ whole
listed_step lists nets i b name so_far now whole low is short named was put =
    let row = named_rest nets i name short named in
    let first : drop i lists ≡ b ∷ drop (i + 1) lists = rest_at lists i b low is in
    let second : drop i nets ≡ row.0 ∷ drop (i + 1) nets = row.1 in
    let same : row.0.name ≡ name = row.2 in
    let text : so_far ++ listed_text (b ∷ drop (i + 1) lists) (row.0 ∷ drop (i + 1) nets) ≡ whole = rw second at (rw first at was) in
    let named_text : so_far ++ ((if b.listed then net_text name b.wires b.vias else []) ++ listed_text (drop (i + 1) lists) (drop (i + 1) nets)) ≡ whole = rw same at text in
    rw put (rw (append_assoc so_far (if b.listed then net_text name b.wires b.vias else []) (listed_text (drop (i + 1) lists) (drop (i + 1) nets))) named_text)
