-- How many segments or edges a shape has, and which they are.
use Rattle.std.proofs.Common.{◌≡◌, ℕ, zero, suc, ◌+◌, ◌-◌, ◌<◌, ◌⊎◌, inl, inr, List, [], ◌∷◌, ◌++◌, Bool, true, false, cond, length, get_or, arith, refl, sym, ap, ◌∙◌}
use Rattle.std.specs.Prelude.{Some, slice_get}
use Rattle.std.proofs.lemmas.List.{get_or_append_left, get_or_push, length_push}
use Rattle.std.proofs.lemmas.Option.{slice_get-get_or, get_or_from_slice_get}
use Rattle.seg_geometry.specs.declared.points.Pt.{Pt}
use Rattle.seg_geometry.specs.declared.points.Seg.{Seg}
use Rattle.area_geometry.specs.Copper.{Copper, path, chain_segments, area_edges, pieces_of}

length-path : (p : Pt) (rest : List Pt) → length (path p rest) ≡ length rest
unfolding path
length-path p [] = refl
length-path p (q ∷ rest) = ap suc (length-path q rest)

get_or-path : (p : Pt) (rest : List Pt) (i : ℕ) (d : Seg) (e : Pt) → i < length rest
    → get_or (path p rest) i d ≡ record { a = get_or (p ∷ rest) i e; b = get_or rest i e }
unfolding path
get_or-path p [] i d e h = absurd (omega arith)
get_or-path p (q ∷ rest) zero d e h = refl
get_or-path p (q ∷ rest) (suc i) d e h = get_or-path q rest i d e (omega arith)

-- ---- an area

pub length-area_edges : (points : List Pt) → length (area_edges points) ≡ length points
unfolding area_edges
length-area_edges [] = refl
length-area_edges (p ∷ rest) = length-path p (rest ++ p ∷ []) ∙ length_push rest p ∙ omega arith

edge_on : (points : List Pt) (i : ℕ) (d : Seg) (e : Pt) → suc i < length points
    → get_or (area_edges points) i d ≡ record { a = get_or points i e; b = get_or points (suc i) e }
unfolding area_edges
edge_on [] i d e h = absurd (omega arith)
edge_on (p ∷ rest) i d e h =
    let n : length (rest ++ p ∷ []) ≡ length rest + 1 = length_push rest p in
    get_or-path p (rest ++ p ∷ []) i d e (omega arith)
    ∙ (λ z. record { a = get_or_append_left (p ∷ rest) (p ∷ []) e i (omega arith) z; b = get_or_append_left rest (p ∷ []) e i (omega arith) z })

edge_back : (points : List Pt) (i : ℕ) (d : Seg) (e : Pt) → suc i ≡ length points
    → get_or (area_edges points) i d ≡ record { a = get_or points i e; b = get_or points 0 e }
unfolding area_edges
edge_back [] i d e h = absurd (omega arith)
edge_back (p ∷ rest) i d e h =
    let n : length (rest ++ p ∷ []) ≡ length rest + 1 = length_push rest p in
    get_or-path p (rest ++ p ∷ []) i d e (omega arith)
    ∙ (λ z. record { a = get_or_append_left (p ∷ rest) (p ∷ []) e i (omega arith) z; b = get_or_push rest p e i (omega arith) z })

-- ---- a chain

length-chain_single : (points : List Pt) → length points ≡ 1 → length (chain_segments points) ≡ 1
unfolding chain_segments
length-chain_single [] h = absurd (omega arith)
length-chain_single (p ∷ []) h = length-path p (p ∷ [])
length-chain_single (p ∷ q ∷ rest) h = absurd (omega arith)

length-chain_segments : (points : List Pt) → (length points ≡ 1 → ⊥) → length (chain_segments points) ≡ length points - 1
unfolding chain_segments
length-chain_segments [] h = refl
length-chain_segments (p ∷ []) h = absurd (h refl)
length-chain_segments (p ∷ q ∷ rest) h = length-path p (q ∷ rest) ∙ omega arith

segment_on : (points : List Pt) (i : ℕ) (d : Seg) (e : Pt) → suc i < length points
    → get_or (chain_segments points) i d ≡ record { a = get_or points i e; b = get_or points (suc i) e }
unfolding chain_segments
segment_on [] i d e h = absurd (omega arith)
segment_on (p ∷ []) i d e h = absurd (omega arith)
segment_on (p ∷ q ∷ rest) i d e h = get_or-path p (q ∷ rest) i d e (omega arith)

segment_alone : (points : List Pt) (i : ℕ) (d : Seg) (e : Pt) → i < length (chain_segments points) → suc i ≡ length points
    → get_or (chain_segments points) i d ≡ record { a = get_or points i e; b = get_or points 0 e }
unfolding chain_segments
segment_alone [] i d e h k = absurd (omega arith)
segment_alone (p ∷ []) zero d e h k = get_or-path p (p ∷ []) 0 d e (omega arith)
segment_alone (p ∷ []) (suc i) d e h k = absurd (omega arith)
segment_alone (p ∷ q ∷ rest) i d e h k = absurd (let n : length (path p (q ∷ rest)) ≡ suc (length rest) = length-path p (q ∷ rest) in omega arith)

-- ---- a shape

pub count_area : (s : Copper) → s.area ≡ true → length (pieces_of s) ≡ length s.points
unfolding pieces_of
count_area s h = ap (λ (b : Bool). length (cond b (area_edges s.points) (chain_segments s.points))) h ∙ length-area_edges s.points

pub count_chain : (s : Copper) → s.area ≡ false → (length s.points ≡ 1 → ⊥) → length (pieces_of s) ≡ length s.points - 1
unfolding pieces_of
count_chain s h k = ap (λ (b : Bool). length (cond b (area_edges s.points) (chain_segments s.points))) h ∙ length-chain_segments s.points k

one_piece : (b : Bool) (points : List Pt) → length points ≡ 1 → length (cond b (area_edges points) (chain_segments points)) ≡ 1
one_piece true points h = length-area_edges points ∙ h
one_piece false points h = length-chain_single points h

pub count_single : (s : Copper) → length s.points ≡ 1 → length (pieces_of s) ≡ 1
unfolding pieces_of
count_single s h = one_piece s.area s.points h

few_pieces : (b : Bool) (points : List Pt) (i : ℕ) → i < length (cond b (area_edges points) (chain_segments points)) → i < length points
few_pieces true points i h = let n = length-area_edges points in omega arith
few_pieces false [] i h = let n : length (chain_segments []) ≡ 0 = length-chain_segments [] (λ (k : 0 ≡ 1). omega arith) in omega arith
few_pieces false (p ∷ []) i h = let n = length-chain_single (p ∷ []) refl in omega arith
few_pieces false (p ∷ q ∷ rest) i h = let n = length-chain_segments (p ∷ q ∷ rest) (λ (k : suc (suc (length rest)) ≡ 1). omega arith) in omega arith

pub pieces_within : (s : Copper) (i : ℕ) → i < length (pieces_of s) → i < length s.points
unfolding pieces_of
pieces_within s i h = few_pieces s.area s.points i h

piece_on : (b : Bool) (points : List Pt) (i : ℕ) (d : Seg) (e : Pt) → suc i < length points
    → get_or (cond b (area_edges points) (chain_segments points)) i d ≡ record { a = get_or points i e; b = get_or points (suc i) e }
piece_on true points i d e h = edge_on points i d e h
piece_on false points i d e h = segment_on points i d e h

piece_back : (b : Bool) (points : List Pt) (i : ℕ) (d : Seg) (e : Pt) → i < length (cond b (area_edges points) (chain_segments points)) → suc i ≡ length points
    → get_or (cond b (area_edges points) (chain_segments points)) i d ≡ record { a = get_or points i e; b = get_or points 0 e }
piece_back true points i d e k h = edge_back points i d e h
piece_back false points i d e k h = segment_alone points i d e k h

piece_or : (s : Copper) (i j : ℕ) (d : Seg) (e : Pt) → i < length (pieces_of s)
    → (suc i < length s.points → j ≡ suc i) → (suc i ≡ length s.points → j ≡ 0)
    → get_or (pieces_of s) i d ≡ record { a = get_or s.points i e; b = get_or s.points j e }
unfolding pieces_of
piece_or s i j d e h on back =
    let within : i < length s.points = few_pieces s.area s.points i h in
    let split : (suc i < length s.points) ⊎ (suc i ≡ length s.points) = grind arith in
    elim split [
      | inl more ↦ piece_on s.area s.points i d e more ∙ ap (λ (z : ℕ). record { a = get_or s.points i e; b = get_or s.points z e }) (sym (on more))
      | inr last ↦ piece_back s.area s.points i d e h last ∙ ap (λ (z : ℕ). record { a = get_or s.points i e; b = get_or s.points z e }) (sym (back last))
    ]

-- the piece that leads from point i to the point that follows it round the ring
pub piece_is : (s : Copper) (i j : ℕ) (a b : Pt) → i < length (pieces_of s) → slice_get s.points i ≡ Some a → slice_get s.points j ≡ Some b
    → (suc i < length s.points → j ≡ suc i) → (suc i ≡ length s.points → j ≡ 0) → slice_get (pieces_of s) i ≡ Some (record { a = a; b = b })
piece_is s i j a b h ea eb on back =
    let d : Seg = record { a = a; b = b } in
    slice_get-get_or (pieces_of s) i d h
    ∙ ap Some (piece_or s i j d a h on back ∙ (λ z. record { a = get_or_from_slice_get s.points i a a ea z; b = get_or_from_slice_get s.points j b a eb z }))

pub area_pieces : (s : Copper) → s.area ≡ true → pieces_of s ≡ area_edges s.points
unfolding pieces_of
area_pieces s h = ap (λ (b : Bool). cond b (area_edges s.points) (chain_segments s.points)) h

pub follows_within : (i j n : ℕ) → i < n → (i + 1 < n → j ≡ i + 1) → (i + 1 ≡ n → j ≡ 0) → j < n
follows_within i j n h on back = grind arith
