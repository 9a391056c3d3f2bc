-- Shapes whose boxes don't meet are apart.
use Rattle.std.proofs.Common.{◌≡◌, ℕ, ◌+◌, ◌*◌, ◌≤◌, ◌⊎◌, inl, inr, List, [], ◌∷◌, Bool, true, false, cond, arith, sym, subst}
use Rattle.std.specs.Prelude.{ℤ, pos, ◌+ℤ◌, ◌≤ℤ◌, ◌<ℤ◌, All}
use Rattle.std.specs.List.{AllByRecursion}
use Rattle.std.proofs.lemmas.Int.{ints}
use Rattle.std.proofs.lemmas.Grind.{div_ceil_times}
use Rattle.std.proofs.lemmas.List.Elements.{All-from_recursion, recursion_from_All, All-nil, All-head, All-weaker}
use Rattle.seg_geometry.specs.declared.points.Pt.{Pt}
use Rattle.seg_geometry.specs.declared.points.Seg.{Seg}
use Rattle.seg_geometry.specs.declared.rectangles.Rect.{Rect}
use Rattle.seg_geometry.specs.Apart.{IsApart}
use Rattle.seg_geometry.specs.Rectangles.{Meets}
use Rattle.seg_geometry.proofs.Strips.{IsStrip, Strips, x_of, y_of, across_strip, along_strip, strips_where_missed, meet_or_strips}
use Rattle.area_geometry.specs.Copper.{Copper, chain_segments, area_edges, pieces_of}
use Rattle.area_geometry.specs.Rings.{IsInside}
use Rattle.area_geometry.specs.Apart.{AreCoresApart, AreShapesApart, IsFirstOutside}
use Rattle.area_geometry.specs.Boxes.{half_up, IsBox, AreBoxesNear}
use Rattle.area_geometry.proofs.BothWays.{cores-turned, shapes-turned}
use Rattle.area_geometry.proofs.Framed.{has_least}
use Rattle.area_geometry.proofs.Rays.{edge_ends, chain_ends, outside_left, outside_right, outside_below, outside_above}

-- ---- pieces

chain_piece_ends : (P : Pt → Type 0) (ps : List Pt) → AllByRecursion P ps → AllByRecursion (λ (e : Seg). P e.a × P e.b) (chain_segments ps)
unfolding chain_segments
chain_piece_ends P [] h = tt
chain_piece_ends P (p ∷ []) h = chain_ends P p (p ∷ []) h.0 h
chain_piece_ends P (p ∷ q ∷ rest) h = chain_ends P p (q ∷ rest) h.0 h.1

piece_ends_by : (P : Pt → Type 0) (b : Bool) (ps : List Pt) → AllByRecursion P ps → AllByRecursion (λ (e : Seg). P e.a × P e.b) (cond b (area_edges ps) (chain_segments ps))
piece_ends_by P true ps h = edge_ends P ps h
piece_ends_by P false ps h = chain_piece_ends P ps h

-- both ends of each piece of a shape are among its points
pub piece_ends : (P : Pt → Type 0) (s : Copper) → All P s.points → All (λ (e : Seg). P e.a × P e.b) (pieces_of s)
unfolding pieces_of
piece_ends P s h = All-from_recursion (λ (e : Seg). P e.a × P e.b) _ (piece_ends_by P s.area s.points (recursion_from_All P s.points h))

-- ---- a strip between two shapes

first_outside : (P : Pt → Type 0) (ps ring : List Pt) → ((v : Pt) → P v → IsInside v ring → ⊥) → All P ps → IsFirstOutside ps ring
first_outside P [] ring f h = tt
first_outside P (p ∷ rest) ring f h = f p (All-head P p rest h)

passed : (x m n y : ℤ) (g : ℕ) → x ≤ℤ m → (m +ℤ pos g) <ℤ n → n ≤ℤ y → x <ℤ y
passed x m n y g h far k = omega (arith, ints)

all_of : (P Q : Pt → Type 0) (ps : List Pt) → ((p : Pt) → P p → Q p) → All P ps → AllByRecursion Q ps
all_of P Q ps f h = recursion_from_All Q ps (All-weaker P Q f ps h)

pub apart_across : (s t : Copper) (k g : ℕ) → k ≤ g + g → IsStrip x_of s.points t.points g → AreCoresApart s t k
apart_across s t k g le w = record {
  pieces = record {
    each = All-weaker (λ (e : Seg). (e.a.x ≤ℤ w.m) × (e.b.x ≤ℤ w.m)) (λ (e : Seg). All (λ f. IsApart e f k) (pieces_of t))
        (λ e low. All-weaker (λ (f : Seg). (w.n ≤ℤ f.a.x) × (w.n ≤ℤ f.b.x)) (λ (f : Seg). IsApart e f k)
        (λ f high. across_strip e f k g w.m w.n le w.far (record { a = low.0; b = low.1; other_a = high.0; other_b = high.1 })) (pieces_of t) (piece_ends (λ q. w.n ≤ℤ q.x) t w.behind))
        (pieces_of s) (piece_ends (λ p. p.x ≤ℤ w.m) s w.before);
  };
  first = record {
    outside = λ _. first_outside (λ p. p.x ≤ℤ w.m) s.points t.points
        (λ v h. outside_left v t.points (all_of (λ q. w.n ≤ℤ q.x) (λ q. v.x <ℤ q.x) t.points (λ q k. passed v.x w.m w.n q.x g h w.far k) w.behind)) w.before;
  };
  other_first = record {
    outside = λ _. first_outside (λ q. w.n ≤ℤ q.x) t.points s.points
        (λ v h. outside_right v s.points (all_of (λ p. p.x ≤ℤ w.m) (λ p. p.x <ℤ v.x) s.points (λ p k. passed p.x w.m w.n v.x g k w.far h) w.before)) w.behind;
  };
}

pub apart_upright : (s t : Copper) (k g : ℕ) → k ≤ g + g → IsStrip y_of s.points t.points g → AreCoresApart s t k
apart_upright s t k g le w = record {
  pieces = record {
    each = All-weaker (λ (e : Seg). (e.a.y ≤ℤ w.m) × (e.b.y ≤ℤ w.m)) (λ (e : Seg). All (λ f. IsApart e f k) (pieces_of t))
        (λ e low. All-weaker (λ (f : Seg). (w.n ≤ℤ f.a.y) × (w.n ≤ℤ f.b.y)) (λ (f : Seg). IsApart e f k)
        (λ f high. along_strip e f k g w.m w.n le w.far (record { a = low.0; b = low.1; other_a = high.0; other_b = high.1 })) (pieces_of t) (piece_ends (λ q. w.n ≤ℤ q.y) t w.behind))
        (pieces_of s) (piece_ends (λ p. p.y ≤ℤ w.m) s w.before);
  };
  first = record {
    outside = λ _. first_outside (λ p. p.y ≤ℤ w.m) s.points t.points
        (λ v h. outside_below v t.points (all_of (λ q. w.n ≤ℤ q.y) (λ q. v.y <ℤ q.y) t.points (λ q k. passed v.y w.m w.n q.y g h w.far k) w.behind)) w.before;
  };
  other_first = record {
    outside = λ _. first_outside (λ q. w.n ≤ℤ q.y) t.points s.points
        (λ v h. outside_above v s.points (all_of (λ p. p.y ≤ℤ w.m) (λ p. p.y <ℤ v.y) s.points (λ p k. passed p.y w.m w.n v.y g k w.far h) w.before)) w.behind;
  };
}

pub apart_by_strips : (s t : Copper) (k g : ℕ) → k ≤ g + g → Strips s.points t.points g → AreCoresApart s t k
apart_by_strips s t k g le (inl (inl w)) = apart_across s t k g le w
apart_by_strips s t k g le (inl (inr w)) = cores-turned t s k (apart_across t s k g le w)
apart_by_strips s t k g le (inr (inl w)) = apart_upright s t k g le w
apart_by_strips s t k g le (inr (inr w)) = cores-turned t s k (apart_upright t s k g le w)

-- ---- boxes

half_enough : (n : ℕ) → n ≤ half_up n + half_up n
half_enough n = let e = div_ceil_times n 2 (omega arith) in omega (arith, e.0)

-- shapes of which the boxes, moved out by c together, don't meet where the shapes share a layer are apart by c
pub apart_by_boxes : (s t : Copper) (c by out : ℕ) (r o : Rect) → c ≤ by + out → IsBox r s by → IsBox o t out → (s.layer ≡ t.layer → Meets r o → ⊥) → AreShapesApart s t c
apart_by_boxes s t c by out r o le h k missed = record {
  apart = λ same.
      let a = half_enough s.width in
      let b = half_enough t.width in
      apart_by_strips s t (s.width + t.width + 2 * c) ((half_up s.width + by) + (half_up t.width + out)) (omega arith)
      (strips_where_missed r o s.points t.points (half_up s.width + by) (half_up t.width + out) h.box k.box (missed same));
}

-- a shape without points is apart from all others
pub apart_from_nothing : (s t : Copper) (c : ℕ) → s.points ≡ [] → AreShapesApart s t c
apart_from_nothing s t c none =
    let k = s.width + t.width + 2 * c in
    let empty : All (λ (p : Pt). ⊥) s.points = subst (λ (ps : List Pt). All (λ (p : Pt). ⊥) ps) (sym none) (All-nil (λ (p : Pt). ⊥)) in
    record {
      apart = λ same. record {
        pieces = record { each = All-weaker (λ (e : Seg). ⊥ × ⊥) (λ (e : Seg). All (λ f. IsApart e f k) (pieces_of t)) (λ e h. absurd h.0) (pieces_of s) (piece_ends (λ p. ⊥) s empty) };
        first = record { outside = λ _. first_outside (λ p. ⊥) s.points t.points (λ v h. absurd h) empty };
        other_first = record {
          outside = λ _. first_outside (λ p. Unit {0}) t.points s.points
              (λ v h. outside_left v s.points (all_of (λ p. ⊥) (λ p. v.x <ℤ p.x) s.points (λ p w. absurd w) empty)) (λ i d lt. tt);
        };
      };
    }

-- ---- near or apart

near_if : (s t : Copper) (c by : ℕ) → c ≤ by → (r o : Rect) → IsBox r s by → IsBox o t 0 → s.layer ≡ t.layer → AreBoxesNear by s t ⊎ AreShapesApart s t c
near_if s t c by le r o h k same = elim (meet_or_strips r o s.points t.points (half_up s.width + by) (half_up t.width + 0) h.box k.box) [
  | inl meet ↦ inl (record { same_layer = same; box = r; other = o; box_is = h; other_is = k; meet = meet })
  | inr strips ↦
      let a = half_enough s.width in
      let b = half_enough t.width in
      inr (record { apart = λ _. apart_by_strips s t (s.width + t.width + 2 * c) ((half_up s.width + by) + (half_up t.width + 0)) (omega arith) strips })
]

-- the boxes of two shapes meet, with that of the first moved out, or the shapes are apart by as much
pub near_or_apart : (s t : Copper) (c by : ℕ) → c ≤ by → AreBoxesNear by s t ⊎ AreShapesApart s t c
near_or_apart s t c by le = elim (has_least s.points (half_up s.width + by)) [
  | inl none ↦ inr (apart_from_nothing s t c none)
  | inr r ↦ elim (has_least t.points (half_up t.width + 0)) [
    | inl none ↦ inr (shapes-turned t s c (apart_from_nothing t s c none))
    | inr o ↦
        let split : (s.layer ≡ t.layer) ⊎ (s.layer ≡ t.layer → ⊥) = grind arith in
        elim split [
          | inl same ↦ near_if s t c by le r.0 o.0 (record { box = r.1 }) (record { box = o.1 }) same
          | inr other ↦ inr (record { apart = λ same. absurd (other same) })
        ]
  ]
]
