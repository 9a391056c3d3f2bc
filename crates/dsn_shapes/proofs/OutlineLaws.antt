-- The areas that a boundary states are those that are read, and the fault of one is the one that is told.
use Rattle.std.proofs.Common.{◌≡◌, ℕ, Bool, true, false, cond, List, [], ◌∷◌, ◌++◌, Ok, Err, refl, sym, ap, subst, ◌∙◌, append_assoc, inl, inr, ◌⊎◌}
use Rattle.std.proofs.lemmas.List.{append-nil}
use Rattle.sexp_text.specs.Forest.{Forest, End, Word, Branch}
use Rattle.sexp_text.specs.declared.units.Unit.{Unit as LengthUnit}
use Rattle.seg_geometry.specs.declared.points.Pt.{Pt}
use Rattle.dsn_lists.specs.declared.faults.DesignFault.{DesignFault}
use Rattle.dsn_lists.specs.declared.faults.DesignKind.TheVariants as kind
use Rattle.dsn_lists.specs.declared.marks.Mark.{Mark}
use Rattle.dsn_lists.specs.Results.{Read, ◌>>=◌, wrong}
use Rattle.dsn_lists.specs.Words.{mark, word_of}
use Rattle.dsn_lists.specs.Layers.{is_every}
use Rattle.dsn_lists.specs.Lists.{told}
use Rattle.dsn_lists.proofs.Firsts.{made, failed, ok_is, bind_ok, bind_err, word_fault, word_fault_again}
use Rattle.dsn_lists.proofs.JoinLaws.{Adds, joins_found, joins_again, joins_fault, joins_fault_again}
use Rattle.dsn_shapes.specs.declared.rings.Ring.{Ring}
use Rattle.dsn_shapes.specs.declared.drawn.ShapeWord.{ShapeWord}
use Rattle.dsn_shapes.specs.declared.drawn.ShapeWord.TheVariants as shapes
use Rattle.dsn_shapes.specs.Rings.{opened, rect_of, ring_of}
use Rattle.dsn_shapes.specs.Drawn.{shape_word}
use Rattle.dsn_shapes.specs.Outlines.{outline_layer, rect_outline, ring_outline, outline_list, outline_of, outline_item, outlines_of}
use Rattle.dsn_shapes.specs.RectLists.{IsRect, RectFault}
use Rattle.dsn_shapes.specs.RingLists.{IsRingOf, IsRing, RingFault}
use Rattle.dsn_shapes.specs.OutlineLists.{OnEvery, IsAreaBy, IsArea, StatesArea, OnEveryFault, AreaByFault, AreaFault, IsBoundary, BoundaryFault}
use Rattle.dsn_shapes.proofs.OpenedLaws.{opened_found, opened_only}
use Rattle.dsn_shapes.proofs.ShapeLaws.{rect_meets, ring_meets}

-- ---- the word of the layer

layer_found : (a : ℕ) (text : List ℕ) (x : Unit {0}) → outline_layer (mark a text) ≡ Ok x → is_every text ≡ true
unfolding outline_layer
layer_found a text x e = by (is_every text) refl e
  where
    by : (b : Bool) → is_every text ≡ b → cond b (made (tt {0})) (wrong kind.Layer a) ≡ Ok x → is_every text ≡ true
    by true is e = is
    by false is e = absurd cc

layer_again : (a : ℕ) (text : List ℕ) → is_every text ≡ true → outline_layer (mark a text) ≡ Ok tt
unfolding outline_layer
layer_again a text h = rw h refl

layer_fault : (a : ℕ) (text : List ℕ) (e : DesignFault) → outline_layer (mark a text) ≡ Err e → (is_every text ≡ false) × (e ≡ told kind.Layer a)
unfolding outline_layer
layer_fault a text e h = by (is_every text) refl h
  where
    by : (b : Bool) → is_every text ≡ b → cond b (made (tt {0})) (wrong kind.Layer a) ≡ Err e → (is_every text ≡ false) × (e ≡ told kind.Layer a)
    by true is h = absurd cc
    by false is h = (is, cc)

layer_fault_again : (a : ℕ) (text : List ℕ) (e : DesignFault) → is_every text ≡ false → e ≡ told kind.Layer a → outline_layer (mark a text) ≡ Err e
unfolding outline_layer
layer_fault_again a text e h is = rw (h, is) refl

-- ---- an area behind the word of its layer, over any way to read what follows

-- what is read behind the word, and the area of it
abbrev area_rest : {A : Type 0} → (Forest → Read A) → (A → List Pt) → Forest → Read (List Pt)
area_rest read area rest = read rest >>= λ x. made (area x)

abbrev on_every : {A : Type 0} → (Forest → Read A) → (A → List Pt) → ℕ → Forest → Read (List Pt)
on_every read area at f = word_of at f >>= λ w. outline_layer w.0 >>= λ _. area_rest read area w.1

every_found : {A : Type 0} (read : Forest → Read A) (area : A → List Pt) (States : Forest → List Pt → Type 0) → ((f : Forest) (x : A) → read f ≡ Ok x → States f (area x))
    → (at : ℕ) (f : Forest) (ps : List Pt) → on_every read area at f ≡ Ok ps → OnEvery (λ rest. States rest ps) f
unfolding word_of
every_found read area States found at End ps e = absurd cc
every_found read area States found at (Branch a inside rest) ps e = absurd cc
every_found read area States found at (Word a text rest) ps e =
    let n = bind_ok (outline_layer (mark a text)) (λ _. area_rest read area rest) ps e in
    let x = bind_ok (read rest) (λ x. made (area x)) ps n.2 in
    (layer_found a text n.0 n.1, subst (λ (qs : List Pt). States rest qs) (ok_is (area x.0) ps x.2) (found rest x.0 x.1))

every_again : {A : Type 0} (read : Forest → Read A) (area : A → List Pt) (States : Forest → List Pt → Type 0) → ((f : Forest) (ps : List Pt) → States f ps → (x : A) × (read f ≡ Ok x) × (area x ≡ ps))
    → (at : ℕ) (f : Forest) (ps : List Pt) → OnEvery (λ rest. States rest ps) f → on_every read area at f ≡ Ok ps
unfolding word_of
every_again read area States again at End ps h = absurd h
every_again read area States again at (Branch a inside rest) ps h = absurd h
every_again read area States again at (Word a text rest) ps h =
    let x = again rest ps h.1 in
    rw (layer_again a text h.0, x.1) (ap made x.2)

abbrev EveryWordFault : (Forest → DesignFault → Type 0) → ℕ → List ℕ → Forest → DesignFault → Type 0
EveryWordFault HasFault a text rest e = ((is_every text ≡ false) × (e ≡ told kind.Layer a)) ⊎ ((is_every text ≡ true) × HasFault rest e)

area_rest_fault : {A : Type 0} (read : Forest → Read A) (area : A → List Pt) (HasFault : Forest → DesignFault → Type 0) → ((f : Forest) (e : DesignFault) → read f ≡ Err e → HasFault f e)
    → (rest : Forest) (e : DesignFault) → area_rest read area rest ≡ Err e → HasFault rest e
area_rest_fault read area HasFault fault rest e h =
    elim (bind_err (read rest) (λ x. made (area x)) e h) [
      | inl here ↦ fault rest e here
      | inr later ↦ absurd cc
    ]

every_word : {A : Type 0} (read : Forest → Read A) (area : A → List Pt) (HasFault : Forest → DesignFault → Type 0) → ((f : Forest) (e : DesignFault) → read f ≡ Err e → HasFault f e)
    → (a : ℕ) (text : List ℕ) (rest : Forest) (e : DesignFault) → (outline_layer (mark a text) >>= λ _. area_rest read area rest) ≡ Err e → EveryWordFault HasFault a text rest e
every_word read area HasFault fault a text rest e h =
    elim (bind_err (outline_layer (mark a text)) (λ _. area_rest read area rest) e h) [
      | inl here ↦ inl (layer_fault a text e here)
      | inr later ↦ inr (layer_found a text later.0 later.1, area_rest_fault read area HasFault fault rest e later.2)
    ]

every_fault : {A : Type 0} (read : Forest → Read A) (area : A → List Pt) (HasFault : Forest → DesignFault → Type 0) → ((f : Forest) (e : DesignFault) → read f ≡ Err e → HasFault f e)
    → (at : ℕ) (f : Forest) (e : DesignFault) → on_every read area at f ≡ Err e → OnEveryFault at HasFault f e
every_fault read area HasFault fault at f e h =
    word_fault _ (EveryWordFault HasFault) at f e (λ a text rest k. every_word read area HasFault fault a text rest e k) h

every_word_again : {A : Type 0} (read : Forest → Read A) (area : A → List Pt) (HasFault : Forest → DesignFault → Type 0) → ((f : Forest) (e : DesignFault) → HasFault f e → read f ≡ Err e)
    → (a : ℕ) (text : List ℕ) (rest : Forest) (e : DesignFault) → EveryWordFault HasFault a text rest e → (outline_layer (mark a text) >>= λ _. area_rest read area rest) ≡ Err e
every_word_again read area HasFault first a text rest e (inl here) = rw (layer_fault_again a text e here.0 here.1) refl
every_word_again read area HasFault first a text rest e (inr later) = rw (layer_again a text later.0, first rest e later.1) refl

every_first : {A : Type 0} (read : Forest → Read A) (area : A → List Pt) (HasFault : Forest → DesignFault → Type 0) → ((f : Forest) (e : DesignFault) → HasFault f e → read f ≡ Err e)
    → (at : ℕ) (f : Forest) (e : DesignFault) → OnEveryFault at HasFault f e → on_every read area at f ≡ Err e
every_first read area HasFault first at f e h =
    word_fault_again _ (EveryWordFault HasFault) at f e (λ a text rest k. every_word_again read area HasFault first a text rest e k) h

-- ---- rectangles and rings

abbrev ring_area : Ring → List Pt
ring_area r = r.points

abbrev HasRingArea : LengthUnit → Forest → List Pt → Type 0
HasRingArea u f ps = (r : Ring) × IsRing u f r × (ps ≡ r.points)

abbrev HasRectArea : LengthUnit → Forest → List Pt → Type 0
HasRectArea u f ps = (corners : List Pt) × IsRect u f corners × IsRingOf corners ps

rects_are : (u : LengthUnit) (at : ℕ) (f : Forest) → rect_outline u at f ≡ on_every (rect_of u at) opened at f
unfolding rect_outline
rects_are u at f = refl

rings_are : (u : LengthUnit) (at : ℕ) (f : Forest) → ring_outline u at f ≡ on_every (ring_of u at) ring_area at f
unfolding ring_outline
rings_are u at f = refl

rect_area_found : (u : LengthUnit) (at : ℕ) (f : Forest) (ps : List Pt) → rect_of u at f ≡ Ok ps → HasRectArea u f (opened ps)
rect_area_found u at f ps e = (ps, (rect_meets u at).found f ps e, opened_found ps)

rect_area_again : (u : LengthUnit) (at : ℕ) (f : Forest) (ps : List Pt) → HasRectArea u f ps → (x : List Pt) × (rect_of u at f ≡ Ok x) × (opened x ≡ ps)
rect_area_again u at f ps h = (h.0, (rect_meets u at).again f h.0 h.1, opened_only h.0 ps h.2)

ring_area_found : (u : LengthUnit) (at : ℕ) (f : Forest) (r : Ring) → ring_of u at f ≡ Ok r → HasRingArea u f r.points
ring_area_found u at f r e = (r, (ring_meets u at).found f r e, refl)

ring_area_again : (u : LengthUnit) (at : ℕ) (f : Forest) (ps : List Pt) → HasRingArea u f ps → (r : Ring) × (ring_of u at f ≡ Ok r) × (r.points ≡ ps)
ring_area_again u at f ps h = (h.0, (ring_meets u at).again f h.0 h.1, sym h.2)

ring_found : (u : LengthUnit) (at : ℕ) (f : Forest) (ps : List Pt) → ring_outline u at f ≡ Ok ps → OnEvery (λ rest. HasRingArea u rest ps) f
ring_found u at f ps e = every_found (ring_of u at) ring_area (HasRingArea u) (ring_area_found u at) at f ps (sym (rings_are u at f) ∙ e)

ring_again : (u : LengthUnit) (at : ℕ) (f : Forest) (ps : List Pt) → OnEvery (λ rest. HasRingArea u rest ps) f → ring_outline u at f ≡ Ok ps
ring_again u at f ps h = rings_are u at f ∙ every_again (ring_of u at) ring_area (HasRingArea u) (ring_area_again u at) at f ps h

ring_fault : (u : LengthUnit) (at : ℕ) (f : Forest) (e : DesignFault) → ring_outline u at f ≡ Err e → OnEveryFault at (RingFault u at) f e
ring_fault u at f e h = every_fault (ring_of u at) ring_area (RingFault u at) (ring_meets u at).fault at f e (sym (rings_are u at f) ∙ h)

ring_first : (u : LengthUnit) (at : ℕ) (f : Forest) (e : DesignFault) → OnEveryFault at (RingFault u at) f e → ring_outline u at f ≡ Err e
ring_first u at f e h = rings_are u at f ∙ every_first (ring_of u at) ring_area (RingFault u at) (ring_meets u at).first at f e h

-- ---- a list of a boundary

by_found : (u : LengthUnit) (at : ℕ) (w : Mark) (f : Forest) (k : ShapeWord) (ps : List Pt) → outline_list u at w f k ≡ Ok ps → IsAreaBy u k f ps
by_found u at w f shapes.Circle ps e = absurd cc
by_found u at w f shapes.Path ps e = ring_found u at f ps e
by_found u at w f shapes.Rect ps e = every_found (rect_of u at) opened (HasRectArea u) (rect_area_found u at) at f ps (sym (rects_are u at f) ∙ e)
by_found u at w f shapes.Polygon ps e = ring_found u at f ps e
by_found u at w f shapes.Arc ps e = absurd cc
by_found u at w f shapes.Polyline ps e = absurd cc
by_found u at w f shapes.Window ps e = absurd cc
by_found u at w f shapes.Other ps e = absurd cc

by_again : (u : LengthUnit) (at : ℕ) (w : Mark) (f : Forest) (k : ShapeWord) (ps : List Pt) → IsAreaBy u k f ps → outline_list u at w f k ≡ Ok ps
by_again u at w f shapes.Circle ps h = absurd h
by_again u at w f shapes.Path ps h = ring_again u at f ps h
by_again u at w f shapes.Rect ps h = rects_are u at f ∙ every_again (rect_of u at) opened (HasRectArea u) (rect_area_again u at) at f ps h
by_again u at w f shapes.Polygon ps h = ring_again u at f ps h
by_again u at w f shapes.Arc ps h = absurd h
by_again u at w f shapes.Polyline ps h = absurd h
by_again u at w f shapes.Window ps h = absurd h
by_again u at w f shapes.Other ps h = absurd h

by_fault : (u : LengthUnit) (at : ℕ) (w : Mark) (f : Forest) (k : ShapeWord) (e : DesignFault) → outline_list u at w f k ≡ Err e → AreaByFault u at w.at k f e
by_fault u at w f shapes.Circle e h = cc
by_fault u at w f shapes.Path e h = ring_fault u at f e h
by_fault u at w f shapes.Rect e h = every_fault (rect_of u at) opened (RectFault u at) (rect_meets u at).fault at f e (sym (rects_are u at f) ∙ h)
by_fault u at w f shapes.Polygon e h = ring_fault u at f e h
by_fault u at w f shapes.Arc e h = cc
by_fault u at w f shapes.Polyline e h = cc
by_fault u at w f shapes.Window e h = cc
by_fault u at w f shapes.Other e h = cc

by_first : (u : LengthUnit) (at : ℕ) (w : Mark) (f : Forest) (k : ShapeWord) (e : DesignFault) → AreaByFault u at w.at k f e → outline_list u at w f k ≡ Err e
by_first u at w f shapes.Circle e h = ap failed (sym h)
by_first u at w f shapes.Path e h = ring_first u at f e h
by_first u at w f shapes.Rect e h = rects_are u at f ∙ every_first (rect_of u at) opened (RectFault u at) (rect_meets u at).first at f e h
by_first u at w f shapes.Polygon e h = ring_first u at f e h
by_first u at w f shapes.Arc e h = ap failed (sym h)
by_first u at w f shapes.Polyline e h = ap failed (sym h)
by_first u at w f shapes.Window e h = ap failed (sym h)
by_first u at w f shapes.Other e h = ap failed (sym h)

area_found : (u : LengthUnit) (at : ℕ) (inside : Forest) (ps : List Pt) → outline_of u at inside ≡ Ok ps → IsArea u inside ps
unfolding outline_of word_of
area_found u at End ps e = absurd cc
area_found u at (Branch a inside rest) ps e = absurd cc
area_found u at (Word a text rest) ps e = by_found u at (mark a text) rest (shape_word text) ps e

area_again : (u : LengthUnit) (at : ℕ) (inside : Forest) (ps : List Pt) → IsArea u inside ps → outline_of u at inside ≡ Ok ps
unfolding outline_of word_of
area_again u at End ps h = absurd h
area_again u at (Branch a inside rest) ps h = absurd h
area_again u at (Word a text rest) ps h = by_again u at (mark a text) rest (shape_word text) ps h

abbrev AreaWordFault : LengthUnit → ℕ → ℕ → List ℕ → Forest → DesignFault → Type 0
AreaWordFault u at a text rest e = AreaByFault u at a (shape_word text) rest e

area_fault : (u : LengthUnit) (before : Forest) (at : ℕ) (inside : Forest) (e : DesignFault) → outline_of u at inside ≡ Err e → AreaFault u before at inside e
unfolding outline_of
area_fault u before at inside e h = word_fault _ (AreaWordFault u at) at inside e (λ a text rest k. by_fault u at (mark a text) rest (shape_word text) e k) h

area_first : (u : LengthUnit) (before : Forest) (at : ℕ) (inside : Forest) (e : DesignFault) → AreaFault u before at inside e → outline_of u at inside ≡ Err e
unfolding outline_of
area_first u before at inside e h = word_fault_again _ (AreaWordFault u at) at inside e (λ a text rest k. by_first u at (mark a text) rest (shape_word text) e k) h

item_found : (u : LengthUnit) (areas : List (List Pt)) (at : ℕ) (inside : Forest) (more : List (List Pt)) → outline_item u areas at inside ≡ Ok more
    → (xs : List (List Pt)) × StatesArea u inside xs × (more ≡ areas ++ xs)
unfolding outline_item
item_found u areas at inside more e =
    let ps = bind_ok (outline_of u at inside) (λ ps. made (areas ++ ps ∷ [])) more e in
    (ps.0 ∷ [], (ps.0, area_found u at inside ps.0 ps.1, refl), sym (ok_is (areas ++ ps.0 ∷ []) more ps.2))

item_again : (u : LengthUnit) (areas : List (List Pt)) (at : ℕ) (inside : Forest) (xs : List (List Pt)) → StatesArea u inside xs → outline_item u areas at inside ≡ Ok (areas ++ xs)
unfolding outline_item
item_again u areas at inside xs h = rw (area_again u at inside h.0 h.1) (ap (λ (ys : List (List Pt)). made (areas ++ ys)) (sym h.2))

item_fault : (u : LengthUnit) (areas : List (List Pt)) (before inside : Forest) (at : ℕ) (e : DesignFault) → outline_item u areas at inside ≡ Err e → AreaFault u before at inside e
unfolding outline_item
item_fault u areas before inside at e h =
    elim (bind_err (outline_of u at inside) (λ ps. made (areas ++ ps ∷ [])) e h) [
      | inl here ↦ area_fault u before at inside e here
      | inr later ↦ absurd cc
    ]

item_first : (u : LengthUnit) (areas : List (List Pt)) (before inside : Forest) (at : ℕ) (e : DesignFault) → AreaFault u before at inside e → outline_item u areas at inside ≡ Err e
unfolding outline_item
item_first u areas before inside at e h = rw (area_first u before at inside e h) refl

areas_add : (u : LengthUnit) → Adds (outline_item u) (λ areas xs. areas ++ xs) (StatesArea u)
areas_add u = record {
  none = λ s. sym (append-nil s);
  more = λ s xs ys. append_assoc s xs ys;
  found = item_found u;
  again = item_again u;
}

-- ---- `(boundary <shape> ..)`

abbrev join : List (List Pt) → List (List Pt) → List (List Pt)
join areas xs = areas ++ xs

pub outlines_found : (u : LengthUnit) (areas : List (List Pt)) (at : ℕ) (f : Forest) (more : List (List Pt)) → outlines_of u areas at f ≡ Ok more → (xs : List (List Pt)) × IsBoundary u f xs × (more ≡ areas ++ xs)
unfolding outlines_of
outlines_found u areas at End more e = absurd cc
outlines_found u areas at (Word a text rest) more e = absurd cc
outlines_found u areas at (Branch a inside rest) more e = joins_found (outline_item u) join (StatesArea u) (areas_add u) (Branch a inside rest) areas more e

pub outlines_again : (u : LengthUnit) (areas : List (List Pt)) (at : ℕ) (f : Forest) (xs : List (List Pt)) → IsBoundary u f xs → outlines_of u areas at f ≡ Ok (areas ++ xs)
unfolding outlines_of
outlines_again u areas at End xs h = absurd h
outlines_again u areas at (Word a text rest) xs h = absurd h
outlines_again u areas at (Branch a inside rest) xs h = joins_again (outline_item u) join (StatesArea u) (areas_add u) (Branch a inside rest) areas xs h

pub outlines_fault : (u : LengthUnit) (areas : List (List Pt)) (at : ℕ) (f : Forest) (e : DesignFault) → outlines_of u areas at f ≡ Err e → BoundaryFault u at f e
unfolding outlines_of
outlines_fault u areas at End e h = cc
outlines_fault u areas at (Word a text rest) e h = cc
outlines_fault u areas at (Branch a inside rest) e h =
    joins_fault (outline_item u) join (StatesArea u) (areas_add u) (AreaFault u) (item_fault u) areas (Branch a inside rest) e h

pub outlines_fault_again : (u : LengthUnit) (areas : List (List Pt)) (at : ℕ) (f : Forest) (e : DesignFault) → BoundaryFault u at f e → outlines_of u areas at f ≡ Err e
unfolding outlines_of
outlines_fault_again u areas at End e h = ap failed (sym h)
outlines_fault_again u areas at (Word a text rest) e h = ap failed (sym h)
outlines_fault_again u areas at (Branch a inside rest) e h =
    joins_fault_again (outline_item u) join (StatesArea u) (areas_add u) (AreaFault u) (item_first u) areas (Branch a inside rest) e h
