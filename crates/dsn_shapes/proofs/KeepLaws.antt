-- The keepouts that are stated are those that are read, and the fault of one is the one that is told.
use Rattle.std.proofs.Common.{◌≡◌, ℕ, List, [], Ok, Err, refl, sym, ap, subst, ◌∙◌, inl, inr}
use Rattle.sexp_text.specs.Forest.{Forest, End, Word, Branch}
use Rattle.sexp_text.specs.declared.units.Unit.{Unit as LengthUnit}
use Rattle.area_geometry.specs.declared.shapes.Shape.{Shape}
use Rattle.dsn_lists.specs.declared.faults.DesignFault.{DesignFault}
use Rattle.dsn_lists.specs.Results.{Read, ◌>>=◌, each}
use Rattle.dsn_lists.specs.Words.{Heading, head_of}
use Rattle.dsn_lists.specs.Lists.{Every, IsFirst}
use Rattle.dsn_lists.proofs.Firsts.{made, failed, ok_is, bind_ok, bind_err, first_found, first_again}
use Rattle.dsn_shapes.specs.declared.drawn.ShapeWord.{ShapeWord}
use Rattle.dsn_shapes.specs.declared.drawn.ShapeWord.TheVariants as shapes
use Rattle.dsn_shapes.specs.Drawn.{shape_word, shape_item}
use Rattle.dsn_shapes.specs.Keepouts.{after_list, after_item, kept_of, behind_id, keep_shapes}
use Rattle.dsn_shapes.specs.DrawnLists.{Draws}
use Rattle.dsn_shapes.specs.KeepLists.{IsOfNoShape, IsNoShape, OfSecondFault, SecondFault, IsKept, IsKeepout, KeptFault, KeepoutFault}
use Rattle.dsn_shapes.proofs.ShapeLaws.{item_found, item_again, item_fault, item_fault_again}

-- ---- lists behind the shape

one_found : (at : ℕ) (h : Heading) (k : ShapeWord) (x : Unit {0}) → after_list at h k ≡ Ok x → IsOfNoShape k
one_found at h shapes.Circle x e = absurd cc
one_found at h shapes.Path x e = absurd cc
one_found at h shapes.Rect x e = absurd cc
one_found at h shapes.Polygon x e = absurd cc
one_found at h shapes.Arc x e = absurd cc
one_found at h shapes.Polyline x e = absurd cc
one_found at h shapes.Window x e = absurd cc
one_found at h shapes.Other x e = tt

one_again : (at : ℕ) (h : Heading) (k : ShapeWord) → IsOfNoShape k → after_list at h k ≡ Ok tt
one_again at h shapes.Circle n = absurd n
one_again at h shapes.Path n = absurd n
one_again at h shapes.Rect n = absurd n
one_again at h shapes.Polygon n = absurd n
one_again at h shapes.Arc n = absurd n
one_again at h shapes.Polyline n = absurd n
one_again at h shapes.Window n = absurd n
one_again at h shapes.Other n = refl

one_fault : (at : ℕ) (h : Heading) (k : ShapeWord) (e : DesignFault) → after_list at h k ≡ Err e → OfSecondFault at h k e
one_fault at h shapes.Circle e f = cc
one_fault at h shapes.Path e f = cc
one_fault at h shapes.Rect e f = cc
one_fault at h shapes.Polygon e f = cc
one_fault at h shapes.Arc e f = cc
one_fault at h shapes.Polyline e f = cc
one_fault at h shapes.Window e f = cc
one_fault at h shapes.Other e f = absurd cc

one_fault_again : (at : ℕ) (h : Heading) (k : ShapeWord) (e : DesignFault) → OfSecondFault at h k e → after_list at h k ≡ Err e
one_fault_again at h shapes.Circle e f = ap failed (sym f)
one_fault_again at h shapes.Path e f = ap failed (sym f)
one_fault_again at h shapes.Rect e f = ap failed (sym f)
one_fault_again at h shapes.Polygon e f = ap failed (sym f)
one_fault_again at h shapes.Arc e f = ap failed (sym f)
one_fault_again at h shapes.Polyline e f = ap failed (sym f)
one_fault_again at h shapes.Window e f = ap failed (sym f)
one_fault_again at h shapes.Other e f = absurd f

lists_found : (f : Forest) (x y : Unit {0}) → each after_item x f ≡ Ok y → Every IsNoShape f
unfolding each after_item
lists_found End x y e = tt
lists_found (Word at text rest) x y e = absurd cc
lists_found (Branch at inside rest) x y e =
    let z = bind_ok (after_item x at inside) (λ z. each after_item z rest) y e in
    (one_found at (head_of inside) (shape_word (head_of inside).text) z.0 z.1, lists_found rest z.0 y z.2)

lists_again : (f : Forest) → Every IsNoShape f → each after_item tt f ≡ Ok tt
unfolding each after_item
lists_again End h = refl
lists_again (Word at text rest) h = absurd h
lists_again (Branch at inside rest) h = rw (one_again at (head_of inside) (shape_word (head_of inside).text) h.0) (lists_again rest h.1)

second_fault : (before inside : Forest) (at : ℕ) (e : DesignFault) → after_item tt at inside ≡ Err e → SecondFault before at inside e
unfolding after_item
second_fault before inside at e h = one_fault at (head_of inside) (shape_word (head_of inside).text) e h

second_fault_again : (before inside : Forest) (at : ℕ) (e : DesignFault) → SecondFault before at inside e → after_item tt at inside ≡ Err e
unfolding after_item
second_fault_again before inside at e h = one_fault_again at (head_of inside) (shape_word (head_of inside).text) e h

lists_fault : (f : Forest) (e : DesignFault) → each after_item tt f ≡ Err e → IsFirst (Every IsNoShape) SecondFault f e
lists_fault f e h =
    first_found after_item tt (λ f. tt) (Every IsNoShape) SecondFault (λ f y k. (lists_found f tt y k, refl))
    (λ before inside at e stand k. second_fault before inside at e k) f e h

lists_fault_again : (f : Forest) (e : DesignFault) → IsFirst (Every IsNoShape) SecondFault f e → each after_item tt f ≡ Err e
lists_fault_again f e h =
    first_again after_item tt (λ f. tt) (Every IsNoShape) SecondFault lists_again
    (λ before inside at e stand k. second_fault_again before inside at e k) f e h

-- ---- behind the id

abbrev lists_rest : Forest → List Shape → Read (List Shape)
lists_rest rest ss = each after_item tt rest >>= λ _. made ss

kept_found : (u : LengthUnit) (layers : List (List ℕ)) (at : ℕ) (f : Forest) (ss : List Shape) → kept_of u layers at f ≡ Ok ss → IsKept u layers f ss
unfolding kept_of
kept_found u layers at End ss e = absurd cc
kept_found u layers at (Word a text rest) ss e = absurd cc
kept_found u layers at (Branch a inside rest) ss e =
    let s = bind_ok (shape_item u layers [] a inside) (lists_rest rest) ss e in
    let t = bind_ok (each after_item tt rest) (λ _. made s.0) ss s.2 in
    let d = item_found u layers [] a inside s.0 s.1 in
    (subst (λ (xs : List Shape). Draws u layers inside xs) (sym d.2 ∙ ok_is s.0 ss t.2) d.1, lists_found rest tt t.0 t.1)

kept_again : (u : LengthUnit) (layers : List (List ℕ)) (at : ℕ) (f : Forest) (ss : List Shape) → IsKept u layers f ss → kept_of u layers at f ≡ Ok ss
unfolding kept_of
kept_again u layers at End ss h = absurd h
kept_again u layers at (Word a text rest) ss h = absurd h
kept_again u layers at (Branch a inside rest) ss h = rw (item_again u layers [] a inside ss h.0, lists_again rest h.1) refl

shapes_rest_fault : (rest : Forest) (ss : List Shape) (e : DesignFault) → lists_rest rest ss ≡ Err e → IsFirst (Every IsNoShape) SecondFault rest e
shapes_rest_fault rest ss e h =
    elim (bind_err (each after_item tt rest) (λ _. made ss) e h) [
      | inl here ↦ lists_fault rest e here
      | inr later ↦ absurd cc
    ]

kept_fault : (u : LengthUnit) (layers : List (List ℕ)) (at : ℕ) (f : Forest) (e : DesignFault) → kept_of u layers at f ≡ Err e → KeptFault u layers at f e
unfolding kept_of
kept_fault u layers at End e h = cc
kept_fault u layers at (Word a text rest) e h = cc
kept_fault u layers at (Branch a inside rest) e h =
    elim (bind_err (shape_item u layers [] a inside) (lists_rest rest) e h) [
      | inl here ↦ inl (item_fault u layers [] End inside a e here)
      | inr later ↦
          let d = item_found u layers [] a inside later.0 later.1 in
          inr ((d.0, d.1), shapes_rest_fault rest later.0 e later.2)
    ]

kept_fault_again : (u : LengthUnit) (layers : List (List ℕ)) (at : ℕ) (f : Forest) (e : DesignFault) → KeptFault u layers at f e → kept_of u layers at f ≡ Err e
unfolding kept_of
kept_fault_again u layers at End e h = ap failed (sym h)
kept_fault_again u layers at (Word a text rest) e h = ap failed (sym h)
kept_fault_again u layers at (Branch a inside rest) e (inl here) = rw (item_fault_again u layers [] End inside a e here) refl
kept_fault_again u layers at (Branch a inside rest) e (inr later) = rw (item_again u layers [] a inside later.0.0 later.0.1, lists_fault_again rest e later.1) refl

-- ---- `(keepout [<id>] <shape> ..)`

pub keep_found : (u : LengthUnit) (layers : List (List ℕ)) (at : ℕ) (f : Forest) (ss : List Shape) → keep_shapes u layers at f ≡ Ok ss → IsKeepout u layers f ss
unfolding keep_shapes behind_id
keep_found u layers at End ss e = kept_found u layers at End ss e
keep_found u layers at (Word a text rest) ss e = kept_found u layers at rest ss e
keep_found u layers at (Branch a inside rest) ss e = kept_found u layers at (Branch a inside rest) ss e

pub keep_again : (u : LengthUnit) (layers : List (List ℕ)) (at : ℕ) (f : Forest) (ss : List Shape) → IsKeepout u layers f ss → keep_shapes u layers at f ≡ Ok ss
unfolding keep_shapes behind_id
keep_again u layers at End ss h = absurd h
keep_again u layers at (Word a text rest) ss h = kept_again u layers at rest ss h
keep_again u layers at (Branch a inside rest) ss h = kept_again u layers at (Branch a inside rest) ss h

pub keep_fault : (u : LengthUnit) (layers : List (List ℕ)) (at : ℕ) (f : Forest) (e : DesignFault) → keep_shapes u layers at f ≡ Err e → KeepoutFault u layers at f e
unfolding keep_shapes behind_id
keep_fault u layers at End e h = kept_fault u layers at End e h
keep_fault u layers at (Word a text rest) e h = kept_fault u layers at rest e h
keep_fault u layers at (Branch a inside rest) e h = kept_fault u layers at (Branch a inside rest) e h

pub keep_fault_again : (u : LengthUnit) (layers : List (List ℕ)) (at : ℕ) (f : Forest) (e : DesignFault) → KeepoutFault u layers at f e → keep_shapes u layers at f ≡ Err e
unfolding keep_shapes behind_id
keep_fault_again u layers at End e h = kept_fault_again u layers at End e h
keep_fault_again u layers at (Word a text rest) e h = kept_fault_again u layers at rest e h
keep_fault_again u layers at (Branch a inside rest) e h = kept_fault_again u layers at (Branch a inside rest) e h
