-- What stands behind the padstack of a list of vias is what is read, and its fault is the one that is told.
use Rattle.std.proofs.Common.{◌≡◌, ℕ, zero, suc, ℤ, ◌≤◌, Bool, true, false, List, [], ◌∷◌, length, Option, Some, None, Ok, Err, refl, sym, ap, subst, ◌∙◌, arith, inl, inr, ◌⊎◌}
use Rattle.std.specs.Prelude.{is_some, not}
use Rattle.sexp_text.specs.Forest.{Forest}
use Rattle.sexp_text.specs.declared.units.Unit.{Unit as LengthUnit}
use Rattle.seg_geometry.specs.declared.points.Pt.{Pt}
use Rattle.area_geometry.specs.declared.shapes.Shape.{Shape}
use Rattle.dsn_lists.specs.declared.faults.DesignFault.{DesignFault}
use Rattle.dsn_lists.specs.declared.faults.DesignKind.TheVariants as kind
use Rattle.dsn_lists.specs.declared.places.Coordinates.{Coordinates}
use Rattle.dsn_lists.specs.Results.{Read, ◌>>=◌, wrong, each}
use Rattle.dsn_lists.specs.Places.{no_coordinates, coordinates}
use Rattle.dsn_lists.specs.Lists.{collect, told}
use Rattle.dsn_lists.specs.declared.marks.Mark.{Mark}
use Rattle.dsn_lists.specs.ShortLists.{first_words, behind_words}
use Rattle.dsn_lists.specs.PointWords.{AllLengths, ArePoints, are_even}
use Rattle.dsn_lists.proofs.Firsts.{made, failed, ok_is, bind_ok, bind_err}
use Rattle.dsn_lists.proofs.CoordinateLaws.{coordinates_found, coordinates_again, coordinates_fault, coordinates_fault_again, pairs, left, left_is, even_length, pairs_found, pairs_again}
use Rattle.dsn_lists.proofs.PointLaws.{stated}
use Rattle.dsn_lists.proofs.PathLaws.{read_is}
use Rattle.dsn_reader.specs.declared.ends.Ends.{Ends}
use Rattle.dsn_reader.specs.declared.wiring.Wiring.{Wiring}
use Rattle.dsn_reader.specs.Wirings.{Netted, netted, Kindred, vias_at, some_points, as_points, some_net, end_item, no_ends, is_fixed}
use Rattle.dsn_reader.specs.EndLists.{with_names, names_in, AreEnds, HasEnds}
use Rattle.dsn_reader.specs.ViaLists.{PointFault, AreNoPlaces, WholeViaFault, PlacedFault}
use Rattle.dsn_lists.proofs.Growing.{Grows}
use Rattle.dsn_reader.proofs.EndLaws.{ends_found, ends_later, ends_again, ends_fault, ends_fault_again}
use Rattle.dsn_reader.proofs.ViaLaws.{ArePut, vias_found, vias_again, vias_fault, vias_fault_again}

-- ---- points

as_points_ok : (at : ℕ) (h : Option ℤ) (ps qs : List Pt) → some_points at h ps ≡ Ok qs → (h ≡ None) × (1 ≤ length ps) × (ps ≡ qs)
as_points_ok at (Some x) ps qs e = absurd cc
as_points_ok at None [] qs e = absurd cc
as_points_ok at None (p ∷ ps) qs e = (refl, omega arith, ok_is (p ∷ ps) qs e)

as_points_again : (at : ℕ) (h : Option ℤ) (ps : List Pt) → h ≡ None → 1 ≤ length ps → some_points at h ps ≡ Ok ps
as_points_again at (Some x) ps none many = absurd cc
as_points_again at None [] none many = absurd (omega (arith, many))
as_points_again at None (p ∷ ps) none many = refl

as_points_err : (at : ℕ) (h : Option ℤ) (ps : List Pt) (e : DesignFault) → some_points at h ps ≡ Err e → (h ≡ None → 1 ≤ length ps → ⊥) × (e ≡ told kind.Points at)
as_points_err at (Some x) ps e h = (λ none many. absurd cc, cc)
as_points_err at None [] e h = (λ none many. absurd (omega (arith, many)), cc)
as_points_err at None (p ∷ ps) e h = absurd cc

as_points_none : (at : ℕ) (h : Option ℤ) (ps : List Pt) → (h ≡ None → 1 ≤ length ps → ⊥) → some_points at h ps ≡ wrong kind.Points at
as_points_none at (Some x) ps never = refl
as_points_none at None [] never = refl
as_points_none at None (p ∷ ps) never = absurd (never refl (omega arith))

-- no x is left over exactly where the words are even in number

is_on : (b : Bool) → not b ≡ false → b ≡ true
is_on true e = refl
is_on false e = absurd cc

is_none : {A : Type 0} (o : Option A) → is_some o ≡ false → o ≡ None
is_none None e = refl
is_none (Some x) e = absurd cc

even_of : (u : LengthUnit) (ws : List Mark) → left u ws ≡ None → are_even ws ≡ true
even_of u ws none = is_on (are_even ws) (sym (left_is u ws) ∙ ap is_some none)

none_left : (u : LengthUnit) (ws : List Mark) → are_even ws ≡ true → left u ws ≡ None
none_left u ws even = is_none (left u ws) (left_is u ws ∙ ap not even)

none_of : (n : ℕ) → (1 ≤ n → ⊥) → n ≡ 0
none_of zero h = refl
none_of (suc n) h = absurd (h (omega arith))

no_places : (u : LengthUnit) (ws : List Mark) → (left u ws ≡ None → 1 ≤ length (pairs u ws) → ⊥) → AreNoPlaces ws
no_places u ws never = by (are_even ws) refl
  where
    by : (b : Bool) → are_even ws ≡ b → AreNoPlaces ws
    by true even =
        let twice = even_length u ws even in
        let none = none_of (length (pairs u ws)) (never (none_left u ws even)) in
        inr (omega (arith, twice, none))
    by false odd = inl odd

never_places : (u : LengthUnit) (ws : List Mark) → AreNoPlaces ws → left u ws ≡ None → 1 ≤ length (pairs u ws) → ⊥
never_places u ws (inl odd) none some = let even : true ≡ false = sym (even_of u ws none) ∙ odd in absurd cc
never_places u ws (inr few) none some = let twice = even_length u ws (even_of u ws none) in absurd (omega (arith, few, twice, some))

-- ---- what stands behind the padstack

abbrev sort : List Shape → ℕ → ℕ → Option Bool → Kindred
sort shapes stack net fix = record { net = net; stack = stack; shapes = shapes; fix = is_fixed fix }

abbrev put_all : ℕ → List Shape → ℕ → Netted Wiring → Netted Ends → List Pt → ℕ → Read (Netted Wiring)
put_all at shapes stack x e ps net = vias_at at (sort shapes stack net e.it.fix) x.it ps >>= λ all. made (netted e.nets all)

abbrev put_ends : ℕ → List Shape → ℕ → Netted Wiring → Coordinates → Netted Ends → Read (Netted Wiring)
put_ends at shapes stack x c e = as_points at c >>= λ ps. some_net at e.it.net >>= λ net. put_all at shapes stack x e ps net

abbrev pub behind_stack : LengthUnit → ℕ → List Shape → ℕ → Netted Wiring → Forest → Read (Netted Wiring)
behind_stack u at shapes stack x f = coordinates u no_coordinates f >>= λ c. each end_item (netted x.nets no_ends) c.1 >>= λ e. put_ends at shapes stack x c.0 e

net_ok : (at : ℕ) (o : Option ℕ) (n : ℕ) → some_net at o ≡ Ok n → o ≡ Some n
net_ok at None n e = absurd cc
net_ok at (Some m) n e = ap (λ (k : ℕ). Some k) (ok_is m n e)

-- vias of one list behind wiring, with the names of the nets at the end
pub record ArePlaced (u : LengthUnit) (final : List (List ℕ)) (shapes : List Shape) (stack : ℕ) (x : Netted Wiring) (f : Forest) (y : Netted Wiring) : Type 0 where
  pub points : List Pt
  pub net : ℕ
  pub fix : Option Bool
  pub pairs : ArePoints u (first_words f) points
  pub some : 1 ≤ length points
  pub nets : y.nets ≡ with_names x.nets (collect names_in (behind_words f))
  pub few : length y.nets ≤ 100000
  pub ends : AreEnds final (behind_words f) (record { net = Some net; fix = fix })
  pub put : ArePut (sort shapes stack net fix) x.it points y.it

ends_with : (nets : List (List ℕ)) (f : Forest) (x : Ends) (n : ℕ) → x.net ≡ Some n → AreEnds nets f x → AreEnds nets f (record { net = Some n; fix = x.fix })
ends_with nets f x n e h = subst (λ (o : Option ℕ). AreEnds nets f (record { net = o; fix = x.fix })) e h

pub placed_found : (u : LengthUnit) (at : ℕ) (shapes : List Shape) (stack : ℕ) (x : Netted Wiring) (f : Forest) (y : Netted Wiring) → length x.nets ≤ 100000 → behind_stack u at shapes stack x f ≡ Ok y
    → ArePlaced u y.nets shapes stack x f y
placed_found u at shapes stack x f y few e =
    let c = bind_ok (coordinates u no_coordinates f) (λ c. each end_item (netted x.nets no_ends) c.1 >>= λ e. put_ends at shapes stack x c.0 e) y e in
    let k = coordinates_found u f no_coordinates c.0 c.1 in
    let d = stated u (first_words f) in
    let rest : (each end_item (netted x.nets no_ends) (behind_words f) >>= λ e. put_ends at shapes stack x d e) ≡ Ok y =
    ap (λ (z : Coordinates × Forest). each end_item (netted x.nets no_ends) z.1 >>= λ e. put_ends at shapes stack x z.0 e) (sym (k.1 ∙ read_is u f)) ∙ c.2
    in
    let n = bind_ok (each end_item (netted x.nets no_ends) (behind_words f)) (λ e. put_ends at shapes stack x d e) y rest in
    let h = ends_found x.nets (behind_words f) n.0 few n.1 in
    let ps = bind_ok (as_points at d) (λ ps. some_net at n.0.it.net >>= λ net. put_all at shapes stack x n.0 ps net) y n.2 in
    let p = as_points_ok at d.half d.points ps.0 ps.1 in
    let net = bind_ok (some_net at n.0.it.net) (λ net. put_all at shapes stack x n.0 ps.0 net) y ps.2 in
    let has = net_ok at n.0.it.net net.0 net.1 in
    let all = bind_ok (vias_at at (sort shapes stack net.0 n.0.it.fix) x.it ps.0) (λ all. made (netted n.0.nets all)) y net.2 in
    let put = vias_found at (sort shapes stack net.0 n.0.it.fix) ps.0 x.it all.0 all.1 in
    let points = pairs_found u (first_words f) k.0 (even_of u (first_words f) p.0) in
    subst (λ (z : Netted Wiring). ArePlaced u z.nets shapes stack x f z) (ok_is (netted n.0.nets all.0) y all.2) (record {
      points = ps.0;
      net = net.0;
      fix = n.0.it.fix;
      pairs = subst (λ (qs : List Pt). ArePoints u (first_words f) qs) p.2 points;
      some = subst (λ (qs : List Pt). 1 ≤ length qs) p.2 p.1;
      nets = h.nets_are;
      few = h.few;
      ends = ends_with n.0.nets (behind_words f) n.0.it net.0 has h.ends_are;
      put = put;
    })

pub placed_again : (u : LengthUnit) (final : List (List ℕ)) (at : ℕ) (shapes : List Shape) (stack : ℕ) (x : Netted Wiring) (f : Forest) (y : Netted Wiring) → Grows y.nets final → ArePlaced u final shapes stack x f y
    → behind_stack u at shapes stack x f ≡ Ok y
placed_again u final at shapes stack x f y grows h =
    let c = stated u (first_words f) in
    let q = pairs_again u (first_words f) h.points h.pairs in
    let e : Netted Ends = netted y.nets (record { net = Some h.net; fix = h.fix }) in
    let many : 1 ≤ length c.points = subst (λ (qs : List Pt). 1 ≤ length qs) (sym q.2) h.some in
    let points : as_points at c ≡ Ok h.points = as_points_again at c.half c.points (none_left u (first_words f) q.1) many ∙ ap (λ (qs : List Pt). made qs) q.2 in
    rw (
      coordinates_again u f no_coordinates q.0 ∙ ap (λ (z : Coordinates × Forest). made z) (read_is u f),
      ends_later x.nets final (behind_words f) e h.nets h.few grows h.ends,
      points,
      vias_again at (sort shapes stack h.net h.fix) h.points x.it y.it h.put,
    ) refl

some_on : {A : Type 0} (o : Option A) (x : A) → o ≡ Some x → is_some o ≡ true
some_on o x e = ap is_some e

net_fault : (u : LengthUnit) (at : ℕ) (shapes : List Shape) (stack : ℕ) (x : Netted Wiring) (y : Netted Ends) (ps : List Pt) (o : Option ℕ) (e : DesignFault) → y.it.net ≡ o
    → (some_net at o >>= λ net. put_all at shapes stack x y ps net) ≡ Err e → ((y.it.net ≡ None) × (e ≡ told kind.Missing at)) ⊎ ((is_some y.it.net ≡ true) × PointFault shapes at x.it.quota ps e)
net_fault u at shapes stack x y ps None e is h = inl (is, cc)
net_fault u at shapes stack x y ps (Some n) e is h =
    elim (bind_err (vias_at at (sort shapes stack n y.it.fix) x.it ps) (λ all. made (netted y.nets all)) e h) [
      | inl here ↦ inr (some_on y.it.net n is, vias_fault at (sort shapes stack n y.it.fix) ps x.it e here)
      | inr none ↦ absurd cc
    ]

pub placed_fault : (u : LengthUnit) (at : ℕ) (shapes : List Shape) (stack : ℕ) (x : Netted Wiring) (f : Forest) (e : DesignFault) → length x.nets ≤ 100000 → behind_stack u at shapes stack x f ≡ Err e → PlacedFault u shapes x at f e
placed_fault u at shapes stack x f e few h =
    elim (bind_err (coordinates u no_coordinates f) (λ c. each end_item (netted x.nets no_ends) c.1 >>= λ e. put_ends at shapes stack x c.0 e) e h) [
      | inl here ↦ inl (coordinates_fault u f no_coordinates e here)
      | inr later ↦
          let k = coordinates_found u f no_coordinates later.0 later.1 in
          let d = stated u (first_words f) in
          let rest : (each end_item (netted x.nets no_ends) (behind_words f) >>= λ e. put_ends at shapes stack x d e) ≡ Err e =
          ap (λ (z : Coordinates × Forest). each end_item (netted x.nets no_ends) z.1 >>= λ e. put_ends at shapes stack x z.0 e) (sym (k.1 ∙ read_is u f)) ∙ later.2
          in
          elim (bind_err (each end_item (netted x.nets no_ends) (behind_words f)) (λ e. put_ends at shapes stack x d e) e rest) [
            | inl list ↦ inr (k.0, inl (ends_fault x.nets (behind_words f) e few list))
            | inr all ↦
                let y = all.0 in
                let has = ends_found x.nets (behind_words f) y few all.1 in
                elim (bind_err (as_points at d) (λ ps. some_net at y.it.net >>= λ net. put_all at shapes stack x y ps net) e all.2) [
                  | inl short ↦
                      let s = as_points_err at d.half d.points e short in
                      inr (k.0, inr (y, has, inl (no_places u (first_words f) s.0, s.1)))
                  | inr points ↦
                      let p = as_points_ok at d.half d.points points.0 points.1 in
                      let stand = pairs_found u (first_words f) k.0 (even_of u (first_words f) p.0) in
                      let are = subst (λ (qs : List Pt). ArePoints u (first_words f) qs) p.2 stand in
                      let some = subst (λ (qs : List Pt). 1 ≤ length qs) p.2 p.1 in
                      inr (k.0, inr (y, has, inr (points.0, are, some, net_fault u at shapes stack x y points.0 y.it.net e refl points.2)))
                ]
          ]
    ]

net_fault_again : (u : LengthUnit) (at : ℕ) (shapes : List Shape) (stack : ℕ) (x : Netted Wiring) (y : Netted Ends) (ps : List Pt) (o : Option ℕ) (e : DesignFault)
    → ((o ≡ None) × (e ≡ told kind.Missing at)) ⊎ ((is_some o ≡ true) × PointFault shapes at x.it.quota ps e) → (some_net at o >>= λ net. put_all at shapes stack x y ps net) ≡ Err e
net_fault_again u at shapes stack x y ps None e (inl h) = ap failed (sym h.1)
net_fault_again u at shapes stack x y ps None e (inr h) = absurd (let none = h.0 in cc)
net_fault_again u at shapes stack x y ps (Some n) e (inl h) = absurd (let none = h.0 in cc)
net_fault_again u at shapes stack x y ps (Some n) e (inr h) = rw (vias_fault_again at (sort shapes stack n y.it.fix) ps x.it e h.1) refl

whole_again : (u : LengthUnit) (at : ℕ) (shapes : List Shape) (stack : ℕ) (x : Netted Wiring) (f : Forest) (y : Netted Ends) (e : DesignFault) → AllLengths u (first_words f) → HasEnds x.nets (behind_words f) y
    → WholeViaFault u shapes x.it at f y.it e → behind_stack u at shapes stack x f ≡ Err e
whole_again u at shapes stack x f y e all has (inl short) =
    let c = stated u (first_words f) in
    let points : as_points at c ≡ wrong kind.Points at = as_points_none at c.half c.points (never_places u (first_words f) short.0) in
    rw (coordinates_again u f no_coordinates all ∙ ap (λ (z : Coordinates × Forest). made z) (read_is u f), ends_again x.nets (behind_words f) y has, points) (ap failed (sym short.1))
whole_again u at shapes stack x f y e all has (inr put) =
    let c = stated u (first_words f) in
    let q = pairs_again u (first_words f) put.0 put.1 in
    let many : 1 ≤ length c.points = subst (λ (qs : List Pt). 1 ≤ length qs) (sym q.2) put.2 in
    let points : as_points at c ≡ Ok put.0 = as_points_again at c.half c.points (none_left u (first_words f) q.1) many ∙ ap (λ (qs : List Pt). made qs) q.2 in
    rw (coordinates_again u f no_coordinates all ∙ ap (λ (z : Coordinates × Forest). made z) (read_is u f), ends_again x.nets (behind_words f) y has, points) (net_fault_again u at shapes stack x y put.0 y.it.net e put.3)

pub placed_fault_again : (u : LengthUnit) (at : ℕ) (shapes : List Shape) (stack : ℕ) (x : Netted Wiring) (f : Forest) (e : DesignFault) → PlacedFault u shapes x at f e → behind_stack u at shapes stack x f ≡ Err e
placed_fault_again u at shapes stack x f e (inl here) = rw (coordinates_fault_again u f no_coordinates e here) refl
placed_fault_again u at shapes stack x f e (inr (all, inl list)) =
    rw (coordinates_again u f no_coordinates all ∙ ap (λ (z : Coordinates × Forest). made z) (read_is u f), ends_fault_again x.nets (behind_words f) e list) refl
placed_fault_again u at shapes stack x f e (inr (all, inr whole)) = whole_again u at shapes stack x f whole.0 e all whole.1 whole.2
