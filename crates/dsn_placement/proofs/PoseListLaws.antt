-- The name and the place of a component are those that are read of a list, and its fault is the one that is told.
use Rattle.std.proofs.Common.{◌≡◌, ℕ, Bool, true, false, cond, List, Option, Ok, Err, refl, sym, ap, subst, ◌∙◌, inl, inr, ◌⊎◌}
use Rattle.sexp_text.specs.Forest.{Forest, End, Word, Branch}
use Rattle.sexp_text.specs.declared.units.Unit.{Unit as LengthUnit}
use Rattle.dsn_lists.specs.declared.faults.DesignFault.{DesignFault}
use Rattle.dsn_lists.specs.declared.faults.DesignKind.TheVariants as kind
use Rattle.dsn_lists.specs.Results.{Read, ◌>>=◌, each}
use Rattle.dsn_lists.specs.Names.{is_among}
use Rattle.dsn_lists.specs.Words.{mark, word_of, spare_list}
use Rattle.dsn_lists.specs.Lists.{told}
use Rattle.dsn_lists.specs.NewNames.{fresh_name}
use Rattle.dsn_lists.proofs.Firsts.{made, ok_is, bind_ok, bind_err, word_fault, word_fault_again}
use Rattle.dsn_lists.proofs.NewNameLaws.{fresh_found, fresh_again, fresh_fault, fresh_fault_again}
use Rattle.dsn_placement.specs.declared.poses.Pose.{Pose}
use Rattle.dsn_placement.specs.Placements.{pose_of, place_of_list}
use Rattle.dsn_placement.specs.PoseLists.{IsPose, IsPlaceList, PoseFault, PlaceListFault}
use Rattle.dsn_placement.specs.PlaceSites.{name_in}
use Rattle.dsn_placement.proofs.PoseLaws.{pose_rest, pose_found, pose_again, pose_fault, pose_fault_again}

-- a name and a place
abbrev pub named : List ℕ → Option Pose → List ℕ × Option Pose
named name o = (name, o)

-- what follows the name
abbrev place_rest : LengthUnit → ℕ → List ℕ → Forest → Read (List ℕ × Option Pose)
place_rest u at name f = pose_of u at f >>= λ x. each spare_list tt x.1 >>= λ _. made (named name x.0)

rest_is : (u : LengthUnit) (at : ℕ) (name : List ℕ) (f : Forest) → place_rest u at name f ≡ (pose_rest u at f >>= λ o. made (named name o))
rest_is u at name f = by (pose_of u at f)
  where
    by_lists : (o : Option Pose) (r : Read (Unit {0})) → (r >>= λ _. made (named name o)) ≡ ((r >>= λ _. made o) >>= λ o. made (named name o))
    by_lists o (Ok x) = refl
    by_lists o (Err e) = refl

    by : (r : Read (Option Pose × Forest)) → (r >>= λ x. each spare_list tt x.1 >>= λ _. made (named name x.0)) ≡ ((r >>= λ x. each spare_list tt x.1 >>= λ _. made x.0) >>= λ o. made (named name o))
    by (Ok x) = by_lists x.0 (each spare_list tt x.1)
    by (Err e) = refl

rest_found : (u : LengthUnit) (at : ℕ) (name : List ℕ) (f : Forest) (x : List ℕ × Option Pose) → place_rest u at name f ≡ Ok x → (name ≡ x.0) × IsPose u f x.1
rest_found u at name f x e =
    let o = bind_ok (pose_rest u at f) (λ o. made (named name o)) x (sym (rest_is u at name f) ∙ e) in
    let same = ok_is (named name o.0) x o.2 in
    (ap (λ (y : List ℕ × Option Pose). y.0) same, subst (λ (p : Option Pose). IsPose u f p) (ap (λ (y : List ℕ × Option Pose). y.1) same) (pose_found u at f o.0 o.1))

rest_again : (u : LengthUnit) (at : ℕ) (name : List ℕ) (f : Forest) (o : Option Pose) → IsPose u f o → place_rest u at name f ≡ Ok (named name o)
rest_again u at name f o h = rest_is u at name f ∙ ap (λ (r : Read (Option Pose)). r >>= λ o. made (named name o)) (pose_again u at f o h)

rest_fault : (u : LengthUnit) (at : ℕ) (name : List ℕ) (f : Forest) (e : DesignFault) → place_rest u at name f ≡ Err e → PoseFault u at f e
rest_fault u at name f e h =
    elim (bind_err (pose_rest u at f) (λ o. made (named name o)) e (sym (rest_is u at name f) ∙ h)) [
      | inl here ↦ pose_fault u at f e here
      | inr later ↦ absurd cc
    ]

rest_fault_again : (u : LengthUnit) (at : ℕ) (name : List ℕ) (f : Forest) (e : DesignFault) → PoseFault u at f e → place_rest u at name f ≡ Err e
rest_fault_again u at name f e h = rest_is u at name f ∙ ap (λ (r : Read (Option Pose)). r >>= λ o. made (named name o)) (pose_fault_again u at f e h)

-- ---- the list

pub place_found : (u : LengthUnit) (names : List (List ℕ)) (at : ℕ) (f : Forest) (x : List ℕ × Option Pose) → place_of_list u names at f ≡ Ok x
    → IsPlaceList u f x.0 x.1 × (is_among x.0 names ≡ false) × (name_in f ≡ x.0)
unfolding place_of_list word_of
place_found u names at End x e = absurd cc
place_found u names at (Branch a inside rest) x e = absurd cc
place_found u names at (Word a text rest) x e =
    let new = bind_ok (fresh_name names (mark a text)) (λ _. place_rest u at text rest) x e in
    let free = fresh_found names a text new.0 new.1 in
    let r = rest_found u at text rest x new.2 in
    ((r.0, r.1), subst (λ (n : List ℕ). is_among n names ≡ false) r.0 free, r.0)

pub place_again : (u : LengthUnit) (names : List (List ℕ)) (at : ℕ) (f : Forest) (name : List ℕ) (o : Option Pose) → IsPlaceList u f name o → is_among name names ≡ false → place_of_list u names at f ≡ Ok (named name o)
unfolding place_of_list word_of
place_again u names at End name o h free = absurd h
place_again u names at (Branch a inside rest) name o h free = absurd h
place_again u names at (Word a text rest) name o h free =
    let unused : is_among text names ≡ false = subst (λ (n : List ℕ). is_among n names ≡ false) (sym h.0) free in
    rw (fresh_again names a text unused) (rest_again u at text rest o h.1 ∙ ap (λ (n : List ℕ). made (named n o)) h.0)

-- the name is the first word
pub name_is : (u : LengthUnit) (f : Forest) (name : List ℕ) (o : Option Pose) → IsPlaceList u f name o → name_in f ≡ name
name_is u End name o h = absurd h
name_is u (Branch a inside rest) name o h = absurd h
name_is u (Word a text rest) name o h = h.0

abbrev PlaceWordFault : LengthUnit → List (List ℕ) → ℕ → ℕ → List ℕ → Forest → DesignFault → Type 0
PlaceWordFault u names at a text rest e = ((is_among text names ≡ true) × (e ≡ told kind.Twice a)) ⊎ ((is_among text names ≡ false) × PoseFault u at rest e)

pub place_fault : (u : LengthUnit) (names : List (List ℕ)) (at : ℕ) (f : Forest) (e : DesignFault) → place_of_list u names at f ≡ Err e → PlaceListFault u names at f e
unfolding place_of_list
place_fault u names at f e h =
    word_fault _ (PlaceWordFault u names at) at f e (λ a text rest k.
    elim (bind_err (fresh_name names (mark a text)) (λ _. place_rest u at text rest) e k) [
      | inl here ↦ inl (fresh_fault names a text e here)
      | inr new ↦ inr (fresh_found names a text new.0 new.1, rest_fault u at text rest e new.2)
    ]) h

pub place_fault_again : (u : LengthUnit) (names : List (List ℕ)) (at : ℕ) (f : Forest) (e : DesignFault) → PlaceListFault u names at f e → place_of_list u names at f ≡ Err e
unfolding place_of_list
place_fault_again u names at f e h = word_fault_again _ (PlaceWordFault u names at) at f e by h
  where
    by : (a : ℕ) (text : List ℕ) (rest : Forest) → PlaceWordFault u names at a text rest e → (fresh_name names (mark a text) >>= λ _. place_rest u at text rest) ≡ Err e
    by a text rest (inl here) = rw (fresh_fault_again names a text e here.0 here.1) refl
    by a text rest (inr later) = rw (fresh_again names a text later.0) (rest_fault_again u at text rest e later.1)
