-- Shapes are drawn where they are read, and their faults are those that are told, over any way to read one.
use Rattle.std.proofs.Common.{◌≡◌, ℕ, List, length, Option, Ok, Err, refl, sym, ap, inl, inr, ◌⊎◌}
use Rattle.sexp_text.specs.Forest.{Forest, End, Word, Branch}
use Rattle.area_geometry.specs.declared.shapes.Core.{Core}
use Rattle.area_geometry.specs.declared.shapes.Shape.{Shape}
use Rattle.dsn_lists.specs.declared.faults.DesignFault.{DesignFault}
use Rattle.dsn_lists.specs.Results.{Read, ◌>>=◌}
use Rattle.dsn_lists.specs.Words.{mark, word_of}
use Rattle.dsn_lists.specs.Layers.{some_layer}
use Rattle.dsn_lists.specs.PointWords.{LayerWordFault}
use Rattle.dsn_lists.proofs.Firsts.{made, ok_is, bind_ok, bind_err, word_fault, word_fault_again}
use Rattle.dsn_lists.proofs.LengthWordLaws.{layer_found, layer_again, layer_fault, layer_fault_again}
use Rattle.dsn_shapes.specs.Drawn.{on_layers}
use Rattle.dsn_shapes.specs.DrawnLists.{DrawsIt, StatesLayer, OnLayerFault}

-- a way to read that gives exactly what is stated, and tells exactly this fault
pub record Meets {A : Type 0} (read : Forest → Read A) (States : Forest → A → Type 0) (HasFault : Forest → DesignFault → Type 0) : Type 0 where
  pub found : (f : Forest) (x : A) → read f ≡ Ok x → States f x
  pub again : (f : Forest) (x : A) → States f x → read f ≡ Ok x
  pub fault : (f : Forest) (e : DesignFault) → read f ≡ Err e → HasFault f e
  pub first : (f : Forest) (e : DesignFault) → HasFault f e → read f ≡ Err e

-- what is read behind the word of a layer, on that layer
abbrev drawn_rest : {A : Type 0} → (Forest → Read A) → (A → Core) → (A → ℕ) → List (List ℕ) → Forest → Option ℕ → Read (List Shape)
drawn_rest read core width layers rest on = read rest >>= λ x. made (on_layers (length layers) on (core x) (width x))

abbrev pub drawn : {A : Type 0} → (Forest → Read A) → (A → Core) → (A → ℕ) → List (List ℕ) → ℕ → Forest → Read (List Shape)
drawn read core width layers at f = word_of at f >>= λ w. some_layer layers w.0 >>= λ on. drawn_rest read core width layers w.1 on

pub drawn_found : {A : Type 0} (read : Forest → Read A) (States : Forest → A → Type 0) (HasFault : Forest → DesignFault → Type 0) → Meets read States HasFault → (core : A → Core) (width : A → ℕ)
    → (layers : List (List ℕ)) (at : ℕ) (f : Forest) (ss : List Shape) → drawn read core width layers at f ≡ Ok ss → DrawsIt States core width layers f ss
unfolding word_of
drawn_found read States HasFault m core width layers at End ss e = absurd cc
drawn_found read States HasFault m core width layers at (Branch a inside rest) ss e = absurd cc
drawn_found read States HasFault m core width layers at (Word a text rest) ss e =
    let n = bind_ok (some_layer layers (mark a text)) (drawn_rest read core width layers rest) ss e in
    let x = bind_ok (read rest) (λ x. made (on_layers (length layers) n.0 (core x) (width x))) ss n.2 in
    record { on = n.0; it = x.0; layer_is = layer_found layers a text n.0 n.1; stated = m.found rest x.0 x.1; shapes = sym (ok_is (on_layers (length layers) n.0 (core x.0) (width x.0)) ss x.2) }

pub drawn_again : {A : Type 0} (read : Forest → Read A) (States : Forest → A → Type 0) (HasFault : Forest → DesignFault → Type 0) → Meets read States HasFault → (core : A → Core) (width : A → ℕ)
    → (layers : List (List ℕ)) (at : ℕ) (f : Forest) (ss : List Shape) → DrawsIt States core width layers f ss → drawn read core width layers at f ≡ Ok ss
unfolding word_of
drawn_again read States HasFault m core width layers at End ss h = absurd h
drawn_again read States HasFault m core width layers at (Branch a inside rest) ss h = absurd h
drawn_again read States HasFault m core width layers at (Word a text rest) ss h =
    rw (layer_again layers a text h.on h.layer_is, m.again rest h.it h.stated) (ap (λ (x : List Shape). made x) (sym h.shapes))

abbrev OnWordFault : List (List ℕ) → (Forest → DesignFault → Type 0) → ℕ → List ℕ → Forest → DesignFault → Type 0
OnWordFault layers HasFault a text rest e = LayerWordFault layers a text e ⊎ (StatesLayer layers text × HasFault rest e)

rest_fault : {A : Type 0} (read : Forest → Read A) (States : Forest → A → Type 0) (HasFault : Forest → DesignFault → Type 0) → Meets read States HasFault → (core : A → Core) (width : A → ℕ)
    → (layers : List (List ℕ)) (rest : Forest) (on : Option ℕ) (e : DesignFault) → drawn_rest read core width layers rest on ≡ Err e → HasFault rest e
rest_fault read States HasFault m core width layers rest on e h =
    elim (bind_err (read rest) (λ x. made (on_layers (length layers) on (core x) (width x))) e h) [
      | inl here ↦ m.fault rest e here
      | inr later ↦ absurd cc
    ]

word_fails : {A : Type 0} (read : Forest → Read A) (States : Forest → A → Type 0) (HasFault : Forest → DesignFault → Type 0) → Meets read States HasFault → (core : A → Core) (width : A → ℕ)
    → (layers : List (List ℕ)) (a : ℕ) (text : List ℕ) (rest : Forest) (e : DesignFault)
    → (some_layer layers (mark a text) >>= λ on. drawn_rest read core width layers rest on) ≡ Err e → OnWordFault layers HasFault a text rest e
word_fails read States HasFault m core width layers a text rest e h =
    elim (bind_err (some_layer layers (mark a text)) (drawn_rest read core width layers rest) e h) [
      | inl here ↦ inl (layer_fault layers a text e here)
      | inr later ↦ inr ((later.0, layer_found layers a text later.0 later.1), rest_fault read States HasFault m core width layers rest later.0 e later.2)
    ]

pub drawn_fault : {A : Type 0} (read : Forest → Read A) (States : Forest → A → Type 0) (HasFault : Forest → DesignFault → Type 0) → Meets read States HasFault → (core : A → Core) (width : A → ℕ)
    → (layers : List (List ℕ)) (at : ℕ) (f : Forest) (e : DesignFault) → drawn read core width layers at f ≡ Err e → OnLayerFault layers at HasFault f e
drawn_fault read States HasFault m core width layers at f e h =
    word_fault _ (OnWordFault layers HasFault) at f e (λ a text rest k. word_fails read States HasFault m core width layers a text rest e k) h

word_again : {A : Type 0} (read : Forest → Read A) (States : Forest → A → Type 0) (HasFault : Forest → DesignFault → Type 0) → Meets read States HasFault → (core : A → Core) (width : A → ℕ)
    → (layers : List (List ℕ)) (a : ℕ) (text : List ℕ) (rest : Forest) (e : DesignFault) → OnWordFault layers HasFault a text rest e
    → (some_layer layers (mark a text) >>= λ on. drawn_rest read core width layers rest on) ≡ Err e
word_again read States HasFault m core width layers a text rest e (inl here) = rw (layer_fault_again layers a text e here) refl
word_again read States HasFault m core width layers a text rest e (inr later) = rw (layer_again layers a text later.0.0 later.0.1, m.first rest e later.1) refl

pub drawn_first : {A : Type 0} (read : Forest → Read A) (States : Forest → A → Type 0) (HasFault : Forest → DesignFault → Type 0) → Meets read States HasFault → (core : A → Core) (width : A → ℕ)
    → (layers : List (List ℕ)) (at : ℕ) (f : Forest) (e : DesignFault) → OnLayerFault layers at HasFault f e → drawn read core width layers at f ≡ Err e
drawn_first read States HasFault m core width layers at f e h =
    word_fault_again _ (OnWordFault layers HasFault) at f e (λ a text rest k. word_again read States HasFault m core width layers a text rest e k) h
