-- The lists behind the words of a shape are those that are read, and their first fault is the one that is told.
use Rattle.std.proofs.Common.{◌≡◌, ℕ, true, false, cond, List, codes, Ok, Err, refl, sym, ap, inl, inr, ◌⊎◌}
use Rattle.sexp_text.specs.Forest.{Forest, End, Word, Branch}
use Rattle.dsn_lists.specs.declared.faults.DesignFault.{DesignFault}
use Rattle.dsn_lists.specs.declared.faults.DesignKind.TheVariants as kind
use Rattle.dsn_lists.specs.declared.shapes.TrailWord.{TrailWord}
use Rattle.dsn_lists.specs.declared.shapes.TrailWord.TheVariants as trails
use Rattle.dsn_lists.specs.Results.{wrong, each}
use Rattle.dsn_lists.specs.Words.{Heading, same, head_of, word_of, spare_list}
use Rattle.dsn_lists.specs.Shapes.{trail_word, aperture, trail_list, trail_item, trail}
use Rattle.dsn_lists.specs.Lists.{told}
use Rattle.dsn_lists.specs.ShortLists.{HasStray}
use Rattle.dsn_lists.specs.TrailLists.{IsAperture, ApertureFault, IsOfTrail, OfTrailFault, IsTrail, TrailListFault, TrailFault}
use Rattle.dsn_lists.proofs.Firsts.{failed, bind_ok, guard_ok, guard_err, word_fault, word_fault_again, first_found, first_again}
use Rattle.dsn_lists.proofs.ShortLaws.{spare_found, spare_again, stray_found, stray_again}

-- ---- `(aperture_type <word>)`

aperture_found : (at : ℕ) (f : Forest) (x : Unit {0}) → aperture at f ≡ Ok x → IsAperture f
unfolding aperture word_of
aperture_found at End x e = absurd cc
aperture_found at (Branch a inside rest) x e = absurd cc
aperture_found at (Word a text rest) x e =
    let g = guard_ok (same text (codes "square")) (told kind.Square a) (each spare_list tt rest) x e in
    (g.0, spare_found rest tt x g.1)

aperture_again : (at : ℕ) (f : Forest) → IsAperture f → aperture at f ≡ Ok tt
unfolding aperture word_of
aperture_again at End h = absurd h
aperture_again at (Branch a inside rest) h = absurd h
aperture_again at (Word a text rest) h = rw h.0 (spare_again rest tt h.1)

abbrev ApertureWordFault : ℕ → List ℕ → Forest → DesignFault → Type 0
ApertureWordFault a text rest e = ((same text (codes "square") ≡ true) × (e ≡ told kind.Square a)) ⊎ ((same text (codes "square") ≡ false) × HasStray rest e)

aperture_word : (a : ℕ) (text : List ℕ) (rest : Forest) (e : DesignFault) → cond (same text (codes "square")) (wrong kind.Square a) (each spare_list tt rest) ≡ Err e → ApertureWordFault a text rest e
aperture_word a text rest e h =
    elim (guard_err (same text (codes "square")) (told kind.Square a) (each spare_list tt rest) e h) [
      | inl here ↦ inl here
      | inr later ↦ inr (later.0, stray_found rest tt e later.1)
    ]

aperture_word_again : (a : ℕ) (text : List ℕ) (rest : Forest) (e : DesignFault) → ApertureWordFault a text rest e → cond (same text (codes "square")) (wrong kind.Square a) (each spare_list tt rest) ≡ Err e
aperture_word_again a text rest e (inl here) = rw (here.0, here.1) refl
aperture_word_again a text rest e (inr later) = rw later.0 (stray_again rest tt e later.1)

aperture_fault : (at : ℕ) (f : Forest) (e : DesignFault) → aperture at f ≡ Err e → ApertureFault at f e
unfolding aperture
aperture_fault at f e h = word_fault _ ApertureWordFault at f e (λ a text rest k. aperture_word a text rest e k) h

aperture_fault_again : (at : ℕ) (f : Forest) (e : DesignFault) → ApertureFault at f e → aperture at f ≡ Err e
unfolding aperture
aperture_fault_again at f e h = word_fault_again _ ApertureWordFault at f e (λ a text rest k. aperture_word_again a text rest e k) h

-- ---- one list

one_found : (at : ℕ) (h : Heading) (k : TrailWord) (x : Unit {0}) → trail_list at h k ≡ Ok x → IsOfTrail k h.args
one_found at h trails.Window x e = absurd cc
one_found at h trails.ApertureType x e = aperture_found at h.args x e
one_found at h trails.Other x e = tt

one_again : (at : ℕ) (h : Heading) (k : TrailWord) → IsOfTrail k h.args → trail_list at h k ≡ Ok tt
one_again at h trails.Window g = absurd g
one_again at h trails.ApertureType g = aperture_again at h.args g
one_again at h trails.Other g = refl

one_fault : (at : ℕ) (h : Heading) (k : TrailWord) (e : DesignFault) → trail_list at h k ≡ Err e → OfTrailFault at h k e
one_fault at h trails.Window e g = cc
one_fault at h trails.ApertureType e g = aperture_fault at h.args e g
one_fault at h trails.Other e g = absurd cc

one_fault_again : (at : ℕ) (h : Heading) (k : TrailWord) (e : DesignFault) → OfTrailFault at h k e → trail_list at h k ≡ Err e
one_fault_again at h trails.Window e g = ap failed (sym g)
one_fault_again at h trails.ApertureType e g = aperture_fault_again at h.args e g
one_fault_again at h trails.Other e g = absurd g

-- ---- all lists

lists_found : (f : Forest) (x y : Unit {0}) → each trail_item x f ≡ Ok y → IsTrail f
unfolding each trail_item
lists_found End x y e = tt
lists_found (Word at text rest) x y e = absurd cc
lists_found (Branch at inside rest) x y e =
    let z = bind_ok (trail_item x at inside) (λ z. each trail_item z rest) y e in
    (one_found at (head_of inside) (trail_word (head_of inside).text) z.0 z.1, lists_found rest z.0 y z.2)

pub trail_found : (f : Forest) (x : Unit {0}) → trail f ≡ Ok x → IsTrail f
trail_found f x e = lists_found f tt x e

pub trail_again : (f : Forest) → IsTrail f → trail f ≡ Ok tt
unfolding each trail_item
trail_again End h = refl
trail_again (Word at text rest) h = absurd h
trail_again (Branch at inside rest) h = rw (one_again at (head_of inside) (trail_word (head_of inside).text) h.0) (trail_again rest h.1)

item_fault : (before inside : Forest) (at : ℕ) (e : DesignFault) → trail_item tt at inside ≡ Err e → TrailListFault before at inside e
unfolding trail_item
item_fault before inside at e h = one_fault at (head_of inside) (trail_word (head_of inside).text) e h

item_fault_again : (before inside : Forest) (at : ℕ) (e : DesignFault) → TrailListFault before at inside e → trail_item tt at inside ≡ Err e
unfolding trail_item
item_fault_again before inside at e h = one_fault_again at (head_of inside) (trail_word (head_of inside).text) e h

pub trail_fault : (f : Forest) (e : DesignFault) → trail f ≡ Err e → TrailFault f e
trail_fault f e h =
    first_found trail_item tt (λ f. tt) IsTrail TrailListFault (λ f y k. (lists_found f tt y k, refl))
    (λ before inside at e stand k. item_fault before inside at e k) f e h

pub trail_fault_again : (f : Forest) (e : DesignFault) → TrailFault f e → trail f ≡ Err e
trail_fault_again f e h =
    first_again trail_item tt (λ f. tt) IsTrail TrailListFault trail_again
    (λ before inside at e stand k. item_fault_again before inside at e k) f e h
