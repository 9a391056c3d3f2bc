-- The angles that words state are those that are read, and their faults are those that are told.
use Rattle.std.proofs.Common.{◌≡◌, ℕ, List, Result, Ok, Err, refl, sym, ap, subst, ◌∙◌}
use Rattle.sexp_text.specs.declared.angle_fault.AngleFault.{AngleFault}
use Rattle.sexp_text.specs.declared.angle_fault.AngleFault.TheVariants as angles
use Rattle.sexp_text.specs.AngleReading.{angle_in}
use Rattle.sexp_text.proofs.AngleLaws.{ok_iff, not_angle_iff, not_number_iff}
use Rattle.dsn_lists.specs.declared.faults.DesignFault.{DesignFault}
use Rattle.dsn_lists.specs.declared.faults.DesignKind.{DesignKind}
use Rattle.dsn_lists.specs.declared.faults.DesignKind.TheVariants as kind
use Rattle.dsn_lists.specs.Results.{wrong}
use Rattle.dsn_lists.specs.Words.{mark}
use Rattle.dsn_lists.specs.Lists.{told}
use Rattle.dsn_lists.proofs.Firsts.{failed, ok_is}
use Rattle.dsn_library.specs.Images.{angle_told, angle_word}
use Rattle.dsn_library.specs.AngleWords.{HasAngle, NoAngle, AngleWordFault}

pub angle_found : (at : ℕ) (text : List ℕ) (n : ℕ) → angle_word (mark at text) ≡ Ok n → HasAngle text (Ok n)
angle_found at text n e = by (angle_in text) refl e
  where
    by : (r : Result ℕ AngleFault) → angle_in text ≡ r → angle_told at r ≡ Ok n → HasAngle text (Ok n)
    by (Ok m) is e = (ok_iff text n).0 (is ∙ ap (λ (x : ℕ). Ok x) (ok_is m n e))
    by (Err angles.NotNumber) is e = absurd cc
    by (Err angles.NotAngle) is e = absurd cc

pub angle_again : (at : ℕ) (text : List ℕ) (n : ℕ) → HasAngle text (Ok n) → angle_word (mark at text) ≡ Ok n
angle_again at text n h = let is = (ok_iff text n).1 h in rw is refl

no_angle : (at : ℕ) (text : List ℕ) (k : DesignKind) (e : DesignFault) → NoAngle text k → e ≡ told k at → AngleWordFault at text e
no_angle at text k e h is = subst (λ (d : DesignFault). AngleWordFault at text d) (sym is) (h, refl)

pub angle_fault : (at : ℕ) (text : List ℕ) (e : DesignFault) → angle_word (mark at text) ≡ Err e → AngleWordFault at text e
angle_fault at text e h = by (angle_in text) refl h
  where
    by : (r : Result ℕ AngleFault) → angle_in text ≡ r → angle_told at r ≡ Err e → AngleWordFault at text e
    by (Ok m) is h = absurd cc
    by (Err angles.NotNumber) is h = no_angle at text kind.Number e ((not_number_iff text).0 is) cc
    by (Err angles.NotAngle) is h = no_angle at text kind.Angle e ((not_angle_iff text).0 is) cc

pub angle_fault_again : (at : ℕ) (text : List ℕ) (e : DesignFault) → AngleWordFault at text e → angle_word (mark at text) ≡ Err e
angle_fault_again at text e h = by e.kind h.0 ∙ ap (λ (a : ℕ). failed (told e.kind a)) (sym h.1)
  where
    by : (k : DesignKind) → NoAngle text k → angle_word (mark at text) ≡ wrong k at
    by kind.Number none = rw ((not_number_iff text).1 none) refl
    by kind.Angle none = rw ((not_angle_iff text).1 none) refl
    by _ none = absurd none
