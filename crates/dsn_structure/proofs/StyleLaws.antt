-- A flip style is read exactly where it is named, and the fault of its list is the one that is told.
use Rattle.std.proofs.Common.{◌≡◌, ℕ, true, List, [], ◌∷◌, Option, Some, None, Ok, Err, refl, ap, inl, inr, ◌⊎◌}
use Rattle.sexp_text.specs.Forest.{Forest, End, Word, Branch}
use Rattle.dsn_lists.specs.declared.faults.DesignFault.{DesignFault}
use Rattle.dsn_lists.specs.declared.faults.DesignKind.TheVariants as kind
use Rattle.dsn_lists.specs.Results.{Read, ◌>>=◌, each}
use Rattle.dsn_lists.specs.Words.{word_of, spare_list}
use Rattle.dsn_lists.specs.Lists.{told}
use Rattle.dsn_lists.specs.ShortLists.{only_lists, HasStray}
use Rattle.dsn_lists.proofs.Firsts.{made, word_fault, word_fault_again}
use Rattle.dsn_lists.proofs.ShortLaws.{spare_again, spare_then, spare_then_again, spare_value}
use Rattle.dsn_structure.specs.declared.flips.FlipStyle.{FlipStyle}
use Rattle.dsn_structure.specs.Structures.{flip_named, known_flip, flip_list}
use Rattle.dsn_structure.specs.FlipLists.{NamesFlip, IsFlipStyle, FlipStyleFault, style_named}

-- ---- `(flip_style <word>)`

abbrev flip_rest : Forest → FlipStyle → Read FlipStyle
flip_rest rest s = each spare_list tt rest >>= λ _. made s

flip_word_ok : (a : ℕ) (rest : Forest) (o : Option FlipStyle) (s : FlipStyle) → (known_flip a o >>= λ s. flip_rest rest s) ≡ Ok s → (o ≡ Some s) × (only_lists rest ≡ true)
flip_word_ok a rest None s e = absurd cc
flip_word_ok a rest (Some t) s e = let v = spare_value rest t s e in (ap (λ (x : FlipStyle). Some x) v.1, v.0)

pub style_found : (at : ℕ) (f : Forest) (s : FlipStyle) → flip_list at f ≡ Ok s → IsFlipStyle f × (style_named f ≡ s ∷ [])
unfolding flip_list word_of
style_found at End s e = absurd cc
style_found at (Branch a inside rest) s e = absurd cc
style_found at (Word a text rest) s e =
    let w = flip_word_ok a rest (flip_named text) s e in
    (((s, w.0), w.1), rw w.0 refl)

pub style_again : (at : ℕ) (f : Forest) → IsFlipStyle f → (s : FlipStyle) × (flip_list at f ≡ Ok s) × (style_named f ≡ s ∷ [])
unfolding flip_list word_of
style_again at End h = absurd h
style_again at (Branch a inside rest) h = absurd h
style_again at (Word a text rest) h = (h.0.0, rw (h.0.1, spare_again rest tt h.1) refl, rw h.0.1 refl)

abbrev FlipWordFault : ℕ → List ℕ → Forest → DesignFault → Type 0
FlipWordFault a text rest e = ((flip_named text ≡ None) × (e ≡ told kind.Style a)) ⊎ (NamesFlip text × HasStray rest e)

flip_word_err : (a : ℕ) (text : List ℕ) (rest : Forest) (o : Option FlipStyle) (e : DesignFault) → flip_named text ≡ o → (known_flip a o >>= λ s. flip_rest rest s) ≡ Err e → FlipWordFault a text rest e
flip_word_err a text rest None e is h = inl (is, cc)
flip_word_err a text rest (Some s) e is h = inr ((s, is), spare_then rest s e h)

pub style_fault : (at : ℕ) (f : Forest) (e : DesignFault) → flip_list at f ≡ Err e → FlipStyleFault at f e
unfolding flip_list
style_fault at f e h = word_fault _ FlipWordFault at f e (λ a text rest k. flip_word_err a text rest (flip_named text) e refl k) h

flip_word_err_again : (a : ℕ) (text : List ℕ) (rest : Forest) (e : DesignFault) → FlipWordFault a text rest e → (known_flip a (flip_named text) >>= λ s. flip_rest rest s) ≡ Err e
flip_word_err_again a text rest e (inl here) = rw (here.0, here.1) refl
flip_word_err_again a text rest e (inr later) = rw later.0.1 (spare_then_again rest later.0.0 e later.1)

pub style_fault_again : (at : ℕ) (f : Forest) (e : DesignFault) → FlipStyleFault at f e → flip_list at f ≡ Err e
unfolding flip_list
style_fault_again at f e h = word_fault_again _ FlipWordFault at f e (λ a text rest k. flip_word_err_again a text rest e k) h
