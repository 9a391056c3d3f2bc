-- A design is read, apart from its sections, exactly where it is one by its own words, and its first fault is the one told.
use Rattle.std.proofs.Common.{◌≡◌, ℕ, ◌↔◌, Bool, true, false, cond, codes, Ok, Err, refl, sym, ap, subst, ◌∙◌, inl, inr, ◌⊎◌}
use Rattle.sexp_text.specs.Forest.{Forest, End, Word, Branch}
use Rattle.dsn_lists.specs.declared.faults.DesignFault.{DesignFault}
use Rattle.dsn_lists.specs.declared.faults.DesignKind.TheVariants as kind
use Rattle.dsn_lists.specs.declared.pcb.Title.{Title}
use Rattle.dsn_lists.specs.Results.{Read, ◌>>=◌, wrong}
use Rattle.dsn_lists.specs.Words.{same, word_of}
use Rattle.dsn_lists.specs.Pcbs.{nothing, inside_of, design_of}
use Rattle.dsn_lists.specs.Lists.{told}
use Rattle.dsn_lists.specs.ShortLists.{HasWord, NoWordOr}
use Rattle.dsn_lists.specs.Titles.{IsTitleOf, IsPcb, IsTitle, PcbListsFault, PcbFault, HasMore, TitleFault}
use Rattle.dsn_lists.proofs.Firsts.{made, failed, ok_is, bind_ok, bind_err, word_fault, word_fault_again}
use Rattle.dsn_lists.proofs.PcbWholeLaws.{lists_then, lists_ok, lists_ok_again, lists_err, lists_err_again}

-- ---- `(pcb <name> ..)`

-- what follows the keyword
abbrev name_then : ℕ → Forest → Read Title
name_then at f = word_of at f >>= λ n. lists_then at n.0.name n.1

name_found : (at : ℕ) (f : Forest) (t : Title) → name_then at f ≡ Ok t → HasWord (λ name lists. IsTitleOf name lists t) f
unfolding word_of
name_found at End t e = absurd cc
name_found at (Branch a inside rest) t e = absurd cc
name_found at (Word a text rest) t e = lists_ok at text rest t e

name_again : (at : ℕ) (f : Forest) (t : Title) → HasWord (λ name lists. IsTitleOf name lists t) f → name_then at f ≡ Ok t
unfolding word_of
name_again at End t h = absurd h
name_again at (Branch a inside rest) t h = absurd h
name_again at (Word a text rest) t h = lists_ok_again at text rest t h

name_fault : (at : ℕ) (f : Forest) (e : DesignFault) → name_then at f ≡ Err e → NoWordOr (λ b name lists e. PcbListsFault at lists e) at f e
name_fault at f e h = word_fault _ (λ b name lists e. PcbListsFault at lists e) at f e (λ a text rest k. lists_err at text rest e k) h

name_fault_again : (at : ℕ) (f : Forest) (e : DesignFault) → NoWordOr (λ b name lists e. PcbListsFault at lists e) at f e → name_then at f ≡ Err e
name_fault_again at f e h = word_fault_again _ (λ b name lists e. PcbListsFault at lists e) at f e (λ a text rest k. lists_err_again at text rest e k) h

abbrev is_pcb : ℕ → Bool → Read (Unit {0})
is_pcb a b = cond b (made tt) (wrong kind.Form a)

-- the keyword, and what follows
abbrev keyword_then : ℕ → ℕ → Forest → Bool → Read Title
keyword_then at a rest b = is_pcb a b >>= λ _. name_then at rest

keyword_ok : (at a : ℕ) (rest : Forest) (b : Bool) (t : Title) → keyword_then at a rest b ≡ Ok t → (b ≡ true) × HasWord (λ name lists. IsTitleOf name lists t) rest
keyword_ok at a rest true t e = (refl, name_found at rest t e)
keyword_ok at a rest false t e = absurd cc

pcb_found : (at : ℕ) (f : Forest) (t : Title) → inside_of at f ≡ Ok t → IsPcb f t
unfolding inside_of word_of
pcb_found at End t e = absurd cc
pcb_found at (Branch a inside rest) t e = absurd cc
pcb_found at (Word a text rest) t e = keyword_ok at a rest (same text (codes "pcb")) t e

pcb_again : (at : ℕ) (f : Forest) (t : Title) → IsPcb f t → inside_of at f ≡ Ok t
unfolding inside_of word_of
pcb_again at End t h = absurd h
pcb_again at (Branch a inside rest) t h = absurd h
pcb_again at (Word a text rest) t h = ap (λ (b : Bool). keyword_then at a rest b) h.0 ∙ name_again at rest t h.1

abbrev KeywordFault : ℕ → ℕ → Forest → Bool → DesignFault → Type 0
KeywordFault at a rest b e = ((b ≡ false) × (e ≡ told kind.Form a)) ⊎ ((b ≡ true) × NoWordOr (λ b name lists e. PcbListsFault at lists e) at rest e)

keyword_err : (at a : ℕ) (rest : Forest) (b : Bool) (e : DesignFault) → keyword_then at a rest b ≡ Err e → KeywordFault at a rest b e
keyword_err at a rest true e h = inr (refl, name_fault at rest e h)
keyword_err at a rest false e h = inl (refl, cc)

keyword_err_again : (at a : ℕ) (rest : Forest) (b : Bool) (e : DesignFault) → KeywordFault at a rest b e → keyword_then at a rest b ≡ Err e
keyword_err_again at a rest b e (inl other) = rw (other.0, other.1) refl
keyword_err_again at a rest b e (inr later) = ap (λ (x : Bool). keyword_then at a rest x) later.0 ∙ name_fault_again at rest e later.1

pcb_fault : (at : ℕ) (f : Forest) (e : DesignFault) → inside_of at f ≡ Err e → PcbFault at f e
unfolding inside_of
pcb_fault at f e h = word_fault _ (λ a text rest e. KeywordFault at a rest (same text (codes "pcb")) e) at f e (λ a text rest k. keyword_err at a rest (same text (codes "pcb")) e k) h

pcb_fault_again : (at : ℕ) (f : Forest) (e : DesignFault) → PcbFault at f e → inside_of at f ≡ Err e
unfolding inside_of
pcb_fault_again at f e h = word_fault_again _ (λ a text rest e. KeywordFault at a rest (same text (codes "pcb")) e) at f e (λ a text rest k. keyword_err_again at a rest (same text (codes "pcb")) e k) h

-- ---- the design

rest_ok : (rest : Forest) (s t : Title) → (nothing rest >>= λ _. made s) ≡ Ok t → (rest ≡ End) × (s ≡ t)
unfolding nothing
rest_ok End s t e = (refl, ok_is s t e)
rest_ok (Word at text rest) s t e = absurd cc
rest_ok (Branch at inside rest) s t e = absurd cc

rest_err : (rest : Forest) (s : Title) (e : DesignFault) → (nothing rest >>= λ _. made s) ≡ Err e → HasMore rest e
unfolding nothing
rest_err End s e h = absurd cc
rest_err (Word at text rest) s e h = cc
rest_err (Branch at inside rest) s e h = cc

rest_err_again : (rest : Forest) (s : Title) (e : DesignFault) → HasMore rest e → (nothing rest >>= λ _. made s) ≡ Err e
unfolding nothing
rest_err_again End s e h = absurd h
rest_err_again (Word at text rest) s e h = ap failed (sym h)
rest_err_again (Branch at inside rest) s e h = ap failed (sym h)

pub title_found : (f : Forest) (t : Title) → design_of f ≡ Ok t → IsTitle f t
unfolding design_of
title_found End t e = absurd cc
title_found (Word at text rest) t e = absurd cc
title_found (Branch at inside rest) t e =
    let s = bind_ok (inside_of at inside) (λ s. nothing rest >>= λ _. made s) t e in
    let end = rest_ok rest s.0 t s.2 in
    (subst (λ (x : Title). IsPcb inside x) end.1 (pcb_found at inside s.0 s.1), end.0)

pub title_again : (f : Forest) (t : Title) → IsTitle f t → design_of f ≡ Ok t
unfolding design_of nothing
title_again End t h = absurd h
title_again (Word at text rest) t h = absurd h
title_again (Branch at inside rest) t h = rw (pcb_again at inside t h.0, h.1) refl

pub title_why : (f : Forest) (e : DesignFault) → design_of f ≡ Err e → TitleFault f e
unfolding design_of
title_why End e h = cc
title_why (Word at text rest) e h = cc
title_why (Branch at inside rest) e h =
    elim (bind_err (inside_of at inside) (λ s. nothing rest >>= λ _. made s) e h) [
      | inl here ↦ inl (pcb_fault at inside e here)
      | inr later ↦ inr (later.0, pcb_found at inside later.0 later.1, rest_err rest later.0 e later.2)
    ]

pub why_title : (f : Forest) (e : DesignFault) → TitleFault f e → design_of f ≡ Err e
unfolding design_of
why_title End e h = ap failed (sym h)
why_title (Word at text rest) e h = ap failed (sym h)
why_title (Branch at inside rest) e (inl here) = rw (pcb_fault_again at inside e here) refl
why_title (Branch at inside rest) e (inr later) = rw (pcb_again at inside later.0 later.1) (rest_err_again rest later.0 e later.2)

-- a design is read apart from its sections exactly where it is one
pub title_iff : (f : Forest) (t : Title) → (design_of f ≡ Ok t) ↔ IsTitle f t
title_iff f t = (title_found f t, title_again f t)

-- a fault is told exactly where it is the first
pub title_fault_iff : (f : Forest) (e : DesignFault) → (design_of f ≡ Err e) ↔ TitleFault f e
title_fault_iff f e = (title_why f e, why_title f e)
