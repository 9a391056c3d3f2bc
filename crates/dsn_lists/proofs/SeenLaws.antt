-- The sections that were seen are those that stand, and the unit that holds is the one that is read.
use Rattle.std.proofs.Common.{◌≡◌, Bool, true, false, List, [], ◌∷◌, ◌++◌, map, Option, Some, None, refl, sym, ap, ◌∙◌}
use Rattle.std.specs.Prelude.{◌||◌}
use Rattle.std.proofs.lemmas.List.{map-append}
use Rattle.sexp_text.specs.declared.units.Unit.{Unit as LengthUnit}
use Rattle.dsn_lists.specs.declared.pcb.Section.{Section}
use Rattle.dsn_lists.specs.declared.pcb.Section.TheVariants as sections
use Rattle.dsn_lists.specs.declared.pcb.Seen.{Seen}
use Rattle.dsn_lists.specs.Pcbs.{has, with, no_section, frame_unit}
use Rattle.dsn_lists.specs.Lists.{last_of}
use Rattle.dsn_lists.specs.Titles.{same_section, stands, AreOnce}
use Rattle.dsn_lists.proofs.UnitLaws.{last-append}

-- ---- the sections that were seen

has_with : (x : Seen) (t s : Section) → has (with x t) s ≡ (same_section s t || has x s)
has_with x sections.Structure sections.Structure = refl
has_with x sections.Structure sections.Library = refl
has_with x sections.Structure sections.Placement = refl
has_with x sections.Structure sections.Network = refl
has_with x sections.Structure sections.Wiring = refl
has_with x sections.Library sections.Structure = refl
has_with x sections.Library sections.Library = refl
has_with x sections.Library sections.Placement = refl
has_with x sections.Library sections.Network = refl
has_with x sections.Library sections.Wiring = refl
has_with x sections.Placement sections.Structure = refl
has_with x sections.Placement sections.Library = refl
has_with x sections.Placement sections.Placement = refl
has_with x sections.Placement sections.Network = refl
has_with x sections.Placement sections.Wiring = refl
has_with x sections.Network sections.Structure = refl
has_with x sections.Network sections.Library = refl
has_with x sections.Network sections.Placement = refl
has_with x sections.Network sections.Network = refl
has_with x sections.Network sections.Wiring = refl
has_with x sections.Wiring sections.Structure = refl
has_with x sections.Wiring sections.Library = refl
has_with x sections.Wiring sections.Placement = refl
has_with x sections.Wiring sections.Network = refl
has_with x sections.Wiring sections.Wiring = refl

has_none : (s : Section) → has no_section s ≡ false
has_none sections.Structure = refl
has_none sections.Library = refl
has_none sections.Placement = refl
has_none sections.Network = refl
has_none sections.Wiring = refl

-- what is seen behind these sections
abbrev pub seen_with : Seen → List Section → Seen
seen_with x [] = x
seen_with x (s ∷ ss) = seen_with (with x s) ss

pub seen_more : (x : Seen) (ss ts : List Section) → seen_with (seen_with x ss) ts ≡ seen_with x (ss ++ ts)
seen_more x [] ts = refl
seen_more x (s ∷ ss) ts = seen_more (with x s) ss ts

or_swap : (a b c : Bool) → (a || (b || c)) ≡ ((b || a) || c)
or_swap true true c = refl
or_swap true false c = refl
or_swap false true c = refl
or_swap false false c = refl

or_none : (a b : Bool) → b ≡ false → (a || b) ≡ a
or_none true b h = refl
or_none false b h = h

seen_has : (x : Seen) (ss : List Section) (s : Section) → has (seen_with x ss) s ≡ (stands s ss || has x s)
seen_has x [] s = refl
seen_has x (t ∷ ts) s = seen_has (with x t) ts s ∙ ap (λ (b : Bool). stands s ts || b) (has_with x t s) ∙ or_swap (stands s ts) (same_section s t) (has x s)

-- a section is seen behind sections exactly where it is one of them
pub seen_is : (ss : List Section) (s : Section) → has (seen_with no_section ss) s ≡ stands s ss
seen_is ss s = seen_has no_section ss s ∙ or_none (stands s ss) (has no_section s) (has_none s)

-- ---- each section at most once

-- no section is one of those seen, nor of those that stand before it
abbrev pub AreNew : Seen → List Section → Type 0
AreNew x [] = Unit {0}
AreNew x (s ∷ ss) = (has x s ≡ false) × AreNew (with x s) ss

pub new_join : (x : Seen) (ss ts : List Section) → AreNew x ss → AreNew (seen_with x ss) ts → AreNew x (ss ++ ts)
new_join x [] ts p q = q
new_join x (s ∷ ss) ts p q = (p.0, new_join (with x s) ss ts p.1 q)

pub new_cut : (x : Seen) (ss ts : List Section) → AreNew x (ss ++ ts) → AreNew x ss × AreNew (seen_with x ss) ts
new_cut x [] ts h = (tt, h)
new_cut x (s ∷ ss) ts h = let r = new_cut (with x s) ss ts h.1 in ((h.0, r.0), r.1)

nothing_in : (before after : List Section) (s : Section) → [] ≡ before ++ s ∷ after → ⊥
nothing_in [] after s e = absurd cc
nothing_in (b ∷ before) after s e = absurd cc

heads : (a b : Section) (xs ys : List Section) → a ∷ xs ≡ b ∷ ys → (a ≡ b) × (xs ≡ ys)
heads a b xs ys e = (cc, cc)

new_at : (x : Seen) (ss before after : List Section) (s : Section) → AreNew x ss → ss ≡ before ++ s ∷ after → has (seen_with x before) s ≡ false
new_at x [] before after s h e = absurd (nothing_in before after s e)
new_at x (t ∷ ts) [] after s h e = ap (λ (r : Section). has x r) (sym (heads t s ts after e).0) ∙ h.0
new_at x (t ∷ ts) (b ∷ before) after s h e =
    let p = heads t b ts (before ++ s ∷ after) e in
    ap (λ (r : Section). has (seen_with (with x r) before) s) (sym p.0) ∙ new_at (with x t) ts before after s h.1 p.1

new_from : (x : Seen) (ss : List Section) → ((before after : List Section) (s : Section) → ss ≡ before ++ s ∷ after → has (seen_with x before) s ≡ false) → AreNew x ss
new_from x [] h = tt
new_from x (s ∷ ss) h = (h [] ss s refl, new_from (with x s) ss (λ before after r e. h (s ∷ before) after r (ap (λ (xs : List Section). s ∷ xs) e)))

pub once_of_new : (ss : List Section) → AreNew no_section ss → AreOnce ss
once_of_new ss h before after s e = sym (seen_is before s) ∙ new_at no_section ss before after s h e

pub new_of_once : (ss : List Section) → AreOnce ss → AreNew no_section ss
new_of_once ss h = new_from no_section ss (λ before after s e. seen_is before s ∙ h before after s e)

-- ---- the unit

stays : (u : LengthUnit) (us : List LengthUnit) (o : Option LengthUnit) → frame_unit (last_of (Some u) (map Some us)) o ≡ last_of (Some u) (map Some us)
stays u [] o = refl
stays u (v ∷ us) o = stays v us o

last_or : (us : List LengthUnit) (o : Option LengthUnit) → frame_unit (last_of None (map Some us)) o ≡ last_of o (map Some us)
last_or [] o = refl
last_or (u ∷ us) o = stays u us o

-- the last unit, else the last resolution
pub frame_is : (us rs : List LengthUnit) → frame_unit (last_of None (map Some us)) (last_of None (map Some rs)) ≡ last_of None (map Some (rs ++ us))
frame_is us rs =
    last_or us (last_of None (map Some rs)) ∙ sym (last-append None (map Some rs) (map Some us)) ∙ ap (λ (os : List (Option LengthUnit)). last_of None os) (sym (map-append Some rs us))
