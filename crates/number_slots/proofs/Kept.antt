-- Places and things after a thing was put or taken away.
use Rattle.std.proofs.Common.{Bor, ◌≡◌, ℕ, zero, suc, ◌+◌, ◌<◌, ◌^◌, List, [], ◌∷◌, ◌++◌, length, get_or, refl, sym, ap, subst, ◌∙◌, arith, length-append}
use Rattle.std.proofs.Math.ListN.{set}
use Rattle.std.specs.Prelude.{Option, Some, None, IsSome, slice_get, option_copied, IfSome, IfNone}
use Rattle.std.specs.List.{AllByRecursion}
use Rattle.slab.specs.Slab.{Slab, get, slab_len, Updates}
use Rattle.number_slots.specs.Slots.{there, without, IsAt}
use Rattle.number_slots.specs.Places.{slot_of, slots_of, IsHeld, AreApart, IsKept, IsPut}
use Rattle.number_slots.proofs.ByNumber.{there_more, all_stay, at_least, at_past, there_rises, emptied, slot_at, at_slot, there_join}

-- what holds of all holds of the one at a place
all_get : (P : ℕ → Type 0) (xs : List ℕ) (i d : ℕ) → AllByRecursion P xs → i < length xs → P (get_or xs i d)
all_get P [] i d all lt = absurd (omega arith)
all_get P (x ∷ xs) zero d all lt = all.0
all_get P (x ∷ xs) (suc i) d all lt = all_get P xs i d all.1 (omega arith)

-- a place other than this key's keeps what stands at it
same_slot : {T : Type 0} (s t : Slab T) (key p : ℕ) (o : Option T) → Updates s t key o → (p ≡ suc key → ⊥) → slot_of t p ≡ slot_of s p
same_slot s t key zero o u other = refl
same_slot s t key (suc k) o u other = u.others k (λ e. other (ap suc e))

same_held : {T : Type 0} (s t : Slab T) (key p : ℕ) (o : Option T) → Updates s t key o → (p ≡ suc key → ⊥) → IsHeld s p → IsHeld t p
same_held s t key zero o u other h = tt
same_held s t key (suc k) o u other h = subst IsSome (sym (u.others k (λ e. other (ap suc e)))) h

-- each of these places is another one than this key's
abbrev Others : ℕ → List ℕ → Type 0
Others key places = AllByRecursion (λ q. q ≡ suc key → ⊥) places

same_slots : {T : Type 0} (s t : Slab T) (key : ℕ) (o : Option T) (places : List ℕ) → Updates s t key o → Others key places → slots_of t places ≡ slots_of s places
same_slots s t key o [] u others = refl
same_slots s t key o (p ∷ rest) u others =
    let here = same_slot s t key p o u others.0 in
    let more = same_slots s t key o rest u others.1 in
    (λ i. here i ∷ more i)

all_held : {T : Type 0} (s t : Slab T) (key : ℕ) (o : Option T) (places : List ℕ) → Updates s t key o → Others key places → AllByRecursion (IsHeld s) places → AllByRecursion (IsHeld t) places
all_held s t key o [] u others h = tt
all_held s t key o (p ∷ rest) u others h = (same_held s t key p o u others.0 h.0, all_held s t key o rest u others.1 h.1)

-- ---- a thing that is taken away

-- behind its place there are only others
behind : (p key : ℕ) (rest : List ℕ) → p ≡ suc key → AllByRecursion (λ q. q ≡ p → p ≡ 0) rest → Others key rest
behind p key [] e all = tt
behind p key (q ∷ rest) e all = ((λ f. let wrong : p ≡ 0 = all.0 (f ∙ sym e) in absurd (omega (arith, e, wrong))), behind p key rest e all.1)

-- and before it too
before : (p key : ℕ) (rest : List ℕ) (i : ℕ) → AllByRecursion (λ q. q ≡ p → p ≡ 0) rest → i < length rest → get_or rest i 0 ≡ suc key → p ≡ suc key → ⊥
before p key rest i all lt e f = let wrong : p ≡ 0 = all_get (λ q. q ≡ p → p ≡ 0) rest i 0 all lt (e ∙ sym f) in absurd (omega (arith, f, wrong))

cleared_slots : {T : Type 0} (s t : Slab T) (key i : ℕ) (places : List ℕ) → Updates s t key None → AreApart places → i < length places → get_or places i 0 ≡ suc key → slots_of t (set places i 0) ≡ set (slots_of s places) i None
cleared_slots s t key i [] u apart lt e = absurd (omega arith)
cleared_slots s t key zero (p ∷ rest) u apart lt e = ap (λ ys. None ∷ ys) (same_slots s t key None rest u (behind p key rest e apart.0))
cleared_slots s t key (suc i) (p ∷ rest) u apart lt e =
    let here = same_slot s t key p None u (before p key rest i apart.0 (omega arith) e) in
    let more = cleared_slots s t key i rest u apart.1 (omega arith) e in
    (λ k. here k ∷ more k)

cleared_held : {T : Type 0} (s t : Slab T) (key i : ℕ) (places : List ℕ) → Updates s t key None → AreApart places → i < length places → get_or places i 0 ≡ suc key → AllByRecursion (IsHeld s) places → AllByRecursion (IsHeld t) (set places i 0)
cleared_held s t key i [] u apart lt e h = absurd (omega arith)
cleared_held s t key zero (p ∷ rest) u apart lt e h = (tt, all_held s t key None rest u (behind p key rest e apart.0) h.1)
cleared_held s t key (suc i) (p ∷ rest) u apart lt e h =
    (same_held s t key p None u (before p key rest i apart.0 (omega arith) e) h.0, cleared_held s t key i rest u apart.1 (omega arith) e h.1)

none_at_zero : (z : ℕ) (rest : List ℕ) → AllByRecursion (λ q. q ≡ z → z ≡ z) rest
none_at_zero z [] = tt
none_at_zero z (q ∷ rest) = ((λ e. refl), none_at_zero z rest)

set_apart_one : (p : ℕ) (i : ℕ) (rest : List ℕ) → AllByRecursion (λ q. q ≡ p → p ≡ 0) rest → AllByRecursion (λ q. q ≡ p → p ≡ 0) (set rest i 0)
set_apart_one p i [] all = tt
set_apart_one p zero (q ∷ rest) all = ((λ e. sym e), all.1)
set_apart_one p (suc i) (q ∷ rest) all = (all.0, set_apart_one p i rest all.1)

set_apart : (i : ℕ) (places : List ℕ) → AreApart places → AreApart (set places i 0)
set_apart i [] apart = tt
set_apart zero (p ∷ rest) apart = (none_at_zero 0 rest, apart.1)
set_apart (suc i) (p ∷ rest) apart = (set_apart_one p i rest apart.0, set_apart i rest apart.1)

-- one thing less is there
one_less : {T : Type 0} (n i : ℕ) (xs : List (Option T)) (x : T) → slice_get xs i ≡ Some (Some x) → length (there n (set xs i None)) + 1 ≡ length (there n xs)
one_less n i [] x e = absurd (cc)
one_less n zero (None ∷ xs) x e = absurd (cc)
one_less n zero (Some y ∷ xs) x e = let same : length (there (n + 1) xs) + 1 ≡ suc (length (there (n + 1) xs)) = omega arith in same
one_less n (suc i) (None ∷ xs) x e = one_less (n + 1) i xs x e
one_less n (suc i) (Some y ∷ xs) x e = let more = one_less (n + 1) i xs x e in omega (arith, more)

set_length : (i : ℕ) (xs : List ℕ) → length (set xs i 0) ≡ length xs
set_length i [] = refl
set_length zero (x ∷ xs) = refl
set_length (suc i) (x ∷ xs) = ap suc (set_length i xs)

-- what stands at a place of the list
slot_there : {T : Type 0} (s : Slab T) (i key : ℕ) (places : List ℕ) (x : T) → i < length places → get_or places i 0 ≡ suc key → get s key ≡ Some x → slice_get (slots_of s places) i ≡ Some (Some x)
slot_there s i key [] x lt e f = absurd (omega arith)
slot_there s zero key (p ∷ rest) x lt e f = ap (λ q. Some (slot_of s q)) e ∙ ap Some f
slot_there s (suc i) key (p ∷ rest) x lt e f = slot_there s i key rest x (omega arith) e f

pub cleared_kept : {T : Type 0} (s t : Slab T) (key i : ℕ) (places : List ℕ) (x : T) → Updates s t key None → get s key ≡ Some x → slab_len t + 1 ≡ slab_len s → i < length places → get_or places i 0 ≡ suc key → IsKept places s → IsKept (set places i 0) t
cleared_kept s t key i places x u f len lt e kept =
    let slots = cleared_slots s t key i places u kept.apart lt e in
    let less = one_less 1 i (slots_of s places) x (slot_there s i key places x lt e f) in
    let here : length (there 1 (slots_of t (set places i 0))) ≡ length (there 1 (set (slots_of s places) i None)) = ap (λ ys. length (there 1 ys)) slots in
    record {
      held = cleared_held s t key i places u kept.apart lt e kept.held;
      apart = set_apart i places kept.apart;
      count = omega (arith, here, less, len, kept.count);
      few = let same = set_length i places in omega (arith, same, kept.few);
    }

-- ---- a thing that is put

held_others : {T : Type 0} (s : Slab T) (key : ℕ) (places : List ℕ) → get s key ≡ None → AllByRecursion (IsHeld s) places → Others key places
held_others s key [] none h = tt
held_others {T} s key (p ∷ rest) none h =
    ((λ e. let held : IsSome (get s key) = subst (IsHeld s) e h.0 in let gone : IsSome {T = T} None = rw none at held in absurd cc), held_others s key rest none h.1)

slots_more : {T : Type 0} (s : Slab T) (places : List ℕ) (p : ℕ) → slots_of s (places ++ p ∷ []) ≡ slots_of s places ++ slot_of s p ∷ []
slots_more s [] p = refl
slots_more s (q ∷ rest) p = ap (λ ys. slot_of s q ∷ ys) (slots_more s rest p)

held_more : {T : Type 0} (s : Slab T) (places : List ℕ) (p : ℕ) → AllByRecursion (IsHeld s) places → IsHeld s p → AllByRecursion (IsHeld s) (places ++ p ∷ [])
held_more s [] p h one = (one, tt)
held_more s (q ∷ rest) p h one = (h.0, held_more s rest p h.1 one)

apart_one : (p r : ℕ) (rest : List ℕ) → AllByRecursion (λ q. q ≡ p → p ≡ 0) rest → (r ≡ p → p ≡ 0) → AllByRecursion (λ q. q ≡ p → p ≡ 0) (rest ++ r ∷ [])
apart_one p r [] all one = (one, tt)
apart_one p r (q ∷ rest) all one = (all.0, apart_one p r rest all.1 one)

apart_zero : (places : List ℕ) → AreApart places → AreApart (places ++ 0 ∷ [])
apart_zero [] apart = (tt, tt)
apart_zero (p ∷ rest) apart = (apart_one p 0 rest apart.0 (λ e. sym e), apart_zero rest apart.1)

apart_more : (key : ℕ) (places : List ℕ) → Others key places → AreApart places → AreApart (places ++ suc key ∷ [])
apart_more key [] others apart = (tt, tt)
apart_more key (p ∷ rest) others apart = (apart_one p (suc key) rest apart.0 (λ e. absurd (others.0 (sym e))), apart_more key rest others.1 apart.1)

count_more : {T : Type 0} (xs : List (Option T)) (o : Option T) → length (there 1 (xs ++ o ∷ [])) ≡ length (there 1 xs) + length (there (1 + length xs) (o ∷ []))
count_more xs o = ap length (there_more 1 xs o) ∙ length-append (there 1 xs) (there (1 + length xs) (o ∷ []))

-- the slots with one more
pub put_slots : {T : Type 0} (s t : Slab T) (places : List ℕ) (o : Option T) (place : ℕ) → IsPut s t o place → IsKept places s → slots_of t (places ++ place ∷ []) ≡ slots_of s places ++ o ∷ []
put_slots s t places None place h kept = (λ i. slots_of (h.1 i) (places ++ h.0 i ∷ [])) ∙ slots_more s places 0
put_slots s t places (Some x) place h kept =
    let key = h.0 in
    let others = held_others s key places h.2 kept.held in
    let same = same_slots s t key (Some x) places h.3 others in
    let here : get t key ≡ Some x = h.3.changed in
    ap (λ p. slots_of t (places ++ p ∷ [])) h.1 ∙ slots_more t places (suc key) ∙ (λ i. same i ++ here i ∷ [])

pub put_kept : {T : Type 0} (s t : Slab T) (places : List ℕ) (o : Option T) (place : ℕ) → IsPut s t o place → length places + 2 < 2 ^ 32 → IsKept places s → IsKept (places ++ place ∷ []) t
put_kept s t places None place h few kept =
    let slots = put_slots s t places None place h kept in
    let count : length (there 1 (slots_of t (places ++ place ∷ []))) ≡ length (there 1 (slots_of s places ++ None ∷ [])) = ap (λ ys. length (there 1 ys)) slots in
    let more = count_more (slots_of s places) None in
    let len : slab_len t ≡ slab_len s = ap slab_len h.1 in
    record {
      held = subst (λ u. AllByRecursion (IsHeld u) (places ++ place ∷ [])) (sym h.1) (held_more s places place kept.held (subst (IsHeld s) (sym h.0) tt));
      apart = subst (λ p. AreApart (places ++ p ∷ [])) (sym h.0) (apart_zero places kept.apart);
      count = omega (arith, count, more, len, kept.count);
      few = omega (arith, length-append places (place ∷ []));
    }
put_kept s t places (Some x) place h few kept =
    let key = h.0 in
    let u = h.3 in
    let others = held_others s key places h.2 kept.held in
    let slots = put_slots s t places (Some x) place h kept in
    let count : length (there 1 (slots_of t (places ++ place ∷ []))) ≡ length (there 1 (slots_of s places ++ Some x ∷ [])) = ap (λ ys. length (there 1 ys)) slots in
    let more = count_more (slots_of s places) (Some x) in
    let one : IsHeld t (suc key) = subst IsSome (sym u.changed) refl in
    record {
      held = held_more t places place (all_held s t key (Some x) places u others kept.held) (subst (IsHeld t) (sym h.1) one);
      apart = subst (λ p. AreApart (places ++ p ∷ [])) (sym h.1) (apart_more key places others kept.apart);
      count = omega (arith, count, more, h.4, kept.count);
      few = omega (arith, length-append places (place ∷ []));
    }

-- ---- numbers under which nothing stands

pub as_many : {T : Type 0} (s : Slab T) (places : List ℕ) → length (slots_of s places) ≡ length places
as_many s [] = refl
as_many s (p ∷ rest) = ap suc (as_many s rest)

-- nothing stands under 0
pub stays_low : {T : Type 0} (xs : List (Option T)) (m : ℕ) → m ≡ 0 → there 1 xs ≡ without (m ∷ []) (there 1 xs)
stays_low xs m e = sym (all_stay m (there 1 xs) (λ k x h q. let le = at_least 1 (there 1 xs) k x (there_rises 1 xs) h in absurd (omega (arith, e, q))))

-- nor past the last number
pub stays_past : {T : Type 0} (s : Slab T) (places : List ℕ) (m : ℕ) → length places < m → there 1 (slots_of s places) ≡ without (m ∷ []) (there 1 (slots_of s places))
stays_past s places m lt =
    let xs = slots_of s places in
    sym (all_stay m (there 1 xs) (λ k x h q. let past = at_past 1 xs k x h in let many = as_many s places in absurd (omega (arith, past, many, q))))

same_none : {T : Type 0} (s : Slab T) (i : ℕ) (places : List ℕ) → get_or places i 0 ≡ 0 → set (slots_of s places) i None ≡ slots_of s places
same_none s i [] e = refl
same_none s zero (p ∷ rest) e = ap (λ q. slot_of s q ∷ slots_of s rest) (sym e)
same_none s (suc i) (p ∷ rest) e = ap (λ ys. slot_of s p ∷ ys) (same_none s i rest e)

-- nor where the place is 0
pub stays_empty : {T : Type 0} (s : Slab T) (places : List ℕ) (i m : ℕ) → m ≡ 1 + i → i < length places → get_or places i 0 ≡ 0 → there 1 (slots_of s places) ≡ without (m ∷ []) (there 1 (slots_of s places))
stays_empty s places i m is lt e =
    let xs = slots_of s places in
    let many = as_many s places in
    ap (λ ys. there 1 ys) (sym (same_none s i places e)) ∙ emptied 1 i xs (omega (arith, many)) ∙ ap (λ (k : ℕ). without (k ∷ []) (there 1 xs)) (sym is)

-- what is left without one number
pub cleared_left : {T : Type 0} (s t : Slab T) (key i m : ℕ) (places : List ℕ) → m ≡ 1 + i → Updates s t key None → i < length places → get_or places i 0 ≡ suc key → IsKept places s → there 1 (slots_of t (set places i 0)) ≡ without (m ∷ []) (there 1 (slots_of s places))
cleared_left s t key i m places is u lt e kept =
    let xs = slots_of s places in
    let many = as_many s places in
    ap (λ ys. there 1 ys) (cleared_slots s t key i places u kept.apart lt e) ∙ emptied 1 i xs (omega (arith, many)) ∙ ap (λ (k : ℕ). without (k ∷ []) (there 1 xs)) (sym is)

-- ---- what a number's place says

slot_back : {T : Type 0} (s : Slab T) (places : List ℕ) (i : ℕ) (x : T) → slice_get (slots_of s places) i ≡ Some (Some x) → (i < length places) × (slot_of s (get_or places i 0) ≡ Some x)
slot_back s [] i x e = absurd (cc)
slot_back s (p ∷ rest) zero x e = (omega arith, cc)
slot_back s (p ∷ rest) (suc i) x e = let more = slot_back s rest i x e in (omega (arith, more.0), more.1)

-- what is found by its key stands under its number
pub found_at : {T : Type 0} (s : Slab T) (places : List ℕ) (m i key : ℕ) (x : T) → m ≡ 1 + i → i < length places → get_or places i 0 ≡ suc key → get s key ≡ Some x → IsAt (there 1 (slots_of s places)) m x
found_at s places m i key x is lt e f = subst (λ (k : ℕ). IsAt (there 1 (slots_of s places)) k x) (sym is) (slot_at 1 i (slots_of s places) x (slot_there s i key places x lt e f))

-- what stands under a number is found by its key
pub at_place : {T : Type 0} (s : Slab T) (places : List ℕ) (m : ℕ) (x : T) → IsAt (there 1 (slots_of s places)) m x → (i : ℕ) × (m ≡ 1 + i) × (i < length places) × (slot_of s (get_or places i 0) ≡ Some x)
at_place s places m x h =
    let k = at_slot 1 (slots_of s places) m x h in
    let back = slot_back s places k.0 x k.2 in
    (k.0, k.1, back.0, back.1)

pub none_low : {T : Type 0} (xs : List (Option T)) (m : ℕ) → m ≡ 0 → (x : T) → IsAt (there 1 xs) m x → ⊥
none_low xs m e x h = let le = at_least 1 (there 1 xs) m x (there_rises 1 xs) h in absurd (omega (arith, e))

pub none_past : {T : Type 0} (s : Slab T) (places : List ℕ) (m : ℕ) → length places < m → (x : T) → IsAt (there 1 (slots_of s places)) m x → ⊥
none_past s places m lt x h = let past = at_past 1 (slots_of s places) m x h in absurd (omega (arith, as_many s places))

pub none_empty : {T : Type 0} (s : Slab T) (places : List ℕ) (m i : ℕ) → m ≡ 1 + i → get_or places i 0 ≡ 0 → (x : T) → IsAt (there 1 (slots_of s places)) m x → ⊥
none_empty s places m i is e x h =
    let k = at_place s places m x h in
    let same : k.0 ≡ i = omega (arith, k.1, is) in
    let here : get_or places k.0 0 ≡ 0 = ap (λ (j : ℕ). get_or places j 0) same ∙ e in
    let wrong : slot_of s 0 ≡ Some x = subst (λ p. slot_of s p ≡ Some x) here k.3 in absurd cc

-- what a key's thing says of its number
pub key_some : {T : Type 0} (s : Slab T) (places : List ℕ) (m i key : ℕ) (r : Option (Bor T)) → m ≡ 1 + i → i < length places → get_or places i 0 ≡ suc key → option_copied r ≡ get s key → IfSome r (λ x. IsAt (there 1 (slots_of s places)) m x.now)
key_some s places m i key None is lt e f = tt
key_some s places m i key (Some b) is lt e f = found_at s places m i key b.now is lt e (sym f)

pub key_none : {T : Type 0} (s : Slab T) (places : List ℕ) (m i key : ℕ) (r : Option (Bor T)) → m ≡ 1 + i → get_or places i 0 ≡ suc key → option_copied r ≡ get s key → IfNone r ((x : T) → IsAt (there 1 (slots_of s places)) m x → ⊥)
key_none s places m i key None is e f = λ x h.
    let k = at_place s places m x h in
    let same : k.0 ≡ i = omega (arith, k.1, is) in
    let here : get_or places k.0 0 ≡ suc key = ap (λ (j : ℕ). get_or places j 0) same ∙ e in
    let found : get s key ≡ Some x = subst (λ p. slot_of s p ≡ Some x) here k.3 in absurd cc
key_none s places m i key (Some b) is e f = tt

-- a place that was read, whatever is taken past the end
pub read_place : (places : List ℕ) (i d p : ℕ) → i < length places → p ≡ get_or places i d → get_or places i 0 ≡ p
read_place [] i d p lt e = absurd (omega arith)
read_place (q ∷ rest) zero d p lt e = sym e
read_place (q ∷ rest) (suc i) d p lt e = read_place rest i d p (omega arith) e

-- numbers taken away, and things put behind
pub replaced : {T : Type 0} (s t u : Slab T) (before places after ids : List ℕ) (made : List (Option T)) → there 1 (slots_of t places) ≡ without ids (there 1 (slots_of s before)) → length places ≡ length before → slots_of u after ≡ slots_of t places ++ made
    → there 1 (slots_of u after) ≡ without ids (there 1 (slots_of s before)) ++ there (length (slots_of s before) + 1) made
replaced s t u before places after ids made left same put =
    let xs = slots_of t places in
    let n : 1 + length xs ≡ length (slots_of s before) + 1 = omega (arith, as_many t places, as_many s before, same) in
    ap (λ ys. there 1 ys) put ∙ there_join 1 xs made ∙ (λ i. left i ++ there (n i) made)
