-- Lists of things that are spelled one after another, and what follows them.
use Rattle.std.proofs.Common.{◌≡◌, ℕ, zero, suc, ◌+◌, ◌-◌, ◌^◌, ◌<◌, ◌≤◌, List, [], ◌∷◌, ◌++◌, length, refl, sym, ap, ◌∙◌, subst, arith, append_assoc}
use Rattle.std.specs.List.{flat_map, AllByRecursion}
use Rattle.std.proofs.lemmas.List.{append-nil, length-append}
use Rattle.session_wire.specs.Words.{EndsWord}
use Rattle.session_wire.specs.Numbers.{number_text, IsBetween}
use Rattle.session_wire.specs.Parts.{Then, Begins, AreSo, AreThen, AreCounted, counted_text, StopsAt}
use Rattle.session_wire.proofs.NumberTexts.{same_number}
use Rattle.session_wire.proofs.Stops.{stops_behind, stops_at_thing}

-- each thing has one text, which ends where a word does, and one thing is there
pub record IsSpelling {T : Type 0} (P : T → Type 0) (text : T → List ℕ) : Type 0 where
  pub sample : T
  pub fits : P sample
  pub first : (x : T) (r : List ℕ) → EndsWord r → EndsWord (text x ++ r)
  pub same : (x y : T) (r s : List ℕ) → P x → P y → EndsWord r → EndsWord s → text x ++ r ≡ text y ++ s → (x ≡ y) × (r ≡ s)

pub things_first : {T : Type 0} {P : T → Type 0} {text : T → List ℕ} → IsSpelling P text → (xs : List T) (r : List ℕ) → EndsWord r → EndsWord (flat_map text xs ++ r)
things_first sp [] r stop = stop
things_first {T} {P} {text} sp (x ∷ xs) r stop = subst EndsWord (sym (append_assoc (text x) (flat_map text xs) r)) (sp.first x (flat_map text xs ++ r) (things_first sp xs r stop))

head_parts : {T : Type 0} (text : T → List ℕ) (x y : T) (xs ys : List T) (r s : List ℕ) → flat_map text (x ∷ xs) ++ r ≡ flat_map text (y ∷ ys) ++ s → text x ++ (flat_map text xs ++ r) ≡ text y ++ (flat_map text ys ++ s)
head_parts text x y xs ys r s e = sym (append_assoc (text x) (flat_map text xs) r) ∙ e ∙ append_assoc (text y) (flat_map text ys) s

-- what follows some of the things is the others
pub others : {T : Type 0} {P : T → Type 0} {text : T → List ℕ} → IsSpelling P text → (xs ys : List T) (r s : List ℕ) → AllByRecursion P xs → AllByRecursion P ys → length xs ≤ length ys → EndsWord r → EndsWord s → flat_map text xs ++ r ≡ flat_map text ys ++ s → (os : List T) × (r ≡ flat_map text os ++ s) × (length xs + length os ≡ length ys) × AllByRecursion P os
others sp [] ys r s f g le stop end e = (ys, e, omega arith, g)
others sp (x ∷ xs) [] r s f g le stop end e = absurd (omega arith)
others {T} {P} {text} sp (x ∷ xs) (y ∷ ys) r s f g le stop end e =
    let same = sp.same x y (flat_map text xs ++ r) (flat_map text ys ++ s) f.0 g.0 (things_first sp xs r stop) (things_first sp ys s end) (head_parts text x y xs ys r s e) in
    let (os, parts, counted, all) = others sp xs ys r s f.1 g.1 (omega arith) stop end same.1 in
    (os, parts, omega arith, all)

-- as many things have one text, and what follows is the same
pub same_things : {T : Type 0} {P : T → Type 0} {text : T → List ℕ} → IsSpelling P text → (xs ys : List T) (r s : List ℕ) → AllByRecursion P xs → AllByRecursion P ys → length xs ≡ length ys → EndsWord r → EndsWord s → flat_map text xs ++ r ≡ flat_map text ys ++ s → (xs ≡ ys) × (r ≡ s)
same_things sp [] [] r s f g same stop end e = (refl, e)
same_things sp [] (y ∷ ys) r s f g same stop end e = absurd (omega arith)
same_things sp (x ∷ xs) [] r s f g same stop end e = absurd (omega arith)
same_things {T} {P} {text} sp (x ∷ xs) (y ∷ ys) r s f g same stop end e =
    let head = sp.same x y (flat_map text xs ++ r) (flat_map text ys ++ s) f.0 g.0 (things_first sp xs r stop) (things_first sp ys s end) (head_parts text x y xs ys r s e) in
    let tail = same_things sp xs ys r s f.1 g.1 (omega arith) stop end head.1 in
    let one : x ≡ y = head.0 in
    let more : xs ≡ ys = tail.0 in
    (cc, tail.1)

-- so often the same thing
abbrev copies : {T : Type 0} → ℕ → T → List T
copies zero x = []
copies (suc n) x = x ∷ copies n x

copies_length : {T : Type 0} (n : ℕ) (x : T) → length (copies n x) ≡ n
copies_length zero x = refl
copies_length (suc n) x = let rest = copies_length n x in omega (arith, rest)

copies_all : {T : Type 0} (P : T → Type 0) (n : ℕ) (x : T) → P x → AllByRecursion P (copies n x)
copies_all P zero x p = tt
copies_all P (suc n) x p = (p, copies_all P n x p)

all_join : {T : Type 0} (P : T → Type 0) (xs ys : List T) → AllByRecursion P xs → AllByRecursion P ys → AllByRecursion P (xs ++ ys)
all_join P [] ys f g = g
all_join P (x ∷ xs) ys f g = (f.0, all_join P xs ys f.1 g)

texts_join : {T : Type 0} (text : T → List ℕ) (xs ys : List T) (r : List ℕ) → flat_map text xs ++ (flat_map text ys ++ r) ≡ flat_map text (xs ++ ys) ++ r
texts_join text [] ys r = refl
texts_join text (x ∷ xs) ys r =
    append_assoc (text x) (flat_map text xs) (flat_map text ys ++ r)
    ∙ ap (λ (t : List ℕ). text x ++ t) (texts_join text xs ys r)
    ∙ sym (append_assoc (text x) (flat_map text (xs ++ ys)) r)

-- one more thing
pub one_more : {T : Type 0} {P : T → Type 0} {text : T → List ℕ} (done : ℕ) (line : List ℕ) (xs : List T) (r : List ℕ) (x : T) (s : List ℕ) → AreThen P text done line xs r → Then P text r x s → AreThen P text (done + 1) line (xs ++ x ∷ []) s
one_more {T} {P} {text} done line xs r x s a b = record {
  formed = (length-append xs (x ∷ []) ∙ ap (λ (n : ℕ). n + 1) a.formed.0, all_join P xs (x ∷ []) a.formed.1 (b.formed, tt));
  ends = b.ends;
  spelled = a.spelled ∙ ap (λ (t : List ℕ). flat_map text xs ++ t) (b.spelled ∙ ap (λ (t : List ℕ). t ++ s) (sym (append-nil (text x)))) ∙ texts_join text xs (x ∷ []) s;
}

first_of : {T : Type 0} {P : T → Type 0} {text : T → List ℕ} → IsSpelling P text → (os : List T) (r s : List ℕ) → 0 < length os → AllByRecursion P os → EndsWord s → r ≡ flat_map text os ++ s → Begins P text r
first_of sp [] r s some all end e = absurd (omega arith)
first_of {T} {P} {text} sp (o ∷ os) r s some all end e = (o, flat_map text os ++ s, record { formed = all.0; ends = things_first sp os s end; spelled = e ∙ append_assoc (text o) (flat_map text os) s })

-- a list of things stops where its next thing does
pub stops_in_things : {T : Type 0} {P : T → Type 0} {text : T → List ℕ} → IsSpelling P text → (done count : ℕ) (line : List ℕ) (xs : List T) (rest : List ℕ) (left : ℕ) → AreThen P text done line xs rest → done < count → StopsAt (Begins P text) rest left → StopsAt (Begins (AreSo count P) (flat_map text)) line left
stops_in_things {T} {P} {text} sp done count line xs rest left a lt = stops_at_thing P text (Begins (AreSo count P) (flat_map text)) line (flat_map text xs) rest left a.spelled a.ends
    (λ x f.
    let more = copies (count - done - 1) sp.sample in
    let all = xs ++ x ∷ more in
    let long : length all ≡ count = let joined = length-append xs (x ∷ more) in let counted = copies_length (count - done - 1) sp.sample in omega (arith, joined, counted, a.formed.0) in
    let formed : AllByRecursion P all = all_join P xs (x ∷ more) a.formed.1 (f, copies_all P (count - done - 1) sp.sample sp.fits) in
    let text_is : flat_map text xs ++ (text x ++ flat_map text more) ≡ flat_map text all ++ [] = ap (λ (t : List ℕ). flat_map text xs ++ t) (sym (append-nil (flat_map text (x ∷ more)))) ∙ texts_join text xs (x ∷ more) [] in
    let end : EndsWord (flat_map text more) = subst EndsWord (append-nil (flat_map text more)) (things_first sp more [] tt) in
    (flat_map text more, end, (all, [], record { formed = (long, formed); ends = tt; spelled = text_is })))
    (λ t end is.
    let (ys, s, b) = is in
    let (os, parts, counted, formed) = others sp xs ys t s a.formed.1 b.formed.1 (omega (arith, a.formed.0, b.formed.0)) end b.ends b.spelled in
    first_of sp os t s (omega (arith, a.formed.0, b.formed.0, counted)) formed b.ends parts)

-- counted things stop where their count does
pub stops_at_count : {T : Type 0} {P : T → Type 0} {text : T → List ℕ} → IsSpelling P text → (least most : ℕ) (line : List ℕ) (left : ℕ) → EndsWord line → StopsAt (Begins (IsBetween least most) number_text) line left → StopsAt (Begins (AreCounted least most P) (counted_text text)) line left
stops_at_count {T} {P} {text} sp least most line left ends = stops_at_thing (IsBetween least most) number_text (Begins (AreCounted least most P) (counted_text text)) line [] line left refl ends
    (λ n f.
    let more = copies n sp.sample in
    let counted : length more ≡ n = copies_length n sp.sample in
    let end : EndsWord (flat_map text more) = subst EndsWord (append-nil (flat_map text more)) (things_first sp more [] tt) in
    let text_is : number_text n ++ flat_map text more ≡ counted_text text more ++ [] = ap (λ (k : ℕ). number_text k ++ flat_map text more) (sym counted) ∙ sym (append-nil (counted_text text more)) in
    (flat_map text more, end, (more, [], record { formed = record { enough = omega (arith, f.0, counted); fit = omega (arith, f.1, counted); formed = copies_all P n sp.sample sp.fits }; ends = tt; spelled = text_is })))
    (λ t end is.
    let (xs, s, b) = is in
    (length xs, flat_map text xs ++ s, record { formed = (b.formed.enough, b.formed.fit); ends = things_first sp xs s b.ends; spelled = b.spelled ∙ append_assoc (number_text (length xs)) (flat_map text xs) s }))

-- counted things stop where the things behind their count do
pub stops_behind_count : {T : Type 0} {P : T → Type 0} {text : T → List ℕ} → IsSpelling P text → (least most n : ℕ) (line rest : List ℕ) (left : ℕ) → most < 2 ^ 32 → Then (IsBetween least most) number_text line n rest → StopsAt (Begins (AreSo n P) (flat_map text)) rest left → StopsAt (Begins (AreCounted least most P) (counted_text text)) line left
stops_behind_count {T} {P} {text} sp least most n line rest left low a = stops_behind (Begins (AreCounted least most P) (counted_text text)) (Begins (AreSo n P) (flat_map text)) line (number_text n) rest left a.spelled a.ends
    (λ t end is.
    let (xs, s, b) = is in
    let text_is : number_text n ++ t ≡ counted_text text xs ++ s = ap (λ (y : List ℕ). number_text n ++ y) b.spelled ∙ ap (λ (k : ℕ). number_text k ++ (flat_map text xs ++ s)) (sym b.formed.0) ∙ sym (append_assoc (number_text (length xs)) (flat_map text xs) s) in
    (xs, s, record { formed = record { enough = omega (arith, b.formed.0, a.formed.0); fit = omega (arith, b.formed.0, a.formed.1); formed = b.formed.1 }; ends = b.ends; spelled = text_is }))
    (λ t end is.
    let (xs, s, b) = is in
    let same = same_number n (length xs) t (flat_map text xs ++ s) (omega (arith, a.formed.1)) (omega (arith, b.formed.fit)) end (things_first sp xs s b.ends) (b.spelled ∙ append_assoc (number_text (length xs)) (flat_map text xs) s) in
    (xs, s, record { formed = (sym same.0, b.formed.formed); ends = b.ends; spelled = same.1 }))

-- counted things have one text
same_counted : {T : Type 0} {P : T → Type 0} {text : T → List ℕ} → IsSpelling P text → (least most : ℕ) → most < 2 ^ 32 → (xs ys : List T) (r s : List ℕ) → AreCounted least most P xs → AreCounted least most P ys → EndsWord r → EndsWord s → counted_text text xs ++ r ≡ counted_text text ys ++ s → (xs ≡ ys) × (r ≡ s)
same_counted {T} {P} {text} sp least most low xs ys r s c d stop end e =
    let whole = sym (append_assoc (number_text (length xs)) (flat_map text xs) r) ∙ e ∙ append_assoc (number_text (length ys)) (flat_map text ys) s in
    let count = same_number (length xs) (length ys) (flat_map text xs ++ r) (flat_map text ys ++ s) (omega (arith, c.fit)) (omega (arith, d.fit)) (things_first sp xs r stop) (things_first sp ys s end) whole in
    same_things sp xs ys r s c.formed d.formed count.0 stop end count.1

pub all_counted : {T : Type 0} {P : T → Type 0} {text : T → List ℕ} → IsSpelling P text → (least most : ℕ) → least ≤ most → most < 2 ^ 32 → IsSpelling (AreCounted least most P) (counted_text text)
all_counted {T} {P} {text} sp least most some low = record {
  sample = copies least sp.sample;
  fits = let counted = copies_length least sp.sample in record { enough = omega (arith, counted); fit = omega (arith, counted, some); formed = copies_all P least sp.sample sp.fits };
  first = λ xs r stop. refl;
  same = same_counted sp least most low;
}
