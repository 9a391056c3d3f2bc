-- Bytes are the feed of one list of entries, or have one first line that isn't an entry, and not both.
use Rattle.std.proofs.Common.{◌≡◌, ◌⊎◌, ℕ, ◌+◌, ◌<◌, List, [], ◌∷◌, ◌++◌, length, refl, sym, ap, ◌∙◌, append_assoc, arith, inl, inr, Result, Ok, Err, length-append}
use Rattle.std.specs.Prelude.{IfOk, IfErr}
use Rattle.std.specs.List.{flat_map, AllByRecursion}
use Rattle.std.proofs.lemmas.List.{append-nil}
use Rattle.board_items.specs.declared.history.Entry.{Entry}
use Rattle.session_wire.specs.Lines.{entry_text, entry_line}
use Rattle.session_wire.specs.EntryLines.{IsEntry}
use Rattle.session_wire.proofs.LineFeeds.{entry_is_one_line}
use Rattle.session_wire.proofs.EntryTexts.{one_entry}
use Rattle.client_feed.specs.declared.fault.FeedFault.{FeedFault}
use Rattle.client_feed.specs.declared.fault.FeedFault.TheVariants.{Line, Memory}
use Rattle.client_feed.specs.Feeds.{IsFeed, HasNoEntry, IsFirstBad, WhyNoFeed, Gives}
use Rattle.client_feed.proofs.Feeding.{one_line, whole_line}

abbrev lines : List Entry → List ℕ
lines entries = flat_map entry_line entries

-- the second entries are the first ones and these, whose lines are what is left behind the first ones
pub record GoesOn (xs ys : List Entry) (r s : List ℕ) : Type 0 where
  pub more : List Entry
  pub formed : AllByRecursion IsEntry more
  pub parts : ys ≡ xs ++ more
  pub left : r ≡ lines more ++ s

first_entries : (x y : Entry) (r s : List ℕ) → IsEntry x → IsEntry y → entry_line x ++ r ≡ entry_line y ++ s → (x ≡ y) × (r ≡ s)
first_entries x y r s p q e =
    let same = one_line (entry_text x) (entry_text y) r s (entry_is_one_line x p) (entry_is_one_line y q) (sym (whole_line x r) ∙ e ∙ whole_line y s) in
    (one_entry x y p q same.0, same.1)

longer : (x y : Entry) (xs ys : List Entry) (r s : List ℕ) → x ≡ y → GoesOn xs ys r s → GoesOn (x ∷ xs) (y ∷ ys) r s
longer x y xs ys r s e g = record {
  more = g.more;
  formed = g.formed;
  parts = ap (λ (z : Entry). z ∷ ys) (sym e) ∙ ap (λ (zs : List Entry). x ∷ zs) g.parts;
  left = g.left;
}

-- of two ways to begin a text with entries' lines one goes on where the other stops
two_ways : (xs ys : List Entry) (r s : List ℕ) → AllByRecursion IsEntry xs → AllByRecursion IsEntry ys → lines xs ++ r ≡ lines ys ++ s → GoesOn xs ys r s ⊎ GoesOn ys xs s r
two_ways [] ys r s p q e = inl (record { more = ys; formed = q; parts = refl; left = e })
two_ways (x ∷ xs) [] r s p q e = inr (record { more = x ∷ xs; formed = p; parts = refl; left = sym e })
two_ways (x ∷ xs) (y ∷ ys) r s p q e =
    let here = first_entries x y (lines xs ++ r) (lines ys ++ s) p.0 q.0 (sym (append_assoc (entry_line x) (lines xs) r) ∙ e ∙ append_assoc (entry_line y) (lines ys) s) in
    elim (two_ways xs ys r s p.1 q.1 here.1) [
      | inl g ↦ inl (longer x y xs ys r s here.0 g)
      | inr g ↦ inr (longer y x ys xs s r (sym here.0) g)
    ]

-- an entry's line is not empty
no_lines : (more : List Entry) (s : List ℕ) → [] ≡ lines more ++ s → more ≡ []
no_lines [] s e = refl
no_lines (x ∷ more) s e = absurd (
    let whole : lines (x ∷ more) ++ s ≡ entry_text x ++ 10 ∷ (lines more ++ s) = append_assoc (entry_line x) (lines more) s ∙ whole_line x (lines more ++ s) in
    omega (arith, ap length (e ∙ whole), length-append (entry_text x) (10 ∷ (lines more ++ s)))
    )

none_more : (more : List Entry) (r s : List ℕ) → AllByRecursion IsEntry more → HasNoEntry r → r ≡ lines more ++ s → more ≡ []
none_more [] r s f bad e = refl
none_more (x ∷ more) r s f bad e = absurd (bad x (lines more ++ s) f.0 (e ∙ append_assoc (entry_line x) (lines more) s))

same_ends : (xs ys : List Entry) (r s : List ℕ) (g : GoesOn xs ys r s) → g.more ≡ [] → (xs ≡ ys) × (r ≡ s)
same_ends xs ys r s g none = (sym (g.parts ∙ ap (λ (z : List Entry). xs ++ z) none ∙ append-nil xs), g.left ∙ ap (λ (z : List Entry). lines z ++ s) none)

one_feed : (bytes : List ℕ) (xs ys : List Entry) → IsFeed bytes xs → IsFeed bytes ys → xs ≡ ys
one_feed bytes xs ys f g =
    let e : lines xs ++ [] ≡ lines ys ++ [] = append-nil (lines xs) ∙ sym f.spelled ∙ g.spelled ∙ sym (append-nil (lines ys)) in
    elim (two_ways xs ys [] [] f.formed g.formed e) [
      | inl h ↦ (same_ends xs ys [] [] h (no_lines h.more [] h.left)).0
      | inr h ↦ sym (same_ends ys xs [] [] h (no_lines h.more [] h.left)).0
    ]

no_rest : (rest : List ℕ) → 0 < length rest → [] ≡ rest → ⊥
no_rest rest some e = omega (arith, some, ap length e)

feed_not_bad : (bytes : List ℕ) (xs : List Entry) (line : ℕ) → IsFeed bytes xs → IsFirstBad bytes line → ⊥
feed_not_bad bytes xs line f b =
    let e : lines xs ++ [] ≡ lines b.before ++ b.rest = append-nil (lines xs) ∙ sym f.spelled ∙ b.parts in
    elim (two_ways xs b.before [] b.rest f.formed b.formed e) [
      | inl h ↦ no_rest b.rest b.some (same_ends xs b.before [] b.rest h (no_lines h.more b.rest h.left)).1
      | inr h ↦ no_rest b.rest b.some (sym (same_ends b.before xs b.rest [] h (none_more h.more b.rest [] h.formed b.bad h.left)).1)
    ]

one_bad : (bytes : List ℕ) (j k : ℕ) → IsFirstBad bytes j → IsFirstBad bytes k → j ≡ k
one_bad bytes j k a b =
    let e : lines a.before ++ a.rest ≡ lines b.before ++ b.rest = sym a.parts ∙ b.parts in
    let same : a.before ≡ b.before = elim (two_ways a.before b.before a.rest b.rest a.formed b.formed e) [
      | inl h ↦ (same_ends a.before b.before a.rest b.rest h (none_more h.more a.rest b.rest h.formed a.bad h.left)).0
      | inr h ↦ sym (same_ends b.before a.before b.rest a.rest h (none_more h.more b.rest a.rest h.formed b.bad h.left)).0
    ] in
    a.number ∙ ap (λ (es : List Entry). length es + 1) same ∙ sym b.number

pub only_feed : (bytes : List ℕ) (r : Result (List Entry) FeedFault) → IfOk r (IsFeed bytes) → IfErr r (WhyNoFeed bytes) → (entries : List Entry) → IsFeed bytes entries → Gives r (Ok entries)
only_feed bytes (Ok found) ok err entries f = ap (λ (es : List Entry). Ok es) (one_feed bytes entries found f ok)
only_feed bytes (Err (Line line)) ok err entries f = absurd (feed_not_bad bytes entries line f err)
only_feed bytes (Err Memory) ok err entries f = tt

pub only_bad : (bytes : List ℕ) (r : Result (List Entry) FeedFault) → IfOk r (IsFeed bytes) → IfErr r (WhyNoFeed bytes) → (line : ℕ) → IsFirstBad bytes line → Gives r (Err (Line line))
only_bad bytes (Ok found) ok err line b = absurd (feed_not_bad bytes found line ok b)
only_bad bytes (Err (Line told)) ok err line b = ap (λ (n : ℕ). Err (Line n)) (one_bad bytes line told b err)
only_bad bytes (Err Memory) ok err line b = tt
