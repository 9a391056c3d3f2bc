-- Entries' lines, one more at a time, and the first line that isn't one.
use Rattle.std.proofs.Common.{◌≡◌, ◌≢◌, ℕ, ◌+◌, ◌<◌, List, [], ◌∷◌, ◌++◌, length, refl, sym, ap, subst, ◌∙◌, append_assoc, arith}
use Rattle.std.specs.List.{flat_map, AllByRecursion}
use Rattle.std.proofs.lemmas.List.{append-nil}
use Rattle.board_items.specs.declared.history.Entry.{Entry}
use Rattle.session_wire.specs.Steps.{IsLine}
use Rattle.session_wire.specs.Lines.{entry_text, entry_line}
use Rattle.session_wire.specs.EntryLines.{IsEntry, HasEntry}
use Rattle.session_wire.specs.Readings.{Reads}
use Rattle.session_wire.proofs.LineFeeds.{entry_is_one_line}
use Rattle.client_feed.specs.declared.fault.FeedFault.{FeedFault}
use Rattle.client_feed.specs.declared.fault.FeedFault.TheVariants.{Line, Memory}
use Rattle.client_feed.specs.Feeds.{IsFeed, IsFirstBad, WhyNoFeed, WhyNoEntry}

-- the lines of these entries were read, and this is left
pub record IsRead (bytes : List ℕ) (entries : List Entry) (rest : List ℕ) : Type 0 where
  pub formed : AllByRecursion IsEntry entries
  pub parts : bytes ≡ flat_map entry_line entries ++ rest

all_more : (es : List Entry) (e : Entry) → AllByRecursion IsEntry es → IsEntry e → AllByRecursion IsEntry (es ++ e ∷ [])
all_more [] e p q = (q, tt)
all_more (x ∷ es) e p q = (p.0, all_more es e p.1 q)

lines_more : (es : List Entry) (e : Entry) → flat_map entry_line (es ++ e ∷ []) ≡ flat_map entry_line es ++ entry_line e
lines_more [] e = append-nil (entry_line e)
lines_more (x ∷ es) e = ap (λ (y : List ℕ). entry_line x ++ y) (lines_more es e) ∙ sym (append_assoc (entry_line x) (flat_map entry_line es) (entry_line e))

pub read_more : (bytes rest line after : List ℕ) (es : List Entry) (e : Entry) → IsRead bytes es rest → rest ≡ line ++ 10 ∷ after → Reads IsEntry entry_text line e → IsRead bytes (es ++ e ∷ []) after
read_more bytes rest line after es e r parts reads = record {
  formed = all_more es e r.formed reads.formed;
  parts =
      let text : List ℕ = flat_map entry_line es in
      let first : line ++ 10 ∷ after ≡ entry_line e ++ after = sym (append_assoc line (10 ∷ []) after) ∙ ap (λ (x : List ℕ). (x ++ 10 ∷ []) ++ after) reads.spelled in
      r.parts ∙ ap (λ (x : List ℕ). text ++ x) (parts ∙ first) ∙ sym (append_assoc text (entry_line e) after) ∙ ap (λ (x : List ℕ). x ++ after) (sym (lines_more es e));
}

pub read_all : (bytes rest : List ℕ) (es : List Entry) → IsRead bytes es rest → rest ≡ [] → IsFeed bytes es
read_all bytes rest es r none = record { formed = r.formed; spelled = r.parts ∙ ap (λ (x : List ℕ). flat_map entry_line es ++ x) none ∙ append-nil (flat_map entry_line es) }

-- a line end ends a line
pub no_end : (line after : List ℕ) → IsLine (line ++ 10 ∷ after) → ⊥
no_end [] after p = p.0 refl
no_end (b ∷ line) after p = no_end line after p.1

head_is : (a b : ℕ) (x y : List ℕ) → a ∷ x ≡ b ∷ y → a ≡ b
head_is a b x y e = cc

tail_is : (a b : ℕ) (x y : List ℕ) → a ∷ x ≡ b ∷ y → x ≡ y
tail_is a b x y e = cc

-- a text has one first line
pub one_line : (a b x y : List ℕ) → IsLine a → IsLine b → a ++ 10 ∷ x ≡ b ++ 10 ∷ y → (a ≡ b) × (x ≡ y)
one_line [] [] x y p q e = (refl, tail_is 10 10 x y e)
one_line [] (d ∷ b) x y p q e = absurd (q.0 (sym (head_is 10 d x (b ++ 10 ∷ y) e)))
one_line (c ∷ a) [] x y p q e = absurd (p.0 (head_is c 10 (a ++ 10 ∷ x) y e))
one_line (c ∷ a) (d ∷ b) x y p q e =
    let rest = one_line a b x y p.1 q.1 (tail_is c d (a ++ 10 ∷ x) (b ++ 10 ∷ y) e) in
    let first = head_is c d (a ++ 10 ∷ x) (b ++ 10 ∷ y) e in
    (ap (λ (z : ℕ). z ∷ a) first ∙ ap (λ (z : List ℕ). d ∷ z) rest.0, rest.1)

pub whole_line : (e : Entry) (more : List ℕ) → entry_line e ++ more ≡ entry_text e ++ 10 ∷ more
whole_line e more = append_assoc (entry_text e) (10 ∷ []) more

some_rest : (rest : List ℕ) → length rest ≢ 0 → 0 < length rest
some_rest rest some = omega (arith, some)

-- what is left has no line end
pub bad_unended : (bytes rest : List ℕ) (es : List Entry) (line : ℕ) → IsRead bytes es rest → length rest ≢ 0 → IsLine rest → line ≡ length es + 1 → IsFirstBad bytes line
bad_unended bytes rest es line r some unended is = record {
  before = es;
  rest = rest;
  formed = r.formed;
  parts = r.parts;
  some = some_rest rest some;
  bad = λ e more formed here. no_end (entry_text e) more (subst IsLine (here ∙ whole_line e more) unended);
  number = is;
}

bad_here : (bytes rest front after : List ℕ) (es : List Entry) (line : ℕ) → IsRead bytes es rest → length rest ≢ 0 → IsLine front → rest ≡ front ++ 10 ∷ after → (HasEntry front → ⊥) → line ≡ length es + 1 → IsFirstBad bytes line
bad_here bytes rest front after es line r some whole parts none is = record {
  before = es;
  rest = rest;
  formed = r.formed;
  parts = r.parts;
  some = some_rest rest some;
  bad = λ e more formed here. none (e, record { formed = formed; spelled = (one_line front (entry_text e) after more whole (entry_is_one_line e formed) (sym parts ∙ here ∙ whole_line e more)).0 });
  number = is;
}

-- the line isn't read
pub why_bad : (fault : FeedFault) (bytes rest front after : List ℕ) (es : List Entry) (number : ℕ) → IsRead bytes es rest → length rest ≢ 0 → IsLine front → rest ≡ front ++ 10 ∷ after → number ≡ length es + 1 → WhyNoEntry front number fault → WhyNoFeed bytes fault
why_bad (Line k) bytes rest front after es number r some whole parts is why = bad_here bytes rest front after es k r some whole parts why.1 (why.0 ∙ is)
why_bad Memory bytes rest front after es number r some whole parts is why = tt
