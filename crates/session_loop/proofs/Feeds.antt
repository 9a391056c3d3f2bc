-- The lines of entries, over two looks.
use Rattle.std.proofs.Common.{◌≡◌, ℕ, ◌+◌, ◌-◌, ◌≤◌, min, List, [], ◌∷◌, ◌++◌, length, take, drop, refl, sym, ap, ◌∙◌, append_assoc, arith, subst, length-drop, length-append}
use Rattle.std.specs.List.{flat_map, AllByRecursion}
use Rattle.std.proofs.lemmas.List.{take-append-le, drop-append-le, drop-drop, drop_at}
use Rattle.std.proofs.Math.Seq.{take-append-add}
use Rattle.board_items.specs.declared.history.Entry.{Entry}
use Rattle.board_items.specs.declared.requests.Request.{Request}
use Rattle.session_wire.specs.Lines.{entry_line, reply_line}
use Rattle.desk_core.specs.declared.desk.Answer.{Answer}
use Rattle.desk_core.specs.declared.desk.Placed.{Placed}
use Rattle.desk_core.specs.Desks.{IsShown}
use Rattle.session_loop.specs.declared.turn.Ahead.{Ahead}
use Rattle.client_feed.specs.Feeds.{feed}
use Rattle.session_loop.specs.Turns.{IsAhead, IsAnswered, IsEarly, IsLate}

abbrev lines : List Entry → List ℕ
lines entries = flat_map entry_line entries

lines_append : (xs ys : List Entry) → lines (xs ++ ys) ≡ lines xs ++ lines ys
lines_append [] ys = refl
lines_append (x ∷ xs) ys = ap (λ (z : List ℕ). entry_line x ++ z) (lines_append xs ys) ∙ sym (append_assoc (entry_line x) (lines xs) (lines ys))

-- more entries leave the lines up to a place that they reach
pub feed_same : (h more : List Entry) (k p : ℕ) → k ≤ p → p ≤ length h → feed (h ++ more) k p ≡ feed h k p
feed_same h more k p le within =
    let front : drop k (h ++ more) ≡ drop k h ++ more = drop-append-le k h more (omega arith) in
    let short : p - k ≤ length (drop k h) = omega (arith, length-drop k h) in
    ap (λ (xs : List Entry). lines (take (p - k) xs)) front ∙ ap lines (take-append-le (p - k) (drop k h) more short)

-- the entries behind a count, as more come
kept_grow : (k : ℕ) (h more : List Entry) (kept : List ℕ) → k ≤ length h → kept ≡ lines (drop k h) → kept ++ lines more ≡ lines (drop k (h ++ more))
kept_grow k h more kept le e = ap (λ (z : List ℕ). z ++ lines more) e ∙ sym (lines_append (drop k h) more) ∙ ap lines (sym (drop-append-le k h more le))

-- what is kept and what is due are the lines up to the place
feed_split : (h more : List Entry) (k p n : ℕ) → k ≤ length h → p ≡ length h + n → feed (h ++ more) k p ≡ lines (drop k h) ++ lines (take n more)
feed_split h more k p n le place =
    let front : drop k (h ++ more) ≡ drop k h ++ more = drop-append-le k h more le in
    let size : p - k ≡ length (drop k h) + n = omega (arith, length-drop k h) in
    ap (λ (xs : List Entry). lines (take (p - k) xs)) front
    ∙ ap (λ (m : ℕ). lines (take m (drop k h ++ more))) size
    ∙ ap lines (take-append-add (drop k h) more n)
    ∙ lines_append (drop k h) (take n more)

drop_past : (h more : List Entry) (p n : ℕ) → p ≡ length h + n → drop p (h ++ more) ≡ drop n more
drop_past h more p n place =
    ap (λ (m : ℕ). drop m (h ++ more)) place ∙ sym (drop-drop n (length h) (h ++ more)) ∙ ap (drop n) (drop_at h more (length h) refl)

-- the last of some answers lies in what was handed out
last_shown : (h : List Entry) (old : List Answer) (a : Answer) → AllByRecursion (IsShown h) (old ++ a ∷ []) → a.place ≤ length h
last_shown h [] a p = p.0
last_shown h (b ∷ old) a p = last_shown h old a p.1

pub gathered : (request : Request) (k : ℕ) (h0 h1 h2 : List Entry) (old mid new : List Answer) (a0 a1 a2 : Ahead) (placed : Placed) (text : List ℕ)
    → IsAhead a0 h0 k → IsEarly h0 h1 a0 a1 placed → mid ≡ old ++ record { request = request; place = placed.place; reply = placed.reply } ∷ []
    → IsLate placed h1 h2 a1 a2 text → AllByRecursion (IsShown h2) mid → new ≡ mid
    → IsAnswered request k h2 old new a2 placed.reply text
gathered request k h0 h1 h2 old mid new a0 a1 a2 placed text ahead early asked late shown same =
    let m1 = early.0 in
    let m2 = late.0 in
    let e1 : h1 ≡ h0 ++ m1 = early.1 in
    let e2 : h2 ≡ h1 ++ m2 = late.1 in
    let p = placed.place in
    let n = p - length h1 in
    let n1 : length h1 ≡ length h0 + length m1 = ap length e1 ∙ length-append h0 m1 in
    let n2 : length h2 ≡ length h1 + length m2 = ap length e2 ∙ length-append h1 m2 in
    let c1 : a1.count ≡ length h1 = omega (arith, early.2, ahead.counted) in
    let c2 : a2.count ≡ length h2 = omega (arith, late.2) in
    let after : length h1 ≤ p = early.4 in
    let reached : p ≤ length h2 = last_shown h2 old (record { request = request; place = placed.place; reply = placed.reply }) (subst (λ given. AllByRecursion (IsShown h2) given) asked shown) in
    let due : min (p - a1.count) (length m2) ≡ n = omega arith in
    let place : p ≡ length h1 + n = omega arith in
    let within : k ≤ length h0 = ahead.within in
    let reach1 : k ≤ length h1 = omega arith in
    let kept : a1.lines ≡ lines (drop k h1) = early.3 ∙ kept_grow k h0 m1 a0.lines within ahead.kept ∙ ap (λ (h : List Entry). lines (drop k h)) (sym e1) in
    let said : text ≡ a1.lines ++ lines (take n m2) ++ reply_line placed.reply = late.3 ∙ ap (λ (m : ℕ). a1.lines ++ lines (take m m2) ++ reply_line placed.reply) due in
    let fed : feed h2 k p ≡ lines (drop k h1) ++ lines (take n m2) = ap (λ (h : List Entry). feed h k p) e2 ∙ feed_split h1 m2 k p n reach1 place in
    let later : a2.lines ≡ lines (drop p h2) = late.4 ∙ ap (λ (m : ℕ). lines (drop m m2)) due ∙ ap lines (sym (drop_past h1 m2 p n place)) ∙ ap (λ (h : List Entry). lines (drop p h)) (sym e2) in
    record {
      place = p;
      answers = same ∙ asked;
      after_k = omega arith;
      ahead_of = record { counted = c2; within = reached; kept = later };
      text_is = said ∙ ap (λ (z : List ℕ). z ++ lines (take n m2) ++ reply_line placed.reply) kept ∙ ap (λ (z : List ℕ). z ++ reply_line placed.reply) (sym fed);
    }
