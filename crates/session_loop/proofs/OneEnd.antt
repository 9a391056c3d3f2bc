-- The four ends of a session that met no fault exclude one another.
use Rattle.std.proofs.Common.{◌≡◌, ◌⊎◌, ℕ, zero, suc, ◌+◌, ◌<◌, List, [], ◌∷◌, ◌++◌, length, take, refl, sym, ap, subst, ◌∙◌, append_assoc, arith, inl, inr, Option, Some, None}
use Rattle.std.specs.List.{flat_map, AllByRecursion}
use Rattle.std.proofs.lemmas.List.{append-nil}
use Rattle.row_lists.specs.Limits.{line_limit_bytes}
use Rattle.board_items.specs.declared.history.Entry.{Entry}
use Rattle.layout_io.specs.Links.{Wire, LinkTold}
use Rattle.session_wire.specs.Steps.{IsLine}
use Rattle.session_wire.specs.Kept.{ended, IsOverlong}
use Rattle.session_wire.specs.Messages.{message_text, IsMessage}
use Rattle.session_wire.specs.declared.messages.Message.TheVariants as messages
use Rattle.session_wire.proofs.MessageTexts.{one_message}
use Rattle.session_wire.proofs.ReadingLaws.{no_thing}
use Rattle.client_feed.proofs.Feeding.{one_line, no_end}
use Rattle.desk_core.specs.declared.desk.Answer.{Answer}
use Rattle.session_loop.specs.declared.end.SessionEnd.{SessionEnd}
use Rattle.session_loop.specs.declared.end.SessionEnd.TheVariants as ends
use Rattle.session_loop.specs.Transcripts.{Reading, Bad, Asks, Bye, Long}
use Rattle.session_loop.specs.Sessions.{Says, SayEach, IsShort, IsHeard, IsOver, IsOpen, GoesOn, IsNotFull, EndsWith, LastIsFull, Holds, Session, HasSession, IsClean}

abbrev text_of : List (List ℕ) → List ℕ
text_of lines = flat_map ended lines

-- the second lines are the first ones and these, which begin what is left behind the first ones
pub record MoreLines (xs ys : List (List ℕ)) (r s : List ℕ) : Type 0 where
  pub more : List (List ℕ)
  pub short : AllByRecursion IsShort more
  pub parts : ys ≡ xs ++ more
  pub left : r ≡ text_of more ++ s

line_first : (line : List ℕ) (lines : List (List ℕ)) (r : List ℕ) → text_of (line ∷ lines) ++ r ≡ line ++ 10 ∷ (text_of lines ++ r)
line_first line lines r = append_assoc (ended line) (text_of lines) r ∙ append_assoc line (10 ∷ []) (text_of lines ++ r)

more_lines : (x y : List ℕ) (xs ys : List (List ℕ)) (r s : List ℕ) → x ≡ y → MoreLines xs ys r s → MoreLines (x ∷ xs) (y ∷ ys) r s
more_lines x y xs ys r s e m = record {
  more = m.more;
  short = m.short;
  parts = ap (λ (z : List ℕ). z ∷ ys) (sym e) ∙ ap (λ (zs : List (List ℕ)). x ∷ zs) m.parts;
  left = m.left;
}

-- of two ways to begin a text with lines one goes on where the other stops
two_cuts : (xs ys : List (List ℕ)) (r s : List ℕ) → AllByRecursion IsShort xs → AllByRecursion IsShort ys → text_of xs ++ r ≡ text_of ys ++ s → MoreLines xs ys r s ⊎ MoreLines ys xs s r
two_cuts [] ys r s p q e = inl (record { more = ys; short = q; parts = refl; left = e })
two_cuts (x ∷ xs) [] r s p q e = inr (record { more = x ∷ xs; short = p; parts = refl; left = sym e })
two_cuts (x ∷ xs) (y ∷ ys) r s p q e =
    let same = one_line x y (text_of xs ++ r) (text_of ys ++ s) p.0.0 q.0.0 (sym (line_first x xs r) ∙ e ∙ line_first y ys s) in
    elim (two_cuts xs ys r s p.1 q.1 same.1) [
      | inl m ↦ inl (more_lines x y xs ys r s same.0 m)
      | inr m ↦ inr (more_lines y x ys xs s r (sym same.0) m)
    ]

-- `bye` is no other line
no_other : (line : List ℕ) (r : Reading) → Says line Bye → Says line r → IsOpen r → ⊥
no_other line (Bad place) bye says open_ = no_thing IsMessage message_text line place says messages.Bye bye
no_other line (Asks request) bye says open_ = absurd (let same : messages.Bye ≡ messages.Ask request = one_message messages.Bye (messages.Ask request) bye.formed says.formed (sym bye.spelled ∙ says.spelled) in cc)
no_other line Bye bye says open_ = open_
no_other line Long bye says open_ = open_

-- lines that end with `bye` are not the first of lines of which the session went on
bye_among : (xs more : List (List ℕ)) (before said : List Reading) → SayEach xs (before ++ Bye ∷ []) → SayEach (xs ++ more) said → AllByRecursion IsOpen said → ⊥
bye_among [] more [] said p q open_ = p
bye_among [] more (b ∷ before) said p q open_ = p
bye_among (x ∷ xs) more [] [] p q open_ = q
bye_among (x ∷ xs) more [] (r ∷ said) p q open_ = no_other x r p.0 q.0 open_.0
bye_among (x ∷ xs) more (b ∷ before) [] p q open_ = q
bye_among (x ∷ xs) more (b ∷ before) (r ∷ said) p q open_ = bye_among xs more before said p.1 q.1 open_.1

-- a line that isn't too long breaks bytes that are
broken : (n : ℕ) (line after : List ℕ) → length line < n → IsLine (take n (line ++ 10 ∷ after)) → ⊥
broken zero line after lt whole = absurd (omega (arith, lt))
broken (suc n) [] after lt whole = whole.0 refl
broken (suc n) (b ∷ line) after lt whole = broken n line after (omega (arith, lt)) whole.1

not_broken : (bytes line after : List ℕ) → IsOverlong bytes → IsShort line → bytes ≡ line ++ 10 ∷ after → ⊥
not_broken bytes line after long short e = broken (line_limit_bytes + 1) line after (omega (arith, short.1)) (subst (λ (x : List ℕ). IsLine (take (line_limit_bytes + 1) x)) e long.unended)

not_ended : (bytes line after : List ℕ) → IsLine bytes → bytes ≡ line ++ 10 ∷ after → ⊥
not_ended bytes line after whole e = no_end line after (subst IsLine e whole)

not_both : (bytes : List ℕ) → IsShort bytes → IsOverlong bytes → ⊥
not_both bytes short long = absurd (omega (arith, short.1, long.many))

-- bytes that are left behind all whole lines, or that are too long for one
abbrev IsLast : List ℕ → Type 0
IsLast bytes = IsShort bytes ⊎ IsOverlong bytes

last_unbroken : (bytes line after : List ℕ) → IsLast bytes → IsShort line → bytes ≡ line ++ 10 ∷ after → ⊥
last_unbroken bytes line after (inl whole) short e = not_ended bytes line after whole.0 e
last_unbroken bytes line after (inr long) short e = not_broken bytes line after long short e

no_more : (more : List (List ℕ)) (r s : List ℕ) → AllByRecursion IsShort more → IsLast r → r ≡ text_of more ++ s → more ≡ []
no_more [] r s short last e = refl
no_more (x ∷ more) r s short last e = absurd (last_unbroken r x (text_of more ++ s) last short.0 (e ∙ line_first x more s))

-- a session doesn't end with `bye` where all its lines let it go on
bye_alone : (input : List ℕ) (xs ys : List (List ℕ)) (said other : List Reading) (r s : List ℕ) → IsHeard input xs said r → EndsWith said Bye → IsHeard input ys other s → AllByRecursion IsOpen other → IsLast s → ⊥
bye_alone input xs ys said other r s h bye k open_ last =
    let says : SayEach xs (bye.before ++ Bye ∷ []) = subst (SayEach xs) bye.parts h.says in
    elim (two_cuts xs ys r s h.short k.short (sym h.cut ∙ k.cut)) [
      | inl m ↦ bye_among xs m.more bye.before other says (subst (λ (zs : List (List ℕ)). SayEach zs other) m.parts k.says) open_
      | inr m ↦
          let same : ys ≡ xs ++ [] = sym (m.parts ∙ ap (λ (zs : List (List ℕ)). ys ++ zs) (no_more m.more s r m.short last m.left) ∙ append-nil ys) ∙ sym (append-nil xs) in
          bye_among xs [] bye.before other says (subst (λ (zs : List (List ℕ)). SayEach zs other) same k.says) open_
    ]

-- the input doesn't end where a line is too long
ended_alone : (input : List ℕ) (xs ys : List (List ℕ)) (said other : List Reading) (r s : List ℕ) → IsHeard input xs said r → IsShort r → IsHeard input ys other s → IsOverlong s → ⊥
ended_alone input xs ys said other r s h short k long =
    elim (two_cuts xs ys r s h.short k.short (sym h.cut ∙ k.cut)) [
      | inl m ↦ not_both s (subst IsShort (m.left ∙ ap (λ (zs : List (List ℕ)). text_of zs ++ s) (no_more m.more r s m.short (inl short) m.left)) short) long
      | inr m ↦ not_both r short (subst IsOverlong (m.left ∙ ap (λ (zs : List (List ℕ)). text_of zs ++ r) (no_more m.more s r m.short (inr long) m.left)) long)
    ]

last_of : (P : Answer → Type 0) (xs : List Answer) (a : Answer) → AllByRecursion P (xs ++ a ∷ []) → P a
last_of P [] a p = p.0
last_of P (x ∷ xs) a p = last_of P xs a p.1

-- the last reply isn't `full` where none is
full_alone : (answers : List Answer) → LastIsFull answers → AllByRecursion IsNotFull answers → ⊥
full_alone answers full none = subst GoesOn full.full (last_of IsNotFull full.before full.last (subst (AllByRecursion IsNotFull) full.parts none))

overlong_of : (over : List Reading) (rest : List ℕ) → over ≡ Long ∷ [] → IsOver rest over → IsOverlong rest
overlong_of over rest e is = subst (IsOver rest) e is

ends_of : (end other : SessionEnd) (client clients : ℕ) (input : List ℕ) (w v : Wire) (reads writes lacks reads' writes' lacks' : ℕ) (answers : List Answer) (journal journal' : List Entry)
    → IsClean end → IsClean other → Session client clients input w reads writes lacks end answers journal → Session client clients input v reads' writes' lacks' other answers journal' → end ≡ other
ends_of ends.Bye ends.Bye client clients input w v reads writes lacks reads' writes' lacks' answers journal journal' c d s t = refl
ends_of ends.Bye ends.EndOfInput client clients input w v reads writes lacks reads' writes' lacks' answers journal journal' c d s t = absurd (bye_alone input s.lines t.lines s.said t.said s.rest t.rest s.heard s.stops.0 t.heard t.stops.0 (inl t.stops.2))
ends_of ends.Bye ends.TooLong client clients input w v reads writes lacks reads' writes' lacks' answers journal journal' c d s t = absurd (bye_alone input s.lines t.lines s.said t.said s.rest t.rest s.heard s.stops.0 t.heard t.stops.0 (inr (overlong_of t.over t.rest t.stops.1 t.overlong)))
ends_of ends.Bye ends.Full client clients input w v reads writes lacks reads' writes' lacks' answers journal journal' c d s t = absurd (full_alone answers t.full s.full)
ends_of ends.EndOfInput ends.Bye client clients input w v reads writes lacks reads' writes' lacks' answers journal journal' c d s t = absurd (bye_alone input t.lines s.lines t.said s.said t.rest s.rest t.heard t.stops.0 s.heard s.stops.0 (inl s.stops.2))
ends_of ends.EndOfInput ends.EndOfInput client clients input w v reads writes lacks reads' writes' lacks' answers journal journal' c d s t = refl
ends_of ends.EndOfInput ends.TooLong client clients input w v reads writes lacks reads' writes' lacks' answers journal journal' c d s t = absurd (ended_alone input s.lines t.lines s.said t.said s.rest t.rest s.heard s.stops.2 t.heard (overlong_of t.over t.rest t.stops.1 t.overlong))
ends_of ends.EndOfInput ends.Full client clients input w v reads writes lacks reads' writes' lacks' answers journal journal' c d s t = absurd (full_alone answers t.full s.full)
ends_of ends.TooLong ends.Bye client clients input w v reads writes lacks reads' writes' lacks' answers journal journal' c d s t = absurd (bye_alone input t.lines s.lines t.said s.said t.rest s.rest t.heard t.stops.0 s.heard s.stops.0 (inr (overlong_of s.over s.rest s.stops.1 s.overlong)))
ends_of ends.TooLong ends.EndOfInput client clients input w v reads writes lacks reads' writes' lacks' answers journal journal' c d s t = absurd (ended_alone input t.lines s.lines t.said s.said t.rest s.rest t.heard t.stops.2 s.heard (overlong_of s.over s.rest s.stops.1 s.overlong))
ends_of ends.TooLong ends.TooLong client clients input w v reads writes lacks reads' writes' lacks' answers journal journal' c d s t = refl
ends_of ends.TooLong ends.Full client clients input w v reads writes lacks reads' writes' lacks' answers journal journal' c d s t = absurd (full_alone answers t.full s.full)
ends_of ends.Full ends.Bye client clients input w v reads writes lacks reads' writes' lacks' answers journal journal' c d s t = absurd (full_alone answers s.full t.full)
ends_of ends.Full ends.EndOfInput client clients input w v reads writes lacks reads' writes' lacks' answers journal journal' c d s t = absurd (full_alone answers s.full t.full)
ends_of ends.Full ends.TooLong client clients input w v reads writes lacks reads' writes' lacks' answers journal journal' c d s t = absurd (full_alone answers s.full t.full)
ends_of ends.Full ends.Full client clients input w v reads writes lacks reads' writes' lacks' answers journal journal' c d s t = refl
ends_of ends.LinkFault _ client clients input w v reads writes lacks reads' writes' lacks' answers journal journal' c d s t = absurd c
ends_of ends.Memory _ client clients input w v reads writes lacks reads' writes' lacks' answers journal journal' c d s t = absurd c
ends_of _ ends.LinkFault client clients input w v reads writes lacks reads' writes' lacks' answers journal journal' c d s t = absurd d
ends_of _ ends.Memory client clients input w v reads writes lacks reads' writes' lacks' answers journal journal' c d s t = absurd d

held_ends : (end other : SessionEnd) (client clients : ℕ) (input : List ℕ) (w v : Option Wire) (reads writes lacks reads' writes' lacks' : ℕ) (answers : List Answer) (journal journal' : List Entry) → IsClean end → IsClean other
    → Holds w (λ now. Session client clients input now reads writes lacks end answers journal) → Holds v (λ now. Session client clients input now reads' writes' lacks' other answers journal') → end ≡ other
held_ends end other client clients input None v reads writes lacks reads' writes' lacks' answers journal journal' c d s t = absurd s
held_ends end other client clients input (Some w) None reads writes lacks reads' writes' lacks' answers journal journal' c d s t = absurd t
held_ends end other client clients input (Some w) (Some v) reads writes lacks reads' writes' lacks' answers journal journal' c d s t = ends_of end other client clients input w v reads writes lacks reads' writes' lacks' answers journal journal' c d s t

pub one_end : (client clients : ℕ) (input : List ℕ) (l m : LinkTold) (end other : SessionEnd) (answers : List Answer) (journal journal' : List Entry) → IsClean end → IsClean other → HasSession client clients input l end answers journal → HasSession client clients input m other answers journal' → end ≡ other
one_end client clients input l m end other answers journal journal' c d s t = held_ends end other client clients input l.wire m.wire l.read_faults l.write_faults l.shortages m.read_faults m.write_faults m.shortages answers journal journal' c d s t
