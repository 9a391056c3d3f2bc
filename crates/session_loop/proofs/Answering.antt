-- What one line is answered, as a turn.
use Rattle.std.proofs.Common.{◌≡◌, ℕ, ◌≤◌, List, [], ◌∷◌, ◌++◌, length, refl, sym, ap, ◌∙◌, append_assoc, subst, inl, inr}
use Rattle.std.specs.Prelude.{codes}
use Rattle.std.proofs.lemmas.List.{append-nil}
use Rattle.board_items.specs.declared.history.Entry.{Entry}
use Rattle.board_items.specs.declared.history.Reply.{Reply}
use Rattle.board_items.specs.declared.history.Reply.TheVariants as replies
use Rattle.board_items.specs.declared.requests.Request.{Request}
use Rattle.session_wire.specs.Lines.{reply_line}
use Rattle.session_wire.specs.Replies.{reply_text}
use Rattle.session_wire.specs.Numbers.{number_text}
use Rattle.desk_core.specs.declared.desk.Answer.{Answer}
use Rattle.client_feed.specs.Feeds.{feed}
use Rattle.session_loop.specs.declared.turn.Ahead.{Ahead}
use Rattle.session_loop.specs.declared.turn.Then.{Then}
use Rattle.session_loop.specs.declared.turn.Then.TheVariants as thens
use Rattle.session_loop.specs.Transcripts.{Bad, Asks, Bye, Long, answered, unless_full, bad_line, long_line, hello_line}
use Rattle.session_loop.specs.Sessions.{GoesOn, Extends, AreLines}
use Rattle.session_loop.specs.Turns.{IsAhead, IsAnswered, IsTurn, IsThen, GoesThen}
use Rattle.session_loop.proofs.Feeds.{feed_same}

full_nothing : (y : Reply) → unless_full y [] ≡ []
full_nothing (replies.Done number) = refl
full_nothing (replies.No why) = refl
full_nothing replies.Full = refl
full_nothing (replies.Left number) = refl

goes_on : (y : Reply) (rest : List ℕ) → GoesOn y → unless_full y rest ≡ rest
goes_on (replies.Done number) rest g = refl
goes_on (replies.No why) rest g = refl
goes_on replies.Full rest g = absurd g
goes_on (replies.Left number) rest g = refl

then_so : (goes : Then) (request : Request) (a : Answer) → a.request ≡ request → IsThen a.reply goes → GoesThen goes (Asks request) (a ∷ [])
then_so thens.On request a e t = (tt, (t, tt))
then_so thens.Bye request a e t = absurd t
then_so thens.Full request a e t = (a, ap Asks (sym e), refl, t)
then_so thens.TooLong request a e t = absurd t

-- the lines up to a place are those of any journal that begins so
feed_any : (h journal : List Entry) (k p : ℕ) → k ≤ p → p ≤ length h → Extends h journal → feed journal k p ≡ feed h k p
feed_any h journal k p le within ext = ap (λ (j : List Entry). feed j k p) ext.1 ∙ feed_same h ext.0 k p le within

pub asked_turn : (request : Request) (k : ℕ) (h : List Entry) (old new : List Answer) (ahead : Ahead) (y : Reply) (text : List ℕ) (goes : Then) → IsAnswered request k h old new ahead y text → IsThen y goes
    → IsTurn (Asks request) k h old new ahead (record { text = text; goes = goes })
asked_turn request k h old new ahead y text goes is t =
    let p = is.place in
    let a : Answer = record { request = request; place = p; reply = y } in
    let front : List ℕ = feed h k p in
    let fed : (journal : List Entry) → Extends h journal → feed journal k p ≡ front = λ journal ext. feed_any h journal k p is.after_k is.ahead_of.within ext in
    record {
      more = a ∷ [];
      place = p;
      answers = is.answers;
      asked = refl;
      then_so = then_so goes request a refl t;
      ahead_of = is.ahead_of;
      on = λ on journal ext said later.
          let rest : List ℕ = answered journal p said later in
          let open_ : GoesOn y = subst (λ (g : Then). IsThen y g) on t in
          ap (λ (z : List ℕ). z ++ (reply_line y ++ unless_full y rest)) (fed journal ext)
          ∙ ap (λ (z : List ℕ). front ++ (reply_line y ++ z)) (goes_on y rest open_)
          ∙ sym (append_assoc front (reply_line y) rest)
          ∙ ap (λ (z : List ℕ). z ++ rest) (sym is.text_is);
      last = λ journal ext.
          ap (λ (z : List ℕ). z ++ (reply_line y ++ unless_full y [])) (fed journal ext)
          ∙ ap (λ (z : List ℕ). front ++ (reply_line y ++ z)) (full_nothing y)
          ∙ ap (λ (z : List ℕ). front ++ z) (append-nil (reply_line y))
          ∙ sym is.text_is;
      lines = inr (front ++ reply_text y, is.text_is ∙ sym (append_assoc front (reply_text y) (10 ∷ [])));
    }

pub bad_turn : (place : ℕ) (k : ℕ) (h : List Entry) (given : List Answer) (ahead : Ahead) → IsAhead ahead h k → IsTurn (Bad place) k h given given ahead (record { text = bad_line place; goes = thens.On })
bad_turn place k h given ahead is = record {
  more = [];
  place = k;
  answers = sym (append-nil given);
  asked = refl;
  then_so = (tt, tt);
  ahead_of = is;
  on = λ on journal ext said later. refl;
  last = λ journal ext. append-nil (bad_line place);
  lines = inr (codes "bad" ++ number_text place, sym (append_assoc (codes "bad") (number_text place) (10 ∷ [])));
}

pub bye_turn : (k : ℕ) (h : List Entry) (given : List Answer) (ahead : Ahead) → IsAhead ahead h k → IsTurn Bye k h given given ahead (record { text = []; goes = thens.Bye })
bye_turn k h given ahead is = record {
  more = [];
  place = k;
  answers = sym (append-nil given);
  asked = refl;
  then_so = (refl, refl);
  ahead_of = is;
  on = λ on journal ext said later. absurd cc;
  last = λ journal ext. refl;
  lines = inl refl;
}

pub overlong_turn : (k : ℕ) (h : List Entry) (given : List Answer) (ahead : Ahead) → IsAhead ahead h k → IsTurn Long k h given given ahead (record { text = long_line; goes = thens.TooLong })
overlong_turn k h given ahead is = record {
  more = [];
  place = k;
  answers = sym (append-nil given);
  asked = refl;
  then_so = (refl, refl);
  ahead_of = is;
  on = λ on journal ext said later. absurd cc;
  last = λ journal ext. refl;
  lines = inr (codes "long", refl);
}

pub hello_lines : (client clients : ℕ) → AreLines (hello_line client clients)
hello_lines client clients = inr (
  codes "hello" ++ (number_text client ++ number_text clients),
  ap (λ (z : List ℕ). codes "hello" ++ z) (sym (append_assoc (number_text client) (number_text clients) (10 ∷ []))) ∙ sym (append_assoc (codes "hello") (number_text client ++ number_text clients) (10 ∷ [])),
)
