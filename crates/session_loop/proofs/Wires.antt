-- What is told of a link over several calls.
use Rattle.std.proofs.Common.{◌≡◌, ℕ, List, [], ◌++◌, take, drop, Option, Some, None, Result, Ok, Err, refl, sym, ap, subst, ◌∙◌, append_assoc}
use Rattle.std.specs.Prelude.{IfErr, OnOk}
use Rattle.std.proofs.lemmas.List.{append-nil, take-append-drop}
use Rattle.layout_io.specs.Links.{Wire, Across, IsSent}
use Rattle.board_items.specs.declared.history.Entry.{Entry}
use Rattle.session_loop.specs.declared.end.SessionEnd.{SessionEnd}
use Rattle.session_loop.specs.Sessions.{Holds}
use Rattle.session_loop.specs.Stops.{Start, SentFront}

pub across_same : (o : Option Wire) (R : Wire → Wire → Type 0) → ((w : Wire) → R w w) → Across o o R
across_same None R h = tt
across_same (Some w) R h = h w

pub across_then : (a b c : Option Wire) (R S T : Wire → Wire → Type 0) → Across a b R → Across b c S → ((u v w : Wire) → R u v → S v w → T u w) → Across a c T
across_then None b c R S T p q h = tt
across_then (Some u) None c R S T p q h = absurd p
across_then (Some u) (Some v) None R S T p q h = absurd q
across_then (Some u) (Some v) (Some w) R S T p q h = h u v w p q

pub across_weaker : (a b : Option Wire) (R S : Wire → Wire → Type 0) → Across a b R → ((u v : Wire) → R u v → S u v) → Across a b S
across_weaker None b R S p h = tt
across_weaker (Some u) None R S p h = absurd p
across_weaker (Some u) (Some v) R S p h = h u v p

pub across_at : (a b : Option Wire) (w v : Wire) (R : Wire → Wire → Type 0) → a ≡ Some w → b ≡ Some v → Across a b R → R w v
across_at a b w v R p q h = subst (λ (o : Option Wire). Across (Some w) o R) q (subst (λ (o : Option Wire). Across o b R) p h)

pub across_none : (a b : Option Wire) (w : Wire) (R : Wire → Wire → Type 0) → a ≡ Some w → b ≡ None → Across a b R → ⊥
across_none a b w R p q h = subst (λ (o : Option Wire). Across (Some w) o R) q (subst (λ (o : Option Wire). Across o b R) p h)

-- a fact of the old bytes gives one of the new
pub holds_then : (a b : Option Wire) (P Q : Wire → Type 0) (R : Wire → Wire → Type 0) → Holds a P → Across a b R → ((u v : Wire) → P u → R u v → Q v) → Holds b Q
holds_then None b P Q R p r h = absurd p
holds_then (Some u) None P Q R p r h = absurd r
holds_then (Some u) (Some v) P Q R p r h = h u v p r

pub holds_weaker : (a : Option Wire) (P Q : Wire → Type 0) → Holds a P → ((u : Wire) → P u → Q u) → Holds a Q
holds_weaker None P Q p h = absurd p
holds_weaker (Some u) P Q p h = h u p

-- the text is what was written and what is left
pub record SentSome (text rest : List ℕ) (w v : Wire) : Type 0 where
  pub done : List ℕ
  pub parts : text ≡ done ++ rest
  pub sent : IsSent done w v

pub sent_none : (text : List ℕ) (w : Wire) → SentSome text text w w
sent_none text w = record { done = []; parts = refl; sent = record { sent = sym (append-nil w.written); left = refl } }

sent_then : (x y : List ℕ) (u v w : Wire) → IsSent x u v → IsSent y v w → IsSent (x ++ y) u w
sent_then x y u v w p q = record { sent = q.sent ∙ ap (λ (z : List ℕ). z ++ y) p.sent ∙ append_assoc u.written x y; left = q.left ∙ p.left }

pub sent_more : (text rest piece after : List ℕ) (u v w : Wire) → rest ≡ piece ++ after → SentSome text rest u v → IsSent piece v w → SentSome text after u w
sent_more text rest piece after u v w parts s p = record {
  done = s.done ++ piece;
  parts = s.parts ∙ ap (λ (z : List ℕ). s.done ++ z) parts ∙ sym (append_assoc s.done piece after);
  sent = sent_then s.done piece u v w s.sent p;
}

pub sent_all : (text rest : List ℕ) (u v : Wire) → rest ≡ [] → SentSome text rest u v → IsSent text u v
sent_all text rest u v none s =
    let whole : text ≡ s.done = s.parts ∙ ap (λ (z : List ℕ). s.done ++ z) none ∙ append-nil s.done in
    rw whole s.sent

pub sent_front : (text rest : List ℕ) (u v : Wire) → SentSome text rest u v → SentFront text u v
sent_front text rest u v s = (s.done, rest, s.parts, s.sent)

pub split_here : (count : ℕ) (rest after : List ℕ) → after ≡ drop count rest → rest ≡ take count rest ++ after
split_here count rest after e = sym (take-append-drop count rest) ∙ ap (λ (x : List ℕ). take count rest ++ x) (sym e)

pub on_ok_then : {T E : Type 0} (r : Result T E) (P Q : Type 0) → OnOk r P → (P → Q) → OnOk r Q
on_ok_then (Ok v) P Q p f = f p
on_ok_then (Err e) P Q p f = tt

pub if_err_then : {T E : Type 0} (r : Result T E) (P Q : E → Type 0) → IfErr r P → ((e : E) → P e → Q e) → IfErr r Q
if_err_then (Ok v) P Q p f = tt
if_err_then (Err e) P Q p f = f e p

pub on_ok_going : {T : Type 0} (r : Result T SessionEnd) (A M B : Start → Type 0) → OnOk r ((s : Start) → M s → B s) → ((s : Start) → A s → M s) → OnOk r ((s : Start) → A s → B s)
on_ok_going (Ok v) A M B p f = λ s a. p s (f s a)
on_ok_going (Err e) A M B p f = tt

pub if_err_stopped : {T : Type 0} (r : Result T SessionEnd) (A M : Start → Type 0) (N K S : Type 0) (X : List Entry → Type 0) (Z : SessionEnd → Start → List Entry → Type 0)
    → IfErr r (λ end. (s : Start) (journal : List Entry) → K → M s → X journal → Z end s journal) → (N → K) → ((s : Start) → A s → M s)
    → IfErr r (λ end. (s : Start) (journal : List Entry) → N → S → A s → X journal → Z end s journal)
if_err_stopped (Ok v) A M N K S X Z p n f = tt
if_err_stopped (Err e) A M N K S X Z p n f = λ s journal none short a ext. p s journal (n none) (f s a) ext
