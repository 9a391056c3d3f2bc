-- What is told of a link over several calls.
use Rattle.std.proofs.Common.{◌≡◌, ℕ, List, [], ◌++◌, take, drop, Option, Some, None, Result, Ok, Err, refl, sym, ap, subst, ◌∙◌, append_assoc}
use Rattle.std.proofs.lemmas.List.{append-nil, take-append-drop}
use Rattle.layout_io.specs.Links.{Wire, Across, IsSent}
use Rattle.std.specs.Result.{IsErrAnd}
use Rattle.client_talk.specs.Hears.{SentFront}

pub across_same : (o : Option Wire) (R : Wire → Wire → Type 0) → ((w : Wire) → R w w) → Across o o R
across_same None R h = tt
across_same (Some w) R h = h w

pub across_then : (a b c : Option Wire) (R S T : Wire → Wire → Type 0) → Across a b R → Across b c S → ((u v w : Wire) → R u v → S v w → T u w) → Across a c T
across_then None b c R S T p q h = tt
across_then (Some u) None c R S T p q h = absurd p
across_then (Some u) (Some v) None R S T p q h = absurd q
across_then (Some u) (Some v) (Some w) R S T p q h = h u v w p q

pub across_weaker : (a b : Option Wire) (R S : Wire → Wire → Type 0) → Across a b R → ((u v : Wire) → R u v → S u v) → Across a b S
across_weaker None b R S p h = tt
across_weaker (Some u) None R S p h = absurd p
across_weaker (Some u) (Some v) R S p h = h u v p

-- the text is what was written and what is left
pub record SentSome (text rest : List ℕ) (w v : Wire) : Type 0 where
  pub done : List ℕ
  pub parts : text ≡ done ++ rest
  pub sent : IsSent done w v

pub sent_none : (text : List ℕ) (w : Wire) → SentSome text text w w
sent_none text w = record { done = []; parts = refl; sent = record { sent = sym (append-nil w.written); left = refl } }

sent_then : (x y : List ℕ) (u v w : Wire) → IsSent x u v → IsSent y v w → IsSent (x ++ y) u w
sent_then x y u v w p q = record { sent = q.sent ∙ ap (λ (z : List ℕ). z ++ y) p.sent ∙ append_assoc u.written x y; left = q.left ∙ p.left }

pub sent_more : (text rest piece after : List ℕ) (u v w : Wire) → rest ≡ piece ++ after → SentSome text rest u v → IsSent piece v w → SentSome text after u w
sent_more text rest piece after u v w parts s p = record {
  done = s.done ++ piece;
  parts = s.parts ∙ ap (λ (z : List ℕ). s.done ++ z) parts ∙ sym (append_assoc s.done piece after);
  sent = sent_then s.done piece u v w s.sent p;
}

pub sent_all : (text rest : List ℕ) (u v : Wire) → rest ≡ [] → SentSome text rest u v → IsSent text u v
sent_all text rest u v none s =
    let whole : text ≡ s.done = s.parts ∙ ap (λ (z : List ℕ). s.done ++ z) none ∙ append-nil s.done in
    rw whole s.sent

pub sent_front : (text rest : List ℕ) (u v : Wire) → SentSome text rest u v → SentFront text u v
sent_front text rest u v s = (s.done, rest, s.parts, s.sent)

pub split_here : (count : ℕ) (rest after : List ℕ) → after ≡ drop count rest → rest ≡ take count rest ++ after
split_here count rest after e = sym (take-append-drop count rest) ∙ ap (λ (x : List ℕ). take count rest ++ x) (sym e)

-- two facts at once
pub across_both : (a b : Option Wire) (R S : Wire → Wire → Type 0) → Across a b R → Across a b S → Across a b (λ u v. R u v × S u v)
across_both None b R S p q = tt
across_both (Some u) None R S p q = absurd p
across_both (Some u) (Some v) R S p q = (p, q)

-- what `?` hands on
pub err_as : {T E : Type 0} (r : Result T E) (x : E) (P : Result T E → Type 0) → IsErrAnd r (λ e. e ≡ x) → P (Err x) → P r
err_as (Ok v) x P h p = absurd h
err_as (Err e) x P h p = subst (λ y. P (Err y)) (sym h) p
