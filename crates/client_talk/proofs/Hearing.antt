-- One more piece or line of what is to come.
use Rattle.std.proofs.Common.{◌≡◌, ℕ, List, [], ◌∷◌, ◌++◌, length, Option, Result, Ok, Err, refl, sym, ap, subst, ◌∙◌, append_assoc, arith}
use Rattle.std.specs.Prelude.{IfErr}
use Rattle.std.specs.Io.KnownBytes.{Appends}
use Rattle.std.proofs.lemmas.List.{append-nil, take_all}
use Rattle.layout_io.specs.Links.{Wire}
use Rattle.session_wire.specs.Steps.{IsLine}
use Rattle.session_wire.specs.Kept.{ended}
use Rattle.client_talk.specs.declared.stop.Stop.{Stop}
use Rattle.client_talk.specs.declared.stop.Stop.TheVariants as stops
use Rattle.client_talk.specs.Hears.{Begins, HasPrinted, HasRead, HasLine, HasBegun, HasHeard, IsOfLink, OutCause}
use Rattle.client_talk.proofs.Prints.{appends_none, begins_first}

-- what is to come is what came and what is left
pub record Came (old new : List ℕ) (w v : Wire) : Type 0 where
  pub same : old ++ w.left ≡ new ++ v.left
  pub written : v.written ≡ w.written

pub came_none : (old : List ℕ) (w : Wire) → Came old old w w
came_none old w = record { same = refl; written = refl }

pub came_more : {T : Type 0} (x : T) (old mid new : List ℕ) (u v w : Wire) → Came old mid u v → HasRead mid new (Ok x) v w → Came old new u w
came_more x old mid new u v w p q = record { same = p.same ∙ q.0; written = q.1 ∙ p.written }

pub came_line : (old mid new line : List ℕ) (u v : Wire) → Came old mid u v → IsLine line → mid ≡ line ++ 10 ∷ new → HasLine old new (Ok line) u v
came_line old mid new line u v p is e =
    (is, p.same ∙ ap (λ (x : List ℕ). x ++ v.left) e ∙ append_assoc line (10 ∷ new) v.left, p.written)

pub came_memory : (old mid new : List ℕ) (u v : Wire) → Came old mid u v → HasLine old new (Err stops.Memory) u v
came_memory old mid new u v p = p.written

pub came_stop : (stop : Stop) (old mid new : List ℕ) (u v w : Wire) → Came old mid u v → IsLine mid → HasRead {T = Unit {0}} mid new (Err stop) v w → HasLine old new (Err stop) u w
came_stop stops.Ended old mid new u v w p is q =
    let all : old ++ u.left ≡ mid = p.same ∙ ap (λ (x : List ℕ). mid ++ x) q.0 ∙ append-nil mid in
    (subst IsLine (sym all) is, ap (λ (x : Wire). x.left) q.1 ∙ q.0, ap (λ (x : Wire). x.written) q.1 ∙ p.written)
came_stop stops.Link old mid new u v w p is q = q ∙ p.written
came_stop stops.Memory old mid new u v w p is q = q ∙ p.written
came_stop stops.Out old mid new u v w p is q = absurd q
came_stop stops.Refused old mid new u v w p is q = absurd q

pub begins_none : (x : List ℕ) (o : Option (List ℕ)) → Begins x o o
begins_none x o = (0, appends_none o)

pub begins_all : (x : List ℕ) (o p : Option (List ℕ)) → Appends o p x → Begins x o p
begins_all x o p a = (length x, subst (λ (y : List ℕ). Appends o p y) (sym (take_all (length x) x (omega arith))) a)

-- a whole line and what follows it
pub line_then : (line rest : List ℕ) → line ++ 10 ∷ rest ≡ ended line ++ rest
line_then line rest = sym (append_assoc line (10 ∷ []) rest)

pub heard_stop : (stop : Stop) (old new : List ℕ) (o : Option (List ℕ)) (u v : Wire) → HasLine old new (Err stop) u v → HasHeard old new o o (Err stop) u v
heard_stop stops.Ended old new o u v h = (h.0, h.1, (h.2, begins_none (old ++ u.left) o))
heard_stop stops.Link old new o u v h = (h, begins_none (old ++ u.left) o)
heard_stop stops.Memory old new o u v h = (h, begins_none (old ++ u.left) o)
heard_stop stops.Out old new o u v h = absurd h
heard_stop stops.Refused old new o u v h = absurd h

begun : (line old new : List ℕ) (o p : Option (List ℕ)) (u v : Wire) → HasLine old new (Ok line) u v → Begins (ended line) o p → HasBegun old o p u v
begun line old new o p u v h b =
    (h.2, subst (λ (x : List ℕ). Begins x o p) (sym (h.1 ∙ line_then line (new ++ v.left))) (begins_first (ended line) (new ++ v.left) o p b))

pub print_stop : (stop : Stop) (line old new : List ℕ) (o p : Option (List ℕ)) (u v : Wire) → HasLine old new (Ok line) u v → HasPrinted {T = Unit {0}} (ended line) o p (Err stop) → HasHeard old new o p (Err stop) u v
print_stop stops.Out line old new o p u v h q = begun line old new o p u v h q
print_stop stops.Memory line old new o p u v h q = begun line old new o p u v h q
print_stop stops.Link line old new o p u v h q = absurd q
print_stop stops.Ended line old new o p u v h q = absurd q
print_stop stops.Refused line old new o p u v h q = absurd q

pub heard_begun : (line old new : List ℕ) (o p : Option (List ℕ)) (u v : Wire) → HasHeard old new o p (Ok line) u v → HasBegun old o p u v
heard_begun line old new o p u v h = begun line old new o p u v (h.0, h.1, h.2) (begins_all (ended line) o p h.3)

-- a fault of the link leaves the output
pub out_still : (T : Type 0) (stop : Stop) (n : ℕ) → IsOfLink stop → OutCause {T = T} n n (Err stop)
out_still T stops.Link n h = refl
out_still T stops.Ended n h = refl
out_still T stops.Memory n h = refl
out_still T stops.Out n h = absurd h
out_still T stops.Refused n h = absurd h

pub out_result : {T : Type 0} (res : Result T Stop) (n : ℕ) → IfErr res IsOfLink → OutCause n n res
out_result {T = T} (Ok x) n h = refl
out_result {T = T} (Err stop) n h = out_still T stop n h
