-- Names are a front of themselves, of themselves with one more, and of what a front of them is a front of.
use Rattle.std.proofs.Common.{ℕ, List, [], ◌∷◌, ◌++◌, refl, sym, ap, ◌∙◌, append_assoc}
use Rattle.std.proofs.lemmas.List.{append-nil}
use Rattle.dsn_reader.specs.Fronts.{IsFront}

pub front_same : (a : List (List ℕ)) → IsFront a a
front_same a = record { more = []; is = sym (append-nil a) }

pub front_one : (a : List (List ℕ)) (name : List ℕ) → IsFront a (a ++ name ∷ [])
front_one a name = record { more = name ∷ []; is = refl }

pub front_then : (a b c : List (List ℕ)) → IsFront a b → IsFront b c → IsFront a c
front_then a b c h g =
    record { more = h.more ++ g.more; is = g.is ∙ ap (λ (xs : List (List ℕ)). xs ++ g.more) h.is ∙ append_assoc a h.more g.more }
