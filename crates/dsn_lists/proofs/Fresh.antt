-- Lists of names in which none stands twice.
use Rattle.std.proofs.Common.{◌≡◌, ℕ, false, List, [], ◌∷◌, ◌++◌, refl, sym, ap, subst, ◌∙◌, append_assoc}
use Rattle.std.proofs.lemmas.List.{append-nil}
use Rattle.dsn_lists.specs.Names.{is_among}

-- no name is one of those that stand before it, nor of those seen before
abbrev pub AreFreshBehind : List (List ℕ) → List (List ℕ) → Type 0
AreFreshBehind seen names = (before after : List (List ℕ)) (name : List ℕ) → names ≡ before ++ name ∷ after → is_among name (seen ++ before) ≡ false

nothing_in : (before after : List (List ℕ)) (name : List ℕ) → [] ≡ before ++ name ∷ after → ⊥
nothing_in [] after name e = absurd cc
nothing_in (b ∷ before) after name e = absurd cc

pub fresh_none : (seen : List (List ℕ)) → AreFreshBehind seen []
fresh_none seen before after name e = absurd (nothing_in before after name e)

heads : {A : Type 0} (a b : A) (xs ys : List A) → a ∷ xs ≡ b ∷ ys → (a ≡ b) × (xs ≡ ys)
heads a b xs ys e = (cc, cc)

pub fresh_one : (seen : List (List ℕ)) (n : List ℕ) → is_among n seen ≡ false → AreFreshBehind seen (n ∷ [])
fresh_one seen n h [] after name e = let p = heads n name [] after e in rw (append-nil seen, ← p.0) h
fresh_one seen n h (b ∷ before) after name e = absurd (nothing_in before after name (heads n b [] (before ++ name ∷ after) e).1)

pub fresh_head : (seen : List (List ℕ)) (n : List ℕ) (ns : List (List ℕ)) → AreFreshBehind seen (n ∷ ns) → is_among n seen ≡ false
fresh_head seen n ns h = ap (λ (xs : List (List ℕ)). is_among n xs) (sym (append-nil seen)) ∙ h [] ns n refl

fresh_tail : (seen : List (List ℕ)) (n : List ℕ) (ns : List (List ℕ)) → AreFreshBehind seen (n ∷ ns) → AreFreshBehind (seen ++ n ∷ []) ns
fresh_tail seen n ns h before after name e = ap (λ (xs : List (List ℕ)). is_among name xs) (append_assoc seen (n ∷ []) before) ∙ h (n ∷ before) after name (ap (λ (xs : List (List ℕ)). n ∷ xs) e)

pub fresh_join : (xs ys seen : List (List ℕ)) → AreFreshBehind seen xs → AreFreshBehind (seen ++ xs) ys → AreFreshBehind seen (xs ++ ys)
fresh_join [] ys seen p q before after name e = let h : AreFreshBehind seen ys = subst (λ (s : List (List ℕ)). AreFreshBehind s ys) (append-nil seen) q in h before after name e
fresh_join (x ∷ xs) ys seen p q [] after name e = let h = heads x name (xs ++ ys) after e in rw (append-nil seen, ← h.0) (fresh_head seen x xs p)
fresh_join (x ∷ xs) ys seen p q (b ∷ before) after name e =
    let h = heads x b (xs ++ ys) (before ++ name ∷ after) e in
    let r = fresh_join xs ys (seen ++ x ∷ []) (fresh_tail seen x xs p) (subst (λ (s : List (List ℕ)). AreFreshBehind s ys) (sym (append_assoc seen (x ∷ []) xs)) q) before after name h.1 in
    rw (← h.0) (ap (λ (s : List (List ℕ)). is_among name s) (sym (append_assoc seen (x ∷ []) before)) ∙ r)

pub fresh_front : (xs ys seen : List (List ℕ)) → AreFreshBehind seen (xs ++ ys) → AreFreshBehind seen xs
fresh_front xs ys seen h before after name e = h before (after ++ ys) name (ap (λ (s : List (List ℕ)). s ++ ys) e ∙ append_assoc before (name ∷ after) ys)

pub fresh_back : (xs ys seen : List (List ℕ)) → AreFreshBehind seen (xs ++ ys) → AreFreshBehind (seen ++ xs) ys
fresh_back xs ys seen h before after name e =
    ap (λ (s : List (List ℕ)). is_among name s) (append_assoc seen xs before) ∙ h (xs ++ before) after name (ap (λ (s : List (List ℕ)). xs ++ s) e ∙ sym (append_assoc xs before (name ∷ after)))
