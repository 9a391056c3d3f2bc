-- What lists state one behind another is what is read, over any way to read one.
use Rattle.std.proofs.Common.{◌≡◌, ℕ, List, [], ◌++◌, Ok, Err, refl, sym, ap, ◌∙◌}
use Rattle.sexp_text.specs.Forest.{Forest, End, Word, Branch}
use Rattle.dsn_lists.specs.declared.faults.DesignFault.{DesignFault}
use Rattle.dsn_lists.specs.Results.{Read, each}
use Rattle.dsn_lists.specs.Lists.{Joins, IsFirst}
use Rattle.dsn_lists.proofs.Firsts.{made, ok_is, bind_ok, first_found, first_again}

-- a way to read lists that states something of each, and adds it to what was read
pub record Adds {S A : Type 0} (step : S → ℕ → Forest → Read S) (add : S → List A → S) (States : Forest → List A → Type 0) : Type 0 where
  pub none : (s : S) → s ≡ add s []
  pub more : (s : S) (xs ys : List A) → add (add s xs) ys ≡ add s (xs ++ ys)
  pub found : (s : S) (at : ℕ) (inside : Forest) (t : S) → step s at inside ≡ Ok t → (xs : List A) × States inside xs × (t ≡ add s xs)
  pub again : (s : S) (at : ℕ) (inside : Forest) (xs : List A) → States inside xs → step s at inside ≡ Ok (add s xs)

pub joins_found : {S A : Type 0} (step : S → ℕ → Forest → Read S) (add : S → List A → S) (States : Forest → List A → Type 0) → Adds step add States
    → (f : Forest) (s t : S) → each step s f ≡ Ok t → (xs : List A) × Joins States f xs × (t ≡ add s xs)
unfolding each
joins_found step add States r End s t e = ([], refl, sym (ok_is s t e) ∙ r.none s)
joins_found step add States r (Word at text rest) s t e = absurd cc
joins_found step add States r (Branch at inside rest) s t e =
    let y = bind_ok (step s at inside) (λ y. each step y rest) t e in
    let one = r.found s at inside y.0 y.1 in
    let others = joins_found step add States r rest y.0 t y.2 in
    (one.0 ++ others.0, (one.0, others.0, one.1, others.1, refl), others.2 ∙ ap (λ x. add x others.0) one.2 ∙ r.more s one.0 others.0)

pub joins_again : {S A : Type 0} (step : S → ℕ → Forest → Read S) (add : S → List A → S) (States : Forest → List A → Type 0) → Adds step add States
    → (f : Forest) (s : S) (xs : List A) → Joins States f xs → each step s f ≡ Ok (add s xs)
unfolding each
joins_again step add States r End s xs h = ap (λ x. made x) (r.none s ∙ ap (λ ys. add s ys) (sym h))
joins_again step add States r (Word at text rest) s xs h = absurd h
joins_again step add States r (Branch at inside rest) s xs h =
    rw (r.again s at inside h.0 h.2) (joins_again step add States r rest (add s h.0) h.1 h.3 ∙ ap (λ x. made x) (r.more s h.0 h.1 ∙ ap (λ ys. add s ys) (sym h.4)))

-- the value of what was read, and s where there is none
abbrev read_or : {S : Type 0} → S → Read S → S
read_or s (Ok x) = x
read_or s (Err e) = s

-- lists that state something
abbrev pub Stated : {A : Type 0} → (Forest → List A → Type 0) → Forest → Type 0
Stated {A = A} States f = (xs : List A) × Joins States f xs

pub joins_fault : {S A : Type 0} (step : S → ℕ → Forest → Read S) (add : S → List A → S) (States : Forest → List A → Type 0) → Adds step add States
    → (HasFault : Forest → ℕ → Forest → DesignFault → Type 0) → ((x : S) (before inside : Forest) (at : ℕ) (e : DesignFault) → step x at inside ≡ Err e → HasFault before at inside e)
    → (s : S) (f : Forest) (e : DesignFault) → each step s f ≡ Err e → IsFirst (Stated States) HasFault f e
joins_fault step add States r HasFault fault s f e h =
    first_found step s (λ f. read_or s (each step s f)) (Stated States) HasFault
    (λ f y k. let j = joins_found step add States r f s y k in ((j.0, j.1), sym (ap (λ x. read_or s x) k)))
    (λ before inside at e stand k. fault (read_or s (each step s before)) before inside at e k) f e h

pub joins_fault_again : {S A : Type 0} (step : S → ℕ → Forest → Read S) (add : S → List A → S) (States : Forest → List A → Type 0) → Adds step add States
    → (HasFault : Forest → ℕ → Forest → DesignFault → Type 0) → ((x : S) (before inside : Forest) (at : ℕ) (e : DesignFault) → HasFault before at inside e → step x at inside ≡ Err e)
    → (s : S) (f : Forest) (e : DesignFault) → IsFirst (Stated States) HasFault f e → each step s f ≡ Err e
joins_fault_again step add States r HasFault fault s f e h =
    first_again step s (λ f. read_or s (each step s f)) (Stated States) HasFault
    (λ f k. let j = joins_again step add States r f s k.0 k.1 in j ∙ ap (λ x. made x) (sym (ap (λ x. read_or s x) j)))
    (λ before inside at e stand k. fault (read_or s (each step s before)) before inside at e k) f e h
