-- Who has left, and how many are present, behind one call more.
use Rattle.std.proofs.Common.{◌≡◌, ◌≢◌, ◌⊎◌, ℕ, zero, suc, ◌+◌, ◌<◌, ◌≤◌, List, [], ◌∷◌, ◌++◌, refl, sym, ap, ◌∙◌, arith, inl, inr}
use Rattle.std.specs.Prelude.{Bool, true, false, ◌||◌, ◌&&◌, ◌==◌, if◌then◌else◌}
use Rattle.std.proofs.Math.Bool.{or-false, and-false}
use Rattle.std.proofs.lemmas.Bool.{eq-eqb, ne_eqb}
use Rattle.std.proofs.lemmas.List.Folds.{list_any-append}
use Rattle.board_items.specs.declared.history.Call.{Call}
use Rattle.board_core.specs.Histories.{is_leave, has_left, present_of}

-- the call is this client's leave
abbrev leaves : ℕ → Call → Bool
leaves client c = (c.client == client) && is_leave c.act

pub left_more : (client : ℕ) (calls : List Call) (c : Call) → has_left client (calls ++ c ∷ []) ≡ (has_left client calls || leaves client c)
left_more client calls c = list_any-append (leaves client) calls (c ∷ []) ∙ ap (λ (b : Bool). has_left client calls || b) (or-false (leaves client c))

-- a request is no leave
pub left_same : (client : ℕ) (calls : List Call) (c : Call) → is_leave c.act ≡ false → has_left client (calls ++ c ∷ []) ≡ has_left client calls
left_same client calls c asks =
    left_more client calls c ∙ ap (λ (b : Bool). has_left client calls || ((c.client == client) && b)) asks ∙ ap (λ (b : Bool). has_left client calls || b) (and-false (c.client == client)) ∙ or-false (has_left client calls)

-- a leave is that of its client alone
pub left_other : (client : ℕ) (calls : List Call) (c : Call) → c.client ≢ client → has_left client (calls ++ c ∷ []) ≡ has_left client calls
left_other client calls c other =
    left_more client calls c ∙ ap (λ (b : Bool). has_left client calls || (b && is_leave c.act)) (ne_eqb c.client client other) ∙ or-false (has_left client calls)

abbrev counted : Bool → ℕ
counted left = if left then 0 else 1

pub present_same : (n : ℕ) (calls : List Call) (c : Call) → is_leave c.act ≡ false → present_of n (calls ++ c ∷ []) ≡ present_of n calls
present_same zero calls c asks = refl
present_same (suc n) calls c asks = omega (arith, present_same n calls c asks, ap counted (left_same (suc n) calls c asks))

present_other : (n : ℕ) (calls : List Call) (c : Call) → n < c.client → present_of n (calls ++ c ∷ []) ≡ present_of n calls
present_other zero calls c less = refl
present_other (suc n) calls c less = omega (arith, present_other n calls c (omega (arith, less)), ap counted (left_other (suc n) calls c (λ e. omega (arith, less, e))))

one_more : (m n : ℕ) → (m ≡ suc n) ⊎ (m ≤ n) → (suc m ≡ suc (suc n)) ⊎ (suc m ≤ suc n)
one_more m n (inl same) = inl (ap suc same)
one_more m n (inr less) = inr (omega (arith, less))

same_or_less : (m n : ℕ) → m ≤ suc n → (m ≡ suc n) ⊎ (m ≤ n)
same_or_less zero n most = inr (omega arith)
same_or_less (suc m) zero most = inl (omega (arith, most))
same_or_less (suc m) (suc n) most = one_more m n (same_or_less m n (omega (arith, most)))

leaves_now : (a b c : Bool) → b ≡ true → c ≡ true → (a || (b && c)) ≡ true
leaves_now true b c e f = refl
leaves_now false b c e f = rw (e, f) refl

-- a client who was present has left
left_now : (client : ℕ) (calls : List Call) (c : Call) → c.client ≡ client → is_leave c.act ≡ true → has_left client (calls ++ c ∷ []) ≡ true
left_now client calls c same is = left_more client calls c ∙ leaves_now (has_left client calls) (c.client == client) (is_leave c.act) (eq-eqb c.client client same) is

present_case : (n : ℕ) (calls : List Call) (c : Call) → is_leave c.act ≡ true → 1 ≤ c.client → has_left c.client calls ≡ false → (c.client ≡ suc n) ⊎ (c.client ≤ n)
    → ((c.client ≤ n) → present_of n (calls ++ c ∷ []) + 1 ≡ present_of n calls) → present_of (suc n) (calls ++ c ∷ []) + 1 ≡ present_of (suc n) calls
present_case n calls c is some here (inl same) below =
    let now = ap counted (left_now (suc n) calls c same is) in
    let before = ap counted (sym (ap (λ (m : ℕ). has_left m calls) same) ∙ here) in
    omega (arith, now, before, present_other n calls c (omega (arith, same)))
present_case n calls c is some here (inr less) below =
    omega (arith, below less, ap counted (left_other (suc n) calls c (λ e. omega (arith, less, e))))

pub present_less : (n : ℕ) (calls : List Call) (c : Call) → is_leave c.act ≡ true → 1 ≤ c.client → c.client ≤ n → has_left c.client calls ≡ false → present_of n (calls ++ c ∷ []) + 1 ≡ present_of n calls
present_less zero calls c is some most here = absurd (omega (arith, some, most))
present_less (suc n) calls c is some most here = present_case n calls c is some here (same_or_less c.client n most) (λ less. present_less n calls c is some less here)
