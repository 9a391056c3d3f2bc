-- What the last state says of the value.
use Rattle.std.proofs.Common.{◌≡◌, ℕ, ◌≤◌, eqb, List, [], ◌∷◌, sym, ap, ◌∙◌, subst, ⊎_elim, arith, false, Option, Some, None, zero, suc, ◌<◌, ◌+◌, length}
use Rattle.std.proofs.lemmas.Bool.{false≢true}
use Rattle.std.specs.Prelude.{map, Contains}
use Rattle.std.specs.List.{AllByRecursion, IsDistinct}
use mathlib.Core.Logic.{dite}
use mathlib.Core.Option.{some}
use mathlib.Core.List.{IsPrefix}
use native.Mathlib.Decide.{ℕ_discrete}
use lib.ListN.{get_elem?, length-map}
use Rattle.atomic_table.specs.Table.{State, Final, Seen}
use Rattle.turn_lock.specs.declared.knowledge.Ended.{Ended}
use Rattle.turn_lock.specs.declared.knowledge.Knowledge.{Knowledge}
use Rattle.turn_lock.specs.Lists.{calls_of}
use Rattle.turn_lock.specs.Remembering.{IsView, HasEnded}
use Rattle.turn_lock.specs.Steps.{ended_of}
use Rattle.turn_lock.specs.Standing.{IsFree, IsHeld, Stands}
use Rattle.turn_lock.proofs.Lists.{all_weaker, all_map, all_at_key, among_more, crowded}
use Rattle.turn_lock.proofs.Views.{one_view}
use Rattle.turn_lock.proofs.Knowing.{is_lead}

module _ {T C F : Type 0} (calls : T → List C) (fixed : T → F) (first : T) (caller : C → ℕ) where
  -- the value that lies in the slot at the end, with what the first seat knows of it
  pub record Closes (v : Knowledge C) (homes : List (mathlib.Core.Option.Option (Option T))) : Type 0 where
    pub value : T
    pub home : homes ≡ some (Some value) ∷ []
    pub same : fixed value ≡ fixed first
    pub begins : AllByRecursion (λ e. IsPrefix e.seen (calls value)) (ended_of v ∷ v.ended)
    pub apart : IsDistinct eqb (map (λ e. e.number) (ended_of v ∷ v.ended))
    pub own : AllByRecursion (λ e. calls_of caller e.number (calls value) ≡ e.own) (ended_of v ∷ v.ended)
    pub no_other : AllByRecursion (λ call. Contains (map (λ e. e.number) (ended_of v ∷ v.ended)) (caller call)) (calls value)

  abbrev AllEnded : Knowledge C → Type 0
  AllEnded v = (n : ℕ) → 1 ≤ n → n ≤ v.splits → Contains (map (λ e. e.number) v.ended) n

  beyond_zero : (ns : List ℕ) (n : ℕ) → 1 ≤ n → Contains (0 ∷ ns) n → Contains ns n
  beyond_zero ns n some_number (zero, less, is) = absurd (omega arith)
  beyond_zero ns n some_number (suc k, less, is) = (k, omega arith, is)

  -- where as many seats were joined as were split off, each further number has ended
  all_ended : (s : State (Option T) (Knowledge C)) (r : Stands calls fixed first caller s) (id : ℕ) (v : Knowledge C) → IsView s.views id v → v.number ≡ 0 → length v.ended ≡ v.splits → AllEnded v
  all_ended s r id v at lead joined n some_number low =
      let seats = r.seats in let count = is_lead s.views seats.splits seats.ended id v seats.first seats.apart at lead in
      let numbers : List ℕ = map (λ (e : Ended C). e.number) seats.ended in
      let long : length numbers ≡ seats.splits = length-map seats.ended (λ (e : Ended C). e.number) ∙ (ap (λ es. length es) (sym count.2) ∙ (joined ∙ count.1)) in
      let below = all_map (λ (e : Ended C). e.number) (λ k. k < seats.splits + 1) seats.ended
      (all_weaker (HasEnded caller s.views r.log seats.splits) (λ e. e.number < seats.splits + 1) seats.ended (λ e h. let made = h.made in omega arith) seats.over) in
      subst (λ es. Contains (map (λ e. e.number) es) n) (sym count.2)
      (beyond_zero numbers n some_number (crowded seats.splits n (0 ∷ numbers) seats.once (omega arith, below) (omega arith) (omega (arith, count.1))))

  -- no seat has the turn
  not_held : (s : State (Option T) (Knowledge C)) (r : Stands calls fixed first caller s) (id : ℕ) (v : Knowledge C) → IsView s.views id v → v.number ≡ 0 → v.turn ≡ false → AllEnded v
      → IsHeld calls fixed first s r.log → ⊥
  not_held s r id v at lead idle all held = let h = held.has in let seats = r.seats in let count = is_lead s.views seats.splits seats.ended id v seats.first seats.apart at lead in dite (ℕ_discrete h.number 0)
      (λ none. let here : held.holder ≡ id = seats.apart held.holder id h v held.there.0 at (none ∙ sym lead) in
      let same = one_view s.views id v h at (subst (λ j. get_elem? s.views j ≡ some h) here held.there.0.0, held.there.0.1) in
      false≢true (sym idle ∙ (ap (λ (u : Knowledge C). u.turn) same ∙ held.there.1)))
      (λ more. let low = (seats.each held.holder h held.there.0).made in
      let e = all_at_key (λ e. e.number) (HasEnded caller s.views r.log seats.splits) seats.ended h.number seats.over
      (subst (λ es. Contains (map (λ e. e.number) es) h.number) count.2 (all h.number (omega arith) (omega (arith, count.1)))) in
      e.2.gone held.holder h held.there.0 (sym e.1))

  among : (v : Knowledge C) → v.number ≡ 0 → AllEnded v → (n : ℕ) → n ≤ v.splits → Contains (map (λ e. e.number) (ended_of v ∷ v.ended)) n
  among v lead all n low = dite (ℕ_discrete n 0) (λ none. (0, omega arith, lead ∙ sym none)) (λ more. among_more (λ e. e.number) (ended_of v) v.ended n (all n (omega arith) low))

  pub closes : (s : State (Option T) (Knowledge C)) (id : ℕ) (v : Knowledge C) → Stands calls fixed first caller s → IsView s.views id v → v.number ≡ 0 → v.turn ≡ false → length v.ended ≡ v.splits → Closes v s.homes
  closes s id v r at lead idle joined = let all = all_ended s r id v at lead joined in ⊎_elim
      (λ (free : IsFree calls fixed first s r.log). let seats = r.seats in let count = is_lead s.views seats.splits seats.ended id v seats.first seats.apart at lead in let known = seats.each id v at in record {
        value = free.value;
        home = free.home;
        same = free.same;
        begins = (
          subst (λ l. IsPrefix v.seen l) (sym free.counted) known.begins,
          subst (λ es. AllByRecursion (λ e. IsPrefix e.seen (calls free.value)) es) (sym count.2)
              (all_weaker (HasEnded caller s.views r.log seats.splits) (λ e. IsPrefix e.seen (calls free.value)) seats.ended
              (λ e h. subst (λ l. IsPrefix e.seen l) (sym free.counted) h.begins) seats.over),
        );
        apart = subst (λ (ns : List ℕ). IsDistinct eqb ns) (ap (λ (n : ℕ). n ∷ map (λ (e : Ended C). e.number) seats.ended) (sym lead) ∙ ap (λ es. v.number ∷ map (λ (e : Ended C). e.number) es) (sym count.2)) seats.once;
        own = (
          ap (λ l. calls_of caller v.number l) free.counted ∙ sym known.own,
          subst (λ es. AllByRecursion (λ e. calls_of caller e.number (calls free.value) ≡ e.own) es) (sym count.2)
              (all_weaker (HasEnded caller s.views r.log seats.splits) (λ e. calls_of caller e.number (calls free.value) ≡ e.own) seats.ended
              (λ e h. ap (λ l. calls_of caller e.number l) free.counted ∙ sym h.own) seats.over),
        );
        no_other = subst (AllByRecursion (λ call. Contains (map (λ e. e.number) (ended_of v ∷ v.ended)) (caller call))) (sym free.counted)
            (all_weaker (λ c. caller c ≤ seats.splits) (λ call. Contains (map (λ e. e.number) (ended_of v ∷ v.ended)) (caller call)) r.log
            (λ c low. among v lead all (caller c) (omega (arith, count.1))) seats.named);
      })
      (λ held. absurd (not_held s r id v at lead idle all held)) r.turn

  -- the value that comes out at the end, with what the first seat knows of it
  pub record Leaves (v : Knowledge C) (value : T) : Type 0 where
    pub same : fixed value ≡ fixed first
    pub begins : AllByRecursion (λ e. IsPrefix e.seen (calls value)) (ended_of v ∷ v.ended)
    pub apart : IsDistinct eqb (map (λ e. e.number) (ended_of v ∷ v.ended))
    pub own : AllByRecursion (λ e. calls_of caller e.number (calls value) ≡ e.own) (ended_of v ∷ v.ended)
    pub no_other : AllByRecursion (λ call. Contains (map (λ e. e.number) (ended_of v ∷ v.ended)) (caller call)) (calls value)

  lies : (ws : List ℕ) (xs : List (Option T)) (id : ℕ) (v : Knowledge C) → Final (Seen (Stands calls fixed first caller) id v) ws xs → v.spent ≡ false → v.number ≡ 0 → v.turn ≡ false → length v.ended ≡ v.splits
      → (value : T) × (get_elem? xs 0 ≡ some (Some value)) × Leaves v value
  lies ws xs id v last live lead idle all = let s = last.0 in let c = closes s id v last.1.0 (last.1.1, live) lead idle all in (
    c.value,
    last.4 0 (Some c.value) (ap (λ hs. get_elem? hs 0) c.home),
    record { same = c.same; begins = c.begins; apart = c.apart; own = c.own; no_other = c.no_other },
  )

  pub never_empty : (ws : List ℕ) (xs : List (Option T)) (id : ℕ) (v : Knowledge C) → Final (Seen (Stands calls fixed first caller) id v) ws xs → v.spent ≡ false → v.number ≡ 0 → v.turn ≡ false → length v.ended ≡ v.splits
      → get_elem? xs 0 ≡ some None → ⊥
  never_empty ws xs id v last live lead idle all empty = let l = lies ws xs id v last live lead idle all in cc (l.1, empty)

  pub leaves : (ws : List ℕ) (xs : List (Option T)) (id : ℕ) (v : Knowledge C) (value : T) → Final (Seen (Stands calls fixed first caller) id v) ws xs → v.spent ≡ false → v.number ≡ 0 → v.turn ≡ false → length v.ended ≡ v.splits
      → get_elem? xs 0 ≡ some (Some value) → Leaves v value
  leaves ws xs id v value last live lead idle all there = let l = lies ws xs id v last live lead idle all in
      let same : l.0 ≡ value = cc (l.1, there) in subst (Leaves v) same l.2
