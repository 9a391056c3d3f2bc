-- The step that takes the turn keeps the facts, whether it wins or loses.
use Rattle.std.proofs.Common.{◌≡◌, ℕ, eqb, List, [], ◌∷◌, set, get_or, sym, refl, ap, ◌∙◌, subst, ⊎_elim, inr, arith, true, false, Option, Some}
use Rattle.std.proofs.lemmas.Bool.{false≢true}
use mathlib.Core.Option.{none, some}
use mathlib.Core.List.{IsPrefix}
use lib.ListN.{get_elem?}
use prog.Atomic.{either}
use Rattle.atomic_table.specs.Table.{State, Act, Valid, carried_after, step, keeps, takes, stepped, Allows}
use Rattle.atomic_table.proofs.Lists.{set_again}
use Rattle.turn_lock.specs.declared.knowledge.Knowledge.{Knowledge}
use Rattle.turn_lock.specs.Lists.{calls_of}
use Rattle.turn_lock.specs.Standing.{IsFree, IsHeld, Stands}
use Rattle.turn_lock.specs.Steps.{Sat, claimed}
use Rattle.turn_lock.proofs.Lists.{at_there, prefix_self}
use Rattle.turn_lock.proofs.Views.{views_stay}
use Rattle.turn_lock.proofs.Knowing.{sees}

one_not_zero : (a : ℕ) → a ≡ 1 → a ≡ 0 → ⊥
one_not_zero a e z = absurd (omega arith)

module _ {T C F : Type 0} (calls : T → List C) (fixed : T → F) (first : T) (caller : C → ℕ) where
  abbrev St : Type 0
  St = State (Option T) (Knowledge C)

  abbrev Rule : St → Type 0
  Rule = Stands calls fixed first caller

  abbrev word : St → ℕ
  word s = get_or s.words 0 0

  abbrev taking : ℕ → ℕ
  taking n = either (eqb n 0) 1 n

  abbrev Claims : ℕ → Sat T C → (T → Type 0) → St → Type 0
  Claims id me says s = (w : Knowledge C) × (a : Act (Option T)) × Valid s.homes me.1 a × Rule (stepped s 0 (taking (word s)) id me.1 w a)
      × claimed calls caller says (step 0 0 0 1 none) me (word s) (w, carried_after me.1 a)

  -- the turn was free, and becomes the seat's
  wins : (id : ℕ) (me : Sat T C) (says : T → Type 0) (s : St) (r : Rule s) → IsFree calls fixed first s r.log → me.0.spent ≡ false → me.1 ≡ [] → ((x : T) → fixed x ≡ fixed first → says x)
      → get_elem? s.views id ≡ some me.0 → Claims id me says s
  wins id me says s r free live empty meant at =
      let v = me.0 in let x = free.value in let w : Knowledge C = record v { turn = true; seen = calls x } in
      let known = r.seats.each id v (at, live) in (
        w,
        takes 0 (Some x),
        ap (λ hs. get_elem? hs 0) free.home,
        record {
          log = r.log;
          turn = inr record {
            words = ap (λ ws. set ws 0 (taking (get_or ws 0 0))) free.words;
            away = ap (λ hs. set hs 0 none) free.home;
            holder = id;
            has = w;
            there = ((at_there s.views id v w at, live), refl);
            alone = views_stay (λ j u. u.turn ≡ true → (j ≡ id) × (u.seen ≡ r.log)) s.views id w (λ _. (refl, free.counted))
                (λ j u other is on. absurd (false≢true (sym (free.nobody j u is) ∙ on)));
          };
          seats = sees caller s.views r.log id v true (calls x) (at, live) (subst (λ l. IsPrefix l r.log) (sym free.counted) (prefix_self r.log)) r.seats;
        },
        (
          (λ _. record {
            value = x;
            carries = ap (λ c. (0, Some x) ∷ c) empty;
            knows = refl;
            begins = subst (λ l. IsPrefix v.seen l) (sym free.counted) known.begins;
            own = ap (λ l. calls_of caller v.number l) free.counted ∙ sym known.own;
            meant = meant x free.same;
          }),
          (λ taken. absurd (taken (ap (λ ws. get_or ws 0 0) free.words))),
        ),
      )

  -- another seat has the turn, and nothing changes
  loses : (id : ℕ) (me : Sat T C) (says : T → Type 0) (s : St) (r : Rule s) → IsHeld calls fixed first s r.log → get_elem? s.views id ≡ some me.0 → Claims id me says s
  loses id me says s r held at =
      let same_words : set s.words 0 (taking (word s)) ≡ s.words = ap (λ ws. set ws 0 (taking (get_or ws 0 0))) held.words ∙ sym held.words in
      let same_views : set s.views id me.0 ≡ s.views = set_again s.views id me.0 at in (
        me.0,
        keeps,
        tt,
        subst (λ (z : List ℕ × List (Knowledge C)). Rule record { words = z.0; homes = s.homes; views = z.1 }) (λ i. (sym same_words i, sym same_views i)) r,
        ((λ found. absurd (one_not_zero (word s) (ap (λ ws. get_or ws 0 0) held.words) found)), λ _. refl),
      )

  pub claims : (slots id : ℕ) (me : Sat T C) (says : T → Type 0) → me.0.spent ≡ false → me.1 ≡ [] → ((x : T) → fixed x ≡ fixed first → says x)
      → Allows Rule slots id me 0 (λ n. either (eqb n 0) 1 n) (claimed calls caller says (step slots 0 0 1 none) me)
  claims slots id me says live empty meant s r _ at _ = ⊎_elim (λ free. wins id me says s r free live empty meant at) (λ held. loses id me says s r held at) r.turn
