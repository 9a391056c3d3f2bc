-- A split and a join keep the facts.
use Rattle.std.proofs.Common.{◌≡◌, ◌≢◌, ℕ, ◌+◌, ◌≤◌, List, [], ◌∷◌, ◌++◌, set, sym, refl, ap, ◌∙◌, subst, arith, true, false, Option, eqb, ne_eqb}
use Rattle.std.proofs.lemmas.Bool.{false≢true}
use Rattle.std.specs.List.{IsDistinct}
use Rattle.std.specs.Prelude.{map}
use mathlib.Core.List.{map-append}
use mathlib.Core.Option.{some}
use lib.ListN.{get_elem?}
use Rattle.atomic_table.specs.Table.{State, Splits, Joins}
use Rattle.atomic_table.proofs.Lists.{set_else, at_longer}
use Rattle.turn_lock.specs.declared.knowledge.Ended.{Ended}
use Rattle.turn_lock.specs.declared.knowledge.Knowledge.{Knowledge}
use Rattle.turn_lock.specs.Remembering.{IsView, Knows, HasEnded, Remembers}
use Rattle.turn_lock.specs.Standing.{Stands}
use Rattle.turn_lock.specs.Steps.{split_once, newcomer, ended_of, taken_in, gone}
use Rattle.turn_lock.proofs.Lists.{at_there, all_weaker, all_and, all_map, distinct_and, none_above, prefix_longer}
use Rattle.turn_lock.proofs.Views.{one_view, views_stay, views_come, views_join, apart_still, apart_come, apart_join}
use Rattle.turn_lock.proofs.Knowing.{is_lead, turn_stays}

module _ {C : Type 0} where
  -- a seat that has the turn is not one that hasn't
  not_idle : (vs : List (Knowledge C)) (id j : ℕ) (v u : Knowledge C) → IsView vs id v → v.turn ≡ false → IsView vs j u → u.turn ≡ true → j ≢ id
  not_idle vs id j v u is_v idle is_u on e =
      let same = one_view vs id v u is_v (subst (λ k. get_elem? vs k ≡ some u) e is_u.0, is_u.1) in
      false≢true (sym idle ∙ (ap (λ (x : Knowledge C). x.turn) same ∙ on))

module _ {C : Type 0} (caller : C → ℕ) where
  -- a further number is made
  splits_more : (vs : List (Knowledge C)) (log : List C) (id : ℕ) (v : Knowledge C) → IsView vs id v → v.number ≡ 0 → Remembers caller vs log
      → Remembers caller (set vs id (split_once v) ++ newcomer v ∷ []) log
  splits_more vs log id v at lead r =
      let w = split_once v in let n = newcomer v in let known = r.each id v at in let count = is_lead vs r.splits r.ended id v r.first r.apart at lead in let next : n.number ≡ r.splits + 1 = ap (λ (k : ℕ). k + 1) count.1 in
      let front : get_elem? (set vs id w) 0 ≡ some w = subst (λ j. get_elem? (set vs id w) j ≡ some w) count.0 (at_there vs id v w at.0) in
      let below : (j : ℕ) (u : Knowledge C) → IsView (set vs id w) j u → u.number ≤ r.splits =
      views_stay (λ j u. u.number ≤ r.splits) vs id w known.made (λ j u _ is. (r.each j u is).made) in record {
        splits = r.splits + 1;
        ended = r.ended;
        first = record { lead = w; there = (at_longer (set vs id w) (n ∷ []) 0 w front, at.1); zero_is = lead; splits_is = next; ended_is = count.2 };
        each = views_come (λ j u. Knows caller log (r.splits + 1) u) (set vs id w) n
            record { begins = known.begins; made = omega arith; own = sym (none_above caller r.splits n.number log (omega arith) r.named) }
            (views_stay (λ j u. Knows caller log (r.splits + 1) u) vs id w (let low = known.made in record { begins = known.begins; made = omega arith; own = known.own })
            (λ j u _ is. let k = r.each j u is in let low = k.made in record { begins = k.begins; made = omega arith; own = k.own }));
        apart = apart_come (set vs id w) n (λ j u is e. let low = below j u is in absurd (omega arith)) (apart_still vs id v w at refl r.apart);
        over = all_weaker (HasEnded caller vs log r.splits) (HasEnded caller (set vs id w ++ n ∷ []) log (r.splits + 1)) r.ended
            (λ e h. let low = h.made in record {
              made = omega arith;
              begins = h.begins;
              own = h.own;
              gone = views_come (λ j u. u.number ≢ e.number) (set vs id w) n (λ same. absurd (omega arith)) (views_stay (λ j u. u.number ≢ e.number) vs id w (h.gone id v at) (λ j u _ is. h.gone j u is));
            }) r.over;
        once = r.once;
        named = all_weaker (λ c. caller c ≤ r.splits) (λ c. caller c ≤ r.splits + 1) log (λ c low. omega arith) r.named;
      }

  -- a number has ended
  joins_more : (vs : List (Knowledge C)) (log : List C) (id other : ℕ) (v w : Knowledge C) → IsView vs id v → IsView vs other w → other ≢ id → v.number ≡ 0 → Remembers caller vs log
      → Remembers caller (set (set vs id (taken_in v w)) other gone) log
  joins_more vs log id other v w at at_other differ lead r =
      let b = taken_in v w in let known = r.each id v at in let known_other = r.each other w at_other in let count = is_lead vs r.splits r.ended id v r.first r.apart at lead in
      let all = r.ended ++ ended_of w ∷ [] in let views = set (set vs id b) other gone in record {
        splits = r.splits;
        ended = all;
        first = record {
          lead = b;
          there = (set_else (set vs id b) other 0 gone (λ e. differ (sym e ∙ sym count.0)) ∙ subst (λ j. get_elem? (set vs id b) j ≡ some b) count.0 (at_there vs id v b at.0), at.1);
          zero_is = lead;
          splits_is = count.1;
          ended_is = ap (λ es. es ++ ended_of w ∷ []) count.2;
        };
        each = views_join (λ j u. Knows caller log r.splits u) vs id other b gone refl
            record { begins = prefix_longer v.seen w.seen log known.begins known_other.begins; made = known.made; own = known.own } (λ j u _ _ is. r.each j u is);
        apart = apart_join vs id other v b gone refl at refl r.apart;
        over = all_and (HasEnded caller views log r.splits) r.ended (ended_of w)
            (all_weaker (HasEnded caller vs log r.splits) (HasEnded caller views log r.splits) r.ended
            (λ e h. record { made = h.made; begins = h.begins; own = h.own; gone = views_join (λ j u. u.number ≢ e.number) vs id other b gone refl (h.gone id v at) (λ j u _ _ is. h.gone j u is) }) r.over)
            record {
              made = known_other.made;
              begins = known_other.begins;
              own = known_other.own;
              gone = views_join (λ j u. u.number ≢ w.number) vs id other b gone refl (λ same. differ (sym (r.apart id other v w at at_other same)))
                  (λ j u _ not_other is same. not_other (r.apart j other u w is at_other same));
            };
        once = subst (IsDistinct eqb) (ap (λ ns. 0 ∷ ns) (sym (map-append (λ (e : Ended C). e.number) r.ended (ended_of w ∷ []))))
            (distinct_and (0 ∷ map (λ (e : Ended C). e.number) r.ended) w.number r.once (
              ne_eqb 0 w.number (λ zero_is. differ (sym (r.apart id other v w at at_other (lead ∙ zero_is)))),
              all_map (λ (e : Ended C). e.number) (λ n. eqb n w.number ≡ false) r.ended
                  (all_weaker (HasEnded caller vs log r.splits) (λ e. eqb e.number w.number ≡ false) r.ended (λ e h. ne_eqb e.number w.number (λ same. h.gone other w at_other (sym same))) r.over),
            ));
        named = r.named;
      }

module _ {T C F : Type 0} (calls : T → List C) (fixed : T → F) (first : T) (caller : C → ℕ) where
  abbrev Rule : State (Option T) (Knowledge C) → Type 0
  Rule = Stands calls fixed first caller

  pub splits : (id : ℕ) (v : Knowledge C) → v.spent ≡ false → v.turn ≡ false → v.number ≡ 0 → Splits Rule id v (split_once v) (newcomer v)
  splits id v live idle lead s r at = let w = split_once v in let n = newcomer v in record {
    log = r.log;
    turn = turn_stays calls fixed first s r.log (set s.views id w ++ n ∷ [])
        (views_come (λ j u. u.turn ≡ true → IsView s.views j u) (set s.views id w) n (λ on. absurd (false≢true on))
        (views_stay (λ j u. u.turn ≡ true → IsView s.views j u) s.views id w (λ on. absurd (false≢true (sym idle ∙ on))) (λ j u _ is _. is)))
        (λ j u is on. (at_longer (set s.views id w) (n ∷ []) j u (set_else s.views id j w (not_idle s.views id j v u (at, live) idle is on) ∙ is.0), is.1))
        r.turn;
    seats = splits_more caller s.views r.log id v (at, live) lead r.seats;
  }

  pub joins : (id other : ℕ) (v w : Knowledge C) → v.spent ≡ false → v.turn ≡ false → v.number ≡ 0 → w.spent ≡ false → w.turn ≡ false → Joins Rule id v other w (taken_in v w) gone
  joins id other v w live idle lead live_other idle_other s r at differ at_set =
      let b = taken_in v w in let at_other : get_elem? s.views other ≡ some w = sym (set_else s.views id other b differ) ∙ at_set in record {
        log = r.log;
        turn = turn_stays calls fixed first s r.log (set (set s.views id b) other gone)
            (views_join (λ j u. u.turn ≡ true → IsView s.views j u) s.views id other b gone refl (λ on. absurd (false≢true (sym idle ∙ on))) (λ j u _ _ is _. is))
            (λ j u is on. (
              set_else (set s.views id b) other j gone (not_idle s.views other j w u (at_other, live_other) idle_other is on)
                  ∙ (set_else s.views id j b (not_idle s.views id j v u (at, live) idle is on) ∙ is.0),
              is.1,
            ))
            r.turn;
        seats = joins_more caller s.views r.log id other v w (at, live) (at_other, live_other) differ lead r.seats;
      }
