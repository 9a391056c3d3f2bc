-- What the seats know where one of them steps: the first view, the list and the turn.
use Rattle.std.proofs.Common.{◌≡◌, ◌≢◌, ◌⊎◌, ℕ, ◌≤◌, List, [], ◌∷◌, ◌++◌, set, sym, refl, ap, ◌∙◌, subst, ⊎_elim, inl, inr, Bool, true, false, Option}
use Rattle.std.proofs.lemmas.Bool.{false≢true}
use mathlib.Core.Option.{some}
use mathlib.Core.List.{IsPrefix}
use mathlib.Core.Logic.{dite}
use native.Mathlib.Decide.{ℕ_discrete}
use lib.ListN.{get_elem?}
use Rattle.atomic_table.specs.Table.{State}
use Rattle.atomic_table.proofs.Lists.{set_else}
use Rattle.turn_lock.specs.declared.knowledge.Ended.{Ended}
use Rattle.turn_lock.specs.declared.knowledge.Knowledge.{Knowledge}
use Rattle.turn_lock.specs.Remembering.{IsView, Knows, HasEnded, Leads, Remembers}
use Rattle.turn_lock.specs.Standing.{IsFree, IsHeld}
use Rattle.turn_lock.proofs.Lists.{at_there, all_weaker, all_and, calls_with_own, calls_with_other, prefix_self, prefix_more}
use Rattle.turn_lock.proofs.Views.{one_view, views_stay, apart_still}

pub only_false : (b : Bool) → (b ≡ true → ⊥) → b ≡ false
only_false true no_way = absurd (no_way refl)
only_false false no_way = refl

module _ {C : Type 0} where
  -- a view with number 0 is the first one
  pub is_lead : (vs : List (Knowledge C)) (splits : ℕ) (ended : List (Ended C)) (id : ℕ) (v : Knowledge C) → Leads vs splits ended
      → ((i j : ℕ) (a b : Knowledge C) → IsView vs i a → IsView vs j b → a.number ≡ b.number → i ≡ j) → IsView vs id v → v.number ≡ 0
      → (id ≡ 0) × (v.splits ≡ splits) × (v.ended ≡ ended)
  is_lead vs splits ended id v f apart at lead =
      let here : id ≡ 0 = apart id 0 v f.lead at f.there (lead ∙ sym f.zero_is) in
      let same : v ≡ f.lead = one_view vs 0 v f.lead (subst (λ j. get_elem? vs j ≡ some v) here at.0, at.1) f.there in
      (here, ap (λ (u : Knowledge C). u.splits) same ∙ f.splits_is, ap (λ (u : Knowledge C). u.ended) same ∙ f.ended_is)

  -- the first view stays where a view changes and keeps its number, its splits and what has ended
  pub lead_stays : (vs : List (Knowledge C)) (splits : ℕ) (ended : List (Ended C)) (id : ℕ) (v w : Knowledge C) → IsView vs id v → w.spent ≡ false → w.number ≡ v.number → w.splits ≡ v.splits
      → w.ended ≡ v.ended → Leads vs splits ended → Leads (set vs id w) splits ended
  lead_stays vs splits ended id v w at live number_is splits_is ended_is f = dite (ℕ_discrete 0 id)
      (λ here. let same : v ≡ f.lead = one_view vs 0 v f.lead (subst (λ j. get_elem? vs j ≡ some v) (sym here) at.0, at.1) f.there in record {
        lead = w;
        there = (subst (λ j. get_elem? (set vs id w) j ≡ some w) (sym here) (at_there vs id v w at.0), live);
        zero_is = number_is ∙ (ap (λ (u : Knowledge C). u.number) same ∙ f.zero_is);
        splits_is = splits_is ∙ (ap (λ (u : Knowledge C). u.splits) same ∙ f.splits_is);
        ended_is = ended_is ∙ (ap (λ (u : Knowledge C). u.ended) same ∙ f.ended_is);
      })
      (λ other. record { lead = f.lead; there = (set_else vs id 0 w other ∙ f.there.0, f.there.1); zero_is = f.zero_is; splits_is = f.splits_is; ended_is = f.ended_is })

module _ {C : Type 0} (caller : C → ℕ) where
  -- a seat sees more of the list, or has the turn or not, and nothing else changes
  pub sees : (vs : List (Knowledge C)) (log : List C) (id : ℕ) (v : Knowledge C) (turn : Bool) (seen : List C) → IsView vs id v → IsPrefix seen log → Remembers caller vs log
      → Remembers caller (set vs id (record v { turn = turn; seen = seen })) log
  sees vs log id v turn seen at begins r = let w : Knowledge C = record v { turn = turn; seen = seen } in let known = r.each id v at in record {
    splits = r.splits;
    ended = r.ended;
    first = lead_stays vs r.splits r.ended id v w at at.1 refl refl refl r.first;
    each = views_stay (λ j u. Knows caller log r.splits u) vs id w (record { begins = begins; made = known.made; own = known.own }) (λ j u _ is. r.each j u is);
    apart = apart_still vs id v w at refl r.apart;
    over = all_weaker (HasEnded caller vs log r.splits) (HasEnded caller (set vs id w) log r.splits) r.ended
        (λ e h. record { made = h.made; begins = h.begins; own = h.own; gone = views_stay (λ j u. u.number ≢ e.number) vs id w (h.gone id v at) (λ j u _ is. h.gone j u is) }) r.over;
    once = r.once;
    named = r.named;
  }

  -- one call more stands in the list, and is that of the seat that has seen it all
  pub calls_more : (vs : List (Knowledge C)) (log : List C) (id : ℕ) (v : Knowledge C) (call : C) → IsView vs id v → caller call ≡ v.number → Remembers caller vs log
      → Remembers caller (set vs id (record v { seen = log ++ call ∷ []; own = v.own ++ call ∷ [] })) (log ++ call ∷ [])
  calls_more vs log id v call at by r = let more = log ++ call ∷ [] in let w : Knowledge C = record v { seen = more; own = v.own ++ call ∷ [] } in let known = r.each id v at in record {
    splits = r.splits;
    ended = r.ended;
    first = lead_stays vs r.splits r.ended id v w at at.1 refl refl refl r.first;
    each = views_stay (λ j u. Knows caller more r.splits u) vs id w
        (record { begins = prefix_self more; made = known.made; own = ap (λ xs. xs ++ call ∷ []) known.own ∙ sym (calls_with_own caller v.number log call by) })
        (λ j u other is. let k = r.each j u is in record {
          begins = prefix_more u.seen log (call ∷ []) k.begins;
          made = k.made;
          own = k.own ∙ sym (calls_with_other caller u.number log call (λ e. other (r.apart j id u v is at (sym e ∙ by))));
        });
    apart = apart_still vs id v w at refl r.apart;
    over = all_weaker (HasEnded caller vs log r.splits) (HasEnded caller (set vs id w) more r.splits) r.ended
        (λ e h. record {
          made = h.made;
          begins = prefix_more e.seen log (call ∷ []) h.begins;
          own = h.own ∙ sym (calls_with_other caller e.number log call (λ same. h.gone id v at (sym by ∙ same)));
          gone = views_stay (λ j u. u.number ≢ e.number) vs id w (h.gone id v at) (λ j u _ is. h.gone j u is);
        }) r.over;
    once = r.once;
    named = all_and (λ c. caller c ≤ r.splits) log call r.named (subst (λ (n : ℕ). n ≤ r.splits) (sym by) known.made);
  }

module _ {T C F : Type 0} (calls : T → List C) (fixed : T → F) (first : T) where
  -- the turn and the slot are as they were where the same views have the turn
  pub turn_stays : (s : State (Option T) (Knowledge C)) (log : List C) (vs : List (Knowledge C))
      → ((j : ℕ) (u : Knowledge C) → IsView vs j u → u.turn ≡ true → IsView s.views j u)
      → ((j : ℕ) (u : Knowledge C) → IsView s.views j u → u.turn ≡ true → IsView vs j u)
      → IsFree calls fixed first s log ⊎ IsHeld calls fixed first s log
      → IsFree calls fixed first (record s { views = vs }) log ⊎ IsHeld calls fixed first (record s { views = vs }) log
  turn_stays s log vs back on is = ⊎_elim
      (λ (free : IsFree calls fixed first s log). inl record {
        words = free.words;
        value = free.value;
        home = free.home;
        counted = free.counted;
        same = free.same;
        nobody = λ j u here. only_false u.turn (λ yes. false≢true (sym (free.nobody j u (back j u here yes)) ∙ yes));
      })
      (λ (held : IsHeld calls fixed first s log). inr record {
        words = held.words;
        away = held.away;
        holder = held.holder;
        has = held.has;
        there = (on held.holder held.has held.there.0 held.there.1, held.there.1);
        alone = λ j u here yes. held.alone j u (back j u here yes) yes;
      }) is
