-- The steps that give the turn back and that count keep the facts, which hold at the start.
use Rattle.std.proofs.Common.{◌≡◌, ℕ, ◌+◌, ◌%◌, ◌^◌, ◌<◌, List, [], ◌∷◌, ◌++◌, length, set, get_or, sym, refl, ap, ◌∙◌, subst, ⊎_elim, inl, inr, arith, true, false, Option, Some, None, length-append}
use Rattle.std.proofs.lemmas.Bool.{false≢true}
use mathlib.Core.Option.{none, some}
use lib.ListN.{get_elem?}
use Rattle.atomic_table.specs.Table.{State, step, keeps, gives, opening, put_back, rest, Allows}
use Rattle.turn_lock.specs.declared.knowledge.Knowledge.{Knowledge}
use Rattle.turn_lock.specs.Remembering.{beginner, IsView, Knows, Remembers}
use Rattle.turn_lock.specs.Standing.{IsFree, IsHeld, Stands}
use Rattle.turn_lock.specs.Steps.{Sat, counted, yielded}
use Rattle.turn_lock.proofs.Lists.{distinct_one, at_there}
use Rattle.turn_lock.proofs.Views.{is_first, only_place, views_stay}
use Rattle.turn_lock.proofs.Knowing.{only_false, sees, calls_more}

no_wrap : (n m : ℕ) → m ≡ n + 1 → m < 2 ^ 64 → (n + 1) % 2 ^ 64 ≡ m
no_wrap n m e less = omega arith

module _ {T C F : Type 0} (calls : T → List C) (fixed : T → F) (first : T) (caller : C → ℕ) where
  abbrev St : Type 0
  St = State (Option T) (Knowledge C)

  abbrev Rule : St → Type 0
  Rule = Stands calls fixed first caller

  -- a seat that carries one slot carries it before nothing
  pub carries_slot : (m : Sat T C) (x : Option T) → m.1 ≡ (0, x) ∷ [] → m.1 ≡ (0, x) ∷ rest m.1
  carries_slot m x carries = carries ∙ ap (λ (c : List (ℕ × Option T)). (0, x) ∷ rest c) (sym carries)

  -- a seat with the turn finds it held, by itself
  finds_held : (id : ℕ) (v : Knowledge C) (s : St) (r : Rule s) → IsView s.views id v → v.turn ≡ true → IsHeld calls fixed first s r.log
  finds_held id v s r is on = ⊎_elim (λ (free : IsFree calls fixed first s r.log). absurd (false≢true (sym (free.nobody id v is) ∙ on))) (λ held. held) r.turn

  -- the seat has filled the slot again, and gives it back with the turn
  pub yields : (slots id : ℕ) (me : Sat T C) (x : T) → me.0.spent ≡ false → me.0.turn ≡ true → me.1 ≡ (0, Some x) ∷ [] → calls x ≡ me.0.seen → fixed x ≡ fixed first
      → Allows Rule slots id me 0 (λ _. 0) (yielded (step slots 0 0 0 none) me)
  yields slots id me x live on carries list same s r _ at _ =
      let v = me.0 in let w : Knowledge C = record v { turn = false } in let held = finds_held id v s r (at, live) on in let mine = held.alone id v (at, live) on in (
        w,
        gives,
        tt,
        record {
          log = r.log;
          turn = inl record {
            words = ap (λ ws. set ws 0 0) held.words;
            value = x;
            home = λ i. put_back (held.away i) (carries i);
            counted = list ∙ mine.1;
            same = same;
            nobody = views_stay (λ j u. u.turn ≡ false) s.views id w refl (λ j u other is. only_false u.turn (λ yes. other ((held.alone j u is yes).0 ∙ sym mine.0)));
          };
          seats = sees caller s.views r.log id v false v.seen (at, live) (r.seats.each id v (at, live)).begins r.seats;
        },
        (refl, refl),
      )

  -- the same for a seat that carried the slot empty before
  pub yields_filled : (slots id : ℕ) (m m' : Sat T C) (x : T) → m.0.spent ≡ false → m.0.turn ≡ true → m.1 ≡ (0, None) ∷ [] → m' ≡ (m.0, (0, Some x) ∷ rest m.1) → calls x ≡ m.0.seen
      → fixed x ≡ fixed first → Allows Rule slots id m' 0 (λ _. 0) (yielded (step slots 0 0 0 none) m')
  yields_filled slots id m m' x live on carries now list same = yields slots id m' x (ap (λ (n : Sat T C). n.0.spent) now ∙ live) (ap (λ (n : Sat T C). n.0.turn) now ∙ on)
      (ap (λ (n : Sat T C). n.1) now ∙ ap (λ (c : List (ℕ × Option T)). (0, Some x) ∷ rest c) carries) (list ∙ ap (λ (n : Sat T C). n.0.seen) (sym now)) same

  -- the seat with the turn counts one call more
  pub counts : (slots id : ℕ) (me : Sat T C) (says : T → Type 0) (x : T) (call : C) → me.0.spent ≡ false → me.0.turn ≡ true → calls x ≡ me.0.seen ++ call ∷ [] → caller call ≡ me.0.number
      → length (calls x) < 2 ^ 64 → says x → Allows Rule slots id me 1 (λ n. (n + 1) % 2 ^ 64) (counted calls says (step slots 1 1 0 none) me)
  counts slots id me says x call live on list by small meant s r _ at _ =
      let v = me.0 in let held = finds_held id v s r (at, live) on in let mine = held.alone id v (at, live) on in
      let more : List C = r.log ++ call ∷ [] in let whole : calls x ≡ more = list ∙ ap (λ l. l ++ call ∷ []) mine.1 in
      let w : Knowledge C = record v { seen = calls x; own = v.own ++ call ∷ [] } in
      let one_more : (length r.log + 1) % 2 ^ 64 ≡ length more = no_wrap (length r.log) (length more) (length-append r.log (call ∷ [])) (subst (λ (l : List C). length l < 2 ^ 64) whole small) in (
        w,
        keeps,
        tt,
        record {
          log = more;
          turn = inr record {
            words = ap (λ ws. set ws 1 ((get_or ws 1 0 + 1) % 2 ^ 64)) held.words ∙ ap (λ (n : ℕ). 1 ∷ n ∷ []) one_more;
            away = held.away;
            holder = held.holder;
            has = w;
            there = ((subst (λ (j : ℕ). get_elem? (set s.views id w) j ≡ some w) mine.0 (at_there s.views id v w at), live), on);
            alone = views_stay (λ j u. u.turn ≡ true → (j ≡ held.holder) × (u.seen ≡ more)) s.views id w (λ _. (mine.0, whole))
                (λ j u other is yes. absurd (other ((held.alone j u is yes).0 ∙ sym mine.0)));
          };
          seats = subst (λ (l : List C). Remembers caller (set s.views id (record v { seen = l; own = v.own ++ call ∷ [] })) more) (sym whole)
              (calls_more caller s.views r.log id v call (at, live) by r.seats);
        },
        record { value = x; call = call; list = list; knows = refl; meant = meant },
      )

  -- the facts at the start
  pub opens : calls first ≡ [] → Rule (opening (0 ∷ 0 ∷ []) (Some first ∷ []) beginner)
  opens none_yet = record {
    log = [];
    turn = inl record { words = refl; value = first; home = refl; counted = none_yet; same = refl; nobody = λ j v is. ap (λ (u : Knowledge C). u.turn) (is_first j v is) };
    seats = record {
      splits = 0;
      ended = [];
      first = record { lead = beginner; there = (refl, refl); zero_is = refl; splits_is = refl; ended_is = refl };
      each = λ j v is. subst (Knows caller [] 0) (sym (is_first j v is)) record { begins = ([], refl); made = omega arith; own = refl };
      apart = λ i j v w is_v is_w _. only_place i v is_v ∙ sym (only_place j w is_w);
      over = tt;
      once = distinct_one 0;
      named = tt;
    };
  }
