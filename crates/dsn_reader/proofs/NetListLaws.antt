-- The net that a list names is the one that is read, and its fault is the one that is told.
use Rattle.std.proofs.Common.{◌≡◌, ℕ, ◌≤◌, true, List, [], ◌∷◌, length, Some, Ok, Err, refl, sym, ap, subst, ◌∙◌, inl, inr, ◌⊎◌}
use Rattle.sexp_text.specs.Forest.{Forest, End, Word, Branch}
use Rattle.dsn_lists.specs.declared.faults.DesignFault.{DesignFault}
use Rattle.dsn_lists.specs.declared.faults.DesignKind.TheVariants as kind
use Rattle.dsn_lists.specs.Results.{Read, ◌>>=◌, each}
use Rattle.dsn_lists.specs.Words.{mark, word_of, spare_list, one_word}
use Rattle.dsn_lists.specs.Lists.{told}
use Rattle.dsn_lists.specs.ShortLists.{only_lists, HasStray}
use Rattle.dsn_lists.proofs.Firsts.{made, failed, ok_is, bind_ok, bind_err}
use Rattle.dsn_lists.proofs.ShortLaws.{spare_again, stray_again, spare_then, spare_value}
use Rattle.dsn_reader.specs.declared.ends.Ends.{Ends}
use Rattle.dsn_reader.specs.Wirings.{Netted, netted, net_number}
use Rattle.dsn_reader.specs.EndLists.{with_names, first_name, IsNet, IsNetTooMany, NetFault}
use Rattle.dsn_lists.proofs.Growing.{Grows}
use Rattle.dsn_reader.proofs.NetLaws.{number_found, number_again, number_fault, number_fault_again}

-- ---- `(net <id>)`

abbrev pub net_read : List (List ℕ) → Ends → ℕ → Forest → Read (Netted Ends)
net_read nets e at f = one_word at f >>= λ w. net_number nets w >>= λ n. made (netted n.nets (record e { net = Some n.it }))

pub net_found : (nets : List (List ℕ)) (e : Ends) (at : ℕ) (f : Forest) (y : Netted Ends) → length nets ≤ 100000 → net_read nets e at f ≡ Ok y
    → (y.nets ≡ with_names nets (first_name f)) × (length y.nets ≤ 100000) × ((n : ℕ) × IsNet y.nets f n × (y.it.net ≡ Some n)) × (y.it.fix ≡ e.fix)
unfolding one_word word_of
net_found nets e at End y few is = absurd cc
net_found nets e at (Branch a inside rest) y few is = absurd cc
net_found nets e at (Word a text rest) y few is =
    let w = bind_ok (each spare_list tt rest >>= λ _. made (mark a text)) (λ w. net_number nets w >>= λ n. made (netted n.nets (record e { net = Some n.it }))) y is in
    let s = spare_value rest (mark a text) w.0 w.1 in
    let read : (net_number nets (mark a text) >>= λ n. made (netted n.nets (record e { net = Some n.it }))) ≡ Ok y =
    ap (λ w. net_number nets w >>= λ n. made (netted n.nets (record e { net = Some n.it }))) s.1 ∙ w.2
    in
    let n = bind_ok (net_number nets (mark a text)) (λ n. made (netted n.nets (record e { net = Some n.it }))) y read in
    let k = number_found nets a text n.0 few n.1 in
    let same = ok_is (netted n.0.nets (record e { net = Some n.0.it })) y n.2 in
    let own : ((n.0.nets ≡ with_names nets (text ∷ [])) × (length n.0.nets ≤ 100000) × ((m : ℕ) × IsNet n.0.nets (Word a text rest) m × (Some n.0.it ≡ Some m)) × (e.fix ≡ e.fix)) = (k.0, k.2, (n.0.it, (s.0, k.1), refl), refl) in
    subst (λ (z : Netted Ends). (z.nets ≡ with_names nets (text ∷ [])) × (length z.nets ≤ 100000) × ((m : ℕ) × IsNet z.nets (Word a text rest) m × (z.it.net ≡ Some m)) × (z.it.fix ≡ e.fix)) same own

pub net_again : (nets final : List (List ℕ)) (e : Ends) (at : ℕ) (f : Forest) (n : ℕ) → Grows (with_names nets (first_name f)) final → length (with_names nets (first_name f)) ≤ 100000 → IsNet final f n
    → net_read nets e at f ≡ Ok (netted (with_names nets (first_name f)) (record e { net = Some n }))
unfolding one_word word_of
net_again nets final e at End n grows few h = absurd h
net_again nets final e at (Branch a inside rest) n grows few h = absurd h
net_again nets final e at (Word a text rest) n grows few h = rw (spare_again rest tt h.0, number_again nets final a text n grows few h.1) refl

abbrev NetWordFault : List (List ℕ) → ℕ → List ℕ → Forest → DesignFault → Type 0
NetWordFault nets a text rest e = HasStray rest e ⊎ ((only_lists rest ≡ true) × IsNetTooMany nets text × (e ≡ told kind.Large a))

pub net_fault : (nets : List (List ℕ)) (x : Ends) (at : ℕ) (f : Forest) (e : DesignFault) → net_read nets x at f ≡ Err e → NetFault nets at f e
unfolding one_word word_of
net_fault nets x at End e h = cc
net_fault nets x at (Branch a inside rest) e h = cc
net_fault nets x at (Word a text rest) e h =
    elim (bind_err (each spare_list tt rest >>= λ _. made (mark a text)) (λ w. net_number nets w >>= λ n. made (netted n.nets (record x { net = Some n.it }))) e h) [
      | inl here ↦ inl (spare_then rest (mark a text) e here)
      | inr later ↦
          let s = spare_value rest (mark a text) later.0 later.1 in
          let read : (net_number nets (mark a text) >>= λ n. made (netted n.nets (record x { net = Some n.it }))) ≡ Err e =
          ap (λ w. net_number nets w >>= λ n. made (netted n.nets (record x { net = Some n.it }))) s.1 ∙ later.2
          in
          elim (bind_err (net_number nets (mark a text)) (λ n. made (netted n.nets (record x { net = Some n.it }))) e read) [
            | inl full ↦ let k = number_fault nets a text e full in inr (s.0, k.0, k.1)
            | inr none ↦ absurd cc
          ]
    ]

pub net_fault_again : (nets : List (List ℕ)) (x : Ends) (at : ℕ) (f : Forest) (e : DesignFault) → NetFault nets at f e → net_read nets x at f ≡ Err e
unfolding one_word word_of
net_fault_again nets x at End e h = ap failed (sym h)
net_fault_again nets x at (Branch a inside rest) e h = ap failed (sym h)
net_fault_again nets x at (Word a text rest) e (inl stray) = rw (stray_again rest tt e stray) refl
net_fault_again nets x at (Word a text rest) e (inr full) = rw (spare_again rest tt full.0, number_fault_again nets a text e full.1 full.2) refl
