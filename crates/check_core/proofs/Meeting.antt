-- The boundaries that deletes and adds meet, and the deletes that aren't live.
use Rattle.std.proofs.Common.{◌≡◌, ℕ, List, [], refl, subst, sym, inl, inr}
use Rattle.std.specs.Prelude.{◌⊎◌, ◌↔◌, Any}
use Rattle.std.specs.List.{Contains}
use Rattle.board_items.specs.declared.items.Item.{Item}
use Rattle.board_items.specs.declared.requests.Add.{Add}
use Rattle.board_rules.specs.declared.design.Parts.{Parts}
use Rattle.number_slots.specs.Slots.{IsThere}
use Rattle.board_core.specs.Boards.{Board}
use Rattle.board_core.specs.Verdicts.{IsMet, IsLate}
use Rattle.check_core.specs.Tries.{GrowsBy, IsMetByDelete, IsMetByAdd, IsLateDelete}
use Rattle.check_core.proofs.Growth.{grown_all}

module _ (p : Parts) (b : Board) (deletes : List ℕ) (adds : List Add) where
  met_of : (n : ℕ) → Any (λ (id : ℕ). IsMetByDelete p b id n) deletes ⊎ Any (λ (add : Add). IsMetByAdd p b add n) adds → IsMet p b deletes adds n
  met_of n (inl a) = record {
    fence = a.4.touched.boundary;
    fence_is = a.4.touched.boundary_is;
    touched = inl (a.0, a.1, a.2, a.3, record { item = a.4.item; item_is = a.4.item_is; touches = a.4.touched.touched });
  }
  met_of n (inr a) = record {
    fence = a.4.touched.boundary;
    fence_is = a.4.touched.boundary_is;
    touched = inr (a.0, a.1, a.2, a.3, record { right = a.4.right; touches = a.4.touched.touched });
  }

  of_met : (n : ℕ) → IsMet p b deletes adds n → Any (λ (id : ℕ). IsMetByDelete p b id n) deletes ⊎ Any (λ (add : Add). IsMetByAdd p b add n) adds
  of_met n m = elim m.touched [
    | inl a ↦ inl (a.0, a.1, a.2, a.3, record { item = a.4.item; item_is = a.4.item_is; touched = record { boundary = m.fence; boundary_is = m.fence_is; touched = a.4.touches } })
    | inr a ↦ inr (a.0, a.1, a.2, a.3, record { right = a.4.right; touched = record { boundary = m.fence; boundary_is = m.fence_is; touched = a.4.touches } })
  ]

  -- what came by deletes, and then by adds, in any order
  pub met_exact : (none some all sorted : List ℕ) → none ≡ [] → GrowsBy (λ n. Any (λ (id : ℕ). IsMetByDelete p b id n) deletes) none some → GrowsBy (λ n. Any (λ (add : Add). IsMetByAdd p b add n) adds) some all
      → ((n : ℕ) → Contains sorted n ↔ Contains all n) → (n : ℕ) → Contains sorted n ↔ IsMet p b deletes adds n
  met_exact none some all sorted e one two same n =
      let first = grown_all (λ n. Any (λ (id : ℕ). IsMetByDelete p b id n) deletes) none some e one n in (
        λ h. met_of n (elim ((two n).0 ((same n).0 h)) [ inl c ↦ inl (first.0 c) | inr s ↦ inr s ]),
        λ m. (same n).1 ((two n).1 (elim (of_met n m) [ inl a ↦ inl (first.1 a) | inr s ↦ inr s ])),
      )

late_of : (live : List (ℕ × Item)) (deletes : List ℕ) (n : ℕ) → Any (λ (id : ℕ). IsLateDelete live id n) deletes → IsLate live deletes n
late_of live deletes n a = record {
  listed = subst (λ (m : ℕ). Contains deletes m) (sym a.4.0) (a.0, a.2, a.3);
  gone = λ h. a.4.1 (subst (λ (m : ℕ). IsThere live m) a.4.0 h);
}

of_late : (live : List (ℕ × Item)) (deletes : List ℕ) (n : ℕ) → IsLate live deletes n → Any (λ (id : ℕ). IsLateDelete live id n) deletes
of_late live deletes n l = (l.listed.0, n, l.listed.1, l.listed.2, (refl, l.gone))

-- the deletes that aren't live, in any order
pub late_exact : (live : List (ℕ × Item)) (deletes all sorted : List ℕ) → GrowsBy (λ n. Any (λ (id : ℕ). IsLateDelete live id n) deletes) [] all → ((n : ℕ) → Contains sorted n ↔ Contains all n) → (n : ℕ) → Contains sorted n ↔ IsLate live deletes n
late_exact live deletes all sorted grown same n =
    let h = grown_all (λ n. Any (λ (id : ℕ). IsLateDelete live id n) deletes) [] all refl grown n in (
      λ c. late_of live deletes n (h.0 ((same n).0 c)),
      λ l. (same n).1 (h.1 (of_late live deletes n l)),
    )
