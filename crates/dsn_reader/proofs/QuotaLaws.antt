-- There is room for one more item exactly where one more is put.
use Rattle.std.proofs.Common.{◌≡◌, ℕ, List, [], ◌∷◌, ◌++◌, Option, Some, None, Ok, Err, refl, sym, ap, subst}
use Rattle.board_items.specs.declared.items.Item.{Item}
use Rattle.dsn_lists.specs.declared.faults.DesignFault.{DesignFault}
use Rattle.dsn_lists.specs.declared.faults.DesignKind.TheVariants as kind
use Rattle.dsn_lists.specs.Lists.{told}
use Rattle.dsn_lists.proofs.Firsts.{made, failed, ok_is}
use Rattle.dsn_shapes.specs.declared.quotas.Quota.{Quota}
use Rattle.dsn_shapes.specs.Quotas.{quota_for}
use Rattle.dsn_shapes.specs.QuotaLists.{IsTaken, NoQuota}
use Rattle.dsn_shapes.proofs.QuotaLaws.{quota_found, quota_again, quota_fault, quota_fault_again}
use Rattle.dsn_reader.specs.declared.wiring.Wiring.{Wiring}
use Rattle.dsn_reader.specs.Wirings.{with_item}

-- ---- quota

-- one more item of so many points behind wiring
pub record IsPut (w : Wiring) (item : Item) (points : ℕ) (v : Wiring) : Type 0 where
  pub items : v.items ≡ w.items ++ item ∷ []
  pub quota : IsTaken w.quota points v.quota

pub put_found : (at : ℕ) (w : Wiring) (item : Item) (n : ℕ) (v : Wiring) → with_item at w item (quota_for w.quota n) ≡ Ok v → IsPut w item n v
put_found at w item n v e = by (quota_for w.quota n) refl e
  where
    by : (o : Option Quota) → quota_for w.quota n ≡ o → with_item at w item o ≡ Ok v → IsPut w item n v
    by None is e = absurd cc
    by (Some left) is e =
        subst (IsPut w item n) (ok_is (record { items = w.items ++ item ∷ []; quota = left }) v e) (record { items = refl; quota = quota_found w.quota left n is })

pub put_again : (at : ℕ) (w : Wiring) (item : Item) (n : ℕ) (v : Wiring) → IsPut w item n v → with_item at w item (quota_for w.quota n) ≡ Ok v
put_again at w item n v h = rw (quota_again w.quota v.quota n h.quota) (ap (λ (xs : List Item). made (record { items = xs; quota = v.quota })) (sym h.items))

pub put_fault : (at : ℕ) (w : Wiring) (item : Item) (n : ℕ) (e : DesignFault) → with_item at w item (quota_for w.quota n) ≡ Err e → NoQuota w.quota n × (e ≡ told kind.Large at)
put_fault at w item n e h = by (quota_for w.quota n) refl h
  where
    by : (o : Option Quota) → quota_for w.quota n ≡ o → with_item at w item o ≡ Err e → NoQuota w.quota n × (e ≡ told kind.Large at)
    by None is h = (quota_fault w.quota n is, cc)
    by (Some left) is h = absurd cc

pub put_fault_again : (at : ℕ) (w : Wiring) (item : Item) (n : ℕ) (e : DesignFault) → NoQuota w.quota n → e ≡ told kind.Large at → with_item at w item (quota_for w.quota n) ≡ Err e
put_fault_again at w item n e full is = rw (quota_fault_again w.quota n full) (ap failed (sym is))
