use Rattle.std.proofs.lemmas.List.Filters.{dedup_is}
use Rattle.std.proofs.lemmas.List.Kept.{Contains-dedup_nat, Contains-from_dedup}
use Rattle.std.proofs.lemmas.List.Sorted.{Contains-permutation, IsPermutation-sym}
use Rattle.std.proofs.lemmas.Map.Keys.{IsStrictlyIncreasing-dedup}
use Rattle.near_slots.proofs.search.rising.Goals as goal

pub returns-clause-same : goal.returns-clause-same
returns-clause-same c =
    let is = dedup_is _ _ _ c.dedup.ensures.filtered in
    let moved = c.sort_unstable.ensures.permutation in
    rw (c.from_vec.ensures, is) (λ id. (
      λ h. Contains-permutation _ _ id (IsPermutation-sym _ _ moved) (Contains-from_dedup _ _ id h),
      λ h. Contains-dedup_nat _ id (Contains-permutation _ _ id moved h),
    ))

pub returns-clause-rising : goal.returns-clause-rising
returns-clause-rising c =
    let is = dedup_is _ _ _ c.dedup.ensures.filtered in
    rw (c.from_vec.ensures, is) (IsStrictlyIncreasing-dedup _ c.sort_unstable.ensures.sorted)
