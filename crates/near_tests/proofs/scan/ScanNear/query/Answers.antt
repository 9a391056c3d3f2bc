use Rattle.near_tests.proofs.scan.ScanNear.query.Goals as goal

pub returns : goal.returns
returns c = record {
  exact = λ id. (
    λ h. (c.in_ok-found.ensures id).0 ((c.rising.ensures.same id).0 h),
    λ a. (c.rising.ensures.same id).1 ((c.in_ok-found.ensures id).1 a),
  );
  rising = c.rising.ensures.rising;
}
