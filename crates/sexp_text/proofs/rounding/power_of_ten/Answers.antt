use Rattle.std.proofs.Common.{◌^◌, ◌≤◌, arith}
use Rattle.std.proofs.Math.Nat.{one-le-pow}
use Rattle.sexp_text.proofs.Roundings.{room_of}
use Rattle.sexp_text.proofs.rounding.power_of_ten.Goals as goal

pub pow-requires : goal.pow-requires
pow-requires c = let top : 10 ^ c.args.places ≤ 10 ^ 37 = room_of c.args.places 37 (omega arith) in omega arith

pub returns-clause-some : goal.returns-clause-some
returns-clause-some c = omega (arith, one-le-pow c.args.places 10 (omega arith))

pub returns-clause-bound : goal.returns-clause-bound
returns-clause-bound c = let top : 10 ^ c.args.places ≤ 10 ^ 37 = room_of c.args.places 37 (omega arith) in omega arith
