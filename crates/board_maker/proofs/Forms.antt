-- Each made step is formed
use Rattle.std.proofs.Common.{ℕ, zero, suc, ◌+◌, ◌*◌, ◌/◌, ◌%◌, ◌<◌, ◌≤◌, ◌^◌, Bool, true, false, [], ◌∷◌, map, arith}
use Rattle.std.specs.Prelude.{nat_lt, ◌==◌, if◌then◌else◌}
use Rattle.std.specs.List.{AllByRecursion, range_with_len}
use Rattle.row_lists.specs.Limits.{client_limit}
use Rattle.board_items.specs.Formed.{IsFormed}
use Rattle.board_items.specs.declared.requests.Request.TheVariants as requests
use Rattle.session_wire.specs.Steps.{IsStep}
use Rattle.board_maker.specs.declared.draws.Pick.{Pick}
use Rattle.board_maker.specs.Draws.{pick}
use Rattle.board_maker.specs.Scripts.{made_net_limit, wire_of, via_of, made_step, made_steps}

-- a place on the board, and one of two layers
pub record IsPick (p : Pick) : Type 0 where
  pub x : p.x ≤ 49000000
  pub y : p.y ≤ 49900000
  pub layer : p.layer < 2

pub each_pick : (number i : ℕ) → IsPick (pick number i)
each_pick number i = record { x = grind arith; y = grind arith; layer = grind arith }

by_kind : (wires vias : Bool) (net i : ℕ) (p : Pick) → net < 2 ^ 32 → 1 + i / 2 < 2 ^ 32 → IsPick p → IsFormed (if wires then requests.Edit [] (wire_of net p ∷ []) else (if vias then requests.Edit [] (via_of net p ∷ []) else requests.Edit ((1 + i / 2) ∷ []) []))
by_kind true vias net i p n d is =
    record {
      deletes_fit = omega arith;
      numbers_fit = tt;
      adds_fit = omega arith;
      formed = (
        record {
          net_fits = n;
          layer_fits = omega (arith, is.layer);
          some_width = omega arith;
          width_fits = omega arith;
          two_points = omega arith;
          points_fit = omega arith;
          in_range = (record { x = omega (arith, is.x); y = omega (arith, is.y) }, (record { x = omega (arith, is.x); y = omega (arith, is.y) }, tt));
        },
        tt,
      );
    }
by_kind false true net i p n d is =
    record {
      deletes_fit = omega arith;
      numbers_fit = tt;
      adds_fit = omega arith;
      formed = (record { net_fits = n; padstack_fits = omega arith; in_range = record { x = omega (arith, is.x); y = omega (arith, is.y) } }, tt);
    }
by_kind false false net i p n d is =
    record { deletes_fit = omega arith; numbers_fit = (d, tt); adds_fit = omega arith; formed = tt }

formed_step : (nets number i : ℕ) → nets ≤ made_net_limit → i < 4 * nets → IsStep (made_step nets number i)
formed_step nets number i few low =
    let p = pick number i in
    let net : i % nets < 2 ^ 32 = grind arith in
    let id : 1 + i / 2 < 2 ^ 32 = grind arith in
    let most : 1 + i % 4 ≤ client_limit = grind arith in
    (omega arith, most, by_kind (nat_lt p.kind 6) (p.kind == 6) (i % nets) i p net id (each_pick number i))

formed_steps : (nets number k n : ℕ) → nets ≤ made_net_limit → k + n ≤ 4 * nets → AllByRecursion IsStep (map (made_step nets number) (range_with_len k n))
formed_steps nets number k zero few low = tt
formed_steps nets number k (suc n) few low = (formed_step nets number k few (omega arith), formed_steps nets number (k + 1) n few (omega arith))

pub each_step : (nets number : ℕ) → nets ≤ made_net_limit → AllByRecursion IsStep (made_steps nets number)
each_step nets number few = formed_steps nets number 0 (4 * nets) few (omega arith)
