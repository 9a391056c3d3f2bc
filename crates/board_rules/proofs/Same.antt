-- Designs of equal parts are equal.
use Rattle.std.proofs.Common.{◌≡◌, ap, sym, ◌∙◌}
use Rattle.std.proofs.Props.{props}
use mathlib.Core.HLevel.{is_prop→PathP}
use Rattle.board_rules.specs.declared.design.Parts.{Parts}
use Rattle.board_rules.specs.declared.design.Design.{Design}
use Rattle.board_rules.specs.Designs.{IsSound}
use Rattle.board_rules.specs.Classes.{untyped_of}
use Rattle.board_rules.specs.Needs.{largest_stated}
use Rattle.board_rules.specs.PairTables.{pair_tables_of}
use Rattle.board_rules.specs.Tables.{tables_of}
use Rattle.board_rules.specs.OneProof.{IsSound-prop}

-- two designs of equal parts are equal
pub same_design : (d e : Design) → d.parts ≡ e.parts → d ≡ e
same_design d e same =
    let tables : d.tables ≡ e.tables = d.tabled ∙ (ap (λ (p : Parts). tables_of p.classes) same ∙ sym e.tabled) in
    let pairs : d.pairs ≡ e.pairs = d.paired ∙ (ap pair_tables_of same ∙ sym e.paired) in
    let start : d.start ≡ e.start = d.start_is ∙ (ap untyped_of same ∙ sym e.start_is) in
    let largest : d.largest ≡ e.largest = d.largest_is ∙ (ap largest_stated same ∙ sym e.largest_is) in
    λ i. record {
      parts = same i;
      tables = tables i;
      pairs = pairs i;
      start = start i;
      largest = largest i;
      sound = is_prop→PathP (λ j. IsSound (same j)) (λ j. IsSound-prop (same j)) d.sound e.sound i;
      tabled = is_prop→PathP (λ j. tables j ≡ tables_of (same j).classes) (λ j. Prim.hlevel props) d.tabled e.tabled i;
      paired = is_prop→PathP (λ j. pairs j ≡ pair_tables_of (same j)) (λ j. Prim.hlevel props) d.paired e.paired i;
      start_is = is_prop→PathP (λ j. start j ≡ untyped_of (same j)) (λ j. Prim.hlevel props) d.start_is e.start_is i;
      largest_is = is_prop→PathP (λ j. largest j ≡ largest_stated (same j)) (λ j. Prim.hlevel props) d.largest_is e.largest_is i;
    }
