-- What lists add to a structure, one after another.
use Rattle.std.proofs.Common.{◌≡◌, ℕ, List, [], ◌∷◌, ◌++◌, map, Option, Some, sym, ap, ◌∙◌, append_assoc}
use Rattle.std.proofs.lemmas.List.{append-nil, map-append}
use Rattle.sexp_text.specs.declared.units.Unit.{Unit as LengthUnit}
use Rattle.seg_geometry.specs.declared.points.Pt.{Pt}
use Rattle.board_items.specs.declared.items.Item.{Item}
use Rattle.dsn_lists.specs.declared.marks.Mark.{Mark}
use Rattle.dsn_lists.specs.declared.rules.Rule.{Rule}
use Rattle.dsn_lists.specs.Lists.{last_of}
use Rattle.dsn_lists.specs.Statements.{Claim}
use Rattle.dsn_lists.proofs.UnitLaws.{last-append}
use Rattle.dsn_lists.proofs.RuleListLaws.{rule_by, rule_same, rule_more}
use Rattle.dsn_shapes.specs.declared.quotas.Quota.{Quota}
use Rattle.dsn_structure.specs.declared.flips.FlipStyle.{FlipStyle}
use Rattle.dsn_structure.specs.declared.structure.Structure.{Structure}
use Rattle.dsn_structure.proofs.TakenLaws.{taken, taken_none, taken_more}

-- ---- what lists add to a structure

-- layers, via lists, widths, statements, flip styles, outline areas and keepouts
pub record Added : Type 0 where
  pub layers : List (List ℕ)
  pub vias : List (List Mark)
  pub widths : List (Option (List ℕ))
  pub claims : List Claim
  pub flips : List FlipStyle
  pub areas : List (List Pt)
  pub keeps : List Item

abbrev pub nothing : Added
nothing = record { layers = []; vias = []; widths = []; claims = []; flips = []; areas = []; keeps = [] }

abbrev pub both : Added → Added → Added
both a b = record {
  layers = a.layers ++ b.layers;
  vias = a.vias ++ b.vias;
  widths = a.widths ++ b.widths;
  claims = a.claims ++ b.claims;
  flips = a.flips ++ b.flips;
  areas = a.areas ++ b.areas;
  keeps = a.keeps ++ b.keeps;
}

-- the last of these, else the one that is there
abbrev last_flip : Option FlipStyle → List FlipStyle → Option FlipStyle
last_flip o fs = last_of o (map Some fs)

-- the structure with this behind it
abbrev pub adding : LengthUnit → Structure → Added → Structure
adding u s a = record {
  layers = s.layers ++ a.layers;
  vias = s.vias ++ a.vias;
  rule = rule_by u s.rule a.widths a.claims;
  flip = last_flip s.flip a.flips;
  outline = s.outline ++ a.areas;
  keeps = s.keeps ++ a.keeps;
  quota = taken s.quota a.keeps;
}

pub adding_more : (u : LengthUnit) (s : Structure) (a b : Added) → adding u (adding u s a) b ≡ adding u s (both a b)
adding_more u s a b = λ i. record {
  layers = append_assoc s.layers a.layers b.layers i;
  vias = append_assoc s.vias a.vias b.vias i;
  rule = rule_more u s.rule a.widths b.widths a.claims b.claims i;
  flip = (sym (last-append s.flip (map Some a.flips) (map Some b.flips)) ∙ ap (λ (os : List (Option FlipStyle)). last_of s.flip os) (sym (map-append Some a.flips b.flips))) i;
  outline = append_assoc s.outline a.areas b.areas i;
  keeps = append_assoc s.keeps a.keeps b.keeps i;
  quota = taken_more s.quota a.keeps b.keeps i;
}

-- ---- what one list adds

-- the structure, but for these fields, with nothing behind it
pub adding_none : (u : LengthUnit) (s : Structure) → s ≡ adding u s nothing
adding_none u s = λ i. record {
  layers = sym (append-nil s.layers) i;
  vias = sym (append-nil s.vias) i;
  rule = rule_same u s.rule i;
  flip = s.flip;
  outline = sym (append-nil s.outline) i;
  keeps = sym (append-nil s.keeps) i;
  quota = taken_none s.quota i;
}

pub adding_layer : (u : LengthUnit) (s : Structure) (n : List ℕ) (ls : List (List ℕ)) → ls ≡ n ∷ [] → record s { layers = s.layers ++ n ∷ [] } ≡ adding u s (record nothing { layers = ls })
adding_layer u s n ls e = λ i. record (adding_none u s i) { layers = s.layers ++ sym e i }

pub adding_vias : (u : LengthUnit) (s : Structure) (ms ns : List Mark) → ms ≡ ns → record s { vias = s.vias ++ ms ∷ [] } ≡ adding u s (record nothing { vias = ns ∷ [] })
adding_vias u s ms ns e = λ i. record (adding_none u s i) { vias = s.vias ++ e i ∷ [] }

pub adding_rule : (u : LengthUnit) (s : Structure) (r : Rule) (ws : List (Option (List ℕ))) (cs : List Claim) → r ≡ rule_by u s.rule ws cs → record s { rule = r } ≡ adding u s (record nothing { widths = ws; claims = cs })
adding_rule u s r ws cs e = λ i. record (adding_none u s i) { rule = e i }

pub adding_flip : (u : LengthUnit) (s : Structure) (f : FlipStyle) (fs : List FlipStyle) → fs ≡ f ∷ [] → record s { flip = Some f } ≡ adding u s (record nothing { flips = fs })
adding_flip u s f fs e = λ i. record (adding_none u s i) { flip = last_flip s.flip (sym e i) }

pub adding_areas : (u : LengthUnit) (s : Structure) (areas more : List (List Pt)) → areas ≡ s.outline ++ more → record s { outline = areas } ≡ adding u s (record nothing { areas = more })
adding_areas u s areas more e = λ i. record (adding_none u s i) { outline = e i }

pub adding_keep : (u : LengthUnit) (s : Structure) (item : Item) (left : Quota) (is : List Item) → is ≡ item ∷ [] → left ≡ taken s.quota is → record s { keeps = s.keeps ++ item ∷ []; quota = left } ≡ adding u s (record nothing { keeps = is })
adding_keep u s item left is e r = λ i. record (adding_none u s i) { keeps = s.keeps ++ sym e i; quota = r i }
