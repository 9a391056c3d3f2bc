-- What rules say together is what is read.
use Rattle.std.proofs.Common.{◌≡◌, ℕ, List, [], ◌∷◌, ◌++◌, map, Option, Some, None, refl, sym, ap, ◌∙◌}
use Rattle.sexp_text.specs.Forest.{Forest, End, Word, Branch}
use Rattle.sexp_text.specs.declared.units.Unit.{Unit as LengthUnit}
use Rattle.board_rules.specs.declared.design.What.{What}
use Rattle.board_rules.specs.declared.design.Stated.{Stated}
use Rattle.dsn_lists.specs.declared.rules.Rule.{Rule}
use Rattle.dsn_lists.specs.declared.rules.RuleWord.{RuleWord}
use Rattle.dsn_lists.specs.declared.rules.RuleWord.TheVariants as rules
use Rattle.dsn_lists.specs.Words.{head_of}
use Rattle.dsn_lists.specs.Rules.{rule_word, no_rule}
use Rattle.dsn_lists.specs.Lists.{collect, last_of}
use Rattle.dsn_lists.specs.Measures.{StatesWidth, IsWidthList}
use Rattle.dsn_lists.specs.Statements.{IsClearance, Claim, claims_for, clearance_claims, IsOfRule, IsRule, width_text, width_stated, widths_in, claims_stated, claims_in, IsWidthOf, AreStated, Says}
use Rattle.dsn_lists.proofs.WidthWordLaws.{width_value, value_is}
use Rattle.dsn_lists.proofs.WidthLaws.{valued}
use Rattle.dsn_lists.proofs.StatementLaws.{claimed}
use Rattle.dsn_lists.proofs.RuleListLaws.{rule_by}

-- ---- what rules say together

-- each text states a width
abbrev pub AllWidths : LengthUnit → List (Option (List ℕ)) → Type 0
AllWidths u [] = Unit {0}
AllWidths u (None ∷ ws) = ⊥
AllWidths u (Some text ∷ ws) = StatesWidth u text × AllWidths u ws

abbrev pub AllClaims : LengthUnit → List Claim → Type 0
AllClaims u [] = Unit {0}
AllClaims u (c ∷ cs) = StatesWidth u c.size × AllClaims u cs

pub widths_join : (u : LengthUnit) (ws vs : List (Option (List ℕ))) → AllWidths u ws → AllWidths u vs → AllWidths u (ws ++ vs)
widths_join u [] vs p q = q
widths_join u (None ∷ ws) vs p q = absurd p
widths_join u (Some text ∷ ws) vs p q = (p.0, widths_join u ws vs p.1 q)

pub claims_join : (u : LengthUnit) (cs ds : List Claim) → AllClaims u cs → AllClaims u ds → AllClaims u (cs ++ ds)
claims_join u [] ds p q = q
claims_join u (c ∷ cs) ds p q = (p.0, claims_join u cs ds p.1 q)

claims_all : (u : LengthUnit) (text : List ℕ) (whats : List What) → StatesWidth u text → AllClaims u (claims_for text whats)
claims_all u text [] h = tt
claims_all u text (w ∷ ws) h = (h, claims_all u text ws h)

width_all : (u : LengthUnit) (f : Forest) → IsWidthList u f → AllWidths u (width_text f)
width_all u End h = tt
width_all u (Word a text rest) h = (h.0, tt)
width_all u (Branch a inside rest) h = tt

pub clearance_all : (u : LengthUnit) (f : Forest) → IsClearance u f → AllClaims u (clearance_claims f)
clearance_all u End h = tt
clearance_all u (Word a text rest) h = claims_all u text _ h.0
clearance_all u (Branch a inside rest) h = tt

one_all : (u : LengthUnit) (f : Forest) (k : RuleWord) → IsOfRule u k f → AllWidths u (width_stated k f) × AllClaims u (claims_stated k f)
one_all u f rules.Width h = (width_all u f h, tt)
one_all u f rules.Clearance h = (tt, clearance_all u f h)
one_all u f rules.Other h = (tt, tt)

pub rule_states : (u : LengthUnit) (f : Forest) → IsRule u f → AllWidths u (collect widths_in f) × AllClaims u (collect claims_in f)
rule_states u End h = (tt, tt)
rule_states u (Word at text rest) h = absurd h
rule_states u (Branch at inside rest) h =
    let one = one_all u (head_of inside).args (rule_word (head_of inside).text) h.0 in
    let more = rule_states u rest h.1 in
    (widths_join u (widths_in at inside) (collect widths_in rest) one.0 more.0, claims_join u (claims_in at inside) (collect claims_in rest) one.1 more.1)

last_width : (u : LengthUnit) (o : Option (List ℕ)) (w : Option ℕ) (ws : List (Option (List ℕ))) → IsWidthOf u o w → AllWidths u ws → IsWidthOf u (last_of o ws) (last_of w (map (valued u) ws))
last_width u o w [] h all = h
last_width u o w (None ∷ ws) h all = absurd all
last_width u o w (Some text ∷ ws) h all = last_width u (Some text) (Some (width_value u text)) ws (all.0.0, all.0.1, ap (λ (n : ℕ). Some n) (value_is u text all.0.0 all.0.1)) all.1

pub all_stated : (u : LengthUnit) (cs : List Claim) → AllClaims u cs → AreStated u cs (map (claimed u) cs)
all_stated u [] all = refl
all_stated u (c ∷ cs) all = (refl, rw (value_is u c.size all.0.0 all.0.1) all.0.1, all_stated u cs all.1)

-- rules whose texts state widths say what is read
pub says_found : (u : LengthUnit) (ws : List (Option (List ℕ))) (cs : List Claim) → AllWidths u ws → AllClaims u cs → Says u ws cs (rule_by u no_rule ws cs)
says_found u ws cs p q = record { width = last_width u None None ws refl p; stated = all_stated u cs q }

width_of_is : (u : LengthUnit) (o : Option (List ℕ)) (w : Option ℕ) → IsWidthOf u o w → w ≡ valued u o
width_of_is u None w h = h
width_of_is u (Some text) w h = h.2 ∙ ap (λ (n : ℕ). Some n) (sym (value_is u text h.0 h.1))

last_valued : (u : LengthUnit) (o : Option (List ℕ)) (ws : List (Option (List ℕ))) → valued u (last_of o ws) ≡ last_of (valued u o) (map (valued u) ws)
last_valued u o [] = refl
last_valued u o (w ∷ ws) = last_valued u w ws

pub stated_are : (u : LengthUnit) (cs : List Claim) (ss : List Stated) → AreStated u cs ss → ss ≡ map (claimed u) cs
stated_are u [] ss h = h
stated_are u (c ∷ cs) [] h = absurd h
stated_are u (c ∷ cs) (s ∷ ss) h =
    let value = value_is u c.size s.value h.1 in
    λ i. record { what = h.0 i; value = sym value i } ∷ stated_are u cs ss h.2 i

-- what rules say is only what is read
pub says_is : (u : LengthUnit) (ws : List (Option (List ℕ))) (cs : List Claim) (r : Rule) → Says u ws cs r → r ≡ rule_by u no_rule ws cs
says_is u ws cs r h =
    let width = width_of_is u (last_of None ws) r.width h.width ∙ last_valued u None ws in
    let stated = stated_are u cs r.stated h.stated in
    λ i. record { width = width i; stated = stated i }
