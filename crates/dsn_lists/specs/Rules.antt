-- The widths and clearances that rules state.
-- Models: the rule, width and clearance descriptors of the SPECCTRA reference, and its clearance types of two kinds.
use Rattle.std.specs.Prelude.{ℕ, suc, ◌==◌, Bool, true, false, List, [], ◌∷◌, ◌++◌, take, drop, codes, Option, Some, None, Ok, if◌then◌else◌}
use Rattle.std.specs.List.{position}
use Rattle.sexp_text.specs.Forest.{Forest, End, Word, Branch}
use Rattle.sexp_text.specs.declared.units.Unit.{Unit as LengthUnit}
use Rattle.board_rules.specs.declared.design.Kind.{Kind}
use Rattle.board_rules.specs.declared.design.Kind.TheVariants.{Wire, Via, Pin, Smd}
use Rattle.board_rules.specs.declared.design.What.{What}
use Rattle.board_rules.specs.declared.design.What.TheVariants.{Untyped, DefaultSmd, Pair}
use Rattle.board_rules.specs.declared.design.Stated.{Stated}
use Rattle.dsn_lists.specs.declared.rules.Rule.{Rule}
use Rattle.dsn_lists.specs.declared.rules.Typed.{Typed}
use Rattle.dsn_lists.specs.declared.rules.RuleWord.{RuleWord}
use Rattle.dsn_lists.specs.declared.rules.RuleWord.TheVariants as rules
use Rattle.dsn_lists.specs.Results.{Read, ◌>>=◌, each}
use Rattle.dsn_lists.specs.Words.{same, head_of, word_of, spare}
use Rattle.dsn_lists.specs.Keyed.{keyed}
use Rattle.dsn_lists.specs.Numbers.{width_word}

-- the kind of item that a word names
unfoldable pub kind_of : List ℕ → Option Kind
kind_of text =
    if same text (codes "wire") then Some Wire else
    if same text (codes "via") then Some Via else
    if same text (codes "pin") then Some Pin else
    if same text (codes "smd") then Some Smd else None

abbrev pub pair_of : Option Kind → Option Kind → Option What
pair_of (Some a) (Some b) = Some (Pair a b)
pair_of (Some a) None = None
pair_of None b = None

abbrev pub kinds_at : List ℕ → Option ℕ → Option What
kinds_at text None = None
kinds_at text (Some n) = pair_of (kind_of (take n text)) (kind_of (drop (suc n) text))

-- what a clearance type is stated for: `a_b` for two kinds, or `default_smd`; none for others
unfoldable pub what_of : List ℕ → Option What
what_of text = if same text (codes "default_smd") then Some DefaultSmd else kinds_at text (position (λ c. c == 95) text)

-- the value is stated for this too
abbrev pub stating : List Stated → ℕ → Option What → List Stated
stating ss value None = ss
stating ss value (Some what) = ss ++ record { what = what; value = value } ∷ []

-- the value is stated for what the words name, up to a list or the end; and what follows
unfoldable pub stated_for : List Stated → ℕ → Forest → List Stated × Forest
stated_for ss value End = (ss, End)
stated_for ss value (Word at text rest) = stated_for (stating ss value (what_of text)) value rest
stated_for ss value (Branch at inside rest) = (ss, Branch at inside rest)

-- `(type t ..)` of a clearance of this value
unfoldable pub type_list : List Stated → ℕ → ℕ → Forest → Read (List Stated)
type_list ss value at f = do
  w ← word_of at f
  _ ← spare (stated_for (stating ss value (what_of w.0.name)) value w.1).1
  Ok (stated_for (stating ss value (what_of w.0.name)) value w.1).0

unfoldable pub clearance_item : ℕ → Typed → ℕ → Forest → Read Typed
clearance_item value t at inside =
    if same (head_of inside).text (codes "type") then (type_list t.stated value at (head_of inside).args >>= λ ss. Ok (record { typed = true; stated = ss })) else Ok t

-- a clearance without a type is stated for all that has none
abbrev pub untyped_unless : Bool → List Stated → ℕ → List Stated
untyped_unless true ss value = ss
untyped_unless false ss value = ss ++ record { what = Untyped; value = value } ∷ []

-- `(clearance c (type t ..))`
unfoldable pub clearance_list : LengthUnit → List Stated → ℕ → Forest → Read (List Stated)
clearance_list u ss at f = do
  w ← word_of at f
  value ← width_word u w.0
  t ← each (clearance_item value) (record { typed = false; stated = ss }) w.1
  Ok (untyped_unless t.typed t.stated value)

-- `(width w)`
unfoldable pub width_list : LengthUnit → ℕ → Forest → Read ℕ
width_list u at f = do
  w ← word_of at f
  width ← width_word u w.0
  _ ← spare w.1
  Ok width

unfoldable pub rule_word : List ℕ → RuleWord
rule_word text =
    if same text (codes "width") then rules.Width else
    if same text (codes "clearance") then rules.Clearance else rules.Other

abbrev pub rule_list : LengthUnit → Rule → ℕ → Forest → RuleWord → Read Rule
rule_list u r at f rules.Width = width_list u at f >>= λ w. Ok (record { width = Some w; stated = r.stated })
rule_list u r at f rules.Clearance = clearance_list u r.stated at f >>= λ ss. Ok (record { width = r.width; stated = ss })
rule_list u r at f rules.Other = Ok r

unfoldable pub rule_item : LengthUnit → Rule → ℕ → Forest → Read Rule
rule_item u r at inside = rule_list u r at (head_of inside).args (rule_word (head_of inside).text)

-- the lists of a `rule`, behind what earlier rules stated
abbrev pub rule_of : LengthUnit → Rule → Forest → Read Rule
rule_of u r f = each (rule_item u) r f

abbrev pub no_rule : Rule
no_rule = record { width = None; stated = [] }

-- ---- rules of which clearances alone are read

unfoldable pub clearances_item : LengthUnit → List Stated → ℕ → Forest → Read (List Stated)
clearances_item u = keyed (codes "clearance") (clearance_list u)

-- the clearances of a `rule` whose other lists, `width` too, are read over; behind what earlier rules stated
abbrev pub clearances_of : LengthUnit → List Stated → Forest → Read (List Stated)
clearances_of u ss f = each (clearances_item u) ss f
