-- What a list between classes states, read from left to right.
-- Models: the class_class and classes descriptors of the SPECCTRA reference. Left out: layer rules, and the widths of rules.
use Rattle.std.specs.Prelude.{ℕ, ◌==◌, not, List, [], codes, length, Ok, if◌then◌else◌}
use Rattle.sexp_text.specs.Forest.{Forest}
use Rattle.sexp_text.specs.declared.units.Unit.{Unit as LengthUnit}
use Rattle.dsn_lists.specs.declared.faults.DesignKind.TheVariants as kind
use Rattle.dsn_lists.specs.declared.marks.Mark.{Mark}
use Rattle.dsn_lists.specs.Results.{Read, ◌>>=◌, wrong, each}
use Rattle.dsn_lists.specs.Words.{Heading, same, head_of, word_of, name_list}
use Rattle.dsn_lists.specs.Rules.{clearances_of}
use Rattle.dsn_network.specs.declared.pairs.ClassPairs.{ClassPairs}
use Rattle.dsn_network.specs.declared.pairs.PairWord.{PairWord}
use Rattle.dsn_network.specs.declared.pairs.PairWord.TheVariants as pairs

-- the names of a list that has two or more
unfoldable pub two_names : ℕ → Forest → Read (List Mark)
two_names at f = do
  w ← word_of at f
  _ ← word_of at w.1
  name_list at f

-- the names of `(classes <class> <class> ..)`, which stands once
unfoldable pub names_once : ClassPairs → ℕ → Forest → Read ClassPairs
names_once p at f = if not (length p.names == 0) then wrong kind.Form at else (two_names at f >>= λ ms. Ok (record p { names = ms }))

-- the same with the clearances of one more rule
abbrev pub with_clearances : LengthUnit → ClassPairs → Forest → Read ClassPairs
with_clearances u p f = clearances_of u p.stated f >>= λ ss. Ok (record p { stated = ss })

unfoldable pub pair_word : List ℕ → PairWord
pair_word text =
    if same text (codes "classes") then pairs.Names else
    if same text (codes "rule") then pairs.Rules else pairs.Other

abbrev pub pair_list : LengthUnit → ClassPairs → ℕ → Heading → PairWord → Read ClassPairs
pair_list u p at h pairs.Names = names_once p at h.args
pair_list u p at h pairs.Rules = with_clearances u p h.args
pair_list u p at h pairs.Other = Ok p

unfoldable pub pair_item : LengthUnit → ClassPairs → ℕ → Forest → Read ClassPairs
pair_item u p at inside = pair_list u p at (head_of inside) (pair_word (head_of inside).text)

-- no names, and nothing stated
abbrev pub no_pairs : ClassPairs
no_pairs = record { names = []; stated = [] }

-- what is stated, unless no classes are named
abbrev pub unless_nameless : ℕ → ClassPairs → Read ClassPairs
unless_nameless at p = if length p.names == 0 then wrong kind.Missing at else Ok p

-- `(class_class (classes <class> <class> ..) (rule ..) ..)`
unfoldable pub pairs_of : LengthUnit → ℕ → Forest → Read ClassPairs
pairs_of u at f = each (pair_item u) no_pairs f >>= λ p. unless_nameless at p
