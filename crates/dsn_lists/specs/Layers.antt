-- Layers named by a word.
use Rattle.std.specs.Prelude.{ℕ, Bool, ◌||◌, List, codes, Option, Some, None, Ok, if◌then◌else◌}
use Rattle.dsn_lists.specs.declared.faults.DesignKind.TheVariants as kind
use Rattle.dsn_lists.specs.declared.marks.Mark.{Mark}
use Rattle.dsn_lists.specs.Results.{Read, wrong}
use Rattle.dsn_lists.specs.Names.{place_of}
use Rattle.dsn_lists.specs.Words.{same}

-- the word stands for every layer
unfoldable pub is_every : List ℕ → Bool
is_every text = same text (codes "signal") || same text (codes "pcb")

abbrev pub one_of : ℕ → Option ℕ → Read ℕ
one_of at (Some n) = Ok n
one_of at None = wrong kind.Layer at

-- the number of the one layer that a word names
unfoldable pub one_layer : List (List ℕ) → Mark → Read ℕ
one_layer layers w = one_of w.at (place_of layers w.name)

abbrev pub some_of : Mark → Option ℕ → Read (Option ℕ)
some_of w (Some n) = Ok (Some n)
some_of w None = if is_every w.name then Ok None else wrong kind.Layer w.at

-- the number of the layer that a word names, or none where it stands for every layer
unfoldable pub some_layer : List (List ℕ) → Mark → Read (Option ℕ)
some_layer layers w = some_of w (place_of layers w.name)
