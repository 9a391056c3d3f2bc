-- How a tree is read from tokens: the levels from the left, and the entries from the right.
use Rattle.std.specs.Prelude.{ℕ, ◌+◌, ◌-◌, ◌==◌, nat_lt, Bool, List, [], ◌∷◌, ◌++◌, length, Option, Some, None, Result, Ok, Err, if◌then◌else◌}
use Rattle.row_lists.specs.Limits.{nesting_limit_levels}
use Rattle.sexp_text.specs.Forest.{Forest}
use Rattle.sexp_text.specs.declared.fault.TextFault.{TextFault}
use Rattle.sexp_text.specs.declared.fault.TextFault.TheVariants as faults
use Rattle.sexp_text.specs.declared.token.Token.{Token}
use Rattle.sexp_text.specs.declared.token.TokenKind.{TokenKind}
use Rattle.sexp_text.specs.declared.token.TokenKind.TheVariants as kind
use Rattle.sexp_text.specs.declared.modes.Before.TheVariants.{Other}
use Rattle.sexp_text.specs.declared.modes.Mode.TheVariants as mode
use Rattle.sexp_text.specs.declared.cursor.TreeEntry.TheVariants as entries
use Rattle.sexp_text.specs.declared.builder.Builder.{Builder}
use Rattle.sexp_text.specs.Scan.{scan}
use Rattle.sexp_text.specs.Tree.{text_of}
use Rattle.sexp_text.specs.Shows.{grown}
pub use Rattle.sexp_text.specs.Results.{◌>>=◌}

-- how many lists are open behind a token
abbrev pub level_step : ℕ → TokenKind → ℕ → Result ℕ TextFault
level_step level kind.Word at = Ok level
level_step level kind.Left at = if nat_lt level nesting_limit_levels then Ok (level + 1) else Err (faults.Deep at)
level_step level kind.Right at = if level == 0 then Err (faults.Unopened at) else Ok (level - 1)

-- how many lists are open behind tokens, or the first bracket that is too many
unfoldable pub levels : ℕ → List Token → Result ℕ TextFault
levels level [] = Ok level
levels level (t ∷ ts) = level_step level t.kind t.start >>= λ next. levels next ts

-- how many entries stand behind the list that is being read
abbrev pub base : List ℕ → ℕ
base [] = 0
base (m ∷ marks) = m

-- whether nothing was read yet of the list that is being read
abbrev pub at_last : Builder → Bool
at_last b = length b.entries == base b.marks

-- a list begins here: how many entries stand behind it, and the marks of the lists around it
abbrev pub put_left : Builder → ℕ → List ℕ → Result Builder TextFault
put_left b at [] = Err (faults.Unclosed at)
put_left b at (m ∷ marks) = Ok (record b { entries = entries.List (m == base marks) at (length b.entries - m) ∷ b.entries; marks = marks })

-- a word before what was read
abbrev pub put_word : Builder → ℕ → List ℕ → Builder
put_word b at word = record b { pool = b.pool ++ word; entries = entries.Word (at_last b) at (length b.pool) (length b.pool + length word) ∷ b.entries }

-- a token before those that were read
abbrev pub put : TokenKind → ℕ → List ℕ → Builder → Result Builder TextFault
put kind.Word at word b = Ok (put_word b at word)
put kind.Right at word b = Ok (record b { marks = length b.entries ∷ b.marks })
put kind.Left at word b = put_left b at b.marks

-- what tokens build before what was read
unfoldable pub build : List ℕ → List Token → Builder → Result Builder TextFault
build text [] b = Ok b
build text (t ∷ ts) b = build text ts b >>= put t.kind t.start (text_of text t)

-- how many bytes tokens have, and 1 more for each of them
abbrev pub bulk : List Token → ℕ
bulk [] = 0
bulk (t ∷ ts) = (t.end - t.start) + 1 + bulk ts

-- how many bytes of words and how many entries there are
abbrev pub amount : Builder → ℕ
amount b = length b.pool + length b.entries

-- no token was read yet
abbrev pub nothing_read : Builder
nothing_read = record { pool = []; entries = []; marks = [] }

-- the forest of the entries
abbrev pub built_forest : Builder → Forest
built_forest b = grown (length b.entries) b.pool b.entries

-- no quote is at fault
abbrev pub no_quote : Option ℕ → Result ℕ TextFault
no_quote None = Ok 0
no_quote (Some at) = Err (faults.Quote at)

-- the forest of tokens whose brackets are none too many
abbrev pub tree_built : List ℕ → List Token → Result Forest TextFault
tree_built text ts = build text ts nothing_read >>= λ b. Ok (built_forest b)

-- the forest of tokens, and of a quote at fault behind them
abbrev pub planted : List ℕ → List Token → Option ℕ → Result Forest TextFault
planted text ts o = levels 0 ts >>= λ level. no_quote o >>= λ _. tree_built text ts

-- the forest of a text, or its first text fault
abbrev pub forest_of : List ℕ → Result Forest TextFault
forest_of text = planted text (scan [] (mode.Gap Other) 0 text).0 (scan [] (mode.Gap Other) 0 text).1
