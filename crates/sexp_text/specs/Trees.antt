-- What a tree in memory stands for, and its nodes.
-- Cited by: `read_tree`, the calls of `Tree`.
use Rattle.std.specs.Prelude.{◌≡◌, ℕ, ◌-◌, List, length, take, drop}
use Rattle.sexp_text.specs.Forest.{Forest}
use Rattle.sexp_text.specs.Shows.{grown}
use Rattle.sexp_text.specs.declared.tree.Tree.{Tree}
use Rattle.sexp_text.specs.declared.nodes.Node.{Node}
use Rattle.sexp_text.specs.declared.nodes.Node.TheVariants as nodes
use Rattle.sexp_text.specs.Nodes.{from, first_of, byte_of, text_first, IsWordFirst, IsListFirst}

-- the forest of a tree
abbrev pub tree_forest : Tree → Forest
tree_forest t = grown (length t.entries) t.pool t.entries

-- the n-th list or word of a tree, and what follows it in its list
abbrev pub node_at : Tree → ℕ → Forest
node_at t n = from n (tree_forest t)

-- the node of what begins with the n-th: a word at its byte, and where its text stands in the pool; or a list at its
-- byte, and the first within it
abbrev pub IsNode : List ℕ → ℕ → Forest → Node → Type 0
IsNode pool n f (nodes.Word at start end) = IsWordFirst f × (at ≡ byte_of f) × (take (end - start) (drop start pool) ≡ text_first f)
IsNode pool n f (nodes.List at first) = IsListFirst f × (at ≡ byte_of f) × (first ≡ first_of n f)
