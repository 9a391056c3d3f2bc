-- The one spelling of replies and of the reasons in them: words with one space between them.
use Rattle.std.specs.Prelude.{ℕ, List, ◌++◌, codes}
use Rattle.board_items.specs.declared.history.Why.{Why}
use Rattle.board_items.specs.declared.history.Why.TheVariants as whys
use Rattle.board_items.specs.declared.history.Reply.{Reply}
use Rattle.board_items.specs.declared.history.Reply.TheVariants as replies
use Rattle.session_wire.specs.Numbers.{number_text}

-- a word and a number
abbrev pub one_text : List ℕ → ℕ → List ℕ
one_text word a = word ++ number_text a

-- a word and two numbers
abbrev pub two_text : List ℕ → ℕ → ℕ → List ℕ
two_text word a b = word ++ (number_text a ++ number_text b)

-- a reason: its word, and the adds, items, clients, layers, boundaries or classes that it names
abbrev pub why_text : Why → List ℕ
why_text whys.Empty = codes "empty"
why_text (whys.Net add) = one_text (codes "net") add
why_text (whys.Layer add) = one_text (codes "layer") add
why_text (whys.Narrow add) = one_text (codes "narrow") add
why_text (whys.Padstack add) = one_text (codes "padstack") add
why_text (whys.Range add) = one_text (codes "range") add
why_text (whys.Outside add) = one_text (codes "outside") add
why_text (whys.Own a b) = two_text (codes "own") a b
why_text (whys.Repeated id) = one_text (codes "repeated") id.0
why_text (whys.Missing id) = one_text (codes "missing") id.0
why_text (whys.Fixed id) = one_text (codes "fixed") id.0
why_text (whys.Reserved id client) = two_text (codes "reserved") id.0 client
why_text (whys.Protected fence) = one_text (codes "protected") fence
why_text (whys.Clash add id) = two_text (codes "clash") add id.0
why_text (whys.Unheld id) = one_text (codes "unheld") id.0
why_text whys.Area = codes "area"
why_text (whys.FenceLayer layer) = one_text (codes "fencelayer") layer
why_text (whys.Client client) = one_text (codes "client") client
why_text (whys.Overlap fence) = one_text (codes "overlap") fence
why_text (whys.Covers id) = one_text (codes "covers") id.0
why_text (whys.NoFence fence) = one_text (codes "nofence") fence
why_text (whys.NotOwner fence) = one_text (codes "notowner") fence
why_text (whys.NoClass class) = one_text (codes "noclass") class
why_text (whys.Unclean a b) = two_text (codes "unclean") a.0 b.0

abbrev pub reply_text : Reply → List ℕ
reply_text (replies.Done number) = one_text (codes "ok") number
reply_text (replies.No why) = codes "no " ++ why_text why
reply_text replies.Full = codes "full"
reply_text (replies.Left number) = one_text (codes "left") number
