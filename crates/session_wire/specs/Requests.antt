-- The one spelling of requests: words with one space between them.
use Rattle.std.specs.Prelude.{ℕ, List, ◌∷◌, ◌++◌, codes}
use Rattle.seg_geometry.specs.declared.points.Pt.{Pt}
use Rattle.board_items.specs.declared.requests.Add.{Add}
use Rattle.board_items.specs.declared.requests.Request.{Request}
use Rattle.board_items.specs.declared.requests.Request.TheVariants as requests
use Rattle.session_wire.specs.Numbers.{number_text}
use Rattle.session_wire.specs.Points.{point_text}
use Rattle.session_wire.specs.Adds.{next_add_text}
use Rattle.session_wire.specs.Parts.{counted_text}

-- an edit: how many deletes and these, then how many adds and these
abbrev pub edit_text : List ℕ → List Add → List ℕ
edit_text deletes adds = codes "edit" ++ (counted_text number_text deletes ++ counted_text next_add_text adds)

-- a boundary: how many layers and these, how many points and these, how many clients and these
abbrev pub fence_text : List ℕ → List Pt → List ℕ → List ℕ
fence_text layers area clients =
    codes "fence" ++ (counted_text number_text layers ++ (counted_text point_text area ++ counted_text number_text clients))

abbrev pub request_text : Request → List ℕ
request_text (requests.Edit deletes adds) = edit_text deletes adds
request_text (requests.Reserve id) = codes "reserve" ++ number_text id.0
request_text (requests.Release id) = codes "release" ++ number_text id.0
request_text (requests.Fence layers area clients) = fence_text layers area clients
request_text (requests.Unfence fence) = codes "unfence" ++ number_text fence
request_text (requests.Entitle fence client) = codes "entitle" ++ (number_text fence ++ number_text client)
request_text (requests.Rule class clearance) = codes "rule" ++ (number_text class ++ number_text clearance)

-- a request behind a space
abbrev pub next_request_text : Request → List ℕ
next_request_text request = 32 ∷ request_text request
