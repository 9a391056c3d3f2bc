-- The requests about boundaries, behind their words.
use Rattle.std.proofs.Common.{◌≡◌, ℕ, List, ◌++◌, refl, arith}
use Rattle.std.specs.Prelude.{codes}
use Rattle.seg_geometry.specs.Points.{IsInRange}
use Rattle.seg_geometry.specs.declared.points.Pt.{Pt}
use Rattle.board_items.specs.declared.requests.Request.{Request}
use Rattle.board_items.specs.declared.requests.Request.TheVariants as requests
use Rattle.board_items.specs.Formed.{IsFormed, IsFormedFence}
use Rattle.row_lists.specs.Limits.{layer_limit, client_limit}
use Rattle.session_wire.specs.Words.{EndsWord}
use Rattle.session_wire.specs.Numbers.{number_text, IsId, IsSmall}
use Rattle.session_wire.specs.Points.{point_text}
use Rattle.session_wire.specs.Requests.{request_text, next_request_text}
use Rattle.session_wire.specs.Parts.{Then, Begins, AreCounted, CountedThen, counted_text, StopsAt}
use Rattle.session_wire.proofs.WordParts.{bytes_without}
use Rattle.session_wire.proofs.PointTexts.{ids, smalls, points}
use Rattle.session_wire.proofs.Things.{IsSpelling, all_counted}
use Rattle.session_wire.proofs.Pairs.{AreBoth, both_text, both_then, stops_at_first, stops_at_second, both}
use Rattle.session_wire.proofs.WordKinds.{IsMade, IsKind, kind_then, in_kind}
use Rattle.session_wire.proofs.RequestWords.{word_of, third, request_kind}

abbrev pub AreLayers : List ℕ → Type 0
AreLayers = AreCounted 1 layer_limit IsSmall

abbrev pub IsArea : List Pt → Type 0
IsArea = AreCounted 0 256 IsInRange

abbrev pub AreClients : List ℕ → Type 0
AreClients = AreCounted 0 client_limit IsSmall

abbrev pub smalls_text : List ℕ → List ℕ
smalls_text = counted_text number_text

abbrev pub area_text : List Pt → List ℕ
area_text = counted_text point_text

layers : IsSpelling AreLayers smalls_text
layers = all_counted smalls 1 layer_limit (omega arith) (omega arith)

area : IsSpelling IsArea area_text
area = all_counted points 0 256 (omega arith) (omega arith)

clients : IsSpelling AreClients smalls_text
clients = all_counted smalls 0 client_limit (omega arith) (omega arith)

-- the area and the clients behind the layers
abbrev pub AreLast : (List Pt × List ℕ) → Type 0
AreLast = AreBoth IsArea AreClients

abbrev pub last_text : (List Pt × List ℕ) → List ℕ
last_text = both_text area_text smalls_text

last : IsSpelling AreLast last_text
last = both area clients

abbrev pub Fenced : Type 0
Fenced = List ℕ × (List Pt × List ℕ)

abbrev pub make_fence : Fenced → Request
make_fence x = requests.Fence x.0 x.1.0 x.1.1

abbrev pub make_unfence : ℕ → Request
make_unfence n = requests.Unfence n

abbrev pub make_entitle : (ℕ × ℕ) → Request
make_entitle x = requests.Entitle x.0 x.1

pub fence_formed : (ls : List ℕ) (ps : List Pt) (cs : List ℕ) → IsFormedFence ls ps cs → AreBoth AreLayers AreLast (ls, (ps, cs))
fence_formed ls ps cs f = (
  record { enough = f.some_layer; fit = f.layers_fit; formed = f.layers_in },
  (record { enough = omega arith; fit = f.points_fit; formed = f.in_range }, record { enough = omega arith; fit = f.clients_fit; formed = f.clients_in }),
)

fence_made : (q : Request) → IsFormed q → codes "fence" ≡ word_of q → IsMade (AreBoth AreLayers AreLast) make_fence q
fence_made (requests.Fence ls ps cs) f e = record { thing = (ls, (ps, cs)); formed = fence_formed ls ps cs f; is = refl }
fence_made q f e = absurd (omega (arith, third (codes "fence") (word_of q) e))

unfence_made : (q : Request) → IsFormed q → codes "unfence" ≡ word_of q → IsMade IsId make_unfence q
unfence_made (requests.Unfence fence) f e = record { thing = fence; formed = f; is = refl }
unfence_made q f e = absurd (omega (arith, third (codes "unfence") (word_of q) e))

entitle_made : (q : Request) → IsFormed q → codes "entitle" ≡ word_of q → IsMade (AreBoth IsId IsSmall) make_entitle q
entitle_made (requests.Entitle fence client) f e = record { thing = (fence, client); formed = f; is = refl }
entitle_made q f e = absurd (omega (arith, third (codes "entitle") (word_of q) e))

pub fences : IsKind IsFormed request_text (AreBoth AreLayers AreLast) (both_text smalls_text last_text) (codes "fence") make_fence
fences = request_kind (AreBoth AreLayers AreLast) (both_text smalls_text last_text) (codes "fence") make_fence (both layers last) (bytes_without 32 (codes "fence") refl)
    (λ x f. record { some_layer = f.0.enough; layers_fit = f.0.fit; layers_in = f.0.formed; points_fit = f.1.0.fit; in_range = f.1.0.formed; clients_fit = f.1.1.fit; clients_in = f.1.1.formed })
    (λ x. refl)
    fence_made

pub unfences : IsKind IsFormed request_text IsId number_text (codes "unfence") make_unfence
unfences = request_kind IsId number_text (codes "unfence") make_unfence ids (bytes_without 32 (codes "unfence") refl) (λ x f. f) (λ x. refl) unfence_made

pub entitles : IsKind IsFormed request_text (AreBoth IsId IsSmall) (both_text number_text number_text) (codes "entitle") make_entitle
entitles = request_kind (AreBoth IsId IsSmall) (both_text number_text number_text) (codes "entitle") make_entitle (both ids smalls) (bytes_without 32 (codes "entitle") refl) (λ x f. f) (λ x. refl) entitle_made

-- a boundary stops where its layers do
pub fence_at_layers : (line : List ℕ) (left : ℕ) → EndsWord line → StopsAt (Begins (AreCounted 1 layer_limit IsSmall) (counted_text number_text)) line left → StopsAt (λ t. Begins IsFormed next_request_text (codes " fence" ++ t)) line left
fence_at_layers line left ends s = in_kind fences line left ends (stops_at_first layers last line left ends s)

-- or its area
pub fence_at_area : (line ls rest : List ℕ) (left : ℕ) → EndsWord line → CountedThen IsSmall number_text 1 layer_limit line ls rest → StopsAt (Begins (AreCounted 0 256 IsInRange) (counted_text point_text)) rest left → StopsAt (λ t. Begins IsFormed next_request_text (codes " fence" ++ t)) line left
fence_at_area line ls rest left ends a s = in_kind fences line left ends (stops_at_second layers last line ls rest left a (stops_at_first area clients rest left a.ends s))

-- or its clients
pub fence_at_clients : (line ls mid : List ℕ) (ps : List Pt) (rest : List ℕ) (left : ℕ) → EndsWord line → CountedThen IsSmall number_text 1 layer_limit line ls mid → CountedThen IsInRange point_text 0 256 mid ps rest → StopsAt (Begins (AreCounted 0 client_limit IsSmall) (counted_text number_text)) rest left → StopsAt (λ t. Begins IsFormed next_request_text (codes " fence" ++ t)) line left
fence_at_clients line ls mid ps rest left ends a b s = in_kind fences line left ends (stops_at_second layers last line ls mid left a (stops_at_second area clients mid ps rest left b s))

-- the boundary of these layers, points and clients
pub fence_from : (line ls mid : List ℕ) (ps : List Pt) (from cs rest : List ℕ) → CountedThen IsSmall number_text 1 layer_limit line ls mid → CountedThen IsInRange point_text 0 256 mid ps from → CountedThen IsSmall number_text 0 client_limit from cs rest → Then IsFormed next_request_text (codes " fence" ++ line) (requests.Fence ls ps cs) rest
fence_from line ls mid ps from cs rest a b d = kind_then fences line (ls, (ps, cs)) rest (both_then AreLayers AreLast smalls_text last_text line mid rest ls (ps, cs) a (both_then IsArea AreClients area_text smalls_text mid from rest ps cs b d))

pub unfence_stops : (line : List ℕ) (left : ℕ) → EndsWord line → StopsAt (Begins IsId number_text) line left → StopsAt (λ t. Begins IsFormed next_request_text (codes " unfence" ++ t)) line left
unfence_stops line left ends s = in_kind unfences line left ends s

pub unfence_from : (line : List ℕ) (fence : ℕ) (rest : List ℕ) → Then IsId number_text line fence rest → Then IsFormed next_request_text (codes " unfence" ++ line) (requests.Unfence fence) rest
unfence_from line fence rest a = kind_then unfences line fence rest a

-- a client is entitled where the boundary's number and the client's are there
pub entitle_at_fence : (line : List ℕ) (left : ℕ) → EndsWord line → StopsAt (Begins IsId number_text) line left → StopsAt (λ t. Begins IsFormed next_request_text (codes " entitle" ++ t)) line left
entitle_at_fence line left ends s = in_kind entitles line left ends (stops_at_first ids smalls line left ends s)

pub entitle_at_client : (line : List ℕ) (fence : ℕ) (rest : List ℕ) (left : ℕ) → EndsWord line → Then IsId number_text line fence rest → StopsAt (Begins IsSmall number_text) rest left → StopsAt (λ t. Begins IsFormed next_request_text (codes " entitle" ++ t)) line left
entitle_at_client line fence rest left ends a s = in_kind entitles line left ends (stops_at_second ids smalls line fence rest left a s)

pub entitle_from : (line : List ℕ) (fence client : ℕ) (mid rest : List ℕ) → Then IsId number_text line fence mid → Then IsSmall number_text mid client rest → Then IsFormed next_request_text (codes " entitle" ++ line) (requests.Entitle fence client) rest
entitle_from line fence client mid rest a b = kind_then entitles line (fence, client) rest (both_then IsId IsSmall number_text number_text line mid rest fence client a b)
