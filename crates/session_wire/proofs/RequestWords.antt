-- The word of each request, and what follows it.
use Rattle.std.proofs.Common.{◌≡◌, ℕ, ◌<◌, List, ◌++◌, get_or, refl, ap, ◌∙◌, arith, append_assoc}
use Rattle.std.specs.Prelude.{codes}
use Rattle.board_items.specs.declared.requests.Request.{Request}
use Rattle.board_items.specs.declared.requests.Request.TheVariants as requests
use Rattle.board_items.specs.Formed.{IsFormed}
use Rattle.session_wire.specs.Words.{IsWord, EndsWord}
use Rattle.session_wire.specs.Numbers.{number_text}
use Rattle.session_wire.specs.Points.{point_text}
use Rattle.session_wire.specs.Adds.{next_add_text}
use Rattle.session_wire.specs.Requests.{request_text}
use Rattle.session_wire.specs.Parts.{counted_text}
use Rattle.session_wire.proofs.WordParts.{word_split, bytes_without}
use Rattle.session_wire.proofs.Things.{IsSpelling}
use Rattle.session_wire.proofs.WordKinds.{IsMade, IsKind}

abbrev pub word_of : Request → List ℕ
word_of (requests.Edit deletes adds) = codes "edit"
word_of (requests.Reserve id) = codes "reserve"
word_of (requests.Release id) = codes "release"
word_of (requests.Fence layers area clients) = codes "fence"
word_of (requests.Unfence fence) = codes "unfence"
word_of (requests.Entitle fence client) = codes "entitle"
word_of (requests.Rule class clearance) = codes "rule"

abbrev pub tail_of : Request → List ℕ
tail_of (requests.Edit deletes adds) = counted_text number_text deletes ++ counted_text next_add_text adds
tail_of (requests.Reserve id) = number_text id.0
tail_of (requests.Release id) = number_text id.0
tail_of (requests.Fence layers area clients) = counted_text number_text layers ++ (counted_text point_text area ++ counted_text number_text clients)
tail_of (requests.Unfence fence) = number_text fence
tail_of (requests.Entitle fence client) = number_text fence ++ number_text client
tail_of (requests.Rule class clearance) = number_text class ++ number_text clearance

pub parts_of : (q : Request) → request_text q ≡ word_of q ++ tail_of q
parts_of (requests.Edit deletes adds) = refl
parts_of (requests.Reserve id) = refl
parts_of (requests.Release id) = refl
parts_of (requests.Fence layers area clients) = refl
parts_of (requests.Unfence fence) = refl
parts_of (requests.Entitle fence client) = refl
parts_of (requests.Rule class clearance) = refl

tail_first : (q : Request) (r : List ℕ) → EndsWord (tail_of q ++ r)
tail_first (requests.Edit deletes adds) r = refl
tail_first (requests.Reserve id) r = refl
tail_first (requests.Release id) r = refl
tail_first (requests.Fence layers area clients) r = refl
tail_first (requests.Unfence fence) r = refl
tail_first (requests.Entitle fence client) r = refl
tail_first (requests.Rule class clearance) r = refl

word_is : (q : Request) → IsWord (word_of q)
word_is (requests.Edit deletes adds) = bytes_without 32 (codes "edit") refl
word_is (requests.Reserve id) = bytes_without 32 (codes "reserve") refl
word_is (requests.Release id) = bytes_without 32 (codes "release") refl
word_is (requests.Fence layers area clients) = bytes_without 32 (codes "fence") refl
word_is (requests.Unfence fence) = bytes_without 32 (codes "unfence") refl
word_is (requests.Entitle fence client) = bytes_without 32 (codes "entitle") refl
word_is (requests.Rule class clearance) = bytes_without 32 (codes "rule") refl

-- a text that begins with a request begins with its word
pub same_word : (word t : List ℕ) (q : Request) (r : List ℕ) → IsWord word → EndsWord t → word ++ t ≡ request_text q ++ r → word ≡ word_of q
same_word word t q r whole ends e = (word_split word (word_of q) t (tail_of q ++ r) whole (word_is q) ends (tail_first q r) (e ∙ ap (λ (y : List ℕ). y ++ r) (parts_of q) ∙ append_assoc (word_of q) (tail_of q) r)).0

-- the third letters tell the words apart, but for `release` and `rule`, which the second ones do
pub third : (a b : List ℕ) → a ≡ b → get_or a 2 0 ≡ get_or b 2 0
third a b e = ap (λ (w : List ℕ). get_or w 2 0) e

pub second : (a b : List ℕ) → a ≡ b → get_or a 1 0 ≡ get_or b 1 0
second a b e = ap (λ (w : List ℕ). get_or w 1 0) e

-- a word with a low third letter begins no request
pub low_third : (w : List ℕ) → get_or w 2 0 < 102 → (q : Request) → w ≡ word_of q → ⊥
low_third w low (requests.Edit deletes adds) e = absurd (omega (arith, low, third w (codes "edit") e))
low_third w low (requests.Reserve id) e = absurd (omega (arith, low, third w (codes "reserve") e))
low_third w low (requests.Release id) e = absurd (omega (arith, low, third w (codes "release") e))
low_third w low (requests.Fence layers area clients) e = absurd (omega (arith, low, third w (codes "fence") e))
low_third w low (requests.Unfence fence) e = absurd (omega (arith, low, third w (codes "unfence") e))
low_third w low (requests.Entitle fence client) e = absurd (omega (arith, low, third w (codes "entitle") e))
low_third w low (requests.Rule class clearance) e = absurd (omega (arith, low, third w (codes "rule") e))

-- the requests with a word are a kind
pub request_kind : {T : Type 0} (P : T → Type 0) (text : T → List ℕ) (word : List ℕ) (make : T → Request) → IsSpelling P text → IsWord word → ((x : T) → P x → IsFormed (make x)) → ((x : T) → request_text (make x) ≡ word ++ text x)
    → ((q : Request) → IsFormed q → word ≡ word_of q → IsMade P make q) → IsKind IsFormed request_text P text word make
request_kind P text word make spelling whole formed spelled made = record {
  spelling = spelling;
  formed = formed;
  spelled = spelled;
  back = λ t q r ends f end e. made q f (same_word word t q r whole ends e);
}
