-- The adds at the front of a line.
use Rattle.std.proofs.Common.{◌≡◌, ◌≢◌, ℕ, ◌-◌, List, [], ◌∷◌, ◌++◌, length, refl, sym, ◌∙◌, arith}
use Rattle.std.specs.Prelude.{codes}
use Rattle.std.proofs.lemmas.List.{append_cancel_left}
use Rattle.std.proofs.lemmas.Bool.{eqb-false}
use Rattle.board_items.specs.declared.requests.Add.{Add}
use Rattle.board_items.specs.declared.requests.Add.TheVariants as adds
use Rattle.board_items.specs.Formed.{IsFormedAdd}
use Rattle.session_wire.specs.Words.{IsWord, EndsWord}
use Rattle.session_wire.specs.Adds.{next_add_text}
use Rattle.session_wire.specs.Places.{Continues}
use Rattle.session_wire.specs.Parts.{Begins, StopsAt}
use Rattle.session_wire.proofs.WordParts.{word_split}
use Rattle.session_wire.proofs.NumberTexts.{no_cons}
use Rattle.session_wire.proofs.PointTexts.{points}
use Rattle.session_wire.proofs.Stops.{some_thing, behind_word, stops_empty, stops_here, stops_behind}
use Rattle.session_wire.proofs.Things.{IsSpelling}
use Rattle.session_wire.proofs.AddParts.{from_net, from_via, wire_parts, via_parts, wire_no_via, Wires, Vias}
use Rattle.session_wire.proofs.WireTexts.{same_wire}
use Rattle.session_wire.proofs.ViaTexts.{same_via}

abbrev IsAdd : List ℕ → Type 0
IsAdd = Begins IsFormedAdd next_add_text

some_via_formed : IsFormedAdd (adds.Via 0 0 points.sample)
some_via_formed = record { net_fits = omega arith; padstack_fits = omega arith; in_range = points.fits }

some_add : Continues IsAdd []
some_add = some_thing IsFormedAdd next_add_text (adds.Via 0 0 points.sample) some_via_formed refl

no_empty_add : IsAdd [] → ⊥
no_empty_add (adds.Wire net layer width ps, rest, a) = no_cons a.spelled
no_empty_add (adds.Via net padstack place, rest, a) = no_cons a.spelled

-- a line without a word has no add
pub no_add : (line : List ℕ) → line ≡ [] → StopsAt (Begins IsFormedAdd next_add_text) line 0
no_add line e = stops_empty IsAdd line some_add no_empty_add e

tail_is : (a b : ℕ) (x y : List ℕ) → a ∷ x ≡ b ∷ y → x ≡ y
tail_is a b x y e = cc

wire_word : IsWord (codes "wire")
wire_word = (eqb-false 119 32 refl, (eqb-false 105 32 refl, (eqb-false 114 32 refl, (eqb-false 101 32 refl, tt))))

via_word : IsWord (codes "via")
via_word = (eqb-false 118 32 refl, (eqb-false 105 32 refl, (eqb-false 97 32 refl, tt)))

no_add_word : (word : List ℕ) → IsWord word → word ≢ codes "wire" → word ≢ codes "via" → (t : List ℕ) → EndsWord t → IsAdd (32 ∷ (word ++ t)) → ⊥
no_add_word word whole no_wire no_via t end (adds.Wire net layer width ps, r, a) =
    no_wire (word_split word (codes "wire") t (from_net net layer width ps r) whole wire_word end refl (tail_is 32 32 _ _ (a.spelled ∙ wire_parts net layer width ps r))).0
no_add_word word whole no_wire no_via t end (adds.Via net padstack place, r, a) =
    no_via (word_split word (codes "via") t (from_via net padstack place r) whole via_word end refl (tail_is 32 32 _ _ (a.spelled ∙ via_parts net padstack place r))).0

-- a word that begins no add
pub bad_add : (line word rest : List ℕ) → IsWord word → EndsWord rest → line ≡ 32 ∷ (word ++ rest) → word ≢ codes "wire" → word ≢ codes "via" → StopsAt (Begins IsFormedAdd next_add_text) line (length line - 1)
bad_add line word rest whole ends e no_wire no_via = stops_here IsAdd line word rest some_add whole ends e (no_add_word word whole no_wire no_via)

-- an add stops where what follows its word does
pub stops_in_wire : (line word rest : List ℕ) (left : ℕ) → EndsWord rest → line ≡ 32 ∷ (word ++ rest) → word ≡ codes "wire" → StopsAt (λ t. Begins IsFormedAdd next_add_text (codes " wire" ++ t)) rest left → StopsAt (Begins IsFormedAdd next_add_text) line left
stops_in_wire line word rest left ends e is = stops_behind IsAdd Wires line (codes " wire") rest left (behind_word line word rest (codes "wire") e is) ends (λ t end x. x) (λ t end x. x)

pub stops_in_via : (line word rest : List ℕ) (left : ℕ) → EndsWord rest → line ≡ 32 ∷ (word ++ rest) → word ≡ codes "via" → StopsAt (λ t. Begins IsFormedAdd next_add_text (codes " via" ++ t)) rest left → StopsAt (Begins IsFormedAdd next_add_text) line left
stops_in_via line word rest left ends e is = stops_behind IsAdd Vias line (codes " via") rest left (behind_word line word rest (codes "via") e is) ends (λ t end x. x) (λ t end x. x)

same_add : (a b : Add) (r s : List ℕ) → IsFormedAdd a → IsFormedAdd b → EndsWord r → EndsWord s → next_add_text a ++ r ≡ next_add_text b ++ s → (a ≡ b) × (r ≡ s)
same_add (adds.Wire net layer width ps) (adds.Wire net' layer' width' qs) r s f g stop end e = same_wire net net' layer layer' width width' ps qs r s f g stop end (append_cancel_left (codes " wire") _ _ (sym (wire_parts net layer width ps r) ∙ e ∙ wire_parts net' layer' width' qs s))
same_add (adds.Wire net layer width ps) (adds.Via net' padstack place) r s f g stop end e = absurd (wire_no_via _ _ (sym (wire_parts net layer width ps r) ∙ e ∙ via_parts net' padstack place s))
same_add (adds.Via net padstack place) (adds.Wire net' layer width ps) r s f g stop end e = absurd (wire_no_via _ _ (sym (wire_parts net' layer width ps s) ∙ sym e ∙ via_parts net padstack place r))
same_add (adds.Via net padstack p) (adds.Via net' padstack' q) r s f g stop end e = same_via net net' padstack padstack' p q r s f g stop end (append_cancel_left (codes " via") _ _ (sym (via_parts net padstack p r) ∙ e ∙ via_parts net' padstack' q s))

add_first : (add : Add) (r : List ℕ) → EndsWord r → EndsWord (next_add_text add ++ r)
add_first add r end = refl

-- each add has one text
pub all_adds : IsSpelling IsFormedAdd next_add_text
all_adds = record { sample = adds.Via 0 0 points.sample; fits = some_via_formed; first = add_first; same = same_add }
