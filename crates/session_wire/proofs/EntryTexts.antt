-- The lines of entries.
use Rattle.std.proofs.Common.{◌≡◌, ◌≢◌, ℕ, List, [], ◌++◌, length, refl, ap, ◌∙◌, arith}
use Rattle.std.specs.Prelude.{codes}
use Rattle.row_lists.specs.Limits.{client_limit}
use Rattle.board_items.specs.declared.history.Act.{Act}
use Rattle.board_items.specs.declared.history.Entry.{Entry}
use Rattle.board_items.specs.Formed.{IsFormedAct}
use Rattle.session_wire.specs.Words.{IsWord, EndsWord}
use Rattle.session_wire.specs.Numbers.{number_text, IsBetween}
use Rattle.session_wire.specs.Lines.{entry_text}
use Rattle.session_wire.specs.Parts.{Then, Begins, StopsAt}
use Rattle.session_wire.specs.Readings.{Reads, HasLeft}
use Rattle.session_wire.specs.EntryLines.{next_act_text, IsEntry, HasEntry}
use Rattle.session_wire.proofs.WordParts.{word_split, bytes_without}
use Rattle.session_wire.proofs.PointTexts.{betweens}
use Rattle.session_wire.proofs.PlaceLaws.{place_behind, place_first}
use Rattle.session_wire.proofs.Things.{IsSpelling}
use Rattle.session_wire.proofs.Pairs.{AreBoth, both_text, both_then, stops_at_first, stops_at_second, both}
use Rattle.session_wire.proofs.WordKinds.{IsMade, IsKind, same_kind}
use Rattle.session_wire.proofs.Wholes.{IsWhole, stops_in_whole, stops_behind_whole}
use Rattle.session_wire.proofs.ReadingLaws.{in_reading, read_kind}
use Rattle.session_wire.proofs.StepTexts.{IsClient, clients}
use Rattle.session_wire.proofs.ActTexts.{all_acts}

abbrev IsPlace : ℕ → Type 0
IsPlace = IsBetween 1 4294967295

places : IsSpelling IsPlace number_text
places = betweens 1 4294967295 (omega arith) (omega arith)

-- the client and the act behind an entry's number
abbrev IsDone : (ℕ × Act) → Type 0
IsDone = AreBoth IsClient IsFormedAct

abbrev done_text : (ℕ × Act) → List ℕ
done_text = both_text number_text next_act_text

done : IsSpelling IsDone done_text
done = both clients all_acts

abbrev Numbered : Type 0
Numbered = ℕ × (ℕ × Act)

abbrev IsNumbered : Numbered → Type 0
IsNumbered = AreBoth IsPlace IsDone

abbrev numbered_text : Numbered → List ℕ
numbered_text = both_text number_text done_text

abbrev make_entry : Numbered → Entry
make_entry x = record { number = x.0; client = x.1.0; act = x.1.1 }

entry_formed : (e : Entry) → IsEntry e → IsNumbered (e.number, (e.client, e.act))
entry_formed e f = ((f.some_number, omega (arith, f.number_fits)), ((f.some_client, f.client_fits), f.act_formed))

entry_made : (e : Entry) → IsEntry e → IsMade IsNumbered make_entry e
entry_made e f = record { thing = (e.number, (e.client, e.act)); formed = entry_formed e f; is = refl }

numbered : IsSpelling IsNumbered numbered_text
numbered = both places done

entries : IsKind IsEntry entry_text IsNumbered numbered_text (codes "entry") make_entry
entries = record {
  spelling = numbered;
  formed = λ x f. record { some_number = f.0.0; number_fits = omega (arith, f.0.1); some_client = f.1.0.0; client_fits = f.1.0.1; act_formed = f.1.1 };
  spelled = λ x. refl;
  back = λ t e r ends f end is. entry_made e f;
}

in_entry : (line : List ℕ) (left : ℕ) → EndsWord line → StopsAt (IsWhole IsNumbered numbered_text) line left → StopsAt (λ t. HasEntry (codes "entry" ++ t)) line left
in_entry line left ends s = in_reading entries line left ends s

-- an entry stops where its number does
pub entry_at_number : (line : List ℕ) (left : ℕ) → EndsWord line → StopsAt (Begins (IsBetween 1 4294967295) number_text) line left → StopsAt (λ t. HasEntry (codes "entry" ++ t)) line left
entry_at_number line left ends s = in_entry line left ends (stops_in_whole IsNumbered numbered_text line left ends (stops_at_first places done line left ends s))

-- or its client
pub entry_at_client : (line : List ℕ) (number : ℕ) (rest : List ℕ) (left : ℕ) → EndsWord line → Then (IsBetween 1 4294967295) number_text line number rest → StopsAt (Begins (IsBetween 1 client_limit) number_text) rest left → StopsAt (λ t. HasEntry (codes "entry" ++ t)) line left
entry_at_client line number rest left ends a s = in_entry line left ends (stops_in_whole IsNumbered numbered_text line left ends (stops_at_second places done line number rest left a (stops_at_first clients all_acts rest left a.ends s)))

-- or its act
pub entry_at_act : (line : List ℕ) (number : ℕ) (mid : List ℕ) (client : ℕ) (rest : List ℕ) (left : ℕ) → EndsWord line → Then (IsBetween 1 4294967295) number_text line number mid → Then (IsBetween 1 client_limit) number_text mid client rest → StopsAt (Begins IsFormedAct next_act_text) rest left → StopsAt (λ t. HasEntry (codes "entry" ++ t)) line left
entry_at_act line number mid client rest left ends a b s = in_entry line left ends (stops_in_whole IsNumbered numbered_text line left ends (stops_at_second places done line number mid left a (stops_at_second clients all_acts mid client rest left b s)))

numbered_then : (line : List ℕ) (number : ℕ) (mid : List ℕ) (client : ℕ) (from : List ℕ) (act : Act) (rest : List ℕ) → Then IsPlace number_text line number mid → Then IsClient number_text mid client from → Then IsFormedAct next_act_text from act rest → Then IsNumbered numbered_text line (number, (client, act)) rest
numbered_then line number mid client from act rest a b d = both_then IsPlace IsDone number_text done_text line mid rest number (client, act) a (both_then IsClient IsFormedAct number_text next_act_text mid from rest client act b d)

-- or at something behind it
pub entry_at_end : (line : List ℕ) (number : ℕ) (mid : List ℕ) (client : ℕ) (from : List ℕ) (act : Act) (rest : List ℕ) (left : ℕ) → EndsWord line → Then (IsBetween 1 4294967295) number_text line number mid → Then (IsBetween 1 client_limit) number_text mid client from → Then IsFormedAct next_act_text from act rest → StopsAt (λ r. r ≡ []) rest left → StopsAt (λ t. HasEntry (codes "entry" ++ t)) line left
entry_at_end line number mid client from act rest left ends a b d s = in_entry line left ends (stops_behind_whole numbered line (number, (client, act)) rest left (numbered_then line number mid client from act rest a b d) s)

-- the entry of these
pub entry_from : (line : List ℕ) (number : ℕ) (mid : List ℕ) (client : ℕ) (from : List ℕ) (act : Act) (rest : List ℕ) → Then (IsBetween 1 4294967295) number_text line number mid → Then (IsBetween 1 client_limit) number_text mid client from → Then IsFormedAct next_act_text from act rest → rest ≡ [] → Reads IsEntry entry_text (codes "entry" ++ line) (record { number = number; client = client; act = act })
entry_from line number mid client from act rest a b d e = read_kind entries line (number, (client, act)) rest (numbered_then line number mid client from act rest a b d) e

entry_word : IsWord (codes "entry")
entry_word = bytes_without 32 (codes "entry") refl

-- a line whose first word begins no entry
pub bad_entry : (line word rest : List ℕ) → line ≡ word ++ rest → IsWord word → EndsWord rest → word ≢ codes "entry" → HasLeft HasEntry line (length line)
bad_entry line word rest e whole ends differs = place_first HasEntry line word rest e whole ends (λ on.
    let (r, end, (entry, reads)) = on in
    differs (word_split word (codes "entry") r (numbered_text (entry.number, (entry.client, entry.act))) whole entry_word end refl reads.spelled).0)

-- a line stops where what follows its first word does
pub stops_in_entry : (line word rest : List ℕ) (left : ℕ) → line ≡ word ++ rest → word ≡ codes "entry" → StopsAt (λ t. HasEntry (codes "entry" ++ t)) rest left → HasLeft HasEntry line left
stops_in_entry line word rest left e is = place_behind HasEntry line (codes "entry") rest left (e ∙ ap (λ (w : List ℕ). w ++ rest) is)

pub one_entry : (one other : Entry) → IsEntry one → IsEntry other → entry_text one ≡ entry_text other → one ≡ other
one_entry one other f g e = (same_kind entries (one.number, (one.client, one.act)) other [] [] (entry_formed one f) g tt tt (ap (λ (y : List ℕ). y ++ []) e)).0
